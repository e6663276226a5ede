use Rattle.std.proofs.Common.{refl, sym, ap, subst, inr, ◌∙◌, Err}
use Rattle.std.specs.Prelude.{map, string_bytes}
use Rattle.smk_world.proofs.Devices.{looked_as, looked_nothing}
use Rattle.smk_words_reading.proofs.Whole.{one_asked}
use Rattle.smk_cli_calls.proofs.Ended.{early}
use Rattle.smk_cli_calls.specs.Words.{is_to_make}
use Rattle.smk_cli_calls.specs.Whole.{Serves}
use Rattle.smk_cli_calls.specs.Keys.{Keeps, NoMemory}
use Rattle.smk_cli.proofs.ServingOf.{stopped}
use Rattle.smk_cli.proofs.Words.{built_unrefused, early_calm, early_quiet, early_refusal, early_want}
use Rattle.smk_cli.proofs.top.serve.Goals as goal

pub returns-in-Err-clause-ended : goal.returns-in-Err-clause-ended
returns-in-Err-clause-ended g c =
    let words = map string_bytes c.args.words.now in
    let f = c.in-Err.fault in
    (early f _ (looked_as (sym (early_calm words f c.in-Err.ensures.refused)) (looked_nothing g.W.Files.act _)) c.requires.none_runs (early_quiet words f c.in-Err.ensures.refused)).ends

pub returns-in-Err-clause-unread : goal.returns-in-Err-clause-unread
returns-in-Err-clause-unread g c = λ f refused. (early_refusal (map string_bytes c.args.words.now) f c.in-Err.fault c.in-Err.ensures.refused refused, refl, refl)

pub returns-in-Err-clause-serves : goal.returns-in-Err-clause-serves
returns-in-Err-clause-serves g c = λ request asked built makes w at read reads.
    let words = map string_bytes c.args.words.now in
    let f = c.in-Err.fault in
    let early_is = c.in-Err.ensures.refused in
    stopped g.W.Files.act read w f request _ _ makes (inr (early_want words f request asked built early_is)) (early_calm words f early_is)

pub returns-in-Err-clause-keeps : goal.returns-in-Err-clause-keeps
returns-in-Err-clause-keeps g c = λ request asked built kept w at.
    NoMemory request (ap (λ f. Err f) (early_want (map string_bytes c.args.words.now) c.in-Err.fault request asked built c.in-Err.ensures.refused)) refl refl

pub returns-in-Ok-clause-unread : goal.returns-in-Ok-clause-unread
returns-in-Ok-clause-unread g c = λ f refused. absurd (built_unrefused (map string_bytes c.args.words.now) f c.in-Ok.request c.in-Ok.ensures.ok.0 c.in-Ok.ensures.ok.1 refused)

pub returns-in-Ok-clause-serves : goal.returns-in-Ok-clause-serves
returns-in-Ok-clause-serves g c = λ request asked built makes w at read reads.
    let same = one_asked (map string_bytes c.args.words.now) c.in-Ok.request request c.in-Ok.ensures.ok.0 asked in
    subst
    (λ r. Serves g.W.Files.act read w c.serve_request.result (g.W.Files.device c.args.work.now) (g.W.Files.device c.serve_request.new.work) (g.O.Sink.sunk c.args.out.now) (g.O.Sink.sunk c.serve_request.new.out) r)
    same (c.serve_request.ensures.serves (ap is_to_make same ∙ makes) w at read reads)

pub returns-in-Ok-clause-keeps : goal.returns-in-Ok-clause-keeps
returns-in-Ok-clause-keeps g c = λ request asked built kept w at.
    let same = one_asked (map string_bytes c.args.words.now) c.in-Ok.request request c.in-Ok.ensures.ok.0 asked in
    subst
    (λ r. Keeps g.W.Files.act c.serve_request.result (g.W.Files.device c.args.work.now) (g.W.Files.device c.serve_request.new.work) (g.O.Sink.sunk c.args.out.now) (g.O.Sink.sunk c.serve_request.new.out) w r)
    same (c.serve_request.ensures.keeps c.in-Ok.ensures.ok.1 (ap is_to_make same ∙ kept) w at)
