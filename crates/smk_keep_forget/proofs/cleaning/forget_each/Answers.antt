use Rattle.std.proofs.Common.{[], ◌+◌, drop, take, refl, ◌∙◌, Err}
use Rattle.std.proofs.lemmas.List.{take_all}
use Rattle.smk_world.specs.Devices.{HasActed, WhereTold}
use Rattle.smk_world.proofs.Devices.{around, next}
use Rattle.smk_keep_lock.specs.Putting.{HasPutSome, IsWholeFor, Put}
use Rattle.smk_keep_lock.proofs.Telling.{put_none, put_nothing}
use Rattle.smk_keep_forget.specs.Answers.{forget_status, is_device, is_output}
use Rattle.smk_keep_forget.specs.Seen.{forgotten_lines, seen}
use Rattle.smk_keep_forget.specs.Turns.{IsStoreBut}
use Rattle.smk_keep_forget.proofs.Going.{Goes, gone_all, gone_cut, handed, so_far_next, so_far_none}
use Rattle.smk_keep_forget.proofs.Lines.{put_some_then}
use Rattle.smk_keep_forget.proofs.Telling.{told_all, told_cut, told_next}
use Rattle.smk_keep_forget.proofs.cleaning.forget_each.Goals as goal

pub loop-i-init : goal.loop-i-init
loop-i-init g c =
    let start = g.W.Files.device c.args.work.now in
    record {
      acted = so_far_none g.W.Files.act start start c.args.store.now c.args.store.now;
      told = λ w at but. put_nothing (g.O.Sink.sunk c.args.out.now) _ refl;
      put = put_none (g.O.Sink.sunk c.args.out.now);
    }

pub forget_turn-requires : goal.forget_turn-requires
forget_turn-requires g c = record { none_runs = c.loop-i.invariant.acted.running ∙ c.requires.none_runs }

pub returns-in_err-forget_turn-clause-acted : goal.returns-in_err-forget_turn-clause-acted
returns-in_err-forget_turn-clause-acted g c =
    let act = g.W.Files.act in
    let ps = c.args.paths.now in
    let i = c.loop-i.i in
    let p = c.index-paths-i.result in
    let fault = c.in_err-forget_turn.field-0.0 in
    let start = g.W.Files.device c.args.work.now in
    let before = g.W.Files.device c.loop-i.work in
    let after = g.W.Files.device c.forget_turn.new.work in
    handed (λ s. HasActed act (Goes c.args.store.now ps s) start after (is_device s)) c.from_residual.result fault c.from_residual.ensures.1
    (gone_cut act start before c.args.store.now c.loop-i.store after ps (take i ps) (drop (i + 1) ps) p c.forget_turn.new.store fault (is_device {T = Unit {0}} (Err fault)) (around ps i p c.loop-i-test.true c.index-paths-i.is)
    c.loop-i.invariant.acted c.in_err-forget_turn.ensures.acted)

pub returns-in_err-forget_turn-clause-told : goal.returns-in_err-forget_turn-clause-told
returns-in_err-forget_turn-clause-told g c =
    let ps = c.args.paths.now in
    let i = c.loop-i.i in
    let p = c.index-paths-i.result in
    let fault = c.in_err-forget_turn.field-0.0 in
    let start = g.W.Files.device c.args.work.now in
    let before = g.W.Files.device c.loop-i.work in
    let first = g.O.Sink.sunk c.args.out.now in
    let middle = g.O.Sink.sunk c.loop-i.out in
    let last = g.O.Sink.sunk c.forget_turn.new.out in
    handed (λ s. WhereTold start (λ w. IsStoreBut [] w c.args.store.now → Put first last (IsWholeFor (forget_status s) (forgotten_lines (seen w) [] ps)))) c.from_residual.result fault c.from_residual.ensures.1
    (told_cut g.W.Files.act start before c.args.store.now c.loop-i.store ps (take i ps) (drop (i + 1) ps) p fault first middle last (around ps i p c.loop-i-test.true c.index-paths-i.is) c.loop-i.invariant.acted
    c.loop-i.invariant.told c.in_err-forget_turn.ensures.told)

pub returns-in_err-forget_turn-clause-put : goal.returns-in_err-forget_turn-clause-put
returns-in_err-forget_turn-clause-put g c =
    let first = g.O.Sink.sunk c.args.out.now in
    let middle = g.O.Sink.sunk c.loop-i.out in
    let last = g.O.Sink.sunk c.forget_turn.new.out in
    let fault = c.in_err-forget_turn.field-0.0 in
    handed (λ s. HasPutSome (is_output s) first last) c.from_residual.result fault c.from_residual.ensures.1
    (put_some_then first middle last (is_output {T = Unit {0}} (Err fault)) c.loop-i.invariant.put c.in_err-forget_turn.ensures.put)

pub loop-i-preserved : goal.loop-i-preserved
loop-i-preserved g c =
    let act = g.W.Files.act in
    let ps = c.args.paths.now in
    let i = c.loop-i.i in
    let p = c.index-paths-i.result in
    let more = next ps i p c.loop-i-test.true c.index-paths-i.is in
    let start = g.W.Files.device c.args.work.now in
    let before = g.W.Files.device c.loop-i.work in
    let after = g.W.Files.device c.forget_turn.new.work in
    let first = g.O.Sink.sunk c.args.out.now in
    let middle = g.O.Sink.sunk c.loop-i.out in
    let last = g.O.Sink.sunk c.forget_turn.new.out in
    record {
      acted = so_far_next act start before c.args.store.now c.loop-i.store after (take i ps) (take (i + 1) ps) p c.forget_turn.new.store more c.loop-i.invariant.acted c.in_ok-forget_turn.ensures.acted;
      told = told_next act start before c.args.store.now c.loop-i.store (take i ps) (take (i + 1) ps) p first middle last more c.loop-i.invariant.acted c.loop-i.invariant.told c.in_ok-forget_turn.ensures.told;
      put = put_some_then first middle last _ c.loop-i.invariant.put c.in_ok-forget_turn.ensures.put;
    }

pub returns-clause-acted : goal.returns-clause-acted
returns-clause-acted g c =
    let ps = c.args.paths.now in
    gone_all g.W.Files.act (g.W.Files.device c.args.work.now) (g.W.Files.device c.loop-i.work) c.args.store.now c.loop-i.store ps (take c.loop-i.i ps) (take_all c.loop-i.i ps c.loop-i-test.false) c.loop-i.invariant.acted

pub returns-clause-told : goal.returns-clause-told
returns-clause-told g c =
    let ps = c.args.paths.now in
    told_all (g.W.Files.device c.args.work.now) c.args.store.now ps (take c.loop-i.i ps) (g.O.Sink.sunk c.args.out.now) (g.O.Sink.sunk c.loop-i.out) (take_all c.loop-i.i ps c.loop-i-test.false) c.loop-i.invariant.told
