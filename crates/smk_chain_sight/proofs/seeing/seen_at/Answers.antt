use Rattle.std.proofs.Common.{ap, sym, ◌∙◌}
use Rattle.std.specs.BTreeMap.{get_by_text}
use Rattle.smk_chain_sight.proofs.Noted.{noted, sighted_again}
use Rattle.smk_chain_sight.proofs.seeing.seen_at.Goals as goal

pub returns-in-Some-clause-told : goal.returns-in-Some-clause-told
returns-in-Some-clause-told g c = λ w at image v known.
    (sighted_again image c.args.path.now c.in-Some.known.now (known c.args.path.now c.in-Some.known.now (ap (get_by_text c.args.seen.now) (sym c.text_of-text.ensures.same) ∙ sym c.in-Some.ensures.value)), known)

pub returns-in_ok-note-in-None-clause-told : goal.returns-in_ok-note-in-None-clause-told
returns-in_ok-note-in-None-clause-told g c = λ w at image v known.
    let s = c.in_ok-found-in-None.ensures.told w at image v c.text_of-text.ensures.text in
    (s, noted image c.args.seen.now c.note.new.seen c.args.path.now c.text_of-text.result.now c.in_ok-found-in-None.found c.in_ok-note-in-None.ensures c.text_of-text.ensures.same s known)
