use Rattle.std.proofs.Common.{List, ap, ◌∙◌, map, length}
use Rattle.smk_world.specs.Trees.{Path}
use Rattle.smk_plan_states.specs.Judged.{Judging, with_states}
use Rattle.smk_plan_table.specs.Parts.{current_in, listing_in}
use Rattle.smk_plan_table.proofs.Told.{current_length}
use Rattle.smk_plan_table.proofs.Assembled.{current_same, known_same}
use Rattle.smk_plan_table.proofs.planning.tell.Goals as goal

pub returns-clause-targets : goal.returns-clause-targets
returns-clause-targets g c =
    ap length c.in_ok-are_current.ensures
    ∙ current_length (g.T.Told.known c.args.told.now) (g.T.Told.seen c.args.told.now) c.as_slice.result.now c.targets.result.now c.as_slice-2.result.now
    ∙ ap length c.as_slice.ensures

pub returns-clause-current : goal.returns-clause-current
returns-clause-current g c = λ jobs image progress agree table right states ranked each.
    let store = g.T.Told.known c.args.told.now in
    let seen = g.T.Told.seen c.args.told.now in
    let at : Judging = record { image = image; settings = c.args.settings.now; progress = progress } in
    current_same image c.args.settings.now progress jobs store seen agree (with_states jobs states)
    c.in_ok-ready.ready c.in_ok-are_current.are_current c.targets.result.now
    (c.in_ok-ready.ensures at jobs states table right (c.ranks.ensures ∙ ranked) each)
    (c.targets.ensures ∙ table.told.targets)
    (c.in_ok-are_current.ensures
    ∙ ap (λ (ts : List Path). current_in store seen ts c.targets.result.now c.as_slice-2.result.now) c.as_slice.ensures
    ∙ ap (current_in store seen c.args.settings.now.targets c.targets.result.now) c.as_slice-2.ensures)

pub returns-clause-known : goal.returns-clause-known
returns-clause-known g c = λ jobs image progress agree table right states ranked each.
    let store = g.T.Told.known c.args.told.now in
    let at : Judging = record { image = image; settings = c.args.settings.now; progress = progress } in
    known_same image c.args.settings.now progress jobs store (g.T.Told.seen c.args.told.now) agree (with_states jobs states)
    c.in_ok-folders.folders c.in_ok-known.known
    (c.in_ok-folders.ensures at jobs states table right (c.ranks-2.ensures ∙ ranked) each)
    (c.in_ok-known.ensures ∙ ap (map (listing_in store)) c.as_slice-3.ensures)
