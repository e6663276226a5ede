use Rattle.std.proofs.Common.{◌∙◌, List, ap, length, sym, take}
use Rattle.std.specs.List.{flat_map}
use Rattle.smk_world.specs.declared.recipe.OutItem.{OutItem}
use Rattle.smk_chain.specs.declared.jobs.Maker.{Maker}
use Rattle.smk_plan_facts.specs.declared.directories.Directory.{Directory}
use Rattle.smk_plan_facts.specs.Telling.{are_sorted_in, directory_at, flags_but, flags_each, is_made_in}
use Rattle.smk_plan_facts.proofs.Again.{each_told}
use Rattle.smk_plan_facts.proofs.Sorted.{each_sorted}
use Rattle.smk_plan_facts.proofs.flags.makers_again.Goals as goal

pub tell_each-requires : goal.tell_each-requires
tell_each-requires g c = λ told.
    let sights = g.T.Told.seen c.args.told.now in
    each_sorted sights c.as_slice-3.result.now
    (ap (are_sorted_in sights) (c.as_slice-3.ensures ∙ sym c.as_slice-2.ensures) ∙ sym c.are_sorted-sorted.ensures ∙ told)

pub returns : goal.returns
returns g c =
    let store = g.T.Told.known c.args.told.now in
    let sights = g.T.Told.seen c.args.told.now in
    let n = c.args.number in
    let makers = c.args.makers.now in
    let numbers = c.args.numbers.now in
    let fresh = λ (own : List Directory) (m : Maker). is_made_in sights m.path own in
    c.tell_each.ensures
    ∙ ap (flags_each (fresh c.as_slice-3.result.now) n makers numbers) (c.truncate.ensures.items ∙ ap (take (length makers)) c.in_ok-found.ensures.items)
    ∙ each_told (fresh c.as_slice-3.result.now) n makers numbers c.args.flags.now c.requires
    ∙ ap (λ (own : List Directory). flags_but (fresh own) n makers c.args.flags.now)
    (c.as_slice-3.ensures ∙ c.in_ok-directories.ensures
    ∙ ap (flat_map (λ (item : OutItem). flat_map (directory_at store sights) item.outs)) c.as_slice.ensures)
