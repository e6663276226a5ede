use Rattle.std.proofs.Common.{◌∙◌, List, ap, map, sym}
use Rattle.std.specs.List.{list_all}
use Rattle.smk_plan_facts.specs.declared.directories.Directory.{Directory}
use Rattle.smk_plan_facts.specs.Telling.{are_sorted_in, directories_of, is_told_whole}
use Rattle.smk_plan_facts.proofs.Sorted.{all_sorted}
use Rattle.smk_plan_facts.proofs.flags.makers_told.Goals as goal

pub returns : goal.returns
returns g c =
    let store = g.T.Told.known c.args.told.now in
    let sights = g.T.Told.seen c.args.told.now in
    let jobs = c.args.jobs.now.jobs in
    c.in_ok-flags.ensures (
    λ told. all_sorted sights c.as_slice-3.result.now
    (ap (list_all (are_sorted_in sights)) (c.as_slice-3.ensures ∙ sym c.as_slice-2.ensures) ∙ sym c.are_all_sorted-sorted.ensures ∙ told)
    )
    ∙ ap (λ (all : List (List Directory)). map (is_told_whole sights all) c.as_slice-4.result.now)
    (c.as_slice-3.ensures ∙ c.in_ok-directories.ensures ∙ ap (map (directories_of store sights)) c.as_slice.ensures)
    ∙ ap (map (is_told_whole sights (map (directories_of store sights) jobs))) c.as_slice-4.ensures
