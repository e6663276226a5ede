use Rattle.std.proofs.Common.{◌≡◌, drop}
use Rattle.std.specs.List.{list_all}
use Rattle.smk_plan_facts.specs.Telling.{are_sorted_in}
use Rattle.smk_plan_facts.proofs.rising.are_all_sorted.Given as goal

abbrev pub invariant-loop-own : goal.invariant-loop-own
invariant-loop-own g l =
    list_all (are_sorted_in (g.T.Told.seen l.told)) l.directories ≡ list_all (are_sorted_in (g.T.Told.seen l.told)) (drop l.own-index l.directories)
