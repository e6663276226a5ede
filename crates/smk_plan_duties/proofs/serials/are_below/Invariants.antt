use Rattle.std.proofs.Common.{◌≡◌, drop}
use Rattle.std.specs.List.{list_all}
use Rattle.smk_plan_duties.specs.Numbers.{is_input_at}
use Rattle.smk_plan_duties.proofs.serials.are_below.Given as goal

abbrev pub invariant-loop-path : goal.invariant-loop-path
invariant-loop-path l = list_all (is_input_at l.numbers l.duties l.made) l.paths ≡ list_all (is_input_at l.numbers l.duties l.made) (drop l.path-index l.paths)
