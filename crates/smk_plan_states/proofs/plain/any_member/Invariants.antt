use Rattle.std.proofs.Common.{◌≡◌, drop}
use Rattle.std.specs.List.{list_any}
use Rattle.smk_plan_states.specs.Stays.{is_member}
use Rattle.smk_plan_states.proofs.plain.any_member.Given as goal

abbrev pub invariant-loop-input : goal.invariant-loop-input
invariant-loop-input l = list_any (is_member l.origins) l.inputs ≡ list_any (is_member l.origins) (drop l.input-index l.inputs)
