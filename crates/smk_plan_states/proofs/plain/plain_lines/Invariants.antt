use Rattle.std.proofs.Common.{◌≡◌, take, map}
use Rattle.smk_plan_states.specs.Stays.{is_plain}
use Rattle.smk_plan_states.proofs.plain.plain_lines.Given as goal

abbrev pub invariant-loop-line : goal.invariant-loop-line
invariant-loop-line l = l.flags.items ≡ map (is_plain l.origins) (take l.line-index l.lines)
