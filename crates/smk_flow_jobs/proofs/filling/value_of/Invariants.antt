use Rattle.std.proofs.Common.{◌≡◌, drop}
use Rattle.smk_pattern.specs.Reading.{value, or_empty}
use Rattle.smk_flow_jobs.proofs.filling.value_of.Given as goal

abbrev pub invariant-loop-pair : goal.invariant-loop-pair
invariant-loop-pair l = or_empty (value l.binding l.name) ≡ or_empty (value (drop l.pair-index l.binding) l.name)
