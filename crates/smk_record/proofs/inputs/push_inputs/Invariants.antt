use Rattle.std.proofs.Common.{◌≡◌, ◌++◌, drop, string_bytes}
use Rattle.smk_record.specs.Spelling.{items}
use Rattle.smk_record.proofs.inputs.push_inputs.Given as goal

abbrev pub invariant-loop-item : goal.invariant-loop-item
invariant-loop-item l = string_bytes l.text ++ items (drop l.item-index l.inputs) l.rest ≡ string_bytes l.initial.text ++ items l.inputs l.stamps
