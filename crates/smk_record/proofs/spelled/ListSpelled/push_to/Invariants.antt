use Rattle.std.proofs.Common.{◌≡◌, ◌++◌, string_bytes, take}
use Rattle.std.specs.List.{flat_map}
use Rattle.smk_record.proofs.spelled.ListSpelled.push_to.Given as goal

abbrev pub invariant-loop-value : goal.invariant-loop-value
invariant-loop-value g l = string_bytes l.text ≡ string_bytes l.initial.text ++ flat_map g.T.Spelled.spells (take l.value-index l.value-items)
