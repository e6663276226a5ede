use Rattle.std.proofs.Common.{◌≡◌, max, take}
use Rattle.std.specs.List.{fold, flat_map}
use Rattle.smk_store.specs.Serials.{unmarked_serials}
use Rattle.smk_store.proofs.serials.greatest_in.Given as goal

abbrev pub invariant-loop-entry : goal.invariant-loop-entry
invariant-loop-entry l = l.greatest ≡ fold max 0 (flat_map unmarked_serials (take l.entry-index l.entries))
