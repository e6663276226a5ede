use Rattle.std.proofs.Common.{◌≡◌, take}
use Rattle.std.specs.List.{flat_map}
use Rattle.smk_store.specs.Sources.{entry_sources}
use Rattle.smk_store.proofs.sources.sources_in.Given as goal

abbrev pub invariant-loop-entry : goal.invariant-loop-entry
invariant-loop-entry l = l.found ≡ flat_map (entry_sources l.p) (take l.entry-index l.entries)
