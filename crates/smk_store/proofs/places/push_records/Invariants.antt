use Rattle.std.proofs.Common.{◌≡◌, ◌++◌, map, take}
use Rattle.smk_base.specs.Place.{record_place}
use Rattle.smk_store.proofs.places.push_records.Given as goal

abbrev pub invariant-loop-path : goal.invariant-loop-path
invariant-loop-path l = l.places ≡ l.initial.places ++ map record_place (take l.path-index l.paths)
