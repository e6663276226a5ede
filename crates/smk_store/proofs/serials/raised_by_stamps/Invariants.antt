use Rattle.std.proofs.Common.{◌≡◌, max, take}
use Rattle.std.specs.List.{fold, flat_map}
use Rattle.smk_record.specs.Records.{serial_in}
use Rattle.smk_store.proofs.serials.raised_by_stamps.Given as goal

abbrev pub invariant-loop-stamp : goal.invariant-loop-stamp
invariant-loop-stamp l = l.raised ≡ fold max l.greatest (flat_map serial_in (take l.stamp-index l.stamps))
