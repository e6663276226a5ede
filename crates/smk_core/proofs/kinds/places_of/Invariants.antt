use Rattle.std.proofs.Common.{◌≡◌, length}
use Rattle.smk_core.specs.Lines.{ArePlaced}
use Rattle.smk_core.proofs.kinds.places_of.Given as goal

abbrev pub invariant-loop-job : goal.invariant-loop-job
invariant-loop-job l = ArePlaced l.asks l.kinds.items l.places.items × (length l.places.items ≡ l.job)
