use Rattle.std.proofs.Common.{◌≡◌, take}
use Rattle.std.specs.List.{flat_map}
use Rattle.smk_chain.specs.Derive.{spots}
use Rattle.smk_chain_derive.proofs.spot.spots_of.Given as goal

abbrev pub invariant-loop-job : goal.invariant-loop-job
invariant-loop-job l = l.found ≡ flat_map spots (take l.job-index l.jobs)
