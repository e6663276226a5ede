use Rattle.std.proofs.Common.{◌≡◌, map, take, drop}
use Rattle.smk_job.specs.Jobs.{bare_bytes}
use Rattle.smk_job.specs.Reserves.{first_long}
use Rattle.smk_job.proofs.reserve.bare_all.Given as goal

abbrev pub invariant-loop-path : goal.invariant-loop-path
invariant-loop-path l =
    (l.records ≡ map (bare_bytes l.made l.recipe l.stamps) (take l.path-index l.paths))
    × (first_long l.made l.recipe l.stamps l.paths ≡ first_long l.made l.recipe l.stamps (drop l.path-index l.paths))
