use Rattle.std.proofs.Common.{◌≡◌, take}
use Rattle.smk_run.specs.Digesting.{sources_among}
use Rattle.smk_run.specs.Stamps.{number_at}
use Rattle.smk_run.proofs.summing.sources_among.Given as goal

abbrev pub invariant-loop-path : goal.invariant-loop-path
invariant-loop-path l = l.found ≡ sources_among (number_at l.serials) (take l.path-index l.paths)
