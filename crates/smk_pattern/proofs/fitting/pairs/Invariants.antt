use Rattle.std.proofs.Common.{◌≡◌, take}
use Rattle.smk_pattern.specs.Pieces.{wildcards_of}
use Rattle.smk_pattern.specs.Fitting.{bound_pairs}
use Rattle.smk_pattern.specs.Searching.{now_of}
use Rattle.smk_pattern.proofs.fitting.pairs.Given as goal

abbrev pub invariant-loop-index : goal.invariant-loop-index
invariant-loop-index l = l.made ≡ bound_pairs (wildcards_of (take l.index l.wildcards)) (now_of (take l.index l.values))
