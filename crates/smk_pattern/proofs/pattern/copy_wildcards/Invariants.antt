use Rattle.std.proofs.Common.{◌≡◌, take}
use Rattle.smk_pattern.specs.Pieces.{wildcards_of}
use Rattle.smk_pattern.proofs.pattern.copy_wildcards.Given as goal

abbrev pub invariant-loop-wildcard : goal.invariant-loop-wildcard
invariant-loop-wildcard l = wildcards_of l.made ≡ wildcards_of (take l.wildcard-index l.wildcards)
