use Rattle.std.proofs.Common.{◌≡◌, take, map}
use Rattle.smk_pattern.specs.Pieces.{wildcards_of}
use Rattle.smk_pattern.proofs.fitting.testers.Given as goal

abbrev pub invariant-loop-wildcard : goal.invariant-loop-wildcard
invariant-loop-wildcard l = l.made.items ≡ map (λ w. w.limit) (wildcards_of (take l.wildcard-index l.wildcards))
