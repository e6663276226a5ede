use Rattle.std.proofs.Common.{◌≡◌, take, drop}
use Rattle.smk_pattern.specs.Pieces.{wildcards_of}
use Rattle.smk_pattern.specs.Searching.{now_of}
use Rattle.smk_pattern.specs.Filling.{values_of, first_unknown}
use Rattle.smk_pattern.proofs.filling.values_in.Given as goal

abbrev pub invariant-loop-wildcard : goal.invariant-loop-wildcard
invariant-loop-wildcard l = record {
  values : now_of l.values.items ≡ values_of l.binding (wildcards_of (take l.wildcard-index l.wildcards));
  unknown : first_unknown l.binding (wildcards_of l.wildcards) ≡ first_unknown l.binding (wildcards_of (drop l.wildcard-index l.wildcards));
}
