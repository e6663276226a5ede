use Rattle.std.proofs.Common.{◌≡◌, take, map}
use Rattle.smk_pattern.specs.Pieces.{wildcards_of}
use Rattle.smk_pattern.specs.Searching.{now_of}
use Rattle.smk_pattern.specs.ByName.{text_at}
use Rattle.smk_pattern.specs.Written.{wildcard_by, AreAllLimits}
use Rattle.smk_pattern.proofs.reading.wildcards_in.Given as goal

abbrev pub invariant-loop-name : goal.invariant-loop-name
invariant-loop-name l = record {
  made : wildcards_of l.made ≡ map (wildcard_by (text_at l.limits)) (now_of (take l.name-index l.names));
  read : AreAllLimits (text_at l.limits) (now_of (take l.name-index l.names));
}
