-- Digests by their bytes.
use Rattle.std.specs.Prelude.{ℕ, List}
use Rattle.smk_base.specs.declared.sum.Sum.{Sum}

-- the digest of these bytes
abbrev pub digest : List ℕ → Sum
digest bytes = record { 0 = bytes }
