-- Choices, computed.
use Rattle.std.specs.Prelude.{◌≡◌, ℕ, zero, suc, true, false, List, [], ◌∷◌, codes, Some, None, refl}
use Rattle.smk_base.specs.declared.tree.Pair.{Pair}
use Rattle.smk_world.specs.Trees.{Path, among}
use Rattle.smk_choose.specs.Choose.{Sources, choose, avail, Make, Nothing, Ambiguous, Source, candidate}
use Rattle.smk_flow.proofs.Examples.{ordered, unordered, paired, single, steps}

abbrev these : List Path → Sources
these ps = record { is = among ps; holds = among ps }

abbrev sample : List Pair
sample = record { name = codes "s"; value = codes "a" } ∷ []

abbrev one_read : Sources
one_read = these (codes "r/a_1.fq" ∷ [])

abbrev two_reads : Sources
two_reads = these (codes "r/a_1.fq" ∷ codes "r/a_2.fq" ∷ [])

-- the preferred rule lacks an input
pub chooses_single : choose ordered one_read (codes "m/a.bam") ≡ Make (candidate (1, single) sample)
chooses_single = refl

pub chooses_paired : choose ordered two_reads (codes "m/a.bam") ≡ Make (candidate (0, paired) sample)
chooses_paired = refl

pub chooses_neither : choose unordered two_reads (codes "m/a.bam") ≡ Ambiguous 0 1
chooses_neither = refl

pub chooses_source : choose ordered two_reads (codes "r/a_1.fq") ≡ Source
chooses_source = refl

-- the first candidate and its first want
pub lacks : choose ordered (these []) (codes "m/a.bam") ≡ Nothing (Some (record { rule = 0; wanted = codes "r/a_1.fq" }))
lacks = refl

pub no_rule : choose ordered two_reads (codes "x") ≡ Nothing None
no_rule = refl

-- ## Long chains

abbrev plus : ℕ → Path
plus zero = []
plus (suc n) = 43 ∷ plus n

-- a chain of 199 jobs is available, one of 200 isn't
pub as_long_as_may_be : avail steps (these (codes "f" ∷ [])) 199 (102 ∷ plus 199) ≡ true
as_long_as_may_be = refl

pub too_long : avail steps (these (codes "f" ∷ [])) 199 (102 ∷ plus 200) ≡ false
too_long = refl
