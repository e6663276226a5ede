-- One open job and the others.
use Rattle.std.proofs.Common.{◌≡◌, inl, inr, false, List, [], ◌∷◌, ◌++◌, refl, sym, ap, subst}
use Rattle.std.specs.List.{list_any}
use Rattle.smk_base.specs.Path.{overlaps}
use Rattle.smk_world.specs.World.{in_paths}
use Rattle.smk_world.specs.Calls.{any_overlap}
use Rattle.smk_world.specs.Trees.{Path, IsIn}
use Rattle.smk_safe.proofs.Disjoint.{flipped}
use Rattle.smk_laws_protocol.specs.Protocol.{OpenJob, own}
use Rattle.smk_laws_protocol.specs.Midway.{AllStrangers, AreStrangers, RunsApart}
use Rattle.smk_laws_protocol.proofs.Basics.{each_in, none_by, none_of}

-- what is in a list parts it
pub parted : {A : Type 0} (xs : List A) (x : A) → IsIn xs x → (js : List A) × (ks : List A) × (xs ≡ js ++ x ∷ ks)
parted [] x i = absurd i
parted (y ∷ xs) x (inl e) = ([], xs, ap (λ z. z ∷ xs) (sym e))
parted (y ∷ xs) x (inr i) = let p = parted xs x i in (y ∷ p.0, p.1, ap (λ l. y ∷ l) p.2)

-- these don't overlap one of those
none_over : (ps qs : List Path) (p q : Path) → any_overlap ps qs ≡ false → IsIn ps p → IsIn qs q → overlaps p q ≡ false
none_over ps qs p q h i k = none_of (overlaps p) qs q (none_of (λ (x : Path). list_any (overlaps x) qs) ps p h i) k

pub overlap_flipped : (ps qs : List Path) → any_overlap ps qs ≡ false → any_overlap qs ps ≡ false
overlap_flipped ps qs h =
    none_by (λ (q : Path). list_any (overlaps q) ps) qs
    (λ q k. none_by (overlaps q) ps (λ p i. flipped p q (none_over ps qs p q h i k)))

-- Nothing of the one job overlaps what the other owns or reads, and the two have no child in common.
pub record IsAside (j k : OpenJob) : Type 0 where
  pub own_apart : any_overlap (own j) (own k) ≡ false
  pub not_read : any_overlap (own j) (in_paths k.recipe) ≡ false
  pub reads_not : any_overlap (own k) (in_paths j.recipe) ≡ false
  pub numbers : RunsApart j k

from_first : (j k : OpenJob) → AreStrangers j k → IsAside j k
from_first j k h =
    record {
      own_apart = h.0.own_apart;
      not_read = h.0.not_read;
      reads_not = overlap_flipped (in_paths j.recipe) (own k) h.0.reads_not;
      numbers = h.3;
    }

from_second : (j k : OpenJob) → AreStrangers k j → IsAside j k
from_second j k h =
    record {
      own_apart = overlap_flipped (own k) (own j) h.0.own_apart;
      not_read = overlap_flipped (in_paths k.recipe) (own j) h.0.reads_not;
      reads_not = h.0.not_read;
      numbers = λ n a b. h.3 n b a;
    }

pub aside : (js ks : List OpenJob) (j k : OpenJob) → AllStrangers (js ++ j ∷ ks) → IsIn (js ++ ks) k → IsAside j k
aside [] ks j k h i = from_first j k (each_in (AreStrangers j) ks k h.0 i)
aside (x ∷ js) ks j k h (inl e) =
    subst (IsAside j) (sym e) (from_second j x (each_in (AreStrangers x) (js ++ j ∷ ks) j h.0 (here js)))
  where
    here : (js : List OpenJob) → IsIn (js ++ j ∷ ks) j
    here [] = inl refl
    here (y ∷ js) = inr (here js)
aside (x ∷ js) ks j k h (inr i) = aside js ks j k h.1 i
