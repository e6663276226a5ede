-- The serials of a job's record are at most the greatest one.
use Rattle.std.proofs.Common.{◌≡◌, ◌≤◌, ℕ, suc, List, [], ◌∷◌, zip, length, sym, subst, inl, inr, arith}
use Rattle.std.specs.Prelude.{flat_map}
use Rattle.smk_record.specs.declared.record.Stamp.{Stamp}
use Rattle.smk_record.specs.declared.record.Stamp.TheVariants.{Time, Sum, Made}
use Rattle.smk_world.specs.Trees.{Path, IsIn}
use Rattle.smk_world.specs.World.{in_paths}
use Rattle.smk_record.specs.Records.{serials, serial_in}
use Rattle.smk_store.specs.Soundness.{Outside}
use Rattle.smk_laws_protocol.specs.Protocol.{OpenJob, record_of}
use Rattle.smk_laws_protocol.proofs.Between.{IsNumbered}

-- a number of stamps is that of a product, with its path
pub number_of : (ps : List Path) (ss : List Stamp) (n : ℕ) → length ss ≡ length ps → IsIn (flat_map serial_in ss) n → (q : Path) × IsIn (zip ps ss) (q, Made n)
number_of ps [] n h i = absurd i
number_of [] (s ∷ ss) n h i = absurd (no (length ss) h)
  where
    no : (m : ℕ) → suc m ≡ 0 → ⊥
    no m h = grind arith
number_of (p ∷ ps) (Time t ∷ ss) n h i = let r = number_of ps ss n (down (length ss) (length ps) h) i in (r.0, inr r.1)
  where
    down : (a b : ℕ) → suc a ≡ suc b → a ≡ b
    down a b h = grind arith
number_of (p ∷ ps) (Sum t d ∷ ss) n h i = let r = number_of ps ss n (down (length ss) (length ps) h) i in (r.0, inr r.1)
  where
    down : (a b : ℕ) → suc a ≡ suc b → a ≡ b
    down a b h = grind arith
number_of (p ∷ ps) (Made m ∷ ss) n h (inl e) = (p, inl (λ i. (p, Made (e i))))
number_of (p ∷ ps) (Made m ∷ ss) n h (inr i) = let r = number_of ps ss n (down (length ss) (length ps) h) i in (r.0, inr r.1)
  where
    down : (a b : ℕ) → suc a ≡ suc b → a ≡ b
    down a b h = grind arith

-- and the other way round
pub numbered_in : (ps : List Path) (ss : List Stamp) (q : Path) (n : ℕ) → IsIn (zip ps ss) (q, Made n) → IsIn (flat_map serial_in ss) n
numbered_in [] ss q n i = absurd i
numbered_in (p ∷ ps) [] q n i = absurd i
numbered_in (p ∷ ps) (Time t ∷ ss) q n (inl e) = absurd (no (λ i. (e i).1))
  where
    no : Made n ≡ Time t → ⊥
    no h = grind arith
numbered_in (p ∷ ps) (Time t ∷ ss) q n (inr i) = numbered_in ps ss q n i
numbered_in (p ∷ ps) (Sum t d ∷ ss) q n (inl e) = absurd (no (λ i. (e i).1))
  where
    no : Made n ≡ Sum t d → ⊥
    no h = grind arith
numbered_in (p ∷ ps) (Sum t d ∷ ss) q n (inr i) = numbered_in ps ss q n i
numbered_in (p ∷ ps) (Made m ∷ ss) q n (inl e) = inl (same (λ i. (e i).1))
  where
    same : Made n ≡ Made m → n ≡ m
    same h = cc
numbered_in (p ∷ ps) (Made m ∷ ss) q n (inr i) = inr (numbered_in ps ss q n i)

pub record_numbers : (o : Outside) (top : ℕ) (j : OpenJob) → length j.stamps ≡ length (in_paths j.recipe) → IsNumbered o top j → (p : Path) (n : ℕ) → IsIn (serials (record_of j p)) n → n ≤ top
record_numbers o top j stamped numbered p n (inl e) = subst (λ m. m ≤ top) (sym e) numbered.0
record_numbers o top j stamped numbered p n (inr i) = let r = number_of (in_paths j.recipe) j.stamps n stamped i in numbered.1 r.0 n r.1
