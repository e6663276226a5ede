-- The open jobs of a state: apart in pairs, also where one is taken out or changes its phase, and where those that run are kept.
use Rattle.std.proofs.Common.{◌≡◌, ◌⊎◌, ℕ, Bool, true, false, List, [], ◌∷◌, ◌++◌, refl, sym, subst, inl, inr}
use Rattle.std.specs.Prelude.{filter, if◌then◌else◌}
use Rattle.std.specs.List.{list_any}
use Rattle.smk_record.specs.declared.record.Record.{Record}
use Rattle.smk_world.specs.Trees.{Path, IsIn}
use Rattle.smk_base.specs.Path.{overlaps}
use Rattle.smk_laws_protocol.specs.Protocol.{Phase, Running, OpenJob, own, outputs, keeps, IsEased, eased_by}
use Rattle.smk_world.specs.World.{in_paths, World}
use Rattle.smk_store.specs.Trust.{Eased}
use Rattle.smk_store.specs.Soundness.{Outside}
use Rattle.smk_laws_protocol.proofs.Between.{Fits, AreApart, Pairwise}
use Rattle.smk_laws_protocol.proofs.Basics.{each_in, each_of, in_split, in_filter, clash}
use Rattle.smk_laws_protocol.proofs.Apart.{any_swap, free_of, free_to}
use Rattle.smk_laws_protocol.proofs.Phases.{IsOther}
use Rattle.smk_laws_protocol.proofs.Stays.{Meets, in_left}
use Rattle.smk_laws_protocol.proofs.Texts.{OverlapLaws}

-- the job in another phase
abbrev pub at_phase : OpenJob → Phase → OpenJob
at_phase j phase = record j { phase = phase }

module _ (o : Outside) (laws : OverlapLaws) where
  pub apart_swap : (j k : OpenJob) → AreApart o j k → AreApart o k j
  apart_swap j k h =
      ((any_swap laws (own j) (own k) h.0.0, any_swap laws (in_paths j.recipe) (own k) h.0.2, any_swap laws (own j) (in_paths k.recipe) h.0.1), h.2, h.1, λ n a b. h.3 n b a)

  pub meets_other : (j k : OpenJob) → AreApart o j k → Meets j k
  meets_other j k h =
      record {
        clash = λ q i over. clash (list_any (overlaps q) (own k)) over (free_of (own j) (own k) q h.0.0 (in_left (outputs j) j.logs q i));
        unnamed = λ new x i. (h.1 new).1 x i;
        unused = λ new same q i. absurd ((h.1 new).0 same);
        inputs = λ q i. free_to laws (own j) (in_paths k.recipe) q h.0.1 i;
      }

  pub is_other : (j k : OpenJob) → AreApart o j k → IsOther j k
  is_other j k h =
      record {
        own_free = λ q i. free_to laws (own j) (own k) q h.0.0 i;
        inputs_free = λ q i. free_to laws (own j) (in_paths k.recipe) q h.0.1 i;
      }

  pub meets_self : (entry : World) (e : Eased) (top : ℕ) (w : World) (j : OpenJob) → Fits o entry e top w j → Meets j j
  meets_self entry e top w j fits =
      record {
        clash = λ q i over. i;
        unnamed = fits.names_other;
        unused = λ new same q i. i;
        inputs = λ q i. free_to laws (own j) (in_paths j.recipe) q fits.from_inputs i;
      }

  -- ---- pairs

  -- the one that is taken out is apart from the others
  pub pair_apart : (js ks : List OpenJob) (j k : OpenJob) → Pairwise o (js ++ j ∷ ks) → IsIn (js ++ ks) k → AreApart o j k
  pair_apart [] ks j k h i = each_in (AreApart o j) ks k h.0 i
  pair_apart (x ∷ js) ks j k h (inl e) =
      subst (λ y. AreApart o j y) (sym e) (apart_swap x j (each_in (AreApart o x) (js ++ j ∷ ks) j h.0 (here js ks j)))
    where
      here : (js ks : List OpenJob) (j : OpenJob) → IsIn (js ++ j ∷ ks) j
      here [] ks j = inl refl
      here (y ∷ js) ks j = inr (here js ks j)
  pair_apart (x ∷ js) ks j k h (inr i) = pair_apart js ks j k h.1 i

  pub pairs_rest : (js ks : List OpenJob) (j : OpenJob) → Pairwise o (js ++ j ∷ ks) → Pairwise o (js ++ ks)
  pairs_rest [] ks j h = h.1
  pairs_rest (x ∷ js) ks j h =
      (each_of (AreApart o x) (js ++ ks) (λ k i. each_in (AreApart o x) (js ++ j ∷ ks) k h.0 (rest js ks j k i)), pairs_rest js ks j h.1)
    where
      rest : (js ks : List OpenJob) (j k : OpenJob) → IsIn (js ++ ks) k → IsIn (js ++ j ∷ ks) k
      rest [] ks j k i = inr i
      rest (y ∷ js) ks j k (inl e) = inl e
      rest (y ∷ js) ks j k (inr i) = inr (rest js ks j k i)

  pub pairs_with : (js ks : List OpenJob) (j : OpenJob) → Pairwise o (js ++ ks) → ((k : OpenJob) → IsIn (js ++ ks) k → AreApart o j k) → Pairwise o (js ++ j ∷ ks)
  pairs_with [] ks j h each = (each_of (AreApart o j) ks each, h)
  pairs_with (x ∷ js) ks j h each =
      (each_of (AreApart o x) (js ++ j ∷ ks) (λ k i. turn k (in_split js ks j k i)), pairs_with js ks j h.1 (λ k i. each k (inr i)))
    where
      turn : (k : OpenJob) → (k ≡ j) ⊎ IsIn (js ++ ks) k → AreApart o x k
      turn k (inl e) = subst (λ y. AreApart o x y) (sym e) (apart_swap j x (each x (inl refl)))
      turn k (inr i) = each_in (AreApart o x) (js ++ ks) k h.0 i

  filter_step : (x : OpenJob) (xs ys : List OpenJob) → ((k : OpenJob) → IsIn ys k → AreApart o x k) → Pairwise o ys → (b : Bool) → Pairwise o (if b then x ∷ ys else ys)
  filter_step x xs ys each h true = (each_of (AreApart o x) ys each, h)
  filter_step x xs ys each h false = h

  pub pairs_filter : (t : OpenJob → Bool) (xs : List OpenJob) → Pairwise o xs → Pairwise o (filter t xs)
  pairs_filter t [] h = tt
  pairs_filter t (x ∷ xs) h =
      filter_step x xs (filter t xs) (λ k i. each_in (AreApart o x) xs k h.0 (in_filter t xs k i).0) (pairs_filter t xs h.1) (t x)

  -- another phase
  pub apart_phase : (j k : OpenJob) (phase : Phase) → ((n : ℕ) → phase ≡ Running n → k.phase ≡ Running n → ⊥) → AreApart o j k → AreApart o (at_phase j phase) k
  apart_phase j k phase serials h = (h.0, h.1, h.2, serials)

-- ---- the records that open Restores have found

pub eased_fewer : (xs ys : List OpenJob) → ((k : OpenJob) → IsIn xs k → IsIn ys k) → (p : Path) (r : Record) → eased_by xs p r → eased_by ys p r
eased_fewer xs ys fewer p r h = (h.0, fewer h.0 h.1, h.2, h.3)

-- a job in a later phase keeps no more
pub eased_phase : (js ks : List OpenJob) (j : OpenJob) (phase : Phase) → (keeps phase ≡ true → keeps j.phase ≡ true) → (in_old : (k : OpenJob) → IsIn (js ++ ks) k → IsIn (js ++ j ∷ ks) k) → IsIn (js ++ j ∷ ks) j → (p : Path) (r : Record) → eased_by (js ++ at_phase j phase ∷ ks) p r → eased_by (js ++ j ∷ ks) p r
eased_phase js ks j phase less in_old here p r h = go h.0 h.2 h.3 (in_split js ks (at_phase j phase) h.0 h.1)
  where
    in_phase : IsEased (at_phase j phase) p r → IsEased j p r
    in_phase x = record { found = x.found; kept = x.kept; is = x.is }

    go : (k : OpenJob) → keeps k.phase ≡ true → IsEased k p r → (k ≡ at_phase j phase) ⊎ IsIn (js ++ ks) k → eased_by (js ++ j ∷ ks) p r
    go k is at (inl e) = (j, here, less (subst (λ (x : OpenJob). keeps x.phase ≡ true) e is), in_phase (subst (λ x. IsEased x p r) e at))
    go k is at (inr i) = (k, in_old k i, is, at)
