-- Among the jobs that have begun the one whose child has ended, and which children run beside it.
use Rattle.std.proofs.Common.{◌≡◌, ◌⊎◌, ℕ, Bool, true, false, ◌||◌, not, List, [], ◌∷◌, ◌++◌, map, filter, refl, sym, ap, subst, ◌∙◌, inl, inr, bytes_eq, nat_eq, eqb-true, eq-eqb, Some, true≢false}
use Rattle.std.specs.Prelude.{if◌then◌else◌}
use Rattle.std.specs.List.{list_any}
use lib.Pointwise.{pointwise}
use Rattle.smk_base.specs.Path.{is_under, overlaps}
use Rattle.smk_base.proofs.Places.{and_first, and_second, place_itself, same_place}
use Rattle.smk_base.proofs.Under.{both_true, false_unless, or_first, or_second}
use Rattle.smk_world.specs.declared.event.Child.{Child as WorldChild}
use Rattle.smk_world.specs.Calls.{any_overlap}
use Rattle.smk_world.specs.Trees.{IsIn, Path, first}
use Rattle.smk_world.specs.World.{World, in_paths, out_paths}
use Rattle.smk_pattern.specs.Reading.{or_empty}
use Rattle.smk_flow.specs.declared.job.Job.{Job}
use Rattle.smk_plan.specs.States.{job_path}
use Rattle.smk_store.specs.Images.{Image}
use Rattle.smk_report.specs.Lines.{Ending}
use Rattle.smk_job.specs.Jobs.{Underway}
use Rattle.smk_drive.specs.Moments.{Begun, ending, is_child_of, runs}
use Rattle.smk_drive_course.specs.Stands.{ended_if, is_job_of}
use Rattle.smk_laws_turns.specs.Hubs.{AreOnce, AreSpaced, child_of}

-- ## Equal lists of paths

pub same_paths : (ps qs : List Path) → pointwise bytes_eq ps qs ≡ true → ps ≡ qs
same_paths [] [] h = refl
same_paths [] (q ∷ qs) h = absurd (true≢false (sym h))
same_paths (p ∷ ps) [] h = absurd (true≢false (sym h))
same_paths (p ∷ ps) (q ∷ qs) h =
    let one = same_place p q (and_first (bytes_eq p q) (pointwise bytes_eq ps qs) h) in
    let rest = same_paths ps qs (and_second (bytes_eq p q) (pointwise bytes_eq ps qs) h) in λ i. one i ∷ rest i

pub paths_themselves : (ps : List Path) → pointwise bytes_eq ps ps ≡ true
paths_themselves [] = refl
paths_themselves (p ∷ ps) = both_true (bytes_eq p p) (pointwise bytes_eq ps ps) (place_itself p) (paths_themselves ps)

-- ## The one among others

-- It stands among others, none of which is of its name.
pub record IsAround (begun : List Begun) (b : Begun) : Type 0 where
  pub front : List Begun
  pub back : List Begun
  pub were : begun ≡ front ++ b ∷ back
  pub others : (k : Begun) → IsIn (front ++ back) k → ¬ (job_path k.job ≡ job_path b.job)

pub around : (begun : List Begun) (b : Begun) → AreOnce begun → IsIn begun b → IsAround begun b
around [] b once i = absurd i
around (x ∷ begun) b once (inl e) =
    record {
      front = [];
      back = begun;
      were = ap (λ y. y ∷ begun) (sym e);
      others = λ k i. subst (λ (y : Begun). ¬ (job_path k.job ≡ job_path y.job)) (sym e) (once.0 k i);
    }
around (x ∷ begun) b once (inr i) = more (around begun b once.1 i)
  where
    more : IsAround begun b → IsAround (x ∷ begun) b
    more r =
        record {
          front = x ∷ r.front;
          back = r.back;
          were = ap (λ ys. x ∷ ys) r.were;
          others = λ k. one k;
        }
      where
        one : (k : Begun) → (k ≡ x) ⊎ IsIn (r.front ++ r.back) k → ¬ (job_path k.job ≡ job_path b.job)
        one k (inl e) = λ same. once.0 b i (sym same ∙ ap (λ (y : Begun). job_path y.job) e)
        one k (inr j) = r.others k j

-- with its end
abbrev pub with_end : Begun → Ending → Begun
with_end b e = record b { ended = Some e }

module _ (image : Image) (going : Underway) (status : ℕ) (b : Begun) (recipe : b.job.recipe ≡ going.recipe) where
  abbrev ends : Begun → Begun
  ends k = ended_if image going status k

  -- it is the job of the child
  own_job : is_job_of going b ≡ true
  own_job = ap (λ r. pointwise bytes_eq (out_paths going.recipe) (out_paths r)) recipe ∙ paths_themselves (out_paths going.recipe)

  -- and no other is
  other_job : (k : Begun) → ¬ (job_path k.job ≡ job_path b.job) → is_job_of going k ≡ false
  other_job k other =
      false_unless (is_job_of going k)
      (λ its.
      other
      (ap (λ ps. or_empty (first ps)) (sym (same_paths (out_paths going.recipe) (out_paths k.job.recipe) its))
      ∙ ap (λ r. or_empty (first (out_paths r))) (sym recipe)))

  own_end : ends b ≡ with_end b (ending image b.job status)
  own_end = ap (λ c. if c then (record b { ended = Some (ending image b.job status) }) else b) own_job

  other_end : (k : Begun) → ¬ (job_path k.job ≡ job_path b.job) → ends k ≡ k
  other_end k other = ap (λ c. if c then (record k { ended = Some (ending image k.job status) }) else k) (other_job k other)

  all_stay : (ks : List Begun) → ((k : Begun) → IsIn ks k → ¬ (job_path k.job ≡ job_path b.job)) → map ends ks ≡ ks
  all_stay [] others = refl
  all_stay (k ∷ ks) others = λ i. other_end k (others k (inl refl)) i ∷ all_stay ks (λ x j. others x (inr j)) i

  one_ends :
      (front back : List Begun) → ((k : Begun) → IsIn (front ++ back) k → ¬ (job_path k.job ≡ job_path b.job)) →
      map ends (front ++ b ∷ back) ≡ front ++ with_end b (ending image b.job status) ∷ back
  one_ends [] back others = λ i. own_end i ∷ all_stay back others i
  one_ends (k ∷ front) back others = λ i. other_end k (others k (inl refl)) i ∷ one_ends front back (λ x j. others x (inr j)) i

-- ## Children

-- The children of a stand: each with a number of its own, and apart.
pub record AreChildren (going : Underway) (rs : List Underway) : Type 0 where
  pub ran : IsIn rs going
  pub alone : (r : Underway) → IsIn rs r → r.number ≡ going.number → r ≡ going
  pub spaced : AreSpaced rs
  pub makes : ¬ (out_paths going.recipe ≡ [])

abbrev pub left_of : Underway → List Underway → List Underway
left_of going rs = filter (λ (r : Underway). not (nat_eq r.number going.number)) rs

first_overlaps : (ps qs xs ys ms : List Path) → ¬ (ps ≡ []) → any_overlap (ps ++ xs) (ms ++ (qs ++ ys)) ≡ false → pointwise bytes_eq ps qs ≡ true → ⊥
first_overlaps [] qs xs ys ms some apart same = some refl
first_overlaps (p ∷ ps) [] xs ys ms some apart same = true≢false (sym same)
first_overlaps (p ∷ ps) (q ∷ qs) xs ys ms some apart same =
    true≢false (sym (or_first (list_any (overlaps p) (ms ++ (q ∷ qs ++ ys))) (any_overlap (ps ++ xs) (ms ++ (q ∷ qs ++ ys))) (there ms)) ∙ apart)
  where
    there : (ms : List Path) → list_any (overlaps p) (ms ++ (q ∷ qs ++ ys)) ≡ true
    there [] =
        or_first (overlaps p q) (list_any (overlaps p) (qs ++ ys))
        (or_first (bytes_eq p q) (is_under p q || is_under q p) (and_first (bytes_eq p q) (pointwise bytes_eq ps qs) same))
    there (m ∷ ms) = or_second (overlaps p m) (list_any (overlaps p) (ms ++ (q ∷ qs ++ ys))) (there ms)

module _ (going : Underway) (rs : List Underway) (c : AreChildren going rs) where
  abbrev is_left : Underway → Bool
  is_left r = not (nat_eq r.number going.number)

  -- another child makes other outputs
  pub other_outs : (r : Underway) → IsIn rs r → ¬ (r.number ≡ going.number) → pointwise bytes_eq (out_paths going.recipe) (out_paths r.recipe) ≡ false
  other_outs r i other =
      false_unless (pointwise bytes_eq (out_paths going.recipe) (out_paths r.recipe))
      (first_overlaps (out_paths going.recipe) (out_paths r.recipe) going.logs r.logs (in_paths r.recipe) c.makes (c.spaced going r c.ran i other))

  other_number : (r : Underway) → is_left r ≡ true → ¬ (r.number ≡ going.number)
  other_number r h = λ same. true≢false (sym h ∙ ap not (number_same r same))
    where
      number_same : (r : Underway) → r.number ≡ going.number → nat_eq r.number going.number ≡ true
      number_same r same = eq-eqb r.number going.number same

  -- no child is of a job with the same outputs any more
  none_left : (j : Job) → j.recipe ≡ going.recipe → (xs : List Underway) → ((x : Underway) → IsIn xs x → IsIn rs x) → list_any (is_child_of j) (map child_of (left_of going xs)) ≡ false
  none_left j recipe [] within = refl
  none_left j recipe (x ∷ xs) within = go (is_left x) refl (none_left j recipe xs (λ y i. within y (inr i)))
    where
      go : (t : Bool) → is_left x ≡ t → list_any (is_child_of j) (map child_of (left_of going xs)) ≡ false →
          list_any (is_child_of j) (map child_of (if t then x ∷ left_of going xs else left_of going xs)) ≡ false
      go false e rest = rest
      go true e rest =
          ap (λ b. b || list_any (is_child_of j) (map child_of (left_of going xs)))
          (false_unless (is_child_of j (child_of x))
          (λ its.
          let outs : out_paths x.recipe ≡ out_paths going.recipe = same_paths (out_paths x.recipe) (out_paths j.recipe) its ∙ ap out_paths recipe in
          true≢false
          (sym (subst (λ ps. pointwise bytes_eq (out_paths going.recipe) ps ≡ true) (sym outs) (paths_themselves (out_paths going.recipe)))
          ∙ other_outs x (within x (inl refl)) (other_number x e))))
          ∙ rest

  -- of another job the children are the same
  same_left :
      (f : WorldChild → Bool) → f (child_of going) ≡ false → (xs : List Underway) → ((x : Underway) → IsIn xs x → IsIn rs x) →
      list_any f (map child_of (left_of going xs)) ≡ list_any f (map child_of xs)
  same_left f none [] within = refl
  same_left f none (x ∷ xs) within = go (nat_eq x.number going.number) refl (same_left f none xs (λ y i. within y (inr i)))
    where
      go : (t : Bool) → nat_eq x.number going.number ≡ t → list_any f (map child_of (left_of going xs)) ≡ list_any f (map child_of xs) →
          list_any f (map child_of (if not t then x ∷ left_of going xs else left_of going xs)) ≡ (f (child_of x) || list_any f (map child_of xs))
      go false e rest = ap (λ b. f (child_of x) || b) rest
      go true e rest =
          let its : x ≡ going = c.alone x (within x (inl refl)) (eqb-true x.number going.number e) in
          rest ∙ sym (ap (λ b. b || list_any f (map child_of xs)) (ap (λ (r : Underway). f (child_of r)) its ∙ none))

  one_ran : (j : Job) → j.recipe ≡ going.recipe → (xs : List Underway) → IsIn xs going → list_any (is_child_of j) (map child_of xs) ≡ true
  one_ran j recipe [] i = absurd i
  one_ran j recipe (x ∷ xs) (inl e) =
      or_first (is_child_of j (child_of x)) (list_any (is_child_of j) (map child_of xs))
      (subst (λ (r : Underway). is_child_of j (child_of r) ≡ true) e
      (ap (λ r. pointwise bytes_eq (out_paths going.recipe) (out_paths r)) recipe ∙ paths_themselves (out_paths going.recipe)))
  one_ran j recipe (x ∷ xs) (inr i) =
      or_second (is_child_of j (child_of x)) (list_any (is_child_of j) (map child_of xs)) (one_ran j recipe xs i)

  module _ (w v : World) (were : w.children ≡ map child_of rs) (are : v.children ≡ map child_of (left_of going rs)) where
    pub runs_no_more : (j : Job) → j.recipe ≡ going.recipe → runs v j ≡ false
    runs_no_more j recipe = ap (list_any (is_child_of j)) are ∙ none_left j recipe rs (λ x i. i)

    pub runs_still : (j : Job) → pointwise bytes_eq (out_paths going.recipe) (out_paths j.recipe) ≡ false → runs v j ≡ runs w j
    runs_still j other = ap (list_any (is_child_of j)) are ∙ (same_left (is_child_of j) other rs (λ x i. i) ∙ ap (list_any (is_child_of j)) (sym were))

    pub ran_before : (j : Job) → j.recipe ≡ going.recipe → runs w j ≡ true
    ran_before j recipe = ap (list_any (is_child_of j)) were ∙ one_ran j recipe rs c.ran

-- ## Together

-- One of the jobs that have begun has ended so since, and its child, which ran, runs no more; of the others, which have other names, the same have begun, ended
-- and run.
pub record IsSplit (w v : World) (begun now : List Begun) (b : Begun) (e : Ending) : Type 0 where
  pub front : List Begun
  pub back : List Begun
  pub were : begun ≡ front ++ b ∷ back
  pub are : now ≡ front ++ with_end b e ∷ back
  pub others : (k : Begun) → IsIn (front ++ back) k → ¬ (job_path k.job ≡ job_path b.job)
  pub ran : runs w b.job ≡ true
  pub ended : runs v b.job ≡ false
  pub stay : (k : Begun) → IsIn (front ++ back) k → runs v k.job ≡ runs w k.job

pub is_split :
    (image : Image) (going : Underway) (status : ℕ) (w v : World) (begun : List Begun) (b : Begun) (rs : List Underway) →
    b.job.recipe ≡ going.recipe → AreOnce begun → IsIn begun b → AreChildren going rs →
    w.children ≡ map child_of rs → v.children ≡ map child_of (left_of going rs) →
    IsSplit w v begun (map (ended_if image going status) begun) b (ending image b.job status)
is_split image going status w v begun b rs recipe once has c were are =
    let a = around begun b once has in
    record {
      front = a.front;
      back = a.back;
      were = a.were;
      are = ap (map (ended_if image going status)) a.were ∙ one_ends image going status b recipe a.front a.back a.others;
      others = a.others;
      ran = ran_before going rs c w v were are b.job recipe;
      ended = runs_no_more going rs c w v were are b.job recipe;
      stay = λ k i. runs_still going rs c w v were are k.job (other_job image going status b recipe k (a.others k i));
    }
