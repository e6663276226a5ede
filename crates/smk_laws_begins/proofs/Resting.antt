-- Once a job has begun all is at rest: it runs, the others run as they did, and those that were closed are closed still.
use Rattle.std.proofs.Common.{◌≡◌, ◌⊎◌, Bool, true, false, ◌&&◌, ◌||◌, List, [], ◌∷◌, ◌++◌, refl, sym, ap, ◌∙◌, inl, inr, is_some}
use Rattle.std.specs.List.{list_all}
use Rattle.std.proofs.lemmas.Bool.{or_cases}
use Rattle.std.proofs.lemmas.Option.{same_Some}
use Rattle.smk_base.specs.Place.{mark_place}
use Rattle.smk_world.specs.World.{World, out_paths}
use Rattle.smk_world.specs.Trees.{IsIn, Path, among, folder_over}
use Rattle.smk_flow.specs.declared.job.Job.{Job}
use Rattle.smk_plan.specs.States.{job_path, makes}
use Rattle.smk_laws_plan.proofs.CurrentApart.{JobsApart, maker_found}
use Rattle.smk_laws_plan.proofs.CurrentLists.{all_in, and_left, and_right, or_first}
use Rattle.smk_laws_plan.proofs.CurrentPaths.{among_in, in_among}
use Rattle.smk_drive.specs.Moments.{Begun, is_closed, is_gone, is_rest, runs}

all_end : {A : Type 0} (f : A → Bool) (xs : List A) (x : A) → ((y : A) → IsIn xs y → f y ≡ true) → f x ≡ true → list_all f (xs ++ x ∷ []) ≡ true
all_end f [] x all here = ap (λ b. b && true) here
all_end f (y ∷ xs) x all here =
    ap (λ b. b && list_all f (xs ++ x ∷ [])) (all y (inl refl)) ∙ all_end f xs x (λ z i. all z (inr i)) here

all_on : {A : Type 0} (f g : A → Bool) (xs : List A) → ((x : A) → IsIn xs x → f x ≡ true → g x ≡ true) → list_all f xs ≡ true → list_all g xs ≡ true
all_on f g [] more h = refl
all_on f g (x ∷ xs) more h =
    ap (λ b. b && list_all g xs) (more x (inl refl) (and_left (f x) (list_all f xs) h)) ∙ all_on f g xs (λ y i. more y (inr i)) (and_right (f x) (list_all f xs) h)

-- one job makes a path
pub one_maker : (jobs : List Job) (j k : Job) (q : Path) → JobsApart jobs → IsIn jobs j → IsIn jobs k → makes j q ≡ true → makes k q ≡ true → j ≡ k
one_maker jobs j k q apart ij ik mj mk =
    ap (λ (p : Job × Job). p.0)
    (same_Some (j, j) (k, k) (sym (maker_found (λ (x : Job). x) jobs j q apart ij mj) ∙ maker_found (λ (x : Job). x) jobs k q apart ik mk))

pub own_makes : (j : Job) (p : Path) → IsIn (out_paths j.recipe) p → makes j p ≡ true
own_makes j p i = or_first (among (out_paths j.recipe) p) (is_some (folder_over j.recipe p)) (in_among (out_paths j.recipe) p i)

module _
    (w w1 : World) (jobs : List Job) (apart : JobsApart jobs) (j : Job) (in_plan : IsIn jobs j)
    (gone : (q : Path) → among (out_paths j.recipe) q ≡ false → is_gone (w.nodes (mark_place q)) ≡ true → is_gone (w1.nodes (mark_place q)) ≡ true) where
  -- a closed job of another name is closed still
  pub closed_still : (b : Begun) → IsIn jobs b.job → (job_path b.job ≡ job_path j → ⊥) → is_closed w b ≡ true → is_closed w1 b ≡ true
  closed_still b ib other closed =
      let ended = and_left (is_some b.ended) (list_all (λ p. is_gone (w.nodes (mark_place p))) (out_paths b.job.recipe)) closed in
      let marks = and_right (is_some b.ended) (list_all (λ p. is_gone (w.nodes (mark_place p))) (out_paths b.job.recipe)) closed in
      ap (λ c. c && list_all (λ p. is_gone (w1.nodes (mark_place p))) (out_paths b.job.recipe)) ended
      ∙ all_on (λ p. is_gone (w.nodes (mark_place p))) (λ p. is_gone (w1.nodes (mark_place p))) (out_paths b.job.recipe) (λ p i. gone p (not_its p i)) marks
    where
      not_its : (p : Path) → IsIn (out_paths b.job.recipe) p → among (out_paths j.recipe) p ≡ false
      not_its p i = go (among (out_paths j.recipe) p) refl
        where
          go : (c : Bool) → among (out_paths j.recipe) p ≡ c → c ≡ false
          go false e = refl
          go true e =
              let same = one_maker jobs b.job j p apart ib in_plan (own_makes b.job p i) (own_makes j p (among_in (out_paths j.recipe) p e)) in
              absurd (other (ap job_path same))

  pub rest_more :
      (begun : List Begun) (new : Begun) → ((b : Begun) → IsIn begun b → IsIn jobs b.job) → ((b : Begun) → IsIn begun b → job_path b.job ≡ job_path j → ⊥) →
      ((b : Begun) → IsIn begun b → runs w1 b.job ≡ runs w b.job) → runs w1 new.job ≡ true → is_rest w begun ≡ true → is_rest w1 (begun ++ new ∷ []) ≡ true
  rest_more begun new planned other same here rest =
      all_end (λ (b : Begun). runs w1 b.job || is_closed w1 b) begun new
      (λ b i. go b i (or_cases (runs w b.job) (is_closed w b) (all_in (λ (x : Begun). runs w x.job || is_closed w x) begun b rest i)))
      (ap (λ c. c || is_closed w1 new) here)
    where
      or_all : (c : Bool) → (c || true) ≡ true
      or_all true = refl
      or_all false = refl

      go : (b : Begun) → IsIn begun b → (runs w b.job ≡ true) ⊎ (is_closed w b ≡ true) → (runs w1 b.job || is_closed w1 b) ≡ true
      go b i (inl r) = ap (λ c. c || is_closed w1 b) (same b i ∙ r)
      go b i (inr c) = ap (λ d. runs w1 b.job || d) (closed_still b (planned b i) (other b i) c) ∙ or_all (runs w1 b.job)
