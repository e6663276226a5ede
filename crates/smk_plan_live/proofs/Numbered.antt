-- How far jobs have come, by their numbers and by their names.
use Rattle.std.proofs.Common.{◌≡◌, ◌⊎◌, inl, inr, ℕ, zero, suc, Bool, true, false, cond, List, [], ◌∷◌, ◌++◌, map, length, Option, Some, None, option_map, refl, sym, ap, ap₂, ◌∙◌, bytes_eq, arith}
use Rattle.std.specs.Prelude.{if◌then◌else◌}
use Rattle.std.specs.List.{find, slice_get}
use Rattle.std.proofs.lemmas.Option.{same_Some, none-some}
use Rattle.smk_base.proofs.Under.{never_both, or_cases}
use Rattle.smk_world.specs.World.{out_paths}
use Rattle.smk_world.specs.Trees.{Path, among}
use Rattle.smk_flow.specs.declared.job.Job.{Job}
use Rattle.smk_store.specs.Images.{Image}
use Rattle.smk_trigger.specs.declared.reason.State.{State}
use Rattle.smk_pick.specs.declared.settings.Settings.{Settings}
use Rattle.smk_plan.specs.States.{job_path, kept_state, test_some}
use Rattle.smk_plan_states.specs.Judged.{with_states}
use Rattle.smk_plan_states.specs.Served.{AreServed}
use Rattle.smk_plan_live.specs.declared.base.Base.{Base}
use Rattle.smk_plan_live.specs.declared.phase.Phase.{Phase}
use Rattle.smk_plan_live.specs.Carried.{has_name}
use Rattle.smk_plan_live.specs.Lives.{AreNamed, IsSound, progress_of}
use Rattle.smk_plan_live.specs.Now.{joined}
use Rattle.smk_plan_live.specs.Phases.{begun_in, has_begun, running_in}
use Rattle.smk_plan_live.proofs.Changed.{begun_here, named_in}
use Rattle.smk_plan_live.proofs.Restoring.{kept_at, one_name}
use Rattle.smk_plan_live.proofs.Tables.{flipped}

-- ## Lists in step

-- what is made of the elements of two lists that stand in step is the same
pub mapped_same :
    {A B C : Type 0} (f : A → C) (g : B → C) (xs : List A) (ys : List B) → length ys ≡ length xs →
    ((n : ℕ) (x : A) (y : B) → slice_get xs n ≡ Some x → slice_get ys n ≡ Some y → f x ≡ g y) → map f xs ≡ map g ys
mapped_same f g [] [] e h = refl
mapped_same f g [] (y ∷ ys) e h = absurd (omega (arith, e))
mapped_same f g (x ∷ xs) [] e h = absurd (omega (arith, e))
mapped_same f g (x ∷ xs) (y ∷ ys) e h =
    ap₂ (λ z zs. z ∷ zs) (h zero x y refl refl) (mapped_same f g xs ys (omega (arith, e)) (λ n u v at bt. h (suc n) u v at bt))

-- ## Jobs that have begun

-- what is among the names of those that have begun is the name of one of them
begun_by :
    (jobs : List Job) (phases : List Phase) (q : Path) → among (begun_in jobs phases) q ≡ true →
    (i : ℕ) × (k : Job) × (slice_get jobs i ≡ Some k) × (test_some has_begun (slice_get phases i) ≡ true) × (bytes_eq q (job_path k) ≡ true)
begun_by [] phases q h = absurd (never_both false h refl)
begun_by (j ∷ jobs) [] q h = absurd (never_both false h refl)
begun_by (j ∷ jobs) (p ∷ phases) q h = go (has_begun p) refl h (begun_by jobs phases q)
  where
    later :
        (i : ℕ) × (k : Job) × (slice_get jobs i ≡ Some k) × (test_some has_begun (slice_get phases i) ≡ true) × (bytes_eq q (job_path k) ≡ true) →
        (i : ℕ) × (k : Job) × (slice_get (j ∷ jobs) i ≡ Some k) × (test_some has_begun (slice_get (p ∷ phases) i) ≡ true) × (bytes_eq q (job_path k) ≡ true)
    later r = (suc (r.0), r.1, r.2, r.3, r.4)

    either :
        (has_begun p ≡ true) → (bytes_eq q (job_path j) ≡ true) ⊎ (among (begun_in jobs phases) q ≡ true) →
        (among (begun_in jobs phases) q ≡ true →
        (i : ℕ) × (k : Job) × (slice_get jobs i ≡ Some k) × (test_some has_begun (slice_get phases i) ≡ true) × (bytes_eq q (job_path k) ≡ true)) →
        (i : ℕ) × (k : Job) × (slice_get (j ∷ jobs) i ≡ Some k) × (test_some has_begun (slice_get (p ∷ phases) i) ≡ true) × (bytes_eq q (job_path k) ≡ true)
    either begun (inl e) more = (zero, j, refl, begun, e)
    either begun (inr e) more = later (more e)

    go :
        (b : Bool) → has_begun p ≡ b → among ((if b then job_path j ∷ [] else []) ++ begun_in jobs phases) q ≡ true →
        (among (begun_in jobs phases) q ≡ true →
        (i : ℕ) × (k : Job) × (slice_get jobs i ≡ Some k) × (test_some has_begun (slice_get phases i) ≡ true) × (bytes_eq q (job_path k) ≡ true)) →
        (i : ℕ) × (k : Job) × (slice_get (j ∷ jobs) i ≡ Some k) × (test_some has_begun (slice_get (p ∷ phases) i) ≡ true) × (bytes_eq q (job_path k) ≡ true)
    go true begun e more = either begun (or_cases (bytes_eq q (job_path j)) (among (begun_in jobs phases) q) e) more
    go false begun e more = later (more e)

-- ## Jobs whose child runs

abbrev pair_state : List (Path × State) → Path → Option State
pair_state pairs n = option_map (λ (e : Path × State). e.1) (find (λ (e : Path × State). bytes_eq e.0 n) pairs)

abbrev past : Bool → Path → State → Path → List (Path × State) → Option State
past b name s n rest = option_map (λ (e : Path × State). e.1) (cond b (Some (name, s)) (find (λ (e : Path × State). bytes_eq e.0 n) rest))

-- a state that is told by a name is that of a job with this name
runs_by :
    (jobs : List Job) (began : List (Option State)) (q : Path) (s : State) → pair_state (running_in jobs began) q ≡ Some s →
    (i : ℕ) × (k : Job) × (slice_get jobs i ≡ Some k) × (slice_get began i ≡ Some (Some s)) × (bytes_eq (job_path k) q ≡ true)
runs_by [] began q s e = absurd (none-some s e)
runs_by (k ∷ jobs) [] q s e = absurd (none-some s e)
runs_by (k ∷ jobs) (None ∷ began) q s e = let r = runs_by jobs began q s e in (suc (r.0), r.1, r.2, r.3, r.4)
runs_by (k ∷ jobs) (Some t ∷ began) q s e = go (bytes_eq (job_path k) q) refl e (runs_by jobs began q s)
  where
    go :
        (b : Bool) → bytes_eq (job_path k) q ≡ b → past b (job_path k) t q (running_in jobs began) ≡ Some s →
        (pair_state (running_in jobs began) q ≡ Some s →
        (i : ℕ) × (x : Job) × (slice_get jobs i ≡ Some x) × (slice_get began i ≡ Some (Some s)) × (bytes_eq (job_path x) q ≡ true)) →
        (i : ℕ) × (x : Job) × (slice_get (k ∷ jobs) i ≡ Some x) × (slice_get (Some t ∷ began) i ≡ Some (Some s)) × (bytes_eq (job_path x) q ≡ true)
    go true same is more = (zero, k, refl, ap (λ x. Some (Some x)) (same_Some t s is), same)
    go false same is more = let r = more is in (suc (r.0), r.1, r.2, r.3, r.4)

-- ## By number and by name

module _ (b : Base) (asked : List Path) (sound : IsSound b) (are : AreNamed b) (served : AreServed b.jobs asked) where
  -- no other job has the name of one that has an output
  alone :
      (n : ℕ) (j : Job) → slice_get b.jobs.jobs n ≡ Some j → has_name j ≡ true →
      (i : ℕ) (k : Job) → slice_get b.jobs.jobs i ≡ Some k → bytes_eq (job_path k) (job_path j) ≡ true → i ≡ n
  alone n j at has = one_name b sound served.apart n j (job_path j) at (named_in (out_paths j.recipe) has)

  begun_one :
      (n : ℕ) (j : Job) (p : Phase) → slice_get b.jobs.jobs n ≡ Some j → slice_get b.phases n ≡ Some p → among (progress_of b).begun (job_path j) ≡ has_begun p
  begun_one n j p at came = go (has_begun p) refl
    where
      by_name : (c : Bool) → among (begun_in b.jobs.jobs b.phases) (job_path j) ≡ c → has_begun p ≡ false → c ≡ false
      by_name true e none =
          let r = begun_by b.jobs.jobs b.phases (job_path j) e in
          let same : n ≡ r.0 = alone (r.0) (r.1) r.2 (are.begun (r.0) (r.1) r.2 r.3) n j at r.4 in
          absurd (never_both (has_begun p) (ap (test_some has_begun) (sym came ∙ ap (slice_get b.phases) same) ∙ r.3) none)
      by_name false e none = refl

      go : (c : Bool) → has_begun p ≡ c → among (begun_in b.jobs.jobs b.phases) (job_path j) ≡ c
      go true e = begun_here b.jobs.jobs b.phases n j p at came e
      go false e = by_name (among (begun_in b.jobs.jobs b.phases) (job_path j)) refl e

  running_one :
      (n : ℕ) (j : Job) (o : Option State) → slice_get b.jobs.jobs n ≡ Some j → slice_get b.began n ≡ Some o →
      pair_state (running_in b.jobs.jobs b.began) (job_path j) ≡ o
  running_one n j (Some s) at was =
      kept_at b.jobs.jobs b.began n j at (alone n j at (are.running n j s at was)) ∙ ap joined was
  running_one n j None at was = go (pair_state (running_in b.jobs.jobs b.began) (job_path j)) refl
    where
      go : (o : Option State) → pair_state (running_in b.jobs.jobs b.began) (job_path j) ≡ o → o ≡ None
      go None e = refl
      go (Some s) e =
          let r = runs_by b.jobs.jobs b.began (job_path j) s e in
          let same : n ≡ r.0 = alone (r.0) (r.1) r.2 (are.running (r.0) (r.1) s r.2 r.3) n j at (flipped (job_path j) (job_path (r.1)) ∙ r.4) in
          absurd (none-some s (same_Some None (Some s) (sym was ∙ ap (slice_get b.began) same ∙ r.3)))

-- a job has begun by its name just where it has by its number
pub begun_are :
    (b : Base) (asked : List Path) → IsSound b → AreNamed b → AreServed b.jobs asked →
    map (λ (j : Job). among (progress_of b).begun (job_path j)) b.jobs.jobs ≡ map has_begun b.phases
begun_are b asked sound are served =
    mapped_same (λ (j : Job). among (progress_of b).begun (job_path j)) has_begun b.jobs.jobs b.phases sound.phases (begun_one b asked sound are served)

map_same : {A : Type 0} (xs : List A) → map (λ (x : A). x) xs ≡ xs
map_same [] = refl
map_same (x ∷ xs) = ap (λ ys. x ∷ ys) (map_same xs)

-- the state that it had when it began, if its child runs, is that of its number
pub running_are :
    (b : Base) (asked : List Path) (image : Image) (settings : Settings) → IsSound b → AreNamed b → AreServed b.jobs asked →
    map (kept_state image settings (progress_of b) (with_states b.jobs [])) b.jobs.jobs ≡ b.began
running_are b asked image settings sound are served =
    mapped_same (kept_state image settings (progress_of b) (with_states b.jobs [])) (λ (o : Option State). o) b.jobs.jobs b.began sound.began
    (running_one b asked sound are served)
    ∙ map_same b.began
