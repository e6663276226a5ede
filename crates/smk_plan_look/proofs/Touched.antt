-- The inputs that are found touched, and of which nothing is known, are those that need digests.
use Rattle.std.proofs.Common.{◌≡◌, ℕ, Bool, true, false, ◌&&◌, ◌||◌, not, ◌==◌, List, [], ◌∷◌, map, refl, sym, ap, ◌∙◌, Option, Some, None, bytes_eq}
use Rattle.std.specs.List.{list_any, flat_map}
use Rattle.std.proofs.lemmas.List.Folds.{list_any-append}
use Rattle.std.proofs.Math.Bool.{and-true, and-false}
use Rattle.smk_base.proofs.Places.{same_place, same_flipped}
use Rattle.smk_world.specs.declared.recipe.Item.{Item}
use Rattle.smk_world.specs.declared.recipe.Out.{Out}
use Rattle.smk_world.specs.declared.recipe.OutItem.{OutItem}
use Rattle.smk_world.specs.World.{in_paths, is_named}
use Rattle.smk_world.specs.Trees.{Path, among}
use Rattle.smk_record.specs.declared.record.Record.{Record}
use Rattle.smk_record.specs.declared.record.Stamp.{Stamp}
use Rattle.smk_record.specs.declared.record.Stamp.TheVariants.{Time, Sum, Made}
use Rattle.smk_record.specs.Records.{stamped}
use Rattle.smk_flow.specs.declared.job.Job.{Job}
use Rattle.smk_store.specs.declared.store.Kept.{Kept}
use Rattle.smk_store.specs.Stores.{Known, is_covered_in}
use Rattle.smk_chain.specs.declared.jobs.Jobs.{Jobs}
use Rattle.smk_trigger.specs.Reasons.{held}
use Rattle.smk_plan.specs.declared.seen.Sight.{Sight}
use Rattle.smk_plan.specs.States.{test_some}
use Rattle.smk_plan.specs.Summed.{has_other_time, needs_sum, kept_in, records_by}
use Rattle.smk_plan_look.specs.Needs.{time_seen, needs_digest, is_other_than, is_touched, is_touched_at, touches, path_touches, item_touches, job_touches, is_due, item_due, job_due}

-- ## Lists

any_same : {A : Type 0} (f g : A → Bool) → ((x : A) → f x ≡ g x) → (xs : List A) → list_any f xs ≡ list_any g xs
any_same f g same xs = λ i. list_any (λ x. same x i) xs

any_never : {A : Type 0} (f : A → Bool) → ((x : A) → f x ≡ false) → (xs : List A) → list_any f xs ≡ false
any_never f never [] = refl
any_never f never (x ∷ xs) = ap (λ b. b || list_any f xs) (never x) ∙ any_never f never xs

any_flat : {A B : Type 0} (f : B → Bool) (g : A → List B) (xs : List A) → list_any f (flat_map g xs) ≡ list_any (λ (x : A). list_any f (g x)) xs
any_flat f g [] = refl
any_flat f g (x ∷ xs) = list_any-append f (g x) (flat_map g xs) ∙ ap (λ b. list_any f (g x) || b) (any_flat f g xs)

any_map : {A B : Type 0} (f : B → Bool) (g : A → B) (xs : List A) → list_any f (map g xs) ≡ list_any (λ (x : A). f (g x)) xs
any_map f g [] = refl
any_map f g (x ∷ xs) = ap (λ b. f (g x) || b) (any_map f g xs)

-- a test of a number that may be missing, on each of a list
any_under : {A : Type 0} (f : A → ℕ → Bool) (xs : List A) (o : Option ℕ) → list_any (λ (x : A). test_some (f x) o) xs ≡ test_some (λ t. list_any (λ (x : A). f x t) xs) o
any_under f xs (Some t) = refl
any_under f xs None = any_never (λ x. false) (λ x. refl) xs

absorbed : (a b : Bool) → (a || (b && a)) ≡ a
absorbed true b = refl
absorbed false b = and-false b

any_named : (q : Path) (f : Path → Bool) (ps : List Path) → list_any (λ (p : Path). bytes_eq q p && f p) ps ≡ (is_named q ps && f q)
any_named q f [] = refl
any_named q f (p ∷ ps) = go (bytes_eq q p) refl (any_named q f ps)
  where
    go : (b : Bool) → bytes_eq q p ≡ b → list_any (λ (r : Path). bytes_eq q r && f r) ps ≡ (is_named q ps && f q)
        → ((bytes_eq q p && f p) || list_any (λ (r : Path). bytes_eq q r && f r) ps) ≡ ((bytes_eq q p || is_named q ps) && f q)
    go true e more =
        ap (λ (b : Bool). (b && f p) || list_any (λ (r : Path). bytes_eq q r && f r) ps) e
        ∙ ap (λ (r : Path). f r || list_any (λ (r : Path). bytes_eq q r && f r) ps) (sym (same_place q p e))
        ∙ ap (λ (b : Bool). f q || b) more
        ∙ absorbed (f q) (is_named q ps)
        ∙ sym (ap (λ (b : Bool). (b || is_named q ps) && f q) e)
    go false e more =
        ap (λ (b : Bool). (b && f p) || list_any (λ (r : Path). bytes_eq q r && f r) ps) e
        ∙ more
        ∙ sym (ap (λ (b : Bool). (b || is_named q ps) && f q) e)

-- ## Records

untouched : (o : Option ℕ) → false ≡ test_some (λ t. false) o
untouched None = refl
untouched (Some t) = refl

other_time : (u : ℕ) (o : Option ℕ) → is_other_than u o ≡ test_some (λ t. not (u == t)) o
other_time u None = refl
other_time u (Some t) = refl

touched_is : (sights : List Sight) (p : Path) (s : Stamp) → is_touched sights (p, s) ≡ test_some (has_other_time s) (time_seen sights p)
touched_is sights p (Time u) = untouched (time_seen sights p)
touched_is sights p (Sum u d) = other_time u (time_seen sights p)
touched_is sights p (Made m) = untouched (time_seen sights p)

and_under : (c : Bool) (f : ℕ → Bool) (o : Option ℕ) → (c && test_some f o) ≡ test_some (λ t. c && f t) o
and_under true f o = refl
and_under false f None = refl
and_under false f (Some t) = refl

-- an input that has the path
abbrev recorded_at : Path → Path × Stamp → ℕ → Bool
recorded_at q x t = bytes_eq x.0 q && has_other_time x.1 t

touched_at_is : (sights : List Sight) (q : Path) (x : Path × Stamp) → is_touched_at sights q x ≡ test_some (recorded_at q x) (time_seen sights q)
touched_at_is sights q (p, s) =
    go (bytes_eq q p) refl
    ∙ ap (λ (c : Bool). c && test_some (has_other_time s) (time_seen sights q)) (same_flipped q p)
    ∙ and_under (bytes_eq p q) (has_other_time s) (time_seen sights q)
  where
    go : (b : Bool) → bytes_eq q p ≡ b → (bytes_eq q p && is_touched sights (p, s)) ≡ (bytes_eq q p && test_some (has_other_time s) (time_seen sights q))
    go true e =
        ap (λ (c : Bool). bytes_eq q p && c) (touched_is sights p s)
        ∙ ap (λ (r : Path). bytes_eq q p && test_some (has_other_time s) (time_seen sights r)) (sym (same_place q p e))
    go false e = ap (λ (c : Bool). c && is_touched sights (p, s)) e ∙ sym (ap (λ (c : Bool). c && test_some (has_other_time s) (time_seen sights q)) e)

touches_is : (sights : List Sight) (q : Path) (r : Record) → touches sights q r ≡ test_some (λ t. list_any (λ (x : Path × Stamp). recorded_at q x t) (stamped r)) (time_seen sights q)
touches_is sights q r =
    any_same (is_touched_at sights q) (λ (x : Path × Stamp). test_some (recorded_at q x) (time_seen sights q)) (touched_at_is sights q) (stamped r)
    ∙ any_under (recorded_at q) (stamped r) (time_seen sights q)

-- ## Jobs

out_touches : (known : List Known) (sights : List Sight) (q : Path) (items : List OutItem) →
    list_any (item_touches known sights q) items ≡ list_any (touches sights q) (flat_map held (map (kept_in known) (flat_map (λ (item : OutItem). map (λ (o : Out). o.path) item.outs) items)))
out_touches known sights q items =
    any_same (item_touches known sights q) (λ (item : OutItem). list_any (path_touches known sights q) (map (λ (o : Out). o.path) item.outs))
    (λ item. sym (any_map (path_touches known sights q) (λ (o : Out). o.path) item.outs)) items
    ∙ sym (any_flat (path_touches known sights q) (λ (item : OutItem). map (λ (o : Out). o.path) item.outs) items)
    ∙ sym (any_map (λ (k : Kept). list_any (touches sights q) (held k)) (kept_in known) (flat_map (λ (item : OutItem). map (λ (o : Out). o.path) item.outs) items))
    ∙ sym (any_flat (touches sights q) held (map (kept_in known) (flat_map (λ (item : OutItem). map (λ (o : Out). o.path) item.outs) items)))

job_touches_is : (known : List Known) (sights : List Sight) (j : Job) (q : Path) → job_touches known sights j q ≡ test_some (needs_sum (records_by (kept_in known) j) q) (time_seen sights q)
job_touches_is known sights j q =
    out_touches known sights q j.recipe.outputs
    ∙ any_same (touches sights q) (λ (r : Record). test_some (λ t. list_any (λ (x : Path × Stamp). recorded_at q x t) (stamped r)) (time_seen sights q)) (touches_is sights q) (records_by (kept_in known) j)
    ∙ any_under (λ (r : Record) t. list_any (λ (x : Path × Stamp). recorded_at q x t) (stamped r)) (records_by (kept_in known) j) (time_seen sights q)

job_due_is : (known : List Known) (sights : List Sight) (q : Path) (j : Job) →
    job_due known sights q j ≡ (among (in_paths j.recipe) q && (test_some (needs_sum (records_by (kept_in known) j) q) (time_seen sights q) && not (is_covered_in known q)))
job_due_is known sights q j =
    sym (any_flat (is_due known (job_touches known sights j) q) (λ (item : Item). item.paths) j.recipe.inputs)
    ∙ any_named q (λ (p : Path). job_touches known sights j p && not (is_covered_in known p)) (in_paths j.recipe)
    ∙ ap (λ (b : Bool). among (in_paths j.recipe) q && (b && not (is_covered_in known q))) (job_touches_is known sights j q)

-- one test for all jobs
all_under : (a : Job → Bool) (n : Job → ℕ → Bool) (c : Bool) (js : List Job) (o : Option ℕ) →
    list_any (λ (j : Job). a j && (test_some (n j) o && c)) js ≡ test_some (λ t. c && list_any (λ (j : Job). a j && n j t) js) o
all_under a n c js None = any_never (λ (j : Job). a j && false) (λ j. and-false (a j)) js
all_under a n true js (Some t) = any_same (λ (j : Job). a j && (n j t && true)) (λ (j : Job). a j && n j t) (λ j. ap (λ b. a j && b) (and-true (n j t))) js
all_under a n false js (Some t) = any_never (λ (j : Job). a j && (n j t && false)) (λ j. ap (λ b. a j && b) (and-false (n j t)) ∙ and-false (a j)) js

pub due_is : (known : List Known) (jobs : Jobs) (sights : List Sight) (q : Path) → list_any (job_due known sights q) jobs.jobs ≡ needs_digest known jobs sights q
due_is known jobs sights q =
    any_same (job_due known sights q) (λ (j : Job). among (in_paths j.recipe) q && (test_some (needs_sum (records_by (kept_in known) j) q) (time_seen sights q) && not (is_covered_in known q))) (job_due_is known sights q) jobs.jobs
    ∙ all_under (λ (j : Job). among (in_paths j.recipe) q) (λ (j : Job). needs_sum (records_by (kept_in known) j) q) (not (is_covered_in known q)) jobs.jobs (time_seen sights q)

-- what the job's inputs are tested by, where this set has what its records touch
pub due_by : (known : List Known) (sights : List Sight) (j : Job) (touched : Path → Bool) (q : Path) → ((p : Path) → touched p ≡ list_any (item_touches known sights p) j.recipe.outputs)
    → list_any (item_due known touched q) j.recipe.inputs ≡ job_due known sights q j
due_by known sights j touched q same = λ i. list_any (item_due known (λ p. same p i) q) j.recipe.inputs
