-- The new number of a job is that of a job like it; and a job that was there before has the number that it had.
use Rattle.std.proofs.Common.{◌≡◌, inl, inr, ℕ, zero, suc, ◌+◌, Bool, true, false, ◌||◌, List, [], ◌∷◌, Option, Some, refl, sym, ap, subst, ◌∙◌, bytes_eq, nat_eq, arith, true≢false}
use Rattle.std.specs.Prelude.{if◌then◌else◌}
use Rattle.std.specs.List.{slice_get}
use Rattle.std.specs.Option.{option_and_then}
use Rattle.std.specs.BTreeMap.{get_by_text}
use Rattle.std.proofs.lemmas.Bool.{eq-eqb}
use Rattle.std.proofs.lemmas.Option.{none-some, same_Some}
use Rattle.std.proofs.Math.Nat.{zero-add}
use Rattle.smk_base.proofs.Places.{place_itself, same_flipped}
use Rattle.smk_base.proofs.Under.{both_true, false_unless}
use Rattle.smk_world.specs.declared.recipe.Out.{Out}
use Rattle.smk_world.specs.World.{out_paths}
use Rattle.smk_world.specs.Trees.{IsIn, Path, among, first, outs_of}
use Rattle.smk_flow.specs.declared.job.Job.{Job}
use Rattle.smk_plan.specs.States.{job_path}
use Rattle.smk_plan_live.specs.declared.base.Base.{Base}
use Rattle.smk_plan_live.specs.declared.sites.Site.{Site}
use Rattle.smk_plan_live.specs.Carried.{if_first, origin}
use Rattle.smk_plan_live.specs.Lives.{IsSound}
use Rattle.smk_plan_live.specs.Same.{paths_in}
use Rattle.smk_plan_live.specs.Sites.{site_in, site_outs}
use Rattle.smk_plan_live.proofs.Restoring.{outs_are}
use Rattle.smk_laws_turns.specs.Moving.{is_like, number_like}

-- ## New numbers

is_like_itself : (j : Job) → is_like j j ≡ true
is_like_itself j = both_true (nat_eq j.rule j.rule) (bytes_eq (job_path j) (job_path j)) (eq-eqb j.rule j.rule refl) (place_itself (job_path j))

-- where no other job is like it the number is its own
pub number_found : (ks : List Job) (j : Job) → IsIn ks j → ((k : Job) → IsIn ks k → is_like j k ≡ true → k ≡ j) → slice_get ks (number_like ks j) ≡ Some j
number_found [] j i only = absurd i
number_found (k ∷ ks) j i only = go (is_like j k) refl i (λ m. number_found ks j m (λ x n. only x (inr n)))
  where
    go :
        (b : Bool) → is_like j k ≡ b → IsIn (k ∷ ks) j → (IsIn ks j → slice_get ks (number_like ks j) ≡ Some j) →
        slice_get (k ∷ ks) (if b then 0 else 1 + number_like ks j) ≡ Some j
    go true e at later = ap Some (only k (inl refl) e)
    go false e (inl same) later = absurd (true≢false (sym (is_like_itself j) ∙ ap (is_like j) same ∙ e))
    go false e (inr m) later = let step : 1 + number_like ks j ≡ suc (number_like ks j) = omega arith in ap (slice_get (k ∷ ks)) step ∙ later m

-- ## Old numbers

site_here : (n : ℕ) (outs : List Out) (later : Option Site) (q : Path) → first (paths_in outs) ≡ Some q → site_outs n 0 outs later q ≡ Some (record { job = n; place = 0 })
site_here n [] later q h = absurd (none-some q h)
site_here n (o ∷ outs) later q h =
    ap (λ b. if b then Some (record { job = n; place = 0 }) else site_outs n 1 outs later q)
    (subst (λ x. bytes_eq o.path x ≡ true) (same_Some o.path q h) (place_itself o.path))

or_parts_false : (a b : Bool) → (a || b) ≡ false → (a ≡ false) × (b ≡ false)
or_parts_false true b h = absurd (true≢false h)
or_parts_false false b h = (refl, h)

site_off : (n k : ℕ) (outs : List Out) (later : Option Site) (q : Path) → among (paths_in outs) q ≡ false → site_outs n k outs later q ≡ later
site_off n k [] later q h = refl
site_off n k (o ∷ outs) later q h =
    let parts = or_parts_false (bytes_eq q o.path) (among (paths_in outs) q) h in
    ap (λ b. if b then Some (record { job = n; place = k }) else site_outs n (suc k) outs later q) (same_flipped o.path q ∙ parts.0)
    ∙ site_off n (suc k) outs later q parts.1

zero_suc : (m : ℕ) → zero ≡ suc m → ⊥
zero_suc m e = absurd (omega (arith, e))

suc_same : (i m : ℕ) → suc i ≡ suc m → i ≡ m
suc_same i m e = omega (arith, e)

-- a path that is the first output of one of the jobs, and an output of none before it
site_at :
    (k : ℕ) (jobs : List Job) (n : ℕ) (j : Job) (q : Path) → slice_get jobs n ≡ Some j → first (out_paths j.recipe) ≡ Some q →
    ((m : ℕ) (x : Job) → slice_get jobs m ≡ Some x → among (out_paths x.recipe) q ≡ true → m ≡ n) → site_in k jobs q ≡ Some (record { job = k + n; place = 0 })
site_at k [] n j q at is only = absurd (none-some j at)
site_at k (x ∷ jobs) zero j q at is only =
    let none : k ≡ k + 0 = omega arith in
    site_here k (outs_of x.recipe) (site_in (suc k) jobs q) q
    (ap first (sym (outs_are x.recipe)) ∙ ap (λ (y : Job). first (out_paths y.recipe)) (same_Some x j at) ∙ is)
    ∙ ap (λ i. Some (record { job = i; place = 0 })) none
site_at k (x ∷ jobs) (suc n) j q at is only =
    let step : suc k + n ≡ k + suc n = omega arith in
    site_off k 0 (outs_of x.recipe) (site_in (suc k) jobs q) q
    (ap (λ ps. among ps q) (sym (outs_are x.recipe))
    ∙ false_unless (among (out_paths x.recipe) q) (λ has. zero_suc n (only zero x refl has)))
    ∙ site_at (suc k) jobs n j q at is (λ m y here has. suc_same m n (only (suc m) y here has))
    ∙ ap (λ i. Some (record { job = i; place = 0 })) step

-- the job of a number had that number before
pub origin_is :
    (b : Base) (n : ℕ) (j : Job) (q : Path) → IsSound b → slice_get b.jobs.jobs n ≡ Some j → first (out_paths j.recipe) ≡ Some q →
    ((m : ℕ) (x : Job) → slice_get b.jobs.jobs m ≡ Some x → among (out_paths x.recipe) q ≡ true → m ≡ n) → origin b j ≡ Some n
origin_is b n j q sound at is only =
    ap (λ o. option_and_then if_first (option_and_then (get_by_text b.sites) o)) is
    ∙ ap (option_and_then if_first) (sound.sited q ∙ site_at 0 b.jobs.jobs n j q at is only)
    ∙ ap Some (zero-add n)
