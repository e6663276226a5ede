-- Which jobs of a kept plan have begun, by their names.
use Rattle.std.proofs.Common.{◌≡◌, ℕ, zero, suc, Bool, true, false, ◌||◌, List, [], ◌∷◌, ◌++◌, Some, refl, sym, ap, ◌∙◌, bytes_eq, arith}
use Rattle.std.specs.Prelude.{if◌then◌else◌}
use Rattle.std.specs.List.{slice_get}
use Rattle.std.proofs.lemmas.Option.{same_Some, none-some}
use Rattle.smk_base.proofs.Places.{place_itself, same_flipped}
use Rattle.smk_base.proofs.Under.{false_unless}
use Rattle.smk_world.specs.Trees.{Path, among}
use Rattle.smk_flow.specs.declared.job.Job.{Job}
use Rattle.smk_plan.specs.States.{job_path}
use Rattle.smk_plan_states.proofs.Tests.{among_append}
use Rattle.smk_plan_live.specs.declared.phase.Phase.{Phase}
use Rattle.smk_plan_live.specs.Phases.{begun_in, has_begun}

-- no other one of the jobs has the name of this one
abbrev pub IsAlone : List Job → ℕ → Job → Type 0
IsAlone jobs m j = (i : ℕ) (k : Job) → slice_get jobs i ≡ Some k → bytes_eq (job_path k) (job_path j) ≡ true → i ≡ m

or_false : (a b : Bool) → a ≡ false → b ≡ false → (a || b) ≡ false
or_false true b h k = h
or_false false b h k = k

among_own : (b : Bool) (p q : Path) → bytes_eq p q ≡ false → among (if b then p ∷ [] else []) q ≡ false
among_own true p q h = or_false (bytes_eq q p) false (same_flipped q p ∙ h) refl
among_own false p q h = refl

-- none of these jobs has the name
none_named : (jobs : List Job) (phases : List Phase) (q : Path) → ((i : ℕ) (k : Job) → slice_get jobs i ≡ Some k → bytes_eq (job_path k) q ≡ false) → among (begun_in jobs phases) q ≡ false
none_named [] phases q h = refl
none_named (k ∷ jobs) [] q h = refl
none_named (k ∷ jobs) (p ∷ phases) q h =
    among_append (if has_begun p then job_path k ∷ [] else []) (begun_in jobs phases) q
    ∙ or_false (among (if has_begun p then job_path k ∷ [] else []) q) (among (begun_in jobs phases) q) (among_own (has_begun p) (job_path k) q (h zero k refl))
    (none_named jobs phases q (λ i x at. h (suc i) x at))

zero_suc : (m : ℕ) → suc m ≡ zero → ⊥
zero_suc m e = absurd (omega (arith, e))

suc_same : (i m : ℕ) → suc i ≡ suc m → i ≡ m
suc_same i m e = omega (arith, e)

here_named : (b : Bool) (p : Path) (rest : List Path) → among rest p ≡ false → among ((if b then p ∷ [] else []) ++ rest) p ≡ b
here_named true p rest none = ap (λ c. c || among rest p) (place_itself p)
here_named false p rest none = none

-- the job has begun by its name just where its phase says so
pub begun_at :
    (jobs : List Job) (phases : List Phase) (m : ℕ) (j : Job) (p : Phase) →
    slice_get jobs m ≡ Some j → slice_get phases m ≡ Some p → IsAlone jobs m j → among (begun_in jobs phases) (job_path j) ≡ has_begun p
begun_at [] phases m j p at is alone = absurd (none-some j at)
begun_at (k ∷ jobs) [] m j p at is alone = absurd (none-some p is)
begun_at (k ∷ jobs) (x ∷ phases) zero j p at is alone =
    ap (λ (y : Job). among ((if has_begun x then job_path k ∷ [] else []) ++ begun_in jobs phases) (job_path y)) (sym (same_Some k j at))
    ∙ here_named (has_begun x) (job_path k) (begun_in jobs phases)
    (none_named jobs phases (job_path k) (λ i y here. false_unless (bytes_eq (job_path y) (job_path k)) (λ e.
    zero_suc i (alone (suc i) y here (ap (λ (z : Job). bytes_eq (job_path y) (job_path z)) (sym (same_Some k j at)) ∙ e)))))
    ∙ ap has_begun (same_Some x p is)
begun_at (k ∷ jobs) (x ∷ phases) (suc m) j p at is alone =
    among_append (if has_begun x then job_path k ∷ [] else []) (begun_in jobs phases) (job_path j)
    ∙ ap (λ b. b || among (begun_in jobs phases) (job_path j))
    (among_own (has_begun x) (job_path k) (job_path j) (false_unless (bytes_eq (job_path k) (job_path j)) (λ e. zero_suc m (sym (alone zero k refl e)))))
    ∙ begun_at jobs phases m j p at is (λ i y here e. suc_same i m (alone (suc i) y here e))
