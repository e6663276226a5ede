-- The serials of jobs by their duties, and why each job that is due can have its turn.
use Rattle.std.proofs.Common.{◌≡◌, ◌<◌, ◌≤◌, ◌+◌, ℕ, zero, suc, Bool, true, false, List, [], ◌∷◌, refl, ap, sym, subst, ◌∙◌, Option, Some, None, arith, add-zero}
use Rattle.std.specs.Prelude.{nat_lt, if◌then◌else◌, slice_get}
use Rattle.std.specs.List.{AllZip}
use Rattle.std.specs.Option.{option_and_then}
use Rattle.std.proofs.lemmas.Option.{same_Some, none-some}
use Rattle.std.proofs.Math.Nat.{zero-add}
use Rattle.smk_world.specs.World.{in_paths}
use Rattle.smk_world.specs.Trees.{Path, Each}
use Rattle.smk_flow.specs.declared.job.Job.{Job}
use Rattle.smk_flow.specs.Flows.{Flow}
use Rattle.smk_chain.specs.declared.jobs.Maker.{Maker}
use Rattle.smk_chain.specs.declared.jobs.Jobs.{Jobs}
use Rattle.smk_plan.specs.declared.duty.Duty.{Duty}
use Rattle.smk_plan.specs.declared.duty.Duty.TheVariants.{Rest, Restore, Run}
use Rattle.smk_run.specs.Stamps.{IsBelow}
use Rattle.smk_plan.specs.Duties.{maker_in, duty_for, IsOld, IsKeptBelow, IsServable, AreServable}
use Rattle.smk_run.specs.Duties.{drawn_before, drawn_with, serial_at, serial_by, serial_of, serials, serials_from, serial_in, due_from, due}
use Rattle.smk_plan.specs.Runnable.{IsEarlier, AreRunnableFrom, AreRunnable}
use Rattle.smk_run.specs.Runs.{AreGood, IsReady}

-- ## Serials

drawn_more : (duty : Duty) (duties : List Duty) (drawn n : ℕ) → drawn_with drawn duty + drawn_before duties n ≡ drawn + drawn_before (duty ∷ duties) (suc n)
drawn_more (Rest made) duties drawn n = refl
drawn_more (Restore made) duties drawn n = refl
drawn_more Run duties drawn n = omega arith

serial_in_from : (first : Option ℕ) (drawn : ℕ) (duties : List Duty) (n : ℕ)
    → serial_in (serials_from first drawn duties) n ≡ option_and_then (serial_by (serial_at first (drawn + drawn_before duties n))) (slice_get duties n)
serial_in_from first drawn [] n = refl
serial_in_from first drawn (duty ∷ duties) zero = ap (λ k. serial_by (serial_at first k) duty) (sym (add-zero drawn))
serial_in_from first drawn (duty ∷ duties) (suc n) =
    serial_in_from first (drawn_with drawn duty) duties n
    ∙ ap (λ k. option_and_then (serial_by (serial_at first k)) (slice_get duties n)) (drawn_more duty duties drawn n)

serial_same : (first : Option ℕ) (duties : List Duty) (n : ℕ) → serial_in (serials_from first 0 duties) n ≡ serial_of first duties n
serial_same first duties n =
    serial_in_from first 0 duties n
    ∙ ap (λ k. option_and_then (serial_by (serial_at first k)) (slice_get duties n)) (zero-add (drawn_before duties n))

pub serials_same : (first : Option ℕ) (duties : List Duty) → serial_in (serials_from first 0 duties) ≡ serial_of first duties
serials_same first duties = λ j. λ n. serial_same first duties n j

-- ## A serial that is drawn is above those before it

pub drawn_less : (duties : List Duty) (k n : ℕ) → k < n → slice_get duties k ≡ Some Run → drawn_before duties k < drawn_before duties n
drawn_less [] k n lt is = absurd (none-some Run is)
drawn_less (duty ∷ duties) zero zero lt is = absurd (omega (arith, lt))
drawn_less (duty ∷ duties) zero (suc n) lt is =
    subst (λ (d : Duty). drawn_before (d ∷ duties) zero < drawn_before (d ∷ duties) (suc n)) (sym (same_Some duty Run is)) (omega arith)
drawn_less (duty ∷ duties) (suc k) zero lt is = absurd (omega (arith, lt))
drawn_less (Rest made ∷ duties) (suc k) (suc n) lt is = drawn_less duties k n (omega (arith, lt)) is
drawn_less (Restore made ∷ duties) (suc k) (suc n) lt is = drawn_less duties k n (omega (arith, lt)) is
drawn_less (Run ∷ duties) (suc k) (suc n) lt is = let more = drawn_less duties k n (omega (arith, lt)) is in omega (arith, more)

pub drawn_is : (first : Option ℕ) (count made : ℕ) → serial_at first count ≡ Some made → (top : ℕ) × (first ≡ Some top) × (made ≡ top + count)
drawn_is None count made h = absurd (none_made made h)
  where
    none_made : (made : ℕ) → None ≡ Some made → ⊥
    none_made made e = cc
drawn_is (Some top) count made h = (top, refl, go (nat_lt (top + count) 18446744073709551616) h)
  where
    go : (b : Bool) → (if b then Some (top + count) else None) ≡ Some made → made ≡ top + count
    go true e = cc
    go false e = cc

-- ## Serials that are kept

-- what it keeps is an old serial
abbrev IsOldDuty : Option ℕ → Duty → Type 0
IsOldDuty first (Rest made) = IsOld first made
IsOldDuty first (Restore made) = IsOld first made
IsOldDuty first Run = Unit {0}

old_one : (first : Option ℕ) (duty : Path → Option Duty) (job : Job) (d : Duty) → IsServable first duty job d → IsOldDuty first d
old_one first duty job (Rest made) h = h
old_one first duty job (Restore made) h = h.1
old_one first duty job Run h = tt

old_at : (first : Option ℕ) (duty : Path → Option Duty) (jobs : List Job) (duties : List Duty) (k : ℕ) (d : Duty)
    → AllZip (IsServable first duty) jobs duties → slice_get duties k ≡ Some d → IsOldDuty first d
old_at first duty jobs [] k d h is = absurd (none-some d is)
old_at first duty [] (e ∷ duties) k d h is = absurd h
old_at first duty (job ∷ jobs) (e ∷ duties) zero d h is = subst (IsOldDuty first) (same_Some e d is) (old_one first duty job e h.0)
old_at first duty (job ∷ jobs) (e ∷ duties) (suc k) d h is = old_at first duty jobs duties k d h.1 is

-- ## What is read is below

below_kept : (first : Option ℕ) (duties : List Duty) (made : ℕ) (m : Option ℕ) → IsKeptBelow made (option_and_then (slice_get duties) m) → IsBelow made (option_and_then (serial_of first duties) m)
below_kept first duties made None h = tt
below_kept first duties made (Some k) h = go (slice_get duties k) h
  where
    go : (d : Option Duty) → IsKeptBelow made d → IsBelow made (option_and_then (serial_by (serial_at first (drawn_before duties k))) d)
    go None e = tt
    go (Some (Rest kept)) e = e
    go (Some (Restore kept)) e = e
    go (Some Run) e = absurd e

all_kept : (first : Option ℕ) (duties : List Duty) (makers : List Maker) (made : ℕ) (ps : List Path)
    → Each (λ p. IsKeptBelow made (duty_for makers duties p)) ps → Each (λ p. IsBelow made (serials makers first duties p)) ps
all_kept first duties makers made [] h = tt
all_kept first duties makers made (p ∷ ps) h = (below_kept first duties made (maker_in makers p) h.0, all_kept first duties makers made ps h.1)

below_drawn : (top n made : ℕ) (duties : List Duty) (m : Option ℕ) → ((k : ℕ) (d : Duty) → slice_get duties k ≡ Some d → IsOldDuty (Some top) d)
    → made ≡ top + drawn_before duties n → IsEarlier n m → IsBelow made (option_and_then (serial_of (Some top) duties) m)
below_drawn top n made duties None old is earlier = tt
below_drawn top n made duties (Some k) old is earlier = go (slice_get duties k) refl
  where
    drawn : (b : Bool) → slice_get duties k ≡ Some Run → IsBelow made (if b then Some (top + drawn_before duties k) else None)
    drawn true e = let less = drawn_less duties k n earlier e in omega (arith, less, is)
    drawn false e = tt

    go : (d : Option Duty) → slice_get duties k ≡ d → IsBelow made (option_and_then (serial_by (serial_at (Some top) (drawn_before duties k))) d)
    go None e = tt
    go (Some (Rest kept)) e = let low : kept < top = old k (Rest kept) e in omega (arith, low, is)
    go (Some (Restore kept)) e = let low : kept < top = old k (Restore kept) e in omega (arith, low, is)
    go (Some Run) e = drawn (nat_lt (top + drawn_before duties k) 18446744073709551616) e

all_drawn : (top n made : ℕ) (duties : List Duty) (makers : List Maker) (ps : List Path) → ((k : ℕ) (d : Duty) → slice_get duties k ≡ Some d → IsOldDuty (Some top) d)
    → made ≡ top + drawn_before duties n → Each (λ p. IsEarlier n (maker_in makers p)) ps → Each (λ p. IsBelow made (serials makers (Some top) duties p)) ps
all_drawn top n made duties makers [] old is h = tt
all_drawn top n made duties makers (p ∷ ps) old is h = (below_drawn top n made duties (maker_in makers p) old is h.0, all_drawn top n made duties makers ps old is h.1)

-- ## One job that is due

-- the serial of a job whose turn may come isn't 0, and is above those of what it reads
record IsAbove (first : Option ℕ) (duties : List Duty) (makers : List Maker) (job : Job) (serial : Option ℕ) : Type 0 where
  pub positive : (made : ℕ) → serial ≡ Some made → 1 ≤ made
  pub below : (made : ℕ) → serial ≡ Some made → Each (λ p. IsBelow made (serials makers first duties p)) (in_paths job.recipe)

above_restored : (first : Option ℕ) (duties : List Duty) (makers : List Maker) (job : Job) (kept : ℕ) → IsServable first (duty_for makers duties) job (Restore kept)
    → IsAbove first duties makers job (Some kept)
above_restored first duties makers job kept h = record {
  positive = λ made e. subst (λ m. 1 ≤ m) (same_Some kept made e) h.0;
  below = λ made e. subst (λ m. Each (λ p. IsBelow m (serials makers first duties p)) (in_paths job.recipe)) (same_Some kept made e) (all_kept first duties makers kept (in_paths job.recipe) h.2);
}

above_drawn : (first : Option ℕ) (duties : List Duty) (makers : List Maker) (job : Job) (n : ℕ) → IsOld first 0 → ((k : ℕ) (d : Duty) → slice_get duties k ≡ Some d → IsOldDuty first d)
    → Each (λ p. IsEarlier n (maker_in makers p)) (in_paths job.recipe) → IsAbove first duties makers job (serial_at first (drawn_before duties n))
above_drawn first duties makers job n nought old earlier = record {
  positive = λ made e.
      let at = drawn_is first (drawn_before duties n) made e in
      let low : 0 < at.0 = subst (λ f. IsOld f 0) at.1 nought in
      let is = at.2 in
      omega (arith, low, is);
  below = λ made e.
      let at = drawn_is first (drawn_before duties n) made e in
      subst (λ f. Each (λ p. IsBelow made (serials makers f duties p)) (in_paths job.recipe)) (sym at.1)
      (all_drawn at.0 n made duties makers (in_paths job.recipe) (subst (λ f. (k : ℕ) (d : Duty) → slice_get duties k ≡ Some d → IsOldDuty f d) at.1 old) at.2 earlier);
}

-- ## All jobs that are due

later_place : (n k : ℕ) → n + suc k ≡ suc n + k
later_place n k = omega arith

ready_from : (flow : Flow) (cores : ℕ) (first : Option ℕ) (makers : List Maker) (all : List Duty) (n : ℕ) (duties : List Duty) (jobs : List Job)
    → ((k : ℕ) → slice_get duties k ≡ slice_get all (n + k)) → ((k : ℕ) (d : Duty) → slice_get all k ≡ Some d → IsOldDuty first d) → IsOld first 0
    → AreRunnableFrom (maker_in makers) n jobs → AllZip (IsServable first (duty_for makers all)) jobs duties
    → AreGood flow cores (due_from (serial_of first all) n duties jobs)
    → Each (IsReady flow cores (serials makers first all)) (due_from (serial_of first all) n duties jobs)
ready_from flow cores first makers all n [] jobs left old nought runnable servable good = tt
ready_from flow cores first makers all n (d ∷ duties) [] left old nought runnable servable good = tt
ready_from flow cores first makers all n (Rest kept ∷ duties) (job ∷ jobs) left old nought runnable servable good =
    ready_from flow cores first makers all (suc n) duties jobs (λ k. left (suc k) ∙ ap (slice_get all) (later_place n k)) old nought runnable.1 servable.1 good
ready_from flow cores first makers all n (Restore kept ∷ duties) (job ∷ jobs) left old nought runnable servable good =
    let is : Some (Restore kept) ≡ slice_get all n = left 0 ∙ ap (slice_get all) (add-zero n) in
    let above = subst (IsAbove first all makers job) (ap (option_and_then (serial_by (serial_at first (drawn_before all n)))) is) (above_restored first all makers job kept servable.0) in (
      record {
        makes = runnable.0.makes;
        apart = runnable.0.apart;
        wildcards = runnable.0.wildcards;
        good = good.0;
        positive = above.positive;
        below = above.below;
      },
      ready_from flow cores first makers all (suc n) duties jobs (λ k. left (suc k) ∙ ap (slice_get all) (later_place n k)) old nought runnable.1 servable.1 good.1,
    )
ready_from flow cores first makers all n (Run ∷ duties) (job ∷ jobs) left old nought runnable servable good =
    let is : Some Run ≡ slice_get all n = left 0 ∙ ap (slice_get all) (add-zero n) in
    let above = subst (IsAbove first all makers job) (ap (option_and_then (serial_by (serial_at first (drawn_before all n)))) is) (above_drawn first all makers job n nought old runnable.0.earlier) in (
      record {
        makes = runnable.0.makes;
        apart = runnable.0.apart;
        wildcards = runnable.0.wildcards;
        good = good.0;
        positive = above.positive;
        below = above.below;
      },
      ready_from flow cores first makers all (suc n) duties jobs (λ k. left (suc k) ∙ ap (slice_get all) (later_place n k)) old nought runnable.1 servable.1 good.1,
    )

pub all_ready : (flow : Flow) (cores : ℕ) (first : Option ℕ) (jobs : Jobs) (duties : List Duty)
    → IsOld first 0 → AreRunnable jobs → AreServable first jobs duties → AreGood flow cores (due first duties jobs.jobs)
    → Each (IsReady flow cores (serials jobs.makers first duties)) (due first duties jobs.jobs)
all_ready flow cores first jobs duties nought runnable servable good =
    ready_from flow cores first jobs.makers duties 0 duties jobs.jobs (λ k. ap (slice_get duties) (sym (zero-add k)))
    (λ k d is. old_at first (duty_for jobs.makers duties) jobs.jobs duties k d servable.each is) nought runnable servable.each good
