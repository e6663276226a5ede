-- What each thing that happens keeps.
use Rattle.std.proofs.Common.{◌≡◌, ℕ, ◌+◌, ◌<◌, ◌≤◌, Bool, true, false, ◌&&◌, cond, List, [], ◌∷◌, ◌++◌, Some, length, set, refl, sym, ap, ◌∙◌, subst, arith, length-set}
use Rattle.std.specs.Prelude.{nat_le}
use Rattle.std.specs.List.{slice_get, list_all, sum_by, count_by}
use Rattle.std.proofs.lemmas.Bool.{and_parts, and_from, leb-true, le-leb}
use Rattle.std.proofs.lemmas.List.Sums.{sum_by-append}
use Rattle.smk_base.specs.declared.tree.Amount.{Amount}
use Rattle.smk_pick.specs.declared.room.Ask.{Ask}
use Rattle.smk_pick.specs.Rooms.{amount, threads_in, are_within}
use Rattle.smk_core.specs.declared.phase.Phase.{Phase}
use Rattle.smk_core.specs.declared.phase.Phase.TheVariants.{Waiting, Running}
use Rattle.smk_core.specs.declared.starter.Step.TheVariants.{Start, Wait, Finished}
use Rattle.smk_core.specs.Standing.{Standing, stands, is_waiting, is_running, is_done, is_ready, befores_of, asks_running, goes_on, fits_beside, fits, may_start, started, ended, ending}
use Rattle.smk_core.specs.Replans.{CanReplan, IsReplanned}
use Rattle.smk_core.specs.Course.{Happening, Answered, Ended, Stopped, Replanned, Happens, Course}
use Rattle.smk_core.specs.Laws.{IsRun}
use Rattle.smk_core.proofs.Gets.{get_some}
use Rattle.smk_core.proofs.Machines.{sum_begun, sum_ended}
use Rattle.smk_core.proofs.Settling.{stands_within, is_waiting_at, is_running_at}
use Rattle.smk_core.proofs.Totals.{if_running, if_phase, sum_running, count_phases, total_carried}

-- ## Within the bounds

le_over : (a b c : ℕ) → a ≤ b → nat_le b c ≡ true → nat_le a c ≡ true
le_over a b c h t = le-leb a c (let k : b ≤ c = leb-true b c t in omega arith)

amounts_less : (xs ys : List Ask) → ((f : Ask → ℕ) → sum_by f ys ≤ sum_by f xs) → (bounds : List Amount)
    → list_all (λ (b : Amount). nat_le (sum_by (λ (a : Ask). amount a.amounts b.name) xs) b.count) bounds ≡ true
    → list_all (λ (b : Amount). nat_le (sum_by (λ (a : Ask). amount a.amounts b.name) ys) b.count) bounds ≡ true
amounts_less xs ys h [] t = refl
amounts_less xs ys h (b ∷ bounds) t =
    let parts = and_parts (nat_le (sum_by (λ (a : Ask). amount a.amounts b.name) xs) b.count) (list_all (λ (c : Amount). nat_le (sum_by (λ (a : Ask). amount a.amounts c.name) xs) c.count) bounds) t in
    and_from (nat_le (sum_by (λ (a : Ask). amount a.amounts b.name) ys) b.count) (list_all (λ (c : Amount). nat_le (sum_by (λ (a : Ask). amount a.amounts c.name) ys) c.count) bounds)
    (le_over (sum_by (λ (a : Ask). amount a.amounts b.name) ys) (sum_by (λ (a : Ask). amount a.amounts b.name) xs) b.count (h (λ (a : Ask). amount a.amounts b.name)) parts.0)
    (amounts_less xs ys h bounds parts.1)

-- what asks for no more is within the bounds too
pub within_less : (cores : ℕ) (bounds : List Amount) (xs ys : List Ask) → ((f : Ask → ℕ) → sum_by f ys ≤ sum_by f xs) → are_within cores bounds xs ≡ true → are_within cores bounds ys ≡ true
within_less cores bounds xs ys h t =
    let parts = and_parts (nat_le (sum_by (λ (a : Ask). threads_in cores a.threads) xs) cores) (list_all (λ (b : Amount). nat_le (sum_by (λ (a : Ask). amount a.amounts b.name) xs) b.count) bounds) t in
    and_from (nat_le (sum_by (λ (a : Ask). threads_in cores a.threads) ys) cores) (list_all (λ (b : Amount). nat_le (sum_by (λ (a : Ask). amount a.amounts b.name) ys) b.count) bounds)
    (le_over (sum_by (λ (a : Ask). threads_in cores a.threads) ys) (sum_by (λ (a : Ask). threads_in cores a.threads) xs) cores (h (λ (a : Ask). threads_in cores a.threads)) parts.0)
    (amounts_less xs ys h bounds parts.1)

amounts_none : (bounds : List Amount) → list_all (λ (b : Amount). nat_le (sum_by (λ (a : Ask). amount a.amounts b.name) []) b.count) bounds ≡ true
amounts_none [] = refl
amounts_none (b ∷ bounds) =
    and_from (nat_le 0 b.count) (list_all (λ (c : Amount). nat_le (sum_by (λ (a : Ask). amount a.amounts c.name) []) c.count) bounds) (le-leb 0 b.count (omega arith)) (amounts_none bounds)

pub within_none : (cores : ℕ) (bounds : List Amount) → are_within cores bounds [] ≡ true
within_none cores bounds =
    and_from (nat_le 0 cores) (list_all (λ (b : Amount). nat_le (sum_by (λ (a : Ask). amount a.amounts b.name) []) b.count) bounds) (le-leb 0 cores (omega arith)) (amounts_none bounds)

-- ## A job that may be started

module _ (s : Standing) (j : ℕ) (may : may_start s j ≡ true) where
  pub may_goes : goes_on s ≡ true
  may_goes = (and_parts (goes_on s) (is_ready s.phases s.befores j && fits s j) may).0

  may_ready : (is_ready s.phases s.befores j ≡ true) × (fits s j ≡ true)
  may_ready = and_parts (is_ready s.phases s.befores j) (fits s j) (and_parts (goes_on s) (is_ready s.phases s.befores j && fits s j) may).1

  may_parts : (stands is_waiting s.phases j ≡ true) × (list_all (stands is_done s.phases) (befores_of s.befores j) ≡ true)
  may_parts = and_parts (stands is_waiting s.phases j) (list_all (stands is_done s.phases) (befores_of s.befores j)) may_ready.0

  pub may_waits : stands is_waiting s.phases j ≡ true
  may_waits = may_parts.0

  pub may_after : list_all (stands is_done s.phases) (befores_of s.befores j) ≡ true
  may_after = may_parts.1

  pub may_fits : fits s j ≡ true
  may_fits = may_ready.1

  pub was_waiting : slice_get s.phases j ≡ Some Waiting
  was_waiting = is_waiting_at s.phases j may_waits

-- what a job asks for, of which there is a phase
pub ask_of : (s : Standing) (j : ℕ) → IsRun s → j < length s.phases → (a : Ask) × (slice_get s.asks j ≡ Some a)
ask_of s j r lt = get_some s.asks j (subst (λ (n : ℕ). j < n) r.as_many lt)

-- ## A run stays one

started_run : (s : Standing) (j : ℕ) → IsRun s → may_start s j ≡ true → IsRun (started s j)
started_run s j r may =
    let a : (a : Ask) × (slice_get s.asks j ≡ Some a) = ask_of s j r (stands_within is_waiting s.phases j (may_waits s j may)) in
    record {
      as_many = length-set s.phases j Running ∙ r.as_many;
      runnable = r.runnable;
      within =
          within_less s.cores s.bounds (asks_running s.asks s.phases ++ a.0 ∷ []) (asks_running s.asks (set s.phases j Running))
          (λ f. le_of (sum_by f (asks_running s.asks s.phases ++ a.0 ∷ [])) (sum_by f (asks_running s.asks (set s.phases j Running))) (sum_begun s.asks s.phases j a.0 a.1 (was_waiting s j may) f))
          (sym (ap (fits_beside s) a.1) ∙ may_fits s j may);
    }
  where
    le_of : (m n : ℕ) → m ≡ n → n ≤ m
    le_of m n e = omega arith

ended_run : (s : Standing) (j : ℕ) (good : Bool) → IsRun s → stands is_running s.phases j ≡ true → IsRun (ended s j good)
ended_run s j good r runs =
    let a : (a : Ask) × (slice_get s.asks j ≡ Some a) = ask_of s j r (stands_within is_running s.phases j runs) in
    record {
      as_many = length-set s.phases j (ending good) ∙ r.as_many;
      runnable = r.runnable;
      within =
          within_less s.cores s.bounds (asks_running s.asks s.phases) (asks_running s.asks (set s.phases j (ending good)))
          (λ f. less (sum_by f (asks_running s.asks (set s.phases j (ending good)))) (sum_by f (a.0 ∷ [])) (sum_by f (asks_running s.asks s.phases))
          (sum_ended s.asks s.phases j a.0 good a.1 (is_running_at s.phases j runs) f ∙ sum_by-append f (asks_running s.asks (set s.phases j (ending good))) (a.0 ∷ [])))
          r.within;
    }
  where
    less : (m x n : ℕ) → n ≡ m + x → m ≤ n
    less m x n e = omega arith

-- counts of jobs that don't wait stay, as jobs are given anew
pub replanned_counts : (s t : Standing) (asks : List Ask) (befores : List (List ℕ)) (moved : List ℕ) → IsRun s → CanReplan s asks befores moved → IsReplanned asks befores moved s t
    → (test : Phase → Bool) → test Waiting ≡ false → count_by test t.phases ≡ count_by test s.phases
replanned_counts s t asks befores moved r can is test none =
    count_phases test asks t.phases is.phases_are.as_many
    ∙ total_carried (if_phase test) (λ a. ap (λ (b : Bool). cond b 1 0) none) moved s.asks asks s.phases t.phases r.as_many can.moves is.phases_are
    ∙ sym (count_phases test s.asks s.phases r.as_many)

replanned_run : (s t : Standing) (asks : List Ask) (befores : List (List ℕ)) (moved : List ℕ) → IsRun s → CanReplan s asks befores moved → IsReplanned asks befores moved s t → IsRun t
replanned_run s t asks befores moved r can is = subst IsRun (sym is.else_is) (record {
  as_many = is.phases_are.as_many;
  runnable = can.runnable;
  within =
      within_less s.cores s.bounds (asks_running s.asks s.phases) (asks_running asks t.phases)
      (λ f. le_of (sum_by f (asks_running s.asks s.phases)) (sum_by f (asks_running asks t.phases)) (same f)) r.within;
})
  where
    le_of : (m n : ℕ) → m ≡ n → n ≤ m
    le_of m n e = omega arith

    same : (f : Ask → ℕ) → sum_by f (asks_running s.asks s.phases) ≡ sum_by f (asks_running asks t.phases)
    same f =
        sum_running f s.asks s.phases
        ∙ sym (total_carried (if_running f) (λ a. refl) moved s.asks asks s.phases t.phases r.as_many can.moves is.phases_are)
        ∙ sym (sum_running f asks t.phases)

pub stays_run : (h : Happening) (s t : Standing) → IsRun s → Happens s h t → IsRun t
stays_run (Answered (Start j)) s t r (may, e) = subst IsRun (sym e) (started_run s j r may)
stays_run (Answered Wait) s t r (none, some, e) = subst IsRun (sym e) r
stays_run (Answered Finished) s t r (none, some, e) = subst IsRun (sym e) r
stays_run (Ended j good) s t r (runs, e) = subst IsRun (sym e) (ended_run s j good r runs)
stays_run Stopped s t r e = subst IsRun (sym e) (record { as_many = r.as_many; runnable = r.runnable; within = r.within })
stays_run (Replanned asks befores moved) s t r (can, is) = replanned_run s t asks befores moved r can is

pub course_run : (hs : List Happening) (s t : Standing) → IsRun s → Course s hs t → IsRun t
course_run [] s t r e = subst IsRun (sym e) r
course_run (h ∷ hs) s t r (m, step, rest) = course_run hs m t (stays_run h s m r step) rest
