-- How a run comes to its end.
use Rattle.std.proofs.Common.{◌≡◌, ℕ, zero, suc, ◌+◌, ◌<◌, ◌≤◌, ◌⊎◌, Bool, true, false, not, ◌&&◌, ◌||◌, cond, List, [], ◌∷◌, ◌++◌, Some, length, set, refl, sym, ap, ◌∙◌, subst, inl, inr, arith}
use Rattle.std.specs.Prelude.{◌==◌}
use Rattle.std.specs.List.{slice_get, list_all, count_by}
use Rattle.std.proofs.lemmas.Bool.{cases_Bool, and_from, and_right, or_parts, eqb-false, ne_eqb}
use Rattle.std.proofs.lemmas.List.Sums.{sum_by-cons}
use Rattle.std.proofs.Math.Nat.{zero-add}
use Rattle.smk_pick.specs.declared.room.Ask.{Ask}
use Rattle.smk_pick.specs.Rooms.{are_within}
use Rattle.smk_core.specs.declared.phase.Phase.{Phase}
use Rattle.smk_core.specs.declared.phase.Phase.TheVariants.{Waiting, Running, Done, Failed}
use Rattle.smk_core.specs.declared.starter.Step.TheVariants.{Start, Wait, Finished}
use Rattle.smk_core.specs.Standing.{Standing, passes, stands, is_waiting, is_running, is_done, is_failed, is_ready, befores_of, asks_running, running, failed, goes_on, fits_beside, fits, may_start, NoneMayStart, started, ended, ending}
use Rattle.smk_core.specs.Replans.{CanReplan, IsReplanned}
use Rattle.smk_core.specs.Course.{Happening, Answered, Ended, Stopped, Replanned, Happens, Course}
use Rattle.smk_core.specs.Laws.{IsRun, left, moves_of, moves_in, is_replan, has_replan}
use Rattle.smk_core.proofs.Gets.{get_some}
use Rattle.smk_core.proofs.Machines.{count_set}
use Rattle.smk_core.proofs.Settling.{stands_within, is_running_at, all_on}
use Rattle.smk_core.proofs.Totals.{if_phase}
use Rattle.smk_core.proofs.Courses.{may_goes, may_waits, was_waiting, ask_of, replanned_counts, stays_run}

-- ## Counts

counted_first : (m n : ℕ) → m ≡ 1 → 0 < m + n
counted_first m n e = omega arith

count_some_by : (test : Phase → Bool) (p : Phase) (phases : List Phase) → 0 < cond (test p) 1 0 + count_by test phases → 0 < count_by test (p ∷ phases)
count_some_by test p phases h = subst (λ (n : ℕ). 0 < n) (sym (sum_by-cons (λ x. cond (test x) 1 0) p phases)) h

pub count_some : (test : Phase → Bool) (phases : List Phase) (j : ℕ) → stands test phases j ≡ true → 0 < count_by test phases
count_some test [] j t = cc
count_some test (p ∷ phases) zero t = count_some_by test p phases (counted_first (cond (test p) 1 0) (count_by test phases) (ap (λ (b : Bool). cond b 1 0) t))
count_some test (p ∷ phases) (suc j) t = count_some_by test p phases (let h : 0 < count_by test phases = count_some test phases j t in omega arith)

pub none_stands : (test : Phase → Bool) (phases : List Phase) (j : ℕ) → count_by test phases ≡ 0 → stands test phases j ≡ false
none_stands test phases j e = go (cases_Bool (stands test phases j))
  where
    go : (stands test phases j ≡ true) ⊎ (stands test phases j ≡ false) → stands test phases j ≡ false
    go (inl t) = absurd (let h : 0 < count_by test phases = count_some test phases j t in omega arith)
    go (inr f) = f

-- no job runs
none_asks_by : (a : Ask) (asks : List Ask) (p : Phase) (phases : List Phase) → (count_by is_running phases ≡ 0 → asks_running asks phases ≡ []) → cond (is_running p) 1 0 + count_by is_running phases ≡ 0 → asks_running (a ∷ asks) (p ∷ phases) ≡ []
none_asks_by a asks Waiting phases rest e = rest (let k : 0 + count_by is_running phases ≡ 0 = e in omega arith)
none_asks_by a asks Running phases rest e = absurd (let k : 1 + count_by is_running phases ≡ 0 = e in omega arith)
none_asks_by a asks Done phases rest e = rest (let k : 0 + count_by is_running phases ≡ 0 = e in omega arith)
none_asks_by a asks Failed phases rest e = rest (let k : 0 + count_by is_running phases ≡ 0 = e in omega arith)

pub none_asks : (asks : List Ask) (phases : List Phase) → count_by is_running phases ≡ 0 → asks_running asks phases ≡ []
none_asks [] phases e = refl
none_asks (a ∷ asks) [] e = refl
none_asks (a ∷ asks) (p ∷ phases) e = none_asks_by a asks p phases (none_asks asks phases) (sym (sum_by-cons (λ x. cond (is_running x) 1 0) p phases) ∙ e)

-- ## Going on

pub off_by : (stopped keep : Bool) (m n : ℕ) → m ≤ n → (not stopped && (keep || m == 0)) ≡ false → (not stopped && (keep || n == 0)) ≡ false
off_by true keep m n le e = refl
off_by false true m n le e = cc
off_by false false m n le e = ne_eqb n 0 (λ d. let z : m ≡ 0 = omega arith in eqb-false m 0 e z)

off_same : (s t : Standing) → goes_on s ≡ false → t ≡ s → goes_on t ≡ false
off_same s t off e = ap goes_on e ∙ off

off_ended : (s : Standing) (j : ℕ) (good : Bool) → IsRun s → stands is_running s.phases j ≡ true → goes_on s ≡ false → goes_on (ended s j good) ≡ false
off_ended s j good r runs off =
    let a : (a : Ask) × (slice_get s.asks j ≡ Some a) = ask_of s j r (stands_within is_running s.phases j runs) in
    let one : count_by is_failed (set s.phases j (ending good)) + 0 ≡ count_by is_failed s.phases + if_phase is_failed a.0 (ending good) = count_set is_failed s.asks s.phases j a.0 Running (ending good) r.as_many a.1 (is_running_at s.phases j runs) in
    off_by s.stopped s.keep_going (failed s) (count_by is_failed (set s.phases j (ending good))) (omega arith) off

off_replanned : (s t : Standing) (asks : List Ask) (befores : List (List ℕ)) (moved : List ℕ) → IsRun s → CanReplan s asks befores moved → IsReplanned asks befores moved s t → goes_on s ≡ false → goes_on t ≡ false
off_replanned s t asks befores moved r can is off =
    ap goes_on is.else_is
    ∙ ap (λ (n : ℕ). not s.stopped && (s.keep_going || n == 0)) (replanned_counts s t asks befores moved r can is is_failed refl)
    ∙ off

off_kept : (h : Happening) (s t : Standing) → IsRun s → Happens s h t → goes_on s ≡ false → goes_on t ≡ false
off_kept (Answered (Start j)) s t r (may, e) off = let on : goes_on s ≡ true = may_goes s j may in cc
off_kept (Answered Wait) s t r (none, some, e) off = off_same s t off e
off_kept (Answered Finished) s t r (none, some, e) off = off_same s t off e
off_kept (Ended j good) s t r (runs, e) off = ap goes_on e ∙ off_ended s j good r runs off
off_kept Stopped s t r e off = ap goes_on e
off_kept (Replanned asks befores moved) s t r (can, is) off = off_replanned s t asks befores moved r can is off

pub off_course : (hs : List Happening) (s t : Standing) → IsRun s → goes_on s ≡ false → Course s hs t → goes_on t ≡ false
off_course [] s t r off e = off_same s t off e
off_course (h ∷ hs) s t r off (m, step, rest) = off_course hs m t (stays_run h s m r step) (off_kept h s m r step off) rest

pub failure_off : (s : Standing) (j : ℕ) → s.keep_going ≡ false → stands is_running s.phases j ≡ true → (test : stands is_failed (set s.phases j Failed) j ≡ true) → goes_on (ended s j false) ≡ false
failure_off s j keep runs test =
    let some : 0 < count_by is_failed (set s.phases j Failed) = count_some is_failed (set s.phases j Failed) j test in
    and_right (not s.stopped) (s.keep_going || count_by is_failed (set s.phases j Failed) == 0)
    (ap (λ (b : Bool). b || count_by is_failed (set s.phases j Failed) == 0) keep ∙ ne_eqb (count_by is_failed (set s.phases j Failed)) 0 (λ e. omega arith))

-- ## How much is left

less_started : (s : Standing) (j : ℕ) → IsRun s → may_start s j ≡ true → 1 + left (started s j) ≡ left s
less_started s j r may =
    let a : (a : Ask) × (slice_get s.asks j ≡ Some a) = ask_of s j r (stands_within is_waiting s.phases j (may_waits s j may)) in
    let waits : count_by is_waiting (set s.phases j Running) + 1 ≡ count_by is_waiting s.phases + 0 = count_set is_waiting s.asks s.phases j a.0 Waiting Running r.as_many a.1 (was_waiting s j may) in
    let runs : count_by is_running (set s.phases j Running) + 0 ≡ count_by is_running s.phases + 1 = count_set is_running s.asks s.phases j a.0 Waiting Running r.as_many a.1 (was_waiting s j may) in
    omega arith

less_ended : (s : Standing) (j : ℕ) (good : Bool) → IsRun s → stands is_running s.phases j ≡ true → 1 + left (ended s j good) ≡ left s
less_ended s j true r runs =
    let a : (a : Ask) × (slice_get s.asks j ≡ Some a) = ask_of s j r (stands_within is_running s.phases j runs) in
    let one : count_by is_waiting (set s.phases j Done) + 0 ≡ count_by is_waiting s.phases + 0 = count_set is_waiting s.asks s.phases j a.0 Running Done r.as_many a.1 (is_running_at s.phases j runs) in
    let two : count_by is_running (set s.phases j Done) + 1 ≡ count_by is_running s.phases + 0 = count_set is_running s.asks s.phases j a.0 Running Done r.as_many a.1 (is_running_at s.phases j runs) in
    omega arith
less_ended s j false r runs =
    let a : (a : Ask) × (slice_get s.asks j ≡ Some a) = ask_of s j r (stands_within is_running s.phases j runs) in
    let one : count_by is_waiting (set s.phases j Failed) + 0 ≡ count_by is_waiting s.phases + 0 = count_set is_waiting s.asks s.phases j a.0 Running Failed r.as_many a.1 (is_running_at s.phases j runs) in
    let two : count_by is_running (set s.phases j Failed) + 1 ≡ count_by is_running s.phases + 0 = count_set is_running s.asks s.phases j a.0 Running Failed r.as_many a.1 (is_running_at s.phases j runs) in
    omega arith

less : (h : Happening) (s t : Standing) → IsRun s → is_replan h ≡ false → Happens s h t → moves_of h + left t ≡ left s
less (Answered (Start j)) s t r no_plan (may, e) = ap (λ (x : Standing). 1 + left x) e ∙ less_started s j r may
less (Answered Wait) s t r no_plan (none, some, e) = ap (λ (x : Standing). 0 + left x) e ∙ zero-add (left s)
less (Answered Finished) s t r no_plan (none, some, e) = ap (λ (x : Standing). 0 + left x) e ∙ zero-add (left s)
less (Ended j good) s t r no_plan (runs, e) = ap (λ (x : Standing). 1 + left x) e ∙ less_ended s j good r runs
less Stopped s t r no_plan e = ap (λ (x : Standing). 0 + left x) e ∙ zero-add (left s)
less (Replanned asks befores moved) s t r no_plan step = cc

pub less_course : (hs : List Happening) (s t : Standing) → IsRun s → has_replan hs ≡ false → Course s hs t → moves_in hs + left t ≡ left s
less_course [] s t r no_plan e = ap (λ (x : Standing). 0 + left x) e ∙ zero-add (left s)
less_course (h ∷ hs) s t r no_plan (m, step, rest) =
    let parts : (is_replan h ≡ false) × (has_replan hs ≡ false) = or_parts (is_replan h) (has_replan hs) no_plan in
    let here : moves_of h + left m ≡ left s = less h s m r parts.0 step in
    let later : moves_in hs + left t ≡ left m = less_course hs m t (stays_run h s m r step) parts.1 rest in
    three (moves_of h) (moves_in hs) (left t) (left m) (left s) here later
  where
    three : (a b c d e : ℕ) → a + d ≡ e → b + c ≡ d → a + b + c ≡ e
    three a b c d e h k = omega arith

-- ## All done

module _ (s : Standing) (r : IsRun s) (on : goes_on s ≡ true) (idle : running s ≡ 0) (fine : failed s ≡ 0) (none : NoneMayStart s) where
  fits_alone : (j : ℕ) (a : Ask) → slice_get s.asks j ≡ Some a → fits s j ≡ true
  fits_alone j a e = ap (fits_beside s) e ∙ ap (λ (xs : List Ask). are_within s.cores s.bounds (xs ++ a ∷ [])) (none_asks s.asks s.phases idle) ∙ r.runnable.alone j a e

  trues : (xs : List ℕ) → list_all (λ i. true) xs ≡ true
  trues [] = refl
  trues (x ∷ xs) = trues xs

  not_waiting : (j : ℕ) (a : Ask) → slice_get s.asks j ≡ Some a → slice_get s.phases j ≡ Some Waiting → ((i : ℕ) → i < j → stands is_done s.phases i ≡ true) → ⊥
  not_waiting j a e w before =
      let done : list_all (stands is_done s.phases) (befores_of s.befores j) ≡ true = all_on (stands is_done s.phases) (λ i. true) (befores_of s.befores j) (λ i t. before i (r.runnable.earlier j i t)) ∙ trues (befores_of s.befores j) in
      let ready : is_ready s.phases s.befores j ≡ true = and_from (stands is_waiting s.phases j) (list_all (stands is_done s.phases) (befores_of s.befores j)) (ap (passes is_waiting) w) done in
      let may : may_start s j ≡ true = and_from (goes_on s) (is_ready s.phases s.befores j && fits s j) on (and_from (is_ready s.phases s.befores j) (fits s j) ready (fits_alone j a e)) in
      let not_may : may_start s j ≡ false = none j in
      cc

  done_by : (j : ℕ) (a : Ask) (p : Phase) → slice_get s.asks j ≡ Some a → slice_get s.phases j ≡ Some p → ((i : ℕ) → i < j → stands is_done s.phases i ≡ true) → stands is_done s.phases j ≡ true
  done_by j a Waiting e w before = absurd (not_waiting j a e w before)
  done_by j a Running e w before = absurd (let h : 0 < count_by is_running s.phases = count_some is_running s.phases j (ap (passes is_running) w) in let z : count_by is_running s.phases ≡ 0 = idle in omega arith)
  done_by j a Done e w before = ap (passes is_done) w
  done_by j a Failed e w before = absurd (let h : 0 < count_by is_failed s.phases = count_some is_failed s.phases j (ap (passes is_failed) w) in let z : count_by is_failed s.phases ≡ 0 = fine in omega arith)

  done_at : (n j : ℕ) → ((i : ℕ) → i < n → n ≤ length s.asks → stands is_done s.phases i ≡ true) → j < suc n → suc n ≤ length s.asks → stands is_done s.phases j ≡ true
  done_at n j below lt le =
      let a : (a : Ask) × (slice_get s.asks j ≡ Some a) = get_some s.asks j (omega arith) in
      let p : (p : Phase) × (slice_get s.phases j ≡ Some p) = get_some s.phases j (let m : length s.phases ≡ length s.asks = r.as_many in omega arith) in
      done_by j a.0 p.0 a.1 p.1 (λ i less. below i (omega arith) (omega arith))

  done_below : (n j : ℕ) → j < n → n ≤ length s.asks → stands is_done s.phases j ≡ true
  done_below zero j lt le = absurd (omega arith)
  done_below (suc n) j lt le = done_at n j (done_below n) lt le

  pub all_done : (j : ℕ) → j < length s.asks → stands is_done s.phases j ≡ true
  all_done j lt = done_below (length s.asks) j lt (omega arith)
