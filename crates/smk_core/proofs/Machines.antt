-- What the machine keeps, as jobs begin and end and are given anew.
use Rattle.std.proofs.Common.{◌≡◌, ℕ, zero, suc, ◌+◌, ◌-◌, ◌<◌, ◌≤◌, Bool, true, false, not, ◌&&◌, ◌||◌, cond, List, [], ◌∷◌, ◌++◌, Option, Some, None, length, set, map, replicate, refl, sym, ap, ◌∙◌, subst, arith, length-set, append-nil, MatchOption, add-zero}
use Rattle.std.specs.Prelude.{nat_lt, ◌==◌}
use Rattle.std.specs.List.{slice_get, sum_by, count_by}
use Rattle.std.proofs.lemmas.Bool.{and_parts, lt-ltb, ne_eqb}
use Rattle.std.proofs.lemmas.List.Sums.{sum_by-append, sum_by-cons}
use Rattle.std.proofs.lemmas.List.{length-replicate}
use Rattle.smk_base.specs.declared.tree.Amount.{Amount}
use Rattle.smk_pick.specs.declared.room.Ask.{Ask}
use Rattle.smk_pick.specs.declared.room.Room.{Room}
use Rattle.smk_pick.specs.declared.room.Share.{Share}
use Rattle.smk_pick.specs.Rooms.{amount, threads_in}
use Rattle.smk_pick.specs.Shares.{share_of, Holds, is_used_in}
use Rattle.smk_pick.proofs.Holding.{fits_is, held_in_use}
use Rattle.smk_core.specs.declared.phase.Phase.{Phase}
use Rattle.smk_core.specs.declared.phase.Phase.TheVariants.{Waiting, Running, Done, Failed}
use Rattle.smk_core.specs.declared.place.TheConstants.{NONE}
use Rattle.smk_core.specs.Lines.{Roll, fits_room, is_next, IsBestReady, roll, with_phases}
use Rattle.smk_core.specs.Machine.{bounds_of, standing_of, IsMachine}
use Rattle.smk_core.specs.Replans.{Moves, IsCarried}
use Rattle.smk_core.specs.Standing.{Standing, stands, is_waiting, is_running, is_failed, is_ready, asks_running, goes_on, fits_beside, fits, may_start, NoneMayStart, IsFirst, ending, begun}
use Rattle.smk_core.proofs.Totals.{total, if_running, if_phase, sum_running, count_phases, total_set, total_carried}

-- ## What a room holds

same_shares : (xs ys : List Ask) → ((f : Ask → ℕ) → sum_by f xs ≡ sum_by f ys) → (bounds : List Amount) → map (share_of xs) bounds ≡ map (share_of ys) bounds
same_shares xs ys e [] = refl
same_shares xs ys e (b ∷ bounds) = λ i. record { bound = b; used = e (λ (a : Ask). amount a.amounts b.name) i } ∷ same_shares xs ys e bounds i

-- only the sums count
pub holds_same : (cores : ℕ) (bounds : List Amount) (room : Room) (xs ys : List Ask) → ((f : Ask → ℕ) → sum_by f xs ≡ sum_by f ys) → Holds cores bounds room xs → Holds cores bounds room ys
holds_same cores bounds room xs ys e h = record {
  cores_are = h.cores_are;
  threads_are = h.threads_are ∙ e (λ (a : Ask). threads_in cores a.threads);
  shares_are = h.shares_are ∙ same_shares xs ys e bounds;
}

bounds_same : (xs : List Ask) (bounds : List Amount) → map (λ (s : Share). s.bound) (map (share_of xs) bounds) ≡ bounds
bounds_same xs [] = refl
bounds_same xs (b ∷ bounds) = λ i. b ∷ bounds_same xs bounds i

-- the cores and bounds of a room are those that it holds something within
pub bounds_are : (cores : ℕ) (bounds : List Amount) (room : Room) (xs : List Ask) → Holds cores bounds room xs → bounds_of room ≡ bounds
bounds_are cores bounds room xs h = ap (map (λ (s : Share). s.bound)) h.shares_are ∙ bounds_same xs bounds

pub holds_own : (cores : ℕ) (bounds : List Amount) (room : Room) (xs : List Ask) → Holds cores bounds room xs → Holds room.cores (bounds_of room) room xs
holds_own cores bounds room xs h =
    let to : ℕ → List Amount → Type 0 = λ c b. Holds c b room xs in
    subst (λ (c : ℕ). to c (bounds_of room)) (sym h.cores_are) (subst (to cores) (sym (bounds_are cores bounds room xs h)) h)

-- ## Sums as a job begins or ends

pub sum_begun : (asks : List Ask) (phases : List Phase) (j : ℕ) (a : Ask) → slice_get asks j ≡ Some a → slice_get phases j ≡ Some Waiting
    → (f : Ask → ℕ) → sum_by f (asks_running asks phases ++ a ∷ []) ≡ sum_by f (asks_running asks (set phases j Running))
sum_begun asks phases j a e d f =
    let one : total (if_running f) asks (set phases j Running) + 0 ≡ total (if_running f) asks phases + f a = total_set (if_running f) asks phases j a Waiting Running e d in
    sum_by-append f (asks_running asks phases) (a ∷ [])
    ∙ ap (λ (n : ℕ). n + sum_by f (a ∷ [])) (sum_running f asks phases)
    ∙ ap (λ (n : ℕ). total (if_running f) asks phases + n) (sum_by-cons f a [] ∙ add-zero (f a))
    ∙ sym one ∙ add-zero (total (if_running f) asks (set phases j Running))
    ∙ sym (sum_running f asks (set phases j Running))

-- it runs no more, however it stands
pub sum_ended : (asks : List Ask) (phases : List Phase) (j : ℕ) (a : Ask) (good : Bool) → slice_get asks j ≡ Some a → slice_get phases j ≡ Some Running
    → (f : Ask → ℕ) → sum_by f (asks_running asks phases) ≡ sum_by f (asks_running asks (set phases j (ending good)) ++ a ∷ [])
sum_ended asks phases j a good e d f =
    let one : total (if_running f) asks (set phases j (ending good)) + f a ≡ total (if_running f) asks phases + if_running f a (ending good) = total_set (if_running f) asks phases j a Running (ending good) e d in
    sum_running f asks phases
    ∙ sym (ap (λ (n : ℕ). total (if_running f) asks phases + n) (not_running good) ∙ add-zero (total (if_running f) asks phases))
    ∙ sym one
    ∙ ap (λ (n : ℕ). n + f a) (sym (sum_running f asks (set phases j (ending good))))
    ∙ ap (λ (n : ℕ). sum_by f (asks_running asks (set phases j (ending good))) + n) (sym (sum_by-cons f a [] ∙ add-zero (f a)))
    ∙ sym (sum_by-append f (asks_running asks (set phases j (ending good))) (a ∷ []))
  where
    not_running : (b : Bool) → if_running f a (ending b) ≡ 0
    not_running true = refl
    not_running false = refl

-- ## Counts

pub count_set : (test : Phase → Bool) (asks : List Ask) (phases : List Phase) (j : ℕ) (a : Ask) (old new : Phase) → length phases ≡ length asks → slice_get asks j ≡ Some a → slice_get phases j ≡ Some old
    → count_by test (set phases j new) + if_phase test a old ≡ count_by test phases + if_phase test a new
count_set test asks phases j a old new many e d =
    ap (λ (n : ℕ). n + if_phase test a old) (count_phases test asks (set phases j new) (length-set phases j new ∙ many))
    ∙ total_set (if_phase test) asks phases j a old new e d
    ∙ ap (λ (n : ℕ). n + if_phase test a new) (sym (count_phases test asks phases many))

-- ## The machine

module _ (room now : Room) (jobs : Roll) (count : ℕ) (bad : Bool) (h : IsMachine room jobs count bad) (j : ℕ) (a : Ask) (ask_is : slice_get jobs.asks j ≡ Some a) where
  abbrev phases_with : Phase → Roll
  phases_with p = with_phases jobs (set jobs.phases j p)

  few_with : (p : Phase) → length (set jobs.phases j p) ≤ NONE
  few_with p = subst (λ (n : ℕ). n ≤ NONE) (sym (length-set jobs.phases j p)) h.few

  pub begun_machine : slice_get jobs.phases j ≡ Some Waiting → Holds room.cores (bounds_of room) now (asks_running jobs.asks jobs.phases ++ a ∷ []) → IsMachine now (phases_with Running) (count + 1) bad
  begun_machine was held = record {
    held = holds_own room.cores (bounds_of room) now (asks_running jobs.asks (set jobs.phases j Running))
        (holds_same room.cores (bounds_of room) now (asks_running jobs.asks jobs.phases ++ a ∷ []) (asks_running jobs.asks (set jobs.phases j Running)) (sum_begun jobs.asks jobs.phases j a ask_is was) held);
    as_many = length-set jobs.phases j Running ∙ h.as_many;
    few = few_with Running;
    running_are = ap (λ (n : ℕ). n + 1) h.running_are ∙ sym (count_set is_running jobs.asks jobs.phases j a Waiting Running h.as_many ask_is was) ∙ add-zero (count_by is_running (set jobs.phases j Running));
    failed_are = h.failed_are ∙ ap (nat_lt 0) (sym (sym (add-zero (count_by is_failed (set jobs.phases j Running))) ∙ count_set is_failed jobs.asks jobs.phases j a Waiting Running h.as_many ask_is was ∙ add-zero (count_by is_failed jobs.phases)));
  }

  -- in use as it ends
  pub ended_in_use : slice_get jobs.phases j ≡ Some Running → (good : Bool) → Holds room.cores (bounds_of room) room (asks_running jobs.asks (set jobs.phases j (ending good)) ++ a ∷ [])
  ended_in_use was good =
      holds_same room.cores (bounds_of room) room (asks_running jobs.asks jobs.phases) (asks_running jobs.asks (set jobs.phases j (ending good)) ++ a ∷ []) (sum_ended jobs.asks jobs.phases j a good ask_is was) h.held

  pub given_back : slice_get jobs.phases j ≡ Some Running → is_used_in room a ≡ true
  given_back was = held_in_use room.cores (bounds_of room) room (asks_running jobs.asks (set jobs.phases j (ending true))) a [] (ended_in_use was true)

  pub some_runs : slice_get jobs.phases j ≡ Some Running → 0 < count
  some_runs was =
      let one : count_by is_running (set jobs.phases j Waiting) + 1 ≡ count_by is_running jobs.phases + 0 = count_set is_running jobs.asks jobs.phases j a Running Waiting h.as_many ask_is was in
      let count_is : count ≡ count_by is_running jobs.phases = h.running_are in
      omega arith

  fewer : slice_get jobs.phases j ≡ Some Running → (good : Bool) → count - 1 ≡ count_by is_running (set jobs.phases j (ending good))
  fewer was true =
      let one : count_by is_running (set jobs.phases j Done) + 1 ≡ count_by is_running jobs.phases + 0 = count_set is_running jobs.asks jobs.phases j a Running Done h.as_many ask_is was in
      let count_is : count ≡ count_by is_running jobs.phases = h.running_are in
      omega arith
  fewer was false =
      let one : count_by is_running (set jobs.phases j Failed) + 1 ≡ count_by is_running jobs.phases + 0 = count_set is_running jobs.asks jobs.phases j a Running Failed h.as_many ask_is was in
      let count_is : count ≡ count_by is_running jobs.phases = h.running_are in
      omega arith

  worse : slice_get jobs.phases j ≡ Some Running → (good : Bool) → (bad || not good) ≡ nat_lt 0 (count_by is_failed (set jobs.phases j (ending good)))
  worse was true =
      let one : count_by is_failed (set jobs.phases j Done) + 0 ≡ count_by is_failed jobs.phases + 0 = count_set is_failed jobs.asks jobs.phases j a Running Done h.as_many ask_is was in
      let same : count_by is_failed jobs.phases ≡ count_by is_failed (set jobs.phases j Done) = omega arith in
      or_false bad ∙ h.failed_are ∙ ap (nat_lt 0) same
    where
      or_false : (b : Bool) → (b || false) ≡ b
      or_false true = refl
      or_false false = refl
  worse was false =
      let one : count_by is_failed (set jobs.phases j Failed) + 0 ≡ count_by is_failed jobs.phases + 1 = count_set is_failed jobs.asks jobs.phases j a Running Failed h.as_many ask_is was in
      let some : 0 < count_by is_failed (set jobs.phases j Failed) = omega arith in
      or_true bad ∙ sym (lt-ltb 0 (count_by is_failed (set jobs.phases j Failed)) some)
    where
      or_true : (b : Bool) → (b || true) ≡ true
      or_true true = refl
      or_true false = refl

  pub ended_machine : slice_get jobs.phases j ≡ Some Running → (good : Bool) → Holds room.cores (bounds_of room) now (asks_running jobs.asks (set jobs.phases j (ending good)) ++ []) → IsMachine now (phases_with (ending good)) (count - 1) (bad || not good)
  ended_machine was good held = record {
    held = holds_own room.cores (bounds_of room) now (asks_running jobs.asks (set jobs.phases j (ending good)))
        (subst (Holds room.cores (bounds_of room) now) (append-nil (asks_running jobs.asks (set jobs.phases j (ending good)))) held);
    as_many = length-set jobs.phases j (ending good) ∙ h.as_many;
    few = few_with (ending good);
    running_are = fewer was good;
    failed_are = worse was good;
  }

-- ## As it begins

pub none_running : (asks : List Ask) (n : ℕ) → asks_running asks (replicate n Waiting) ≡ []
none_running [] n = refl
none_running (a ∷ asks) zero = refl
none_running (a ∷ asks) (suc n) = none_running asks n

none_counted : (test : Phase → Bool) → test Waiting ≡ false → (n : ℕ) → count_by test (replicate n Waiting) ≡ 0
none_counted test e zero = refl
none_counted test e (suc n) = sum_by-cons (λ x. cond (test x) 1 0) Waiting (replicate n Waiting) ∙ ap (λ (b : Bool). cond b 1 0 + count_by test (replicate n Waiting)) e ∙ ap (λ (m : ℕ). 0 + m) (none_counted test e n)

pub new_machine : (cores : ℕ) (bounds : List Amount) (room : Room) (asks : List Ask) (befores : List (List ℕ)) → Holds cores bounds room [] → length asks ≤ NONE
    → IsMachine room (roll asks befores (replicate (length asks) Waiting)) 0 false
new_machine cores bounds room asks befores held few = record {
  held = holds_own cores bounds room (asks_running asks (replicate (length asks) Waiting)) (subst (Holds cores bounds room) (sym (none_running asks (length asks))) held);
  as_many = length-replicate (length asks) Waiting;
  few = subst (λ (n : ℕ). n ≤ NONE) (sym (length-replicate (length asks) Waiting)) few;
  running_are = sym (none_counted is_running refl (length asks));
  failed_are = ap (nat_lt 0) (sym (none_counted is_failed refl (length asks)));
}

pub new_standing : (cores : ℕ) (bounds : List Amount) (room : Room) (keep_going : Bool) (asks : List Ask) (befores : List (List ℕ)) → Holds cores bounds room []
    → standing_of room keep_going false (roll asks befores (replicate (length asks) Waiting)) ≡ begun cores bounds keep_going asks befores
new_standing cores bounds room keep_going asks befores held =
    λ i. record (begun cores bounds keep_going asks befores) { cores = held.cores_are i; bounds = bounds_are cores bounds room [] held i }

-- ## Jobs given anew

pub replanned_machine : (room : Room) (jobs : Roll) (count : ℕ) (bad : Bool) (asks : List Ask) (befores : List (List ℕ)) (moved : List ℕ) (made : List Phase) → IsMachine room jobs count bad
    → Moves moved jobs.asks asks → IsCarried moved (length asks) jobs.phases made → length made ≤ NONE → IsMachine room (roll asks befores made) count bad
replanned_machine room jobs count bad asks befores moved made h moves c few = record {
  held = holds_same room.cores (bounds_of room) room (asks_running jobs.asks jobs.phases) (asks_running asks made) same_sums h.held;
  as_many = c.as_many;
  few = few;
  running_are = h.running_are ∙ same_counts is_running refl;
  failed_are = h.failed_are ∙ ap (nat_lt 0) (same_counts is_failed refl);
}
  where
    same_sums : (f : Ask → ℕ) → sum_by f (asks_running jobs.asks jobs.phases) ≡ sum_by f (asks_running asks made)
    same_sums f =
        sum_running f jobs.asks jobs.phases
        ∙ sym (total_carried (if_running f) (λ a. refl) moved jobs.asks asks jobs.phases made h.as_many moves c)
        ∙ sym (sum_running f asks made)

    same_counts : (test : Phase → Bool) → test Waiting ≡ false → count_by test jobs.phases ≡ count_by test made
    same_counts test e =
        count_phases test jobs.asks jobs.phases h.as_many
        ∙ sym (total_carried (if_phase test) (λ a. ap (λ (b : Bool). cond b 1 0) e) moved jobs.asks asks jobs.phases made h.as_many moves c)
        ∙ sym (count_phases test asks made c.as_many)

-- ## What is next

pub goes_on_is : (stopped keep_going bad : Bool) (n : ℕ) → bad ≡ nat_lt 0 n → (not stopped && (keep_going || not bad)) ≡ (not stopped && (keep_going || n == 0))
goes_on_is stopped keep_going bad n e = ap (λ (b : Bool). not stopped && (keep_going || b)) (ap not e ∙ not_some n)
  where
    not_some : (n : ℕ) → not (nat_lt 0 n) ≡ (n == 0)
    not_some zero = refl
    not_some (suc n) = ap not (lt-ltb 0 (suc n) (omega arith)) ∙ sym (ne_eqb (suc n) 0 (λ e. omega arith))

module _ (room : Room) (jobs : Roll) (keep_going stopped : Bool) (count : ℕ) (bad : Bool) (h : IsMachine room jobs count bad) where
  abbrev here : Standing
  here = standing_of room keep_going stopped jobs

  fits_same : (o : Option Ask) → fits_room room o ≡ fits_beside here o
  fits_same None = refl
  fits_same (Some a) = fits_is room.cores (bounds_of room) room (asks_running jobs.asks jobs.phases) a h.held

  pub next_same : (j : ℕ) → is_next jobs room j ≡ (is_ready jobs.phases jobs.befores j && fits here j)
  next_same j = ap (λ (b : Bool). is_ready jobs.phases jobs.befores j && b) (fits_same (slice_get jobs.asks j))

  pub none_goes : goes_on here ≡ false → NoneMayStart here
  none_goes e j = ap (λ (b : Bool). b && (is_ready jobs.phases jobs.befores j && fits here j)) e

  may_same : goes_on here ≡ true → (j : ℕ) → may_start here j ≡ is_next jobs room j
  may_same e j = ap (λ (b : Bool). b && (is_ready jobs.phases jobs.befores j && fits here j)) e ∙ sym (next_same j)

  pub first_is : goes_on here ≡ true → (r : Option ℕ) → IsBestReady jobs room r → MatchOption r (NoneMayStart here) (λ j. (may_start here j ≡ true) × IsFirst here j)
  first_is e None b = λ j. may_same e j ∙ b j
  first_is e (Some j) b = (may_same e j ∙ b.0, λ k t. b.1 k (sym (may_same e k) ∙ t))

  -- what may be started waits, and fits
  pub may_waits : (j : ℕ) → may_start here j ≡ true → stands is_waiting jobs.phases j ≡ true
  may_waits j t =
      let ready : (is_ready jobs.phases jobs.befores j && fits here j) ≡ true = (and_parts (goes_on here) (is_ready jobs.phases jobs.befores j && fits here j) t).1 in
      let r : is_ready jobs.phases jobs.befores j ≡ true = (and_parts (is_ready jobs.phases jobs.befores j) (fits here j) ready).0 in
      (and_parts (stands is_waiting jobs.phases j) _ r).0

  pub may_fits : (j : ℕ) → may_start here j ≡ true → fits_room room (slice_get jobs.asks j) ≡ true
  may_fits j t =
      let ready : (is_ready jobs.phases jobs.befores j && fits here j) ≡ true = (and_parts (goes_on here) (is_ready jobs.phases jobs.befores j && fits here j) t).1 in
      fits_same (slice_get jobs.asks j) ∙ (and_parts (is_ready jobs.phases jobs.befores j) (fits here j) ready).1

-- only the phases change
pub changed_standing : (room now : Room) (keep_going stopped : Bool) (jobs new : Roll) (phases : List Phase) (xs : List Ask) → Holds room.cores (bounds_of room) now xs → new ≡ with_phases jobs phases
    → standing_of now keep_going stopped new ≡ record (standing_of room keep_going stopped jobs) { phases = phases }
changed_standing room now keep_going stopped jobs new phases xs held e = λ i. record {
  cores = held.cores_are i;
  bounds = bounds_are room.cores (bounds_of room) now xs held i;
  keep_going = keep_going;
  stopped = stopped;
  asks = (e i).asks;
  befores = (e i).befores;
  phases = (e i).phases;
}
