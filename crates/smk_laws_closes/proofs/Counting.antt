-- The counts once the end of a job was counted, what is kept once an answer was heeded, and the places that are left.
use Rattle.std.proofs.Common.{◌≡◌, ◌+◌, ℕ, Bool, true, false, ◌||◌, not, List, [], ◌∷◌, ◌++◌, filter, length, refl, arith, sym, ap, ◌∙◌, nat_eq, eqb-true, Option, Some, None, Result, Ok, Err, append-nil, append_assoc}
use Rattle.std.proofs.lemmas.Option.{same_Some}
use Rattle.std.specs.Prelude.{if◌then◌else◌}
use Rattle.smk_world.specs.Trees.{first}
use Rattle.smk_flow.specs.declared.job.Job.{Job}
use Rattle.smk_flow.specs.Flows.{Flow}
use Rattle.smk_report.specs.declared.fault.Fault.{Fault}
use Rattle.smk_run.specs.declared.ending.Ending.{Ending as End}
use Rattle.smk_run.specs.declared.ending.Ending.TheVariants.{BadMember, Good, NoOutput, Status, WrongKind}
use Rattle.smk_run.specs.declared.tally.Tally.{Tally}
use Rattle.smk_drive_step.specs.declared.children.Child.{Child}
use Rattle.smk_drive_step.specs.Crews.{IsPutFor, halted_by, is_device, or_later}
use Rattle.smk_drive_course.specs.Steps.{Closed, Deed}
use Rattle.smk_drive_course.specs.Reports.{deed_faults, failures, is_done, is_started}
use Rattle.smk_drive.specs.Lawful.{is_good_end}
use Rattle.smk_laws_turns.specs.Hubs.{IsCountOf, Parts, ask_in, asks_in}
use Rattle.smk_drive_hub.specs.Keeping.{heeded}
use Rattle.smk_laws_turns.specs.Resting.{fault_of}
use Rattle.smk_laws_closes.specs.Endings.{told_end}
use Rattle.smk_laws_closes.specs.Closes.{counted_end, first_failure}

-- ## Counts

one_longer : {A : Type 0} (xs : List A) (x : A) → length (xs ++ x ∷ []) ≡ length xs + 1
one_longer [] x = refl
one_longer (y ∷ xs) x = omega (arith, one_longer xs x)

filter_end : {A : Type 0} (f : A → Bool) (xs ys : List A) → filter f (xs ++ ys) ≡ filter f xs ++ filter f ys
filter_end f [] ys = refl
filter_end f (x ∷ xs) ys = go (f x) (filter_end f xs ys)
  where
    go :
        (b : Bool) → filter f (xs ++ ys) ≡ filter f xs ++ filter f ys →
        (if b then x ∷ filter f (xs ++ ys) else filter f (xs ++ ys)) ≡ (if b then x ∷ filter f xs else filter f xs) ++ filter f ys
    go true h = ap (λ zs. x ∷ zs) h
    go false h = h

failures_end : (flow : Flow) (deeds : List Deed) (d : Deed) → failures flow (deeds ++ d ∷ []) ≡ failures flow deeds ++ deed_faults flow d
failures_end flow [] d = append-nil (deed_faults flow d)
failures_end flow (x ∷ deeds) d =
    ap (λ fs. deed_faults flow x ++ fs) (failures_end flow deeds d) ∙ sym (append_assoc (deed_faults flow x) (failures flow deeds) (deed_faults flow d))

first_end : (fs : List Fault) (f : Fault) → first (fs ++ f ∷ []) ≡ first_failure (first fs) (Some f)
first_end [] f = refl
first_end (g ∷ fs) f = refl

none_more : {A : Type 0} (f : A → Bool) (xs ys : List A) → filter f ys ≡ [] → length (filter f xs) ≡ length (filter f (xs ++ ys))
none_more f xs ys none = ap length (sym (filter_end f xs ys ∙ (ap (λ zs. filter f xs ++ zs) none ∙ append-nil (filter f xs))))

-- a job failed, with this fault
failed_more :
    (flow : Flow) (deeds : List Deed) (d : Deed) (f : Fault) (t : Tally) → is_started d ≡ false → is_done d ≡ false → deed_faults flow d ≡ f ∷ [] →
    IsCountOf flow deeds t → IsCountOf flow (deeds ++ d ∷ []) (record t { failed = t.failed + 1; first = first_failure t.first (Some f) })
failed_more flow deeds d f t unstarted undone faults counted =
    let more = failures_end flow deeds d ∙ ap (λ fs. failures flow deeds ++ fs) faults in
    record {
      started = counted.started ∙ none_more is_started deeds (d ∷ []) (ap (λ (b : Bool). if b then d ∷ [] else []) unstarted);
      done = counted.done ∙ none_more is_done deeds (d ∷ []) (ap (λ (b : Bool). if b then d ∷ [] else []) undone);
      failed = ap (λ n. n + 1) counted.failed ∙ (sym (one_longer (failures flow deeds) f) ∙ ap length (sym more));
      first_one = ap (λ o. first_failure o (Some f)) counted.first_one ∙ (sym (first_end (failures flow deeds) f) ∙ ap first (sym more));
    }

pub counted_more : (flow : Flow) (deeds : List Deed) (j : Job) (how : End) (t : Tally) → IsCountOf flow deeds t →
    IsCountOf flow (deeds ++ Closed j (told_end how) ∷ []) (counted_end flow j how t)
counted_more flow deeds j Good t counted =
    let d = Closed j (told_end Good) in
    let same = failures_end flow deeds d ∙ append-nil (failures flow deeds) in
    record {
      started = counted.started ∙ none_more is_started deeds (d ∷ []) refl;
      done = ap (λ n. n + 1) counted.done ∙ (sym (one_longer (filter is_done deeds) d) ∙ ap length (sym (filter_end is_done deeds (d ∷ []))));
      failed = counted.failed ∙ ap length (sym same);
      first_one = counted.first_one ∙ ap first (sym same);
    }
counted_more flow deeds j (Status n) t counted = failed_more flow deeds (Closed j (told_end (Status n))) _ t refl refl refl counted
counted_more flow deeds j (NoOutput p) t counted = failed_more flow deeds (Closed j (told_end (NoOutput p))) _ t refl refl refl counted
counted_more flow deeds j (WrongKind p) t counted = failed_more flow deeds (Closed j (told_end (WrongKind p))) _ t refl refl refl counted
counted_more flow deeds j (BadMember p) t counted = failed_more flow deeds (Closed j (told_end (BadMember p))) _ t refl refl refl counted

-- a job has failed just where one is counted
some_failed : (n : ℕ) → true ≡ not (nat_eq (n + 1) 0)
some_failed n = go (nat_eq (n + 1) 0) refl
  where
    go : (b : Bool) → nat_eq (n + 1) 0 ≡ b → true ≡ not b
    go false e = refl
    go true e = absurd (never (eqb-true (n + 1) 0 e))
      where
        never : n + 1 ≡ 0 → ⊥
        never h = omega (arith, h)

or_true : (b : Bool) → (b || true) ≡ true
or_true true = refl
or_true false = refl

or_false : (b : Bool) → (b || false) ≡ b
or_false true = refl
or_false false = refl

pub failing_more : (flow : Flow) (j : Job) (how : End) (t : Tally) (bad : Bool) → bad ≡ not (nat_eq t.failed 0) →
    (bad || not (is_good_end (Some (told_end how)))) ≡ not (nat_eq (counted_end flow j how t).failed 0)
failing_more flow j Good t bad h = or_false bad ∙ h
failing_more flow j (Status n) t bad h = or_true bad ∙ some_failed t.failed
failing_more flow j (NoOutput p) t bad h = or_true bad ∙ some_failed t.failed
failing_more flow j (WrongKind p) t bad h = or_true bad ∙ some_failed t.failed
failing_more flow j (BadMember p) t bad h = or_true bad ∙ some_failed t.failed

-- ## Answers

pub heeded_live : (a : Result (Unit {0}) Fault) (h : Parts) → (heeded a h).live ≡ h.live
heeded_live (Ok u) h = refl
heeded_live (Err f) h = refl

pub heeded_places : (a : Result (Unit {0}) Fault) (h : Parts) → (heeded a h).places ≡ h.places
heeded_places (Ok u) h = refl
heeded_places (Err f) h = refl

pub heeded_tally : (a : Result (Unit {0}) Fault) (h : Parts) → (heeded a h).tally ≡ h.tally
heeded_tally (Ok u) h = refl
heeded_tally (Err f) h = refl

pub heeded_room : (a : Result (Unit {0}) Fault) (h : Parts) → (heeded a h).room ≡ h.room
heeded_room (Ok u) h = refl
heeded_room (Err f) h = refl

pub heeded_next : (a : Result (Unit {0}) Fault) (h : Parts) → (heeded a h).next ≡ h.next
heeded_next (Ok u) h = refl
heeded_next (Err f) h = refl

pub heeded_telling : (a : Result (Unit {0}) Fault) (h : Parts) → (heeded a h).telling ≡ h.telling
heeded_telling (Ok u) h = refl
heeded_telling (Err f) h = refl

pub heeded_halt : (a : Result (Unit {0}) Fault) (m h : Parts) → m.halt ≡ h.halt → (heeded a m).halt ≡ (heeded a h).halt
heeded_halt (Ok u) m h e = e
heeded_halt (Err f) m h e = ap (halted_by f) e

pub heeded_fault : (a : Result (Unit {0}) Fault) (h : Parts) → h.halt.fault ≡ None → (heeded a h).halt.fault ≡ fault_of a
heeded_fault (Ok u) h none = none
heeded_fault (Err f) h none = ap (λ o. Some (or_later o f)) none

pub heeded_waits : (a : Result (Unit {0}) Fault) (h : Parts) → ((f : Fault) → a ≡ Err f → is_device f ≡ false) → (heeded a h).halt.only_waits ≡ h.halt.only_waits
heeded_waits (Ok u) h other = refl
heeded_waits (Err f) h other = ap (λ b. h.halt.only_waits || b) (other f refl) ∙ or_false h.halt.only_waits

pub answered_well : (a : Result (Unit {0}) Fault) → fault_of a ≡ None → a ≡ Ok tt
answered_well (Ok u) h = refl
answered_well (Err f) h = absurd (never h)
  where
    never : Some f ≡ None → ⊥
    never e = cc

pub answered_ill : (a : Result (Unit {0}) Fault) (f : Fault) → fault_of a ≡ Some f → a ≡ Err f
answered_ill (Ok u) f h = absurd (never h)
  where
    never : None ≡ Some f → ⊥
    never e = cc
answered_ill (Err g) f h = ap Err (same_Some g f h)

-- ## Places

asks_around : (front back : List (Option Child)) (o : Option Child) → asks_in (front ++ o ∷ back) ≡ asks_in front ++ (ask_in o ++ asks_in back)
asks_around [] back o = refl
asks_around (p ∷ front) back o = ap (λ xs. ask_in p ++ xs) (asks_around front back o) ∙ sym (append_assoc (ask_in p) (asks_in front) (ask_in o ++ asks_in back))

pub asks_were : (c : Child) (were are : List (Option Child)) (put : IsPutFor (Some c) None were are) → asks_in were ≡ asks_in put.before ++ c.ask ∷ asks_in put.after
asks_were c were are put = ap asks_in put.were_so ∙ asks_around put.before put.after (Some c)

pub asks_are : (c : Child) (were are : List (Option Child)) (put : IsPutFor (Some c) None were are) → asks_in are ≡ asks_in put.before ++ asks_in put.after
asks_are c were are put = ap asks_in put.are_so ∙ asks_around put.before put.after None
