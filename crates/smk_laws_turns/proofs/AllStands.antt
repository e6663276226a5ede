-- Each stand to which the steps of a run lead is the moment of its log.
use Rattle.std.proofs.Common.{◌≡◌, ℕ, true, false, List, [], ◌∷◌, ◌++◌, map, refl, sym, ap, subst, ◌∙◌, Option, Some, Result, Ok, Err, append_assoc, append-nil, nat_eq, true≢false}
use Rattle.std.specs.List.{IsDistinct}
use Rattle.smk_base.specs.Place.{mark_place}
use Rattle.smk_world.specs.declared.event.Child.{Child}
use Rattle.smk_world.specs.declared.event.Event.{Event}
use Rattle.smk_world.specs.declared.event.Node.{Node}
use Rattle.smk_world.specs.declared.event.NodeState.{NodeState}
use Rattle.smk_world.specs.declared.recipe.Recipe.{Recipe}
use Rattle.smk_world.specs.World.{World, IsFormed, after, firmly, numbers, out_paths, run}
use Rattle.smk_world.specs.Folders.{IsTree}
use Rattle.smk_world.specs.Runs.{Follows}
use Rattle.smk_world.specs.Trees.{Act, Each, IsIn, Path}
use Rattle.smk_store.specs.Soundness.{Outside, SameSources}
use Rattle.smk_plan.specs.States.{Plan}
use Rattle.smk_laws_plan.proofs.CurrentMeaning.{in_from}
use Rattle.smk_laws_protocol.specs.Protocol.{RunState, Runs}
use Rattle.smk_laws_protocol.specs.Protocol as protocol
use Rattle.smk_laws_protocol.specs.Midway.{InPhase, IsFirmly, IsOfJob, Midway, at_entry, has_firm_marks}
use Rattle.smk_laws_protocol.proofs.MidwayHolds.{holds_midway}
use Rattle.smk_laws_protocol.proofs.Basics.{each_in, each_on}
use Rattle.smk_report.specs.declared.fault.Fault.TheVariants as fault
use Rattle.smk_keep.specs.declared.fault.KeepFault.{KeepFault}
use Rattle.smk_keep.specs.declared.fault.KeepFault.TheVariants.{Device, OutOfMemory}
use Rattle.smk_drive.specs.Moments.{IsMoment, Moment, Rules, is_gone, seen}
use Rattle.smk_drive_course.proofs.HasMoment.{has_moment}
use Rattle.smk_drive_course.specs.Stands.{AtRest, Between, GoesBy, GoesOn, IsPlanned, IsRefused, IsReplanned, LacksMemory, Stand, WasHalted, first_stand}
use Rattle.smk_drive_course.specs.Steps.{AreRemoved, Deed, GoesByAnswer, NoMore, OneMore}
use Rattle.smk_drive_course.specs.Breaks.{Begins, BeginsNot, BreaksOff, Closes, Done, FailsToWait, Halts, Leaves, ReadsNot, Spends, SpendsNot, Step, Steps, Then, Waits}
use Rattle.smk_drive_course.specs.Driven.{IsOpening}
use Rattle.smk_laws_moments.specs.Courses.{child_of}
use Rattle.smk_laws_moments.proofs.ChildrenOf.{opening_quiet, run_more}
use Rattle.smk_laws_moments.proofs.Fates.{IsKept, answer_kept}
use Rattle.smk_laws_moments.proofs.QuietCalls.{quiet_run}
use Rattle.smk_laws_moments.proofs.SpendingOf.{spending_is_moment}
use Rattle.smk_laws_moments.proofs.StandsOf.{first_follows, first_is_moment, looks_keep_stands}
use Rattle.smk_laws_moments.specs.Staying.{KeepsSources}
use Rattle.smk_laws_moments.proofs.Planned.{midway_keeps_sources}
use Rattle.smk_laws_moments.proofs.StandsOn.{start_is_derived}
use Rattle.smk_laws_turns.specs.Standing.{AreMarked, IsGoing, KeepsMarks, MidwayKeepsMarks, ProtocolKeeps, StandsAreMoments, StepIsMoment}
use Rattle.smk_laws_turns.proofs.BeginningOf.{beginning_is_moment, tree_run}
use Rattle.smk_laws_turns.proofs.ClosingOf.{closing_is_moment, leaving_is_moment}
use Rattle.smk_laws_turns.proofs.GoingOn.{goes_on}
use Rattle.smk_laws_turns.proofs.Onward.{At, goes_at, halted_at, is_it}

-- a call of the device failed at the stand, and none had
broken_clash : (t x : Stand) → t ≡ x → x.broken ≡ true → t.broken ≡ false → ⊥
broken_clash t x is broken unbroken = true≢false (sym (ap (λ (y : Stand). y.broken) is ∙ broken) ∙ unbroken)

pub step_is_moment : StepIsMoment
step_is_moment act rules entry s t before es deeds m n formed going keeps (Begins h, unbroken) follows is of isn =
    beginning_is_moment act rules entry s t before es deeds m n formed going keeps h follows is of isn
step_is_moment act rules entry s t before es deeds m n formed going keeps (Closes h, unbroken) follows is of isn =
    closing_is_moment act rules entry s t before es deeds m n formed going keeps (h, unbroken) follows is of isn
step_is_moment act rules entry s t before es deeds m n formed going keeps (Spends h, unbroken) follows is of isn =
    spending_is_moment act rules entry s t before es deeds m n formed h follows is of isn
step_is_moment act rules entry s t before es deeds m n formed going keeps (Halts h, unbroken) follows is of isn =
    let same = looks_keep_stands act rules entry s before es false m n formed h.only_read follows is of isn in
    is_it rules entry formed t (before ++ es) n (halted_at rules entry formed s t h.why (before ++ es) h.leaves (n, isn, same)) isn
step_is_moment act rules entry s t before es deeds m n formed going keeps (Leaves h, unbroken) follows is of isn =
    leaving_is_moment act rules entry s t before es deeds m n formed going keeps h follows is of isn
step_is_moment act rules entry s t before es deeds m n formed going keeps (BreaksOff h, unbroken) follows is of isn = absurd (broken_clash t _ h.leaves refl unbroken)
step_is_moment act rules entry s t before es deeds m n formed going keeps (ReadsNot h, unbroken) follows is of isn = absurd (broken_clash t _ h.leaves refl unbroken)
step_is_moment act rules entry s t before es deeds m n formed going keeps (BeginsNot h, unbroken) follows is of isn = absurd (broken_clash t _ h.leaves refl unbroken)
step_is_moment act rules entry s t before es deeds m n formed going keeps (SpendsNot h, unbroken) follows is of isn = absurd (broken_clash t _ h.leaves refl unbroken)
step_is_moment act rules entry s t before es deeds m n formed going keeps (Waits h, unbroken) follows is of isn = absurd (broken_clash t _ h.leaves h.broken unbroken)
step_is_moment act rules entry s t before es deeds m n formed going keeps (FailsToWait h, unbroken) follows is of isn = absurd (broken_clash t _ h.leaves refl unbroken)

-- ## Where no call has failed, none had before

module _ (rules : Rules) (entry : World) where
  replanned_broken : (s t : Stand) (w : World) → IsReplanned rules s w t → t.broken ≡ s.broken
  replanned_broken s t w (AtRest plan rest force) = refl
  replanned_broken s t w (Between rest) = refl

  goes_broken : (s t : Stand) (w : World) (events : List Event) → GoesBy rules entry s w events t → t.broken ≡ s.broken
  goes_broken s t w events (GoesOn clear) = refl
  goes_broken s t w events (IsRefused f unhalted refused) = refl
  goes_broken s t w events LacksMemory = refl
  goes_broken s t w events (WasHalted was) = refl

  removed_broken : (s t : Stand) (w : World) (before : List Event) (paths : List Path) (es : List Event) → AreRemoved rules s w before paths es t → t.broken ≡ s.broken
  removed_broken s t w before paths es (NoMore s1 w1 before1) = refl
  removed_broken s t w before paths es (OneMore s1 t1 u1 w1 before1 p ps e es1 clear spent listed done plans rest) =
      removed_broken t1 u1 _ _ ps es1 rest ∙ replanned_broken s1 t1 _ plans

  step_unbroken : (s t : Stand) (w : World) (before es : List Event) (deeds : List Deed) → Step rules entry s w before es deeds t → t.broken ≡ false → s.broken ≡ false
  step_unbroken s t w before es deeds (Begins h) unbroken =
      sym (goes_broken h.next t (run w es) (before ++ es) h.goes_by ∙ replanned_broken _ h.next (run w es) h.replanned) ∙ unbroken
  step_unbroken s t w before es deeds (Closes h) unbroken = h.unbroken
  step_unbroken s t w before es deeds (Spends h) unbroken =
      sym (goes_broken h.last t _ _ h.goes_by ∙ removed_broken s h.last w before h.paths h.removing h.removed) ∙ unbroken
  step_unbroken s t w before es deeds (Halts h) unbroken = sym (ap (λ (x : Stand). x.broken) h.leaves) ∙ unbroken
  step_unbroken s t w before es deeds (Leaves h) unbroken = h.unbroken
  step_unbroken s t w before es deeds (BreaksOff h) unbroken = h.unbroken
  step_unbroken s t w before es deeds (ReadsNot h) unbroken = absurd (broken_clash t _ h.leaves refl unbroken)
  step_unbroken s t w before es deeds (BeginsNot h) unbroken = absurd (broken_clash t _ h.leaves refl unbroken)
  step_unbroken s t w before es deeds (SpendsNot h) unbroken = absurd (broken_clash t _ h.leaves refl unbroken)
  step_unbroken s t w before es deeds (Waits h) unbroken = absurd (broken_clash t _ h.leaves h.broken unbroken)
  step_unbroken s t w before es deeds (FailsToWait h) unbroken = absurd (broken_clash t _ h.leaves refl unbroken)

  steps_unbroken : (s t : Stand) (w : World) (before es : List Event) (deeds : List Deed) → Steps rules entry s w before es deeds t → t.broken ≡ false → s.broken ≡ false
  steps_unbroken s t w before es deeds (Done s1 w1 before1) unbroken = unbroken
  steps_unbroken s t w before es deeds (Then s1 t1 u1 w1 before1 es1 fs deeds1 more step steps) unbroken =
      step_unbroken s1 t1 w1 before1 es1 deeds1 step (steps_unbroken t1 u1 (run w1 es1) (before1 ++ es1) fs more steps unbroken)

  -- ## All steps

  module _ (formed : IsFormed entry) (act : Act) where
    all_steps :
        (s t : Stand) (w : World) (before es : List Event) (deeds : List Deed) → Steps rules entry s w before es deeds t → w ≡ run entry before → t.broken ≡ false →
        Follows act w es → KeepsSources rules entry w es → KeepsMarks w es → IsGoing rules entry s w → At rules entry formed s before → At rules entry formed t (before ++ es)
    all_steps s t w before es deeds (Done s1 w1 before1) world unbroken follows sources marks going at = subst (At rules entry formed s1) (sym (append-nil before1)) at
    all_steps s t w before es deeds (Then s1 t1 u1 w1 before1 es1 fs deeds1 more step steps) world unbroken follows sources marks going at =
        let split = first_follows rules entry formed act w1 es1 fs follows in
        let none_yet = steps_unbroken t1 u1 (run w1 es1) (before1 ++ es1) fs more steps unbroken in
        let here : Step rules entry s1 (run entry before1) before1 es1 deeds1 t1 = subst (λ (v : World). Step rules entry s1 v before1 es1 deeds1 t1) world step in
        let sources1 : KeepsSources rules entry w1 es1 = λ front rest h. sources front (rest ++ fs) (ap (λ xs. xs ++ fs) h ∙ append_assoc front rest fs) in
        let sources_here : KeepsSources rules entry (run entry before1) es1 = subst (λ (v : World). KeepsSources rules entry v es1) world sources1 in
        let going_here : IsGoing rules entry s1 (run entry before1) = subst (IsGoing rules entry s1) world going in
        let follows_here : Follows act (run entry before1) es1 = subst (λ (v : World). Follows act v es1) world split.0 in
        let n = has_moment rules entry (before1 ++ es1) formed in
        let of =
        step_is_moment act rules entry s1 t1 before1 es1 deeds1 at.0 n.0 formed going_here sources_here (here, none_yet) follows_here at.1 at.2 n.1 in
        let marked : AreMarked (run (run entry before1) es1) = subst (λ (v : World). AreMarked (run v es1)) world (marks es1 fs refl) in
        let next : IsGoing rules entry t1 (run w1 es1) =
        subst (λ (v : World). IsGoing rules entry t1 (run v es1)) (sym world)
        (goes_on act rules entry s1 t1 before1 es1 deeds1 formed sources_here follows_here marked going_here here) in
        let world_then : run w1 es1 ≡ run entry (before1 ++ es1) = ap (λ (v : World). run v es1) world ∙ sym (run_more entry before1 es1) in
        subst (At rules entry formed u1) (append_assoc before1 es1 fs)
        (all_steps t1 u1 (run w1 es1) (before1 ++ es1) fs more steps world_then unbroken split.1
        (λ front rest h. subst (λ (v : World). SameSources (seen rules entry) (seen rules v)) (run_more w1 es1 front)
        (sources (es1 ++ front) rest (ap (λ xs. es1 ++ xs) h ∙ sym (append_assoc es1 front rest))))
        (λ front rest h. subst AreMarked (run_more w1 es1 front) (marks (es1 ++ front) rest (ap (λ xs. es1 ++ xs) h ∙ sym (append_assoc es1 front rest)))) next (n.0, n.1, of))

none_distinct : (ns : List ℕ) → ns ≡ [] → IsDistinct nat_eq ns
unfolding IsDistinct
none_distinct [] h = tt
none_distinct (n ∷ ns) h = absurd (none n ns h)
  where
    none : (n : ℕ) (ns : List ℕ) → n ∷ ns ≡ [] → ⊥
    none n ns h = cc

none_in : {A : Type 0} (xs : List A) (x : A) → xs ≡ [] → IsIn xs x → ⊥
none_in xs x none i = subst (λ ys. IsIn ys x) none i

-- ## A run

module _ (act : Act) (rules : Rules) (entry : World) (plan : Option Plan) (opened : Result (Unit {0}) KeepFault) (opening es : List Event) (start : Stand) (formed : IsFormed entry) (tree : IsTree entry)
    (no_child : entry.children ≡ []) (planned : IsPlanned rules (first_stand plan) entry) (opens : IsOpening rules entry opened opening)
    (goes : GoesByAnswer rules entry opened (first_stand plan) entry [] start) (follows : Follows act entry opening)
    (marked : AreMarked (run entry opening)) where
  kept : IsKept (first_stand plan) start
  kept = answer_kept rules entry opened (first_stand plan) start entry [] goes

  children : (run entry opening).children ≡ []
  children = quiet_run entry opening (opening_quiet rules entry opened opening opens) ∙ no_child

  going_start : IsGoing rules entry start (run entry opening)
  going_start =
      record {
        tree = tree_run act entry opening follows tree;
        children = children ∙ ap (map child_of) (sym kept.runs);
        distinct = none_distinct (numbers (run entry opening).children) (ap numbers children);
        started = λ n i. absurd (none_in (numbers (run entry opening).children) n (ap numbers children) (in_from (numbers (run entry opening).children) n i));
        alone = λ a b i k same. absurd (none_in start.runs a kept.runs i);
        derived = start_is_derived rules entry entry plan opened [] start formed planned goes;
        marked = marked;
        one = λ a b i k same. absurd (none_in start.begun a kept.begun i);
      }

  started_at : start.broken ≡ false → At rules entry formed start opening
  started_at unbroken = go opened goes
    where
      n : (m : Moment) × IsMoment rules entry opening m
      n = has_moment rules entry opening formed

      first : At rules entry formed (first_stand plan) opening
      first = (n.0, n.1, first_is_moment act rules entry plan opened opening n.0 formed planned opens follows n.1)

      go : (answer : Result (Unit {0}) KeepFault) → GoesByAnswer rules entry answer (first_stand plan) entry [] start → At rules entry formed start opening
      go (Ok u) h = goes_at rules entry formed (first_stand plan) start entry [] opening h first
      go (Err OutOfMemory) h = halted_at rules entry formed (first_stand plan) start fault.OutOfMemory opening h first
      go (Err Device) h = absurd (broken_clash start _ h refl unbroken)

pub stands_are_moments : StandsAreMoments
stands_are_moments act rules entry plan opened opening es start t deeds m formed tree no_child planned opens goes steps unbroken follows sources marks ism =
    let split = first_follows rules entry formed act entry opening es follows in
    let none_yet = steps_unbroken rules entry start t (run entry opening) opening es deeds steps unbroken in
    let going = going_start act rules entry plan opened opening es start formed tree no_child planned opens goes split.0 (marks opening es refl) in
    let at = started_at act rules entry plan opened opening es start formed tree no_child planned opens goes split.0 (marks opening es refl) none_yet in
    is_it rules entry formed t (opening ++ es) m
    (all_steps rules entry formed act start t (run entry opening) opening es deeds steps refl unbroken split.1
    (λ front rest h. subst (λ (v : World). SameSources (seen rules entry) (seen rules v)) (run_more entry opening front)
    (sources (opening ++ front) rest (ap (λ xs. opening ++ xs) h ∙ sym (append_assoc opening front rest))))
    (λ front rest h. subst AreMarked (run_more entry opening front) (marks (opening ++ front) rest (ap (λ xs. opening ++ xs) h ∙ sym (append_assoc opening front rest)))) going at) ism

-- ## The marks in a run of the protocol

firm_stays : (s : NodeState) (n : Node) → s ≡ firmly (Some n) → is_gone s ≡ false
firm_stays s n h = ap is_gone h

pub midway_keeps_marks : MidwayKeepsMarks
midway_keeps_marks o entry H state w midway = each_on (IsOfJob state.jobs) (λ (c : Child). Each (λ p. is_gone (w.nodes (mark_place p)) ≡ false) (out_paths c.recipe)) one w.children midway.children
  where
    one : (c : Child) → IsOfJob state.jobs c → Each (λ p. is_gone (w.nodes (mark_place p)) ≡ false) (out_paths c.recipe)
    one c (j, i, runs, recipe, logs) =
        let phase = each_in (InPhase o w) state.jobs j midway.phases i in
        let firm = phase.marks (ap has_firm_marks runs) in
        subst (λ (r : Recipe). Each (λ p. is_gone (w.nodes (mark_place p)) ≡ false) (out_paths r)) (sym recipe)
        (each_on (λ p. IsFirmly w (mark_place p)) (λ p. is_gone (w.nodes (mark_place p)) ≡ false) (λ p f. firm_stays (w.nodes (mark_place p)) f.0 f.1) (out_paths j.recipe) firm)

-- the first events of such a run are one
front_runs : (o : Outside) (s end : RunState) (w : World) (es rest : List Event) → Runs o s w (es ++ rest) end → (mid : RunState) × Runs o s w es mid
front_runs o s end w [] rest h = (s, protocol.Done s w)
front_runs o s end w (e ∷ es) rest (protocol.Next s1 mid end1 w1 e1 es1 step later) = let r = front_runs o mid end (after w e) es rest later in (r.0, protocol.Next s mid r.0 w e es step r.1)

pub protocol_keeps : ProtocolKeeps
protocol_keeps o rules entry H top es state same differ sound is_top follows ran =
    (λ front rest h. midway_keeps_sources o rules entry H (there front rest h).0 (run entry front) same (there front rest h).1, λ front rest h. midway_keeps_marks o entry H (there front rest h).0 (run entry front) (there front rest h).1)
  where
    fronts : (xs ys : List Event) (w : World) → Follows o.act w (xs ++ ys) → Follows o.act w xs
    fronts [] ys w f = tt
    fronts (x ∷ xs) ys w f = (f.0, fronts xs ys (after w x) f.1)

    there : (front rest : List Event) → es ≡ front ++ rest → (mid : RunState) × Midway o entry H mid (run entry front)
    there front rest h =
        let r = front_runs o (at_entry o top) state entry front rest (subst (λ xs. Runs o (at_entry o top) entry xs state) h ran) in
        (r.0, holds_midway o entry H top front r.0 differ sound is_top (fronts front rest entry (subst (λ xs. Follows o.act entry xs) h follows)) r.1)
