-- Logs of which nothing is refused, by computation: up to a moment, after which no job begins.
use Rattle.std.proofs.Common.{◌≡◌, ◌⊎◌, ◌<◌, ℕ, Bool, true, false, ◌&&◌, not, List, [], ◌∷◌, ◌++◌, Option, Some, None, refl, sym, subst, ◌∙◌, IsTrue, inl, inr, nat_le, nat_lt, ◌^◌, arith}
use Rattle.std.specs.List.{list_all}
use Rattle.smk_world.specs.declared.event.Event.{Event}
use Rattle.smk_world.specs.declared.recipe.Out.{Out}
use Rattle.smk_world.specs.World.{World, IsFormed}
use Rattle.smk_world.specs.Trees.{Each, outs_of}
use Rattle.smk_flow.specs.declared.job.Job.{Job}
use Rattle.smk_trigger.specs.declared.reason.State.{State}
use Rattle.smk_report.specs.declared.fault.Fault.{Fault}
use Rattle.smk_drive.specs.Moments.{Rules, Moment, IsMoment, AtEntry, AtRest, Between, begins, begun_of, serial_of, is_rest, staged_now}
use Rattle.smk_drive.specs.Lawful.{first_of}
use Rattle.smk_drive.specs.Refusals.{record_length}
use Rattle.smk_drive_course.specs.Lawful.{may_start}
use Rattle.smk_drive_course.specs.Refusals.{MomentRefuses, PlansAreRefused, NoSerial, LongRecord, NoneBefore, RunRefuses, BeginsUnrefused}
use Rattle.smk_drive_course.proofs.OneMoment.{one_moment}
use Rattle.smk_drive_rows.proofs.Truth.{and_left, and_right, not_both, nil_right, moved, head_same, tail_same, no_split, split_last, each_true}
use Rattle.smk_drive_rows.proofs.Chains.{is_free, none_refused, IsSettled as IsSettledChain}
use Rattle.smk_drive_rows.proofs.Logs.{IsSettled, AreSettled, IsAt, first_moment, first_at, next, next_is, settled_later, all_events, by_tests_at, last, last_whole}
use Rattle.smk_drive_rows.proofs.Checker.{none_begins}

module _ (rules : Rules) (entry : World) where
  -- ## One moment

  abbrev is_short : Moment → Job × State → Out → Bool
  is_short m k o = nat_le (record_length rules m (begun_of rules entry m k) o) 1048576

  -- the next job has a serial, and its records are short
  abbrev fits_next : Moment → Option (Job × State) → Bool
  fits_next m None = true
  fits_next m (Some k) = nat_lt (serial_of rules entry m k.0 k.1) (2 ^ 64) && list_all (is_short m k) (outs_of k.0.recipe)

  abbrev is_free_at : Moment → Bool
  is_free_at m = is_free rules m.world m.begun 3 m.from && fits_next m (first_of (may_start rules m))

  abbrev free_by : Bool → Moment → Bool
  free_by true m = is_free_at m
  free_by false m = true

  -- nothing is refused at the moment: it is no rest, or the plans are free and the next job fits
  abbrev pub is_unrefused : Moment → Bool
  is_unrefused m = free_by (is_rest m.world m.begun) m

  below : (a b : ℕ) → nat_lt a b ≡ true → a ≡ b → ⊥
  below a b h k = grind arith

  within : (a b : ℕ) → nat_le a b ≡ true → b < a → ⊥
  within a b h k = grind arith

  serial_fits : (m : Moment) (x : Option (Job × State)) (e : Job × State) → fits_next m x ≡ true → x ≡ Some e → nat_lt (serial_of rules entry m e.0 e.1) (2 ^ 64) ≡ true
  serial_fits m x e t is =
      and_left (nat_lt (serial_of rules entry m e.0 e.1) (2 ^ 64)) (list_all (is_short m e) (outs_of e.0.recipe)) (subst (λ y. fits_next m y ≡ true) is t)

  records_fit : (m : Moment) (x : Option (Job × State)) (e : Job × State) → fits_next m x ≡ true → x ≡ Some e → list_all (is_short m e) (outs_of e.0.recipe) ≡ true
  records_fit m x e t is =
      and_right (nat_lt (serial_of rules entry m e.0 e.1) (2 ^ 64)) (list_all (is_short m e) (outs_of e.0.recipe)) (subst (λ y. fits_next m y ≡ true) is t)

  in_the_midst : (p : Out → Bool) (before : List Out) (o : Out) (rest : List Out) → list_all p (before ++ o ∷ rest) ≡ true → p o ≡ true
  in_the_midst p [] o rest h = and_left (p o) (list_all p rest) h
  in_the_midst p (x ∷ before) o rest h = in_the_midst p before o rest (and_right (p x) (list_all p (before ++ o ∷ rest)) h)

  abbrev pub Unrefused : Moment → Type 0
  Unrefused m = (f : Fault) → ¬ MomentRefuses rules entry m f

  -- of a moment at a rest
  none_at :
      (m : Moment) → IsFormed m.world → IsSettledChain rules m.world m.begun 3 m.from → is_free_at m ≡ true → Unrefused m
  none_at m formed settled t f (PlansAreRefused g rest h) =
      none_refused rules m.world m.begun formed 3 m.from settled
      (and_left (is_free rules m.world m.begun 3 m.from) (fits_next m (first_of (may_start rules m))) t) g h
  none_at m formed settled t f (NoSerial e rest next at) =
      below (serial_of rules entry m e.0 e.1) (2 ^ 64)
      (serial_fits m (first_of (may_start rules m)) e (and_right (is_free rules m.world m.begun 3 m.from) (fits_next m (first_of (may_start rules m))) t) next.first) at
  none_at m formed settled t f (LongRecord e o before later rest next small split others long) =
      let fit = records_fit m (first_of (may_start rules m)) e (and_right (is_free rules m.world m.begun 3 m.from) (fits_next m (first_of (may_start rules m))) t) next.first in
      within (record_length rules m (begun_of rules entry m e) o) 1048576
      (in_the_midst (is_short m e) before o later (subst (λ os. list_all (is_short m e) os ≡ true) split fit)) long

  refused_at_rest : (m : Moment) (f : Fault) → MomentRefuses rules entry m f → is_rest m.world m.begun ≡ true
  refused_at_rest m f (PlansAreRefused g rest h) = rest
  refused_at_rest m f (NoSerial e rest next at) = rest
  refused_at_rest m f (LongRecord e o before later rest next small split others long) = rest

  -- of any moment
  none_refuses :
      (m : Moment) → IsFormed m.world → (is_rest m.world m.begun ≡ true → IsSettledChain rules m.world m.begun 3 m.from) → is_unrefused m ≡ true → Unrefused m
  none_refuses m formed settled t f r =
      let rest = refused_at_rest m f r in
      none_at m formed (settled rest) (subst (λ b. free_by b m ≡ true) rest t) f r

  -- ## A log

  abbrev free_from : Bool → (Unit {0} → Bool) → (Unit {0} → Bool) → Bool
  free_from true later stopped = later tt
  free_from false later stopped = stopped tt

  -- no job begins from here on
  abbrev begins_none : List Event → Moment → List Event → Bool
  begins_none events m [] = true
  begins_none events m (e ∷ es) = none_begins rules entry m e && begins_none (events ++ e ∷ []) (next rules entry events m e) es

  -- nothing is refused, or it is at some moment, and no job begins from there on
  abbrev pub unrefused_from : List Event → Moment → List Event → Bool
  unrefused_from events m [] = true
  unrefused_from events m (e ∷ es) =
      free_from (is_unrefused m) (λ u. unrefused_from (events ++ e ∷ []) (next rules entry events m e) es) (λ u. begins_none events m (e ∷ es))

  events_of : (events : List Event) (m : Moment) → IsMoment rules entry events m → m.events ≡ events
  events_of events m (AtEntry plan force) = refl
  events_of events m (AtRest before k e plan is rest force) = refl
  events_of events m (Between before k e is rest) = refl

  -- what is so of a job that begins
  abbrev Begins : Moment → Event → Type 0
  Begins m e = (none_begins rules entry m e ≡ true) ⊎ (Unrefused m × NoneBefore rules entry m.events)

  none_before_more :
      IsFormed entry → (events : List Event) (m : Moment) (x : Event) → IsMoment rules entry events m →
      Unrefused m → NoneBefore rules entry events → NoneBefore rules entry (events ++ x ∷ [])
  none_before_more formed events m x is free before front e rest k h isk = go (split_last events front rest x e h)
    where
      go : ((front ≡ events) × (e ≡ x)) ⊎ ((r : List Event) × (events ≡ front ++ e ∷ r)) → Unrefused k
      go (inl same) = subst Unrefused (one_moment rules entry events m k formed is (subst (λ es. IsMoment rules entry es k) same.0 isk)) free
      go (inr longer) = before front e longer.0 k longer.1 isk

  held_here : (m : Moment) (x : Event) (k : Moment) (e : Event) → m ≡ k → x ≡ e → Begins m x → Begins k e
  held_here m x k e same first h = subst (λ n. Begins n e) same (subst (λ d. Begins m d) first h)

  begins_free : (m : Moment) (e : Event) → Unrefused m → NoneBefore rules entry m.events → Begins m e
  begins_free m e free before = inr (free, before)

  -- from a moment on no job begins
  still :
      IsFormed entry → (events : List Event) (m : Moment) (log : List Event) →
      IsAt rules entry events m → AreSettled rules entry events m log → begins_none events m log ≡ true →
      (front : List Event) (e : Event) (rest : List Event) (k : Moment) → log ≡ front ++ e ∷ rest → IsMoment rules entry (events ++ front) k → Begins k e
  still formed events m [] at s t front e rest k h isk = absurd (no_split front e rest h)
  still formed events m (x ∷ xs) at s t [] e rest k h isk =
      held_here m x k e (one_moment rules entry events m k formed at.is (subst (λ es. IsMoment rules entry es k) (nil_right events) isk)) (head_same x e xs rest h)
      (inl (and_left (none_begins rules entry m x) (begins_none (events ++ x ∷ []) (next rules entry events m x) xs) t))
  still formed events m (x ∷ xs) at s t (y ∷ front) e rest k h isk =
      let first = head_same x y xs (front ++ e ∷ rest) h in
      let there = subst (λ d. IsMoment rules entry (events ++ d ∷ front) k) (sym first) isk in
      let Rest = AreSettled rules entry (events ++ x ∷ []) (next rules entry events m x) xs in
      still formed (events ++ x ∷ []) (next rules entry events m x) xs (next_is rules entry events m x Rest at s) (settled_later rules entry m x Rest s)
      (and_right (none_begins rules entry m x) (begins_none (events ++ x ∷ []) (next rules entry events m x) xs) t) front e rest k
      (tail_same x y xs (front ++ e ∷ rest) h) (subst (λ es. IsMoment rules entry es k) (moved events x front) there)

  free_log :
      IsFormed entry → (events : List Event) (m : Moment) (log : List Event) →
      IsAt rules entry events m → AreSettled rules entry events m log → NoneBefore rules entry events → unrefused_from events m log ≡ true →
      (front : List Event) (e : Event) (rest : List Event) (k : Moment) → log ≡ front ++ e ∷ rest → IsMoment rules entry (events ++ front) k → Begins k e
  free_log formed events m [] at s before t front e rest k h isk = absurd (no_split front e rest h)
  free_log formed events m (x ∷ xs) at s before t front e rest k h isk = go (is_unrefused m) refl t front h isk (free_log formed (events ++ x ∷ []) (next rules entry events m x) xs)
    where
      later : Bool
      later = unrefused_from (events ++ x ∷ []) (next rules entry events m x) xs

      Rest : Type 0
      Rest = AreSettled rules entry (events ++ x ∷ []) (next rules entry events m x) xs

      Deeper : Type 0
      Deeper =
          IsAt rules entry (events ++ x ∷ []) (next rules entry events m x) → Rest → NoneBefore rules entry (events ++ x ∷ []) → later ≡ true →
          (front : List Event) (e : Event) (rest : List Event) (k : Moment) → xs ≡ front ++ e ∷ rest → IsMoment rules entry ((events ++ x ∷ []) ++ front) k → Begins k e

      go :
          (b : Bool) → is_unrefused m ≡ b → free_from b (λ u. later) (λ u. begins_none events m (x ∷ xs)) ≡ true →
          (front : List Event) → x ∷ xs ≡ front ++ e ∷ rest → IsMoment rules entry (events ++ front) k → Deeper → Begins k e
      go false u t front h isk deeper = still formed events m (x ∷ xs) at s t front e rest k h isk
      go true u t [] h isk deeper =
          held_here m x k e (one_moment rules entry events m k formed at.is (subst (λ es. IsMoment rules entry es k) (nil_right events) isk)) (head_same x e xs rest h)
          (begins_free m x (none_refuses m at.formed at.settled u) (subst (NoneBefore rules entry) (sym (events_of events m at.is)) before))
      go true u t (y ∷ front) h isk deeper =
          let first = head_same x y xs (front ++ e ∷ rest) h in
          let there = subst (λ d. IsMoment rules entry (events ++ d ∷ front) k) (sym first) isk in
          deeper (next_is rules entry events m x Rest at s) (settled_later rules entry m x Rest s)
          (none_before_more formed events m x at.is (none_refuses m at.formed at.settled u) before) t front e rest k
          (tail_same x y xs (front ++ e ∷ rest) h) (subst (λ es. IsMoment rules entry es k) (moved events x front) there)

  none_before_all : NoneBefore rules entry []
  none_before_all front e rest k h is = absurd (no_split front e rest h)

  each_free :
      (m : Moment) (e : Event) → Begins m e →
      Each (λ (k : Job × State). IsTrue (begins rules m e k.0) → Unrefused m × NoneBefore rules entry m.events) (staged_now m.plan)
  each_free m e (inl none) =
      each_true (λ (k : Job × State). not (begins rules m e k.0)) (λ (k : Job × State). IsTrue (begins rules m e k.0) → Unrefused m × NoneBefore rules entry m.events)
      (λ k n b. absurd (not_both (begins rules m e k.0) n b)) (staged_now m.plan) none
  each_free m e (inr free) = always (staged_now m.plan)
    where
      always : (ks : List (Job × State)) → Each (λ (k : Job × State). IsTrue (begins rules m e k.0) → Unrefused m × NoneBefore rules entry m.events) ks
      always [] = tt
      always (k ∷ ks) = ((λ b. free), always ks)

  -- so no job begins at or after a refusal
  pub unrefused :
      IsFormed entry → (log : List Event) → IsSettled rules entry log → unrefused_from [] (first_moment rules entry) log ≡ true → BeginsUnrefused rules entry log
  unrefused formed log s t events e rest m h is =
      each_free m e (free_log formed [] (first_moment rules entry) log (first_at rules entry formed s.start) s.rests none_before_all t events e rest m h is)

  -- nothing is refused at any moment before an event of the log
  pub none_before :
      IsFormed entry → (log : List Event) → IsSettled rules entry log → all_events rules entry (λ m e. is_unrefused m) [] (first_moment rules entry) log ≡ true → NoneBefore rules entry log
  none_before formed log s t =
      by_tests_at rules entry (λ m e. is_unrefused m) (λ m e. Unrefused m) (λ events m e at u. none_refuses m at.formed at.settled u) formed log s t

  -- a log of which nothing is refused at any moment meets no refusal
  pub never_refused :
      IsFormed entry → (log : List Event) → IsSettled rules entry log →
      all_events rules entry (λ m e. is_unrefused m) [] (first_moment rules entry) log ≡ true → is_unrefused (last rules entry log) ≡ true →
      (f : Fault) → RunRefuses rules entry log f → ⊥
  never_refused formed log s t end f r = go r.events r.rest r.split r.moment r.is_moment r.refuses
    where
      go : (events rest : List Event) → log ≡ events ++ rest → (m : Moment) → IsMoment rules entry events m → MomentRefuses rules entry m f → ⊥
      go events [] split m is refuses =
          let there = last_whole rules entry formed log s in
          let same = one_moment rules entry log (last rules entry log) m formed there.is (subst (λ es. IsMoment rules entry es m) (sym (split ∙ nil_right events)) is) in
          subst Unrefused same (none_refuses (last rules entry log) there.formed there.settled end) f refuses
      go events (e ∷ rest) split m is refuses = none_before formed log s t events e rest m split is f refuses
