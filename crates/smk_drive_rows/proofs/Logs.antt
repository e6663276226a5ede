-- Logs, computed: the moment after each event, and what is checked of each.
use Rattle.std.proofs.Common.{◌≡◌, Bool, true, false, ◌&&◌, List, [], ◌∷◌, ◌++◌, Option, refl, sym, subst, ◌∙◌, true≢false}
use Rattle.smk_world.specs.declared.event.Event.{Event}
use Rattle.smk_world.specs.World.{World, IsFormed, after}
use Rattle.smk_world.proofs.Names.{formed_after}
use Rattle.smk_chain.specs.Derive.{Listings}
use Rattle.smk_plan.specs.States.{Plan}
use Rattle.smk_drive.specs.Moments.{Rules, Moment, Begun, IsMoment, AtEntry, AtRest, Between, begun_after, is_rest, lists_of}
use Rattle.smk_drive_course.specs.Moments.{AtEachEvent}
use Rattle.smk_drive_course.proofs.OneMoment.{one_moment}
use Rattle.smk_drive_rows.proofs.Truth.{and_left, and_right, nil_right, moved, head_same, tail_same, no_split}
use Rattle.smk_drive_rows.proofs.Chains.{chain, in_force, IsSettled as IsSettledChain}

-- P, unless the test is met; and then the rest
abbrev pub Unless : Bool → Type 0 → Type 0 → Type 0
Unless true P Rest = Rest
Unless false P Rest = P × Rest

pub unless_left : (P Rest : Type 0) (b : Bool) → (b ≡ true → P) → Unless b P Rest → P
unless_left P Rest true sure h = sure refl
unless_left P Rest false sure h = h.0

pub unless_right : (P Rest : Type 0) (b : Bool) → Unless b P Rest → Rest
unless_right P Rest true h = h
unless_right P Rest false h = h.1

pub unless_met : (P Rest : Type 0) (b : Bool) → b ≡ true → Rest → Unless b P Rest
unless_met P Rest b e h = subst (λ c. Unless c P Rest) (sym e) h

-- ## Moments

module _ (rules : Rules) (entry : World) where
  -- a chain of at most three plans
  abbrev pub plan_at : World → List Begun → Listings → Option Plan
  plan_at w begun lists = chain rules w begun 3 lists

  abbrev pub first_moment : Moment
  first_moment =
      let plan = plan_at entry [] [] in
      record { events = []; world = entry; begun = []; from = []; lists = lists_of plan []; plan = plan }

  abbrev pub rests : Moment → Event → Bool
  rests m e = is_rest (after m.world e) (begun_after rules entry m e)

  abbrev pub rested : List Event → Moment → World → List Begun → Option Plan → Event → Moment
  rested events m w begun plan e = record { events = events ++ e ∷ []; world = w; begun = begun; from = m.lists; lists = lists_of plan m.lists; plan = plan }

  abbrev pub next_by : Bool → List Event → Moment → Event → Moment
  next_by true events m e =
      rested events m (after m.world e) (begun_after rules entry m e) (plan_at (after m.world e) (begun_after rules entry m e) m.lists) e
  next_by false events m e = record m { events = events ++ e ∷ []; world = after m.world e; begun = begun_after rules entry m e }

  -- the moment after one more event
  abbrev pub next : List Event → Moment → Event → Moment
  next events m e = next_by (rests m e) events m e

  -- ## The plans are those in force

  abbrev pub SettledNext : Bool → Moment → Event → Type 0 → Type 0
  SettledNext true m e Rest = IsSettledChain rules (after m.world e) (begun_after rules entry m e) 3 m.lists × Rest
  SettledNext false m e Rest = Rest

  -- so it is at each rest
  abbrev pub AreSettled : List Event → Moment → List Event → Type 0
  AreSettled events m [] = Unit {0}
  AreSettled events m (e ∷ es) = SettledNext (rests m e) m e (AreSettled (events ++ e ∷ []) (next events m e) es)

  -- at the entry, and at each rest
  pub record IsSettled (log : List Event) : Type 0 where
    pub start : IsSettledChain rules entry [] 3 []
    pub rests : AreSettled [] first_moment log

  pub first_is : IsFormed entry → IsSettledChain rules entry [] 3 [] → IsMoment rules entry [] first_moment
  first_is formed s = AtEntry (plan_at entry [] []) (in_force rules entry [] formed 3 [] s)

  pub settled_later : (m : Moment) (e : Event) (Rest : Type 0) → SettledNext (rests m e) m e Rest → Rest
  settled_later m e Rest h = go (rests m e) h
    where
      go : (b : Bool) → SettledNext b m e Rest → Rest
      go true h = h.1
      go false h = h

  -- a moment of the log, in a world that is formed; at a rest, its plans are settled
  pub record IsAt (events : List Event) (m : Moment) : Type 0 where
    pub is : IsMoment rules entry events m
    pub formed : IsFormed m.world
    pub settled : is_rest m.world m.begun ≡ true → IsSettledChain rules m.world m.begun 3 m.from

  pub next_is : (events : List Event) (m : Moment) (e : Event) (Rest : Type 0) → IsAt events m → SettledNext (rests m e) m e Rest → IsAt (events ++ e ∷ []) (next events m e)
  next_is events m e Rest at h = go (rests m e) refl h
    where
      go : (b : Bool) → rests m e ≡ b → SettledNext b m e Rest → IsAt (events ++ e ∷ []) (next_by b events m e)
      go true eq k =
          record {
            is = AtRest events m e (plan_at (after m.world e) (begun_after rules entry m e) m.lists) at.is eq
                (in_force rules (after m.world e) (begun_after rules entry m e) (formed_after m.world e at.formed) 3 m.lists k.0);
            formed = formed_after m.world e at.formed;
            settled = λ t. k.0;
          }
      go false eq k =
          record { is = Between events m e at.is eq; formed = formed_after m.world e at.formed; settled = λ t. absurd (true≢false (sym t ∙ eq)) }

  pub first_at : IsFormed entry → IsSettledChain rules entry [] 3 [] → IsAt [] first_moment
  first_at formed s = record { is = first_is formed s; formed = formed; settled = λ t. s }

  -- the moment after all events
  abbrev pub last_from : List Event → Moment → List Event → Moment
  last_from events m [] = m
  last_from events m (e ∷ es) = last_from (events ++ e ∷ []) (next events m e) es

  abbrev pub last : List Event → Moment
  last log = last_from [] first_moment log

  last_at : (events : List Event) (m : Moment) (log : List Event) → IsAt events m → AreSettled events m log → IsAt (events ++ log) (last_from events m log)
  last_at events m [] at settled = subst (λ es. IsAt es m) (sym (nil_right events)) at
  last_at events m (e ∷ es) at settled =
      let Rest = AreSettled (events ++ e ∷ []) (next events m e) es in
      subst (λ xs. IsAt xs (last_from (events ++ e ∷ []) (next events m e) es)) (sym (moved events e es))
      (last_at (events ++ e ∷ []) (next events m e) es (next_is events m e Rest at settled) (settled_later m e Rest settled))

  pub last_whole : IsFormed entry → (log : List Event) → IsSettled log → IsAt log (last log)
  last_whole formed log s = last_at [] first_moment log (first_at formed s.start) s.rests

  pub last_is : IsFormed entry → (log : List Event) → IsSettled log → IsMoment rules entry log (last log)
  last_is formed log s = (last_whole formed log s).is

  -- what is so of the last moment is so of each after the log
  pub at_the_end : IsFormed entry → (log : List Event) → IsSettled log → (P : Moment → Type 0) → P (last log) → (m : Moment) → IsMoment rules entry log m → P m
  at_the_end formed log s P h m is = subst P (one_moment rules entry log (last log) m formed (last_is formed log s) is) h

  -- ## What is so at each event

  -- P of each event, but where the test is met
  abbrev pub Holds : (Moment → Event → Bool) → (Moment → Event → Type 0) → List Event → Moment → List Event → Type 0
  Holds test P events m [] = Unit {0}
  Holds test P events m (e ∷ es) = Unless (test m e) (P m e) (Holds test P (events ++ e ∷ []) (next events m e) es)

  -- the test of each event
  abbrev pub all_events : (Moment → Event → Bool) → List Event → Moment → List Event → Bool
  all_events test events m [] = true
  all_events test events m (e ∷ es) = test m e && all_events test (events ++ e ∷ []) (next events m e) es

  holds_by_test : (test : Moment → Event → Bool) (P : Moment → Event → Type 0) (events : List Event) (m : Moment) (log : List Event) → all_events test events m log ≡ true → Holds test P events m log
  holds_by_test test P events m [] t = tt
  holds_by_test test P events m (e ∷ es) t =
      let later = all_events test (events ++ e ∷ []) (next events m e) es in
      unless_met (P m e) (Holds test P (events ++ e ∷ []) (next events m e) es) (test m e) (and_left (test m e) later t)
      (holds_by_test test P (events ++ e ∷ []) (next events m e) es (and_right (test m e) later t))

  -- what holds at each event of a log from a moment holds of each event and the moment before it
  holds_from :
      (test : Moment → Event → Bool) (P : Moment → Event → Type 0) →
      ((events : List Event) (m : Moment) (e : Event) → IsAt events m → test m e ≡ true → P m e) →
      IsFormed entry →
      (events : List Event) (m : Moment) (log : List Event) →
      IsAt events m →
      AreSettled events m log →
      Holds test P events m log →
      (front : List Event) (e : Event) (rest : List Event) (k : Moment) → log ≡ front ++ e ∷ rest → IsMoment rules entry (events ++ front) k → P k e
  holds_from test P sure formed events m [] at settled holds front e rest k h isk = absurd (no_split front e rest h)
  holds_from test P sure formed events m (x ∷ xs) at settled holds [] e rest k h isk =
      let same = one_moment rules entry events m k formed at.is (subst (λ es. IsMoment rules entry es k) (nil_right events) isk) in
      let here = unless_left (P m x) (Holds test P (events ++ x ∷ []) (next events m x) xs) (test m x) (sure events m x at) holds in
      subst (λ n. P n e) same (subst (λ d. P m d) (head_same x e xs rest h) here)
  holds_from test P sure formed events m (x ∷ xs) at settled holds (y ∷ front) e rest k h isk =
      let first = head_same x y xs (front ++ e ∷ rest) h in
      let there = subst (λ d. IsMoment rules entry (events ++ d ∷ front) k) (sym first) isk in
      let Rest = AreSettled (events ++ x ∷ []) (next events m x) xs in
      holds_from test P sure formed (events ++ x ∷ []) (next events m x) xs (next_is events m x Rest at settled) (settled_later m x Rest settled)
      (unless_right (P m x) (Holds test P (events ++ x ∷ []) (next events m x) xs) (test m x) holds) front e rest k
      (tail_same x y xs (front ++ e ∷ rest) h) (subst (λ es. IsMoment rules entry es k) (moved events x front) there)

  pub at_each :
      (test : Moment → Event → Bool) (P : Moment → Event → Type 0) →
      ((m : Moment) (e : Event) → test m e ≡ true → P m e) →
      IsFormed entry → (log : List Event) → IsSettled log → Holds test P [] first_moment log → AtEachEvent rules entry log P
  at_each test P sure formed log s holds front e rest k h isk =
      holds_from test P (λ events m d at t. sure m d t) formed [] first_moment log (first_at formed s.start) s.rests holds front e rest k h isk

  pub by_tests :
      (test : Moment → Event → Bool) (P : Moment → Event → Type 0) →
      ((m : Moment) (e : Event) → test m e ≡ true → P m e) →
      IsFormed entry → (log : List Event) → IsSettled log → all_events test [] first_moment log ≡ true → AtEachEvent rules entry log P
  by_tests test P sure formed log s t = at_each test P sure formed log s (holds_by_test test P [] first_moment log t)

  pub by_tests_at :
      (test : Moment → Event → Bool) (P : Moment → Event → Type 0) →
      ((events : List Event) (m : Moment) (e : Event) → IsAt events m → test m e ≡ true → P m e) →
      IsFormed entry → (log : List Event) → IsSettled log → all_events test [] first_moment log ≡ true → AtEachEvent rules entry log P
  by_tests_at test P sure formed log s t front e rest k h isk =
      holds_from test P sure formed [] first_moment log (first_at formed s.start) s.rests (holds_by_test test P [] first_moment log t) front e rest k h isk
