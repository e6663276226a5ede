-- The lines of a log: one text, which further events add to; and which events make none.
use Rattle.std.proofs.Common.{◌≡◌, Bool, true, false, ◌&&◌, not, List, [], ◌∷◌, ◌++◌, map, filter, refl, sym, ap, subst, ◌∙◌, Ok, Err, append_assoc}
use Rattle.std.proofs.Common.{append-nil, true≢false}
use Rattle.std.specs.List.{flat_map}
use Rattle.smk_world.specs.declared.event.Call.{Call}
use Rattle.smk_world.specs.declared.event.Call.TheVariants.{Looked, ReadFile, ReadFolder, Written, Created, Removed, MadeParents, Settled, Protected, Started}
use Rattle.smk_world.specs.declared.event.Call.TheVariants.{Waited}
use Rattle.smk_world.specs.declared.event.Event.{Event}
use Rattle.smk_world.specs.World.{World, IsFormed, run}
use Rattle.smk_world.specs.Calls.{failed}
use Rattle.smk_world.specs.Devices.{AreLooks, is_look}
use Rattle.smk_world.specs.Runs.{Follows}
use Rattle.smk_world.specs.Trees.{Act}
use Rattle.smk_pattern.specs.Shapes.{Text}
use Rattle.smk_drive.specs.Moments.{AtEntry, AtRest, Begun, Between, IsMoment, Moment, Rules, is_closed}
use Rattle.smk_drive.specs.Reports.{AndThen, HasLines, NoLines, close_line, close_lines, start_lines}
use Rattle.smk_drive_course.proofs.Fronts.{front_same, last_same, none_last}
use Rattle.smk_drive_course.proofs.HasMoment.{has_moment}
use Rattle.smk_drive_course.proofs.OneMoment.{one_moment}
use Rattle.smk_laws_moments.proofs.ChildrenOf.{run_more}
use Rattle.smk_laws_moments.proofs.LooksLike.{like_looks}
use Rattle.smk_laws_moments.proofs.StandsOf.{first_is_moment, world_is}
use Rattle.smk_laws_turns.specs.Reporting.{LinesGoOn, LooksTellNothing, NoneBegunNoneTold, OneText, OpeningTellsNothing}

module _ (rules : Rules) (entry : World) where
  -- what an event adds, between these moments
  abbrev added : Moment → Moment → Event → Text
  added m n e = start_lines rules n e.call ++ close_lines rules m n

  -- ## One text

  module _ (formed : IsFormed entry) where
    one_at : (xs ys : List Event) (a b : Text) → HasLines rules entry xs a → xs ≡ ys → HasLines rules entry ys b → a ≡ b
    one_at xs ys a b NoLines h NoLines = refl
    one_at xs ys a b NoLines h (AndThen events text e m n lines ism isn) = absurd (none_last events e h)
    one_at xs ys a b (AndThen events text e m n lines ism isn) h NoLines = absurd (none_last events e (sym h))
    one_at xs ys a b (AndThen events text e m n lines ism isn) h (AndThen events2 text2 e2 m2 n2 lines2 ism2 isn2) =
        let fronts = front_same events events2 e e2 h in
        let lasts = last_same events events2 e e2 h in
        let texts = one_at events events2 text text2 lines fronts lines2 in
        let befores = one_moment rules entry events2 m m2 formed (subst (λ es. IsMoment rules entry es m) fronts ism) ism2 in
        let nows = one_moment rules entry (events2 ++ e2 ∷ []) n n2 formed (subst (λ es. IsMoment rules entry es n) h isn) isn2 in
        λ i. texts i ++ added (befores i) (nows i) (lasts i)

    -- ## More events

    more_lines : (before es : List Event) (text : Text) → HasLines rules entry before text → (more : Text) × HasLines rules entry (before ++ es) (text ++ more)
    more_lines before [] text lines =
        ([], subst (λ xs. HasLines rules entry xs (text ++ [])) (sym (append-nil before)) (subst (HasLines rules entry before) (sym (append-nil text)) lines))
    more_lines before (e ∷ es) text lines =
        let m = has_moment rules entry before formed in
        let n = has_moment rules entry (before ++ e ∷ []) formed in
        let now = added m.0 n.0 e in
        let rest = more_lines (before ++ e ∷ []) es (text ++ now) (AndThen before text e m.0 n.0 lines m.1 n.1) in
        let there = subst (λ xs. HasLines rules entry xs ((text ++ now) ++ rest.0)) (append_assoc before (e ∷ []) es) rest.1 in
        (now ++ rest.0, subst (HasLines rules entry (before ++ e ∷ es)) (append_assoc text now rest.0) there)

  -- ## Events without lines

  -- an event between these moments that adds nothing
  pub quiet :
      (events : List Event) (text : Text) (e : Event) (m n : Moment) → IsMoment rules entry events m → IsMoment rules entry (events ++ e ∷ []) n →
      added m n e ≡ [] → HasLines rules entry events text → HasLines rules entry (events ++ e ∷ []) text
  quiet events text e m n ism isn none lines =
      subst (HasLines rules entry (events ++ e ∷ [])) (ap (λ more. text ++ more) none ∙ append-nil text) (AndThen events text e m n lines ism isn)

  -- where no job has begun no start makes a line, and no close
  none_starts : (n : Moment) (call : Call) → n.begun ≡ [] → start_lines rules n call ≡ []
  none_starts n (Started recipe logs command (Ok number)) h =
      ap (λ (bs : List Begun). start_lines rules (record n { begun = bs }) (Started recipe logs command (Ok number))) h
  none_starts n (Started recipe logs command (Err e)) h = refl
  none_starts n (Looked p r) h = refl
  none_starts n (ReadFile p limit r) h = refl
  none_starts n (ReadFolder p r) h = refl
  none_starts n (Written p bytes r) h = refl
  none_starts n (Created p r) h = refl
  none_starts n (Removed p r) h = refl
  none_starts n (MadeParents p r) h = refl
  none_starts n (Settled ps r) h = refl
  none_starts n (Protected p r) h = refl
  none_starts n (Waited r) h = refl

  none_closes : (m n : Moment) → n.begun ≡ [] → close_lines rules m n ≡ []
  none_closes m n h =
      ap (λ (bs : List Begun). flat_map (close_line rules n.world) (filter (λ (b : Begun). is_closed n.world b && not (is_closed m.world b)) bs)) h

  pub both_none : (a b : Text) → a ≡ [] → b ≡ [] → a ++ b ≡ []
  both_none a b h k = ap (λ x. x ++ b) h ∙ k

  front_none : {A : Type 0} {B : Type 0} (f : A → B) (xs : List A) (ys : List B) → map f xs ++ ys ≡ [] → xs ≡ []
  front_none f [] ys h = refl
  front_none f (x ∷ xs) ys h = absurd (some (f x) (map f xs ++ ys) h)
    where
      some : {B : Type 0} (y : B) (zs : List B) → y ∷ zs ≡ [] → ⊥
      some y zs h = cc

  pub none_told : (events : List Event) (m : Moment) → IsMoment rules entry events m → m.begun ≡ [] → HasLines rules entry events []
  none_told events m (AtEntry plan force) h = NoLines
  none_told events m (AtRest before earlier e plan is rest force) h =
      quiet before [] e earlier m is (AtRest before earlier e plan is rest force) (both_none _ _ (none_starts m e.call h) (none_closes earlier m h))
      (none_told before earlier is (front_none _ earlier.begun _ h))
  none_told events m (Between before earlier e is rest) h =
      quiet before [] e earlier m is (Between before earlier e is rest) (both_none _ _ (none_starts m e.call h) (none_closes earlier m h))
      (none_told before earlier is (front_none _ earlier.begun _ h))

  -- ## Looks

  look_starts : (n : Moment) (call : Call) → is_look call ≡ true → start_lines rules n call ≡ []
  look_starts n (Looked p r) h = refl
  look_starts n (ReadFile p limit r) h = refl
  look_starts n (ReadFolder p r) h = refl
  look_starts n (Written p bytes r) h = refl
  look_starts n (Created p r) h = refl
  look_starts n (Removed p r) h = refl
  look_starts n (MadeParents p r) h = refl
  look_starts n (Settled ps r) h = refl
  look_starts n (Protected p r) h = refl
  look_starts n (Started recipe logs command r) h = absurd (true≢false (sym h))
  look_starts n (Waited r) h = refl

  no_other : (b : Bool) → (b && not b) ≡ false
  no_other true = refl
  no_other false = refl

  pub none_pass : {A : Type 0} (f : A → Bool) → ((x : A) → f x ≡ false) → (xs : List A) → filter f xs ≡ []
  none_pass f none [] = refl
  none_pass f none (x ∷ xs) = rw (none x) (none_pass f none xs)

  -- where the same stands no job is closed anew
  same_closed : (m n : Moment) → m.world.nodes ≡ n.world.nodes → close_lines rules m n ≡ []
  same_closed m n h =
      ap (flat_map (close_line rules n.world))
      (none_pass (λ (b : Begun). is_closed n.world b && not (is_closed m.world b))
      (λ b. ap (λ nodes. is_closed n.world b && not (is_closed (record m.world { nodes = nodes }) b)) h ∙ no_other (is_closed n.world b)) n.begun)

  module _ (formed : IsFormed entry) (act : Act) where
    look_quiet :
        (before : List Event) (e : Event) (text : Text) → is_look e.call ≡ true → Follows act (run entry before) (e ∷ []) → HasLines rules entry before text →
        HasLines rules entry (before ++ e ∷ []) text
    look_quiet before e text look follows lines =
        let m = has_moment rules entry before formed in
        let n = has_moment rules entry (before ++ e ∷ []) formed in
        let like = like_looks act (failed e.call) (run entry before) (e ∷ []) (look, refl) follows in
        let at_m = world_is rules entry before m.0 m.1 in
        let at_n = world_is rules entry (before ++ e ∷ []) n.0 n.1 ∙ run_more entry before (e ∷ []) in
        quiet before text e m.0 n.0 m.1 n.1
        (both_none _ _ (look_starts n.0 e.call look)
        (same_closed m.0 n.0 (ap (λ (w : World). w.nodes) at_m ∙ (like.1 ∙ ap (λ (w : World). w.nodes) (sym at_n))))) lines

    looks_quiet :
        (failure : Bool) (before looks : List Event) (text : Text) → AreLooks failure looks → Follows act
        (run entry before) looks → HasLines rules entry before text →
        HasLines rules entry (before ++ looks) text
    looks_quiet failure before [] text are follows lines = subst (λ xs. HasLines rules entry xs text) (sym (append-nil before)) lines
    looks_quiet failure before (e ∷ []) text are follows lines = look_quiet before e text are.0 follows lines
    looks_quiet failure before (e ∷ (f ∷ es)) text are follows lines =
        subst (λ xs. HasLines rules entry xs text) (append_assoc before (e ∷ []) (f ∷ es))
        (looks_quiet failure (before ++ e ∷ []) (f ∷ es) text are.2 (subst (λ v. Follows act v (f ∷ es)) (sym (run_more entry before (e ∷ []))) follows.1)
        (look_quiet before e text are.0 (follows.0, tt) lines))

pub one_text : OneText
one_text rules entry log a b formed x y = one_at rules entry formed log log a b x refl y

pub lines_go_on : LinesGoOn
lines_go_on rules entry before es text formed lines = more_lines rules entry formed before es text lines

pub none_begun_none_told : NoneBegunNoneTold
none_begun_none_told rules entry log m is none = none_told rules entry log m is none

pub opening_tells_nothing : OpeningTellsNothing
opening_tells_nothing act rules entry plan opened es formed planned opens follows =
    let m = has_moment rules entry es formed in
    none_told rules entry es m.0 m.1 (first_is_moment act rules entry plan opened es m.0 formed planned opens follows m.1).begun

pub looks_tell_nothing : LooksTellNothing
looks_tell_nothing act rules entry before looks failure text formed are follows lines =
    looks_quiet rules entry formed act failure before looks text are follows lines
