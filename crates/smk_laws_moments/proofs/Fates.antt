-- What each step leaves of a stand: the first fault, whether the device failed, and which jobs have begun.
use Rattle.std.proofs.Common.{◌≡◌, ◌≢◌, ℕ, Bool, true, false, List, [], ◌∷◌, ◌++◌, map, refl, sym, ap, ◌∙◌, Option, Some, None, Result, Ok, Err, append_assoc, append-nil, true≢false}
use Rattle.std.specs.Prelude.{if◌then◌else◌}
use Rattle.std.specs.List.{list_any}
use Rattle.smk_world.specs.declared.event.Event.{Event}
use Rattle.smk_world.specs.declared.event.Change.{Change}
use Rattle.smk_world.specs.declared.event.Ended.{Ended}
use Rattle.smk_world.specs.World.{World, after, run}
use Rattle.smk_world.specs.Trees.{Path}
use Rattle.smk_flow.specs.declared.job.Job.{Job}
use Rattle.smk_store.specs.Images.{Image}
use Rattle.smk_trigger.specs.declared.reason.State.{State}
use Rattle.smk_run.specs.Closings.{wait_event}
use Rattle.smk_report.specs.declared.fault.Fault.{Fault}
use Rattle.smk_report.specs.declared.fault.Fault.TheVariants as fault
use Rattle.smk_job.specs.Jobs.{Underway}
use Rattle.smk_keep.specs.declared.fault.KeepFault.{KeepFault}
use Rattle.smk_keep.specs.declared.fault.KeepFault.TheVariants.{Device, OutOfMemory}
use Rattle.smk_drive.specs.Moments.{Begun, Rules, begun_of, ending, seen}
use Rattle.smk_drive_course.specs.Stands.{AtRest, Between, GoesBy, GoesOn, IsRefused, IsReplanned, LacksMemory, Stand, WasHalted, broken_by_device, ended_if, first_fault, halted_by, is_job_of, moment_of, with_job, without_child}
use Rattle.smk_drive_course.specs.Steps.{AreRemoved, Closed, Deed, GoesByAnswer, NoMore, OneMore, Started}
use Rattle.smk_drive_course.specs.Breaks.{Begins, BeginsNot, BreaksOff, Closes, Done, FailsToWait, Halts, Leaves, ReadsNot, Spends, SpendsNot, Step, Steps, Then, Waits}
use Rattle.smk_drive_course.specs.Reports.{is_started}
use Rattle.smk_laws_moments.specs.Courses.{BrokenIsHalted, FirstFaultStays, IsHaltedIfBroken, StartsAreTold, begun_jobs, started_job, started_jobs}

-- ## Faults

none_some : (f : Fault) → None ≡ Some f → ⊥
none_some f h = cc

some_none : (f : Fault) → Some f ≡ None → ⊥
some_none f h = cc

-- What a stand comes to: with no further fault; with one; or with one of the device.
pub data Fate (s t : Stand) : Type 0 where
  Same : t.halted ≡ s.halted → t.broken ≡ s.broken → Fate s t
  Halted : (f : Fault) → t.halted ≡ first_fault s.halted f → t.broken ≡ s.broken → Fate s t
  Broken : t.halted ≡ first_fault s.halted fault.Device → Fate s t

-- from a stand that is like this one in this
from_like : (s u t : Stand) → u.halted ≡ s.halted → u.broken ≡ s.broken → Fate u t → Fate s t
from_like s u t halted broken (Same h b) = Same (h ∙ halted) (b ∙ broken)
from_like s u t halted broken (Halted f h b) = Halted f (h ∙ ap (λ x. first_fault x f) halted) (b ∙ broken)
from_like s u t halted broken (Broken h) = Broken (h ∙ ap (λ x. first_fault x fault.Device) halted)

still_first : (x : Option Fault) (f g : Fault) → x ≡ Some f → first_fault x g ≡ Some f
still_first None f g h = absurd (none_some f h)
still_first (Some e) f g h = h

some_fault : (x : Option Fault) (f : Fault) → first_fault x f ≡ None → ⊥
some_fault None f h = some_none f h
some_fault (Some e) f h = some_none e h

fate_first : (s t : Stand) (f : Fault) → Fate s t → s.halted ≡ Some f → t.halted ≡ Some f
fate_first s t f (Same h b) was = h ∙ was
fate_first s t f (Halted g h b) was = h ∙ still_first s.halted f g was
fate_first s t f (Broken h) was = h ∙ still_first s.halted f fault.Device was

fate_broken : (s t : Stand) → Fate s t → IsHaltedIfBroken s → IsHaltedIfBroken t
fate_broken s t (Same h b) was = λ broken none. was (sym b ∙ broken) (sym h ∙ none)
fate_broken s t (Halted g h b) was = λ broken none. some_fault s.halted g (sym h ∙ none)
fate_broken s t (Broken h) was = λ broken none. some_fault s.halted fault.Device (sym h ∙ none)

-- ## What has begun

job_kept : (image : Image) (going : Underway) (status : ℕ) (b : Begun) → (ended_if image going status b).job ≡ b.job
job_kept image going status b = go (is_job_of going b)
  where
    go : (c : Bool) → (if c then (record b { ended = Some (ending image b.job status) }) else b).job ≡ b.job
    go true = refl
    go false = refl

jobs_kept : (image : Image) (going : Underway) (status : ℕ) (bs : List Begun) → map (λ (b : Begun). b.job) (map (ended_if image going status) bs) ≡ map (λ (b : Begun). b.job) bs
jobs_kept image going status [] = refl
jobs_kept image going status (b ∷ bs) = let here = job_kept image going status b in let rest = jobs_kept image going status bs in λ i. here i ∷ rest i

jobs_more : (bs : List Begun) (b : Begun) → map (λ (x : Begun). x.job) (bs ++ b ∷ []) ≡ map (λ (x : Begun). x.job) bs ++ b.job ∷ []
jobs_more [] b = refl
jobs_more (x ∷ bs) b = ap (λ js. x.job ∷ js) (jobs_more bs b)

started_more : (deeds more : List Deed) → started_jobs (deeds ++ more) ≡ started_jobs deeds ++ started_jobs more
started_more [] more = refl
started_more (d ∷ deeds) more = ap (λ js. started_job d ++ js) (started_more deeds more) ∙ sym (append_assoc (started_job d) (started_jobs deeds) (started_jobs more))

-- ## Going by a stand

-- What is the same of two stands: the jobs that have begun, the children that run.
pub record IsKept (s t : Stand) : Type 0 where
  pub begun : t.begun ≡ s.begun
  pub runs : t.runs ≡ s.runs

pub kept_then : (s t u : Stand) → IsKept s t → IsKept t u → IsKept s u
kept_then s t u a b = record { begun = b.begun ∙ a.begun; runs = b.runs ∙ a.runs }

pub halted_kept : (s t : Stand) (f : Fault) → t ≡ halted_by f s → IsKept s t
halted_kept s t f h = record { begun = ap (λ (x : Stand). x.begun) h; runs = ap (λ (x : Stand). x.runs) h }

pub broken_kept : (s t : Stand) → t ≡ broken_by_device s → IsKept s t
broken_kept s t h = record { begun = ap (λ (x : Stand). x.begun) h; runs = ap (λ (x : Stand). x.runs) h }

halted_fate : (s t : Stand) (f : Fault) → t ≡ halted_by f s → Fate s t
halted_fate s t f h = Halted f (ap (λ (x : Stand). x.halted) h) (ap (λ (x : Stand). x.broken) h)

broken_fate : (s t : Stand) → t ≡ broken_by_device s → Fate s t
broken_fate s t h = Broken (ap (λ (x : Stand). x.halted) h)

pub replanned_kept : (rules : Rules) (s t : Stand) (w : World) → IsReplanned rules s w t → IsKept s t
replanned_kept rules s t w (AtRest plan rest force) = record { begun = refl; runs = refl }
replanned_kept rules s t w (Between rest) = record { begun = refl; runs = refl }

replanned_fate : (rules : Rules) (s t : Stand) (w : World) → IsReplanned rules s w t → (t.halted ≡ s.halted) × (t.broken ≡ s.broken)
replanned_fate rules s t w (AtRest plan rest force) = (refl, refl)
replanned_fate rules s t w (Between rest) = (refl, refl)

module _ (rules : Rules) (entry : World) where
  pub goes_kept : (s t : Stand) (w : World) (events : List Event) → GoesBy rules entry s w events t → IsKept s t
  goes_kept s t w events (GoesOn clear) = record { begun = refl; runs = refl }
  goes_kept s t w events (IsRefused f unhalted refused) = record { begun = refl; runs = refl }
  goes_kept s t w events LacksMemory = record { begun = refl; runs = refl }
  goes_kept s t w events (WasHalted was) = record { begun = refl; runs = refl }

  goes_fate : (s t : Stand) (w : World) (events : List Event) → GoesBy rules entry s w events t → Fate s t
  goes_fate s t w events (GoesOn clear) = Same refl refl
  goes_fate s t w events (IsRefused f unhalted refused) = Halted f refl refl
  goes_fate s t w events LacksMemory = Halted fault.OutOfMemory refl refl
  goes_fate s t w events (WasHalted was) = Same refl refl

  pub answer_kept : (answer : Result (Unit {0}) KeepFault) (s t : Stand) (w : World) (events : List Event) → GoesByAnswer rules entry answer s w events t → IsKept s t
  answer_kept (Ok u) s t w events h = goes_kept s t w events h
  answer_kept (Err OutOfMemory) s t w events h = halted_kept s t fault.OutOfMemory h
  answer_kept (Err Device) s t w events h = broken_kept s t h

  answer_fate : (answer : Result (Unit {0}) KeepFault) (s t : Stand) (w : World) (events : List Event) → GoesByAnswer rules entry answer s w events t → Fate s t
  answer_fate (Ok u) s t w events h = goes_fate s t w events h
  answer_fate (Err OutOfMemory) s t w events h = halted_fate s t fault.OutOfMemory h
  answer_fate (Err Device) s t w events h = broken_fate s t h

  -- from a stand whose plan is made anew on
  anew_fate : (s u t : Stand) (w : World) → IsReplanned rules s w u → Fate u t → Fate s t
  anew_fate s u t w plans fate = let same = replanned_fate rules s u w plans in from_like s u t same.0 same.1 fate

  pub removed_kept : (s t : Stand) (w : World) (before : List Event) (paths : List Path) (es : List Event) → AreRemoved rules s w before paths es t → IsKept s t
  removed_kept s t w before paths es (NoMore s1 w1 before1) = record { begun = refl; runs = refl }
  removed_kept s t w before paths es (OneMore s1 t1 u1 w1 before1 p ps e es1 clear spent listed done plans rest) =
      kept_then s1 t1 u1 (replanned_kept rules s1 t1 _ plans) (removed_kept t1 u1 _ _ ps es1 rest)

  removed_fate : (s t : Stand) (w : World) (before : List Event) (paths : List Path) (es : List Event) → AreRemoved rules s w before paths es t → (t.halted ≡ s.halted) × (t.broken ≡ s.broken)
  removed_fate s t w before paths es (NoMore s1 w1 before1) = (refl, refl)
  removed_fate s t w before paths es (OneMore s1 t1 u1 w1 before1 p ps e es1 clear spent listed done plans rest) =
      let here = replanned_fate rules s1 t1 _ plans in
      let later = removed_fate t1 u1 _ _ ps es1 rest in (later.0 ∙ here.0, later.1 ∙ here.1)

  -- ## Steps

  -- the stand whose child has ended
  abbrev pub ended_stand : Stand → World → Underway → Ended → List Change → Stand
  ended_stand s w going ended left = without_child (seen rules (after w (wait_event ended left))) going ended.status s

  abbrev pub begun_stand : Stand → World → List Event → Job × State → Underway → Stand
  begun_stand s w before job going = with_job (begun_of rules entry (moment_of s w before) job) going s

  step_fate : (s t : Stand) (w : World) (before es : List Event) (deeds : List Deed) → Step rules entry s w before es deeds t → Fate s t
  step_fate s t w before es deeds (Begins h) =
      let u = begun_stand s w before h.job h.going in from_like s u t refl refl (anew_fate u h.next t (run w es) h.replanned (goes_fate h.next t (run w es) (before ++ es) h.goes_by))
  step_fate s t w before es deeds (Closes h) =
      let u = ended_stand s w h.going h.ended h.left in from_like s u t refl refl (anew_fate u h.next t _ h.replanned (answer_fate h.answer h.next t _ _ h.goes_by))
  step_fate s t w before es deeds (Spends h) =
      let same = removed_fate s h.last w before h.paths h.removing h.removed in from_like s h.last t same.0 same.1 (goes_fate h.last t _ _ h.goes_by)
  step_fate s t w before es deeds (Halts h) = halted_fate s t h.why h.leaves
  step_fate s t w before es deeds (Leaves h) = let u = ended_stand s w h.going h.ended h.left in from_like s u t refl refl (halted_fate u t fault.OutOfMemory h.leaves)
  step_fate s t w before es deeds (BreaksOff h) = let u = ended_stand s w h.going h.ended h.left in from_like s u t refl refl (broken_fate u t h.leaves)
  step_fate s t w before es deeds (ReadsNot h) = broken_fate s t h.leaves
  step_fate s t w before es deeds (BeginsNot h) = broken_fate s t h.leaves
  step_fate s t w before es deeds (SpendsNot h) =
      let same = removed_fate s h.last w before h.paths h.removing h.removed in from_like s h.last t same.0 same.1 (broken_fate h.last t h.leaves)
  step_fate s t w before es deeds (Waits h) = Same (ap (λ (x : Stand). x.halted) h.leaves) (ap (λ (x : Stand). x.broken) h.leaves)
  step_fate s t w before es deeds (FailsToWait h) = broken_fate s t h.leaves

  -- none begins at a stand where a fault has come
  none_started : (deeds more : List Deed) → deeds ≡ more → list_any is_started more ≡ false → list_any is_started deeds ≡ false
  none_started deeds more same none = ap (list_any is_started) same ∙ none

  step_starts : (s t : Stand) (w : World) (before es : List Event) (deeds : List Deed) (f : Fault) → Step rules entry s w before es deeds t → s.halted ≡ Some f → list_any is_started deeds ≡ false
  step_starts s t w before es deeds f (Begins h) was = absurd (none_some f (sym h.to_begin.next.clear.unhalted ∙ was))
  step_starts s t w before es deeds f (Closes h) was = none_started deeds _ h.deeds_are refl
  step_starts s t w before es deeds f (Spends h) was = none_started deeds [] h.deeds_are refl
  step_starts s t w before es deeds f (Halts h) was = none_started deeds [] h.deeds_are refl
  step_starts s t w before es deeds f (Leaves h) was = none_started deeds [] h.deeds_are refl
  step_starts s t w before es deeds f (BreaksOff h) was = none_started deeds [] h.deeds_are refl
  step_starts s t w before es deeds f (ReadsNot h) was = none_started deeds [] h.deeds_are refl
  step_starts s t w before es deeds f (BeginsNot h) was = none_started deeds [] h.deeds_are refl
  step_starts s t w before es deeds f (SpendsNot h) was = none_started deeds [] h.deeds_are refl
  step_starts s t w before es deeds f (Waits h) was = none_started deeds [] h.deeds_are refl
  step_starts s t w before es deeds f (FailsToWait h) was = none_started deeds [] h.deeds_are refl

  any_more : (deeds more : List Deed) → list_any is_started deeds ≡ false → list_any is_started more ≡ false → list_any is_started (deeds ++ more) ≡ false
  any_more [] more a b = b
  any_more (Started j ∷ deeds) more a b = absurd (true≢false a)
  any_more (Closed j e ∷ deeds) more a b = any_more deeds more a b

  stays_first : (s t : Stand) (w : World) (before es : List Event) (deeds : List Deed) (f : Fault) → Steps rules entry s w before es deeds t → s.halted ≡ Some f → (t.halted ≡ Some f) × (list_any is_started deeds ≡ false)
  stays_first s t w before es deeds f (Done s1 w1 before1) was = (was, refl)
  stays_first s t w before es deeds f (Then s1 t1 u1 w1 before1 es1 fs deeds1 more step steps) was =
      let here = fate_first s1 t1 f (step_fate s1 t1 w1 before1 es1 deeds1 step) was in
      let later = stays_first t1 u1 (run w1 es1) (before1 ++ es1) fs more f steps here in
      (later.0, any_more deeds1 more (step_starts s1 t1 w1 before1 es1 deeds1 f step was) later.1)

  stays_broken : (s t : Stand) (w : World) (before es : List Event) (deeds : List Deed) → Steps rules entry s w before es deeds t → IsHaltedIfBroken s → IsHaltedIfBroken t
  stays_broken s t w before es deeds (Done s1 w1 before1) was = was
  stays_broken s t w before es deeds (Then s1 t1 u1 w1 before1 es1 fs deeds1 more step steps) was =
      stays_broken t1 u1 (run w1 es1) (before1 ++ es1) fs more steps (fate_broken s1 t1 (step_fate s1 t1 w1 before1 es1 deeds1 step) was)

  -- ## What is told

  -- no start is told, and the same jobs have begun
  begun_same : (s u t : Stand) (deeds : List Deed) → begun_jobs u ≡ begun_jobs s → IsKept u t → started_jobs deeds ≡ [] → begun_jobs t ≡ begun_jobs s ++ started_jobs deeds
  begun_same s u t deeds same kept none =
      ap (λ (bs : List Begun). map (λ (b : Begun). b.job) bs) kept.begun ∙ (same ∙ (sym (append-nil (begun_jobs s)) ∙ ap (λ js. begun_jobs s ++ js) (sym none)))

  step_told : (s t : Stand) (w : World) (before es : List Event) (deeds : List Deed) → Step rules entry s w before es deeds t → begun_jobs t ≡ begun_jobs s ++ started_jobs deeds
  step_told s t w before es deeds (Begins h) =
      let u = begun_stand s w before h.job h.going in
      let kept = kept_then u h.next t (replanned_kept rules u h.next _ h.replanned) (goes_kept h.next t _ _ h.goes_by) in
      ap (λ (bs : List Begun). map (λ (b : Begun). b.job) bs) kept.begun ∙ (jobs_more s.begun (begun_of rules entry (moment_of s w before) h.job) ∙ ap (λ ds. begun_jobs s ++ started_jobs ds) (sym h.deeds_are))
  step_told s t w before es deeds (Closes h) =
      let u = ended_stand s w h.going h.ended h.left in
      begun_same s u t deeds (jobs_kept (seen rules (after w (wait_event h.ended h.left))) h.going h.ended.status s.begun)
      (kept_then u h.next t (replanned_kept rules u h.next _ h.replanned) (answer_kept h.answer h.next t _ _ h.goes_by)) (ap started_jobs h.deeds_are)
  step_told s t w before es deeds (Spends h) =
      begun_same s s t deeds refl (kept_then s h.last t (removed_kept s h.last w before h.paths h.removing h.removed) (goes_kept h.last t _ _ h.goes_by)) (ap started_jobs h.deeds_are)
  step_told s t w before es deeds (Halts h) = begun_same s s t deeds refl (halted_kept s t h.why h.leaves) (ap started_jobs h.deeds_are)
  step_told s t w before es deeds (Leaves h) =
      begun_same s (ended_stand s w h.going h.ended h.left) t deeds (jobs_kept (seen rules (after w (wait_event h.ended h.left))) h.going h.ended.status s.begun) (halted_kept (ended_stand s w h.going h.ended h.left) t fault.OutOfMemory h.leaves) (ap started_jobs h.deeds_are)
  step_told s t w before es deeds (BreaksOff h) =
      begun_same s (ended_stand s w h.going h.ended h.left) t deeds (jobs_kept (seen rules (after w (wait_event h.ended h.left))) h.going h.ended.status s.begun) (broken_kept (ended_stand s w h.going h.ended h.left) t h.leaves) (ap started_jobs h.deeds_are)
  step_told s t w before es deeds (ReadsNot h) = begun_same s s t deeds refl (broken_kept s t h.leaves) (ap started_jobs h.deeds_are)
  step_told s t w before es deeds (BeginsNot h) = begun_same s s t deeds refl (broken_kept s t h.leaves) (ap started_jobs h.deeds_are)
  step_told s t w before es deeds (SpendsNot h) =
      begun_same s s t deeds refl (kept_then s h.last t (removed_kept s h.last w before h.paths h.removing h.removed) (broken_kept h.last t h.leaves)) (ap started_jobs h.deeds_are)
  step_told s t w before es deeds (Waits h) =
      begun_same s (ended_stand s w h.going h.ended h.left) t deeds (jobs_kept (seen rules (after w (wait_event h.ended h.left))) h.going h.ended.status s.begun)
      (record { begun = ap (λ (x : Stand). x.begun) h.leaves; runs = ap (λ (x : Stand). x.runs) h.leaves }) (ap started_jobs h.deeds_are)
  step_told s t w before es deeds (FailsToWait h) = begun_same s s t deeds refl (broken_kept s t h.leaves) (ap started_jobs h.deeds_are)

  all_told : (s t : Stand) (w : World) (before es : List Event) (deeds : List Deed) → Steps rules entry s w before es deeds t → begun_jobs t ≡ begun_jobs s ++ started_jobs deeds
  all_told s t w before es deeds (Done s1 w1 before1) = sym (append-nil (begun_jobs s1))
  all_told s t w before es deeds (Then s1 t1 u1 w1 before1 es1 fs deeds1 more step steps) =
      all_told t1 u1 (run w1 es1) (before1 ++ es1) fs more steps
      ∙ (ap (λ js. js ++ started_jobs more) (step_told s1 t1 w1 before1 es1 deeds1 step)
      ∙ (append_assoc (begun_jobs s1) (started_jobs deeds1) (started_jobs more) ∙ ap (λ js. begun_jobs s1 ++ js) (sym (started_more deeds1 more))))

pub first_fault_stays : FirstFaultStays
first_fault_stays rules entry s t w before es deeds steps f was = stays_first rules entry s t w before es deeds f steps was

pub broken_is_halted : BrokenIsHalted
broken_is_halted rules entry s t w before es deeds steps was = stays_broken rules entry s t w before es deeds steps was

pub starts_are_told : StartsAreTold
starts_are_told rules entry s t w before es deeds steps = all_told rules entry s t w before es deeds steps
