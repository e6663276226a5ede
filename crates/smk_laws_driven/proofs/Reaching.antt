-- The stands of a run from a sound folder to which the protocol leads: the first one, and after each step the next.
use Rattle.std.proofs.Common.{◌≡◌, ℕ, List, [], ◌++◌, refl, sym, subst, ◌∙◌, Option, Some, None, Result, append-nil}
use Rattle.smk_world.specs.declared.event.Event.{Event}
use Rattle.smk_world.specs.World.{World, run}
use Rattle.smk_world.specs.Runs.{Follows}
use Rattle.smk_world.specs.Trees.{Act}
use Rattle.smk_record.specs.Spelling.{ReadsRecords}
use Rattle.smk_store.specs.Soundness.{Outside, SoundWorld}
use Rattle.smk_store.specs.Trust.{SumsDiffer, Versions}
use Rattle.smk_laws_protocol.specs.Midway.{IsTop}
use Rattle.smk_safe.proofs.Done.{follows_split}
use Rattle.smk_report.specs.declared.fault.Fault.{Fault}
use Rattle.smk_drive.specs.Moments.{Rules, greatest, seen}
use Rattle.smk_drive_course.specs.declared.ending.End.{End}
use Rattle.smk_drive_course.specs.Stands.{Stand, first_stand}
use Rattle.smk_drive_course.specs.Steps.{Deed}
use Rattle.smk_drive_course.specs.Breaks.{Done, Step, Steps, Then}
use Rattle.smk_drive_course.specs.Driven.{IsRun}
use Rattle.smk_laws_moments.specs.Courses.{HasChildren}
use Rattle.smk_laws_moments.proofs.ChildrenOf.{children_are_of_stand}
use Rattle.smk_laws_moments.proofs.Fates.{IsKept, answer_kept, first_fault_stays}
use Rattle.smk_laws_moments.proofs.StandsOn.{start_is_derived}
use Rattle.smk_laws_turns.specs.Following.{GuardsAreOutputs, IsGiven, IsReached}
use Rattle.smk_laws_turns.proofs.Greatest.{greatest_is_top}
use Rattle.smk_laws_turns.proofs.Laws.{steps_follow}
use Rattle.smk_laws_turns.proofs.Opening.{opening_leads}

none_some : (f : Fault) → ◌≡◌ {A = Option Fault} None (Some f) → ⊥
none_some f h = cc

-- where no fault has come by the end of some steps, none had come before
pub unhalted_before :
    (rules : Rules) (entry : World) (s t : Stand) (w : World) (before es : List Event) (deeds : List Deed) → Steps rules entry s w before es deeds t →
    t.halted ≡ None → s.halted ≡ None
unhalted_before rules entry s t w before es deeds steps none = go s.halted refl
  where
    go : (x : Option Fault) → s.halted ≡ x → s.halted ≡ None
    go None e = e
    go (Some f) e = absurd (none_some f (sym none ∙ (first_fault_stays rules entry s t w before es deeds steps f e).0))

module _ (act : Act) (rules : Rules) (entry : World) (H : Versions) (reads : ReadsRecords rules.read) (differ : SumsDiffer H)
    (sound : SoundWorld (record { read = rules.read; act = act }) entry H) where
  abbrev pub o : Outside
  o = record { read = rules.read; act = act }

  abbrev pub top : ℕ
  top = greatest rules (seen rules entry)

  pub is_top : IsTop o entry top
  is_top = greatest_is_top o rules entry refl sound.formed

  given_here : IsGiven o rules entry H top
  given_here = record { reader = refl; reads = reads; differ = differ; sound = sound; is_top = is_top }

  -- ## One step

  module _ (before es : List Event) (s t : Stand) (deeds : List Deed) (step : Step rules entry s (run entry before) before es deeds t) where
    alone : Steps rules entry s (run entry before) before (es ++ []) (deeds ++ []) t
    alone = Then s t t (run entry before) before es [] deeds [] step (Done t (run (run entry before) es) (before ++ es))

    pub next_reached : IsReached o rules entry top before s → Follows act (run entry before) es → IsReached o rules entry top (before ++ es) t
    next_reached at follows =
        subst (λ xs. IsReached o rules entry top (before ++ xs) t) (append-nil es)
        (steps_follow o rules entry H top before (es ++ []) s t (deeds ++ []) at given_here alone
        (subst (Follows act (run entry before)) (sym (append-nil es)) follows)).0

    pub next_children : HasChildren s (run entry before) → HasChildren t (run (run entry before) es)
    next_children children =
        subst (λ xs. HasChildren t (run (run entry before) xs)) (append-nil es)
        (children_are_of_stand rules entry s t (run entry before) before (es ++ []) (deeds ++ []) alone children)

  -- ## The start

  module _ (told : Option End) (result : Result End Fault) (deeds : List Deed) (log : List Event) (r : IsRun rules told result deeds entry log)
      (follows : Follows act entry log) where
    pub parts : Follows act entry r.opening × Follows act (run entry r.opening) r.rest
    parts = follows_split act entry r.opening r.rest (subst (Follows act entry) r.events follows)

    pub start_kept : IsKept (first_stand r.plan) r.start
    start_kept = answer_kept rules entry r.opened (first_stand r.plan) r.start entry [] r.goes_by

    pub start_reached : IsReached o rules entry top r.opening r.start
    start_reached =
        let led = opening_leads o rules entry refl r.plan r.opened r.opening r.start r.opens parts.0 r.goes_by in
        record {
          state = led.end;
          come = record { follows = parts.0; runs = led.runs };
          is_state = led.is_state;
          derived = start_is_derived rules entry entry r.plan r.opened [] r.start sound.formed r.planned r.goes_by;
          guards = subst (λ bs. GuardsAreOutputs (record r.start { begun = bs })) (sym start_kept.begun) tt;
        }

    pub start_unhalted : r.last.halted ≡ None → r.start.halted ≡ None
    start_unhalted = unhalted_before rules entry r.start r.last (run entry r.opening) r.opening r.rest deeds r.steps
