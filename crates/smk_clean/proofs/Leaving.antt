-- The lock is left as it was.
use native.Mathlib.Omega.{arith}
use Rattle.std.proofs.Common.{◌≡◌, ◌≤◌, ℕ, Bool, false, List, refl, ap, sym, subst, ◌∙◌, Option, Some, None, Result, Ok, Err, true≢false}
use Rattle.std.specs.Prelude.{is_err}
use Rattle.std.proofs.lemmas.Option.{same_Some}
use Rattle.smk_base.specs.Place.{lock_place}
use Rattle.smk_world.specs.declared.event.Failed.{Failed}
use Rattle.smk_world.specs.declared.event.Node.{Node}
use Rattle.smk_world.specs.declared.event.NodeState.{NodeState}
use Rattle.smk_world.specs.World.{World, reading}
use Rattle.smk_world.specs.Calls.{Rose}
use Rattle.smk_world.specs.Devices.{Device, Sunk, HasActed, HasLooked}
use Rattle.smk_world.specs.Trees.{Path, Act}
use Rattle.smk_world.proofs.Devices.{looks_nodes}
use Rattle.smk_record.specs.declared.record.Record.{Record}
use Rattle.smk_record.specs.Reading.{record_in}
use Rattle.smk_record.proofs.Exact.{reads_records}
use Rattle.smk_keep_lock.specs.Locking.{HasReleased}
use Rattle.smk_report.specs.declared.fault.Fault.{Fault}
use Rattle.smk_run.proofs.Rising.{rose_earlier}
use Rattle.smk_words_reading.specs.declared.asked.RunWords.{RunWords}
use Rattle.smk_cli_calls.specs.Serving.{Went, Refused, Stopped, Worked, Drove, settings_of}
use Rattle.smk_cli_calls.proofs.Driving.{rules_are}
use Rattle.smk_make.proofs.Ends.{carried_cause}
use Rattle.smk_cli_entry.specs.declared.asking.Asked.{Asked}
use Rattle.smk_plan_preview.specs.declared.previewing.Previewed.{Previewed}
use Rattle.smk_plan_preview.specs.Previewing.{rules_for}
use Rattle.smk_cli_calls.specs.Locking.{HasRunLocked, IsClosed, LockGoes, LockStays, Stood, Taken, Unmade, Untaken}
use Rattle.smk_cli_calls.specs.Whole.{AsksFor, HasRun, Heeded, IsRefusal, IsToServe, Unasked, Unheeded}
use Rattle.smk_clean.specs.Locking.{LockIsLeft}

-- what stands at the lock
abbrev at_lock : World → Option Node
at_lock w = reading (w.nodes lock_place)

-- looks leave it
looked_lock : {act : Act} {a b : Device} {f : Bool} (w v : World) → HasLooked act a b f → a.world ≡ Some w → b.world ≡ Some v → at_lock v ≡ at_lock w
looked_lock {f = f} w v looked at end =
    let d = looked.acted.did v end in
    ap at_lock d.2.3 ∙ ap (λ (n : Path → NodeState). reading (n lock_place)) (looks_nodes f d.0 d.2.0 d.2.2) ∙ ap at_lock (same_Some d.0 w (sym d.1 ∙ at))

-- the count of faults doesn't fall in a run
pub faults_later :
    (act : Act) (words : RunWords) (r : Result (Unit {0}) Fault) (Refuses : Fault → Type 0) (Asks : Asked → Type 0) (Plans : Asked → Previewed → Type 0)
    (old new : Device) (p q : Sunk) → Went act words r Refuses Asks Plans old new p q → old.faults ≤ new.faults
faults_later act words r Refuses Asks Plans old new p q (Refused f e refused kept) = kept.looked.acted.cause.later
faults_later act words r Refuses Asks Plans old new p q (Stopped f e want kept) = kept.looked.acted.cause.later
faults_later act words r Refuses Asks Plans old new p q (Worked asked told one planned worked) =
    let first = worked.looking.acted.cause.later in
    let second =
    (carried_cause act asked.flow words.cores asked.targets told.jobs told.plan.states told.store r worked.looked new p q worked.carried).later in
    omega (arith, first, second)
faults_later act words r Refuses Asks Plans old new p q (Drove asked apart is drove) =
    let settings = settings_of asked words in
    let run = drove.drove (rules_for record_in asked.flow settings) (rules_are record_in reads_records asked.flow settings) in
    let first = drove.looking.acted.cause.later in
    let second = run.ran.cause.later in
    omega (arith, first, second)

module _ (act : Act) (read : List ℕ → Option Record) (words : RunWords) (w v : World) (answer : Result (Unit {0}) Fault) (old new : Device) (p q : Sunk)
    (at : old.world ≡ Some w) (end : new.world ≡ Some v)
    (heeds : words.nolock ≡ false) (never : ¬ (Rose old.faults new.faults)) where
  -- after a run under the lock there is none
  gone :
      (u : World) (locked : Device) → old.faults ≤ locked.faults → (ran : HasRunLocked act words answer (IsRefusal read words w u) (AsksFor words w)
      (IsToServe read words w u) locked new p q) →
      at_lock v ≡ None
  gone u locked le ran = go ran.closed
    where
      later : locked.faults ≤ ran.left.faults
      later = faults_later act words ran.ran (IsRefusal read words w u) (AsksFor words w) (IsToServe read words w u) locked ran.left p q ran.went

      by : (r : Result (Unit {0}) Failed) → HasActed act (HasReleased r) ran.left new (is_err r) → at_lock v ≡ None
      by (Ok t) goes = let d = goes.did v end in ap at_lock d.2.3 ∙ d.2.2.gone refl
      by (Err e) goes = absurd (never (rose_earlier old.faults ran.left.faults new.faults (omega (arith, le, later)) (goes.cause.rose refl)))

      go : IsClosed act ran.ran answer locked ran.left new → at_lock v ≡ None
      go (LockStays rose is same) =
          absurd (never (rose_earlier old.faults locked.faults new.faults le (subst (λ (d : Device). Rose locked.faults d.faults) (sym same) rose)))
      go (LockGoes r still none goes is) = by r goes

  left : HasRun act read words w answer old new p q → at_lock v ≡ at_lock w
  left (Unheeded free went) = absurd (true≢false (sym free ∙ heeds))
  left (Unasked f h is why looked) = looked_lock w v looked.looked at end
  left (Heeded x looked h after at_x looking (Unmade is same unput)) =
      looked_lock w v looking at (sym (ap (λ (d : Device). d.world) same) ∙ end)
  left (Heeded x looked h after at_x looking (Stood is stands tried unput)) =
      let d = tried.did v end in
      ap at_lock d.2.3 ∙ sym (ap reading ((d.2.2.stood refl).1.0 lock_place)) ∙ ap at_lock (same_Some d.0 x (sym d.1 ∙ at_x)) ∙ looked_lock w x looking at at_x
  left (Heeded x looked h after at_x looking (Untaken e is tried unput)) =
      absurd (never (rose_earlier old.faults looked.faults new.faults looking.acted.cause.later (tried.cause.rose refl)))
  left (Heeded x looked h after at_x looking (Taken u locked once at_u taken ran)) =
      gone u locked (omega (arith, looking.acted.cause.later, taken.cause.later)) ran ∙ sym (once.took.taken refl).0 ∙ looked_lock w x looking at at_x

pub lock_is_left : LockIsLeft
lock_is_left act read words w v told old new p q at end heeds never served = left act read words w v served.answer old new p q at end heeds never served.serves
