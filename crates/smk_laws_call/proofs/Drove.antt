-- A run that is driven ends well, or for a named reason, where each target has a clean value.
use Rattle.std.proofs.Common.{◌≡◌, inl, inr, ℕ, Bool, true, false, List, refl, ap, sym, subst, Option, Some, Ok, Err, Result, is_none}
use Rattle.smk_world.specs.World.{World}
use Rattle.smk_world.specs.Calls.{Rose}
use Rattle.smk_world.specs.Devices.{Device, Sunk}
use Rattle.smk_world.specs.Trees.{Act}
use Rattle.smk_record.specs.declared.record.Record.{Record}
use Rattle.smk_record.specs.Spelling.{ReadsRecords}
use Rattle.smk_format.specs.Commands.{missing}
use Rattle.smk_store.specs.Images.{Image, seen}
use Rattle.smk_store.specs.Soundness.{Outside, SoundWorld}
use Rattle.smk_store.specs.Trust.{Versions}
use Rattle.smk_chain.specs.Mean.{setting_of}
use Rattle.smk_plan.specs.States.{nothing_done}
use Rattle.smk_laws_complete.specs.Derived.{AllHaveValues}
use Rattle.smk_laws_complete.specs.Planned.{MayStop}
use Rattle.smk_words_reading.specs.declared.asked.RunWords.{RunWords}
use Rattle.smk_report.specs.declared.fault.Fault.{Fault}
use Rattle.smk_run.proofs.Rising.{rose_earlier}
use Rattle.smk_make.specs.Closing.{verdict_of}
use Rattle.smk_drive.specs.Moments.{Rules}
use Rattle.smk_drive_course.specs.declared.ending.End.{End}
use Rattle.smk_drive_course.specs.Driven.{HasDriven}
use Rattle.smk_plan_preview.specs.Previewing.{rules_for}
use Rattle.smk_plan_preview.proofs.LookedAt.{kept, seen_moved}
use Rattle.smk_cli_entry.specs.declared.asking.Asked.{Asked}
use Rattle.smk_cli_calls.specs.OneByOne.{grows}
use Rattle.smk_cli_calls.specs.Serving.{WasDriven, answer_of, settings_of}
use Rattle.smk_cli_calls.proofs.Driving.{rules_are}
use Rattle.smk_laws_driven.specs.Completing.{NoMemory}
use Rattle.smk_laws_driven.specs.Grown.{EndsGrown, GrowsToClash}
use Rattle.smk_laws_driven.specs.Named.{EndsNamed, IsNamed}
use Rattle.smk_laws_driven.proofs.Complete.{driven_is_complete}
use Rattle.smk_laws_driven.proofs.GrownWhole.{growing_is_complete}
use Rattle.smk_clean.proofs.Plain.{planned_plain}
use Rattle.smk_clean.proofs.Safe.{looked_safe}
use Rattle.smk_laws_call.specs.Complete.{DroveIsComplete, IsCleanAsked, IsCompleteAnswer, IsRunAnswer}

module _
    (act : Act) (read : List ℕ → Option Record) (asked : Asked) (words : RunWords) (w v : World) (H : Versions) (result : Result (Unit {0}) Fault)
    (old new : Device) (out_old out_new : Sunk) (at : old.world ≡ Some w) (end : new.world ≡ Some v) (reads : ReadsRecords read)
    (clean : IsCleanAsked act read asked w H)
    (never : Rose old.faults new.faults → ⊥) (was : WasDriven act words result asked old new out_old out_new) where
  abbrev o : Outside
  o = record { read = read; act = act }

  abbrev rules : Rules
  rules = rules_for read asked.flow (settings_of asked words)

  -- the world once it was looked at
  abbrev x : World
  x = (kept w was.looking at).0

  same : seen read x ≡ seen read w
  same = seen_moved read w x (kept w was.looking at).2

  sound_then : SoundWorld o x H
  sound_then = (looked_safe o H w clean.differ clean.sound (Ok tt) x old was.looked false at (kept w was.looking at).1 was.looking).4 tt refl

  values_then : AllHaveValues (setting_of asked.flow act (λ j. is_none (missing j)) (seen read x)) asked.targets
  values_then = subst (λ (i : Image). AllHaveValues (setting_of asked.flow act (λ j. is_none (missing j)) i) asked.targets) (sym same) clean.values

  drove : HasDriven act rules was.driven was.looked new out_old out_new
  drove = was.drove rules (rules_are read reads asked.flow (settings_of asked words))

  -- no count rose since then
  still : Rose was.looked.faults new.faults → ⊥
  still rose = never (rose_earlier old.faults was.looked.faults new.faults was.looking.acted.cause.later rose)

  named : (f : Fault) → IsNamed rules x f → IsCompleteAnswer read asked words w (Err f)
  named f (inl may) = inl (subst (λ (i : Image). MayStop rules i nothing_done f) same may)
  named f (inr off) = inr off

  -- where no plan may grow
  plainly : grows asked.flow.rules ≡ false → (driven : Result End Fault) → EndsNamed rules x driven → IsRunAnswer act read asked words w (answer_of driven)
  plainly plain_flow (Ok end) none = subst (IsRunAnswer act read asked words w) (sym (ap verdict_of none)) tt
  plainly plain_flow (Err f) is = inl (named f is)

  -- and where one may
  growing : grows asked.flow.rules ≡ true → (driven : Result End Fault) → EndsGrown act rules x driven → IsRunAnswer act read asked words w (answer_of driven)
  growing grow (Ok end) none = subst (IsRunAnswer act read asked words w) (sym (ap verdict_of none)) tt
  growing grow (Err f) (inl is) = inl (named f is)
  growing grow (Err f) (inr clash) = inr (grow, subst (λ (i : Image). GrowsToClash act rules i f) same clash)

  ends : IsRunAnswer act read asked words w (answer_of was.driven)
  ends = go (grows asked.flow.rules) refl
    where
      go : (b : Bool) → grows asked.flow.rules ≡ b → IsRunAnswer act read asked words w (answer_of was.driven)
      go false e =
          plainly e was.driven
          (driven_is_complete o rules H was.driven x v was.looked new out_old out_new (kept w was.looking at).1 end refl reads clean.differ sound_then
          (λ image progress plan complete is. planned_plain asked.flow image (settings_of asked words) progress plan complete e is) clean.alone values_then
          still drove)
      go true e =
          growing e was.driven
          (growing_is_complete o rules H was.driven x v was.looked new out_old out_new (kept w was.looking at).1 end refl reads clean.differ sound_then
          clean.alone values_then still drove)

  complete : IsRunAnswer act read asked words w result
  complete = elim was.answers [
    | inl e ↦ subst (IsRunAnswer act read asked words w) (sym e) ends
    | inr e ↦ subst (IsRunAnswer act read asked words w) (sym e) (inl (inr NoMemory))
  ]

pub drove_is_complete : DroveIsComplete
drove_is_complete act read asked words w v H result old new out_old out_new at end reads clean never was =
    complete act read asked words w v H result old new out_old out_new at end reads clean never was
