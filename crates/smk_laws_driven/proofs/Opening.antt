-- As a run opens what is seen of the folder stays.
use Rattle.std.proofs.Common.{◌≡◌, false, List, ◌++◌, sym, ap, ◌∙◌, Some, None, Result}
use Rattle.smk_world.specs.declared.event.Event.{Event}
use Rattle.smk_world.specs.World.{World, reading, run}
use Rattle.smk_world.specs.Devices.{AreLooks}
use Rattle.smk_world.specs.Runs.{Follows}
use Rattle.smk_world.specs.Trees.{Act}
use Rattle.smk_store.specs.Images.{image_by}
use Rattle.smk_keep.specs.declared.fault.KeepFault.{KeepFault}
use Rattle.smk_safe.proofs.Done.{follows_split}
use Rattle.smk_report.specs.declared.fault.Fault.{Fault}
use Rattle.smk_drive.specs.Moments.{Rules, seen}
use Rattle.smk_drive_course.specs.Stands.{Stand, first_fault}
use Rattle.smk_drive_course.specs.Steps.{GoesByAnswer}
use Rattle.smk_drive_course.specs.Driven.{IsOpening, LacksMemory, LoadingFails, LooksFail, Opens, SettlingFails}
use Rattle.smk_laws_moments.proofs.ChildrenOf.{run_more}
use Rattle.smk_laws_turns.proofs.Homes.{looks_leave_all}
use Rattle.smk_laws_turns.proofs.Settling.{settling_leaves}

some_none : (f : Fault) → Some f ≡ None → ⊥
some_none f h = cc

-- a stand at which no fault had come is halted by one
halts_first : (s t : Stand) (f : Fault) → s.halted ≡ None → t.halted ≡ first_fault s.halted f → t.halted ≡ None → ⊥
halts_first s t f none halts still = some_none f (sym (halts ∙ ap (λ x. first_fault x f) none) ∙ still)

module _ (act : Act) (rules : Rules) (entry : World) where
  looks_same : (w : World) (es : List Event) → AreLooks false es → Follows act w es → seen rules (run w es) ≡ seen rules w
  looks_same w es are follows =
      let left = looks_leave_all act false w es are follows in λ i. image_by rules.read (left.names i) (λ q. reading (left.nodes i q))

  pub opened_same :
      (opened : Result (Unit {0}) KeepFault) (es : List Event) (s t : Stand) (w : World) (events : List Event) → IsOpening rules entry opened es →
      Follows act entry es → GoesByAnswer rules entry opened s w events t → s.halted ≡ None → t.halted ≡ None → seen rules (run entry es) ≡ seen rules entry
  opened_same opened es s t w events (Opens loading settling looks places loaded signs settled looked) follows goes none still =
      let first = follows_split act entry loading (settling ++ looks) follows in
      let rest = follows_split act (run entry loading) settling looks first.1 in
      ap (seen rules) (run_more entry loading (settling ++ looks) ∙ run_more (run entry loading) settling looks)
      ∙ (looks_same (run (run entry loading) settling) looks looked rest.1
      ∙ ((settling_leaves act rules (run entry loading) places settling settled rest.0).0 ∙ looks_same entry loading loaded first.0))
  opened_same opened es s t w events (LacksMemory loading loaded) follows goes none still =
      absurd (halts_first s t _ none (ap (λ (x : Stand). x.halted) goes) still)
  opened_same opened es s t w events (LoadingFails loading loaded) follows goes none still =
      absurd (halts_first s t _ none (ap (λ (x : Stand). x.halted) goes) still)
  opened_same opened es s t w events (SettlingFails loading settling places loaded signs cut) follows goes none still =
      absurd (halts_first s t _ none (ap (λ (x : Stand). x.halted) goes) still)
  opened_same opened es s t w events (LooksFail loading settling looks places loaded signs settled looked) follows goes none still =
      absurd (halts_first s t _ none (ap (λ (x : Stand). x.halted) goes) still)
