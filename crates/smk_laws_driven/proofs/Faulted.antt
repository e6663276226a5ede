-- Which fault comes where a run goes by a stand at which none has come.
use Rattle.std.proofs.Common.{◌≡◌, List, [], refl, sym, ap, subst, ◌∙◌, Option, Some, None, Result, Ok, Err, IsTrue, true≢false}
use Rattle.smk_world.specs.declared.event.Event.{Event}
use Rattle.smk_world.specs.World.{World}
use Rattle.smk_keep.specs.declared.fault.KeepFault.{KeepFault}
use Rattle.smk_keep.specs.declared.fault.KeepFault.TheVariants.{Device, OutOfMemory}
use Rattle.smk_report.specs.declared.fault.Fault.{Fault}
use Rattle.smk_report.specs.declared.fault.Fault.TheVariants as fault
use Rattle.smk_laws_driven.specs.Completing.{DeviceFailed, MayBreakOff, NoMemory, SinkFailed}
use Rattle.smk_drive.specs.Moments.{Rules}
use Rattle.smk_drive_course.specs.Reports.{may_lose}
use Rattle.smk_drive_course.specs.Stands.{AtRest, Between, GoesBy, GoesOn, IsRefused, IsReplanned, LacksMemory, Refuses, Stand, WasHalted, first_fault, lists}
use Rattle.smk_drive_course.specs.Steps.{GoesByAnswer}

pub none_some : (f : Fault) → ◌≡◌ {A = Option Fault} None (Some f) → ⊥
none_some f h = cc

pub same_fault : (f g : Fault) → Some f ≡ Some g → f ≡ g
same_fault f g h = cc

-- the first fault where none has come
first_is : (x : Option Fault) (g f : Fault) → x ≡ None → first_fault x g ≡ Some f → g ≡ f
first_is None g f none came = same_fault g f came
first_is (Some e) g f none came = absurd (none_some e (sym none))

-- what may lose lines is the sink's fault, or want of memory
pub lost_breaks_off : (f : Fault) → IsTrue (may_lose f) → MayBreakOff f
lost_breaks_off fault.Output h = SinkFailed
lost_breaks_off fault.OutOfMemory h = NoMemory
lost_breaks_off fault.Device h = DeviceFailed
lost_breaks_off (fault.Workflow flaw) h = absurd (true≢false (sym h))
lost_breaks_off (fault.NoRule p) h = absurd (true≢false (sym h))
lost_breaks_off (fault.NoInput p rule wanted) h = absurd (true≢false (sym h))
lost_breaks_off (fault.Ambiguous p a b) h = absurd (true≢false (sym h))
lost_breaks_off (fault.Deep p) h = absurd (true≢false (sym h))
lost_breaks_off (fault.TooManyPaths count) h = absurd (true≢false (sym h))
lost_breaks_off (fault.Clash p q) h = absurd (true≢false (sym h))
lost_breaks_off (fault.MissingMember p) h = absurd (true≢false (sym h))
lost_breaks_off (fault.NoCommand rule) h = absurd (true≢false (sym h))
lost_breaks_off fault.Locked h = absurd (true≢false (sym h))
lost_breaks_off (fault.StampSeen p) h = absurd (true≢false (sym h))
lost_breaks_off fault.Serials h = absurd (true≢false (sym h))
lost_breaks_off (fault.Incomplete paths) h = absurd (true≢false (sym h))
lost_breaks_off (fault.Protected p) h = absurd (true≢false (sym h))
lost_breaks_off (fault.AboveLimit rule p name asked bound) h = absurd (true≢false (sym h))
lost_breaks_off (fault.UnknownField rule word) h = absurd (true≢false (sym h))
lost_breaks_off (fault.TooLong rule bytes) h = absurd (true≢false (sym h))
lost_breaks_off (fault.JobFailed rule p code) h = absurd (true≢false (sym h))
lost_breaks_off (fault.NoOutput rule p missing) h = absurd (true≢false (sym h))
lost_breaks_off (fault.WrongKind rule p wrong) h = absurd (true≢false (sym h))
lost_breaks_off fault.BadWords h = absurd (true≢false (sym h))
lost_breaks_off fault.NoCores h = absurd (true≢false (sym h))
lost_breaks_off (fault.BadTarget word) h = absurd (true≢false (sym h))
lost_breaks_off (fault.BadMember rule p bad) h = absurd (true≢false (sym h))

-- ## Plans made anew

pub replanned_halted : (rules : Rules) (s t : Stand) (w : World) → IsReplanned rules s w t → t.halted ≡ s.halted
replanned_halted rules s t w (AtRest plan rest force) = refl
replanned_halted rules s t w (Between rest) = refl

-- they begin with no listing where none was known
pub replanned_from : (rules : Rules) (s t : Stand) (w : World) → IsReplanned rules s w t → s.from ≡ [] → lists s ≡ [] → t.from ≡ []
replanned_from rules s t w (AtRest plan rest force) before now = now
replanned_from rules s t w (Between rest) before now = before

-- ## Going by a stand

-- the fault by which a stand is halted at which none had come
pub halted_is : (s t : Stand) (g f : Fault) → t.halted ≡ first_fault s.halted g → s.halted ≡ None → t.halted ≡ Some f → g ≡ f
halted_is s t g f halts none came = first_is s.halted g f none (sym halts ∙ came)

module _ (rules : Rules) (entry : World) (Named : Fault → Type 0) (breaks : (f : Fault) → MayBreakOff f → Named f) where
  pub by_memory : (f : Fault) → fault.OutOfMemory ≡ f → Named f
  by_memory f e = breaks f (subst MayBreakOff e NoMemory)

  pub by_device : (f : Fault) → fault.Device ≡ f → Named f
  by_device f e = breaks f (subst MayBreakOff e DeviceFailed)

  pub by_sink : (f : Fault) → fault.Output ≡ f → Named f
  by_sink f e = breaks f (subst MayBreakOff e SinkFailed)

  pub goes_named :
      (s t : Stand) (w : World) (events : List Event) (f : Fault) → GoesBy rules entry s w events t → s.halted ≡ None → t.halted ≡ Some f →
      (Refuses rules entry s w events f → Named f) → Named f
  goes_named s t w events f (GoesOn clear) none came refused = absurd (none_some f (sym none ∙ came))
  goes_named s t w events f (IsRefused g unhalted refuses) none came refused =
      refused (subst (Refuses rules entry s w events) (first_is s.halted g f none came) refuses)
  goes_named s t w events f LacksMemory none came refused = by_memory f (first_is s.halted fault.OutOfMemory f none came)
  goes_named s t w events f (WasHalted was) none came refused = absurd (was none)

  pub answer_named :
      (answer : Result (Unit {0}) KeepFault) (s t : Stand) (w : World) (events : List Event) (f : Fault) → GoesByAnswer rules entry answer s w events t →
      s.halted ≡ None → t.halted ≡ Some f → (Refuses rules entry s w events f → Named f) → Named f
  answer_named (Ok u) s t w events f goes none came refused = goes_named s t w events f goes none came refused
  answer_named (Err OutOfMemory) s t w events f goes none came refused =
      by_memory f (halted_is s t fault.OutOfMemory f (ap (λ (x : Stand). x.halted) goes) none came)
  answer_named (Err Device) s t w events f goes none came refused =
      by_device f (halted_is s t fault.Device f (ap (λ (x : Stand). x.halted) goes) none came)
