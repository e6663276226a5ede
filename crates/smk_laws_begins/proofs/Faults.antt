-- The faults that a run may end with.
use Rattle.std.proofs.Common.{◌≡◌, true, false, refl, sym, subst, ◌∙◌, Err, true≢false}
use Rattle.smk_report.specs.declared.fault.Fault.{Fault}
use Rattle.smk_report.specs.declared.fault.Fault.TheVariants as fault
use Rattle.smk_plan_preview.specs.Faults.{is_sink}
use Rattle.smk_plan_preview.specs.Faults as preview
use Rattle.smk_drive_course.specs.declared.ending.End.{End}
use Rattle.smk_drive_course.specs.Driven.{is_output}
use Rattle.smk_drive_course.specs.Reports.{is_device, may_lose}

-- the device's, the sink's, want of memory, or another
pub data IsKind : Fault → Type 0 where
  ADevice : IsKind fault.Device
  AnOutput : IsKind fault.Output
  AMemory : IsKind fault.OutOfMemory
  Another : (f : Fault) → is_device f ≡ false → may_lose f ≡ false → is_output {T = End} (Err f) ≡ false → IsKind f

pub kind_of : (f : Fault) → IsKind f
kind_of (fault.Workflow x) = Another _ refl refl refl
kind_of (fault.NoRule path) = Another _ refl refl refl
kind_of (fault.NoInput path rule wanted) = Another _ refl refl refl
kind_of (fault.Ambiguous path a b) = Another _ refl refl refl
kind_of (fault.Deep path) = Another _ refl refl refl
kind_of (fault.TooManyPaths count) = Another _ refl refl refl
kind_of (fault.Clash path other) = Another _ refl refl refl
kind_of (fault.MissingMember path) = Another _ refl refl refl
kind_of (fault.NoCommand rule) = Another _ refl refl refl
kind_of fault.Locked = Another _ refl refl refl
kind_of (fault.StampSeen path) = Another _ refl refl refl
kind_of fault.Serials = Another _ refl refl refl
kind_of (fault.Incomplete paths) = Another _ refl refl refl
kind_of (fault.Protected path) = Another _ refl refl refl
kind_of (fault.AboveLimit rule path name asked bound) = Another _ refl refl refl
kind_of (fault.UnknownField rule word) = Another _ refl refl refl
kind_of (fault.TooLong rule bytes) = Another _ refl refl refl
kind_of (fault.JobFailed rule path code) = Another _ refl refl refl
kind_of (fault.NoOutput rule path absent) = Another _ refl refl refl
kind_of (fault.WrongKind rule path wrong) = Another _ refl refl refl
kind_of fault.BadWords = Another _ refl refl refl
kind_of fault.NoCores = Another _ refl refl refl
kind_of (fault.BadTarget word) = Another _ refl refl refl
kind_of (fault.BadMember rule path bad) = Another _ refl refl refl
kind_of fault.Device = ADevice
kind_of fault.Output = AnOutput
kind_of fault.OutOfMemory = AMemory

-- the device's fault is one
device_is : (f : Fault) → IsKind f → is_device f ≡ true → f ≡ fault.Device
device_is f ADevice is = refl
device_is f AnOutput is = absurd (true≢false (sym is))
device_is f AMemory is = absurd (true≢false (sym is))
device_is f (Another g other kept put) is = absurd (true≢false (sym is ∙ other))

pub is_the_device : (f : Fault) → is_device f ≡ true → f ≡ fault.Device
is_the_device f is = device_is f (kind_of f) is

-- a fault with which lines may be missing isn't the device's
lost_is : (f : Fault) → IsKind f → may_lose f ≡ true → is_device f ≡ false
lost_is f ADevice is = absurd (true≢false (sym is))
lost_is f AnOutput is = refl
lost_is f AMemory is = refl
lost_is f (Another g other kept put) is = other

pub loses_no_device : (f : Fault) → may_lose f ≡ true → is_device f ≡ false
loses_no_device f is = lost_is f (kind_of f) is

pub told_as_device : (f : Fault) → is_device f ≡ true → preview.is_device f ≡ true
told_as_device f is = subst (λ x. preview.is_device x ≡ true) (sym (is_the_device f is)) refl

output_is : (f : Fault) → IsKind f → is_output {T = End} (Err f) ≡ true → is_sink f ≡ true
output_is f ADevice is = absurd (true≢false (sym is))
output_is f AnOutput is = refl
output_is f AMemory is = absurd (true≢false (sym is))
output_is f (Another g other kept put) is = absurd (true≢false (sym is ∙ put))

pub told_as_sink : (f : Fault) → is_output {T = End} (Err f) ≡ true → is_sink f ≡ true
told_as_sink f is = output_is f (kind_of f) is

the_output : (f : Fault) → IsKind f → is_output {T = End} (Err f) ≡ true → f ≡ fault.Output
the_output f ADevice is = absurd (true≢false (sym is))
the_output f AnOutput is = refl
the_output f AMemory is = absurd (true≢false (sym is))
the_output f (Another g other kept put) is = absurd (true≢false (sym is ∙ put))

pub is_the_output : (f : Fault) → is_output {T = End} (Err f) ≡ true → f ≡ fault.Output
is_the_output f is = the_output f (kind_of f) is
