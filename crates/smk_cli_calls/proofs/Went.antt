-- What was done, by what its parts did.
use Rattle.std.proofs.Common.{◌≡◌, Bool, true, false, inl, inr, refl, Result, Err, true≢false}
use Rattle.smk_world.specs.Devices.{Device, Sunk, HasLooked}
use Rattle.smk_world.specs.Trees.{Act}
use Rattle.smk_world.proofs.Devices.{looked_nothing, looked_then}
use Rattle.smk_report.specs.declared.fault.Fault.{Fault}
use Rattle.smk_report.specs.declared.fault.Fault.TheVariants as fault
use Rattle.smk_words_reading.specs.declared.asked.RunWords.{RunWords}
use Rattle.smk_cli_entry.specs.declared.asking.Asked.{Asked}
use Rattle.smk_cli_entry.specs.Faults.{is_told, is_device, is_sink}
use Rattle.smk_plan_preview.specs.declared.previewing.Previewed.{Previewed}
use Rattle.smk_cli_calls.specs.Serving.{IsWant, HasOnlyLooked, Went, Refused, Stopped, Worked, Drove, HasListed, NotListed, Listed}
use Rattle.smk_cli_calls.specs.Serving as listing

-- ## Kinds of faults

-- a fault that is neither told nor of a sink
wanting : (f : Fault) → is_told f ≡ false → is_sink f ≡ false → IsWant f
wanting fault.Device untold unsunk = inl refl
wanting fault.OutOfMemory untold unsunk = inr refl
wanting fault.Output untold unsunk = absurd (true≢false unsunk)
wanting f untold unsunk = absurd (true≢false untold)

-- ## Looks

-- nothing else was done
pub only_looked : {act : Act} {a b : Device} {f : Bool} (p : Sunk) → HasLooked act a b f → HasOnlyLooked act a b f p p
only_looked p h = record { looked = h; unput = refl }

-- ## All of it

-- a fault of what only looks: a refusal, or want
pub refused_or_stopped :
    (act : Act) (words : RunWords) (Refuses : Fault → Type 0) (Asks : Asked → Type 0) (Plans : Asked → Previewed → Type 0) (f : Fault)
    (old new : Device) (p q : Sunk) →
    is_sink f ≡ false → (is_told f ≡ true → Refuses f) → HasOnlyLooked act old new (is_device f) p q → Went act words (Err f) Refuses Asks Plans old new p q
refused_or_stopped act words Refuses Asks Plans f old new p q unsunk why looked = by_kind (is_told f) refl
  where
    by_kind : (b : Bool) → is_told f ≡ b → Went act words (Err f) Refuses Asks Plans old new p q
    by_kind true e = Refused f refl (why e) looked
    by_kind false e = Stopped f refl (wanting f e unsunk) looked

-- there was no memory for the settings
pub no_settings :
    (act : Act) (words : RunWords) (Refuses : Fault → Type 0) (Asks : Asked → Type 0) (Plans : Asked → Previewed → Type 0) (d : Device) (p : Sunk) →
    Went act words (Err fault.OutOfMemory) Refuses Asks Plans d d p p
no_settings act words Refuses Asks Plans d p = Stopped fault.OutOfMemory refl (inr refl) (only_looked p (looked_nothing act d))

pub refused_or_stopped_listing : (Refuses : Fault → Type 0) (Plans : Asked → Previewed → Type 0) (f : Fault) (p : Sunk) → is_sink f ≡ false → (is_told f ≡ true → Refuses f) → HasListed Refuses Plans p p (Err f)
refused_or_stopped_listing Refuses Plans f p unsunk why = by_kind (is_told f) refl
  where
    by_kind : (b : Bool) → is_told f ≡ b → HasListed Refuses Plans p p (Err f)
    by_kind true e = NotListed f (why e) refl
    by_kind false e = listing.Stopped f (wanting f e unsunk) refl

-- looks, and then more looks
only_later : (act : Act) (a b c : Device) (f : Bool) (p q : Sunk) → HasLooked act a b false → HasOnlyLooked act b c f p q → HasOnlyLooked act a c f p q
only_later act a b c f p q first second = record { looked = looked_then first second.looked; unput = second.unput }

-- a run after looks
pub went_later :
    (act : Act) (words : RunWords) (result : Result (Unit {0}) Fault) (Refuses Narrow : Fault → Type 0) (Asks Few : Asked → Type 0)
    (Plans Fewer : Asked → Previewed → Type 0) (old mid new : Device) (p q : Sunk) →
    HasLooked act old mid false → ((f : Fault) → Narrow f → Refuses f) → ((asked : Asked) → Few asked → Asks asked) →
    ((asked : Asked) (told : Previewed) → Fewer asked told → Plans asked told) →
    Went act words result Narrow Few Fewer mid new p q → Went act words result Refuses Asks Plans old new p q
went_later act words result Refuses Narrow Asks Few Plans Fewer old mid new p q first why asks what (Refused f is refused looked) =
    Refused f is (why f refused) (only_later act old mid new (is_device f) p q first looked)
went_later act words result Refuses Narrow Asks Few Plans Fewer old mid new p q first why asks what (Stopped f is want looked) =
    Stopped f is want (only_later act old mid new (is_device f) p q first looked)
went_later act words result Refuses Narrow Asks Few Plans Fewer old mid new p q first why asks what (Worked asked told one plans worked) =
    Worked asked told one (what asked told plans) (record { looked = worked.looked; looking = looked_then first worked.looking; carried = worked.carried })
went_later act words result Refuses Narrow Asks Few Plans Fewer old mid new p q first why asks what (Drove asked apart is drove) =
    Drove asked apart (asks asked is)
    (record {
      looked = drove.looked;
      looking = looked_then first drove.looking;
      driven = drove.driven;
      answers = drove.answers;
      drove = drove.drove;
    })

-- a listing by what is wider
pub listed_wider : (result : Result (Unit {0}) Fault) (Refuses Narrow : Fault → Type 0) (Plans Fewer : Asked → Previewed → Type 0) (p q : Sunk) → ((f : Fault) → Narrow f → Refuses f) → ((asked : Asked) (told : Previewed) → Fewer asked told → Plans asked told)
    → HasListed Narrow Fewer p q result → HasListed Refuses Plans p q result
listed_wider _ Refuses Narrow Plans Fewer p q why what (NotListed f refused unput) = NotListed f (why f refused) unput
listed_wider _ Refuses Narrow Plans Fewer p q why what (listing.Stopped f want unput) = listing.Stopped f want unput
listed_wider _ Refuses Narrow Plans Fewer p q why what (Listed asked told result plans faults put) = Listed asked told result (what asked told plans) faults put
