-- What is done under the lock, by what its parts did.
use native.Mathlib.Omega.{arith}
use Rattle.std.proofs.Common.{◌≡◌, ◌⊎◌, ◌≤◌, Bool, true, false, List, [], ◌∷◌, inl, inr, refl, sym, ap, subst, ◌∙◌, Some, Result, Ok, Err, true≢false}
use Rattle.std.specs.Prelude.{IsSome, is_err, is_ok}
use Rattle.smk_base.specs.Place.{lock_place}
use Rattle.smk_world.specs.declared.event.Child.{Child}
use Rattle.smk_world.specs.declared.event.Event.{Event}
use Rattle.smk_world.specs.declared.event.Failed.{Failed}
use Rattle.smk_world.specs.World.{World, numbers, reading}
use Rattle.smk_world.specs.Calls.{HasCause, Rose}
use Rattle.smk_world.specs.Devices.{Device, Sunk, HasActed, HasLooked}
use Rattle.smk_world.specs.Trees.{Act}
use Rattle.smk_keep_lock.specs.Locking.{HasTaken, HasReleased}
use Rattle.smk_keep_forget.proofs.Going.{acted_at}
use Rattle.smk_report.specs.declared.fault.Fault.{Fault}
use Rattle.smk_report.specs.declared.fault.Fault.TheVariants as fault
use Rattle.smk_run.proofs.Rising.{rose_earlier}
use Rattle.smk_words_reading.specs.declared.asked.RunWords.{RunWords}
use Rattle.smk_cli_entry.specs.declared.asking.Asked.{Asked}
use Rattle.smk_plan_preview.specs.declared.previewing.Previewed.{Previewed}
use Rattle.smk_cli_entry.specs.Faults.{is_device, is_sink}
use Rattle.smk_cli_calls.proofs.Ended.{no_cause}
use Rattle.smk_cli_calls.specs.Ends.{EndsAs, fault_of, of_device, of_sink}
use Rattle.smk_cli_calls.specs.Serving.{Went, Refused, Stopped, Worked, Drove}
use Rattle.smk_cli_calls.specs.Locking.{HasHeeded, IsAfterLooks, IsOnceLocked, Stood, Taken, Unmade, Untaken, with_release}

-- ## By what is wider

pub went_wider :
    (act : Act) (words : RunWords) (result : Result (Unit {0}) Fault) (Refuses Narrow : Fault → Type 0) (Asks Few : Asked → Type 0)
    (Plans Fewer : Asked → Previewed → Type 0) (old new : Device) (p q : Sunk) →
    ((f : Fault) → Narrow f → Refuses f) → ((asked : Asked) → Few asked → Asks asked) →
    ((asked : Asked) (told : Previewed) → Fewer asked told → Plans asked told) →
    Went act words result Narrow Few Fewer old new p q → Went act words result Refuses Asks Plans old new p q
went_wider act words result Refuses Narrow Asks Few Plans Fewer old new p q why asks what (Refused f is refused looked) = Refused f is (why f refused) looked
went_wider act words result Refuses Narrow Asks Few Plans Fewer old new p q why asks what (Stopped f is want looked) = Stopped f is want looked
went_wider act words result Refuses Narrow Asks Few Plans Fewer old new p q why asks what (Worked asked told one plans worked) =
    Worked asked told one (what asked told plans) worked
went_wider act words result Refuses Narrow Asks Few Plans Fewer old new p q why asks what (Drove asked apart is drove) =
    Drove asked apart (asks asked is) drove

pub heeded_wider :
    (act : Act) (words : RunWords) (answer : Result (Unit {0}) Fault) (Refuses Narrow : World → Fault → Type 0) (Asks Few : Asked → Type 0)
    (Plans Fewer : World → Asked → Previewed → Type 0) (w : World) (old new : Device) (p q : Sunk) →
    ((v : World) (f : Fault) → Narrow v f → Refuses v f) → ((asked : Asked) → Few asked → Asks asked) →
    ((v : World) (asked : Asked) (told : Previewed) → Fewer v asked told → Plans v asked told) →
    HasHeeded act words answer Narrow Few Fewer w old new p q → HasHeeded act words answer Refuses Asks Plans w old new p q
heeded_wider act words answer Refuses Narrow Asks Few Plans Fewer w old new p q why asks what (Unmade is same unput) = Unmade is same unput
heeded_wider act words answer Refuses Narrow Asks Few Plans Fewer w old new p q why asks what (Stood is stands tried unput) = Stood is stands tried unput
heeded_wider act words answer Refuses Narrow Asks Few Plans Fewer w old new p q why asks what (Untaken e is tried unput) = Untaken e is tried unput
heeded_wider act words answer Refuses Narrow Asks Few Plans Fewer w old new p q why asks what (Taken v locked once at taken ran) =
    Taken v locked once at taken
    (record {
      ran = ran.ran;
      left = ran.left;
      went = went_wider act words ran.ran (Refuses v) (Narrow v) Asks Few (Plans v) (Fewer v) locked ran.left p q (why v) asks (what v) ran.went;
      closed = ran.closed;
    })

-- ## Folders that are told

-- the folder after looks
pub after_looks : {act : Act} {a b : Device} (w : World) → HasLooked act a b false → a.world ≡ Some w → (v : World) × (b.world ≡ Some v) × IsAfterLooks act w v
after_looks {act = act} {a = a} {b = b} w looked at =
    let t = acted_at act _ a b w looked.acted at in
    (_, t.3, record { looks = t.0; only_looks = t.2; follows = t.1; is = refl })

-- the folder once the lock is taken
pub once_locked : {act : Act} {a b : Device} (w : World) → HasActed act (HasTaken (Ok true)) a b false → a.world ≡ Some w →
    (v : World) × (b.world ≡ Some v) × IsOnceLocked act w v
once_locked {act = act} {a = a} {b = b} w taken at =
    let t = acted_at act (HasTaken (Ok true)) a b w taken at in
    (_, t.3, record { taking = t.0; took = t.2; follows = t.1; is = refl })

-- the lock stands where it isn't taken
pub lock_stands : {act : Act} {a b : Device} (w : World) → HasActed act (HasTaken (Ok false)) a b false → a.world ≡ Some w →
    IsSome (reading (w.nodes lock_place))
lock_stands {act = act} {a = a} {b = b} w tried at = ((acted_at act (HasTaken (Ok false)) a b w tried at).2.stood refl).0

-- where none is numbered there is no child
pub none_numbered : (cs : List Child) → numbers cs ≡ [] → cs ≡ []
none_numbered [] h = refl
none_numbered (c ∷ cs) h = cc

-- ## Ends

-- after a step by which no child starts or ends
pub acted_on : {act : Act} {P : World → List Event → Type 0} (r : Result (Unit {0}) Fault) (a b c : Device) (p q : Sunk) → HasActed act P a b false →
    EndsAs r b c p q → EndsAs r a c p q
acted_on r a b c p q acted h =
    let le = acted.cause.later in
    record {
      ends = record {
        device = record {
          later = (let more = h.ends.device.later in omega (arith, le, more));
          rose = λ e. rose_earlier a.faults b.faults c.faults le (h.ends.device.rose e);
        };
        output = h.ends.output;
        children = unless (c.running ≡ []) h.ends.children;
        stays = told h.ends.stays;
      };
      quiet = h.quiet;
    }
  where
    unless : (P : Type 0) → P ⊎ Rose b.faults c.faults → P ⊎ Rose a.faults c.faults
    unless P (inl h) = inl h
    unless P (inr rose) = inr (rose_earlier a.faults b.faults c.faults acted.cause.later rose)

    told : (IsSome b.world → IsSome c.world) ⊎ Rose b.faults c.faults → (IsSome a.world → IsSome c.world) ⊎ Rose a.faults c.faults
    told (inl h) = inl (λ some. h (acted.stays refl some))
    told (inr rose) = inr (rose_earlier a.faults b.faults c.faults acted.cause.later rose)

told_or_rose : {act : Act} {P : World → List Event → Type 0} {a b : Device} (failed : Bool) → HasActed act P a b failed →
    (IsSome a.world → IsSome b.world) ⊎ Rose a.faults b.faults
told_or_rose true h = inr (h.cause.rose refl)
told_or_rose false h = inl (h.stays refl)

-- a step that ends the call with this fault, and puts nothing
pub acted_last : {act : Act} {P : World → List Event → Type 0} (f : Fault) (a b : Device) (p : Sunk) (failed : Bool) → HasActed act P a b failed →
    a.running ≡ [] → failed ≡ is_device f → is_sink f ≡ false
    → EndsAs (Err f) a b p p
acted_last f a b p failed acted none is calm = record {
  ends = record {
    device = subst (HasCause a.faults b.faults) is acted.cause;
    output = no_cause p.faults p.faults (is_sink f) (omega arith) calm;
    children = inl (acted.running ∙ none);
    stays = told_or_rose failed acted;
  };
  quiet = λ e. refl;
}

-- nothing was done for want of memory
pub unmade_end : (a : Device) (p : Sunk) → a.running ≡ [] → EndsAs (Err fault.OutOfMemory) a a p p
unmade_end a p none = record {
  ends = record {
    device = no_cause a.faults a.faults false (omega arith) refl;
    output = no_cause p.faults p.faults false (omega arith) refl;
    children = inl none;
    stays = inl (λ some. some);
  };
  quiet = λ e. refl;
}

-- ## Releasing

module _ (act : Act) (ran : Result (Unit {0}) Fault) (locked left new : Device) (p q : Sunk) (ended : EndsAs ran locked left p q) where
  -- where the count didn't rise no child is left
  pub left_idle : ¬ (Rose locked.faults left.faults) → left.running ≡ []
  left_idle never = go ended.ends.children
    where
      go : (left.running ≡ []) ⊎ Rose locked.faults left.faults → left.running ≡ []
      go (inl none) = none
      go (inr rose) = absurd (never rose)

  module _ (never : ¬ (Rose locked.faults left.faults)) where
    stays_told : IsSome locked.world → IsSome left.world
    stays_told = go ended.ends.stays
      where
        go : (IsSome locked.world → IsSome left.world) ⊎ Rose locked.faults left.faults → IsSome locked.world → IsSome left.world
        go (inl h) = h
        go (inr rose) = absurd (never rose)

    pub released_end : (released : Result (Unit {0}) Failed) → HasActed act (HasReleased released) left new (is_err released) →
        EndsAs (with_release released ran) locked new p q
    released_end released goes = by released ran refl goes
      where
        le : locked.faults ≤ new.faults
        le = omega (arith, ended.ends.device.later, goes.cause.later)

        idle : new.running ≡ []
        idle = goes.running ∙ left_idle never

        of_ran : (f : Bool) → f ≡ of_device (fault_of ran) → HasCause locked.faults new.faults f
        of_ran f is = record { later = le; rose = λ e. absurd (never (ended.ends.device.rose (sym is ∙ e))) }

        rose_so : Rose left.faults new.faults → Rose locked.faults new.faults
        rose_so rose = rose_earlier locked.faults left.faults new.faults ended.ends.device.later rose

        by : (r : Result (Unit {0}) Failed) (x : Result (Unit {0}) Fault) → x ≡ ran → HasActed act (HasReleased r) left new (is_err r) →
            EndsAs (with_release r x) locked new p q
        by (Ok u) x is h = record {
          ends = record {
            device = of_ran (of_device (fault_of x)) (ap (λ y. of_device (fault_of y)) is);
            output = subst (λ y. HasCause p.faults q.faults (of_sink (fault_of y))) (sym is) ended.ends.output;
            children = inl idle;
            stays = inl (λ some. h.stays refl (stays_told some));
          };
          quiet = λ e. ended.quiet (ap is_ok (sym is) ∙ e);
        }
        by (Err e) (Ok u) is h = record {
          ends = record {
            device = record { later = le; rose = λ k. rose_so (h.cause.rose refl) };
            output = subst (λ y. HasCause p.faults q.faults (of_sink (fault_of y))) (sym is) ended.ends.output;
            children = inl idle;
            stays = inr (rose_so (h.cause.rose refl));
          };
          quiet = λ k. absurd (true≢false (sym k));
        }
        by (Err e) (Err f) is h = record {
          ends = record {
            device = of_ran (is_device f) (ap (λ y. of_device (fault_of y)) is);
            output = subst (λ y. HasCause p.faults q.faults (of_sink (fault_of y))) (sym is) ended.ends.output;
            children = inl idle;
            stays = inr (rose_so (h.cause.rose refl));
          };
          quiet = λ k. absurd (true≢false (sym k));
        }
