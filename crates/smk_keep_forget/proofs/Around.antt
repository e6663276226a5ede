-- The lock around all turns.
use Rattle.std.proofs.Common.{◌≡◌, ◌⊎◌, inl, inr, Bool, true, false, ◌&&◌, ◌||◌, List, [], ◌∷◌, ◌++◌, refl, sym, ap, subst, ◌∙◌, Result, Ok, Err, true≢false}
use Rattle.std.specs.Prelude.{if◌then◌else◌, IsSome, is_some}
use Rattle.smk_base.specs.Place.{record_place, mark_place, note_place, lock_place}
use Rattle.smk_base.proofs.Apart.{IsApart, record-lock, mark-lock, note-lock}
use Rattle.smk_world.specs.declared.event.Failed.{Failed}
use Rattle.smk_world.specs.Calls.{Rose}
use Rattle.smk_world.specs.Devices.{Device, WhereTold, HasActed, Sunk}
use Rattle.smk_world.specs.Trees.{Path, Act, is_path_text}
use Rattle.smk_world.specs.World.{World, run, reading}
use Rattle.smk_world.proofs.Devices.{acted_as, acted_nothing, acted_then}
use Rattle.smk_record.specs.Reading.{record_in}
use Rattle.smk_store.specs.declared.store.Kept.TheVariants.{Absent}
use Rattle.smk_store.specs.Images.{is_known, kept_by, stands}
use Rattle.smk_keep_lock.specs.Changing.{ChangesOnly}
use Rattle.smk_keep_lock.specs.Locking.{HasTaken, HasReleased}
use Rattle.smk_keep_lock.specs.Putting.{IsWholeFor, Put, HasPutSome}
use Rattle.smk_keep_lock.proofs.Telling.{put_as, put_none, put_nothing}
use Rattle.smk_keep_forget.specs.declared.fault.ForgetFault.{ForgetFault}
use Rattle.smk_keep_forget.specs.declared.fault.ForgetFault.TheVariants.{Locked, Device as DeviceFault, OutOfMemory}
use Rattle.smk_keep_forget.specs.Answers.{forget_status, is_device}
use Rattle.smk_keep_forget.specs.Cleaning.{HasCleaned, Unheeded, Unmade, Untaken, Stood, Taken, HasPutLines}
use Rattle.smk_keep_forget.specs.Seen.{seen, forgotten_lines}
use Rattle.smk_keep_forget.specs.Steps.{HasEnded, Broken, Closed, Unclosed}
use Rattle.smk_keep_forget.specs.Turns.{HasGone}
use Rattle.smk_keep_forget.proofs.Going.{acted_at}
use Rattle.smk_keep_forget.proofs.Lines.{front_for, front_nothing, lines_same}

-- ## What is known under the lock

at_lock : (w v : World) (q : Path) → ChangesOnly (lock_place ∷ []) (lock_place ∷ []) w v → IsApart q lock_place → reading (v.nodes q) ≡ reading (w.nodes q)
at_lock w v q only apart = sym (only q (ap (λ b. b || false) apart.at_or_under) (ap (λ b. b || false) apart.over)).0

-- taking the lock leaves what is known
pub known_taken : (w v : World) → ChangesOnly (lock_place ∷ []) (lock_place ∷ []) w v → (q : Path) → is_known (seen v) q ≡ is_known (seen w) q
known_taken w v only q = λ i.
    stands (if is_path_text q then kept_by record_in q (at_lock w v (record_place q) only (record-lock q) i) else Absent)
    || ((is_path_text q && is_some (at_lock w v (mark_place q) only (mark-lock q) i)) || (is_path_text q && is_some (at_lock w v (note_place q) only (note-lock q) i)))

-- ## What was put

pub lines_put : (f d : Bool) (a b : Sunk) → HasPutSome f a b → HasPutLines f d a b
lines_put f d a b h = record { stays = by f h; cause = h.cause; quiet = λ quiet fine. h.quiet quiet }
  where
    by : (f : Bool) → HasPutSome f a b → (IsSome a.put → IsSome b.put) ⊎ Rose a.faults b.faults
    by true k = inr (k.cause.rose refl)
    by false k = inl (k.stays refl)

-- nothing was put
pub none_put : (f d : Bool) (a : Sunk) → f ≡ false → HasPutLines f d a a
none_put f d a is = subst (λ x. HasPutLines x d a a) (sym is) (lines_put false d a a (put_none a))

-- the device failed later
pub lines_then_device : (f : Bool) (a b : Sunk) → HasPutSome f a b → HasPutLines false true a b
lines_then_device f a b h =
    let l = lines_put f true a b h in
    record {
      stays = l.stays;
      cause = record { later = h.cause.later; rose = λ failure. absurd (true≢false (sym failure)) };
      quiet = λ quiet fine. absurd (true≢false fine);
    }

pub told_then_device : (answer : Result (Unit {0}) ForgetFault) (d : Device) (a b : Sunk) (paths : List Path) → WhereTold d (λ w. Put a b (IsWholeFor (forget_status answer) (forgotten_lines (seen w) [] paths)))
    → WhereTold d (λ w. Put a b (IsWholeFor 4 (forgotten_lines (seen w) [] paths)))
told_then_device answer d a b paths h = λ w at.
    put_as a b (IsWholeFor (forget_status answer) (forgotten_lines (seen w) [] paths)) (IsWholeFor 4 (forgotten_lines (seen w) [] paths))
    (λ t k. front_for DeviceFault (forgotten_lines (seen w) [] paths) t k.0) (h w at)

pub told_nothing : (f : ForgetFault) (d : Device) (a : Sunk) (paths : List Path) → WhereTold d (λ w. Put a a (IsWholeFor (forget_status {T = Unit {0}} (Err f)) (forgotten_lines (seen w) [] paths)))
told_nothing f d a paths = λ w at. put_nothing a _ (front_for f (forgotten_lines (seen w) [] paths) [] (front_nothing (forgotten_lines (seen w) [] paths)))

-- ## What was done

module _ (act : Act) (paths : List Path) where
  pub ended_broken : (a b : Device) (r : Result (Unit {0}) ForgetFault) → is_device r ≡ true → HasActed act (HasGone paths r) a b (is_device r) → HasActed act (HasEnded paths r) a b (is_device r)
  ended_broken a b r is h = acted_as act (HasGone paths r) (HasEnded paths r) a b (is_device r) (is_device r) refl (λ w es gone. Broken r w es gone is) h

  pub ended_closed : (a b c : Device) (r : Result (Unit {0}) ForgetFault) → is_device r ≡ false → HasActed act (HasGone paths r) a b (is_device r) → HasActed act (HasReleased (Ok tt)) b c false → HasActed act (HasEnded paths r) a c (is_device r)
  ended_closed a b c r is h release =
      acted_as act (HasEnded paths r) (HasEnded paths r) a c false (is_device r) (sym is) (λ w es k. k)
      (acted_then act (HasGone paths r) (HasReleased (Ok tt)) (HasEnded paths r) a b c false (λ w es fs follows gone follows2 released. Closed r w es fs (es ++ fs) gone is released refl)
      (acted_as act (HasGone paths r) (HasGone paths r) a b (is_device r) false is (λ w es k. k) h) release)

  pub ended_unclosed : (a b c : Device) (r : Result (Unit {0}) ForgetFault) (x : Failed) → is_device r ≡ false → HasActed act (HasGone paths r) a b (is_device r) → HasActed act (HasReleased (Err x)) b c true → HasActed act (HasEnded paths (Err DeviceFault)) a c true
  ended_unclosed a b c r x is h release =
      acted_then act (HasGone paths r) (HasReleased (Err x)) (HasEnded paths (Err DeviceFault)) a b c true (λ w es fs follows gone follows2 released. Unclosed r x w es fs (es ++ fs) gone is released refl)
      (acted_as act (HasGone paths r) (HasGone paths r) a b (is_device r) false is (λ w es k. k) h) release

  module _ (nolock : Bool) where
    pub cleaned_unheeded : (a b : Device) (r : Result (Unit {0}) ForgetFault) → nolock ≡ true → HasActed act (HasGone paths r) a b (is_device r) → HasActed act (HasCleaned paths nolock r) a b (is_device r)
    cleaned_unheeded a b r is h =
        acted_as act (HasGone paths r) (HasCleaned paths nolock r) a b (is_device r) (is_device r) refl (λ w es gone. subst (λ n. HasCleaned paths n r w es) (sym is) (Unheeded r w es gone)) h

    pub cleaned_unmade : (a : Device) → nolock ≡ false → HasActed act (HasCleaned paths nolock (Err OutOfMemory)) a a false
    cleaned_unmade a is = acted_nothing act (HasCleaned paths nolock (Err OutOfMemory)) a (λ w. subst (λ n. HasCleaned paths n (Err OutOfMemory) w []) (sym is) (Unmade w))

    pub cleaned_untaken : (a b : Device) (x : Failed) → nolock ≡ false → HasActed act (HasTaken (Err x)) a b true → HasActed act (HasCleaned paths nolock (Err DeviceFault)) a b true
    cleaned_untaken a b x is h =
        acted_as act (HasTaken (Err x)) (HasCleaned paths nolock (Err DeviceFault)) a b true true refl (λ w es taken. subst (λ n. HasCleaned paths n (Err DeviceFault) w es) (sym is) (Untaken x w es taken)) h

    pub cleaned_stood : (a b : Device) (taken : Bool) → nolock ≡ false → taken ≡ false → HasActed act (HasTaken (Ok taken)) a b false → HasActed act (HasCleaned paths nolock (Err Locked)) a b false
    cleaned_stood a b taken is stood h =
        acted_as act (HasTaken (Ok taken)) (HasCleaned paths nolock (Err Locked)) a b false false refl
        (λ w es t. subst (λ n. HasCleaned paths n (Err Locked) w es) (sym is) (Stood w es (subst (λ b. HasTaken (Ok b) w es) stood t))) h

    pub cleaned_taken : (a b c : Device) (taken : Bool) (r : Result (Unit {0}) ForgetFault) → nolock ≡ false → taken ≡ true → HasActed act (HasTaken (Ok taken)) a b false → HasActed act (HasEnded paths r) b c (is_device r)
        → HasActed act (HasCleaned paths nolock r) a c (is_device r)
    cleaned_taken a b c taken r is has h more =
        acted_then act (HasTaken (Ok taken)) (HasEnded paths r) (HasCleaned paths nolock r) a b c (is_device r)
        (λ w es fs follows t follows2 ended. subst (λ n. HasCleaned paths n r w (es ++ fs)) (sym is) (Taken r w es fs (es ++ fs) (subst (λ b. HasTaken (Ok b) w es) has t) ended refl)) h more

  -- what is told under the lock is what was known before
  pub told_taken : (a b : Device) (p q : Sunk) (taken : Bool) (status : Result (Unit {0}) ForgetFault) → HasActed act (HasTaken (Ok taken)) a b false
      → WhereTold b (λ w. Put p q (IsWholeFor (forget_status status) (forgotten_lines (seen w) [] paths))) → WhereTold a (λ w. Put p q (IsWholeFor (forget_status status) (forgotten_lines (seen w) [] paths)))
  told_taken a b p q taken status h told = λ w at.
      let t = acted_at act (HasTaken (Ok taken)) a b w h at in
      subst (λ l. Put p q (IsWholeFor (forget_status status) l)) (lines_same (seen (run w t.0)) (seen w) [] paths (known_taken w (run w t.0) t.2.only)) (told (run w t.0) t.3)

  -- the lock didn't stand where it is taken
  pub not_locked : (a b : Device) (taken : Bool) → taken ≡ true → HasActed act (HasTaken (Ok taken)) a b false → WhereTold a (λ w. (seen w).locked ≡ true → ⊥)
  not_locked a b taken has h = λ w at locked.
      let t = acted_at act (HasTaken (Ok taken)) a b w h at in
      true≢false (sym locked ∙ ap is_some (t.2.taken (ap Ok has)).0)
