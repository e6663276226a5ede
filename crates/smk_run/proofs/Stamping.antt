-- From the looks at a job's inputs to their stamps.
use Rattle.std.proofs.Common.{◌≡◌, ◌⊎◌, ℕ, Bool, false, true, List, [], ◌∷◌, ◌++◌, refl, ap, sym, subst, ◌∙◌, inl, inr, Option, Some, None, Result, Ok, Err, append_assoc}
use Rattle.std.proofs.lemmas.List.{append-nil}
use Rattle.smk_world.specs.declared.event.Call.TheVariants.{Looked}
use Rattle.smk_world.specs.declared.event.Event.{Event}
use Rattle.smk_world.specs.declared.event.Failed.{Failed}
use Rattle.smk_world.specs.declared.event.Stat.{Stat}
use Rattle.smk_world.specs.declared.event.Stat.TheVariants.{Nothing, File, Folder}
use Rattle.smk_world.specs.World.{World, run}
use Rattle.smk_world.specs.Calls.{failed}
use Rattle.smk_world.specs.Devices.{Device, HasCalled, HasActed}
use Rattle.smk_world.specs.Requests.{Request, request, HasDone}
use Rattle.smk_world.specs.Requests.Request.{Look}
use Rattle.smk_world.specs.Trees.{Path, Act}
use Rattle.smk_world.proofs.Devices.{acted_nothing, acted_call, acted_as, acted_then, done_append}
use Rattle.smk_record.specs.declared.record.Stamp.{Stamp}
use Rattle.smk_record.specs.declared.record.Stamp.TheVariants.{Time, Made}
use Rattle.smk_job.specs.Jobs.{IsPart}
use Rattle.smk_run.specs.declared.stop.Stop.{Stop}
use Rattle.smk_run.specs.declared.stop.Stop.TheVariants.{TooLong, Gone, Device as DeviceStop, Output, OutOfMemory}
use Rattle.smk_run.specs.Stamps.{Serials, look_at, looks, IsStamped, AreStamped, is_file, EndsGone, HasStamped, HasTimed, HasStamp, HasPushed, IsTimeIn}
use Rattle.smk_run.specs.Reports.{is_device, is_device_stop}

-- ## Parts of looks

-- what a quiet run of calls and a part of later ones are
part_after : (rs qs : List Request) (es fs : List Event) → HasDone rs es → IsPart qs fs → IsPart (rs ++ qs) (es ++ fs)
part_after [] qs [] fs h k = k
part_after [] qs (e ∷ es) fs h k = absurd h
part_after (r ∷ rs) qs [] fs h k = absurd h
part_after (r ∷ rs) qs (e ∷ es) fs h k = (h.0, inr (h.1, part_after rs qs es fs h.2 k))

part_longer : (rs qs : List Request) (es : List Event) → IsPart rs es → IsPart (rs ++ qs) es
part_longer rs qs [] h = tt
part_longer [] qs (e ∷ es) h = absurd h
part_longer (r ∷ rs) qs (e ∷ es) (h, inl k) = (h, inl k)
part_longer (r ∷ rs) qs (e ∷ es) (h, inr k) = (h, inr (k.0, part_longer rs qs es k.1))

done_part : (rs : List Request) (es : List Event) → HasDone rs es → IsPart rs es
done_part rs [] h = tt
done_part [] (e ∷ es) h = absurd h
done_part (r ∷ rs) (e ∷ es) h = (h.0, inr (h.1, done_part rs es h.2))

stamped_done : (m : Option ℕ) (p : Path) (s : Stamp) (es : List Event) → IsStamped m p s es → HasDone (look_at m p) es
stamped_done (Some serial) p s es h = subst (λ l. HasDone [] l) (sym h.1) tt
stamped_done None p s es h =
    subst (λ l. HasDone (Look p ∷ []) l) (sym h.1)
    (ap request h.2.2, ap failed h.2.2, tt)

-- where all have their stamps, all looks were made
pub all_done : (made : Serials) (ps : List Path) (ss : List Stamp) (es : List Event) → AreStamped made ps ss es → HasDone (looks made ps) es
all_done made [] [] es h = subst (λ l. HasDone [] l) (sym h) tt
all_done made [] (s ∷ ss) es h = absurd h
all_done made (p ∷ ps) [] es h = absurd h
all_done made (p ∷ ps) (s ∷ ss) es (first, more, is, one, rest) =
    subst (λ l. HasDone (looks made (p ∷ ps)) l) (sym is)
    (done_append (look_at (made p) p) (looks made ps) first more (stamped_done (made p) p s first one) (all_done made ps ss more rest))

pub all_part : (made : Serials) (ps : List Path) (ss : List Stamp) (es : List Event) → AreStamped made ps ss es → IsPart (looks made ps) es
all_part made ps ss es h = done_part (looks made ps) es (all_done made ps ss es h)

-- one more stamp
stamped_next : (made : Serials) (ps : List Path) (ss : List Stamp) (es fs : List Event) (p : Path) (s : Stamp)
    → AreStamped made ps ss es → IsStamped (made p) p s fs → AreStamped made (ps ++ p ∷ []) (ss ++ s ∷ []) (es ++ fs)
stamped_next made [] [] es fs p s h k = (fs, [], ap (λ l. l ++ fs) h ∙ sym (append-nil fs), k, refl)
stamped_next made [] (t ∷ ss) es fs p s h k = absurd h
stamped_next made (q ∷ ps) [] es fs p s h k = absurd h
stamped_next made (q ∷ ps) (t ∷ ss) es fs p s (first, more, is, one, rest) k =
    (first, more ++ fs, ap (λ l. l ++ fs) is ∙ append_assoc first more fs, one, stamped_next made ps ss more fs p s rest k)

looks_append : (made : Serials) (ps qs : List Path) → looks made (ps ++ qs) ≡ looks made ps ++ looks made qs
looks_append made [] qs = refl
looks_append made (p ∷ ps) qs = ap (λ l. look_at (made p) p ++ l) (looks_append made ps qs) ∙ sym (append_assoc (look_at (made p) p) (looks made ps) (looks made qs))

-- so many had their stamps, and then it ended at this one
part_at : (made : Serials) (before after : List Path) (p : Path) (ss : List Stamp) (es fs : List Event)
    → AreStamped made before ss es → IsPart (look_at (made p) p) fs → IsPart (looks made (before ++ p ∷ after)) (es ++ fs)
part_at made before after p ss es fs h k =
    subst (λ l. IsPart l (es ++ fs)) (sym (looks_append made before (p ∷ after)))
    (part_after (looks made before) (looks made (p ∷ after)) es fs (all_done made before ss es h) (part_longer (look_at (made p) p) (looks made after) fs k))

gone_later : (p : Path) (es fs : List Event) → EndsGone p fs → EndsGone p (es ++ fs)
gone_later p es fs (before, e, is, k) = (es ++ before, e, ap (λ l. es ++ l) is ∙ sym (append_assoc es before (e ∷ [])), k)

-- ## One look

pub timed_well : {act : Act} {a b : Device} (p : Path) (time : ℕ) (read_only : Bool) → HasCalled act a b (Looked p (Ok (File time read_only))) → HasActed act (HasTimed p (Ok time)) a b false
timed_well {act} {a} {b} p time read_only now =
    acted_call act (HasTimed p (Ok time)) a b (Looked p (Ok (File time read_only))) refl (λ w left lets. (record { call = Looked p (Ok (File time read_only)); left = left }, refl, (time, read_only, refl, refl))) now

timed_gone : {act : Act} {a b : Device} (p : Path) (stat : Stat) → is_file stat ≡ false → HasCalled act a b (Looked p (Ok stat)) → HasActed act (HasTimed p (Err (Gone p))) a b false
timed_gone {act} {a} {b} p stat none now =
    acted_call act (HasTimed p (Err (Gone p))) a b (Looked p (Ok stat)) refl
    (λ w left lets. ((refl, inr (refl, tt)), ([], record { call = Looked p (Ok stat); left = left }, refl, (stat, refl, none)))) now

timed_short : {act : Act} {a b : Device} (p : Path) (stat : Stat) → HasCalled act a b (Looked p (Ok stat)) → HasActed act (HasTimed p (Err OutOfMemory)) a b false
timed_short {act} {a} {b} p stat now = acted_call act (HasTimed p (Err OutOfMemory)) a b (Looked p (Ok stat)) refl (λ w left lets. (refl, inr (refl, tt))) now

-- the look didn't fail
pub timed_seen : (act : Act) (a b : Device) (p q : Path) (stat : Stat) (r : Result ℕ Stop) → q ≡ p → IsTimeIn p stat r → HasCalled act a b (Looked q (Ok stat)) → HasActed act (HasTimed p r) a b (is_device r)
timed_seen act a b p q stat r same seen now = by stat seen (subst (λ x. HasCalled act a b (Looked x (Ok stat))) same now)
  where
    Timed : Result ℕ Stop → Type 0
    Timed x = HasActed act (HasTimed p x) a b (is_device x)

    none : (stat : Stat) → is_file stat ≡ false → (r ≡ Err (Gone p)) ⊎ (r ≡ Err OutOfMemory) → HasCalled act a b (Looked p (Ok stat)) → Timed r
    none stat nought (inl e) now = subst Timed (sym e) (timed_gone p stat nought now)
    none stat nought (inr e) now = subst Timed (sym e) (timed_short p stat now)

    by : (stat : Stat) → IsTimeIn p stat r → HasCalled act a b (Looked p (Ok stat)) → Timed r
    by Nothing e now = none Nothing refl e now
    by Folder e now = none Folder refl e now
    by (File time read_only) e now = subst Timed (sym e) (timed_well p time read_only now)

pub timed_badly : (act : Act) (a b : Device) (p q : Path) (e : Failed) → q ≡ p → HasCalled act a b (Looked q (Err e)) → HasActed act (HasTimed p (Err DeviceStop)) a b true
timed_badly act a b p q e same now =
    acted_call act (HasTimed p (Err DeviceStop)) a b (Looked p (Err e)) refl (λ w left lets. (refl, inl (refl, refl))) (subst (λ x. HasCalled act a b (Looked x (Err e))) same now)

-- ## One stamp

-- a product's is known, and nothing was looked at
pub stamped_made : (act : Act) (m : Option ℕ) (p : Path) (serial : ℕ) (a : Device) → m ≡ Some serial → HasActed act (HasStamp m p (Ok (Made serial))) a a false
stamped_made act m p serial a is = subst (λ x. HasActed act (HasStamp x p (Ok (Made serial))) a a false) (sym is) (acted_nothing act (HasStamp (Some serial) p (Ok (Made serial))) a (λ w. (refl, refl)))

pub stamped_at : (act : Act) (m : Option ℕ) (p : Path) (time : ℕ) (a b : Device) → m ≡ None → HasActed act (HasTimed p (Ok time)) a b false → HasActed act (HasStamp m p (Ok (Time time))) a b false
stamped_at act m p time a b is h =
    subst (λ x. HasActed act (HasStamp x p (Ok (Time time))) a b false) (sym is) (acted_as act (HasTimed p (Ok time)) (HasStamp None p (Ok (Time time))) a b false false refl (λ w es f. f) h)

unstamped_by : (p : Path) (stop : Stop) (w : World) (es : List Event) → HasTimed p (Err stop) w es → HasStamp None p (Err stop) w es
unstamped_by p (TooLong n) w es h = h
unstamped_by p (Gone q) w es h = h
unstamped_by p DeviceStop w es h = h
unstamped_by p Output w es h = h
unstamped_by p OutOfMemory w es h = h

pub unstamped : (act : Act) (m : Option ℕ) (p : Path) (stop : Stop) (a b : Device) → m ≡ None → HasActed act (HasTimed p (Err stop)) a b (is_device_stop stop) → HasActed act (HasStamp m p (Err stop)) a b (is_device_stop stop)
unstamped act m p stop a b is h =
    subst (λ x. HasActed act (HasStamp x p (Err stop)) a b (is_device_stop stop)) (sym is)
    (acted_as act (HasTimed p (Err stop)) (HasStamp None p (Err stop)) a b (is_device_stop stop) (is_device_stop stop) refl (λ w es f. unstamped_by p stop w es f) h)

-- ## One stamp more

pub pushed : (act : Act) (m : Option ℕ) (p : Path) (stamp : Stamp) (old new : List Stamp) (a b : Device) → new ≡ old ++ stamp ∷ [] → HasActed act (HasStamp m p (Ok stamp)) a b false → HasActed act (HasPushed m p old new (Ok tt)) a b false
pushed act m p stamp old new a b grown h = acted_as act (HasStamp m p (Ok stamp)) (HasPushed m p old new (Ok tt)) a b false false refl (λ w es f. (stamp, grown, f)) h

stamped_part : (m : Option ℕ) (p : Path) (s : Stamp) (es : List Event) → IsStamped m p s es → IsPart (look_at m p) es
stamped_part m p s es h = done_part (look_at m p) es (stamped_done m p s es h)

-- there is no memory for it
pub pushed_short : (act : Act) (m : Option ℕ) (p : Path) (stamp : Stamp) (old new : List Stamp) (a b : Device) → HasActed act (HasStamp m p (Ok stamp)) a b false → HasActed act (HasPushed m p old new (Err OutOfMemory)) a b false
pushed_short act m p stamp old new a b h =
    acted_as act (HasStamp m p (Ok stamp)) (HasPushed m p old new (Err OutOfMemory)) a b false false refl (λ w es f. stamped_part m p stamp es f) h

unpushed_by : (m : Option ℕ) (p : Path) (old new : List Stamp) (stop : Stop) (w : World) (es : List Event) → HasStamp m p (Err stop) w es → HasPushed m p old new (Err stop) w es
unpushed_by m p old new (TooLong n) w es h = h
unpushed_by m p old new (Gone q) w es h = h
unpushed_by m p old new DeviceStop w es h = h
unpushed_by m p old new Output w es h = h
unpushed_by m p old new OutOfMemory w es h = h

pub unpushed : (act : Act) (m : Option ℕ) (p : Path) (old new : List Stamp) (stop : Stop) (a b : Device) → HasActed act (HasStamp m p (Err stop)) a b (is_device_stop stop) → HasActed act (HasPushed m p old new (Err stop)) a b (is_device_stop stop)
unpushed act m p old new stop a b h =
    acted_as act (HasStamp m p (Err stop)) (HasPushed m p old new (Err stop)) a b (is_device_stop stop) (is_device_stop stop) refl (λ w es f. unpushed_by m p old new stop w es f) h

-- ## All stamps

pub stamps_next : (act : Act) (made : Serials) (before all : List Path) (p : Path) (old new : List Stamp) (a b c : Device)
    → all ≡ before ++ p ∷ [] → HasActed act (HasStamped made before (Ok old)) a b false → HasActed act (HasPushed (made p) p old new (Ok tt)) b c false
    → HasActed act (HasStamped made all (Ok new)) a c false
stamps_next act made before all p old new a b c grown h k =
    acted_then act (HasStamped made before (Ok old)) (HasPushed (made p) p old new (Ok tt)) (HasStamped made all (Ok new)) a b c false
    (λ w es fs follows f follows2 g.
    subst (λ l. AreStamped made l new (es ++ fs)) (sym grown)
    (subst (λ l. AreStamped made (before ++ p ∷ []) l (es ++ fs)) (sym g.1) (stamped_next made before old es fs p g.0 f g.2))) h k

stopped_at : (made : Serials) (before after : List Path) (p : Path) (ss new : List Stamp) (stop : Stop) (w v : World) (es fs : List Event)
    → AreStamped made before ss es → HasPushed (made p) p ss new (Err stop) v fs → HasStamped made (before ++ p ∷ after) (Err stop) w (es ++ fs)
stopped_at made before after p ss new (TooLong n) w v es fs h k = part_at made before after p ss es fs h k
stopped_at made before after p ss new (Gone q) w v es fs h k = (part_at made before after p ss es fs h k.0, gone_later q es fs k.1)
stopped_at made before after p ss new DeviceStop w v es fs h k = part_at made before after p ss es fs h k
stopped_at made before after p ss new Output w v es fs h k = part_at made before after p ss es fs h k
stopped_at made before after p ss new OutOfMemory w v es fs h k = part_at made before after p ss es fs h k

pub stamps_stop : (act : Act) (made : Serials) (before after all : List Path) (p : Path) (old new : List Stamp) (stop : Stop) (a b c : Device)
    → all ≡ before ++ p ∷ after → HasActed act (HasStamped made before (Ok old)) a b false → HasActed act (HasPushed (made p) p old new (Err stop)) b c (is_device_stop stop)
    → HasActed act (HasStamped made all (Err stop)) a c (is_device_stop stop)
stamps_stop act made before after all p old new stop a b c whole h k =
    acted_then act (HasStamped made before (Ok old)) (HasPushed (made p) p old new (Err stop)) (HasStamped made all (Err stop)) a b c (is_device_stop stop)
    (λ w es fs follows f follows2 g. subst (λ l. HasStamped made l (Err stop) w (es ++ fs)) (sym whole) (stopped_at made before after p old new stop w (run w es) es fs f g)) h k
