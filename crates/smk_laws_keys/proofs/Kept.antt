-- What the events of forgetting keep to.
use Rattle.std.proofs.Common.{◌≡◌, inl, inr, Bool, true, false, List, [], ◌∷◌, ◌++◌, map, refl, sym, subst, Result, Ok, Err}
use Rattle.smk_laws_job.proofs.Abandoning.{in_map}
use Rattle.smk_laws_protocol.proofs.Stays.{in_right}
use Rattle.smk_base.specs.Place.{lock_place, record_place, mark_place, note_place}
use Rattle.smk_world.specs.declared.event.Event.{Event}
use Rattle.smk_world.specs.Devices.{AreLooks}
use Rattle.smk_world.specs.Requests.{Request, request, HasDone, IsCutShort}
use Rattle.smk_world.specs.Requests.Request.{Look, ReadUpTo, ListFolder, Write, Create, Remove, MakeParents, Settle, Protect, Start, Wait}
use Rattle.smk_world.specs.Trees.{Path, IsIn, Each}
use Rattle.smk_world.specs.World.{World, run}
use Rattle.smk_store.specs.declared.fault.StoreFault.{StoreFault}
use Rattle.smk_store.specs.declared.fault.StoreFault.TheVariants as store
use Rattle.smk_store.specs.Forgetting.{HasForgotten, LooksThen, forget_requests, forget_if}
use Rattle.smk_store.specs.Stores.{Known}
use Rattle.smk_keep_lock.proofs.Staying.{AllKeepTo, KeepsTo, carried_keep, looks_keep}
use Rattle.smk_keep_forget.specs.declared.fault.ForgetFault.{ForgetFault}
use Rattle.smk_keep_forget.specs.declared.fault.ForgetFault.TheVariants.{Locked, StampSeen, Device, Output, OutOfMemory}
use Rattle.smk_keep_forget.specs.Turns.{HaveTurned, Looked, Turned, EndsSo, HasGone}
use Rattle.smk_keep_forget.proofs.Forgetting.{own_of, requests_keep}
use Rattle.smk_laws_keys.specs.Keys.{own_places}

-- ## Lists

pub in_left : {A : Type 0} (xs ys : List A) (x : A) → IsIn xs x → IsIn (xs ++ ys) x
in_left [] ys x h = absurd h
in_left (y ∷ xs) ys x (inl e) = inl e
in_left (y ∷ xs) ys x (inr h) = inr (in_left xs ys x h)

pub each_append : {A : Type 0} (P : A → Type 0) (xs ys : List A) → Each P xs → Each P ys → Each P (xs ++ ys)
each_append P [] ys h k = k
each_append P (x ∷ xs) ys h k = (h.0, each_append P xs ys h.1 k)

-- ## More places

keeps_more : (ps qs bs cs : List Path) → ((x : Path) → IsIn ps x → IsIn qs x) → ((x : Path) → IsIn bs x → IsIn cs x) → (r : Request) → KeepsTo ps bs r → KeepsTo qs cs r
keeps_more ps qs bs cs more above (Look p) h = h
keeps_more ps qs bs cs more above (ReadUpTo p limit) h = h
keeps_more ps qs bs cs more above (ListFolder p) h = h
keeps_more ps qs bs cs more above (Write p bytes) h = h
keeps_more ps qs bs cs more above (Create p) h = more p h
keeps_more ps qs bs cs more above (Remove p) h = more p h
keeps_more ps qs bs cs more above (MakeParents p) h = above p h
keeps_more ps qs bs cs more above (Settle xs) h = h
keeps_more ps qs bs cs more above (Protect p) h = h
keeps_more ps qs bs cs more above (Start recipe logs command) h = h
keeps_more ps qs bs cs more above Wait h = h

pub all_more : (ps qs bs cs : List Path) → ((x : Path) → IsIn ps x → IsIn qs x) → ((x : Path) → IsIn bs x → IsIn cs x) → (es : List Event) → AllKeepTo ps bs es → AllKeepTo qs cs es
all_more ps qs bs cs more above [] h = tt
all_more ps qs bs cs more above (e ∷ es) h = (keeps_more ps qs bs cs more above (request e.call) h.0, all_more ps qs bs cs more above es h.1)

-- the path's own places are among those of all paths
own_among : (paths : List Path) (p : Path) → IsIn paths p → (x : Path) → IsIn (own_of p) x → IsIn (own_places paths) x
own_among paths p i x (inl e) = inr (in_left (map record_place paths) _ x (subst (IsIn (map record_place paths)) (sym e) (in_map record_place paths p i)))
own_among paths p i x (inr (inl e)) =
    inr (in_right (map record_place paths) _ x (in_right (map mark_place paths) (map note_place paths) x (subst (IsIn (map note_place paths)) (sym e) (in_map note_place paths p i))))
own_among paths p i x (inr (inr (inl e))) =
    inr (in_right (map record_place paths) _ x (in_left (map mark_place paths) (map note_place paths) x (subst (IsIn (map mark_place paths)) (sym e) (in_map mark_place paths p i))))
own_among paths p i x (inr (inr (inr h))) = absurd h

-- ## Turns

then_keep : (p : Path) (P : List Event → Type 0) (es : List Event) → ((calls : List Event) → P calls → AllKeepTo (own_of p) [] calls) → LooksThen P es → AllKeepTo (own_of p) [] es
then_keep p P es more (looks, calls, split, look, h) =
    subst (AllKeepTo (own_of p) []) (sym split) (each_append _ looks calls (looks_keep (own_of p) [] false looks look) (more calls h))

done_keep : (p : Path) (k : Bool) (calls : List Event) → HasDone (forget_if k p) calls → AllKeepTo (own_of p) [] calls
done_keep p true calls h = carried_keep (own_of p) [] (forget_requests p) true calls (requests_keep p) h
done_keep p false calls h = carried_keep (own_of p) [] [] true calls tt h

-- whatever is answered, a turn keeps to the path's own places
pub forgotten_keep : (ks : List Known) (p : Path) (r : Result Bool StoreFault) (w : World) (es : List Event) → HasForgotten ks p r w es → AllKeepTo (own_of p) [] es
forgotten_keep ks p (Ok k) w es (unseen, later) = then_keep p (λ calls. HasDone (forget_if k p) calls) es (done_keep p k) later
forgotten_keep ks p (Err (store.StampSeen q)) w es (first, look) = looks_keep (own_of p) [] false es look
forgotten_keep ks p (Err store.Device) w es (inl look) = looks_keep (own_of p) [] true es look
forgotten_keep ks p (Err store.Device) w es (inr (unseen, later)) =
    then_keep p (λ calls. IsCutShort (forget_requests p) calls) es (λ calls h. carried_keep (own_of p) [] (forget_requests p) false calls (requests_keep p) h) later
forgotten_keep ks p (Err store.OutOfMemory) w es look = looks_keep (own_of p) [] false es look

pub in_front : (paths done later : List Path) → paths ≡ done ++ later → (p : Path) → IsIn done p → IsIn paths p
in_front paths done later split p h = subst (λ l. IsIn l p) (sym split) (in_left done later p h)

module _ (paths : List Path) where
  one_keep : (p : Path) → IsIn paths p → (es : List Event) → AllKeepTo (own_of p) [] es → AllKeepTo (own_places paths) (lock_place ∷ []) es
  one_keep p i es h = all_more (own_of p) (own_places paths) [] (lock_place ∷ []) (own_among paths p i) (λ x b. absurd b) es h

  looks_fine : (f : Bool) (es : List Event) → AreLooks f es → AllKeepTo (own_places paths) (lock_place ∷ []) es
  looks_fine f es h = looks_keep (own_places paths) (lock_place ∷ []) f es h

  pub turned_keep : (w : World) (done : List Path) (es : List Event) → ((p : Path) → IsIn done p → IsIn paths p) → HaveTurned w done es → AllKeepTo (own_places paths) (lock_place ∷ []) es
  turned_keep w done es sub (Looked _ h) = looks_fine false es h
  turned_keep w all log sub (Turned done _ p es fs _ k turned turn all_is log_is) =
      subst (AllKeepTo (own_places paths) (lock_place ∷ [])) (sym log_is)
      (each_append _ es fs
      (turned_keep w done es (λ q i. sub q (subst (λ l. IsIn l q) (sym all_is) (in_left done (p ∷ []) q i))) turned)
      (one_keep p (sub p (subst (λ l. IsIn l p) (sym all_is) (in_right done (p ∷ []) p (inl refl)))) fs (forgotten_keep turn.store p (Ok k) (run w es) fs turn.did)))

  pub ends_keep : (later : List Path) (r : Result (Unit {0}) ForgetFault) (w : World) (es : List Event) → ((p : Path) → IsIn later p → IsIn paths p) → EndsSo later r w es → AllKeepTo (own_places paths) (lock_place ∷ []) es
  ends_keep later (Ok u) w es sub h = subst (AllKeepTo (own_places paths) (lock_place ∷ [])) (sym h.1) tt
  ends_keep later (Err Locked) w es sub h = absurd h
  ends_keep later (Err (StampSeen q)) w es sub (p, rest, is, turn) =
      one_keep p (sub p (subst (λ l. IsIn l p) (sym is) (inl refl))) es (forgotten_keep turn.store p (Err (store.StampSeen q)) w es turn.did)
  ends_keep later (Err Device) w es sub (inl look) = looks_fine true es look
  ends_keep later (Err Device) w es sub (inr (p, rest, is, turn)) =
      one_keep p (sub p (subst (λ l. IsIn l p) (sym is) (inl refl))) es (forgotten_keep turn.store p (Err store.Device) w es turn.did)
  ends_keep later (Err Output) w es sub h = subst (AllKeepTo (own_places paths) (lock_place ∷ [])) (sym h) tt
  ends_keep later (Err OutOfMemory) w es sub look = looks_fine false es look

  pub gone_keep : (r : Result (Unit {0}) ForgetFault) (w : World) (log : List Event) → HasGone paths r w log → AllKeepTo (own_places paths) (lock_place ∷ []) log
  gone_keep r w log g =
      subst (AllKeepTo (own_places paths) (lock_place ∷ [])) (sym g.events)
      (each_append _ g.turns g.last
      (turned_keep w g.done g.turns (in_front paths g.done g.later g.split) g.turned)
      (ends_keep g.later r (run w g.turns) g.last (λ p i. subst (λ l. IsIn l p) (sym g.split) (in_right g.done g.later p i)) g.ends))
