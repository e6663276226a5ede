-- Looks, and then the calls by which a path is forgotten.
use Rattle.std.proofs.Common.{◌≡◌, inl, inr, Bool, true, false, List, [], ◌∷◌, ◌++◌, refl, sym, subst, Result, Ok, Err}
use Rattle.std.specs.Prelude.{IfOk}
use Rattle.std.proofs.lemmas.List.{append-nil}
use Rattle.smk_base.specs.Place.{record_place, mark_place, note_place, records_folder, marks_folder, notes_folder}
use Rattle.smk_world.specs.declared.event.Event.{Event}
use Rattle.smk_world.specs.World.{World}
use Rattle.smk_world.specs.Devices.{Device, WhereTold, HasActed, HasLooked, HasCarried, AreLooks}
use Rattle.smk_world.specs.Requests.{Request, HasDone, IsCutShort}
use Rattle.smk_world.specs.Requests.Request.{Settle}
use Rattle.smk_world.specs.Trees.{Path, Act}
use Rattle.smk_world.proofs.Devices.{acted_as, acted_then, carried_as}
use Rattle.smk_store.specs.declared.fault.StoreFault.TheVariants.{StampSeen, Device as DeviceFault, OutOfMemory}
use Rattle.smk_store.specs.Forgetting.{AreUnseen, IsFirstSeen, HasForgotten, LooksThen, forget_requests}
use Rattle.smk_store.specs.Steps.{remove_each}
use Rattle.smk_store.specs.Stores.{Known}

pub if_told : {T E : Type 0} (r : Result T E) (P : T → Type 0) (t : T) → r ≡ Ok t → IfOk r P → P t
if_told r P t e h = subst (λ x. IfOk x P) e h

-- the calls by the places
pub as_requests : (around records marks : List Path) (p : Path) → around ≡ p ∷ records_folder ∷ marks_folder ∷ notes_folder ∷ [] → records ≡ record_place p ∷ note_place p ∷ [] → marks ≡ mark_place p ∷ []
    → Settle around ∷ ((remove_each records ++ Settle records ∷ []) ++ (remove_each marks ++ Settle marks ∷ [])) ≡ forget_requests p
as_requests around records marks p e f h = λ i. Settle (e i) ∷ ((remove_each (f i) ++ Settle (f i) ∷ []) ++ (remove_each (h i) ++ Settle (h i) ∷ []))

-- what holds of the events by the world before, where that is told
acted_told : (act : Act) (P Q : World → List Event → Type 0) (a b : Device) (f : Bool) → WhereTold a (λ w. (es : List Event) → P w es → Q w es) → HasActed act P a b f → HasActed act Q a b f
acted_told act P Q a b f more h =
    record {
      did = λ w1 e. let d = h.did w1 e in (d.0, d.1, (d.2.0, d.2.1, more d.0 d.1 d.2.0 d.2.2, d.2.3));
      stays = h.stays;
      cause = h.cause;
      running = h.running;
      children = h.children;
    }

looks_then : (act : Act) (P : List Event → Type 0) (a b c : Device) (f : Bool) → HasLooked act a b false → HasActed act (λ w es. P es) b c f → HasActed act (λ w es. LooksThen P es) a c f
looks_then act P a b c f before now =
    acted_then act (λ w es. AreLooks false es) (λ w es. P es) (λ w es. LooksThen P es) a b c f (λ w es fs follows looks follows2 k. (es, fs, refl, looks, k)) before.acted now

module _ (act : Act) (ks : List Known) (p : Path) (a b : Device) where
  pub look_failed : HasLooked act a b true → HasActed act (HasForgotten ks p (Err DeviceFault)) a b true
  look_failed looked = acted_as act (λ w es. AreLooks true es) (HasForgotten ks p (Err DeviceFault)) a b true true refl (λ w es h. inl h) looked.acted

  pub none_left : HasLooked act a b false → HasActed act (HasForgotten ks p (Err OutOfMemory)) a b false
  none_left looked = looked.acted

module _ (act : Act) (ks : List Known) (p : Path) (a b : Device) (looked : HasLooked act a b false) where
  pub seen_before : (q : Path) → WhereTold a (λ w. IsFirstSeen ks w p q) → HasActed act (HasForgotten ks p (Err (StampSeen q))) a b false
  seen_before q told = acted_told act (λ w es. AreLooks false es) (HasForgotten ks p (Err (StampSeen q))) a b false (λ w at es h. (told w at, h)) looked.acted

  pub none_known : WhereTold a (λ w. AreUnseen ks w p) → HasActed act (HasForgotten ks p (Ok false)) a b false
  none_known told = acted_told act (λ w es. AreLooks false es) (HasForgotten ks p (Ok false)) a b false (λ w at es h. (told w at, (es, [], sym (append-nil es), h, tt))) looked.acted

  pub all_done : (c : Device) (requests : List Request) → requests ≡ forget_requests p → WhereTold a (λ w. AreUnseen ks w p) → HasCarried act requests b c false → HasActed act (HasForgotten ks p (Ok true)) a c false
  all_done c requests same told now =
      acted_told act (λ w es. LooksThen (λ calls. HasDone (forget_requests p) calls) es) (HasForgotten ks p (Ok true)) a c false (λ w at es h. (told w at, h))
      (looks_then act (λ calls. HasDone (forget_requests p) calls) a b c false looked (carried_as same refl now).acted)

  pub one_failed : (c : Device) (requests : List Request) → requests ≡ forget_requests p → WhereTold a (λ w. AreUnseen ks w p) → HasCarried act requests b c true → HasActed act (HasForgotten ks p (Err DeviceFault)) a c true
  one_failed c requests same told now =
      acted_told act (λ w es. LooksThen (λ calls. IsCutShort (forget_requests p) calls) es) (HasForgotten ks p (Err DeviceFault)) a c true (λ w at es h. inr (told w at, h))
      (looks_then act (λ calls. IsCutShort (forget_requests p) calls) a b c true looked (carried_as same refl now).acted)
