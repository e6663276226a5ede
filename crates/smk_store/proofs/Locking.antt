-- What the calls on the lock do and answer.
use Rattle.std.proofs.Common.{◌≡◌, Bool, true, false, List, [], ◌∷◌, ◌++◌, subst, ap₂, ◌∙◌, Result, Ok, Err}
use Rattle.std.specs.Prelude.{IsErr, is_err}
use Rattle.std.proofs.lemmas.List.{append-nil}
use Rattle.std.proofs.lemmas.List.Concat.{flat_map-append, flat_map-cons}
use Rattle.smk_base.specs.Place.{lock_place}
use Rattle.smk_world.specs.declared.event.Call.{Call}
use Rattle.smk_world.specs.declared.event.Event.{Event}
use Rattle.smk_world.specs.declared.event.Failed.{Failed}
use Rattle.smk_world.specs.World.{World}
use Rattle.smk_world.specs.Calls.{failed}
use Rattle.smk_world.specs.Devices.{Device, HasCalled, HasActed, HasCarried, keeps_children}
use Rattle.smk_world.specs.Requests.{Request, request, HasDone}
use Rattle.smk_world.specs.Requests.Request.{Settle}
use Rattle.smk_world.specs.Trees.{Act}
use Rattle.smk_world.proofs.Devices.{acted_call, acted_then, done_append}
use Rattle.smk_store.specs.Steps.{HasLocked, make_each, made_by, all_made}

-- these calls, of which those that make a file answered so
abbrev pub Does : List Request → List Bool → World → List Event → Type 0
Does rs ms w es = HasDone rs es × (all_made es ≡ ms)

-- so it was, and none of them failed
pub record HasDoneSo (act : Act) (rs : List Request) (ms : List Bool) (a b : Device) : Type 0 where
  pub acted : HasActed act (Does rs ms) a b false

pub does_call : {act : Act} {a b : Device} {call : Call} (r : Request) (ms : List Bool) → keeps_children call ≡ true → request call ≡ r → failed call ≡ false → made_by call ≡ ms → HasCalled act a b call → HasDoneSo act (r ∷ []) ms a b
does_call {act} {a} {b} {call} r ms keeps is quiet made h =
    record {
      acted = subst (HasActed act (Does (r ∷ []) ms) a b) quiet
          (acted_call act (Does (r ∷ []) ms) a b call keeps (λ w left lets. ((is, quiet, tt), flat_map-cons (λ (e : Event). made_by e.call) (record { call = call; left = left }) [] ∙ append-nil (made_by call) ∙ made)) h);
    }

pub does_then : {act : Act} {rs qs : List Request} {ms ns : List Bool} {a b c : Device} → HasDoneSo act rs ms a b → HasDoneSo act qs ns b c → HasDoneSo act (rs ++ qs) (ms ++ ns) a c
does_then {act} {rs} {qs} {ms} {ns} {a} {b} {c} first second =
    record {
      acted = acted_then act (Does rs ms) (Does qs ns) (Does (rs ++ qs) (ms ++ ns)) a b c false
          (λ w es fs follows does follows2 does2. (done_append rs qs es fs does.0 does2.0, flat_map-append (λ (e : Event). made_by e.call) es fs ∙ ap₂ (λ x y. x ++ y) does.1 does2.1)) first.acted second.acted;
    }

pub locked_cut : {act : Act} {a b : Device} (s : Result Bool Failed) → IsErr s → HasCarried act (make_each (lock_place ∷ []) ++ Settle (lock_place ∷ []) ∷ []) a b true → HasActed act (HasLocked s) a b (is_err s)
locked_cut (Ok made) h carried = cc
locked_cut (Err e) h carried = carried.acted
