-- Calls of a run that start no child.
use Rattle.std.proofs.Common.{◌≡◌, Bool, List, [], ◌∷◌, refl, sym, ap, subst, ◌∙◌, Result, Ok, Err}
use Rattle.smk_world.specs.declared.event.Event.{Event}
use Rattle.smk_world.specs.declared.event.Failed.{Failed}
use Rattle.smk_world.specs.World.{World}
use Rattle.smk_world.specs.Devices.{Device, HasActed, HasEnded, HasLooked}
use Rattle.smk_world.specs.Requests.Request.{Settle}
use Rattle.smk_world.specs.Runs.{Did}
use Rattle.smk_world.specs.Trees.{Act, Path}
use Rattle.smk_world.proofs.Runs.{did_both}
use Rattle.smk_store.specs.declared.fault.StoreFault.{StoreFault}
use Rattle.smk_store.specs.declared.fault.StoreFault.TheVariants.{Device as DeviceFault, OutOfMemory, StampSeen}
use Rattle.smk_store.specs.Steadying.{HasTried}
use Rattle.smk_keep_lock.specs.Locking.{HasTaken}
use Rattle.smk_report.specs.declared.fault.Fault.{Fault}
use Rattle.smk_run.specs.Stamps.{Serials}
use Rattle.smk_run.specs.Turns.{AreTurns, Turn}
use Rattle.smk_run.proofs.Calls.{cut_each, done_each}
use Rattle.smk_laws_moments.proofs.QuietCalls.{IsQuiet, looks_quiet}
use Rattle.smk_laws_refusing.specs.Leaving.{LeavesAllBut}
use Rattle.smk_clean.specs.NothingStarts.{StartsNone}
use Rattle.smk_clean.proofs.UnstartedEvents.{none_then, quiet_none}
use Rattle.smk_cli_calls.specs.Locking.{IsClosed, LockGoes, LockStays}
use Rattle.smk_clean.proofs.AtLock.{at_lock, releasing_only, taking_only}

-- where the folder is told at the end, its events start no child
pub record Starts (act : Act) (old new : Device) : Type 0 where
  pub did : Did act old.world new.world StartsNone

none_done : (w : World) (es : List Event) → es ≡ [] → StartsNone w es
none_done w es h = subst (StartsNone w) (sym h) (record { unstarted = refl; children = refl })

-- what makes marks and notes firm
settled_none : (ps : List Path) (r : Result (Unit {0}) StoreFault) (w : World) (es : List Event) → HasTried (Settle ps ∷ []) r w es → StartsNone w es
settled_none ps (Ok u) w es h = quiet_none w es (done_each IsQuiet (Settle ps ∷ []) es (tt, tt) h)
settled_none ps (Err DeviceFault) w es h = quiet_none w es (cut_each IsQuiet (Settle ps ∷ []) es (tt, tt) h)
settled_none ps (Err OutOfMemory) w es h = none_done w es h
settled_none ps (Err (StampSeen p)) w es h = absurd h

module _ {act : Act} where
  pub starts_then : {a b c : Device} → Starts act a b → Starts act b c → Starts act a c
  starts_then {a} {b} {c} first second =
      record {
        did =
            did_both act StartsNone StartsNone StartsNone a.world b.world c.world first.did second.did
            (λ w es fs follows one follows2 two. none_then w es fs one two);
      }

  -- calls in P start none
  starts_by : (P : World → List Event → Type 0) (a b : Device) → ((w : World) (es : List Event) → P w es → StartsNone w es) → Did act a.world b.world P → Starts act a b
  starts_by P a b more did = record { did = λ v end. let d = did v end in (d.0, d.1, (d.2.0, d.2.1, more d.0 d.2.0 d.2.2, d.2.3)) }

  pub same_starts_none : {a b : Device} → b ≡ a → Starts act a b
  same_starts_none {a} {b} same = record { did = λ v end. (v, sym (ap (λ (d : Device). d.world) same) ∙ end, ([], tt, none_done v [] refl, refl)) }

  pub looks_start_none : {a b : Device} {f : Bool} → HasLooked act a b f → Starts act a b
  looks_start_none {a} {b} {f} h = starts_by _ a b (λ w es looks. quiet_none w es (looks_quiet f es looks)) h.acted.did

  of_leaving : {a b : Device} {f : Bool} → HasActed act (LeavesAllBut at_lock) a b f → Starts act a b
  of_leaving {a} {b} h =
      starts_by (LeavesAllBut at_lock) a b (λ w es leaves. record { unstarted = leaves.unstarted; children = leaves.children }) h.did

  pub taking_starts_none : {a b : Device} {r : Result Bool Failed} {f : Bool} → HasActed act (HasTaken r) a b f → Starts act a b
  taking_starts_none h = of_leaving (taking_only h)

  pub closed_starts_none : {ran answer : Result (Unit {0}) Fault} {locked left new : Device} → IsClosed act ran answer locked left new → Starts act left new
  closed_starts_none (LockStays rose is same) = same_starts_none same
  closed_starts_none (LockGoes r never none goes is) = of_leaving (releasing_only goes)

  pub tried_starts_none :
      (ps : List Path) (r : Result (Unit {0}) StoreFault) {a b : Device} {f : Bool} → HasActed act (HasTried (Settle ps ∷ []) r) a b f → Starts act a b
  tried_starts_none ps r {a} {b} h = starts_by (HasTried (Settle ps ∷ []) r) a b (settled_none ps r) h.did

  pub turns_start_none :
      (made : Serials) (ts : List Turn) {a b : Device} {f : Bool} → ts ≡ [] → HasEnded act (AreTurns made ts) a b f → Starts act a b
  turns_start_none made ts {a} {b} none h =
      starts_by (AreTurns made ts) a b (λ w es turns. none_done w es (subst (λ xs. AreTurns made xs w es) none turns)) h.did
