-- Looks, as a run of the protocol: none of them failed, or the last one.
use Rattle.std.proofs.Common.{◌≡◌, Bool, true, false, List, [], ◌∷◌, true≢false}
use Rattle.smk_world.specs.declared.event.Event.{Event}
use Rattle.smk_world.specs.World.{World, after}
use Rattle.smk_world.specs.Devices.{AreLooks}
use Rattle.smk_store.specs.Soundness.{Outside}
use Rattle.smk_laws_protocol.specs.Protocol.{RunState, Runs, Done, Next, Aside, Fail, Look, as_ok}
use Rattle.smk_laws_job.specs.Laws.{stopped}
use Rattle.smk_laws_job.proofs.FinishRuns.{look_ok}
use Rattle.smk_safe.proofs.Joining.{AreLooks as AreLookCalls, read_look}

pub look_calls : (o : Outside) (failure : Bool) (es : List Event) → AreLooks failure es → AreLookCalls o es
look_calls o failure [] h = tt
look_calls o failure (e ∷ []) h = (read_look o e.call h.0, tt)
look_calls o failure (e ∷ (f ∷ es)) h = (read_look o e.call h.0, look_calls o failure (f ∷ es) h.2)

-- they leave the state as it is
pub looks_run : (o : Outside) (s : RunState) (w : World) (es : List Event) → s.faulted ≡ false → AreLooks false es → Runs o s w es s
looks_run o s w [] calm h = Done s w
looks_run o s w (e ∷ []) calm h = Next s s s w e [] (Aside e calm (Look e.call (read_look o e.call h.0))) (Done s (after w e))
looks_run o s w (e ∷ (f ∷ es)) calm h = Next s s s w e (f ∷ es) (Aside e calm (Look e.call (read_look o e.call h.0))) (looks_run o s (after w e) (f ∷ es) calm
    h.2)

-- after one that failed only children are waited for
pub looks_fail : (o : Outside) (s : RunState) (w : World) (es : List Event) → s.faulted ≡ false → AreLooks true es → Runs o s w es (stopped o s)
looks_fail o s w [] calm h = absurd (true≢false h)
looks_fail o s w (e ∷ []) calm h =
    Next s (stopped o s) (stopped o s) w e []
    (Fail e s h.1 (Aside (record e { call = as_ok e.call }) calm (Look (as_ok e.call) (look_ok o e.call (read_look o e.call h.0)))))
    (Done (stopped o s) (after w e))
looks_fail o s w (e ∷ (f ∷ es)) calm h =
    Next s s (stopped o s) w e (f ∷ es) (Aside e calm (Look e.call (read_look o e.call h.0))) (looks_fail o s (after w e) (f ∷ es) calm h.2)
