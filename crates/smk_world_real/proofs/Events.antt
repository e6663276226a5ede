-- Each call is an event of a world that isn't told.
use Rattle.std.proofs.Common.{◌≡◌, ℕ, List, None}
use Rattle.smk_world.specs.declared.event.Call.{Call}
use Rattle.smk_world.specs.Calls.{HasCause, failed}
use Rattle.smk_world.specs.Devices.{HasCalled, running_after}
use Rattle.smk_world.specs.Trees.{Act}
use Rattle.smk_world_real.specs.Untold.{untold}

pub untold_called : (act : Act) (call : Call) (faults more : ℕ) (running then : List ℕ) → HasCause faults more (failed call) → then ≡ running_after call running
    → HasCalled act (record { world = None; faults = faults; running = running }) (record { world = None; faults = more; running = then }) call
untold_called act call faults more running then cause runs = record { world = record { told = λ w e. untold w e; stays = λ told quiet. told }; cause = cause; running = runs }
