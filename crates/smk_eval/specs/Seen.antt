-- What the code keeps, as the definitions see it.
use Rattle.std.specs.Prelude.{◌≡◌, ◌≢◌, true, Result, Ok, Err}
use Rattle.smk_flow.specs.Flows.{Flow}
use Rattle.smk_eval.specs.declared.state.State.{State}
use Rattle.smk_eval.specs.declared.state.Said.{Said}
use Rattle.smk_flaws.specs.declared.fault.EvalFault.{EvalFault}
use Rattle.smk_flaws.specs.declared.fault.EvalFault.TheVariants.{OutOfMemory}
use Rattle.smk_flaws.specs.declared.fault.LoadFault.{LoadFault}
use Rattle.smk_eval.specs.Faults.{is_told}
use Rattle.smk_eval.specs.Statements as spec
use Rattle.smk_eval.specs.Kept.{kept}

abbrev pub state_of : State → spec.State
state_of s = record { constant = kept s.constants; rules = s.rules; limits = s.limits; orders = s.orders }

-- the answer is what is meant, unless memory was short
abbrev pub Leads : Result State EvalFault → Result spec.State EvalFault → Type 0
Leads (Ok s) meant = meant ≡ Ok (state_of s)
Leads (Err f) meant = f ≢ OutOfMemory → meant ≡ Err f

-- the same of rules and clauses
abbrev pub Says : Result Said EvalFault → Result Flow EvalFault → Type 0
Says (Ok said) meant = meant ≡ Ok (record { rules = said.rules; orders = said.orders })
Says (Err f) meant = f ≢ OutOfMemory → meant ≡ Err f

-- the same of rules and clauses with a fault of the folder
abbrev pub SaysAll : Result Said LoadFault → Result Flow LoadFault → Type 0
SaysAll (Ok said) meant = meant ≡ Ok (record { rules = said.rules; orders = said.orders })
SaysAll (Err f) meant = is_told f ≡ true → meant ≡ Err f
