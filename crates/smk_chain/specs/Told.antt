-- What is refused of jobs, as it is told: rules by their names.
use Rattle.std.specs.Prelude.{◌≡◌, ◌≢◌, List, [], ◌∷◌, Option, Some, None}
use Rattle.smk_flow.specs.Flows.{Flow, rule_name}
use Rattle.smk_chain.specs.declared.fault.ChainFault.{ChainFault}
use Rattle.smk_chain.specs.declared.fault.ChainFault.TheVariants as told
use Rattle.smk_chain.specs.Derive.{Refusal, TooManyPaths, Deep, NoRule, NoInput, TwoJobs, MissingMember, NoCommand, Clash}

-- the refusal as it is told; that there are too many paths is told before any job is asked for
abbrev pub told_refusal : Flow → Refusal → Option ChainFault
told_refusal flow TooManyPaths = None
told_refusal flow (Deep p) = Some (told.Deep p)
told_refusal flow (NoRule p) = Some (told.NoRule p)
told_refusal flow (NoInput p rule wanted) = Some (told.NoInput p (rule_name flow rule) wanted)
told_refusal flow (TwoJobs p a b) = Some (told.Ambiguous p (rule_name flow a) (rule_name flow b))
told_refusal flow (MissingMember p) = Some (told.MissingMember p)
told_refusal flow (NoCommand rule) = Some (told.NoCommand (rule_name flow rule))
told_refusal flow (Clash p other) = Some (told.Clash p other)

-- The fault is the first of these refusals, or memory was wanting.
abbrev pub first_told : Flow → List Refusal → Option ChainFault
first_told flow [] = None
first_told flow (r ∷ rest) = told_refusal flow r

abbrev pub TellsFirst : Flow → List Refusal → ChainFault → Type 0
TellsFirst flow refusals fault = fault ≢ told.OutOfMemory → first_told flow refusals ≡ Some fault
