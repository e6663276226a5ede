-- What each workflow that is read of files has.
use Rattle.std.specs.Prelude.{ℕ, List, Ok}
use Rattle.smk_base.specs.declared.tree.Pair.{Pair}
use Rattle.smk_flow.specs.Flows.{Flow}
use Rattle.smk_eval_files.specs.Looks.{Nodes}
use Rattle.smk_eval.specs.Loading.{loaded, Gives}
use Rattle.smk_laws_complete.specs.Derived.{GathersAlone}

-- An item of inputs that gathers has no texts written out besides, in what the file at a path reads as with its includes, with what is set.
abbrev pub ReadFlowsGatherAlone : Type 0
ReadFlowsGatherAlone = (nodes : Nodes) (file : List ℕ) (sets : List Pair) (flow : Flow) → Gives (loaded nodes file sets) (Ok flow) → GathersAlone flow
