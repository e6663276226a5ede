use Rattle.std.proofs.Common.{◌≡◌, ◌++◌, drop}
use Rattle.smk_flow.specs.Flows.{gathers_from, folders_of}
use Rattle.smk_flow.specs.Jobs.{path_fault}
use Rattle.smk_flow_jobs.proofs.gathers.gathers_of.Given as goal

abbrev pub invariant-loop-item : goal.invariant-loop-item
invariant-loop-item l = record {
  gathers :
      l.made ++ gathers_from l.flow l.part.limits l.binding l.item (drop l.item l.part.inputs)
      ≡ gathers_from l.flow l.part.limits l.binding 0 l.part.inputs;
  rest :
      path_fault (folders_of (gathers_from l.flow l.part.limits l.binding 0 l.part.inputs))
      ≡ path_fault (folders_of (gathers_from l.flow l.part.limits l.binding l.item (drop l.item l.part.inputs)));
}
