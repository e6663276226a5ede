use Rattle.smk_laws_moments.proofs.WaitsOf.{waits_for_children}
use Rattle.smk_laws_moments.proofs.ChildrenOf.{all_are_waited, children_are_of_stand}
use Rattle.smk_laws_moments.proofs.children_are_waited.Goals as goal

pub returns : goal.returns
returns c = record { children = children_are_of_stand; waits = waits_for_children; waited = all_are_waited }
