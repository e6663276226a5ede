use Rattle.std.proofs.Common.{drop}
use Rattle.std.specs.List.{flat_map}
use Rattle.smk_flow.specs.declared.fault.FlowFault.{FlowFault}
use Rattle.smk_flow.specs.Checks.{in_texts, AreRead, AreUnread}
use Rattle.smk_flow_build.proofs.reading.read_inputs.Given as goal

abbrev pub invariant-loop-item : goal.invariant-loop-item
invariant-loop-item l = record {
  read : AreRead l.part.limits (flat_map in_texts (drop l.item-index l.inputs)) → AreRead l.part.limits (flat_map in_texts l.inputs);
  unread : (f : FlowFault) → AreUnread l.part (flat_map in_texts (drop l.item-index l.inputs)) f → AreUnread l.part (flat_map in_texts l.inputs) f;
}
