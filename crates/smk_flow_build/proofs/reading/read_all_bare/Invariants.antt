use Rattle.std.proofs.Common.{◌≡◌, [], take, drop, map}
use Rattle.smk_pattern.specs.Reading.{shape_of}
use Rattle.smk_pattern.specs.Searching.{now_of}
use Rattle.smk_flow.specs.declared.fault.FlowFault.{FlowFault}
use Rattle.smk_flow.specs.Checks.{bare, AreRead, AreUnread}
use Rattle.smk_flow_build.proofs.reading.read_all_bare.Given as goal

abbrev pub invariant-loop-text : goal.invariant-loop-text
invariant-loop-text l = record {
  shapes : l.patterns ≡ map (shape_of []) (now_of (take l.text-index l.texts));
  read : AreRead l.part.limits (map bare (now_of (drop l.text-index l.texts))) → AreRead l.part.limits (map bare (now_of l.texts));
  unread : (f : FlowFault) → AreUnread l.part (map bare (now_of (drop l.text-index l.texts))) f → AreUnread l.part (map bare (now_of l.texts)) f;
}
