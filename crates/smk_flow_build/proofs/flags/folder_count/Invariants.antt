use Rattle.std.proofs.Common.{◌≡◌, ◌≤◌, length, filter, take}
use Rattle.smk_flow.specs.Flows.{makes_folder}
use Rattle.smk_flow.specs.Lent.{all_lent}
use Rattle.smk_flow_build.proofs.flags.folder_count.Given as goal

abbrev pub invariant-loop-out : goal.invariant-loop-out
invariant-loop-out l = record {
  value : l.count ≡ length (filter makes_folder (all_lent (take l.out-index l.outs)));
  within : l.count ≤ l.out-index;
}
