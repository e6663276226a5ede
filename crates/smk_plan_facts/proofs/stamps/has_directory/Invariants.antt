use Rattle.std.proofs.Common.{◌≡◌, drop}
use Rattle.std.specs.List.{list_any}
use Rattle.smk_plan_facts.specs.Telling.{is_directory_at}
use Rattle.smk_plan_facts.proofs.stamps.has_directory.Given as goal

abbrev pub invariant-loop-out : goal.invariant-loop-out
invariant-loop-out l = list_any (is_directory_at l.path) l.outs ≡ list_any (is_directory_at l.path) (drop l.out-index l.outs)
