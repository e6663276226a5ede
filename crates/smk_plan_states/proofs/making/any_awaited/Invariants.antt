use Rattle.std.proofs.Common.{◌≡◌, drop}
use Rattle.std.specs.List.{list_any}
use Rattle.std.specs.BTreeSet.{contains_text}
use Rattle.smk_plan_states.proofs.making.any_awaited.Given as goal

abbrev pub invariant-loop-out : goal.invariant-loop-out
invariant-loop-out l = list_any (λ out. contains_text l.awaited out.path) l.outs ≡ list_any (λ out. contains_text l.awaited out.path) (drop l.out-index l.outs)
