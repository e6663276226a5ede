use Rattle.std.proofs.Common.{◌≡◌, drop}
use Rattle.std.specs.List.{find}
use Rattle.std.specs.Str.{bytes_eq}
use Rattle.smk_flow.specs.declared.rule.OutPart.{OutPart}
use Rattle.smk_eval_rules.proofs.outputs.item_named.Given as goal

abbrev pub invariant-loop-item : goal.invariant-loop-item
invariant-loop-item l = find (λ (o : OutPart). bytes_eq o.name l.name) (drop l.item-index l.items) ≡ find (λ (o : OutPart). bytes_eq o.name l.name) l.items
