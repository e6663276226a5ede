use Rattle.std.proofs.Common.{List, ℕ, subst, sym}
use Rattle.std.specs.List.{find}
use Rattle.std.specs.Str.{bytes_eq}
use Rattle.smk_parse_tree.specs.declared.syntax.OutputPick.{OutputPick}
use Rattle.smk_eval_values.specs.Values.{Tells}
use Rattle.smk_flow.specs.declared.rule.OutPart.{OutPart}
use Rattle.smk_eval_rules.specs.Outputs.{item, outputs_of}
use Rattle.smk_eval_rules.proofs.outputs.outputs_of.Goals as goal

pub returns-in-Named : goal.returns-in-Named
returns-in-Named c =
    let part = c.args.part.now in
    subst (λ (p : OutputPick). Tells c.named.result (outputs_of part p)) (sym c.in-Named.is)
    (subst (λ (n : List ℕ). Tells c.named.result (item n (find (λ (o : OutPart). bytes_eq o.name n) part.outputs))) c.as_str.ensures c.named.ensures)
