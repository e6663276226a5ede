use Rattle.std.proofs.Common.{◌≡◌, ◌∙◌, ℕ, List, ap, subst, IfOk}
use Rattle.std.specs.List.{flat_map}
use Rattle.smk_choose.specs.declared.choice.Making.{Making}
use Rattle.smk_choose.specs.Readings.{by_folder}
use Rattle.smk_choose.specs.Index.{outputs_at}
use Rattle.smk_choose.proofs.Tried.{all_outputs}
use Rattle.smk_choose.proofs.candidates.by_outputs.Goals as goal

pub returns : goal.returns
returns c =
    let rules = c.args.rules.now in
    let path = c.args.path.now in
    let same =
    ap (λ (ns : List ℕ). flat_map (λ n. by_folder n (outputs_at rules n) path) ns) c.as_slice.ensures
    ∙ all_outputs rules c.args.index.now path c.in_ok-numbers.numbers c.requires c.in_ok-numbers.ensures.rises c.in_ok-numbers.ensures.has in
    subst (λ (ms : List Making). IfOk c.outputs_by.result (λ found. found.items ≡ ms)) same c.outputs_by.ensures
