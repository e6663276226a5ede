use Rattle.std.proofs.Common.{◌≤◌, ◌+◌, length, ◌∙◌, sym, subst}
use Rattle.smk_plan_facts.proofs.Members.{under_length}
use Rattle.smk_plan_facts.proofs.whole.name_in.Goals as goal

pub slice_bounds-result-count : goal.slice_bounds-result-count
slice_bounds-result-count c =
    let path = c.as_bytes.ensures.value ∙ c.as_str.ensures.text in
    let longer : length c.args.folder.now + 1 ≤ length c.args.path.now = under_length c.args.path.now c.args.folder.now c.requires in
    subst (λ q. length c.as_str-2.result.now + 1 ≤ length q) (sym path) (subst (λ f. length f + 1 ≤ length c.args.path.now) (sym c.as_str-2.ensures.text) longer)

pub slice_bounds-result-start : goal.slice_bounds-result-start
slice_bounds-result-start c =
    let path = c.as_bytes.ensures.value ∙ c.as_str.ensures.text in
    let longer : length c.args.folder.now + 1 ≤ length c.args.path.now = under_length c.args.path.now c.args.folder.now c.requires in
    subst (λ q. length c.as_str-2.result.now + 1 ≤ length q) (sym path) (subst (λ f. length f + 1 ≤ length c.args.path.now) (sym c.as_str-2.ensures.text) longer)
