use Rattle.std.proofs.Common.{◌≡◌, ◌∙◌, List, ap, sym, subst, filter, IfOk}
use Rattle.smk_flow.specs.declared.workflow.Rule.{Rule}
use Rattle.smk_choose.specs.declared.choice.Making.{Making}
use Rattle.smk_choose.specs.Choose.{as_member, as_output, or_else}
use Rattle.smk_choose.specs.Told.{told_by}
use Rattle.smk_choose.specs.Readings.{is_apart_by}
use Rattle.smk_choose.proofs.Listed.{filter_making, listed_placed}
use Rattle.smk_choose.proofs.finder.apart.Goals as goal

pub returns : goal.returns
returns c = λ p is.
    let flow = c.args.flow.now in
    let sources = told_by c.args.sources.now in
    let rules = c.as_slice.ensures ∙ c.rules.ensures.rules in
    let same =
    ap (λ (rs : List Rule). filter (is_apart_by sources.holds rs) c.args.fitting.items) rules
    ∙ ap (filter (is_apart_by sources.holds _)) is
    ∙ sym (filter_making flow sources (or_else (as_member flow p) (as_output flow p)) (listed_placed flow p)) in
    subst (λ (ms : List Making). IfOk c.all_apart.result (λ kept. kept.items ≡ ms)) same c.all_apart.ensures
