use Rattle.std.proofs.Common.{◌∙◌, List, sym, ap}
use Rattle.std.specs.List.{list_any, zip}
use Rattle.smk_plan_states.specs.declared.ranks.Rank.{Rank}
use Rattle.smk_plan_states.specs.Ranking.{is_lacking}
use Rattle.smk_plan_states.proofs.Lacking.{none_lacking}
use Rattle.smk_plan_states.proofs.downward.last_ranks.Goals as goal

pub returns-clause-ranks : goal.returns-clause-ranks
returns-clause-ranks c = λ at jobs states h first.
    none_lacking at jobs states c.args.lines.now c.args.origins.now c.args.rows.now c.args.used.now h c.args.first.items
    (ap (λ (ranks : List Rank). list_any is_lacking (zip ranks c.args.rows.now.outputs.now)) (sym c.as_slice.ensures.value) ∙ sym c.any_lacking.ensures ∙ c.if-any_lacking.false) first
