use Rattle.std.proofs.Common.{◌∙◌, List, zip, refl, sym, ap}
use Rattle.std.specs.List.{list_any}
use Rattle.smk_plan_states.specs.declared.ranks.Rank.{Rank}
use Rattle.smk_plan_states.specs.Moment.{IsMoment}
use Rattle.smk_plan_states.specs.Ranking.{is_lacking}
use Rattle.smk_plan_states.proofs.ByState.{lent_ranks}
use Rattle.smk_plan_states.proofs.Kept.{moment}
use Rattle.smk_plan_states.proofs.Lacking.{lent_unless, none_held}
use Rattle.smk_plan_states.proofs.table.Table.holds_back.Goals as goal

pub returns-then-not-ranking : goal.returns-then-not-ranking
returns-then-not-ranking c = λ at jobs states table rows stands solves ranked.
    let t = c.args.self.now in
    let r = c.args.ranking.now in
    let outputs = c.args.rows.now.outputs.now in
    let none = stands.whole c.if-not-ranking.true in
    let last = stands.last c.if-not-ranking.true in
    sym
    (none_held at jobs states t.lines t.origins c.args.rows.now r.used.items
    (moment at jobs t t.lines t.origins c.args.rows.now r.used.items table rows refl refl stands.each_used stands.reading states solves)
    (sym (lent_ranks states (zip r.used.items outputs))
    ∙ lent_unless _ r.used.items outputs (ap (λ (rs : List Rank). list_any is_lacking (zip rs outputs)) (sym ranked ∙ last) ∙ none)))

pub returns : goal.returns
returns c = λ at jobs states table rows stands solves ranked.
    c.in_ok-held.ensures at jobs states
    (coe 1 0
    (i. IsMoment at jobs states (c.as_slice-lines.ensures i) (c.as_slice-origins.ensures i) c.args.rows.now (c.used.ensures i))
    (moment at jobs c.args.self.now c.args.self.now.lines c.args.self.now.origins c.args.rows.now c.args.ranking.now.used.items table rows refl refl stands.each_used stands.reading
    states solves))
    (c.ranks.ensures ∙ ranked)
