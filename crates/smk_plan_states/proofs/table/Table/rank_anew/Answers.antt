use Rattle.smk_plan_states.specs.Stays.{told_by}
use Rattle.smk_plan_states.proofs.Kept.{anew_standing, moment, table_states}
use Rattle.smk_plan_states.proofs.table.Table.rank_anew.Goals as goal

pub returns-clause-standing : goal.returns-clause-standing
returns-clause-standing c = λ jobs targets table served reasons forced fits.
    anew_standing jobs targets c.args.self.now c.as_slice-lines.result.now c.as_slice-origins.result.now (told_by c.args.rows.now reasons forced) c.in_ok-used.used.items c.in_ok-ranking.ranking table served
    c.as_slice-lines.ensures c.as_slice-origins.ensures c.in_ok-used.ensures.each c.in_ok-used.ensures.used (c.in_ok-ranking.ensures.standing reasons forced fits)

pub returns-clause-table : goal.returns-clause-table
returns-clause-table c = λ at jobs table rows.
    table_states at jobs c.args.self.now c.as_slice-lines.result.now c.as_slice-origins.result.now c.args.rows.now c.in_ok-used.used.items c.in_ok-ranking.ranking table rows
    c.as_slice-lines.ensures c.as_slice-origins.ensures c.in_ok-used.ensures.each c.in_ok-used.ensures.used
    (λ states solves.
    c.in_ok-ranking.ensures.ranks at jobs states
    (moment at jobs c.args.self.now c.as_slice-lines.result.now c.as_slice-origins.result.now c.args.rows.now c.in_ok-used.used.items table rows c.as_slice-lines.ensures
    c.as_slice-origins.ensures c.in_ok-used.ensures.each c.in_ok-used.ensures.used states solves))

pub returns-clause-ranks : goal.returns-clause-ranks
returns-clause-ranks c = λ at jobs table rows states solves.
    c.in_ok-ranking.ensures.ranks at jobs states
    (moment at jobs c.args.self.now c.as_slice-lines.result.now c.as_slice-origins.result.now c.args.rows.now c.in_ok-used.used.items table rows c.as_slice-lines.ensures
    c.as_slice-origins.ensures c.in_ok-used.ensures.each c.in_ok-used.ensures.used states solves)
