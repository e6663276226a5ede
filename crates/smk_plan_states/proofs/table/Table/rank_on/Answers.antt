use Rattle.std.proofs.Common.{◌∙◌, List, length, subst, ap}
use Rattle.std.proofs.lemmas.Result.{IfOk-weaker}
use Rattle.smk_plan_states.specs.declared.lines.Line.{Line}
use Rattle.smk_plan_states.specs.declared.lines.Origin.{Origin}
use Rattle.smk_plan_states.specs.Standing.{IsStanding}
use Rattle.smk_plan_states.specs.Rows.{forced_at, reasons_at}
use Rattle.smk_plan_states.specs.Stays.{told_at, told_by}
use Rattle.smk_plan_states.proofs.Kept.{some_kept, some_stands, follow_standing, kept_ranks, table_states}
use Rattle.smk_plan_states.proofs.table.Table.rank_on.Goals as goal

pub returns-in-Some-clause-each : goal.returns-in-Some-clause-each
returns-in-Some-clause-each c =
    let kept = some_kept c.in_ok-ranking.field-0 c.in-Some.ranking c.as_slice-lines.result.now c.in_ok-used.used c.args.last c.in-Some.is c.in_ok-ranking.ensures.kept in
    kept.2 ∙ ap length c.as_slice-lines.ensures

pub returns-in-Some-clause-standing : goal.returns-in-Some-clause-standing
returns-in-Some-clause-standing c = λ jobs targets table served reasons forced fits follows.
    let kept = some_kept c.in_ok-ranking.field-0 c.in-Some.ranking c.as_slice-lines.result.now c.in_ok-used.used c.args.last c.in-Some.is c.in_ok-ranking.ensures.kept in
    subst (λ (xs : List Origin). IsStanding c.args.self.now.lines xs (told_by c.args.rows.now reasons forced) c.in-Some.ranking) c.as_slice-origins.ensures
    (subst (λ (xs : List Line). IsStanding xs c.as_slice-origins.result.now (told_by c.args.rows.now reasons forced) c.in-Some.ranking) c.as_slice-lines.ensures
    (follow_standing jobs targets c.args.self.now c.as_slice-lines.result.now c.as_slice-origins.result.now (told_by c.args.rows.now reasons forced) c.in_ok-used.used c.args.last c.as_slice.result.now
    c.watchers_at-watchers.result.now c.in-Some.ranking table c.as_slice-lines.ensures c.as_slice-origins.ensures c.as_slice.ensures.value c.watchers_at-watchers.ensures kept.3
    c.in_ok-used.ensures.each c.in_ok-used.ensures.used
    (some_stands c.in_ok-ranking.field-0 c.in-Some.ranking c.as_slice-lines.result.now c.as_slice-origins.result.now c.args.rows.now c.in_ok-used.used c.watchers_at-watchers.result.now
    c.args.last c.in-Some.is c.in_ok-ranking.ensures.standing reasons forced fits)
    follows))

pub returns-in-Some-clause-ranks : goal.returns-in-Some-clause-ranks
returns-in-Some-clause-ranks c = λ at jobs table rows follows states solves.
    let kept = some_kept c.in_ok-ranking.field-0 c.in-Some.ranking c.as_slice-lines.result.now c.in_ok-used.used c.args.last c.in-Some.is c.in_ok-ranking.ensures.kept in
    kept_ranks at jobs c.args.self.now c.as_slice-lines.result.now c.as_slice-origins.result.now c.args.rows.now c.in_ok-used.used.items table rows c.as_slice-lines.ensures
    c.as_slice-origins.ensures c.in_ok-used.ensures.each c.in_ok-used.ensures.used c.in-Some.ranking (ap (λ v. v.items) kept.0)
    (follow_standing jobs at.settings.targets c.args.self.now c.as_slice-lines.result.now c.as_slice-origins.result.now (told_at at jobs c.args.rows.now) c.in_ok-used.used c.args.last c.as_slice.result.now
    c.watchers_at-watchers.result.now c.in-Some.ranking table.told c.as_slice-lines.ensures c.as_slice-origins.ensures c.as_slice.ensures.value c.watchers_at-watchers.ensures kept.3
    c.in_ok-used.ensures.each c.in_ok-used.ensures.used
    (some_stands c.in_ok-ranking.field-0 c.in-Some.ranking c.as_slice-lines.result.now c.as_slice-origins.result.now c.args.rows.now c.in_ok-used.used c.watchers_at-watchers.result.now
    c.args.last c.in-Some.is c.in_ok-ranking.ensures.standing (reasons_at at jobs) (forced_at at jobs) rows.own)
    follows)
    kept.1 states solves

pub returns-in-Some-clause-table : goal.returns-in-Some-clause-table
returns-in-Some-clause-table c = λ at jobs table rows follows.
    let kept = some_kept c.in_ok-ranking.field-0 c.in-Some.ranking c.as_slice-lines.result.now c.in_ok-used.used c.args.last c.in-Some.is c.in_ok-ranking.ensures.kept in
    table_states at jobs c.args.self.now c.as_slice-lines.result.now c.as_slice-origins.result.now c.args.rows.now c.in_ok-used.used.items c.in-Some.ranking table rows
    c.as_slice-lines.ensures c.as_slice-origins.ensures c.in_ok-used.ensures.each c.in_ok-used.ensures.used
    (λ states solves.
    kept_ranks at jobs c.args.self.now c.as_slice-lines.result.now c.as_slice-origins.result.now c.args.rows.now c.in_ok-used.used.items table rows c.as_slice-lines.ensures
    c.as_slice-origins.ensures c.in_ok-used.ensures.each c.in_ok-used.ensures.used c.in-Some.ranking (ap (λ v. v.items) kept.0)
    (follow_standing jobs at.settings.targets c.args.self.now c.as_slice-lines.result.now c.as_slice-origins.result.now (told_at at jobs c.args.rows.now) c.in_ok-used.used c.args.last c.as_slice.result.now
    c.watchers_at-watchers.result.now c.in-Some.ranking table.told c.as_slice-lines.ensures c.as_slice-origins.ensures c.as_slice.ensures.value c.watchers_at-watchers.ensures kept.3
    c.in_ok-used.ensures.each c.in_ok-used.ensures.used
    (some_stands c.in_ok-ranking.field-0 c.in-Some.ranking c.as_slice-lines.result.now c.as_slice-origins.result.now c.args.rows.now c.in_ok-used.used c.watchers_at-watchers.result.now
    c.args.last c.in-Some.is c.in_ok-ranking.ensures.standing (reasons_at at jobs) (forced_at at jobs) rows.own)
    follows)
    kept.1 states solves)

pub returns-in-None-clause-standing : goal.returns-in-None-clause-standing
returns-in-None-clause-standing c =
    IfOk-weaker c.rank_anew.result _ _
    (λ r stands. λ jobs targets table served reasons forced fits follows. stands jobs targets table served reasons forced fits) c.rank_anew.ensures.standing
