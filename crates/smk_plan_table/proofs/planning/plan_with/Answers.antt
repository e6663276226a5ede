use Rattle.std.proofs.Common.{◌∙◌, subst, sym}
use Rattle.std.proofs.lemmas.Result.{IfOk-weaker}
use Rattle.smk_plan_states.specs.declared.rows.Rows.{Rows}
use Rattle.smk_plan_states.specs.Judged.{Judging}
use Rattle.smk_plan_states.specs.Standing.{states_by}
use Rattle.smk_plan_states.specs.Stays.{told_at, told_by}
use Rattle.smk_plan_states.specs.Tables.{IsTableAt}
use Rattle.smk_plan_table.specs.Plans.{HasMadeAt}
use Rattle.smk_plan_table.proofs.Lent.{given_right}
use Rattle.smk_plan_table.proofs.planning.plan_with.Goals as goal

pub plan_now-requires : goal.plan_now-requires
plan_now-requires g c = record { table = c.requires.table; each = c.in-Ok.ensures.each c.args.jobs.now c.args.settings.now.targets c.requires.table }

pub returns-in-Err-plan_now-clause-refused : goal.returns-in-Err-plan_now-clause-refused
returns-in-Err-plan_now-clause-refused g c = λ other image progress agree so.
    let at : Judging = record { image = image; settings = c.args.settings.now; progress = progress } in
    let jobs = c.args.jobs.now in
    let basis = c.args.basis.now in
    let rows : Rows = record { outputs = c.as_slice.result; makers = c.as_slice-2.result; own = c.args.own; running = c.as_slice-3.result } in
    let given =
    given_right at jobs (g.T.Told.known c.args.told.now) (g.T.Told.seen c.args.told.now) basis rows so c.as_slice.ensures
    c.as_slice-2.ensures c.requires.own c.as_slice-3.ensures c.as_slice-in-Ok.result.now c.as_slice-in-Ok-2.result.now c.as_slice-in-Ok.ensures.value
    c.as_slice-in-Ok-2.ensures.value in
    let here : IsTableAt at jobs basis.table = record { told = c.requires.table; served = agree.served } in
    let states = states_by basis.table (told_at at jobs rows) c.in-Ok.ranking in
    let solved = c.in-Ok.ensures.table at jobs here given.right tt in
    let ranks = c.in-Ok.ensures.ranks at jobs here given.right tt states solved in
    c.in-Err-plan_now.ensures.refused other image progress agree given states solved ranks

pub returns-in-Ok-plan_now-clause-made : goal.returns-in-Ok-plan_now-clause-made
returns-in-Ok-plan_now-clause-made g c =
    let made = c.in-Ok-plan_now.made in
    IfOk-weaker c.spell.result _ _
    (λ plan is. λ image progress agree so.
    let at : Judging = record { image = image; settings = c.args.settings.now; progress = progress } in
    let jobs = c.args.jobs.now in
    let basis = c.args.basis.now in
    let rows : Rows = record { outputs = c.as_slice.result; makers = c.as_slice-2.result; own = c.args.own; running = c.as_slice-3.result } in
    let given =
    given_right at jobs (g.T.Told.known c.args.told.now) (g.T.Told.seen c.args.told.now) basis rows so c.as_slice.ensures
    c.as_slice-2.ensures c.requires.own c.as_slice-3.ensures c.as_slice-in-Ok.result.now c.as_slice-in-Ok-2.result.now c.as_slice-in-Ok.ensures.value
    c.as_slice-in-Ok-2.ensures.value in
    let here : IsTableAt at jobs basis.table = record { told = c.requires.table; served = agree.served } in
    let states = states_by basis.table (told_at at jobs rows) c.in-Ok.ranking in
    let solved = c.in-Ok.ensures.table at jobs here given.right tt in
    let ranks = c.in-Ok.ensures.ranks at jobs here given.right tt states solved in
    let reasons = c.as_slice-in-Ok-plan_now.ensures ∙ so.judged.reasons in
    let forced = c.as_slice-in-Ok-plan_now-2.ensures ∙ so.judged.forced in
    subst (HasMadeAt at jobs)
    (sym
    (is
    ∙ (λ i.
    record {
      states = states_by basis.table (told_by rows (reasons i) (forced i)) (c.in-Ok-plan_now.ensures.ranking i);
      current = made.current;
      known = made.known;
    })))
    (c.in-Ok-plan_now.ensures.made image progress agree given states solved ranks))
    c.spell.ensures.ok
