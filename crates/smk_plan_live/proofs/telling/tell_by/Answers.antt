use Rattle.std.proofs.Common.{◌≡◌, ◌∙◌, map, refl, sym, ap, subst}
use Rattle.smk_plan.specs.declared.fault.PlanFault.{PlanFault}
use Rattle.smk_plan_states.specs.declared.rows.Rows.{Rows}
use Rattle.smk_plan_states.specs.declared.standing.Ranking.{Ranking}
use Rattle.smk_plan_states.specs.Ranks.{rank_of}
use Rattle.smk_plan_states.specs.Rows.{FitOwn, forced_at, reasons_at}
use Rattle.smk_plan_states.specs.Standing.{FollowsBy, StandsBy, states_by}
use Rattle.smk_plan_states.specs.Stays.{Told, told_at, told_by}
use Rattle.smk_plan_states.specs.Tables.{IsTableAt}
use Rattle.smk_plan_table.specs.Plans.{IsRefusedAt}
use Rattle.smk_plan_live.specs.Kept.{own_by, told_by_flags}
use Rattle.smk_plan_live.specs.Lives.{IsTold, progress_of, judging_of}
use Rattle.smk_plan_live.proofs.Judging.{counted_now, agree_now, given_now, rows_tell, told_here, told_now, refused_now}
use Rattle.smk_plan_live.proofs.Learned.{own_is}
use Rattle.smk_plan_live.proofs.telling.tell_by.Goals as goal

pub plan_now-requires : goal.plan_now-requires
plan_now-requires c = record { table = c.requires.table; each = c.in-Ok.ensures.each c.args.base.now.jobs c.args.settings.now.targets c.requires.table }

pub returns-in-Ok-holds_back-clause-standing : goal.returns-in-Ok-holds_back-clause-standing
returns-in-Ok-holds_back-clause-standing c = λ served fits follows.
    let b = c.args.base.now in
    let s = c.args.settings.now in
    let l = c.args.outputs.now in
    let makers = c.args.makers.now in
    let forced = c.args.forced.now in
    let table = c.args.table.now in
    let rows : Rows = record { outputs = c.args.outputs; makers = c.args.makers; own = c.args.own; running = c.as_slice.result } in
    let tells : told_by rows (own_by b b.jobs.jobs forced) forced ≡ told_by_flags b l makers forced =
    rows_tell b l makers forced rows refl refl c.as_slice.ensures in
    let is = own_is s b c.requires.sound forced (c.requires.forced served) in
    let stands =
    c.in-Ok.ensures.standing b.jobs s.targets c.requires.table served (own_by b b.jobs.jobs forced) forced (subst (FitOwn c.args.own.now) (sym is) fits)
    (subst (FollowsBy table c.args.last) (sym tells) (follows served)) in
    subst (λ (r : Ranking). StandsBy table (told_by_flags b l makers forced) r) (sym c.in-Ok-plan_now.ensures.ranking)
    (subst (λ (t : Told). StandsBy table t c.in-Ok.ranking) tells stands)

pub returns-in-Ok-holds_back-clause-ranked : goal.returns-in-Ok-holds_back-clause-ranked
returns-in-Ok-holds_back-clause-ranked c = λ follows given image agrees.
    let b = c.args.base.now in
    let s = c.args.settings.now in
    let l = c.args.outputs.now in
    let makers = c.args.makers.now in
    let forced = c.args.forced.now in
    let table = c.args.table.now in
    let rows : Rows = record { outputs = c.args.outputs; makers = c.args.makers; own = c.args.own; running = c.as_slice.result } in
    let tells : told_by rows (own_by b b.jobs.jobs forced) forced ≡ told_by_flags b l makers forced =
    rows_tell b l makers forced rows refl refl c.as_slice.ensures in
    let F = c.told_is_so.ensures.facts in
    let W = c.told_is_so.ensures.wholes in
    let counted = counted_now F W b s image agrees in
    let at = judging_of counted s b in
    let lends = given agrees.served in
    let so = given_now F W b s image agrees l makers c.args.own.now c.args.suspects.now lends rows refl refl refl c.as_slice.ensures c.args.begun.now c.requires.begun in
    let here : IsTableAt at b.jobs table = record { told = c.requires.table; served = agrees.served } in
    let said = told_here F W b s image agrees lends.texts in
    let is = own_is s b c.requires.sound forced (c.requires.forced agrees.served) in
    let path : told_at at b.jobs rows ≡ told_by_flags b l makers forced =
    (λ i. told_by rows (sym (is ∙ said.0) i) (sym (c.requires.forced agrees.served ∙ said.1) i)) ∙ tells in
    let after = subst (FollowsBy table c.args.last) (sym path) (follows agrees.served) in
    let states = states_by table (told_at at b.jobs rows) c.in-Ok.ranking in
    let solved = c.in-Ok.ensures.table at b.jobs here so.right after in
    let ranks = c.in-Ok.ensures.ranks at b.jobs here so.right after states solved in
    let same = c.in-Ok-plan_now.ensures.ranking in
    ap (λ (r : Ranking). r.last.items) same ∙ ranks ∙ ap (map rank_of) (λ i. states_by table (path i) (sym same i))

pub returns-in-Ok-holds_back-clause-now : goal.returns-in-Ok-holds_back-clause-now
returns-in-Ok-holds_back-clause-now c = λ follows given image agrees.
    let b = c.args.base.now in
    let s = c.args.settings.now in
    let l = c.args.outputs.now in
    let makers = c.args.makers.now in
    let forced = c.args.forced.now in
    let table = c.args.table.now in
    let rows : Rows = record { outputs = c.args.outputs; makers = c.args.makers; own = c.args.own; running = c.as_slice.result } in
    let tells : told_by rows (own_by b b.jobs.jobs forced) forced ≡ told_by_flags b l makers forced =
    rows_tell b l makers forced rows refl refl c.as_slice.ensures in
    let F = c.told_is_so.ensures.facts in
    let W = c.told_is_so.ensures.wholes in
    let counted = counted_now F W b s image agrees in
    let at = judging_of counted s b in
    let lends = given agrees.served in
    let so = given_now F W b s image agrees l makers c.args.own.now c.args.suspects.now lends rows refl refl refl c.as_slice.ensures c.args.begun.now c.requires.begun in
    let here : IsTableAt at b.jobs table = record { told = c.requires.table; served = agrees.served } in
    let said = told_here F W b s image agrees lends.texts in
    let is = own_is s b c.requires.sound forced (c.requires.forced agrees.served) in
    let path : told_at at b.jobs rows ≡ told_by_flags b l makers forced =
    (λ i. told_by rows (sym (is ∙ said.0) i) (sym (c.requires.forced agrees.served ∙ said.1) i)) ∙ tells in
    let after = subst (FollowsBy table c.args.last) (sym path) (follows agrees.served) in
    let states = states_by table (told_at at b.jobs rows) c.in-Ok.ranking in
    let solved = c.in-Ok.ensures.table at b.jobs here so.right after in
    let ranks = c.in-Ok.ensures.ranks at b.jobs here so.right after states solved in
    let same = c.in-Ok-plan_now.ensures.ranking in
    let ranked = c.in-Ok-plan_now.ranked in
    let held = c.in-Ok-holds_back.held in
    let made = c.in-Ok-plan_now.ensures.made counted (progress_of b) (agree_now F W b s image agrees) so states solved ranks in
    let stands =
    c.in-Ok.ensures.standing b.jobs s.targets c.requires.table agrees.served (reasons_at at b.jobs) (forced_at at b.jobs) so.right.own after in
    let back =
    c.in-Ok-holds_back.ensures at b.jobs states here so.right (subst (λ (r : Ranking). StandsBy table (told_at at b.jobs rows) r) (sym same) stands) solved
    (ap (λ (r : Ranking). r.last.items) same ∙ ranks) in
    coe 0 1
    (i. IsTold s b (record { states = states_by table (path i) (sym same i); current = ranked.current; known = ranked.known }) held image)
    (told_now F W b s image agrees (record { states = states; current = ranked.current; known = ranked.known }) held (record { made = made; back = back }))

pub returns-in-Err-clause-refused : goal.returns-in-Err-clause-refused
returns-in-Err-clause-refused c = λ fault is other follows given image agrees.
    let its : c.in-Err.fault ≡ fault = cc in
    let b = c.args.base.now in
    let s = c.args.settings.now in
    let l = c.args.outputs.now in
    let makers = c.args.makers.now in
    let forced = c.args.forced.now in
    let table = c.args.table.now in
    let rows : Rows = record { outputs = c.args.outputs; makers = c.args.makers; own = c.args.own; running = c.as_slice.result } in
    let tells : told_by rows (own_by b b.jobs.jobs forced) forced ≡ told_by_flags b l makers forced =
    rows_tell b l makers forced rows refl refl c.as_slice.ensures in
    let F = c.told_is_so.ensures.facts in
    let W = c.told_is_so.ensures.wholes in
    let counted = counted_now F W b s image agrees in
    let at = judging_of counted s b in
    let lends = given agrees.served in
    let so = given_now F W b s image agrees l makers c.args.own.now c.args.suspects.now lends rows refl refl refl c.as_slice.ensures c.args.begun.now c.requires.begun in
    let here : IsTableAt at b.jobs table = record { told = c.requires.table; served = agrees.served } in
    let said = told_here F W b s image agrees lends.texts in
    let kept = own_is s b c.requires.sound forced (c.requires.forced agrees.served) in
    let path : told_at at b.jobs rows ≡ told_by_flags b l makers forced =
    (λ i. told_by rows (sym (kept ∙ said.0) i) (sym (c.requires.forced agrees.served ∙ said.1) i)) ∙ tells in
    let after = subst (FollowsBy table c.args.last) (sym path) (follows agrees.served) in
    let states = states_by table (told_at at b.jobs rows) c.in-Ok.ranking in
    let solved = c.in-Ok.ensures.table at b.jobs here so.right after in
    let ranks = c.in-Ok.ensures.ranks at b.jobs here so.right after states solved in
    refused_now F W b s image agrees fault
    (subst (λ (f : PlanFault). IsRefusedAt at b.jobs f) its
    (c.in-Err.ensures.refused (λ memory. other (sym its ∙ memory)) counted (progress_of b) (agree_now F W b s image agrees) so states solved ranks))
