use Rattle.std.proofs.Common.{◌∙◌, List, Bool, false, get_or, arith, ap, sym, zip}
use Rattle.std.specs.List.{list_any}
use Rattle.smk_plan_states.specs.declared.ranks.Rank.{Rank}
use Rattle.smk_plan_states.specs.Ranking.{is_held_by, is_lent_lacking, is_needed_in}
use Rattle.smk_plan_states.proofs.ByState.{held_ranks, lent_ranks, needed_ranks}
use Rattle.smk_plan_states.proofs.HeldByLinks.{held_are}
use Rattle.smk_plan_states.proofs.Lacking.{none_held}
use Rattle.smk_plan_states.proofs.holding.any_held.Goals as goal

pub returns-then-not-may_be_held : goal.returns-then-not-may_be_held
returns-then-not-may_be_held c = λ at jobs states h ranked.
    sym
    (none_held at jobs states c.args.lines.now c.args.origins.now c.args.rows.now c.args.used.now h
    (sym (lent_ranks states (zip c.args.used.now c.args.rows.now.outputs.now))
    ∙ ap (λ (rs : List Rank). list_any is_lent_lacking (zip rs (zip c.args.used.now c.args.rows.now.outputs.now))) (sym ranked)
    ∙ sym c.may_be_held.ensures ∙ c.if-not-may_be_held.true))

pub returns : goal.returns
returns c = λ at jobs states h ranked.
    c.is_any_held.ensures
    ∙ ap
    (λ (rs : List Rank).
    list_any (is_held_by c.as_slice.result.now) (zip c.args.lines.now (zip rs (zip c.args.rows.now.running.now (zip c.args.used.now c.args.rows.now.outputs.now)))))
    ranked
    ∙ held_ranks c.as_slice.result.now c.args.lines.now states (zip c.args.rows.now.running.now (zip c.args.used.now c.args.rows.now.outputs.now))
    ∙ held_are at jobs states c.args.lines.now c.args.origins.now c.args.rows.now c.args.used.now h c.as_slice.result.now
    (λ n lt.
    ap (λ (fs : List Bool). get_or fs n false) c.as_slice.ensures.value ∙ c.in_ok-needed.ensures n (omega arith)
    ∙ ap (λ (rs : List Rank). is_needed_in c.args.lines.now rs n) ranked ∙ needed_ranks c.args.lines.now states n)
