use Rattle.std.proofs.Common.{◌∙◌, List, Some, option_map, ap, sym}
use Rattle.std.specs.Prelude.{slice_index_or}
use Rattle.std.specs.List.{slice_get}
use Rattle.smk_plan_states.specs.declared.lines.Line.{Line}
use Rattle.smk_plan_states.specs.declared.ranks.Rank.TheVariants.{Open}
use Rattle.smk_plan_states.specs.Stays.{state_with}
use Rattle.smk_plan_states.proofs.Steps.{state_beyond, state_there}
use Rattle.smk_plan_states.proofs.table.Table.state_of.Goals as goal

pub returns-in_default : goal.returns-in_default
returns-in_default c = λ rows own forced begun.
    sym
    (state_beyond c.args.self.now.origins rows c.args.ranking.now.last.items 0 c.args.self.now.lines c.args.number
    (ap (λ (ls : List Line). slice_get ls c.args.number) (sym c.as_slice.ensures) ∙ sym c.line_at.ensures ∙ ap (option_map (λ l. l.now)) c.in_default.is))

pub returns : goal.returns
returns c = λ rows own forced begun.
    let line = c.in-Some.line.now in
    ap Some
    (c.in_ok-state.ensures
    ∙ (λ i.
    state_with (c.ranks-ranks.ensures i) (c.as_slice-origins.ensures i) (c.as_slice-inputs.ensures i) (sym begun i)
    ((c.rank_or_open-rank.ensures ∙ ap (λ rs. slice_index_or rs c.args.number Open) c.ranks-ranks.ensures) i) (sym forced i) (sym own i)))
    ∙ sym
    (state_there c.args.self.now.lines c.args.self.now.origins rows c.args.ranking.now.last.items c.args.number line
    (ap (λ (ls : List Line). slice_get ls c.args.number) (sym c.as_slice.ensures) ∙ sym c.line_at.ensures ∙ ap (option_map (λ l. l.now)) c.in-Some.is))
