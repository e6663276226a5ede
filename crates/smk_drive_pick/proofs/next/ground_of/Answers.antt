use Rattle.std.proofs.Common.{◌≡◌, ◌∙◌, sym, ap, subst}
use Rattle.smk_plan_states.specs.declared.table.Table.{Table}
use Rattle.smk_plan_states.specs.Tables.{IsTableAt}
use Rattle.smk_drive_pick.proofs.next.ground_of.Goals as goal

pub returns : goal.returns
returns c =
    let live = c.args.live.now in
    let table : c.table-table.result.now ≡ live.table = c.table-table.ensures.value in
    record {
      lines = c.lines.ensures ∙ ap (λ (t : Table). t.lines) table;
      phases = c.phases.ensures;
      origins = c.origins.ensures ∙ ap (λ (t : Table). t.origins) table;
      wholes = c.makers_whole.ensures.value;
      ranks = c.ranks.ensures.value;
      used = λ at tabled began. c.in_ok-used.ensures at live.base.jobs (subst (IsTableAt at live.base.jobs) (sym table) tabled) (c.ran_from.ensures ∙ began);
    }
