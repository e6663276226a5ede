use Rattle.std.proofs.Common.{◌∙◌, ap, length}
use Rattle.smk_plan_states.specs.Stays.{told_by}
use Rattle.smk_plan_states.proofs.Counts.{states_each}
use Rattle.smk_plan_table.proofs.planning.spell.Goals as goal

pub returns-in-Ok-clause-each : goal.returns-in-Ok-clause-each
returns-in-Ok-clause-each c = λ jobs targets told.
    ap length c.in-Ok.ensures ∙ states_each jobs targets c.args.table.now (told_by c.args.rows.now c.args.reasons.now c.args.forced.now) c.args.made.ranking told
