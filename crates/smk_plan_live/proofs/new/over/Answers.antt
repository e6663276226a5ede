use Rattle.std.proofs.Common.{ap, sym, ◌∙◌, subst}
use Rattle.std.specs.List.{list_all}
use Rattle.smk_plan_states.proofs.Counts.{states_each}
use Rattle.smk_plan_live.specs.Commands.{has_command}
use Rattle.smk_plan_live.specs.Limits.{AreLimits}
use Rattle.smk_plan_live.specs.Kept.{told_by_flags}
use Rattle.smk_plan_live.proofs.new.over.Goals as goal

pub returns-in-Ok-clause-live : goal.returns-in-Ok-clause-live
returns-in-Ok-clause-live g c =
    let t = c.in-Ok.ensures.told in
    let k = c.in-Ok.told.kept in
    record {
      sound = c.requires.sound;
      texts = t.kept.texts;
      each = states_each c.args.base.jobs c.args.settings.targets k.table
          (told_by_flags c.args.base k.flags.outputs k.flags.makers k.flags.forced) c.in-Ok.told.ranked.ranking t.kept.table;
      targets = t.targets;
      now = t.now;
      table = t.kept.table;
      flags = λ served. t.kept.flags;
      made = t.kept.made;
      readers = t.kept.readers c.requires.sound;
      standing = t.standing;
      ranked = t.ranked;
      named = c.requires.named;
      limits = subst (AreLimits c.limits_of-limits.result) c.as_slice-jobs.ensures c.limits_of-limits.ensures;
      commands = λ h. ap (list_all (has_command c.args.settings.cores)) (sym c.as_slice-jobs.ensures) ∙ c.are_seen-commanded.ensures h;
    }
