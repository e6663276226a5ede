use Rattle.std.proofs.Common.{ap, sym, subst, ◌∙◌}
use Rattle.std.specs.List.{list_all}
use Rattle.smk_plan_states.proofs.Counts.{states_each}
use Rattle.smk_plan_live.specs.Carried.{with_seen}
use Rattle.smk_plan_live.specs.Commands.{has_command}
use Rattle.smk_plan_live.specs.Limits.{AreLimits}
use Rattle.smk_plan_live.specs.Kept.{told_by_flags}
use Rattle.smk_plan_live.specs.Live.{LivePlan, on_base, seen_as}
use Rattle.smk_plan_live.specs.Lives.{IsLive, IsRefusedNow}
use Rattle.smk_plan_live.proofs.Grown.{seen_named, seen_sound}
use Rattle.smk_plan_live.proofs.live.LivePlan.stand.Goals as goal

pub told_of-requires : goal.told_of-requires
told_of-requires g c = (
  c.type_bounds.sync-Rt,
  (seen_sound c.args.base c.swap.new.x c.requires.sound, seen_named c.args.base c.swap.new.x c.requires.named),
)

pub returns-in-Err-clause-err : goal.returns-in-Err-clause-err
returns-in-Err-clause-err g c =
    let r = c.self.inside in
    let p : LivePlan = seen_as r.base r.settings r.ranking r.current r.known r.held r.table r.flags r.readers r.commanded r.limits in
    ap (λ s. on_base p (with_seen s p.base)) (c.swap-in-Err.ensures.y_after ∙ c.swap.ensures.x_after) ∙ c.self.view_is

pub returns-in-Err-clause-live : goal.returns-in-Err-clause-live
returns-in-Err-clause-live g c =
    let r = c.self.inside in
    let p : LivePlan = seen_as r.base r.settings r.ranking r.current r.known r.held r.table r.flags r.readers r.commanded r.limits in
    coe 1 0 (i. IsLive (on_base p (with_seen ((c.swap-in-Err.ensures.y_after ∙ c.swap.ensures.x_after) i) p.base)))
    (subst IsLive (sym c.self.view_is) c.requires.live)

pub returns-in-Err-clause-refused : goal.returns-in-Err-clause-refused
returns-in-Err-clause-refused g c = λ other.
    subst (λ (p : LivePlan). IsRefusedNow p.settings (with_seen p.base.seen c.args.base) c.in-Err.fault) c.self.view_is
    (subst (λ s. IsRefusedNow c.self.inside.settings (with_seen s c.args.base) c.in-Err.fault) c.swap.ensures.x_after
    (c.in-Err.ensures.refused other))

pub returns-in-Ok-clause-ok : goal.returns-in-Ok-clause-ok
returns-in-Ok-clause-ok g c = (
  ap (λ s. with_seen s c.args.base) (c.swap.ensures.x_after ∙ ap (λ (p : LivePlan). p.base.seen) c.self.view_is),
  ap (λ (p : LivePlan). p.settings) c.self.view_is,
)

pub returns-in-Ok-clause-live : goal.returns-in-Ok-clause-live
returns-in-Ok-clause-live g c =
    let t = c.in-Ok.ensures.told in
    let k = c.in-Ok.told.kept in
    let settings = c.self.inside.settings in
    let sound = seen_sound c.args.base c.swap.new.x c.requires.sound in
    let named = seen_named c.args.base c.swap.new.x c.requires.named in
    record {
      sound = sound;
      texts = t.kept.texts;
      each = states_each c.args.base.jobs settings.targets k.table
          (told_by_flags (with_seen c.swap.new.x c.args.base) k.flags.outputs k.flags.makers k.flags.forced) c.in-Ok.told.ranked.ranking t.kept.table;
      targets = t.targets;
      now = t.now;
      table = t.kept.table;
      flags = λ served. t.kept.flags;
      made = t.kept.made;
      readers = t.kept.readers sound;
      standing = t.standing;
      ranked = t.ranked;
      named = named;
      limits = subst (AreLimits c.limits_of-limits.result) c.as_slice-jobs.ensures c.limits_of-limits.ensures;
      commands = λ h. ap (list_all (has_command settings.cores)) (sym c.as_slice-jobs.ensures) ∙ c.are_seen-commanded.ensures h;
    }
