use Rattle.std.proofs.Common.{◌≡◌, ◌∙◌, true, List, None, zip, refl, ap, sym, subst, option_map, IfSome}
use Rattle.std.specs.List.{list_all, slice_get}
use Rattle.smk_flow.specs.declared.job.Job.{Job}
use Rattle.smk_chain.specs.declared.jobs.Jobs.{Jobs}
use Rattle.smk_plan.specs.States.{staged}
use Rattle.smk_plan_live.specs.Limits.{is_within}
use Rattle.smk_drive_pick.specs.declared.next.Best.{Best}
use Rattle.smk_drive_pick.specs.Picking.{plan_of, wrapped}
use Rattle.smk_drive_pick.specs.Told.{best_from}
use Rattle.smk_drive_pick.specs.Grounds.{may_begin_by}
use Rattle.smk_drive_pick.proofs.Chosen.{next_is, none_is}
use Rattle.smk_drive_pick.proofs.Freed.{whole_now}
use Rattle.smk_drive_pick.proofs.next.next_job.Goals as goal

pub returns-then-is_full_for_all : goal.returns-then-is_full_for_all
returns-then-is_full_for_all c =
    let live = c.args.live.now in
    record {
      wholes = whole_now live;
      whole = λ sorted. refl;
      next = λ at cores bounds asks judged holds.
          ap (option_map wrapped)
          (none_is at live c.limits-limits.result.least c.args.room.now (sym c.is_full_for_all.ensures ∙ c.if-is_full_for_all.true)
          (c.limits-limits.ensures.now c.requires).threads cores bounds asks holds);
    }

pub best_of-requires : goal.best_of-requires
best_of-requires c =
    let jobs : c.as_slice-jobs.result.now ≡ c.args.live.now.base.jobs.jobs = c.as_slice-jobs.ensures ∙ ap (λ (j : Jobs). j.jobs) c.jobs.ensures in
    subst (λ (js : List Job). IfSome c.limits-limits.result.top (λ top. list_all (is_within top) js ≡ true)) (sym jobs)
    (c.limits-limits.ensures.now c.requires).priorities

pub returns : goal.returns
returns c =
    let live = c.args.live.now in
    let told = c.in_ok-told.told in
    let room = c.args.room.now in
    let jobs : c.as_slice-jobs.result.now ≡ live.base.jobs.jobs = c.as_slice-jobs.ensures ∙ ap (λ (j : Jobs). j.jobs) c.jobs.ensures in
    record {
      wholes = whole_now live;
      whole = λ sorted. refl;
      next = λ at cores bounds asks judged holds.
          ap (option_map (slice_get (staged (plan_of live))))
          (c.number_of.ensures
          ∙ ap (option_map (λ (b : Best). b.number))
          (c.in_ok-best.ensures ∙ (λ i. best_from (may_begin_by told room) 0 None (zip (jobs i) ((c.in_ok-told.ensures.ranks ∙ judged.ranks) i)))))
          ∙ next_is at live told c.requires judged c.in_ok-told.ensures cores bounds room asks holds;
    }
