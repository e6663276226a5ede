-- After an edit of a source the first child that a run starts is of a job that its plan has to run for it.
use Rattle.std.proofs.Common.{◌≡◌, List, [], ◌++◌, refl, sym, ap, subst, ◌∙◌, inl, false, true, true≢false}
use Rattle.smk_world.specs.declared.event.Event.{Event}
use Rattle.smk_world.specs.declared.event.Node.TheVariants.{Regular}
use Rattle.smk_world.specs.World.{World, in_paths, run}
use Rattle.smk_world.specs.Trees.{Path}
use Rattle.smk_record.specs.Reading.{record_in}
use Rattle.smk_store.specs.Images as images
use Rattle.smk_trigger.specs.declared.reason.State.{State}
use Rattle.smk_trigger.specs.declared.reason.State.TheVariants.{Clean, Dirty, Open, Restore}
use Rattle.smk_trigger.specs.JobStates.{is_clean, is_to_run}
use Rattle.smk_plan.specs.States.{LastPlan, Plan, gathers_from, nothing_done}
use Rattle.smk_laws_plan.proofs.CurrentLists.{in_left}
use Rattle.smk_laws_plan.proofs.CurrentPaths.{in_among}
use Rattle.smk_drive.specs.Moments.{AtEntry, AtRest, Begun, Between, IsMoment, Moment, Rules, seen}
use Rattle.smk_laws_history.specs.Histories.{edited}
use Rattle.smk_drive_course.specs.Keeping.{has_start}
use Rattle.smk_cli_target.specs.Thrift.{LeadsThere, MayStartAfter, Restores}
use Rattle.smk_cli_target.proofs.NextRun.{last_parts}
use Rattle.smk_laws_edit.specs.Edited.{FirstStartIsDownstream, IsDownstream, IsReadBack, IsToRunFor}
use Rattle.smk_laws_edit.proofs.EditedWorlds.{after_edit}
use Rattle.smk_laws_edit.proofs.Quiet.{has_start_at, starts_is}
use Rattle.smk_laws_edit.proofs.Waiting.{IsAtStart, first_to_run}

events_are : (rules : Rules) (entry : World) (events : List Event) (m : Moment) → IsMoment rules entry events m → m.events ≡ events
events_are rules entry _ _ (AtEntry plan force) = refl
events_are rules entry _ _ (AtRest events m e plan is rest force) = refl
events_are rules entry _ _ (Between events m e is rest) = refl

unclean : (s : State) → is_to_run s ≡ true → is_clean s ≡ false
unclean (Dirty reasons) h = refl
unclean Restore h = refl
unclean Open h = absurd (true≢false (sym h))
unclean Clean h = absurd (true≢false (sym h))

-- what is to run for p may be started after an edit of it
may_start : (p : Path) (before now : Plan) (b : Begun) → IsToRunFor p now (b.job, b.state) → MayStartAfter p before now b
may_start p before now b (IsDownstream dirty leads) = LeadsThere leads
may_start p before now b (IsReadBack restore (e, q, staged, runs, reads, makes)) =
    Restores restore (e, q, staged, in_among (in_paths e.0.recipe ++ gathers_from e.0) q (in_left q (in_paths e.0.recipe) (gathers_from e.0) reads), makes, inl (unclean e.1 runs))

pub first_start : FirstStartIsDownstream
first_start act words w rules entry log again before now p bytes time read_only outcome old new out_old out_new done is_before source good by is_now met events e rest there split is b none i starts_it =
    let v = edited (run entry log) p (Regular bytes time read_only) in
    let well = met.has_log.of_run good w rules done.asked by in
    let reads : rules.read ≡ record_in = ap (λ (r : Rules). r.read) by.rules_are in
    let last = subst (λ read. LastPlan rules.flow (images.seen read v) rules.settings nothing_done [] now) (sym reads) is_now in
    let parts = last_parts rules.flow (seen rules v) rules.settings nothing_done [] now last in
    let start : IsAtStart rules now v
    = record {
      formed = good.sound.formed;
      no_child = good.sound.no_child;
      unforced = ap (λ (r : Rules). r.settings.force) by.rules_are ∙ done.unforced;
      is_last = last;
      is_plan = parts.0;
      none_new = parts.1;
    } in
    let so =
    first_to_run rules now v start act again well.lawful.each well.keeps.late (ap has_start split ∙ has_start_at events e rest (starts_is b.job e.call starts_it)) events e rest there split is met.follows
    (ap has_start (sym (events_are rules v events there is)) ∙ none) b i in
    let down = after_edit act words w rules entry log before now p bytes time read_only done is_before source is_now in
    let for_it = down.for_it (b.job, b.state) so.1.0 so.1.1 in
    (so.0, so.1.0, for_it, may_start p before now b for_it)
