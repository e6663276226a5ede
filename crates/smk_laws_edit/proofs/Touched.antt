-- After sources were touched a run with the same words starts nothing: the plan is the same, and by it every job is Clean.
use Rattle.std.specs.Prelude.{if◌then◌else◌}
use Rattle.std.proofs.Common.{◌≡◌, ◌⊎◌, Bool, true, false, [], map, refl, sym, ap, subst, ◌∙◌, inl, inr, Option, Some, None, option_map}
use Rattle.std.proofs.lemmas.Option.{none-some}
use Rattle.smk_base.specs.declared.tree.Tree.TheVariants.{File, Folder}
use Rattle.smk_world.specs.declared.event.Node.{Node}
use Rattle.smk_world.specs.Trees.{Path, IsIn}
use Rattle.smk_world.specs.World.{run}
use Rattle.smk_flow.specs.declared.job.Job.{Job}
use Rattle.smk_record.specs.Reading.{record_in}
use Rattle.smk_store.specs.Images as images
use Rattle.smk_store.specs.Images.{Content, Image, bytes_of, content_of, entry_under, is_directory, is_source, names_under, tree_now}
use Rattle.smk_trigger.specs.declared.reason.State.{State}
use Rattle.smk_plan.specs.States.{IsPlan, LastPlan, Plan, is_spent, new_listings, nothing_done, staged}
use Rattle.smk_laws_plan.specs.Current.{IsComplete}
use Rattle.smk_laws_plan.proofs.PlanOne.{one_last_plan}
use Rattle.smk_laws_history.proofs.CurrentComplete.{seen_is_complete}
use Rattle.smk_drive.specs.Moments.{Rules}
use Rattle.smk_cli_target.specs.Files.{seen}
use Rattle.smk_cli_target.specs.Thrift.{IsTouchedAt, TouchedStartsNone}
use Rattle.smk_cli_target.proofs.NextRun.{IsAtEnd, at_end, at_start, good_exit, had_begun, is_done, last_parts, no_tree, none_started, spent_same}
use Rattle.smk_cli_target.proofs.PlanStays.{chain_again}
use Rattle.smk_laws_edit.proofs.AnyPlan.{chain_listed}
use Rattle.smk_laws_edit.proofs.EditedChain.{WasDone}
use Rattle.smk_laws_edit.proofs.TouchedPlans.{chain_touched}

no_source : (n : Option Node) (b : Bool) (f : Content) → n ≡ None → (if b then content_of n else None) ≡ Some f → ⊥
no_source n true f none h = none-some f (sym (ap content_of none) ∙ h)
no_source n false f none h = none-some f h

no_tree_now : (image : Image) (p : Path) → image.node p ≡ None → tree_now image p ≡ None
no_tree_now image p none =
    λ n. if is_directory (none n) then Some (Folder (map (entry_under image p) (names_under image p))) else option_map File (bytes_of (none n))

-- what stands nowhere isn't touched
nothing_there : (before after : Image) (p : Path) → before.node p ≡ None → (after.node p ≡ before.node p) ⊎ IsTouchedAt before after p → after.node p ≡ None
nothing_there before after p none (inl same) = same ∙ none
nothing_there before after p none (inr t) = absurd (no_source (before.node p) (is_source before p) t.source none t.stood)

pub touched_starts_none : TouchedStartsNone
touched_starts_none act words w rules entry log again plan v outcome old new out_old out_new done is_plan tells touched good by met =
    none_started rules plan v [] end_there act again (met.has_log.of_run good w rules done.asked by).lawful.each again [] [] v (at_start rules plan v [] end_there) refl met.follows
  where
    reads : rules.read ≡ record_in
    reads = ap (λ (r : Rules). r.read) done.goes_by.rules_are

    done_end : IsAtEnd rules (is_done act words w rules entry log done).plan (run entry log) (had_begun act words w rules entry log done)
    done_end = at_end act words w rules entry log done

    complete : IsComplete (seen (run entry log))
    complete = seen_is_complete record_in (run entry log) done_end.formed

    last : LastPlan rules.flow (seen (run entry log)) rules.settings nothing_done [] (is_done act words w rules entry log done).plan
    last =
        subst (λ read. LastPlan rules.flow (images.seen read (run entry log)) rules.settings nothing_done [] (is_done act words w rules entry log done).plan) reads
        (chain_again rules.flow rules.settings (images.seen rules.read (run entry log)) (had_begun act words w rules entry log done)
        (seen_is_complete rules.read (run entry log) done_end.formed) done_end.unforced [] (is_done act words w rules entry log done).plan done_end.is_last)

    same : (is_done act words w rules entry log done).plan ≡ plan
    same = one_last_plan rules.flow (seen (run entry log)) rules.settings nothing_done [] (is_done act words w rules entry log done).plan plan complete last is_plan

    end : IsAtEnd rules plan (run entry log) (had_begun act words w rules entry log done)
    end = subst (λ (q : Plan). IsAtEnd rules q (run entry log) (had_begun act words w rules entry log done)) same done_end

    parts : IsPlan rules.flow (seen (run entry log)) rules.settings nothing_done plan × (new_listings (seen (run entry log)) rules.settings nothing_done plan ≡ [])
    parts = last_parts rules.flow (seen (run entry log)) rules.settings nothing_done [] plan is_plan

    was : WasDone rules.flow rules.settings (seen (run entry log)) plan []
    was =
        record {
          complete = complete;
          unforced = end.unforced;
          is_plan = parts.0;
          none_new = parts.1;
          listed = chain_listed rules.flow (seen (run entry log)) rules.settings [] plan complete (λ f files h. absurd (none-some files h)) is_plan;
          clean = end.clean;
        }

    -- ## The plan there

    is_image : seen v ≡ record (seen v) { names = (seen (run entry log)).names; kept = (seen (run entry log)).kept; marked = (seen (run entry log)).marked; noted = (seen (run entry log)).noted }
    is_image = λ n. record (seen v) { names = touched.names n; kept = touched.kept n; marked = touched.marked n; noted = touched.noted n }

    last_image : LastPlan rules.flow (seen v) rules.settings nothing_done [] plan
    last_image =
        subst (λ z. LastPlan rules.flow z rules.settings nothing_done [] plan) (sym is_image)
        (chain_touched rules.flow rules.settings (seen (run entry log)) plan [] was act (good_exit act words w rules entry log done).versions
        (good_exit act words w rules entry log done).sound.now tells (seen v) touched.nodes (subst IsComplete is_image (seen_is_complete record_in v good.sound.formed)) [] plan is_plan
        (λ f files h. absurd (none-some files h)))

    last_there : LastPlan rules.flow (images.seen rules.read v) rules.settings nothing_done [] plan
    last_there = subst (λ read. LastPlan rules.flow (images.seen read v) rules.settings nothing_done [] plan) (sym reads) last_image

    parts_there : IsPlan rules.flow (images.seen rules.read v) rules.settings nothing_done plan × (new_listings (images.seen rules.read v) rules.settings nothing_done plan ≡ [])
    parts_there = last_parts rules.flow (images.seen rules.read v) rules.settings nothing_done [] plan last_there

    none_spent :
        (p : Path) (e : Job × State) → IsIn (staged plan) e →
        is_spent (images.seen rules.read v) rules.settings nothing_done plan e p ≡ true → tree_now (images.seen rules.read v) p ≡ None
    none_spent p e i spent =
        let gone =
        end.none_spent p e i (sym (spent_same rules plan (run entry log) (had_begun act words w rules entry log done) end v e p) ∙ spent) in
        no_tree_now (images.seen rules.read v) p
        (nothing_there (seen (run entry log)) (seen v) p (no_tree ((seen (run entry log)).node p) _ gone) (touched.nodes p))

    end_there : IsAtEnd rules plan v []
    end_there =
        record {
          formed = good.sound.formed;
          tree = good.tree;
          no_child = good.sound.no_child;
          unforced = end.unforced;
          is_last = last_there;
          is_plan = parts_there.0;
          none_new = parts_there.1;
          clean = end.clean;
          none_spent = none_spent;
        }
