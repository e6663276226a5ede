-- The folder that a run left which ended without a fault: it is sound, and by its last plan no job has anything to do.
use Rattle.std.proofs.Common.{◌≡◌, List, [], ◌∷◌, map, refl, sym, subst, None, IsTrue}
use Rattle.std.proofs.lemmas.Option.{none-some}
use Rattle.smk_world.specs.Folders.{IsTree}
use Rattle.smk_world.specs.World.{World}
use Rattle.smk_world.specs.Trees.{Each, Path}
use Rattle.smk_flow.specs.declared.job.Job.{Job}
use Rattle.smk_store.specs.Images.{Image, seen}
use Rattle.smk_store.specs.Soundness.{Outside, SoundWorld}
use Rattle.smk_store.specs.Trust.{Versions}
use Rattle.smk_trigger.specs.declared.reason.State.TheVariants.{Clean}
use Rattle.smk_trigger.specs.declared.reason.State.{State}
use Rattle.smk_trigger.specs.JobStates.{is_clean}
use Rattle.smk_pick.specs.declared.settings.Settings.{Settings}
use Rattle.smk_plan.specs.States.{IsPlan, LastPlan, Plan, new_listings, nothing_done}
use Rattle.smk_laws_plan.specs.Current.{IsComplete}
use Rattle.smk_laws_plan.proofs.PlanOne.{one_last_plan}
use Rattle.smk_laws_history.proofs.CurrentComplete.{seen_is_complete}
use Rattle.smk_words_reading.specs.declared.asked.Asked.TheVariants.{Run}
use Rattle.smk_words_reading.specs.declared.asked.RunWords.{RunWords}
use Rattle.smk_cli_target.proofs.NextRun.{last_parts}
use Rattle.smk_cli_entry.specs.declared.asking.Asked.{Asked}
use Rattle.smk_cli_calls.specs.Serving.{settings_of}
use Rattle.smk_laws_edit.proofs.AnyPlan.{chain_listed}
use Rattle.smk_laws_edit.proofs.EditedChain.{WasDone}
use Rattle.smk_clean.specs.Again.{CallLeavesNone, HasNoneLeft}
use Rattle.smk_clean.specs.Safe.{CallIsSafe}
use Rattle.smk_clean.proofs.Asking.{asked_same}
use Rattle.smk_clean.proofs.Safe.{no_fault}
use Rattle.smk_laws_call.specs.Thrift.{HasRunWell, IsPlanIn}
use Rattle.smk_laws_call.proofs.Trees.{tree_left}

each_clean : (js : List Job) → Each (λ (s : State). IsTrue (is_clean s)) (map (λ (j : Job). Clean) js)
each_clean [] = tt
each_clean (j ∷ js) = (refl, each_clean js)

module _ (none_left : CallLeavesNone) (safe : CallIsSafe) (o : Outside) (H : Versions) (words : RunWords) (w v : World) (ran : HasRunWell o H words w v) where
  pub left : HasNoneLeft o words w v
  left =
      none_left o H words None w v ran.old ran.new ran.out_old ran.out_new ran.begins ran.ends ran.reads ran.differ ran.sound ran.unforced ran.served
      refl

  pub sound : SoundWorld o v H
  sound =
      (safe o H (Run words) None w v ran.old ran.new ran.out_old ran.out_new ran.begins ran.ends ran.reads ran.differ ran.sound ran.served).4 refl

  -- what stands in it stands in folders
  pub tree : IsTree v
  tree =
      let a = no_fault ran.served.answer None ran.served.told_is refl in
      tree_left o ran.reads words H w ran.differ ran.sound a.0 ran.served.answer v ran.old ran.new ran.out_old ran.out_new ran.begins ran.ends a.1
      ran.served.serves

  abbrev here : Image
  here = seen o.read v

  abbrev settings : Settings
  settings = settings_of left.asked words

  complete : IsComplete here
  complete = seen_is_complete o.read v sound.formed

  parts : IsPlan left.asked.flow here settings nothing_done left.plan × (new_listings here settings nothing_done left.plan ≡ [])
  parts = last_parts left.asked.flow here settings nothing_done [] left.plan (left.last [])

  -- whichever path it is beside which another folder is looked at
  pub was_done : (p : Path) → WasDone left.asked.flow settings here left.plan p
  was_done p =
      record {
        complete = complete;
        unforced = ran.unforced;
        is_plan = parts.0;
        none_new = parts.1;
        listed = chain_listed left.asked.flow here settings [] left.plan complete (λ f files h. absurd (none-some files h)) (left.last []);
        clean = subst (Each (λ (s : State). IsTrue (is_clean s))) (sym left.clean) (each_clean left.plan.jobs);
      }

  -- its last plan for what was asked is one
  pub one_plan : (plan : Plan) → IsPlanIn o words w v plan → left.plan ≡ plan
  one_plan plan is =
      one_last_plan left.asked.flow here settings nothing_done [] left.plan plan complete (left.last [])
      (subst (λ (a : Asked). LastPlan a.flow here (settings_of a words) nothing_done [] plan) (asked_same words w.nodes is.asked left.asked is.is_asked left.is_asked) is.last)
