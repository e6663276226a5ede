-- Sources that were touched leave nothing to do: the plan is the same, and by it every job is Clean.
use Rattle.std.proofs.Common.{◌≡◌, true, ◌&&◌, ◌||◌, List, [], sym, subst, ◌∙◌}
use Rattle.std.proofs.lemmas.Option.{none-some}
use Rattle.smk_world.specs.World.{World}
use Rattle.smk_world.specs.Trees.{Each, Path}
use Rattle.smk_flow.specs.declared.job.Job.{Job}
use Rattle.smk_flow.specs.Flows.{Flow}
use Rattle.smk_store.specs.Images.{Image, seen}
use Rattle.smk_store.specs.Soundness.{Outside}
use Rattle.smk_store.specs.Trust.{Versions}
use Rattle.smk_trigger.specs.declared.reason.State.{State}
use Rattle.smk_trigger.specs.JobStates.{is_clean}
use Rattle.smk_pick.specs.declared.settings.Settings.{Settings}
use Rattle.smk_plan.specs.States.{LastPlan, is_current, maker_of, nothing_done, test_some}
use Rattle.smk_laws_plan.specs.Current.{IsComplete}
use Rattle.smk_laws_protocol.proofs.Basics.{each_on}
use Rattle.smk_laws_history.proofs.CurrentComplete.{seen_is_complete}
use Rattle.smk_words_reading.specs.declared.asked.RunWords.{RunWords}
use Rattle.smk_safe.specs.Exit.{begun_so}
use Rattle.smk_cli_target.specs.Thrift.{TellSums}
use Rattle.smk_cli_calls.specs.Serving.{settings_of}
use Rattle.smk_laws_edit.proofs.EditedChain.{WasDone}
use Rattle.smk_laws_edit.proofs.TouchedPlans.{chain_touched, known, stands_same}
use Rattle.smk_laws_driven.proofs.Leaving.{last_free}
use Rattle.smk_clean.specs.Again.{CallLeavesNone, HasNoneLeft}
use Rattle.smk_clean.specs.Safe.{CallIsSafe}
use Rattle.smk_clean.proofs.Again.{starts_nothing}
use Rattle.smk_laws_call.specs.Thrift.{HasRunWell, IsLeftTouched, TouchedCallStartsNothing, TouchedLeavesNone}
use Rattle.smk_laws_call.proofs.Done.{left, one_plan, sound, was_done}

module _ (none_left : CallLeavesNone) (safe : CallIsSafe) (o : Outside) (H : Versions) (words : RunWords) (w v x : World) (ran : HasRunWell o H words w v)
    (is : IsLeftTouched o words w v x) where
  abbrev was_left : HasNoneLeft o words w v
  was_left = left none_left safe o H words w v ran

  abbrev flow : Flow
  flow = was_left.asked.flow

  abbrev settings : Settings
  settings = settings_of was_left.asked words

  abbrev here : Image
  here = seen o.read v

  abbrev there : Image
  there = seen o.read x

  -- the folder is the one that was left, but for what stands at places
  abbrev y : Image
  y = record there { names = here.names; kept = here.kept; marked = here.marked; noted = here.noted }

  is_y : there ≡ y
  is_y = λ n. record there { names = is.touched.names n; kept = is.touched.kept n; marked = is.touched.marked n; noted = is.touched.noted n }

  complete_y : IsComplete y
  complete_y = subst IsComplete is_y (seen_is_complete o.read x is.formed)

  was : WasDone flow settings here was_left.plan []
  was = was_done none_left safe o H words w v ran []

  tells : TellSums here was_left.plan
  tells = subst (TellSums here) (sym (one_plan none_left safe o H words w v ran is.plan is.is_plan)) is.tells

  last : LastPlan flow there settings nothing_done [] was_left.plan
  last =
      subst (λ (z : Image). LastPlan flow z settings nothing_done [] was_left.plan) (sym is_y)
      (chain_touched flow settings here was_left.plan [] was o.act H (sound none_left safe o H words w v ran).now tells there is.touched.nodes complete_y []
      was_left.plan (was_left.last []) (λ f files h. absurd (none-some files h)))

  same_current :
      (begun : List Path) (p : Path) → is_current y settings (begun_so begun) was_left.plan p ≡ is_current here settings (begun_so begun) was_left.plan p
  same_current begun p =
      λ n.
      known flow settings here was_left.plan [] was o.act H (sound none_left safe o H words w v ran).now tells there is.touched.nodes complete_y p n
      || test_some (λ (e : Job × State).
      is_clean e.1
      && stands_same flow settings here was_left.plan [] was o.act H (sound none_left safe o H words w v ran).now tells there is.touched.nodes complete_y e.0 p n) (maker_of was_left.plan p)

  current : (begun : List Path) → Each (λ p. is_current there settings (begun_so begun) was_left.plan p ≡ true) was_left.asked.targets
  current begun =
      subst (λ (z : Image). Each (λ p. is_current z settings (begun_so begun) was_left.plan p ≡ true) was_left.asked.targets) (sym is_y)
      (each_on (λ p. is_current here settings (begun_so begun) was_left.plan p ≡ true) (λ p. is_current y settings (begun_so begun) was_left.plan p ≡ true)
      (λ p h. same_current begun p ∙ h) was_left.asked.targets (was_left.current begun))

  nothing_left : HasNoneLeft o words w x
  nothing_left =
      record {
        asked = was_left.asked;
        is_asked = was_left.is_asked;
        plan = was_left.plan;
        last = λ begun. last_free flow there settings ran.unforced [] begun [] was_left.plan last;
        clean = was_left.clean;
        current = current;
      }

pub touched_leaves_none : CallLeavesNone → CallIsSafe → TouchedLeavesNone
touched_leaves_none none_left safe o H words w v x ran is = nothing_left none_left safe o H words w v x ran is

pub touched_starts_nothing : CallLeavesNone → CallIsSafe → TouchedCallStartsNothing
touched_starts_nothing none_left safe o H words w v x ran is same next =
    starts_nothing o words w x is.formed (nothing_left none_left safe o H words w v x ran is) same ran.reads next.served.answer next.old next.new next.out_old
    next.out_new next.begins next.served.serves
