-- A run in which no job failed and none is forced leaves nothing to do.
use Rattle.std.proofs.Common.{◌≡◌, ℕ, Bool, true, false, ◌&&◌, List, [], ◌++◌, map, refl, sym, ap, subst, ◌∙◌, Option, Some, None, Ok, inl, inr, IsTrue}
use Rattle.std.specs.List.{list_all}
use Rattle.smk_world.specs.declared.event.Event.{Event}
use Rattle.smk_world.specs.World.{World, IsFormed, run}
use Rattle.smk_world.specs.Runs.{Follows}
use Rattle.smk_world.specs.Trees.{IsIn, Path}
use Rattle.smk_record.specs.declared.record.Record.{Record}
use Rattle.smk_record.specs.Spelling.{ReadsRecords}
use Rattle.smk_store.specs.Images as images
use Rattle.smk_store.specs.Soundness.{Outside, SoundWorld}
use Rattle.smk_store.specs.Trust.{SumsDiffer, Versions}
use Rattle.smk_flow.specs.declared.job.Job.{Job}
use Rattle.smk_flow.specs.Flows.{Flow}
use Rattle.smk_chain.specs.Derive.{Listings}
use Rattle.smk_trigger.specs.declared.reason.State.TheVariants.{Clean}
use Rattle.smk_trigger.specs.JobStates.{is_clean}
use Rattle.smk_pick.specs.declared.settings.Force.TheVariants.{No}
use Rattle.smk_pick.specs.declared.settings.Settings.{Settings}
use Rattle.smk_plan.specs.States.{IsPlan, Last, LastPlan, Plan, Progress, Then, is_current, new_listings, state_of, test_some}
use Rattle.smk_laws_history.proofs.CurrentComplete.{seen_is_complete}
use Rattle.smk_laws_complete.proofs.Chains.{chains_end}
use Rattle.smk_laws_protocol.proofs.Basics.{each_of}
use Rattle.smk_safe.specs.Exit.{begun_so}
use Rattle.smk_laws_edit.specs.Leaving.{IsDone, StaysDone}
use Rattle.smk_laws_edit.proofs.Leaving.{done_stays_done}
use Rattle.smk_drive.specs.Moments.{IsInForce, Rules, progress_of, seen}
use Rattle.smk_drive_course.specs.declared.ending.End.{End}
use Rattle.smk_drive_course.specs.Stands.{IsClear, Stand}
use Rattle.smk_drive_course.specs.Steps.{Deed}
use Rattle.smk_drive_course.specs.Driven.{IsRun, are_clean}
use Rattle.smk_laws_driven.specs.Ended.{LeavesNone}
use Rattle.smk_laws_driven.proofs.Ending as ending
use Rattle.smk_laws_driven.proofs.Unforced.{all_clean, plan_free}

-- at a clear stand a plan is in force
pub clear_plan :
    (rules : Rules) (s : Stand) (w : World) (events : List Event) → IsFormed w → IsClear rules s w events → (plan : Plan) × (s.plan ≡ Some plan)
clear_plan rules s w events formed clear = go s.plan refl
  where
    go : (plan : Option Plan) → s.plan ≡ plan → (plan : Plan) × (s.plan ≡ Some plan)
    go (Some plan) is = (plan, is)
    go None is = elim (chains_end rules (seen rules w) (progress_of w s.begun) s.from (seen_is_complete rules.read w formed)) [
      | inl (f, refused) ↦ absurd (clear.unrefused f refused)
      | inr (plan, last) ↦ absurd (subst (IsInForce rules w s.begun s.from) is clear.planned plan last)
    ]

front_true : (a b : Bool) → (a && b) ≡ true → a ≡ true
front_true true b h = refl
front_true false b h = h

-- a last plan is one whichever jobs have begun
pub last_free :
    (flow : Flow) (image : images.Image) (settings : Settings) → settings.force ≡ No → (a b : List Path) (L : Listings) (plan : Plan) →
    LastPlan flow image settings (begun_so a) L plan → LastPlan flow image settings (begun_so b) L plan
last_free flow image settings free a b _ _ (Last plan is none) = Last plan (plan_free image settings plan free flow a b is) none
last_free flow image settings free a b _ _ (Then plan last is more rest) =
    Then plan last (plan_free image settings plan free flow a b is) more
    (last_free flow image settings free a b (plan.lists ++ new_listings image settings (begun_so a) plan) last rest)

module _ (o : Outside) (rules : Rules) (H : Versions) (w : World) (told : Option End) (end : End) (deeds : List Deed) (log : List Event)
    (reader : rules.read ≡ o.read) (reads : ReadsRecords o.read) (differ : SumsDiffer H) (sound : SoundWorld o w H) (follows : Follows o.act w log)
    (ran : IsRun rules told (Ok end) deeds w log) (at_end : SoundWorld o (run w log) H) (free : rules.settings.force ≡ No)
    (none : end.first ≡ None) where
  abbrev v : World
  v = run w log

  abbrev image : images.Image
  image = images.seen o.read v

  abbrev begun : List Path
  begun = (progress_of v ran.last.begun).begun

  in_force : (plan : Plan) × (ran.last.plan ≡ Some plan)
  in_force =
      let clear = ending.clear o rules H w told end deeds log reader reads differ sound follows ran at_end in
      clear_plan rules ran.last clear.there clear.events clear.formed clear.clear

  abbrev plan : Plan
  plan = in_force.0

  abbrev is : ran.last.plan ≡ Some plan
  is = in_force.1

  -- none of its jobs runs
  idle : progress_of v ran.last.begun ≡ begun_so begun
  idle = let rests = ending.rests o rules H w told end deeds log reader reads differ sound follows ran at_end in λ i. record { begun = begun; running = rests i }

  planned : IsPlan rules.flow image rules.settings (begun_so begun) plan
  planned =
      subst (λ (p : Progress). IsPlan rules.flow image rules.settings p plan) idle
      (ending.planned o rules H w told end deeds log reader reads differ sound follows ran at_end plan is)

  clean_states : list_all is_clean plan.states ≡ true
  clean_states =
      let well = ending.well o rules H w told end deeds log reader reads differ sound follows ran at_end in
      let failed = ending.none_failed o rules H w told end deeds log reader reads differ sound follows ran at_end none in
      front_true (list_all is_clean plan.states) true (subst (λ p. IsTrue (are_clean p)) is (well.clean failed).0)

  current : (p : Path) → IsIn rules.settings.targets p → is_current image rules.settings (begun_so begun) plan p ≡ true
  current p i =
      subst (λ (read : List ℕ → Option Record). is_current (images.seen read v) rules.settings (begun_so begun) plan p ≡ true) reader
      (subst
      (λ x. test_some (λ (plan : Plan). is_current (seen rules v) rules.settings (progress_of v ran.last.begun) plan p) x ≡ true) is
      (ending.all_current o rules H w told end deeds log reader reads differ sound follows ran at_end none p i))

  clean : plan.states ≡ map (λ (j : Job). Clean) plan.jobs
  clean =
      planned.states ∙ all_clean (state_of image rules.settings (begun_so begun) plan) plan.jobs (ap (list_all is_clean) (sym planned.states) ∙ clean_states)

  -- as if no job had begun
  done : IsDone rules.flow image rules.settings ran.last.from plan
  done =
      record {
        last = last_free rules.flow image rules.settings free begun [] ran.last.from plan
            (subst (λ (p : Progress). LastPlan rules.flow image rules.settings p ran.last.from plan) idle
            (ending.last o rules H w told end deeds log reader reads differ sound follows ran at_end plan is));
        clean = clean;
        listed = ending.awaited_recorded o rules H w told end deeds log reader reads differ sound follows ran at_end plan is;
      }

  -- so the chain that begins from no listing has nothing left either
  stays : StaysDone rules.flow image rules.settings plan
  stays = done_stays_done rules.flow image rules.settings ran.last.from plan (seen_is_complete o.read v at_end.formed) free done

  pub leaves_none : LeavesNone o rules v
  leaves_none =
      record {
        plan = stays.next;
        last = λ others. last_free rules.flow image rules.settings free [] others [] stays.next stays.last;
        clean = stays.clean;
        current = λ others.
            each_of (λ p. is_current image rules.settings (begun_so others) stays.next p ≡ true) rules.settings.targets
            (λ p i. stays.current p i (current p i));
      }
