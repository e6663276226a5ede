-- Where all jobs that are due are done, all jobs are Clean at the exit.
use Rattle.std.proofs.Common.{◌≡◌, inl, inr, ℕ, suc, true, false, ◌&&◌, not, List, [], ◌∷◌, map, filter, zip, find, length, refl, ap, sym, subst, ◌∙◌, Option, Some, None, arith, true≢false}
use Rattle.std.specs.Prelude.{is_none}
use Rattle.smk_run.proofs.Running.{done_closed}
use Rattle.smk_laws_protocol.proofs.Chains.{map_same}
use Rattle.smk_base.specs.Path.{is_under}
use Rattle.smk_world.specs.declared.event.Event.{Event}
use Rattle.smk_world.specs.World.{World, run, out_paths}
use Rattle.smk_world.specs.Trees.{Path, Each, IsIn, folder_over, kind_in}
use Rattle.smk_pattern.proofs.Names.{numbered_all}
use Rattle.smk_flow.specs.declared.job.Job.{Job}
use Rattle.smk_flow.specs.Flows.{Flow}
use Rattle.smk_store.specs.Images.{Image, is_source, is_whole}
use Rattle.smk_store.specs.Soundness.{Outside}
use Rattle.smk_store.specs.Trust.{Versions}
use Rattle.smk_chain.specs.declared.jobs.Known.{Known}
use Rattle.smk_chain.specs.Derive.{job, listing, sources_of}
use Rattle.smk_laws_protocol.specs.Protocol.{now}
use Rattle.smk_laws_protocol.proofs.Basics.{each_in, each_of, none_by}
use Rattle.smk_trigger.specs.declared.reason.State.{State}
use Rattle.smk_trigger.specs.declared.reason.State.TheVariants.{Open, Dirty, Restore, Clean}
use Rattle.smk_trigger.specs.JobStates.{is_clean, is_to_run}
use Rattle.smk_pick.specs.declared.settings.Force.TheVariants.{No}
use Rattle.smk_pick.specs.declared.settings.Settings.{Settings}
use Rattle.smk_plan.specs.States.{Plan, IsPlan, LastPlan, Last, files_listed, new_listings, is_current, is_ready, is_to_restore, is_wanted_back, is_whole_by, maker_of, nothing_done, stands_whole, state_of, test_some}
use Rattle.smk_laws_plan.proofs.CurrentApart.{maker_found}
use Rattle.smk_laws_history.proofs.CurrentEased.{none_restored}
use Rattle.smk_laws_plan.proofs.CurrentFills.{bound_fills_from}
use Rattle.smk_laws_plan.proofs.CurrentLists.{or_first, or_second}
use Rattle.smk_laws_plan.proofs.CurrentMeaning.{source_chosen}
use Rattle.smk_laws_plan.proofs.CurrentProducts.{in_plan_here, target_reached}
use Rattle.smk_laws_plan.proofs.CurrentReach.{choice_known}
use Rattle.smk_laws_plan.proofs.PlanOne.{chosen_makes, derived_apart}
use Rattle.smk_plan.specs.declared.duty.Duty.{Duty}
use Rattle.smk_plan.specs.declared.duty.Duty.TheVariants.{Rest, Restore as Again, Run}
use Rattle.smk_run.specs.Duties.{Due, due, due_from, serial_of}
use Rattle.smk_run.specs.Runs.{AreInOrder}
use Rattle.smk_run.specs.Turns.{Turn, is_closed, is_done}
use Rattle.smk_plan_duties.specs.Meaning.{IsMeant, AreMeant}
use Rattle.smk_safe.specs.Planned.{IsPlain}
use Rattle.smk_safe.proofs.Images.{source_of_both}
use Rattle.smk_safe.proofs.Planned as by_plan
use Rattle.smk_safe.specs.Exit.{AreAllDone, IsDueRun, RunLeavesAllClean, all_clean, begun_so}
use Rattle.smk_safe.proofs.Left as at_exit
use Rattle.smk_safe.proofs.Base as base
use Rattle.smk_safe.proofs.Table as table

abbrev listed_by : Image → Path → Known
listed_by image d = record { folder = d; files = files_listed image d }

-- ## Each job that is to run has its turn

-- the job of the duty's state has its turn, and so do those of the rest
due_turn : (image : Image) (serial : ℕ → Option ℕ) (cores n : ℕ) (jobs : List Job) (states : List State) (duties : List Duty) (ts : List Turn) → AreMeant image jobs states duties
    → AreInOrder cores (due_from serial n duties jobs) ts → length ts ≡ length (due_from serial n duties jobs) → (e : Job × State) → IsIn (zip jobs states) e → is_to_run e.1 ≡ true
    → (t : Turn) × IsIn ts t × (t.job ≡ e.0)
due_turn image serial cores n [] states duties ts meant order count e i run = absurd i
due_turn image serial cores n (j ∷ jobs) [] duties ts meant order count e i run = absurd i
due_turn image serial cores n (j ∷ jobs) (s ∷ states) [] ts meant order count e i run = absurd meant
due_turn image serial cores n (j ∷ jobs) (s ∷ states) (d ∷ duties) ts meant order count e i run =
    step s d meant.0 ts order count i (λ us h c k. due_turn image serial cores (suc n) jobs states duties us meant.1 h c e k run)
  where
    more : List Due
    more = due_from serial (suc n) duties jobs

    Goes : List Turn → Type 0
    Goes us = (t : Turn) × IsIn us t × (t.job ≡ e.0)

    Later : Type 0
    Later = (us : List Turn) → AreInOrder cores more us → length us ≡ length more → IsIn (zip jobs states) e → Goes us

    -- with a turn
    turned : (s : State) (us : List Turn) (due_job : Due) → due_job.job ≡ j → AreInOrder cores (due_job ∷ more) us → length us ≡ length (due_job ∷ more) → IsIn ((j, s) ∷ zip jobs states) e → Later → Goes us
    turned s [] due_job is h c k again = absurd (omega (arith, c))
    turned s (t ∷ us) due_job is h c (inl same) again = (t, inl refl, h.0 ∙ is ∙ sym (ap (λ (x : Job × State). x.0) same))
    turned s (t ∷ us) due_job is h c (inr k) again = let r = again us h.4 (omega (arith, c)) k in (r.0, inr r.1, r.2)

    -- without one
    rested : (s : State) (us : List Turn) → is_to_run s ≡ false → AreInOrder cores more us → length us ≡ length more → IsIn ((j, s) ∷ zip jobs states) e → Later → Goes us
    rested s us rests h c (inl same) again = absurd (true≢false (sym run ∙ ap (λ (x : Job × State). is_to_run x.1) same ∙ rests))
    rested s us rests h c (inr k) again = again us h c k

    step : (s : State) (d : Duty) → IsMeant image j s d → (us : List Turn) → AreInOrder cores (due_from serial n (d ∷ duties) (j ∷ jobs)) us → length us ≡ length (due_from serial n (d ∷ duties) (j ∷ jobs))
        → IsIn ((j, s) ∷ zip jobs states) e → Later → Goes us
    step Open (Rest m) is us h c k again = rested Open us refl h c k again
    step Clean (Rest m) is us h c k again = rested Clean us refl h c k again
    step (Dirty rs) (Rest m) is us h c k again = cc
    step Restore (Rest m) (x, kept, is) us h c k again = cc
    step s (Again m) is us h c k again = turned s us (record { job = j; serial = serial n }) refl h c k again
    step s Run is us h c k again = turned s us (record { job = j; serial = serial n }) refl h c k again

-- ## The exit

module _ (o : Outside) (entry : World) (H : Versions) (flow : Flow) (settings : Settings) (plan : Plan) (ts : List Turn) (es : List Event) (ran : IsDueRun o entry H flow settings plan ts es)
    (free : settings.force ≡ No) (all_done : AreAllDone (length (due (Some (suc ran.top)) ran.duties plan.jobs)) ts) (begun : List Path) where
  abbrev before : Image
  before = now o entry

  abbrev after_run : Image
  after_run = now o (run entry es)

  abbrev st : Job → State
  st j = state_of before settings nothing_done plan j

  closed_all : Each (λ (t : Turn). is_closed t.course ≡ true) ts
  closed_all = each_of (λ (t : Turn). is_closed t.course ≡ true) ts (λ t i. done_closed t.course (each_in (λ (u : Turn). is_done u.course ≡ true) ts t all_done.done i))

  left_none : (p : Path) → table.left after_run settings plan begun ran.plain free p ≡ false
  left_none p = none_restored after_run settings (begun_so begun) (all_clean plan) refl p

  turn_of : (k : Job) → IsIn plan.jobs k → is_to_run (st k) ≡ true → (t : Turn) × IsIn ts t × (t.job ≡ k) × (is_done t.course ≡ true)
  turn_of k i run =
      let t =
      due_turn before (serial_of (Some (suc ran.top)) ran.duties) ran.cores 0 plan.jobs plan.states ran.duties ts ran.meant ran.in_order all_done.all (k, st k)
      (subst (λ ss. IsIn (zip plan.jobs ss) (k, st k)) (sym ran.planned.states) (by_plan.zip_at st plan.jobs k i)) run in
      (t.0, t.1, t.2, each_in (λ (u : Turn). is_done u.course ≡ true) ts t.0 all_done.done t.1)

  own_clean : (j : Job) → IsIn plan.jobs j → table.own_of after_run settings plan begun ran.plain free j ≡ []
  own_clean j ij = base.own_clean o entry H flow settings plan ts es ran closed_all (λ p. table.left after_run settings plan begun ran.plain free p) left_none j ij (turn_of j ij) (λ q iq k h. turn_of k h.0)

  restored_none : (j : Job) → IsIn plan.jobs j → is_to_restore after_run settings (begun_so begun) (all_clean plan) j ≡ false
  restored_none j ij =
      none_by (λ p. not (is_whole after_run p (kind_in j.recipe p)) && is_wanted_back after_run settings (begun_so begun) (all_clean plan) j p) (out_paths j.recipe) (λ p ip.
      base.not_restored o entry H flow settings plan ts es ran closed_all (λ p. table.left after_run settings plan begun ran.plain free p) left_none j p (is_wanted_back after_run settings (begun_so begun) (all_clean plan) j p) ij (turn_of j ij) ip
      (table.wanted_before after_run settings plan begun ran.plain free before nothing_done st ran.planned.states j p))

  -- ## The plan of the exit

  pub planned : IsPlan flow after_run settings (begun_so begun) (all_clean plan)
  planned = record {
    derived = at_exit.derived_after o entry H flow settings plan ts es ran closed_all;
    states = map_same (λ j. Clean) (λ j. state_of after_run settings (begun_so begun) (all_clean plan) j) plan.jobs
        (λ j ij. sym (table.state_clean after_run settings plan begun ran.plain free j ij (own_clean j ij) (restored_none j ij)));
  }

  -- no listing becomes known
  none_new : new_listings after_run settings (begun_so begun) (all_clean plan) ≡ []
  none_new =
      ap (λ ds. map (listed_by after_run) (filter (λ d. is_ready after_run settings (begun_so begun) (all_clean plan) d && is_none (listing plan.lists d)) ds))
      (table.awaited_none (all_clean plan) (λ j. Clean) refl ran.plain after_run settings (begun_so begun))

  pub last : LastPlan flow after_run settings (begun_so begun) plan.lists (all_clean plan)
  last = Last (all_clean plan) planned none_new

  target_current : (p : Path) → IsIn settings.targets p → is_current after_run settings (begun_so begun) (all_clean plan) p ≡ true
  target_current p target =
      let reached = target_reached flow o.act (λ k. true) before (λ x t. None) settings nothing_done plan (bound_fills_from numbered_all) (by_plan.planned o entry flow settings plan (at_exit.made o entry H flow settings plan ts es ran) ran.top ts ran.sound.formed ran.is_top ran.planned ran.plain ran.fit (base.tells o entry H flow settings plan ts es ran closed_all (λ p. table.left after_run settings plan begun ran.plain free p) left_none)) p target in
      elim (choice_known flow (sources_of before) plan.lists 200 p reached.calm) [
        | inl e ↦
            or_first (is_source after_run p) _ (source_of_both before after_run p (at_exit.sources_stay o entry H flow settings plan ts es ran closed_all) (source_chosen flow (sources_of before) p e)).is_second
        | inr h ↦
            let k = job flow plan.lists h.0 in
            let ik = in_plan_here flow o.act (λ x. true) before (λ x t. None) settings nothing_done plan (bound_fills_from numbered_all) (by_plan.planned o entry flow settings plan (at_exit.made o entry H flow settings plan ts es ran) ran.top ts ran.sound.formed ran.is_top ran.planned ran.plain ran.fit (base.tells o entry H flow settings plan ts es ran closed_all (λ p. table.left after_run settings plan begun ran.plain free p) left_none)) 200 p h.0 reached h.1 in
            let m = chosen_makes flow before plan.lists settings.targets plan.jobs (at_exit.complete_before o entry H flow settings plan ts es ran) ran.planned.derived p h.0 h.1 in
            let found_it : maker_of (all_clean plan) p ≡ Some (k, Clean) =
            maker_found (λ (x : Job). Clean) plan.jobs k p (derived_apart flow before plan.lists settings.targets plan.jobs (at_exit.complete_before o entry H flow settings plan ts es ran) ran.planned.derived) ik m in
            let none : folder_over k.recipe p ≡ None = ap (find (is_under p)) (by_plan.no_folders k (each_in IsPlain plan.jobs k ran.plain ik)) in
            or_second (is_source after_run p) _
            (ap (test_some (λ (e : Job × State). is_clean e.1 && stands_whole after_run p e.0)) found_it
            ∙ (λ n. is_whole_by after_run p (base.kind_is o entry H flow settings plan ts es ran closed_all (λ p. table.left after_run settings plan begun ran.plain free p) left_none k p ik n) (none n)) ∙ base.target_whole o entry H flow settings plan ts es ran closed_all (λ p. table.left after_run settings plan begun ran.plain free p) left_none k p ik (turn_of k ik) target (by_plan.plain_makes k p (each_in IsPlain plan.jobs k ran.plain ik) m))
      ]

  pub current : Each (λ p. is_current after_run settings (begun_so begun) (all_clean plan) p ≡ true) settings.targets
  current = each_of (λ p. is_current after_run settings (begun_so begun) (all_clean plan) p ≡ true) settings.targets target_current

pub run_leaves_all_clean : RunLeavesAllClean
run_leaves_all_clean o entry H flow settings plan ts es ran free all_done = record {
  planned = λ begun. planned o entry H flow settings plan ts es ran free all_done begun;
  last = λ begun. last o entry H flow settings plan ts es ran free all_done begun;
  current = λ begun. current o entry H flow settings plan ts es ran free all_done begun;
}
