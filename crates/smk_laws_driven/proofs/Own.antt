-- The calls of a step in which a job begins, or is closed, are that job's own; and it is derived.
use Rattle.std.proofs.Common.{◌≡◌, ℕ, true, false, List, ◌∷◌, refl, sym, ap, subst, ◌∙◌, IsTrue}
use Rattle.smk_base.specs.Path.{is_path}
use Rattle.smk_world.specs.declared.event.Call.TheVariants.{Waited}
use Rattle.smk_world.specs.declared.event.Event.{Event}
use Rattle.smk_world.specs.declared.recipe.Recipe.{Recipe}
use Rattle.smk_world.specs.World.{World, after, child_numbered, out_paths, owned_by, owned_paths, run}
use Rattle.smk_world.specs.Calls.{Lets}
use Rattle.smk_world.specs.Runs.{Follows}
use Rattle.smk_world.specs.Trees.{Act, Each, IsIn, Path, is_path_text}
use Rattle.std.specs.Prelude.{Ok}
use Rattle.smk_flow.specs.declared.job.Job.{Job}
use Rattle.smk_store.specs.Soundness.{Outside, SoundWorld}
use Rattle.smk_store.specs.Trust.{SumsDiffer, Versions}
use Rattle.smk_job.specs.Jobs.{Underway}
use Rattle.smk_laws_plan.proofs.CurrentLists.{and_left, in_left}
use Rattle.smk_laws_protocol.specs.Protocol.{OpenJob, Running, eased, own}
use Rattle.smk_laws_protocol.specs.Midway.{Fits, IsTop, Midway}
use Rattle.smk_laws_protocol.proofs.Basics.{each_in, each_of}
use Rattle.smk_laws_protocol.proofs.Between as views
use Rattle.smk_laws_protocol.proofs.MidwayHolds.{holds_midway}
use Rattle.smk_laws_protocol.proofs.ProtocolHolds.{reached}
use Rattle.smk_run.specs.declared.ending.Ending.{Ending as End}
use Rattle.smk_run.specs.declared.ending.Ending.TheVariants as run_ending
use Rattle.smk_run.specs.Closings.{wait_event}
use Rattle.smk_drive.specs.Moments.{Begun, Rules}
use Rattle.smk_drive_course.specs.Stands.{Stand, lists}
use Rattle.smk_drive_course.specs.Steps.{Deed, HasBegun, HasClosed, guards_of}
use Rattle.smk_laws_moments.specs.Opened.{IsOpen, opened}
use Rattle.smk_laws_turns.specs.Leaving.{AreOwnCalls}
use Rattle.smk_laws_moments.specs.Staying.{IsDerivedStill, derived_by}
use Rattle.smk_laws_turns.specs.Following.{IsReached}
use Rattle.smk_laws_driven.proofs.OwnCalls.{begin_own, close_own, looks_own, own_more, tend_own}
use Rattle.smk_laws_driven.proofs.Waiting.{owned_is}

guards_inside : (j : Job) (how : End) (p : Path) → IsIn (guards_of j how) p → IsIn j.guards p
guards_inside j run_ending.Good p i = i
guards_inside j (run_ending.Status n) p i = absurd i
guards_inside j (run_ending.NoOutput q) p i = absurd i
guards_inside j (run_ending.WrongKind q) p i = absurd i
guards_inside j (run_ending.BadMember q) p i = absurd i

pub begin_calls :
    (rules : Rules) (entry w : World) (s t : Stand) (before es : List Event) (deeds : List Deed) → (h : HasBegun rules entry s w before es deeds t) →
    AreOwnCalls h.job.0 w es
begin_calls rules entry w s t before es deeds h =
    subst (AreOwnCalls h.job.0 w) (sym h.events)
    (own_more h.job.0 w h.reads h.beginning (looks_own h.job.0 false w h.reads h.only_read) (begin_own h.job.0 _ (run w h.reads) h.beginning h.calls))

module _ (act : Act) (rules : Rules) (entry : World) (H : Versions) (top : ℕ) (differ : SumsDiffer H)
    (sound : SoundWorld (record { read = rules.read; act = act }) entry H) (is_top : IsTop (record { read = rules.read; act = act }) entry top)
    (before : List Event) (s : Stand) (at : IsReached (record { read = rules.read; act = act }) rules entry top before s)
    (es : List Event) (deeds : List Deed) (t : Stand) (h : HasClosed rules entry s (run entry before) before es deeds t)
    (follows : Follows act (run entry before) es) where
  abbrev o : Outside
  o = record { read = rules.read; act = act }

  abbrev w : World
  w = run entry before

  here : Midway o entry H at.state w
  here = holds_midway o entry H top before at.state differ sound is_top at.come.follows at.come.runs

  there : views.Midway o entry H at.state w
  there = reached o entry H differ sound top before at.state is_top at.come.follows at.come.runs

  abbrev g : Underway
  g = h.going

  abbrev wait : Event
  wait = wait_event h.ended h.left

  its : IsOpen s at.state.jobs g
  its = each_in (IsOpen s at.state.jobs) s.runs g at.is_state.running h.waited.ran

  abbrev still : IsDerivedStill rules entry s g
  still = each_in (IsDerivedStill rules entry s) s.runs g at.derived.running h.waited.ran

  abbrev pub closed_job : Job
  closed_job = still.begun.job

  abbrev mine : OpenJob
  mine = opened g its.kept (Running g.number)

  fits : Fits o entry (eased at.state) at.state.top w mine
  fits = each_in (Fits o entry (eased at.state) at.state.top w) at.state.jobs mine here.fits its.is_open

  lets : Lets act w (Waited (Ok h.ended)) h.left
  lets = (subst (Follows act w) h.events follows).0.lets

  -- the job is derived
  pub closed_in : IsIn (derived_by rules entry (lists s)) closed_job
  closed_in = still.derived

  owned_same : owned_paths mine.recipe mine.logs ≡ owned_paths closed_job.recipe closed_job.logs
  owned_same = λ i. owned_paths (sym still.recipe i) (sym still.logs i)

  out_are_paths : Each (λ p. is_path p ≡ true) (out_paths closed_job.recipe)
  out_are_paths =
      subst (λ (r : Recipe). Each (λ p. is_path p ≡ true) (out_paths r)) (sym still.recipe)
      (each_of (λ p. is_path p ≡ true) (out_paths g.recipe) (λ p i.
      and_left (is_path p) _ (each_in (λ p. IsTrue (is_path_text p)) (own mine) p fits.paths (in_left p (out_paths g.recipe) g.logs i))))

  wait_own : owned_by h.ended.number w.children ≡ owned_paths closed_job.recipe closed_job.logs
  wait_own =
      ap (λ n. owned_by n w.children) h.waited.number
      ∙ (owned_is o entry w H at.state here there mine g.number its.is_open refl lets.0 (ap (λ n. child_numbered n w.children) (sym h.waited.number) ∙ lets.1)
      ∙ owned_same)

  -- so are the calls until it is closed
  pub closing_calls : AreOwnCalls closed_job w (wait ∷ h.closing)
  closing_calls = (
    wait_own,
    close_own closed_job g out_are_paths still.recipe still.logs h.how h.ended.status (after w wait) (after w wait) h.closing h.closed,
  )

  -- and all of them
  pub closed_calls : AreOwnCalls closed_job w es
  closed_calls =
      subst (AreOwnCalls closed_job w) (sym h.events)
      (own_more closed_job w (wait ∷ h.closing) h.tending closing_calls
      (tend_own closed_job (guards_of h.begun.job h.how) h.answer (run w (wait ∷ h.closing)) h.tending
      (λ p i. subst (λ (r : Recipe). IsIn (out_paths r) p) (h.is_job.1 ∙ sym still.recipe)
      (each_in (IsIn (out_paths h.begun.job.recipe)) h.begun.job.guards p
      (each_in (λ (b : Begun). Each (IsIn (out_paths b.job.recipe)) b.job.guards) s.begun h.begun at.guards h.is_job.0)
      (guards_inside h.begun.job h.how p i)))
      h.tended))
