-- The job that is next has begun: what is kept then, where nothing is refused of the plan.
use Rattle.std.proofs.Common.{◌≡◌, ◌≤◌, ◌+◌, ◌^◌, ℕ, Bool, true, false, not, List, [], ◌∷◌, ◌++◌, map, filter, length, refl, sym, ap, subst, ◌∙◌, nat_eq, Some, None, Ok}
use Rattle.std.specs.List.Sorted.{IsPermutation}
use Rattle.std.proofs.lemmas.List.Sorted.{IsPermutation-append_left, IsPermutation-sym, IsPermutation-trans}
use Rattle.smk_base.specs.declared.tree.Amount.{Amount}
use Rattle.smk_world.specs.declared.event.Event.{Event}
use Rattle.smk_world.specs.World.{World, run}
use Rattle.smk_world.specs.Calls.{HasOwners}
use Rattle.smk_world.specs.Runs.{Follows}
use Rattle.smk_world.specs.Trees.{Act, Each, among, is_path_text}
use Rattle.smk_record.specs.declared.record.Stamp.{Stamp}
use Rattle.smk_flow.specs.declared.job.Job.{Job}
use Rattle.smk_format.specs.Commands.{command as format_command}
use Rattle.smk_trigger.specs.JobStates.{is_restore}
use Rattle.smk_pick.specs.declared.room.Ask.{Ask}
use Rattle.smk_pick.specs.Shares.{Holds}
use Rattle.smk_plan.specs.States.{Plan, job_path, test_some}
use Rattle.smk_report.specs.Lines.{Text}
use Rattle.smk_job.specs.Jobs.{Underway}
use Rattle.smk_drive.specs.Moments.{Begun, Rules, begun_of, greatest, progress_of, runs, seen}
use Rattle.smk_drive.specs.Moments.{draws as draws_of}
use Rattle.smk_drive.specs.Lawful.{ask_of, has_failed, running_jobs}
use Rattle.smk_plan_live.specs.declared.base.Base.{Base}
use Rattle.smk_plan_live.specs.Carried.{begun}
use Rattle.smk_plan_live.specs.Lives.{IsAgreed}
use Rattle.smk_plan_live.specs.Lives.{progress_of as kept_progress}
use Rattle.smk_drive_pick.specs.Picking.{AreAlike}
use Rattle.smk_drive_step.specs.declared.children.Child.{Child}
use Rattle.smk_drive_step.specs.Beginning.{HasReadAndBegun}
use Rattle.smk_drive_step.specs.Crews.{IsPutFor}
use Rattle.smk_drive_course.specs.Stands.{IsClear, Stand, moment_of, with_job}
use Rattle.smk_drive_course.specs.Steps.{Deed}
use Rattle.smk_laws_turns.specs.Hubs.{AreOnce, AreOpen, IsAt, IsKept, Parts, asks_in, child_of, if_fits, plan_of}
use Rattle.smk_laws_turns.specs.Begun.{BeginDiffers}
use Rattle.smk_laws_begins.specs.Fitting.{IsFit, next_after, serial_of}
use Rattle.smk_laws_begins.specs.Begins.{MayTake}
use Rattle.smk_laws_begins.proofs.Began as began
use Rattle.smk_laws_begins.proofs.Beside.{failed_same, map_end, once_more, open_more, running_now}
use Rattle.smk_laws_begins.proofs.Picked.{holds_moved, kept}
use Rattle.smk_laws_begins.proofs.Places.{asks_more, count_by, next_drawn, next_same, reach_drawn, reach_still, running_more}
use Rattle.smk_laws_begins.proofs.Serial.{drawn, fits_is}
use Rattle.smk_laws_begins.proofs.ToBegin.{IsTaken, planned}

module _ (begin_differs : BeginDiffers) (act : Act) (rules : Rules) (entry : World) (h : Parts) (s : Stand) (w : World) (before : List Event) (deeds : List Deed) (number : ℕ)
    (at : IsAt rules entry h s w before deeds) (may : MayTake rules.settings h number)
    (j : Job) (known : List Stamp) (made : ℕ) (draws : Bool) (command : Text) (ask : Ask)
    (fit : IsFit rules.settings h number j known made draws command ask) (logged : Each (λ p. is_path_text p ≡ true) j.logs)
    (texts : rules.command ≡ format_command) (x : IsTaken rules entry h s w before deeds number at may j fit.is)
    (going : Underway) (es : List Event) (up : HasReadAndBegun j known made command going w es) (follows : Follows act w es) (owners : HasOwners w) where
  abbrev v : World
  v = run w es

  abbrev new : Begun
  new = begun_of rules entry (moment_of s w before) (j, x.state)

  abbrev u : Stand
  u = with_job new going s

  abbrev base1 : Base
  base1 = begun number x.state j h.live.base

  was : IsKept rules entry h s w before
  was = kept rules entry h s w before deeds number at may

  -- What is kept, and where the run stands, once the plan was told that the job has begun.
  pub record IsKeptThen (k : Parts) (t : Stand) (c : Child) (events : List Event) : Type 0 where
    pub number_is : c.job ≡ number
    pub ask_is : c.ask ≡ ask_of j
    pub placed : IsPutFor None (Some c) h.places k.places
    pub room : (cores : ℕ) (bounds : List Amount) (asks : List Ask) → Holds cores bounds h.room asks → Holds cores bounds k.room (asks ++ c.ask ∷ [])
    pub drawn : k.next ≡ next_after draws h.next
    pub failed : k.tally.failed ≡ h.tally.failed
    pub base : k.live.base ≡ base1
    pub none_known : k.live.plan.known ≡ []
    pub begun_same : t.begun ≡ u.begun
    pub plan : t.plan ≡ Some (plan_of k.live)
    pub clear : IsClear rules t v events

  module _ (children : v.children ≡ w.children ++ child_of going ∷ []) where
    unbegun : among (progress_of w s.begun).begun (job_path j) ≡ false
    unbegun = (planned rules entry h s w before deeds number at may j fit.is x).unbegun

    abbrev plan : Plan
    plan = (planned rules entry h s w before deeds number at may j fit.is x).plan

    recipe_is : going.recipe ≡ j.recipe
    recipe_is = began.recipe_is begin_differs act rules entry h s w before deeds number at may j known made draws command ask fit logged texts x going es up follows owners

    once : AreOnce u.begun
    once = once_more w v s.begun j x.state going new children recipe_is unbegun refl refl refl (seen rules w) rules.settings plan was.once

    open_still : AreOpen v u.begun
    open_still = open_more w v s.begun j x.state going new children recipe_is unbegun refl refl refl (seen rules w) rules.settings plan was.open_still

    -- ## Serials

    abbrev top : ℕ
    top = greatest rules (seen rules entry)

    abbrev count : ℕ
    count = length (filter (draws_of rules) s.begun)

    abbrev count1 : ℕ
    count1 = length (filter (draws_of rules) u.begun)

    draws_if : (c : Bool) → is_restore x.state ≡ c → draws ≡ not c
    draws_if c e = fit.draws_are ∙ ap not (ap (test_some is_restore) x.has_state ∙ e)

    -- the serial was drawn
    drew : is_restore x.state ≡ false → (h.next ≡ Some made) × (top + (1 + count) ≡ made)
    drew e =
        let is =
        drawn h.live h.next fit.name made (subst (λ d. serial_of h.live d h.next fit.name ≡ Ok made) (draws_if false e) fit.serial) in
        (is, fits_is (top + (1 + count)) made (sym was.serial ∙ is))

    next_is : next_after draws h.next ≡ if_fits (top + (1 + count1))
    next_is = go (is_restore x.state) refl
      where
        go : (c : Bool) → is_restore x.state ≡ c → next_after draws h.next ≡ if_fits (top + (1 + count1))
        go true e =
            ap (λ d. next_after d h.next) (draws_if true e)
            ∙ next_same top count count1 h.next (count_by (draws_of rules) s.begun new false (ap not e)) was.serial
        go false e =
            let one = drew e in
            ap (λ d. next_after d h.next) (draws_if false e)
            ∙ next_drawn top count count1 made h.next (count_by (draws_of rules) s.begun new true (ap not e)) one.1 one.0

    reach_is : top + (1 + count1) ≤ 2 ^ 64
    reach_is = go (is_restore x.state) refl
      where
        go : (c : Bool) → is_restore x.state ≡ c → top + (1 + count1) ≤ 2 ^ 64
        go true e = reach_still top count count1 (count_by (draws_of rules) s.begun new false (ap not e)) was.reach
        go false e = reach_drawn top count count1 made (count_by (draws_of rules) s.begun new true (ap not e)) (drew e).1 fit.fits

    -- ## The room

    running_is : (t : Stand) (events : List Event) → t.begun ≡ u.begun → running_jobs (moment_of t v events) ≡ running_jobs (moment_of s w before) ++ j ∷ []
    running_is t events same =
        ap (λ bs. map (λ (b : Begun). b.job) (filter (λ (b : Begun). runs v b.job) bs)) same
        ∙ (ap (map (λ (b : Begun). b.job))
        (running_now w v s.begun j x.state going new children recipe_is unbegun refl refl refl (seen rules w) rules.settings plan)
        ∙ map_end (λ (b : Begun). b.job) (filter (λ (b : Begun). runs w b.job) s.begun) new)

    asks_are :
        (t : Stand) (events : List Event) (k : Parts) (c : Child) → t.begun ≡ u.begun → c.ask ≡ ask_of j → IsPutFor None (Some c) h.places k.places →
        IsPermutation (asks_in k.places) (map ask_of (running_jobs (moment_of t v events)))
    asks_are t events k c same ask placed =
        let jobs = map ask_of (running_jobs (moment_of s w before)) in
        let all : map ask_of (running_jobs (moment_of t v events)) ≡ jobs ++ c.ask ∷ [] =
        ap (map ask_of) (running_is t events same)
        ∙ (map_end ask_of (running_jobs (moment_of s w before)) j ∙ ap (λ a. jobs ++ a ∷ []) (sym ask)) in
        subst (IsPermutation (asks_in k.places)) (sym all)
        (IsPermutation-trans (asks_in k.places) (asks_in h.places ++ c.ask ∷ []) (jobs ++ c.ask ∷ [])
        (IsPermutation-sym (asks_in h.places ++ c.ask ∷ []) (asks_in k.places) (asks_more h.places k.places c placed))
        (IsPermutation-append_left (c.ask ∷ []) (asks_in h.places) jobs was.asks))

    -- ## All that is kept

    pub kept_then : (k : Parts) (t : Stand) (c : Child) (events : List Event) → IsKeptThen k t c events → IsKept rules entry k t v events
    kept_then k t c events z =
        record {
          agrees = subst (IsAgreed (seen rules v) rules.settings) (sym z.base) (began.agrees_now begin_differs act rules entry h s w before deeds number at may j known made draws command ask fit logged texts x going es up follows owners children);
          progressed =
              subst (λ b. AreAlike (progress_of v t.begun) (kept_progress b)) (sym z.base)
              (subst (λ bs. AreAlike (progress_of v bs) (kept_progress base1)) (sym z.begun_same) (began.progressed_now begin_differs act rules entry h s w before deeds number at may j known made draws command ask fit logged texts x going es up follows owners children));
          plan = z.plan;
          none_known = z.none_known;
          serial = z.drawn ∙ (next_is ∙ ap (λ bs. if_fits (top + (1 + length (filter (draws_of rules) bs)))) (sym z.begun_same));
          reach = subst (λ bs. top + (1 + length (filter (draws_of rules) bs)) ≤ 2 ^ 64) (sym z.begun_same) reach_is;
          running = running_more h.live k.live h.places k.places c number z.placed z.number_is fit.waiting (ap (λ (b : Base). b.phases) z.base) was.running;
          room =
              holds_moved rules.settings.cores rules.settings.bounds k.room (asks_in h.places ++ c.ask ∷ []) (asks_in k.places)
              (asks_more h.places k.places c z.placed) (z.room rules.settings.cores rules.settings.bounds (asks_in h.places) was.room);
          once = subst AreOnce (sym z.begun_same) once;
          open_still = subst (AreOpen v) (sym z.begun_same) open_still;
          asks = asks_are t events k c z.begun_same z.ask_is z.placed;
          failing =
              ap (λ bs. has_failed (moment_of (record t { begun = bs }) v events)) z.begun_same
              ∙ (failed_same w v s.begun j x.state going new children recipe_is unbegun refl refl refl (seen rules w) rules.settings plan
              ∙ (was.failing ∙ ap (λ n. not (nat_eq n 0)) (sym z.failed)));
          clear = z.clear;
        }
