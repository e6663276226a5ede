-- The job that is next has begun, and what the run makes of it.
use Rattle.std.proofs.Common.{◌≡◌, ℕ, zip, Bool, true, false, List, [], ◌∷◌, ◌++◌, map, refl, sym, ap, subst, ◌∙◌, Some, None, Result, Ok}
use Rattle.std.specs.List.{slice_get}
use Rattle.std.proofs.lemmas.List.{append-nil}
use Rattle.smk_world.specs.declared.event.Event.{Event}
use Rattle.smk_world.specs.declared.recipe.Recipe.{Recipe}
use Rattle.smk_world.specs.World.{World, in_paths, numbers, run}
use Rattle.smk_world.specs.Calls.{HasOwners, started_numbers}
use Rattle.smk_world.specs.Runs.{Follows}
use Rattle.smk_world.specs.Trees.{Act, Each, IsIn, Path, is_path_text}
use Rattle.std.specs.Prelude.{Contains}
use Rattle.smk_record.specs.declared.record.Stamp.{Stamp}
use Rattle.smk_flow.specs.declared.job.Job.{Job}
use Rattle.smk_flow.specs.Flows.{Flow}
use Rattle.smk_pick.specs.declared.room.Ask.{Ask}
use Rattle.smk_pick.specs.declared.settings.Settings.{Settings}
use Rattle.smk_store.specs.Images.{Content, source_at}
use Rattle.smk_plan.specs.Summed.{has_other_time}
use Rattle.smk_report.specs.Lines.{Text}
use Rattle.smk_report.specs.declared.fault.Fault.{Fault}
use Rattle.smk_report.specs.declared.fault.Fault.TheVariants as fault
use Rattle.smk_job.specs.Jobs.{Underway, underway}
use Rattle.smk_run.specs.Runs.{AreWritable}
use Rattle.smk_run.specs.declared.tally.Tally.{Tally}
use Rattle.smk_drive.specs.Lawful.{ask_of}
use Rattle.smk_drive.specs.Moments.{Begun, Rules, begun_of, seen}
use Rattle.smk_plan_live.specs.declared.base.Base.{Base}
use Rattle.smk_plan_live.specs.Carried.{begun}
use Rattle.smk_drive_step.specs.declared.children.Child.{Child}
use Rattle.smk_drive_step.specs.declared.halt.Halt.{Halt}
use Rattle.smk_drive_step.specs.Beginning.{HasReadAndBegun}
use Rattle.smk_drive_course.specs.Stands.{GoesBy, IsReplanned, LacksMemory, Stand, moment_of, with_job}
use Rattle.smk_drive_course.specs.Stands as stands
use Rattle.smk_drive_course.specs.Steps.{Deed, HasBegun, Started}
use Rattle.smk_drive_course.specs.Breaks.{Begins}
use Rattle.smk_drive_first.specs.Opening.{AreRules}
use Rattle.smk_run.proofs.Calls.{EachCall}
use Rattle.smk_laws_moments.proofs.ChildrenOf.{step_children}
use Rattle.smk_laws_moments.proofs.QuietCalls.{IsQuiet, looks_quiet, quiet_number}
use Rattle.smk_laws_turns.specs.Going.{HasGoneTo}
use Rattle.smk_laws_turns.specs.Hubs.{IsAt, IsKept, IsRecordable, Parts, child_of, plan_of}
use Rattle.smk_laws_turns.specs.Turning.{HasLed}
use Rattle.smk_laws_turns.proofs.Going.{goes_on_from, rests_there}
use Rattle.smk_laws_turns.proofs.Turning.{beginning_leads}
use Rattle.smk_laws_turns.proofs.RoomToBegin.{room_begun}
use Rattle.smk_laws_turns.specs.Begun.{BeginDiffers}
use Rattle.smk_laws_turns.specs.Resting.{HasGoneBy, IsTold}
use Rattle.smk_laws_turns.proofs.Answered.{rest_goes_by}
use Rattle.smk_laws_turns.proofs.Rests.{any_is_replanned}
use Rattle.smk_laws_begins.specs.Fitting.{IsFit}
use Rattle.smk_laws_begins.specs.Noting.{HasNoted}
use Rattle.smk_laws_begins.specs.Begins.{MayTake}
use Rattle.smk_laws_begins.proofs.Began as began
use Rattle.smk_laws_begins.proofs.Beside.{map_end}
use Rattle.smk_laws_begins.proofs.Fresh.{number_in, number_is_new, stamps_are_timed}
use Rattle.smk_laws_begins.proofs.Gathers.{next_is_listed}
use Rattle.smk_laws_begins.proofs.Keeping.{kept_then}
use Rattle.smk_laws_begins.proofs.ToBegin.{IsTaken}

-- one step is steps
pub gone_one :
    (rules : Rules) (entry : World) (k : Parts) (s : Stand) (w : World) (before es : List Event) (deeds more : List Deed) →
    HasLed rules entry k s w before es deeds more → HasGoneTo rules entry k s w before es deeds more
gone_one rules entry k s w before es deeds more led =
    subst (λ ds. HasGoneTo rules entry k s w before es deeds ds) (append-nil more)
    (subst (λ xs. HasGoneTo rules entry k s w before xs deeds (more ++ [])) (append-nil es)
    (goes_on_from rules entry k k s w before es [] deeds more [] led
    (rests_there rules entry k led.stand (run w es) (before ++ es) (deeds ++ more) led.at)))

-- looks start no child
quiet_start : (es fs : List Event) → EachCall IsQuiet es → started_numbers (es ++ fs) ≡ started_numbers fs
quiet_start [] fs quiet = refl
quiet_start (e ∷ es) fs quiet = ap (λ ns. ns ++ started_numbers (es ++ fs)) (quiet_number e.call quiet.0) ∙ quiet_start es fs quiet.1

module _ (begin_differs : BeginDiffers) (act : Act) (rules : Rules) (entry : World) (h : Parts) (s : Stand) (w : World) (before : List Event) (deeds : List Deed) (number : ℕ)
    (at : IsAt rules entry h s w before deeds) (may : MayTake rules.settings h number)
    (j : Job) (known : List Stamp) (made : ℕ) (draws : Bool) (command : Text) (ask : Ask)
    (fit : IsFit rules.settings h number j known made draws command ask) (logged : Each (λ p. is_path_text p ≡ true) j.logs)
    (flow : Flow) (settings : Settings) (by : AreRules flow settings rules) (x : IsTaken rules entry h s w before deeds number at may j fit.is)
    (going : Underway) (es : List Event) (up : HasReadAndBegun j known made command going w es) (follows : Follows act w es) (owners : HasOwners w) where
  abbrev v : World
  v = run w es

  abbrev new : Begun
  new = begun_of rules entry (moment_of s w before) (j, x.state)

  abbrev pub u : Stand
  u = with_job new going s

  abbrev base1 : Base
  base1 = begun number x.state j h.live.base

  -- the step, by which the run goes so
  abbrev step : (next t : Stand) → IsReplanned rules u v next → GoesBy rules entry next v (before ++ es) t → HasBegun rules entry s w before es (Started j ∷ []) t
  step next t replanned goes =
      record {
        job = (j, x.state);
        going = going;
        reads = up.reads;
        beginning = up.beginning;
        next = next;
        is = up.is ∙ (λ i. underway j.recipe j.logs going.stamps (sym (began.made_is begin_differs act rules entry h s w before deeds number at may j known made draws command ask fit logged by.texts x going es up follows owners) i) going.number);
        to_begin = began.to_begin_now begin_differs act rules entry h s w before deeds number at may j known made draws command ask fit logged by.texts x going es up follows owners;
        events = up.events;
        only_read = up.read.only_read;
        calls = began.calls begin_differs act rules entry h s w before deeds number at may j known made draws command ask fit logged by.texts x going es up follows owners;
        started = up.started;
        deeds_are = refl;
        replanned = replanned;
        goes_by = goes;
      }

  children : v.children ≡ w.children ++ child_of going ∷ []
  children =
      let some = any_is_replanned rules v u (began.home begin_differs act rules entry h s w before deeds number at may j known made draws command ask fit logged by.texts x going es up follows owners).formed in
      let t = stands.halted_by fault.OutOfMemory some.next in
      step_children rules entry s t w before es (Started j ∷ []) (Begins (step some.next t some.replanned LacksMemory)) at.children
      ∙ (ap (map child_of) some.same.runs ∙ (map_end child_of s.runs going ∙ ap (λ cs. cs ++ child_of going ∷ []) (sym at.children)))

  -- ## The child

  same_recipe : going.recipe ≡ j.recipe
  same_recipe = ap (λ (g : Underway). g.recipe) up.is

  same_logs : going.logs ≡ j.logs
  same_logs = ap (λ (g : Underway). g.logs) up.is

  new_number : (g : Underway) → IsIn s.runs g → ¬ (g.number ≡ going.number)
  new_number g i = λ same.
      number_is_new act w es going.number follows started
      (subst (Contains (started_numbers w.log)) same
      (at.home.numbered g.number (subst (λ cs. Contains (numbers cs) g.number) (sym at.children) (number_in s.runs g i))))
    where
      started : started_numbers es ≡ going.number ∷ []
      started = ap started_numbers up.events ∙ (quiet_start up.reads up.beginning (looks_quiet false up.reads up.read.only_read) ∙ up.started)

  unbroken : s.broken ≡ false
  unbroken = go s.broken refl
    where
      go : (b : Bool) → s.broken ≡ b → b ≡ false
      go true e = absurd (at.faulted e (sym at.halted ∙ may.unhalted))
      go false e = refl

  abbrev IsTimed : Path × Stamp → Type 0
  IsTimed y = (f : Content) → source_at (seen rules entry) y.0 ≡ Some f → has_other_time y.1 f.time ≡ false

  recordable : IsRecordable (seen rules entry) going
  recordable =
      let to_begin = began.to_begin_now begin_differs act rules entry h s w before deeds number at may j known made draws command ask fit logged by.texts x going es up follows owners in
      record {
        stamped =
            subst (λ (r : Recipe). Each IsTimed (zip (in_paths r) going.stamps)) (sym same_recipe)
            (stamps_are_timed (seen rules entry) (seen rules w) (in_paths j.recipe) going.stamps (at.ours unbroken).sources to_begin.stamped);
        writable = subst (λ (r : Recipe). AreWritable going.made r going.stamps) (sym same_recipe) to_begin.writable;
      }

  -- ## What is kept

  module _ (k : Parts) (child : Child) (going_is : child.going ≡ going) (number_is : child.job ≡ number) (ask_is : child.ask ≡ ask) (told put : Result (Unit {0}) Fault)
      (noted : HasNoted flow settings h k number draws child told put) where
    abbrev events : List Event
    events = before ++ es

    unhalted : h.halt.fault ≡ None
    unhalted = may.unhalted

    none_came : s.halted ≡ None
    none_came = sym at.halted ∙ unhalted

    pub gone : HasGoneBy rules entry v u events base1 k.live told
    gone =
        rest_goes_by rules entry v u events flow settings base1 k.live told by (began.resting begin_differs act rules entry h s w before deeds number at may j known made draws command ask fit logged by.texts x going es up follows owners children)
        (noted.plan.answers x.state j (at.settings ∙ by.settings_are) x.has_state fit.is)

    asked : child.ask ≡ ask_of j
    asked = ask_is ∙ fit.asks

    pub led_with :
        (q : Halt) (next t : Stand) → IsReplanned rules u v next → GoesBy rules entry next v events t → q.fault ≡ t.halted → q.only_waits ≡ t.broken →
        (t.halted ≡ None → IsKept rules entry (record k { halt = q }) t v events) →
        HasLed rules entry (record k { halt = q }) s w before es deeds (Started j ∷ [])
    led_with q next t replanned goes halted waits kept =
        beginning_leads rules entry h s w before deeds (record k { halt = q }) child j es t at (step next t replanned goes) going_is refl
        (ap (slice_get h.live.base.jobs.jobs) number_is ∙ fit.is)
        (next_is_listed rules entry s w before (j, x.state) (plan_of h.live) at.home.found at.home.formed (at.ours unbroken).sources (at.kept none_came).plan x.next) asked
        (λ g i. subst (λ (c : Underway). ¬ (g.number ≡ c.number)) (sym going_is) (new_number g i)) noted.placed noted.counted
        (room_begun rules entry h s w before deeds (j, x.state) child.going at x.next
        (ap (λ (c : Underway). c.recipe) going_is ∙ same_recipe) (ap (λ (c : Underway). c.logs) going_is ∙ same_logs))
        (subst (IsRecordable (seen rules entry)) (sym going_is) recordable)
        (record {
          live = noted.plan.alive;
          settings = noted.plan.settings_stay;
          jobs = noted.plan.jobs_stay;
          home = began.home begin_differs act rules entry h s w before deeds number at may j known made draws command ask fit logged by.texts x going es up follows owners;
          ours = λ whole. (began.differs begin_differs act rules entry h s w before deeds number at may j known made draws command ask fit logged by.texts x going es up follows owners).ours;
          halted = halted;
          waits = waits;
          kept = kept;
        })

    -- what is kept, where the plan goes on
    pub kept_on : IsTold settings base1 k.live → k.live.plan.known ≡ [] → told ≡ Ok tt → (q : Halt) → IsKept rules entry (record k { halt = q }) gone.to v events
    kept_on is_told none is q =
        kept_then begin_differs act rules entry h s w before deeds number at may j known made draws command ask fit logged by.texts x going es up follows owners children (record k { halt = q }) gone.to child events
        (record {
          number_is = number_is;
          ask_is = asked;
          placed = noted.placed;
          room = noted.room;
          drawn = noted.drawn;
          failed = ap (λ (t : Tally). t.failed) noted.counted;
          base = is_told.base_is;
          none_known = none;
          begun_same = gone.same.begun;
          plan = gone.plan is;
          clear = gone.clear is;
        })
