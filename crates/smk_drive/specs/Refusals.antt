-- The refusals of a plan, in their order, and the first that a moment of a run meets.
use Rattle.std.specs.Prelude.{◌≡◌, ◌≢◌, ◌<◌, ℕ, Bool, ◌&&◌, not, List, [], ◌∷◌, ◌++◌, map, filter, length, ◌^◌, ◌==◌, nat_lt, bytes_eq, if◌then◌else◌, Option, Some, None, Contains, IsTrue}
use Rattle.std.specs.List.{list_any, flat_map}
use Rattle.smk_base.specs.declared.tree.Amount.{Amount}
use Rattle.smk_world.specs.World.{World, out_paths}
use Rattle.smk_world.specs.Trees.{Path, among, outs_of}
use Rattle.smk_world.specs.declared.recipe.Out.{Out}
use Rattle.smk_world.specs.declared.event.Event.{Event}
use Rattle.smk_pattern.specs.Shapes.{Text}
use Rattle.smk_flow.specs.declared.job.Job.{Job}
use Rattle.smk_flow.specs.Flows.{Flow, rule_name}
use Rattle.smk_record.specs.Records.{core}
use Rattle.smk_record.specs.Spelling.{spelling}
use Rattle.smk_store.specs.Images.{Image}
use Rattle.smk_chain.specs.Derive.{Listings, Refused, Refusal, TooManyPaths, Deep, NoRule, NoInput, TwoJobs, MissingMember, NoCommand, Clash, derivation, clashes, spots, jobs, sources_of}
use Rattle.smk_trigger.specs.declared.reason.State.{State}
use Rattle.smk_trigger.specs.JobStates.{is_to_run, is_open}
use Rattle.smk_pick.specs.Rooms.{amount, threads_in}
use Rattle.smk_plan.specs.States.{Plan, Progress, IsPlan, new_listings, job_path, staged}
use Rattle.smk_plan.specs.Sights.{is_guarded}
use Rattle.smk_report.specs.declared.fault.Fault.{Fault}
use Rattle.smk_report.specs.declared.fault.Fault.TheVariants as fault
use Rattle.smk_drive.specs.Moments.{Rules, Moment, Begun, IsMoment, EachEvent, seen, progress_of, serial_of, begun_of, begins, staged_now}
use Rattle.smk_drive.specs.Lawful.{goes_on, may_start, first_of, record_for}

-- a refusal of the derivation, as a fault; the count of too many paths is any above the limit
abbrev pub IsFault : Flow → Refusal → Fault → Type 0
IsFault flow TooManyPaths f = (count : ℕ) × (100000 < count) × (f ≡ fault.TooManyPaths count)
IsFault flow (Deep p) f = f ≡ fault.Deep p
IsFault flow (NoRule p) f = f ≡ fault.NoRule p
IsFault flow (NoInput p rule wanted) f = f ≡ fault.NoInput p (rule_name flow rule) wanted
IsFault flow (TwoJobs p a b) f = f ≡ fault.Ambiguous p (rule_name flow a) (rule_name flow b)
IsFault flow (MissingMember p) f = f ≡ fault.MissingMember p
IsFault flow (NoCommand rule) f = f ≡ fault.NoCommand (rule_name flow rule)
IsFault flow (Clash p q) f = f ≡ fault.Clash p q

abbrev pub has_nul : Text → Bool
has_nul text = list_any (λ b. b == 0) text

-- a command with NUL is refused with no bytes told
abbrev pub too_long : Text → Text → List Fault
too_long rule text =
    if has_nul text then fault.TooLong rule 0 ∷ []
    else (if nat_lt 120000 (length text) then fault.TooLong rule (length text) ∷ [] else [])

abbrev pub unless_empty : List Path → List Fault
unless_empty [] = []
unless_empty (p ∷ paths) = fault.Incomplete (p ∷ paths) ∷ []

module _ (rules : Rules) (image : Image) (progress : Progress) (plan : Plan) where
  abbrev pub is_running : Job → Bool
  is_running j = list_any (λ (e : Path × State). bytes_eq e.0 (job_path j)) progress.running

  -- Dirty or Restore, and not begun
  abbrev pub is_ahead : Job × State → Bool
  is_ahead e = is_to_run e.1 && not (among progress.begun (job_path e.0))

  abbrev pub ahead : List Job
  ahead = map (λ (e : Job × State). e.0) (filter is_ahead (staged plan))

  -- all marked outputs of jobs whose child doesn't run
  abbrev pub incomplete : List Fault
  incomplete =
      if rules.settings.rerun_incomplete then []
      else unless_empty (filter image.marked (flat_map (λ (j : Job). out_paths j.recipe) (filter (λ j. not (is_running j)) plan.jobs)))

  -- a read-only file in the way of a job that is ahead
  abbrev pub guarded : List Fault
  guarded = map fault.Protected (filter (is_guarded image) (flat_map (λ (j : Job). out_paths j.recipe) ahead))

  -- a job asks more of a bounded resource than its bound
  abbrev pub above_limit : Job → List Fault
  above_limit j =
      map
      (λ (b : Amount). fault.AboveLimit (rule_name rules.flow j.rule) (job_path j) b.name (amount j.amounts b.name) b.count)
      (filter (λ (b : Amount). nat_lt b.count (amount j.amounts b.name)) rules.settings.bounds)

  abbrev pub of_command : Job × State → Option Text → List Fault
  of_command e (Some word) = if is_open e.1 then [] else fault.UnknownField (rule_name rules.flow e.0.rule) word ∷ []
  of_command e None =
      if is_ahead e
      then too_long (rule_name rules.flow e.0.rule) (rules.command e.0 (threads_in rules.settings.cores e.0.threads))
      else []

  -- All that is refused of a plan, in its order. A field without a value is refused in every job that isn't Open, a command that is
  -- too long in those that are ahead.
  abbrev pub refused_of : List Fault
  refused_of =
      incomplete
      ++ (guarded
      ++ (flat_map above_limit ahead ++ flat_map (λ (e : Job × State). of_command e (rules.missing e.0)) (staged plan)))

-- The first refusal of the chain of plans from these listings.
pub data ChainRefuses (rules : Rules) (image : Image) (progress : Progress) : Listings → Fault → Type 0 where
  DerivationRefuses :
      (lists : Listings) (r : Refusal) (f : Fault) →
      derivation rules.flow image lists rules.settings.targets ≡ Refused r →
      IsFault rules.flow r f → ChainRefuses rules image progress lists f
  PlanRefuses :
      (plan : Plan) (f : Fault) (rest : List Fault) →
      IsPlan rules.flow image rules.settings progress plan →
      refused_of rules image progress plan ≡ f ∷ rest → ChainRefuses rules image progress plan.lists f
  NextRefuses :
      (plan : Plan) (f : Fault) →
      IsPlan rules.flow image rules.settings progress plan →
      refused_of rules image progress plan ≡ [] →
      new_listings image rules.settings progress plan ≢ [] →
      ChainRefuses rules image progress (plan.lists ++ new_listings image rules.settings progress plan) f →
      ChainRefuses rules image progress plan.lists f

-- From these listings the chain of plans comes to a derivation with those.
pub data ComesTo (rules : Rules) (image : Image) (progress : Progress) : Listings → Listings → Type 0 where
  Here : (lists : Listings) → ComesTo rules image progress lists lists
  Onward :
      (plan : Plan) (lists : Listings) →
      IsPlan rules.flow image rules.settings progress plan →
      refused_of rules image progress plan ≡ [] →
      new_listings image rules.settings progress plan ≢ [] →
      ComesTo rules image progress (plan.lists ++ new_listings image rules.settings progress plan) lists → ComesTo rules image progress plan.lists lists

-- A derivation of the chain is refused so, and its own jobs clash, with one another or with what is known.
pub record ClashingChainRefuses (rules : Rules) (image : Image) (progress : Progress) (from : Listings) (f : Fault) : Type 0 where
  pub lists : Listings
  pub refusal : Refusal
  pub comes : ComesTo rules image progress from lists
  pub refused : derivation rules.flow image lists rules.settings.targets ≡ Refused refusal
  pub is_fault : IsFault rules.flow refusal f
  pub clashing : clashes image [] (flat_map spots (jobs rules.flow (sources_of image) lists rules.settings.targets)) ≢ []

-- a plan of the moment's chain is refused
abbrev pub PlansRefuse : Rules → Moment → Fault → Type 0
PlansRefuse rules m f = ChainRefuses rules (seen rules m.world) (progress_of m.world m.begun) m.from f

-- the job that is to begin at a moment of a run that goes on and whose plans aren't refused
abbrev pub IsNext : Rules → Moment → Job × State → Type 0
IsNext rules m e = IsTrue (goes_on rules m) × (first_of (may_start rules m) ≡ Some e) × ((f : Fault) → ¬ PlansRefuse rules m f)

-- the bytes of a record of the job without its members
abbrev pub record_length : Rules → Moment → Begun → Out → ℕ
record_length rules m b o = length (spelling (core (record_for rules m b o)))

-- At a moment of a run: a refusal of its plans; or the job that is to begin has no serial left, or too long a record.
pub data MomentRefuses (rules : Rules) (entry : World) (m : Moment) : Fault → Type 0 where
  PlansAreRefused : (f : Fault) → PlansRefuse rules m f → MomentRefuses rules entry m f
  NoSerial : (e : Job × State) → IsNext rules m e → serial_of rules entry m e.0 e.1 ≡ 2 ^ 64 → MomentRefuses rules entry m fault.Serials
  LongRecord :
      (e : Job × State) (o : Out) (before after : List Out) →
      IsNext rules m e →
      serial_of rules entry m e.0 e.1 < 2 ^ 64 →
      outs_of e.0.recipe ≡ before ++ o ∷ after →
      ((p : Out) → Contains before p → ¬ (1048576 < record_length rules m (begun_of rules entry m e) p)) →
      1048576 < record_length rules m (begun_of rules entry m e) o →
      MomentRefuses rules entry m (fault.TooLong (rule_name rules.flow e.0.rule) (record_length rules m (begun_of rules entry m e) o))

-- no earlier moment refuses anything
abbrev pub NoneBefore : Rules → World → List Event → Type 0
NoneBefore rules entry events =
    (front : List Event) (e : Event) (back : List Event) (m : Moment) (f : Fault) →
    events ≡ front ++ e ∷ back → IsMoment rules entry front m → ¬ MomentRefuses rules entry m f

-- No job begins at or after a moment that refuses something.
abbrev pub BeginsUnrefused : Rules → World → List Event → Type 0
BeginsUnrefused rules entry log =
    EachEvent rules entry log (λ m e.
    (k : Job × State) →
    Contains (staged_now m.plan) k →
    IsTrue (begins rules m e k.0) →
    ((f : Fault) → ¬ MomentRefuses rules entry m f) × NoneBefore rules entry m.events)
