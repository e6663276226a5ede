-- The moments of a run's log: what has begun and been closed, and the plan in force.
use Rattle.std.specs.Prelude.{◌≡◌, ℕ, zero, suc, Bool, false, ◌&&◌, ◌||◌, not, List, [], ◌∷◌, ◌++◌, map, filter, length, max, ◌+◌, bytes_eq, nat_eq, if◌then◌else◌, Option, Some, None, Ok, Err, is_some, is_none, IsTrue}
use Rattle.std.specs.List.{list_any, list_all, fold, flat_map, filter_map}
use lib.Pointwise.{pointwise}
use Rattle.smk_base.specs.Path.{is_under, is_at_or_under}
use Rattle.smk_base.specs.Place.{record_place, mark_place, note_place}
use Rattle.smk_base.specs.declared.tree.Tree.{Tree}
use Rattle.smk_base.specs.declared.tree.Tree.TheVariants.{File, Folder}
use Rattle.smk_world.specs.declared.event.NodeState.{NodeState}
use Rattle.smk_world.specs.declared.event.NodeState.TheVariants.{Owned, Known}
use Rattle.smk_world.specs.declared.event.Besides.TheVariants.{Anything, OneOf}
use Rattle.smk_world.specs.declared.event.Call.{Call}
use Rattle.smk_world.specs.declared.event.Call.TheVariants.{Looked, ReadFile, ReadFolder, Written, Created, Removed, MadeParents, Settled, Protected, Started, Waited}
use Rattle.smk_world.specs.declared.event.Event.{Event}
use Rattle.smk_world.specs.declared.event.Change.{Change}
use Rattle.smk_world.specs.declared.event.Child.{Child}
use Rattle.smk_world.specs.declared.recipe.Kind.{Kind}
use Rattle.smk_world.specs.declared.recipe.Kind.TheVariants.{Plain, Folder as FolderKind}
use Rattle.smk_world.specs.declared.recipe.Out.{Out}
use Rattle.smk_world.specs.World.{World, after, in_paths, out_paths, owned_paths, owned_by, is_within, reads_nothing, standing}
use Rattle.smk_world.specs.Trees.{Path, first, outs_of, are_members}
use Rattle.smk_pattern.specs.Shapes.{Text}
use Rattle.smk_flow.specs.declared.job.Job.{Job}
use Rattle.smk_flow.specs.Flows.{Flow}
use Rattle.smk_record.specs.declared.record.Stamp.{Stamp}
use Rattle.smk_record.specs.declared.record.Record.{Record}
use Rattle.smk_record.specs.Records.{serials}
use Rattle.smk_store.specs.Images.{Image, record_at, tree_now}
use Rattle.smk_store.specs.Images as images
use Rattle.smk_store.specs.Trust.{stamp_now, made_at}
use Rattle.smk_chain.specs.Derive.{Listings}
use Rattle.smk_trigger.specs.declared.reason.State.{State}
use Rattle.smk_trigger.specs.JobStates.{is_restore}
use Rattle.smk_pick.specs.declared.settings.Settings.{Settings}
use Rattle.smk_plan.specs.States.{Plan, Progress, LastPlan, job_path, staged, is_spent, test_some}
use Rattle.smk_report.specs.Lines.{Ending, Good, Status, NoOutput, WrongKind, BadMember}

-- What a run goes by: the workflow, the settings, whether it takes no lock, how bytes read as a record; and of a job's command
-- the first field that has no value, and the text with so many threads.
pub record Rules : Type 0 where
  pub flow : Flow
  pub settings : Settings
  pub nolock : Bool
  pub read : List ℕ → Option Record
  pub missing : Job → Option Text
  pub command : Job → ℕ → Text

-- the world as it reads
abbrev pub seen : Rules → World → Image
seen rules w = images.seen rules.read w

-- ## What an event changes

-- The node at q is another one after the call, or its keeper is; a settling changes none.
abbrev pub changes_at : Call → World → List Change → Path → Bool
changes_at (Looked p r) w left q = false
changes_at (ReadFile p limit r) w left q = false
changes_at (ReadFolder p r) w left q = false
changes_at (Written p bytes r) w left q = bytes_eq q p
changes_at (Created p (Ok made)) w left q = made && bytes_eq q p
changes_at (Created p (Err e)) w left q = reads_nothing (w.nodes q) && (bytes_eq q p && is_some (standing left q))
changes_at (Removed p r) w left q = is_at_or_under q p && not (reads_nothing (w.nodes q))
changes_at (MadeParents p (Ok u)) w left q = is_under p q && reads_nothing (w.nodes q)
changes_at (MadeParents p (Err e)) w left q = is_under p q && (reads_nothing (w.nodes q) && is_some (standing left q))
changes_at (Settled ps r) w left q = false
changes_at (Protected p r) w left q = bytes_eq q p
changes_at (Started recipe logs command (Ok number)) w left q = is_within q (owned_paths recipe logs)
changes_at (Started recipe logs command (Err e)) w left q = false
changes_at (Waited (Ok ended)) w left q = is_within q (owned_by ended.number w.children)
changes_at (Waited (Err e)) w left q = false

abbrev pub is_changed : World → Event → Path → Bool
is_changed w e q = changes_at e.call w e.left q

-- ## Jobs in a log

-- a job's places: its outputs, their marks and records, and the notes of its logs
abbrev pub places : Job → List Path
places j =
    out_paths j.recipe ++ (map mark_place (out_paths j.recipe) ++ (map record_place (out_paths j.recipe) ++ map note_place j.logs))

-- A job that has begun: with the state that it had then, the stamps that its inputs had, the serial of its records, and how its
-- child ended.
pub record Begun : Type 0 where
  pub job : Job
  pub state : State
  pub stamps : List (Option Stamp)
  pub serial : ℕ
  pub ended : Option Ending

abbrev pub is_child_of : Job → Child → Bool
is_child_of j c = pointwise bytes_eq (out_paths c.recipe) (out_paths j.recipe)

-- its child runs
abbrev pub runs : World → Job → Bool
runs w j = list_any (is_child_of j) w.children

-- nothing is there, and a crash brings nothing back
abbrev pub is_gone : NodeState → Bool
is_gone Owned = false
is_gone (Known n Anything) = false
is_gone (Known n (OneOf ns)) = is_none n && list_all is_none ns

-- Closed: its child has ended, and no mark of it stands or may come back;
abbrev pub is_closed : World → Begun → Bool
is_closed w b = is_some b.ended && list_all (λ p. is_gone (w.nodes (mark_place p))) (out_paths b.job.recipe)

-- well, if its records stand;
abbrev pub is_closed_well : Rules → World → Begun → Bool
is_closed_well rules w b = is_closed w b && list_all (λ p. is_some (record_at (seen rules w) p)) (out_paths b.job.recipe)

-- and else badly
abbrev pub is_closed_badly : Rules → World → Begun → Bool
is_closed_badly rules w b = is_closed w b && not (is_closed_well rules w b)

-- what is wrong with the tree at an output
abbrev pub fault_of : Path → Kind → Option Tree → Option Ending
fault_of p kind None = Some (NoOutput p)
fault_of p Plain (Some (File bytes)) = None
fault_of p Plain (Some (Folder entries)) = Some (WrongKind p)
fault_of p FolderKind (Some (File bytes)) = Some (WrongKind p)
fault_of p FolderKind (Some (Folder entries)) = if are_members p (map (λ e. e.name) entries) then None else Some (BadMember p)

abbrev pub or_good : Option Ending → Ending
or_good None = Good
or_good (Some e) = e

-- how a job's child ended, with this status and what stands then
abbrev pub ending : Image → Job → ℕ → Ending
ending image j (suc n) = Status (suc n)
ending image j zero = or_good (first (filter_map (λ (o : Out). fault_of o.path o.kind (tree_now image o.path)) (outs_of j.recipe)))

-- every job that has begun is closed, or its child runs
abbrev pub is_rest : World → List Begun → Bool
is_rest w begun = list_all (λ (b : Begun). runs w b.job || is_closed w b) begun

abbrev pub progress_of : World → List Begun → Progress
progress_of w begun =
    record {
      begun = map (λ (b : Begun). job_path b.job) begun;
      running = map (λ (b : Begun). (job_path b.job, b.state)) (filter (λ (b : Begun). runs w b.job) begun);
    }

-- ## Moments

-- After some events of the log: these, the world, the jobs that have begun, and the plan in force. That is the last plan of a
-- chain which began from listings; `lists` are those of all plans in force so far.
pub record Moment : Type 0 where
  pub events : List Event
  pub world : World
  pub begun : List Begun
  pub from : Listings
  pub lists : Listings
  pub plan : Option Plan

-- the last plan of the chain from these listings, or none where it is refused
abbrev pub IsInForce : Rules → World → List Begun → Listings → Option Plan → Type 0
IsInForce rules w begun lists None =
    (plan : Plan) → ¬ LastPlan rules.flow (seen rules w) rules.settings (progress_of w begun) lists plan
IsInForce rules w begun lists (Some plan) = LastPlan rules.flow (seen rules w) rules.settings (progress_of w begun) lists plan

abbrev pub lists_of : Option Plan → Listings → Listings
lists_of None lists = lists
lists_of (Some plan) lists = plan.lists

abbrev pub staged_now : Option Plan → List (Job × State)
staged_now None = []
staged_now (Some plan) = staged plan

module _ (rules : Rules) where
  -- p is spent by the plan in force
  abbrev pub is_spent_now : Moment → Path → Bool
  is_spent_now m p =
      test_some
      (λ (plan : Plan). list_any
      (λ (e : Job × State). is_spent (seen rules m.world) rules.settings (progress_of m.world m.begun) plan e p)
      (staged plan))
      m.plan

  abbrev pub is_spent_removal : Moment → Call → Bool
  is_spent_removal m (Removed p r) = is_spent_now m p
  is_spent_removal m c = false

  abbrev pub has_begun : Moment → Job → Bool
  has_begun m j = list_any (λ (b : Begun). bytes_eq (job_path b.job) (job_path j)) m.begun

  -- A job begins at the first event that changes one of its places, the removal of a spent output aside.
  abbrev pub begins : Moment → Event → Job → Bool
  begins m e j = not (has_begun m j) && (not (is_spent_removal m e.call) && list_any (is_changed m.world e) (places j))

  -- the greatest serial in the unmarked records of an image
  abbrev pub greatest : Image → ℕ
  greatest image =
      fold max 0 (flat_map serials (filter_map (λ p. record_at image p) (filter (λ p. not (image.marked p)) image.known)))

  abbrev pub draws : Begun → Bool
  draws b = not (is_restore b.state)

  -- A Restore keeps the serial of its records; any other job draws the next one.
  abbrev pub serial_of : World → Moment → Job → State → ℕ
  serial_of entry m j s =
      if is_restore s then made_at (record_at (seen rules m.world) (job_path j))
      else greatest (seen rules entry) + (1 + length (filter draws m.begun))

  abbrev pub begun_of : World → Moment → Job × State → Begun
  begun_of entry m e =
      record {
        job = e.0;
        state = e.1;
        stamps = map (stamp_now (seen rules m.world)) (in_paths e.0.recipe);
        serial = serial_of entry m e.0 e.1;
        ended = None;
      }

  -- a wait tells how the child of a job ended
  abbrev pub with_end : World → World → Call → Begun → Begun
  with_end before now (Waited (Ok end)) b =
      if list_any (λ (c : Child). nat_eq c.number end.number && is_child_of b.job c) before.children
      then (record b { ended = Some (ending (seen rules now) b.job end.status) })
      else b
  with_end before now c b = b

  -- the jobs that have begun after one more event
  abbrev pub begun_after : World → Moment → Event → List Begun
  begun_after entry m e =
      map (with_end m.world (after m.world e) e.call) m.begun
      ++ map (begun_of entry m) (filter (λ (k : Job × State). begins m e k.0) (staged_now m.plan))

-- The moments of a log. The plan in force is made at the entry and at each rest, its chain beginning with the listings of the
-- plans before; between two rests it stays.
pub data IsMoment (rules : Rules) (entry : World) : List Event → Moment → Type 0 where
  AtEntry :
      (plan : Option Plan) →
      IsInForce rules entry [] [] plan →
      IsMoment rules entry [] (record { events = []; world = entry; begun = []; from = []; lists = lists_of plan []; plan = plan })
  AtRest :
      (events : List Event) (m : Moment) (e : Event) (plan : Option Plan) →
      IsMoment rules entry events m →
      IsTrue (is_rest (after m.world e) (begun_after rules entry m e)) →
      IsInForce rules (after m.world e) (begun_after rules entry m e) m.lists plan →
      IsMoment rules entry (events ++ e ∷ []) (record {
        events = events ++ e ∷ [];
        world = after m.world e;
        begun = begun_after rules entry m e;
        from = m.lists;
        lists = lists_of plan m.lists;
        plan = plan;
      })
  Between :
      (events : List Event) (m : Moment) (e : Event) →
      IsMoment rules entry events m →
      is_rest (after m.world e) (begun_after rules entry m e) ≡ false →
      IsMoment rules entry (events ++ e ∷ []) (record m {
        events = events ++ e ∷ [];
        world = after m.world e;
        begun = begun_after rules entry m e;
      })

-- P of each event of the log, with the moment before it
abbrev pub EachEvent : Rules → World → List Event → (Moment → Event → Type 0) → Type 0
EachEvent rules entry log P =
    (events : List Event) (e : Event) (rest : List Event) →
    log ≡ events ++ e ∷ rest → (m : Moment) × IsMoment rules entry events m × P m e

-- P of the moment after each prefix of the log
abbrev pub EachMoment : Rules → World → List Event → (Moment → Type 0) → Type 0
EachMoment rules entry log P =
    (events rest : List Event) (m : Moment) → log ≡ events ++ rest → IsMoment rules entry events m → P m
