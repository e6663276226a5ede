-- A plain, slow run over the definitions: it starts what may start first, else waits, and closes what has ended.
use Rattle.std.specs.Prelude.{ℕ, zero, suc, ◌+◌, Bool, true, false, List, [], ◌∷◌, ◌++◌, map, filter, zip, codes, bytes_eq, if◌then◌else◌, Option, Some, None, Ok, length}
use Rattle.std.specs.List.{flat_map, filter_map, find}
use lib.Pointwise.{pointwise}
use Rattle.smk_base.specs.Place.{mark_place, record_place}
use Rattle.smk_base.specs.declared.tree.Tree.{Tree}
use Rattle.smk_base.specs.declared.tree.Tree.TheVariants.{File, Folder}
use Rattle.smk_base.specs.declared.tree.TreeEntry.{TreeEntry}
use Rattle.smk_world.specs.declared.event.Node.TheVariants.{Regular, Directory}
use Rattle.smk_world.specs.declared.event.Event.{Event}
use Rattle.smk_world.specs.declared.event.Child.{Child}
use Rattle.smk_world.specs.declared.event.Change.{Change}
use Rattle.smk_world.specs.declared.event.Call.{Call}
use Rattle.smk_world.specs.declared.event.Call.TheVariants.{Written, Created, Removed, Settled, Started, Waited}
use Rattle.smk_world.specs.World.{World, after, in_paths, out_paths}
use Rattle.smk_world.specs.Calls.{in_folder}
use Rattle.smk_world.specs.Trees.{Path}
use Rattle.smk_flow.specs.declared.job.Job.{Job}
use Rattle.smk_flow.specs.Flows.{Flow}
use Rattle.smk_record.specs.declared.record.Record.{Record}
use Rattle.smk_store.specs.Images.{tree_now}
use Rattle.smk_chain.specs.Derive.{Listings}
use Rattle.smk_trigger.specs.declared.reason.State.{State}
use Rattle.smk_pick.specs.declared.settings.Settings.{Settings}
use Rattle.smk_plan.specs.States.{Plan, new_listings, none_or_one}
use Rattle.smk_drive.specs.Moments.{Rules, Moment, Begun, seen, begun_after, is_rest, progress_of, lists_of}
use Rattle.smk_drive.specs.Lawful.{may_start, first_of}
use Rattle.smk_drive.specs.Reports.{start_lines, close_lines, target_lines, summary}
use Rattle.smk_flow.proofs.Examples.{commands}
use Rattle.smk_chain.proofs.Folders.{jobs_in}
use Rattle.smk_plan.proofs.Plans.{settle, from_jobs}

-- a record is spelled as the text of its path; how it reads stands in a table
abbrev pub reader : List Record → List ℕ → Option Record
reader table bytes = find (λ (r : Record). bytes_eq r.path bytes) table

abbrev pub rules_with : Flow → Settings → List Record → Rules
rules_with flow settings table =
    record { flow = flow; settings = settings; nolock = true; read = reader table; missing = λ j. None; command = λ j n. codes "?" }

-- ## Plans

abbrev pub plan_with : Rules → World → List Begun → Listings → Plan
plan_with rules w begun lists =
    settle (seen rules w) rules.settings (progress_of w begun) 3 (from_jobs lists (jobs_in rules.flow (seen rules w) lists rules.settings.targets))

-- two plans of the chain
abbrev pub plan_of : Rules → World → List Begun → Listings → Plan
plan_of rules w begun lists =
    let plan = plan_with rules w begun lists in
    plan_with rules w begun (lists ++ new_listings (seen rules w) rules.settings (progress_of w begun) plan)

-- ## Events

abbrev pub event : Call → List Change → Event
event call left = record { call = call; left = left }

abbrev pub put : Path → List ℕ → Change
put p bytes = record { place = p; node = Regular bytes 9 false }

abbrev pub beginning : ℕ → Job → List Event
beginning number j =
    flat_map (λ p. event (Created (mark_place p) (Ok true)) (put (mark_place p) [] ∷ []) ∷ []) (out_paths j.recipe)
    ++ (event (Settled (map mark_place (out_paths j.recipe)) (Ok tt)) []
    ∷ (map (λ p. event (Removed p (Ok tt)) []) (out_paths j.recipe)
    ++ event (Started j.recipe j.logs (codes "?") (Ok number)) []
    ∷ []))

abbrev pub written : Path → Option Tree → List Change
written p None = []
written p (Some (File bytes)) = put p bytes ∷ []
written p (Some (Folder entries)) =
    record { place = p; node = Directory }
    ∷ flat_map (λ (e : TreeEntry). map (λ b. put (in_folder p e.name) b) (none_or_one e.bytes)) entries

abbrev pub ending : Rules → World → Child → List Event
ending rules w c =
    let gives = commands c.recipe (filter_map (tree_now (seen rules w)) (in_paths c.recipe)) in
    event (Waited (Ok (record { number = c.number; status = gives.status })))
    (flat_map (λ (e : Path × Option Tree). written e.0 e.1) (zip (out_paths c.recipe) gives.outputs))
    ∷ []

abbrev pub finishing : Job → List Event
finishing j =
    event (Settled (out_paths j.recipe) (Ok tt)) []
    ∷ (map (λ p. event (Written (record_place p) p (Ok tt)) (put (record_place p) p ∷ [])) (out_paths j.recipe)
    ++ event (Settled (map record_place (out_paths j.recipe)) (Ok tt)) []
    ∷ (map (λ p. event (Removed (mark_place p) (Ok tt)) []) (out_paths j.recipe)
    ++ event (Settled (map mark_place (out_paths j.recipe)) (Ok tt)) []
    ∷ []))

-- ## Turns

abbrev pub start : Rules → World → Moment
start rules w = record { events = []; world = w; begun = []; from = []; lists = []; plan = Some (plan_of rules w [] []) }

abbrev pub step : Rules → World → Moment → Event → Moment
step rules entry m e =
    let begun = begun_after rules entry m e in
    let plan = if is_rest (after m.world e) begun then Some (plan_of rules (after m.world e) begun m.lists) else m.plan in
    record { events = []; world = after m.world e; begun = begun; from = m.lists; lists = lists_of plan m.lists; plan = plan }

-- the moment after some events, and the lines that they make
abbrev pub goes : Rules → World → Moment → List Event → Moment × List ℕ
goes rules entry m [] = (m, [])
goes rules entry m (e ∷ es) =
    let now = step rules entry m e in
    let later = goes rules entry now es in
    (later.0, start_lines rules now e.call ++ (close_lines rules m now ++ later.1))

abbrev pub is_of : Child → Begun → Bool
is_of c b = pointwise bytes_eq (out_paths b.job.recipe) (out_paths c.recipe)

abbrev pub next_events : Rules → Moment → Option (Job × State) → List Child → List Event
next_events rules m (Some k) children = beginning (length m.begun + 1) k.0
next_events rules m None [] = []
next_events rules m None (c ∷ children) =
    ending rules m.world c ++ flat_map (λ (b : Begun). finishing b.job) (filter (is_of c) m.begun)

-- n turns, each a start or a wait with what follows; the order says which child ends first
abbrev pub drive : (List Child → List Child) → Rules → World → ℕ → Moment → List ℕ
drive order rules entry zero m = target_lines rules m ++ summary rules m
drive order rules entry (suc n) m =
    let after = goes rules entry m (next_events rules m (first_of (may_start rules m)) (order m.world.children)) in
    after.1 ++ drive order rules entry n after.0

abbrev pub whole_run : Rules → World → ℕ → List ℕ
whole_run rules entry n = drive (λ cs. cs) rules entry n (start rules entry)
