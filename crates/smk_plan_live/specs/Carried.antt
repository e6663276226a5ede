-- What changes as a job begins or is closed, and what jobs keep as new ones come.
use Rattle.std.specs.Prelude.{ℕ, Bool, true, false, bytes_eq, is_some, ◌==◌, List, map, slice_set, if◌then◌else◌, Option, Some, None, option_map}
use Rattle.std.specs.List.{slice_get}
use Rattle.std.specs.Option.{option_and_then, option_or}
use Rattle.std.specs.BTreeMap.{get_by_text}
use Rattle.smk_world.specs.declared.event.Stat.TheVariants.{Nothing}
use Rattle.smk_world.specs.Trees.{Path, first}
use Rattle.smk_world.specs.World.{out_paths}
use Rattle.smk_flow.specs.declared.job.Job.{Job}
use Rattle.smk_store.specs.declared.store.Entry.{Entry}
use Rattle.smk_store.specs.declared.store.Kept.TheVariants.{Absent}
use Rattle.smk_trigger.specs.declared.reason.State.{State}
use Rattle.smk_plan.specs.declared.seen.Sight.{Sight}
use Rattle.smk_plan_facts.specs.Telling.{copied}
use Rattle.smk_plan_live.specs.declared.base.Base.{Base}
use Rattle.smk_plan_live.specs.declared.sites.Site.{Site}
use Rattle.smk_plan_live.specs.declared.phase.Phase.{Phase}
use Rattle.smk_plan_live.specs.declared.phase.Phase.TheVariants.{Waiting, Running}
use Rattle.smk_plan_live.specs.Now.{joined, entry_now, sight_now}

-- ## A job begins or is closed

-- the job has an output, by which it is named
abbrev pub has_name : Job → Bool
has_name j = is_some (first (out_paths j.recipe))

-- the job of the number n has come so far, and runs with this state at its beginning, or doesn't run
abbrev pub turned : ℕ → Phase → Option State → Base → Base
turned n phase state b = record b { phases = slice_set b.phases n phase; began = slice_set b.began n state }

-- this is what is known and was seen of the outputs of the job of the number n
abbrev pub filled : ℕ → Option (List (Option Entry)) → Option (List (Option Sight)) → Base → Base
filled n row sights b = record b { entries = slice_set b.entries n row; sights = slice_set b.sights n sights }

-- The same together.
abbrev pub advanced : ℕ → Phase → Option State → List (Option Entry) → List (Option Sight) → Base → Base
advanced n phase state row sights b = filled n (Some row) (Some sights) (turned n phase state b)

-- ## What stands at outputs

-- what is known of an output once its job has begun: what was known, and a mark
abbrev pub marked_entry : Option Entry → Entry
marked_entry None = record { kept = Absent; marked = true; noted = false }
marked_entry (Some e) = record { kept = copied e.kept; marked = true; noted = e.noted }

-- nothing is seen at the path
abbrev pub nothing_at : Path → Sight
nothing_at q = record { path = q; stat = Nothing; members = None; guarded = false; sum = None }

abbrev pub begun_entry : Base → Path → Option Entry
begun_entry b q = Some (marked_entry (entry_now b q))

abbrev pub gone_sight : Path → Option Sight
gone_sight q = Some (nothing_at q)

-- of the outputs of a job that begins
abbrev pub begun_entries : Base → Job → List (Option Entry)
begun_entries b j = map (begun_entry b) (out_paths j.recipe)

abbrev pub gone_sights : Job → List (Option Sight)
gone_sights j = map gone_sight (out_paths j.recipe)

-- The job, whose number is n, has begun with this state: its outputs are marked, and nothing stands at them.
abbrev pub begun : ℕ → State → Job → Base → Base
begun n state j b = advanced n Running (Some state) (begun_entries b j) (gone_sights j) b

-- what is seen at a path once another one was removed, or this one
abbrev pub sight_but : Base → Path → Path → Option Sight
sight_but b gone q = if bytes_eq q gone then gone_sight q else sight_now b q

-- of the outputs of the job of the number n
abbrev pub sights_but : Base → Path → ℕ → Option (List (Option Sight))
sights_but b gone n = option_map (λ (j : Job). map (sight_but b gone) (out_paths j.recipe)) (slice_get b.jobs.jobs n)

-- this was seen of the outputs of the job of the number n
abbrev pub sighted : ℕ → Option (List (Option Sight)) → Base → Base
sighted n sights b = record b { sights = slice_set b.sights n sights }

abbrev pub spent_at : Option Site → Path → Base → Base
spent_at None gone b = b
spent_at (Some s) gone b = sighted s.job (sights_but b gone s.job) b

-- The output was removed: nothing stands there.
abbrev pub spent : Path → Base → Base
spent gone b = spent_at (get_by_text b.sites gone) gone b

-- ## New jobs come

abbrev pub copied_entry : Entry → Entry
copied_entry e = record { kept = copied e.kept; marked = e.marked; noted = e.noted }

-- the number of the job, where the output is its first
abbrev pub if_first : Site → Option ℕ
if_first s = if s.place == 0 then Some s.job else None

-- the number that a job had before, by its first output
abbrev pub origin : Base → Job → Option ℕ
origin b j = option_and_then if_first (option_and_then (get_by_text b.sites) (first (out_paths j.recipe)))

abbrev pub or_waiting : Option Phase → Phase
or_waiting None = Waiting
or_waiting (Some phase) = phase

-- how far a job had come
abbrev pub phase_from : Base → Job → Phase
phase_from b j = or_waiting (option_and_then (slice_get b.phases) (origin b j))

-- the state that it had when it began, if its child runs
abbrev pub began_from : Base → Job → Option State
began_from b j = joined (option_and_then (slice_get b.began) (origin b j))

-- of a job that was there before what was known of its outputs; a record only where it is valid
abbrev pub entries_from : Base → Job → Option (List (Option Entry))
entries_from b j = option_map (λ (n : ℕ). map (λ q. option_map copied_entry (entry_now b q)) (out_paths j.recipe)) (origin b j)

-- of a job that was there before what was seen at its outputs
abbrev pub sights_from : Base → Job → Option (List (Option Sight))
sights_from b j = option_map (λ (n : ℕ). map (sight_now b) (out_paths j.recipe)) (origin b j)

-- what comes later, where it is told, and else what was before
abbrev pub told_upon : {A : Type 0} → Bool → Option A → Option A → Option A
told_upon told later before = if told then option_or later before else before

-- with this as what was seen when the plan began
abbrev pub with_seen : List Sight → Base → Base
with_seen seen b = record b { seen = seen }
