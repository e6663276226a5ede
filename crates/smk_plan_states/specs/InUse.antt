-- Jobs from which children read, by what the passes find.
use Rattle.std.specs.Prelude.{Bool, ◌&&◌, not, List, bytes_eq, Option, is_some}
use Rattle.std.specs.List.{list_any, slice_get, zip}
use Rattle.std.specs.Option.{option_and_then}
use Rattle.smk_world.specs.Trees.{Path, first}
use Rattle.smk_pattern.specs.Reading.{or_empty}
use Rattle.smk_trigger.specs.declared.reason.State.{State}
use Rattle.smk_plan.specs.States.{test_some}
use Rattle.smk_plan_states.specs.Shapes.{Parts, Site}

-- the parts of the job that makes the path; none for a source
abbrev pub maker_parts : List Parts → Option Site → Option Parts
maker_parts parts site = option_and_then (slice_get parts) (option_and_then (λ (s : Site). s.job) site)

-- its first output
abbrev pub maker_name : List Parts → Option Site → Option Path
maker_name parts site = option_and_then (λ (m : Parts). first m.outputs) (maker_parts parts site)

-- this is the name, and it isn't the reader's
abbrev pub is_other : Parts → Path → Path → Bool
is_other reader name p = bytes_eq name p && not (bytes_eq p (or_empty (first reader.outputs)))

module _ (sites : Path → Option Site) (parts : List Parts) where
  -- the job of this name makes the path, and is another one than the reader
  abbrev pub is_made_for : Parts → Path → Path → Bool
  is_made_for reader name q = test_some (is_other reader name) (maker_name parts (sites q))

  -- the child of a job runs that reads what another job, of this name, makes
  abbrev pub is_used_by : Path → Parts × Option State → Bool
  is_used_by name e = is_some e.1 && list_any (is_made_for e.0 name) e.0.inputs

  -- By its first output: a child reads what the job made.
  abbrev pub in_use_told : List (Option State) → Path → Bool
  in_use_told running name = list_any (is_used_by name) (zip parts running)

-- a child reads what the job with these parts made
abbrev pub is_in_use_told : (Path → Bool) → Parts → Bool
is_in_use_told in_use m = test_some in_use (first m.outputs)
