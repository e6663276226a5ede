-- The reasons of a job that concern it alone.
use Rattle.std.specs.Prelude.{Bool, true, false, ◌&&◌, ◌||◌, not, List, [], ◌∷◌, ◌++◌, map, filter, zip, ◌==◌, bytes_eq, if◌then◌else◌, Option, Some, None}
use Rattle.std.specs.List.{list_any, list_all, flat_map}
use lib.Pointwise.{pointwise}
use Rattle.smk_world.specs.declared.recipe.Values.{Values}
use Rattle.smk_world.specs.declared.recipe.Item.{Item}
use Rattle.smk_world.specs.declared.recipe.Out.{Out}
use Rattle.smk_world.specs.declared.recipe.OutItem.{OutItem}
use Rattle.smk_world.specs.declared.recipe.Recipe.{Recipe}
use Rattle.smk_world.specs.World.{in_paths}
use Rattle.smk_world.specs.Trees.{Path, is_folder_kind}
use Rattle.smk_record.specs.declared.record.Stamp.{Stamp}
use Rattle.smk_record.specs.declared.record.Record.{Record}
use Rattle.smk_record.specs.Records.{same_pair, same_stamp, agrees, stamped, same_flag}
use Rattle.smk_store.specs.declared.store.Kept.{Kept}
use Rattle.smk_store.specs.declared.store.Kept.TheVariants.{Absent, Unreadable, Held}
use Rattle.smk_trigger.specs.declared.facts.JobFacts.{JobFacts}
use Rattle.smk_trigger.specs.declared.reason.Reason.{Reason}
use Rattle.smk_trigger.specs.declared.reason.Reason.TheVariants.{New, Marked, BadRecord, Code, Params, Inputs, Updated, Forced}

-- ## When two recipes say the same

abbrev pub same_values : Values → Values → Bool
same_values a b = bytes_eq a.name b.name && pointwise bytes_eq a.values b.values

abbrev pub same_item : Item → Item → Bool
same_item a b = bytes_eq a.name b.name && pointwise bytes_eq a.paths b.paths

abbrev pub same_out : Out → Out → Bool
same_out a b = bytes_eq a.path b.path && same_flag (is_folder_kind a.kind) (is_folder_kind b.kind)

abbrev pub same_out_item : OutItem → OutItem → Bool
same_out_item a b = bytes_eq a.name b.name && pointwise same_out a.outs b.outs

-- the command and the outputs
abbrev pub same_code : Recipe → Recipe → Bool
same_code a b = bytes_eq a.template b.template && pointwise same_out_item a.outputs b.outputs

-- the wildcards and params
abbrev pub same_params : Recipe → Recipe → Bool
same_params a b = pointwise same_pair a.wildcards b.wildcards && pointwise same_values a.params b.params

-- the inputs with their order and names
abbrev pub same_inputs : Recipe → Recipe → Bool
same_inputs a b = pointwise same_item a.inputs b.inputs

abbrev pub same_recipe : Recipe → Recipe → Bool
same_recipe a b = same_code a b && (same_params a b && same_inputs a b)

-- two records of one job: they differ in path and members alone
abbrev pub same_job : Record → Record → Bool
same_job a b =
    a.made == b.made && (same_recipe a.recipe b.recipe && (pointwise same_stamp a.stamps b.stamps && a.format == b.format))

-- ## Reasons

abbrev pub is_absent : Kept → Bool
is_absent Absent = true
is_absent Unreadable = false
is_absent (Held r) = false

abbrev pub is_unreadable : Kept → Bool
is_unreadable Absent = false
is_unreadable Unreadable = true
is_unreadable (Held r) = false

abbrev pub held : Kept → List Record
held Absent = []
held Unreadable = []
held (Held r) = r ∷ []

abbrev pub all_same : List Record → Bool
all_same [] = true
all_same (r ∷ rest) = list_all (same_job r) rest

-- the reason, where the test holds
abbrev pub when : Bool → Reason → List Reason
when b reason = if b then reason ∷ [] else []

-- the input has a stamp now, and is among the recorded ones with one that doesn't agree
abbrev pub is_updated : List (Path × Stamp) → Path × Option Stamp → Bool
is_updated recorded (q, None) = false
is_updated recorded (q, Some now) = list_any (λ (e : Path × Stamp). bytes_eq e.0 q && not (agrees e.1 (Some now))) recorded

-- each path once, where it comes first
abbrev pub once : List (Path × Option Stamp) → List (Path × Option Stamp)
once [] = []
once (e ∷ es) = e ∷ filter (λ (d : Path × Option Stamp). not (bytes_eq e.0 d.0)) (once es)

-- what differs from a record, with the stamps of the inputs now
abbrev pub changes : Recipe → List (Path × Option Stamp) → Record → List Reason
changes recipe now r =
    when (not (same_code recipe r.recipe)) Code
    ++ (when (not (same_params recipe r.recipe)) Params
    ++ (when (not (same_inputs recipe r.recipe)) Inputs
    ++ map (λ (e : Path × Option Stamp). Updated e.0) (filter (is_updated (stamped r)) (once now))))

-- what differs from the first of the records
abbrev pub changes_from : Recipe → List (Path × Option Stamp) → List Record → List Reason
changes_from recipe now [] = []
changes_from recipe now (r ∷ rest) = changes recipe now r

-- an output has no record
abbrev pub lacks_record : List Kept → Bool
lacks_record kept = list_any is_absent kept

-- a record doesn't read, or the records are of different jobs
abbrev pub has_bad_record : List Kept → Bool
has_bad_record kept = list_any is_unreadable kept || not (all_same (flat_map held kept))

-- By what is kept of the outputs, which of them are marked, and the inputs with their stamps now. The recipe and the stamps are
-- looked at only where every record is there and reads.
abbrev pub own_reasons : Recipe → List Kept → List Bool → List (Path × Option Stamp) → List Reason
own_reasons recipe kept marked now =
    when (lacks_record kept) New
    ++ (when (list_any (λ b. b) marked) Marked
    ++ (when (has_bad_record kept) BadRecord
    ++ (if lacks_record kept || has_bad_record kept then [] else changes_from recipe now (flat_map held kept))))

-- the reasons by the facts of a job, all but those that other jobs give
abbrev pub reasons_of : JobFacts → List Reason
reasons_of f = own_reasons f.recipe f.kept f.marked (zip (in_paths f.recipe) f.stamps) ++ when f.forced Forced
