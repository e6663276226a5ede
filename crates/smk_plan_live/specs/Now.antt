-- What is known and was seen of paths now, by a plan that is kept.
use Rattle.std.specs.Prelude.{ℕ, Bool, false, ◌&&◌, ◌||◌, not, List, [], ◌∷◌, ◌++◌, map, bytes_eq, if◌then◌else◌, Option, Some, None}
use Rattle.std.specs.List.{slice_get}
use Rattle.std.specs.Option.{option_or}
use Rattle.std.specs.BTreeMap.{get_by_text, keys}
use Rattle.smk_world.specs.Trees.{Path}
use Rattle.smk_store.specs.declared.store.Entry.{Entry}
use Rattle.smk_store.specs.Images.{stands}
use Rattle.smk_store.specs.Stores.{Known, entry_of}
use Rattle.smk_store.specs.Walking.{texts_of}
use Rattle.smk_trigger.specs.declared.reason.State.{State}
use Rattle.smk_trigger.specs.JobStates.{is_restore}
use Rattle.smk_plan.specs.declared.seen.Sight.{Sight}
use Rattle.smk_plan.specs.Sights.{sight_at}
use Rattle.smk_plan.specs.States.{test_some}
use Rattle.smk_plan_live.specs.declared.base.Base.{Base}
use Rattle.smk_plan_live.specs.declared.sites.Site.{Site}

abbrev pub joined : {A : Type 0} → Option (Option A) → Option A
joined None = None
joined (Some x) = x

-- ## Rows

-- what the row of a job has in the place, where there is a row; and else what was told before
abbrev pub row_by : {A : Type 0} → Option (List (Option A)) → ℕ → Option A → Option A
row_by None k before = before
row_by (Some row) k before = joined (slice_get row k)

abbrev pub row_at : {A : Type 0} → List (Option (List (Option A))) → Option Site → Option A → Option A
row_at rows None before = before
row_at rows (Some s) before = row_by (joined (slice_get rows s.job)) s.place before

-- what is known of the path, as it came
abbrev pub entry_now : Base → Path → Option Entry
entry_now b q = row_at b.entries (get_by_text b.sites q) (entry_of b.store q)

abbrev pub if_site : {A : Type 0} → Option Site → Option A → Option A
if_site None x = None
if_site (Some s) x = x

-- the same of an output; None where the path is none
abbrev pub output_entry : Base → Path → Option Entry
output_entry b q = if_site (get_by_text b.sites q) (entry_now b q)

-- the sight, where it is one of the path
abbrev pub own_sight : Path → Option Sight → Option Sight
own_sight q None = None
own_sight q (Some s) = if bytes_eq s.path q then Some s else None

-- what was seen at the path as the plan began or new jobs came
abbrev pub seen_before : Base → Path → Option Sight
seen_before b q = option_or (get_by_text b.later q) (sight_at b.seen q)

-- what was seen last at the path
abbrev pub sight_now : Base → Path → Option Sight
sight_now b q = own_sight q (row_at b.sights (get_by_text b.sites q) (seen_before b q))

-- ## Marks of outputs that are being restored

abbrev pub restores_at : List (Option State) → Option Site → Bool
restores_at began None = false
restores_at began (Some s) = test_some is_restore (joined (slice_get began s.job))

-- the path is an output of a job whose child runs as a Restore
abbrev pub restored_now : Base → Path → Bool
restored_now b q = restores_at b.began (get_by_text b.sites q)

-- a record, a mark that counts, or a note is there
abbrev pub is_left : Bool → Entry → Bool
is_left restored e = stands e.kept || ((e.marked && not restored) || e.noted)

-- without the mark, where it doesn't count; nothing where nothing is left then
abbrev pub settled : Bool → Option Entry → Option Entry
settled restored None = None
settled restored (Some e) =
    if is_left restored e then Some (record { kept = e.kept; marked = e.marked && not restored; noted = e.noted }) else None

-- what is known of the path, but for a mark that doesn't count
abbrev pub settled_now : Base → Path → Option Entry
settled_now b q = settled (restored_now b q) (entry_now b q)

-- ## The same as lists

abbrev pub known_one : Path → Option Entry → List Known
known_one q None = []
known_one q (Some e) = record { path = q; entry = e } ∷ []

-- what a function tells of these paths
abbrev pub known_table : (Path → Option Entry) → List Path → List Known
known_table f [] = []
known_table f (q ∷ qs) = known_one q (f q) ++ known_table f qs

abbrev pub seen_one : Option Sight → List Sight
seen_one None = []
seen_one (Some s) = s ∷ []

abbrev pub seen_table : (Path → Option Sight) → List Path → List Sight
seen_table f [] = []
seen_table f (q ∷ qs) = seen_one (f q) ++ seen_table f qs

abbrev pub output_names : Base → List Path
output_names b = texts_of (keys b.sites)

-- what is known of paths: of outputs, and of those of the store
abbrev pub known_now : Base → List Known
known_now b = known_table (settled_now b) (output_names b ++ map (λ (k : Known). k.path) b.store)

-- what was seen at paths
abbrev pub seen_now : Base → List Sight
seen_now b = seen_table (sight_now b) (output_names b ++ (texts_of (keys b.later) ++ map (λ (s : Sight). s.path) b.seen))
