-- What a store and sights tell of jobs, with no word of an image: stamps, facts, what forces a job, and what is whole.
use Rattle.std.specs.Prelude.{◌≡◌, ℕ, zero, suc, ◌==◌, Bool, true, false, ◌&&◌, ◌||◌, not, List, [], ◌∷◌, map, bytes_eq, if◌then◌else◌, Option, Some, None, is_some, slice_set}
use Rattle.std.specs.List.{list_any, list_all, find, flat_map, slice_get}
use Rattle.std.specs.Option.{option_and_then, option_or}
use Rattle.std.specs.BTreeSet.{contains_text}
use lib.Pointwise.{pointwise}
use Rattle.smk_base.specs.Path.{is_under}
use Rattle.smk_base.specs.declared.sum.Sum.{Sum as Digest}
use Rattle.smk_world.specs.declared.event.Stat.{Stat}
use Rattle.smk_world.specs.declared.event.Stat.TheVariants.{Nothing, File, Folder}
use Rattle.smk_world.specs.declared.recipe.Kind.{Kind}
use Rattle.smk_world.specs.declared.recipe.Kind.TheVariants.{Plain, Folder as FolderKind}
use Rattle.smk_world.specs.declared.recipe.Item.{Item}
use Rattle.smk_world.specs.declared.recipe.Out.{Out}
use Rattle.smk_world.specs.declared.recipe.OutItem.{OutItem}
use Rattle.smk_world.specs.World.{in_paths, folders_above}
use Rattle.smk_world.specs.Trees.{Path, among, below, is_folder_kind, is_path_text}
use Rattle.smk_record.specs.declared.record.Member.{Member}
use Rattle.smk_record.specs.declared.record.Record.{Record}
use Rattle.smk_record.specs.declared.record.Stamp.{Stamp}
use Rattle.smk_record.specs.declared.record.Stamp.TheVariants.{Time, Sum}
use Rattle.smk_record.specs.Records.{is_valid, same_member, are_rising}
use Rattle.smk_flow.specs.declared.job.Job.{Job}
use Rattle.smk_store.specs.declared.store.Entry.{Entry}
use Rattle.smk_store.specs.declared.store.Kept.{Kept}
use Rattle.smk_store.specs.declared.store.Kept.TheVariants.{Absent, Unreadable, Held}
use Rattle.smk_store.specs.Images.{readable}
use Rattle.smk_store.specs.Stores.{Known, entry_of, is_covered_in}
use Rattle.smk_store.specs.Trust.{is_folder_record, made_stamp}
use Rattle.smk_chain.specs.declared.jobs.Jobs.{Jobs}
use Rattle.smk_chain.specs.declared.jobs.Maker.{Maker}
use Rattle.smk_trigger.specs.declared.facts.JobFacts.{JobFacts}
use Rattle.smk_pick.specs.declared.settings.Settings.{Settings}
use Rattle.smk_plan.specs.declared.seen.Sight.{Sight}
use Rattle.smk_plan.specs.declared.wholes.Wholes.{Wholes}
use Rattle.smk_plan.specs.States.{job_path, by_force, makes, test_some}
use Rattle.smk_plan.specs.Sights.{sight_at}
use Rattle.smk_plan_facts.specs.declared.forced.Forcing.{Forcing}
use Rattle.smk_plan_facts.specs.declared.directories.Directory.{Directory}

-- ## What is known of a path

abbrev pub kept_of : Option Entry → Kept
kept_of None = Absent
kept_of (Some e) = e.kept

abbrev pub or_absent : Option Kept → Kept
or_absent None = Absent
or_absent (Some k) = k

abbrev pub mark_of : Option Entry → Bool
mark_of None = false
mark_of (Some e) = e.marked

-- a copy of it: a record only where it is valid
abbrev pub copied : Kept → Kept
copied Absent = Absent
copied Unreadable = Unreadable
copied (Held r) = if is_valid r then Held r else Unreadable

abbrev pub held_by : Option Record → Kept
held_by None = Unreadable
held_by (Some r) = Held r

-- the stamp of what the record speaks for
abbrev pub stamp_by : Option Entry → Option Stamp
stamp_by e = if mark_of e then None else made_stamp (readable (kept_of e))

-- ## Stamps

-- the output is a directory at the path
abbrev pub is_directory_at : Path → Out → Bool
is_directory_at p o = is_folder_kind o.kind && bytes_eq p o.path

abbrev pub makes_directory_at : Path → OutItem → Bool
makes_directory_at p item = list_any (is_directory_at p) item.outs

-- the folder's stamp, where its record is a directory's, and else the one that was found
abbrev pub nearer : Option Entry → Path → Option Stamp → Option Stamp
nearer e folder found = if is_folder_record folder (readable (kept_of e)) then stamp_by e else found

-- the stamp of the last of these folders with the record of a directory, and else the one that was found
abbrev pub nearest : List Known → Option Stamp → List Path → Option Stamp
nearest store found [] = found
nearest store found (f ∷ folders) = nearest store (nearer (entry_of store f) f found) folders

-- the stamp of a product
abbrev pub product_in : List Known → Path → Option Stamp
product_in store p =
    if is_some (readable (kept_of (entry_of store p))) then stamp_by (entry_of store p) else nearest store None (folders_above p)

-- the stamp of a source of this time, with its digest where that was taken
abbrev pub stamp_with : ℕ → Option Digest → Stamp
stamp_with t None = Time t
stamp_with t (Some d) = Sum t d

-- the stamp of a file
abbrev pub file_stamp : Stat → Option Digest → Option Stamp
file_stamp Nothing sum = None
file_stamp (File time read_only) sum = Some (stamp_with time sum)
file_stamp Folder sum = None

abbrev pub stamp_seen : Option Sight → Option Stamp
stamp_seen None = None
stamp_seen (Some s) = file_stamp s.stat s.sum

-- the stamp of a path that is told to be a source, where it is one
abbrev pub source_in : List Known → List Sight → Bool → Path → Option Stamp
source_in store sights told p = if told && not (is_covered_in store p) then stamp_seen (sight_at sights p) else None

-- the stamp now, where these paths are told to be sources
abbrev pub stamp_in : List Known → List Sight → (Path → Bool) → Path → Option Stamp
stamp_in store sights told p = option_or (source_in store sights (told p) p) (product_in store p)

-- ## What forces a job

abbrev pub forced_by : Settings → List Path → Job → Bool
forced_by settings ran j = not (among ran (job_path j)) && by_force settings.force (list_any (makes j) settings.targets)

-- By these sets it is told what forces a job: of the jobs that ran, of the targets, and of the folders above them.
pub record Tells (settings : Settings) (ran : List Path) (f : Forcing) : Type 0 where
  pub force : f.force ≡ settings.force
  pub begun : (q : Path) → contains_text f.ran q ≡ among ran q
  pub targets : (q : Path) → contains_text f.targets q ≡ among settings.targets q
  pub above : (q : Path) → contains_text f.above q ≡ list_any (λ t. is_under t q) settings.targets

-- by the sets: a target is the output, or lies under it where it is a directory
abbrev pub is_aimed : Forcing → Out → Bool
is_aimed f o = contains_text f.targets o.path || (is_folder_kind o.kind && contains_text f.above o.path)

-- one of these outputs is such
abbrev pub aims : Forcing → List Out → Bool
aims f outs = list_any (is_aimed f) outs

abbrev pub aims_at : Forcing → OutItem → Bool
aims_at f item = aims f item.outs

abbrev pub forced_in : Forcing → Job → Bool
forced_in f j = not (contains_text f.ran (job_path j)) && by_force f.force (list_any (aims_at f) j.recipe.outputs)

-- ## Facts

abbrev pub copied_at : List Known → Out → Kept
copied_at store o = copied (kept_of (entry_of store o.path))

abbrev pub marked_at : List Known → Out → Bool
marked_at store o = mark_of (entry_of store o.path)

abbrev pub facts_in : List Known → List Sight → (Path → Bool) → (Job → Bool) → Job → JobFacts
facts_in store sights told forced j =
    record {
      recipe = j.recipe;
      kept = flat_map (λ (item : OutItem). map (copied_at store) item.outs) j.recipe.outputs;
      marked = flat_map (λ (item : OutItem). map (marked_at store) item.outs) j.recipe.outputs;
      stamps = flat_map (λ (item : Item). map (stamp_in store sights told) item.paths) j.recipe.inputs;
      forced = forced j;
    }

-- each input of the job is a path, as a text
abbrev pub has_path_texts : Job → Bool
has_path_texts j = list_all is_path_text (in_paths j.recipe)

-- ## What is whole

abbrev pub is_file_stat : Stat → Bool
is_file_stat Nothing = false
is_file_stat (File time read_only) = true
is_file_stat Folder = false

abbrev pub is_folder_stat : Stat → Bool
is_folder_stat Nothing = false
is_folder_stat (File time read_only) = false
is_folder_stat Folder = true

-- the members that were seen are those of the record
abbrev pub are_recorded : Option (List Member) → Option Record → Bool
are_recorded members None = false
are_recorded members (Some r) = test_some (λ ms. pointwise same_member ms r.members) members

abbrev pub is_whole_sight : Option Record → Kind → Sight → Bool
is_whole_sight r Plain s = is_file_stat s.stat
is_whole_sight r FolderKind s = is_folder_stat s.stat && are_recorded s.members r

-- the output is whole
abbrev pub is_whole_in : List Known → List Sight → Path → Kind → Bool
is_whole_in store sights p kind = test_some (is_whole_sight (readable (kept_of (entry_of store p))) kind) (sight_at sights p)

abbrev pub directory_in : List Known → List Sight → Path → Directory
directory_in store sights p = record { path = p; whole = is_whole_in store sights p FolderKind }

abbrev pub whole_at : List Known → List Sight → Out → Bool
whole_at store sights o = is_whole_in store sights o.path o.kind

-- the output, where it is a directory
abbrev pub directory_at : List Known → List Sight → Out → List Directory
directory_at store sights o = if is_folder_kind o.kind then directory_in store sights o.path ∷ [] else []

-- the directories of a job, each with whether it is whole
abbrev pub directories_of : List Known → List Sight → Job → List Directory
directories_of store sights j = flat_map (λ (item : OutItem). flat_map (directory_at store sights) item.outs) j.recipe.outputs

-- which outputs of a job are whole
abbrev pub outputs_in : List Known → List Sight → Job → List Bool
outputs_in store sights j = flat_map (λ (item : OutItem). map (whole_at store sights) item.outs) j.recipe.outputs

abbrev pub member_names : List Member → List Path
member_names members = map (λ (m : Member). m.name) members

-- a file of this name is among the members
abbrev pub is_file_member : List Member → Path → Bool
is_file_member members name = test_some (λ (m : Member). not m.folder) (find (λ (m : Member). bytes_eq m.name name) members)

abbrev pub or_no_members : Option (List Member) → List Member
or_no_members None = []
or_no_members (Some members) = members

-- the members that were seen at the path
abbrev pub members_at : List Sight → Path → List Member
members_at sights p = or_no_members (option_and_then (λ (s : Sight). s.members) (sight_at sights p))

-- the members of the directory rise by name, where it is whole
abbrev pub IsSorted : List Sight → Directory → Type 0
IsSorted sights d = d.whole ≡ true → are_rising (member_names (members_at sights d.path)) ≡ true

-- a test for that
abbrev pub is_sorted_in : List Sight → Directory → Bool
is_sorted_in sights d = not d.whole || are_rising (member_names (members_at sights d.path))

abbrev pub are_sorted_in : List Sight → List Directory → Bool
are_sorted_in sights directories = list_all (is_sorted_in sights) directories

-- the directory is whole, and the path is a file in it
abbrev pub is_member_in : List Sight → Path → Directory → Bool
is_member_in sights q d = d.whole && is_file_member (members_at sights d.path) (below d.path q)

-- a file was seen at the path
abbrev pub is_plain_in : List Sight → Path → Bool
is_plain_in sights q = test_some (λ (s : Sight). is_file_stat s.stat) (sight_at sights q)

-- the directory at the path, or else the file, is whole
abbrev pub is_output_in : List Sight → Path → Option Directory → Bool
is_output_in sights q None = is_plain_in sights q
is_output_in sights q (Some d) = d.whole

abbrev pub is_made_by : List Sight → Path → Option Directory → Option Directory → Bool
is_made_by sights q at None = is_output_in sights q at
is_made_by sights q at (Some over) = is_member_in sights q over

-- the path is whole, as what a job with these directories makes there
abbrev pub is_made_in : List Sight → Path → List Directory → Bool
is_made_in sights q directories =
    is_made_by sights q (find (λ (d : Directory). bytes_eq d.path q) directories) (find (λ (d : Directory). is_under q d.path) directories)

-- the element of a number
abbrev pub nth : {A : Type 0} → List A → ℕ → Option A
nth [] n = None
nth (x ∷ xs) zero = Some x
nth (x ∷ xs) (suc n) = nth xs n

-- what the maker tells of is whole, where these are the directories of the jobs
abbrev pub is_told_whole : List Sight → List (List Directory) → Maker → Bool
is_told_whole sights directories m = test_some (is_made_in sights m.path) (option_and_then (nth directories) m.job)

-- which outputs and which paths that are told of are whole
abbrev pub wholes_in : List Known → List Sight → Jobs → Wholes
wholes_in store sights jobs =
    record {
      outputs = map (outputs_in store sights) jobs.jobs;
      makers = map (is_told_whole sights (map (directories_of store sights) jobs.jobs)) jobs.makers;
    }

-- ## Flags that are told anew

abbrev pub is_number : ℕ → Option ℕ → Bool
is_number n None = false
is_number n (Some k) = k == n

-- for each maker its flag: a fresh one where it is the job of the number n that is told to make the path, and else the one that was there
abbrev pub flags_but : (Maker → Bool) → ℕ → List Maker → List Bool → List Bool
flags_but fresh n [] flags = []
flags_but fresh n (m ∷ makers) [] = []
flags_but fresh n (m ∷ makers) (b ∷ flags) = (if is_number n m.job then fresh m else b) ∷ flags_but fresh n makers flags

-- among these numbers is that of each maker that names the job of the number n
abbrev pub AreNumbersOf : ℕ → List Maker → List ℕ → Type 0
AreNumbersOf n makers numbers = (m : ℕ) (k : Maker) → slice_get makers m ≡ Some k → is_number n k.job ≡ true → list_any (λ (x : ℕ). x == m) numbers ≡ true

-- the flag in a place, a fresh one where the maker there names the job of the number n
abbrev pub flag_in : (Maker → Bool) → ℕ → Option Maker → Option Bool → Option Bool
flag_in fresh n None flag = None
flag_in fresh n (Some m) None = None
flag_in fresh n (Some m) (Some b) = Some (if is_number n m.job then fresh m else b)

abbrev pub put_some : List Bool → ℕ → Option Bool → List Bool
put_some flags at None = flags
put_some flags at (Some b) = slice_set flags at b

-- the flags with that in the place told so
abbrev pub flags_at : (Maker → Bool) → ℕ → List Maker → List Bool → ℕ → List Bool
flags_at fresh n makers flags at = put_some flags at (flag_in fresh n (slice_get makers at) (slice_get flags at))

-- the same in each of the places
abbrev pub flags_each : (Maker → Bool) → ℕ → List Maker → List ℕ → List Bool → List Bool
flags_each fresh n makers [] flags = flags
flags_each fresh n makers (at ∷ numbers) flags = flags_each fresh n makers numbers (flags_at fresh n makers flags at)

-- the maker's path is whole, as what this job makes there
abbrev pub is_made_of : List Known → List Sight → Job → Maker → Bool
is_made_of store sights j m = is_made_in sights m.path (directories_of store sights j)

-- which paths that are told of are whole
abbrev pub makers_in : List Known → List Sight → Jobs → List Bool
makers_in store sights jobs = map (is_told_whole sights (map (directories_of store sights) jobs.jobs)) jobs.makers
