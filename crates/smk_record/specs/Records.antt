-- Stamps and records: which records are valid, and when a recorded stamp agrees with another.
use Rattle.std.specs.Prelude.{ℕ, Bool, true, false, ◌&&◌, ◌||◌, not, List, [], ◌∷◌, map, zip, length, ◌==◌, nat_lt, nat_le, bytes_eq, if◌then◌else◌, Option, Some, None, is_some}
use Rattle.std.specs.List.{list_any, list_all, flat_map}
use Rattle.std.specs.Cmp.Lexicographic.{slice_cmp}
use Rattle.std.specs.Ordering.{nat_cmp}
use Rattle.std.specs.declared.cmp.Ordering.{Ordering}
use Rattle.std.specs.declared.cmp.Ordering.TheVariants.{Less, Equal, Greater}
use Rattle.smk_base.specs.declared.tree.Pair.{Pair}
use Rattle.smk_world.specs.World.{in_paths, out_paths, folders_above}
use Rattle.smk_world.specs.Trees.{Path, among, folders_of, are_members, is_path_text}
use Rattle.smk_record.specs.declared.record.Stamp.{Stamp}
use Rattle.smk_record.specs.declared.record.Stamp.TheVariants.{Time, Sum, Made}
use Rattle.smk_record.specs.declared.record.Member.{Member}
use Rattle.smk_record.specs.declared.record.Record.{Record}
use Rattle.smk_world.specs.declared.recipe.Recipe.{Recipe}

-- ## Stamps

-- equal
abbrev pub same_stamp : Stamp → Stamp → Bool
same_stamp (Time t) (Time u) = t == u
same_stamp (Time t) (Sum u s) = false
same_stamp (Time t) (Made m) = false
same_stamp (Sum t s) (Time u) = false
same_stamp (Sum t s) (Sum u r) = t == u && bytes_eq s.0 r.0
same_stamp (Sum t s) (Made m) = false
same_stamp (Made m) (Time t) = false
same_stamp (Made m) (Sum t s) = false
same_stamp (Made m) (Made n) = m == n

-- Two stamps of a source agree where they have the same time, or both have a SHA-256 and it is the same; two of products where they
-- have the same serial.
abbrev pub agree : Stamp → Stamp → Bool
agree (Time t) (Time u) = t == u
agree (Time t) (Sum u s) = t == u
agree (Time t) (Made m) = false
agree (Sum t s) (Time u) = t == u
agree (Sum t s) (Sum u r) = t == u || bytes_eq s.0 r.0
agree (Sum t s) (Made m) = false
agree (Made m) (Time t) = false
agree (Made m) (Sum t s) = false
agree (Made m) (Made n) = m == n

-- A recorded stamp agrees with the stamp now, where there is one. Nothing else compares the two.
abbrev pub agrees : Stamp → Option Stamp → Bool
agrees recorded None = false
agrees recorded (Some now) = agree recorded now

-- the time of a source that was stamped
abbrev pub source_time : Stamp → Option ℕ
source_time (Time t) = Some t
source_time (Sum t s) = Some t
source_time (Made m) = None

-- what was stamped was a source
abbrev pub is_of_source : Stamp → Bool
is_of_source s = is_some (source_time s)

-- the inputs of a record, each with its stamp
abbrev pub stamped : Record → List (Path × Stamp)
stamped r = zip (in_paths r.recipe) r.stamps

-- the serial that a stamp names
abbrev pub serial_in : Stamp → List ℕ
serial_in (Time t) = []
serial_in (Sum t s) = []
serial_in (Made m) = m ∷ []

-- the serials that a record names: its own, and those of its inputs
abbrev pub serials : Record → List ℕ
serials r = r.made ∷ flat_map serial_in r.stamps

-- ## Members

abbrev pub same_pair : Pair → Pair → Bool
same_pair p q = bytes_eq p.name q.name && bytes_eq p.value q.value

abbrev pub same_flag : Bool → Bool → Bool
same_flag true b = b
same_flag false b = not b

abbrev pub same_member : Member → Member → Bool
same_member a b = same_flag a.folder b.folder && bytes_eq a.name b.name

abbrev pub members_of : Option Record → List Member
members_of None = []
members_of (Some r) = r.members

-- the record of these parts, in the format that is written
abbrev pub record_of : Path → ℕ → Recipe → List Stamp → List Member → Record
record_of path made recipe stamps members =
    record { format = 2; path = path; made = made; recipe = recipe; stamps = stamps; members = members }

-- a record but for its members: all that says how the output was made
abbrev pub core : Record → Record
core r = record r { members = [] }

-- ## Validity

-- a product stamp is below the serial
abbrev pub is_earlier : ℕ → Stamp → Bool
is_earlier made (Time t) = true
is_earlier made (Sum t s) = true
is_earlier made (Made m) = nat_lt m made

-- the formats that are read
abbrev pub is_format : ℕ → Bool
is_format format = format == 1 || format == 2

-- a SHA-256 stands in format 2 alone
abbrev pub is_in_format : ℕ → Stamp → Bool
is_in_format format (Time t) = true
is_in_format format (Sum t s) = format == 2
is_in_format format (Made m) = true

abbrev pub is_less : Ordering → Bool
is_less Less = true
is_less Equal = false
is_less Greater = false

-- each before the next in byte order
abbrev pub are_rising : List Path → Bool
are_rising [] = true
are_rising (p ∷ []) = true
are_rising (p ∷ q ∷ rest) = is_less (slice_cmp nat_cmp p q) && are_rising (q ∷ rest)

abbrev pub is_member_folder : List Member → Path → Bool
is_member_folder members folder = list_any (λ (m : Member). m.folder && bytes_eq m.name folder) members

-- paths that rise, at most 20,000, and each folder above one is a member too
abbrev pub are_valid_members : Path → List Member → Bool
are_valid_members p members =
    are_members p (map (λ (m : Member). m.name) members)
    && (are_rising (map (λ (m : Member). m.name) members)
    && list_all (λ (m : Member). list_all (is_member_folder members) (folders_above m.name)) members)

abbrev pub are_none : List Member → Bool
are_none [] = true
are_none (m ∷ ms) = false

-- A record is valid where it has one stamp for each input, its path is among its outputs, its serial is at least 1 and above
-- those of its inputs, its wildcards rise by name, its paths are paths in UTF-8, it has members only where its path is a directory, and
-- its format is one that is read and may have its stamps.
abbrev pub is_valid : Record → Bool
is_valid r =
    list_all (λ (b : Bool). b)
    ((length r.stamps == length (in_paths r.recipe))
    ∷ among (out_paths r.recipe) r.path
    ∷ nat_le 1 r.made
    ∷ list_all (is_earlier r.made) r.stamps
    ∷ are_rising (map (λ (w : Pair). w.name) r.recipe.wildcards)
    ∷ list_all is_path_text (in_paths r.recipe)
    ∷ list_all is_path_text (out_paths r.recipe)
    ∷ (if among (folders_of r.recipe) r.path then are_valid_members r.path r.members else are_none r.members)
    ∷ (is_format r.format && list_all (is_in_format r.format) r.stamps)
    ∷ [])
