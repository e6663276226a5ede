-- Times that were seen before: which paths are refused, each in its turn; and what is told of those that aren't.
use Rattle.std.specs.Prelude.{ℕ, Bool, false, ◌&&◌, ◌||◌, not, List, [], ◌∷◌, ◌++◌, filter, ◌==◌, bytes_eq, if◌then◌else◌, Option, Some, None}
use Rattle.std.specs.List.{list_any}
use Rattle.smk_base.specs.Path.{is_at_or_under}
use Rattle.smk_world.specs.World.{World}
use Rattle.smk_world.specs.Trees.{Path, among}
use Rattle.smk_record.specs.declared.record.Record.{Record}
use Rattle.smk_record.specs.declared.record.Stamp.{Stamp}
use Rattle.smk_record.specs.Reading.{record_in}
use Rattle.smk_record.specs.Records.{source_time, stamped}
use Rattle.smk_store.specs.declared.store.Kept.TheVariants.{Absent}
use Rattle.smk_store.specs.Images.{Image, Content, file_at, core_at, is_known}
use Rattle.smk_store.specs.Images as images
use Rattle.smk_report.specs.Lines.{Text, forgotten_line}

-- the world as it reads
abbrev pub seen : World → Image
seen w = images.seen record_in w

-- the call may go on: no lock stands at the entry, or none is heeded
abbrev pub is_let_in : Bool → World → Bool
is_let_in nolock entry = nolock || not (seen entry).locked

-- ## Times that were seen before

abbrev test_some : {A : Type 0} → (A → Bool) → Option A → Bool
test_some test None = false
test_some test (Some x) = test x

abbrev pub is_time : Option ℕ → ℕ → Bool
is_time None t = false
is_time (Some u) t = u == t

-- the record holds this time of that source
abbrev pub holds_time : Path → ℕ → Record → Bool
holds_time q t r = list_any (λ (e : Path × Stamp). bytes_eq e.0 q && is_time (source_time e.1) t) (stamped r)

-- a record that reads holds it
abbrev pub is_time_held : Image → Path → ℕ → Bool
is_time_held image q t = list_any (λ p. test_some (holds_time q t) (core_at image p)) image.known

-- the files at and under the path, in byte order, whose time now a record holds as theirs
abbrev pub seen_before : Image → Path → List Path
seen_before image p =
    filter (λ q. is_at_or_under q p && test_some (λ (f : Content). is_time_held image q f.time) (file_at image q)) image.names

-- ## In turn

-- the image with nothing known of the path
abbrev pub forgotten : Image → Path → Image
forgotten image p =
    record image {
      kept = λ q. if bytes_eq q p then Absent else image.kept q;
      marked = λ q. not (bytes_eq q p) && image.marked q;
      noted = λ q. not (bytes_eq q p) && image.noted q;
      known = filter (λ q. not (bytes_eq q p)) image.known;
    }

-- the same, each path in its turn, when those before are forgotten
abbrev pub seen_in_turn : Image → List Path → List Path
seen_in_turn image [] = []
seen_in_turn image (p ∷ paths) = seen_before image p ++ seen_in_turn (forgotten image p) paths

abbrev pub unless_any : List Path → List Path → List Path
unless_any [] paths = paths
unless_any (q ∷ qs) paths = []

-- the paths before the first that is refused
abbrev pub forgettable : Image → List Path → List Path
forgettable image [] = []
forgettable image (p ∷ paths) = unless_any (seen_before image p) (p ∷ forgettable (forgotten image p) paths)

-- the line of each path in its turn; a path that comes again is known no more
abbrev pub forgotten_lines : Image → List Path → List Path → Text
forgotten_lines image done [] = []
forgotten_lines image done (p ∷ paths) =
    forgotten_line (is_known image p && not (among done p)) p ++ forgotten_lines image (p ∷ done) paths
