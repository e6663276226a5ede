-- The stamps of a job's inputs as its turn comes.
use Rattle.std.specs.Prelude.{◌≡◌, ◌⊎◌, ◌<◌, ℕ, Bool, true, false, List, [], ◌∷◌, ◌++◌, Option, Some, None, Result, Ok, Err, String}
use Rattle.std.specs.Global.{Global}
use Rattle.std.specs.BTreeMap.{BTreeMap, get_by_text}
use Rattle.std.specs.Option.{option_and_then}
use Rattle.std.specs.List.{flat_map}
use Rattle.smk_world.specs.declared.event.Call.TheVariants.{Looked}
use Rattle.smk_world.specs.declared.event.Event.{Event}
use Rattle.smk_world.specs.declared.event.Stat.{Stat}
use Rattle.smk_world.specs.declared.event.Stat.TheVariants.{Nothing, File, Folder}
use Rattle.smk_world.specs.Requests.{Request}
use Rattle.smk_world.specs.Requests.Request.{Look}
use Rattle.smk_world.specs.Trees.{Path}
use Rattle.smk_world.specs.World.{World}
use Rattle.smk_record.specs.declared.record.Stamp.{Stamp}
use Rattle.smk_record.specs.declared.record.Stamp.TheVariants.{Time, Made}
use Rattle.smk_record.specs.Spelling.{is_writable_stamp}
use Rattle.smk_job.specs.Jobs.{IsPart}
use Rattle.smk_run.specs.declared.stop.Stop.{Stop}
use Rattle.smk_run.specs.declared.stop.Stop.TheVariants.{TooLong, Gone, Device, Output, OutOfMemory}

-- the serials of products that jobs of a run make; none for a source
abbrev pub Serials : Type 0
Serials = Path → Option ℕ

-- a source is looked at
abbrev pub look_at : Option ℕ → Path → List Request
look_at (Some serial) p = []
look_at None p = Look p ∷ []

-- the looks at the sources among these paths
abbrev pub looks : Serials → List Path → List Request
looks made paths = flat_map (λ p. look_at (made p) p) paths

-- a file was seen there, with this time
abbrev pub IsTimed : Path → Stamp → Event → Type 0
IsTimed p stamp e = (time : ℕ) × (read_only : Bool) × (e.call ≡ Looked p (Ok (File time read_only))) × (stamp ≡ Time time)

-- The stamp of a product is its serial; that of a source the time that a look at it found.
abbrev pub IsStamped : Option ℕ → Path → Stamp → List Event → Type 0
IsStamped (Some serial) p stamp es = (stamp ≡ Made serial) × (es ≡ [])
IsStamped None p stamp es = (e : Event) × (es ≡ e ∷ []) × IsTimed p stamp e

-- the inputs at these paths have these stamps, in order
abbrev pub AreStamped : Serials → List Path → List Stamp → List Event → Type 0
AreStamped made [] [] es = es ≡ []
AreStamped made [] (s ∷ stamps) es = ⊥
AreStamped made (p ∷ paths) [] es = ⊥
AreStamped made (p ∷ paths) (s ∷ stamps) es =
    (first : List Event) × (more : List Event) × (es ≡ first ++ more) × IsStamped (made p) p s first × AreStamped made paths stamps more

abbrev pub is_file : Stat → Bool
is_file Nothing = false
is_file (File time read_only) = true
is_file Folder = false

-- the last event is a look at the path that found no file
abbrev pub EndsGone : Path → List Event → Type 0
EndsGone p es = (before : List Event) × (e : Event) × (es ≡ before ++ e ∷ []) × ((stat : Stat) × (e.call ≡ Looked p (Ok stat)) × (is_file stat ≡ false))

-- the looks at the inputs gave all stamps, or ended early
abbrev pub HasStamped : Serials → List Path → Result (List Stamp) Stop → World → List Event → Type 0
HasStamped made paths (Ok stamps) w es = AreStamped made paths stamps es
HasStamped made paths (Err (Gone p)) w es = IsPart (looks made paths) es × EndsGone p es
HasStamped made paths (Err stop) w es = IsPart (looks made paths) es

-- ## Steps

-- a file was seen there at this time, or the look ended otherwise
abbrev pub HasTimed : Path → Result ℕ Stop → World → List Event → Type 0
HasTimed p (Ok time) w es = (e : Event) × (es ≡ e ∷ []) × IsTimed p (Time time) e
HasTimed p (Err (Gone q)) w es = IsPart (Look p ∷ []) es × EndsGone q es
HasTimed p (Err stop) w es = IsPart (Look p ∷ []) es

-- the stamp of one input, or why there is none
abbrev pub HasStamp : Option ℕ → Path → Result Stamp Stop → World → List Event → Type 0
HasStamp m p (Ok stamp) w es = IsStamped m p stamp es
HasStamp m p (Err (Gone q)) w es = IsPart (look_at m p) es × EndsGone q es
HasStamp m p (Err stop) w es = IsPart (look_at m p) es

-- the stamp of one input was added, or why not
abbrev pub HasPushed : Option ℕ → Path → List Stamp → List Stamp → Result (Unit {0}) Stop → World → List Event → Type 0
HasPushed m p old new (Ok u) w es = (stamp : Stamp) × (new ≡ old ++ stamp ∷ []) × IsStamped m p stamp es
HasPushed m p old new (Err (Gone q)) w es = IsPart (look_at m p) es × EndsGone q es
HasPushed m p old new (Err stop) w es = IsPart (look_at m p) es

-- what a look may end with
abbrev pub is_of_look : Stop → Bool
is_of_look (TooLong bytes) = false
is_of_look (Gone p) = true
is_of_look Device = true
is_of_look Output = false
is_of_look OutOfMemory = true

-- what a look may end with that didn't fail
abbrev pub is_refused_look : Stop → Bool
is_refused_look (TooLong bytes) = false
is_refused_look (Gone p) = true
is_refused_look Device = false
is_refused_look Output = false
is_refused_look OutOfMemory = true

-- the time of a file that was seen so; nothing else is one
abbrev pub IsTimeIn : Path → Stat → Result ℕ Stop → Type 0
IsTimeIn p (File time read_only) r = r ≡ Ok time
IsTimeIn p Nothing r = (r ≡ Err (Gone p)) ⊎ (r ≡ Err OutOfMemory)
IsTimeIn p Folder r = (r ≡ Err (Gone p)) ⊎ (r ≡ Err OutOfMemory)

-- a product's serial is below this
abbrev pub IsBelow : ℕ → Option ℕ → Type 0
IsBelow made None = Unit {0}
IsBelow made (Some serial) = serial < made

-- its number has at most 64 bits, and its SHA-256 32 bytes
abbrev pub is_small : Stamp → Bool
is_small stamp = is_writable_stamp stamp

-- ## Numbers by path

-- the number that a map has for the path, as the serial of a product; none for a source
abbrev pub number_at : BTreeMap (String Global) (Option ℕ) → Serials
number_at numbers p = option_and_then (λ (n : Option ℕ). n) (get_by_text numbers p)
