-- The events of jobs with one output each, as logs are put together from them; and what makes a good log.
use Rattle.std.proofs.Common.{◌≡◌, ℕ, zero, suc, Bool, true, false, List, [], ◌∷◌, ◌++◌, codes, bytes_eq, Option, None, Ok, option_map, refl, sym, find, ◌&&◌, true≢false}
use Rattle.std.specs.List.{AllByRecursion}
use Rattle.std.specs.List.Sorted.{IsStrictlySortedBy}
use Rattle.std.specs.Cmp.Lexicographic.{slice_cmp}
use Rattle.std.specs.Ordering.{nat_cmp}
use Rattle.std.specs.declared.cmp.Ordering.{Ordering}
use Rattle.std.specs.declared.cmp.Ordering.TheVariants.{Less, Equal, Greater}
use Rattle.smk_base.specs.Place.{mark_place, record_place}
use Rattle.smk_world.specs.declared.event.Event.{Event}
use Rattle.smk_world.specs.declared.event.Change.{Change}
use Rattle.smk_world.specs.declared.event.Call.TheVariants.{Written, Created, Removed, MadeParents, Settled, Started, Waited}
use Rattle.smk_world.specs.World.{World, Nodes, IsFormed, IsRising, places_in, world_of}
use Rattle.smk_world.proofs.Names.{formed_image}
use Rattle.smk_world.specs.Trees.{Path}
use Rattle.smk_flow.specs.declared.job.Job.{Job}
use Rattle.smk_flow.specs.Flows.{Flow}
use Rattle.smk_record.specs.declared.record.Record.{Record}
use Rattle.smk_pick.specs.declared.settings.Settings.{Settings}
use Rattle.smk_drive.specs.Moments.{Rules}
use Rattle.smk_drive.proofs.Turns.{event, put}
use Rattle.smk_drive_course.specs.Lawful.{Lawful}
use Rattle.smk_drive_course.specs.Keeping.{KeepsOutputs}
use Rattle.smk_drive_course.specs.Refusals.{BeginsUnrefused}
use Rattle.smk_drive_rows.proofs.Truth.{and_left, and_right}
use Rattle.smk_drive_rows.proofs.Logs.{first_moment}
use Rattle.smk_drive_rows.proofs.Checker.{IsChecked, lawful}
use Rattle.smk_drive_rows.proofs.Unrefused.{unrefused_from, unrefused}
use Rattle.smk_drive_rows.proofs.Keeping.{Keeps, keeps}

-- ## A folder

abbrev is_less : Ordering → Bool
is_less Less = true
is_less Equal = false
is_less Greater = false

less_so : (o : Ordering) → is_less o ≡ true → o ≡ Less
less_so Less h = refl
less_so Equal h = absurd (true≢false (sym h))
less_so Greater h = absurd (true≢false (sym h))

abbrev are_above : Path → List Path → Bool
are_above p [] = true
are_above p (q ∷ qs) = is_less (slice_cmp nat_cmp p q) && are_above p qs

-- the places stand in byte order, each once
abbrev pub rise : List Path → Bool
rise [] = true
rise (p ∷ ps) = are_above p ps && rise ps

all_above : (p : Path) (qs : List Path) → are_above p qs ≡ true → AllByRecursion (λ q. slice_cmp nat_cmp p q ≡ Less) qs
all_above p [] t = tt
all_above p (q ∷ qs) t = (less_so (slice_cmp nat_cmp p q) (and_left (is_less (slice_cmp nat_cmp p q)) (are_above p qs) t), all_above p qs (and_right (is_less (slice_cmp nat_cmp p q)) (are_above p qs) t))

rising : (ps : List Path) → rise ps ≡ true → IsRising ps
unfolding IsStrictlySortedBy
rising [] t = tt
rising (p ∷ ps) t = (all_above p ps (and_left (are_above p ps) (rise ps) t), rising ps (and_right (are_above p ps) (rise ps) t))

-- the world of a folder is formed
pub formed_of : (nodes : Nodes) → rise (places_in nodes) ≡ true → IsFormed (world_of nodes)
formed_of nodes t = formed_image nodes (rising (places_in nodes) t)

-- ## What a run goes by

-- how bytes read, by a table
abbrev pub reader_of : List (List ℕ × Record) → List ℕ → Option Record
reader_of table bytes = option_map (λ (e : List ℕ × Record). e.1) (find (λ (e : List ℕ × Record). bytes_eq e.0 bytes) table)

abbrev pub rules_by : Flow → Settings → (List ℕ → Option Record) → Rules
rules_by flow settings read =
    record { flow = flow; settings = settings; nolock = true; read = read; missing = λ j. None; command = λ j n. codes "?" }

-- ## A job with the output p

-- its mark is made and settled, and its output removed
abbrev pub marking : Path → List Event
marking p =
    event (MadeParents (mark_place p) (Ok tt)) []
    ∷ event (Created (mark_place p) (Ok true)) (put (mark_place p) [] ∷ [])
    ∷ event (Settled (mark_place p ∷ []) (Ok tt)) []
    ∷ event (Removed p (Ok tt)) []
    ∷ event (MadeParents p (Ok tt)) []
    ∷ []

abbrev pub start : ℕ → Job → Event
start number j = event (Started j.recipe j.logs (codes "?") (Ok number)) []

-- its child ends
abbrev pub ends : ℕ → ℕ → List Change → Event
ends number status left = event (Waited (Ok (record { number = number; status = status }))) left

-- its output is settled, its record written and settled
abbrev pub recording : Path → List ℕ → List Event
recording p bytes =
    event (Settled (p ∷ []) (Ok tt)) []
    ∷ event (MadeParents (record_place p) (Ok tt)) []
    ∷ event (Written (record_place p) bytes (Ok tt)) (put (record_place p) bytes ∷ [])
    ∷ event (Settled (record_place p ∷ []) (Ok tt)) []
    ∷ []

abbrev pub unmarking : Path → List Event
unmarking p = event (Removed (mark_place p) (Ok tt)) [] ∷ event (Settled (mark_place p ∷ []) (Ok tt)) [] ∷ []

abbrev pub keeping : Path → List ℕ → List Event
keeping p bytes = recording p bytes ++ unmarking p

-- its output and record are removed, and then its mark
abbrev pub losing : Path → List Event
losing p =
    event (Removed p (Ok tt)) []
    ∷ event (Removed (record_place p) (Ok tt)) []
    ∷ event (Settled (p ∷ record_place p ∷ []) (Ok tt)) []
    ∷ unmarking p

-- the whole of a job that is done; its record is spelled as its path
abbrev pub doing : ℕ → Path → List ℕ → Job → List Event
doing number p bytes j = marking p ++ (start number j ∷ (ends number 0 (put p bytes ∷ []) ∷ keeping p p))

-- the job with this place in the list, for what is made of it
abbrev pub of_job : {A : Type 0} → List Job → ℕ → (Job → List A) → List A
of_job [] n f = []
of_job (j ∷ js) zero f = f j
of_job (j ∷ js) (suc n) f = of_job js n f

-- ## A good log

-- Lawful; no job begins at or after a refusal; and outputs are kept and taken away as they should.
pub record IsGood (rules : Rules) (entry : World) (log : List Event) (status : ℕ) : Type 0 where
  pub lawful : Lawful rules entry log status
  pub unrefused : BeginsUnrefused rules entry log
  pub keeps : KeepsOutputs rules entry log status

pub good :
    (rules : Rules) (entry : World) (log : List Event) (status : ℕ) →
    IsFormed entry → IsChecked rules entry log status → unrefused_from rules entry [] (first_moment rules entry) log ≡ true → Keeps rules entry log → IsGood rules entry log status
good rules entry log status formed checked free kept =
    record {
      lawful = lawful rules entry formed log status checked;
      unrefused = unrefused rules entry formed log checked.settled free;
      keeps = keeps rules entry formed log status checked.settled kept;
    }
