-- The lines of listings and of runs.
use Rattle.std.specs.Prelude.{ℕ, Bool, List, [], ◌∷◌, ◌++◌, map, decimal, codes, if◌then◌else◌}
use Rattle.std.specs.List.{flat_map, count_by}
use Rattle.smk_trigger.specs.declared.reason.Reason.{Reason}
use Rattle.smk_trigger.specs.declared.reason.Reason.TheVariants.{New, Marked, BadRecord, Code, Params, Inputs, Updated, Upstream, Forced}
use Rattle.smk_trigger.specs.declared.reason.State.{State}
use Rattle.smk_trigger.specs.declared.reason.State.TheVariants.{Open, Dirty, Restore, Clean}
use Rattle.smk_trigger.specs.JobStates.{is_clean, is_open, is_dirty, is_restore}

abbrev pub Text : Type 0
Text = List ℕ

-- texts with this one between
abbrev pub joined : Text → List Text → Text
joined between [] = []
joined between (t ∷ []) = t
joined between (t ∷ u ∷ rest) = t ++ (between ++ joined between (u ∷ rest))

-- what these are behind another: each with this text before it
abbrev pub later : {A : Type 0} → (A → Text) → Text → List A → Text
later text between = flat_map (λ x. between ++ text x)

-- words with a space between, and a line end
abbrev pub line : List Text → Text
line words = joined (codes " ") words ++ 10 ∷ []

-- A job in a report: the name of its rule, and its first output.
pub record Named : Type 0 where
  pub rule : Text
  pub path : Text

-- a line of a job: a word, its rule, its first output, and the rest
abbrev pub job_text : Text → Text → Text → Text → Text
job_text word rule path rest = word ++ (codes " " ++ (rule ++ (codes " " ++ (path ++ (rest ++ 10 ∷ [])))))

-- ## A listing

abbrev pub reason_word : Reason → Text
reason_word New = codes "new"
reason_word Marked = codes "marked"
reason_word BadRecord = codes "bad record"
reason_word Code = codes "code"
reason_word Params = codes "params"
reason_word Inputs = codes "inputs"
reason_word (Updated q) = codes "updated " ++ q
reason_word (Upstream q) = codes "upstream " ++ q
reason_word Forced = codes "forced"

abbrev pub reason_text : List Reason → Text
reason_text reasons = joined (codes ", ") (map reason_word reasons)

-- nothing for a Clean job
abbrev pub state_line : Named × State → Text
state_line (j, Open) = job_text (codes "open") j.rule j.path []
state_line (j, Dirty reasons) = job_text (codes "run") j.rule j.path (codes ": " ++ reason_text reasons)
state_line (j, Restore) = job_text (codes "restore") j.rule j.path []
state_line (j, Clean) = []

abbrev pub count : (State → Bool) → List State → Text
count test states = decimal (count_by test states)

abbrev pub plan_line : List State → Text
plan_line states =
    line
    (codes "plan:"
    ∷ count is_dirty states
    ∷ codes "to run,"
    ∷ count is_restore states
    ∷ codes "to restore,"
    ∷ count is_open states
    ∷ codes "open,"
    ∷ count is_clean states
    ∷ codes "clean"
    ∷ [])

-- the text of a listing, by the jobs of its plan in order
abbrev pub listing_lines : List (Named × State) → Text
listing_lines jobs = flat_map state_line jobs ++ plan_line (map (λ (e : Named × State). e.1) jobs)

-- ## A run

-- How a job's child ended: with all outputs good; with another status than 0; or with 0, and an output that is missing, of the
-- other kind, or a directory beyond the limits on its members.
pub data Ending : Type 0 where
  Good : Ending
  Status : ℕ → Ending
  NoOutput : Text → Ending
  WrongKind : Text → Ending
  BadMember : Text → Ending

-- what is said of a job that failed
abbrev pub cause_text : Ending → Text
cause_text Good = []
cause_text (Status n) = codes "status " ++ decimal n
cause_text (NoOutput p) = codes "no output " ++ p
cause_text (WrongKind p) = codes "wrong kind " ++ p
cause_text (BadMember p) = codes "bad member " ++ p

abbrev pub start_line : Named → Text
start_line j = job_text (codes "start") j.rule j.path []

abbrev pub done_line : Named → Text
done_line j = job_text (codes "done") j.rule j.path []

abbrev pub failed_line : Named → Ending → Text
failed_line j end = job_text (codes "failed") j.rule j.path (codes ": " ++ cause_text end)

abbrev pub target_line : Bool → Text → Text
target_line is_current p = line ((if is_current then codes "current" else codes "not current") ∷ p ∷ [])

abbrev pub summary_line : ℕ → ℕ → ℕ → Text
summary_line started done failed =
    line (codes "summary:" ∷ decimal started ∷ codes "started," ∷ decimal done ∷ codes "done," ∷ decimal failed ∷ codes "failed" ∷ [])

-- ## Other commands

abbrev pub unlocked_line : Text
unlocked_line = line (codes "unlocked" ∷ [])

abbrev pub forgotten_line : Bool → Text → Text
forgotten_line was_known p = line ((if was_known then codes "forgotten" else codes "nothing known of") ∷ p ∷ [])
