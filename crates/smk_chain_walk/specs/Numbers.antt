-- The places of jobs among others, and lists that are put together with each job once.
use Rattle.std.specs.Prelude.{ℕ, suc, ◌<◌, ◌^◌, Bool, length, ◌&&◌, ◌==◌, List, [], ◌∷◌, ◌++◌, Option, Some, None, option_map, if◌then◌else◌}
use Rattle.std.specs.List.{list_any, flat_map}
use lib.Pointwise.{pointwise}
use Rattle.smk_flow.specs.Flows.{Candidate}
use Rattle.smk_choose.specs.declared.choice.Making.{Making}
use Rattle.smk_choose.specs.Told.{making}
use Rattle.smk_record.specs.Records.{same_pair}
use Rattle.smk_record.specs.Spelling.{num, pair}

-- the candidate is the job of this rule and these values
abbrev pub is_job : Making → Candidate → Bool
is_job m c = c.rule == m.rule && pointwise same_pair c.binding m.binding

-- the place, from 0, of the first of these that is this job
abbrev pub place_of : List Candidate → Making → Option ℕ
place_of [] m = None
place_of (c ∷ cs) m = if is_job m c then Some 0 else option_map suc (place_of cs m)

-- the place of this candidate, where there is one
abbrev pub number_in : List Candidate → Option Candidate → Option ℕ
number_in cs None = None
number_in cs (Some c) = place_of cs (making c)

-- one of these is the candidate
abbrev pub has : List Candidate → Candidate → Bool
has cs c = list_any (is_job (making c)) cs

-- the candidate added at the end, unless it is there
abbrev pub added : List Candidate → Candidate → List Candidate
added cs c = if has cs c then cs else cs ++ c ∷ []

-- these candidates added one by one
abbrev pub all_added : List Candidate → List Candidate → List Candidate
all_added cs [] = cs
all_added cs (x ∷ xs) = all_added (added cs x) xs

-- a text for a job: no two jobs have the same one
abbrev pub key : Making → List ℕ
key m = num m.rule ++ flat_map pair m.binding

-- a job whose text fits into memory
abbrev pub IsSmall : Making → Type 0
IsSmall m = (m.rule < 2 ^ 64) × (length (key m) < 2 ^ 64)
