-- What is reported once the jobs of a run have had their turns.
use Rattle.std.specs.Prelude.{ℕ, Bool, true, false, List, ◌++◌, Option, Some, None, Result, Ok, Err, get_or}
use Rattle.std.specs.List.{flat_map}
use Rattle.smk_world.specs.Trees.{Path}
use Rattle.smk_chain.specs.declared.jobs.Maker.{Maker}
use Rattle.smk_report.specs.declared.fault.Fault.{Fault}
use Rattle.smk_report.specs.Lines.{Text, target_line, summary_line}
use Rattle.smk_run.specs.declared.tally.Tally.{Tally}
use Rattle.smk_plan.specs.Duties.{maker_in}

-- what the job of this number makes is current, where this is said of each job; a source needs no job
abbrev pub is_current : List Bool → Option ℕ → Bool
is_current after None = true
is_current after (Some n) = get_or after n false

-- a line for each path
abbrev pub lines_by : (Path → Bool) → List Path → Text
lines_by current targets = flat_map (λ p. target_line (current p) p) targets

-- a line for each target, by what is said of the job that makes it
abbrev pub target_lines : (Option ℕ → Bool) → List Maker → List Path → Text
target_lines current makers targets = lines_by (λ p. current (maker_in makers p)) targets

abbrev pub counts_line : Tally → Text
counts_line tally = summary_line tally.started tally.done tally.failed

-- the lines of the targets, and the summary
abbrev pub closing_text : (Option ℕ → Bool) → List Maker → List Path → Tally → Text
closing_text current makers targets tally = target_lines current makers targets ++ counts_line tally

abbrev pub verdict_of : Option Fault → Result (Unit {0}) Fault
verdict_of None = Ok tt
verdict_of (Some f) = Err f

-- the answer of a run that came to its end: the fault of the first job that failed
abbrev pub answer_of : Tally → Result (Unit {0}) Fault
answer_of tally = verdict_of tally.first
