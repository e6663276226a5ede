use Rattle.std.proofs.Common.{◌≡◌, ◌<◌, ℕ, Bool, List, true, false, Some}
use Rattle.std.specs.Prelude.{slice_index_or}
use Rattle.std.specs.List.{slice_get}
use Rattle.smk_plan_states.specs.declared.lines.Line.{Line}
use Rattle.smk_trigger.specs.declared.reason.Reason.{Reason}
use Rattle.smk_plan_states.specs.Rows.{FitOwn}
use Rattle.smk_plan_states.specs.Stays.{IsToldBy, told_by}
use Rattle.smk_plan_states.proofs.after.Step.are_told.Given as goal

abbrev pub invariant-loop-number : goal.invariant-loop-number
invariant-loop-number l =
    (reasons : List (List Reason)) (forced : List Bool) → FitOwn l.rows.own.now reasons →
    (n : ℕ) (line : Line) → n < l.number → slice_get l.lines n ≡ Some line → slice_index_or l.self.doubts.now n false ≡ true →
    IsToldBy l.self.origins.now (told_by l.rows reasons forced) l.self.used.now l.self.plain.now l.self.job l.ranks n line
