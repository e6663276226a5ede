use Rattle.std.proofs.Common.{◌≡◌, drop}
use Rattle.std.specs.Prelude.{get_or, false}
use Rattle.std.specs.List.{list_any}
use Rattle.smk_plan_duties.proofs.before.has_one.Given as goal

abbrev pub invariant-loop-number : goal.invariant-loop-number
invariant-loop-number l = list_any (λ m. get_or l.found m false) l.numbers ≡ list_any (λ m. get_or l.found m false) (drop l.number-index l.numbers)
