use Rattle.std.proofs.Common.{◌≡◌, ◌++◌, drop}
use Rattle.smk_plan_states.specs.Stays.{states_from, states_told, told_by}
use Rattle.smk_plan_states.proofs.reasons.states_of.Given as goal

abbrev pub invariant-loop-number : goal.invariant-loop-number
invariant-loop-number l =
    l.found ++ states_from l.origins (told_by l.rows l.reasons l.forced) l.ranks l.number (drop l.number l.lines) ≡ states_told l.lines l.origins (told_by l.rows l.reasons l.forced) l.ranks
