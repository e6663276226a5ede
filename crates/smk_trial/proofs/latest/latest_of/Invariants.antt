use Rattle.std.proofs.Common.{◌≡◌, max, map, drop}
use Rattle.std.specs.List.{fold}
use Rattle.smk_trial.specs.Editing.{latest_of, time_left}
use Rattle.smk_trial.proofs.latest.latest_of.Given as goal

abbrev pub invariant-loop-change : goal.invariant-loop-change
invariant-loop-change l = fold max l.latest (map time_left (drop l.change-index l.left)) ≡ latest_of l.left
