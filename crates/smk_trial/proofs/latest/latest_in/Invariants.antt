use Rattle.std.proofs.Common.{◌≡◌, max, map, drop}
use Rattle.std.specs.List.{fold}
use Rattle.smk_trial.specs.Editing.{latest_in, latest_at}
use Rattle.smk_trial.proofs.latest.latest_in.Given as goal

abbrev pub invariant-loop-step : goal.invariant-loop-step
invariant-loop-step l = fold max l.latest (map latest_at (drop l.step-index l.steps)) ≡ latest_in l.steps
