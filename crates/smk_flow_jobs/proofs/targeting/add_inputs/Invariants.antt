use Rattle.std.proofs.Common.{◌≡◌, ◌++◌, [], take, map}
use Rattle.smk_pattern.specs.Reading.{fill}
use Rattle.smk_flow_jobs.proofs.targeting.add_inputs.Given as goal

abbrev pub invariant-loop-text : goal.invariant-loop-text
invariant-loop-text l = l.made ≡ l.initial.made ++ map (fill []) (take l.text-index l.item.texts)
