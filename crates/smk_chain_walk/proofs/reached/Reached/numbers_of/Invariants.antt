use Rattle.std.proofs.Common.{◌≡◌, [], take}
use Rattle.std.specs.List.{filter_map}
use Rattle.smk_chain_walk.specs.Once.{all_once, IsSeen}
use Rattle.smk_chain_walk.specs.Stepping.{text_in}
use Rattle.smk_chain_walk.specs.Steps.{number_done}
use Rattle.smk_chain_walk.proofs.reached.Reached.numbers_of.Given as goal

abbrev pub invariant-loop-want : goal.invariant-loop-want
invariant-loop-want l = IsSeen l.once × (l.once.numbers ≡ all_once [] (filter_map (λ w. number_done l.self (text_in w)) (take l.want-index l.wants)))
