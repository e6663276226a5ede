use Rattle.std.proofs.Common.{◌≡◌, ◌++◌, take, map}
use Rattle.smk_plan_states.proofs.folders.push_outs.Given as goal

abbrev pub invariant-loop-out : goal.invariant-loop-out
invariant-loop-out l = map (λ out. out.now) l.found ≡ map (λ out. out.now) l.initial.found ++ take l.out-index l.outs
