use Rattle.std.proofs.Common.{◌≡◌, ◌++◌, drop, map}
use Rattle.smk_plan_states.specs.Ways.{placed}
use Rattle.smk_plan_states.proofs.folders.folders_in.Given as goal

abbrev pub invariant-loop-place : goal.invariant-loop-place
invariant-loop-place l = l.found ++ placed l.place (map (λ out. out.now) (drop l.place l.outs)) ≡ placed 0 (map (λ out. out.now) l.outs)
