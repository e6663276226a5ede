use Rattle.std.proofs.Common.{◌≡◌, ℕ, drop, subst, arith}
use Rattle.smk_plan_states.specs.Keys.{at_key}
use Rattle.smk_plan_states.specs.Lines.{tells_of}
use Rattle.smk_plan_states.specs.Ways.{place_from}
use Rattle.smk_plan_states.proofs.ways.links_in.Goals as goal

pub returns : goal.returns
returns c = λ q.
    let done : c.makers.number ≡ 0 = omega arith in
    subst (λ (n : ℕ). at_key c.makers.links q ≡ place_from n (tells_of q) (drop n c.args.makers.now)) done (c.makers.invariant.1 q)
