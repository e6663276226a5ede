use Rattle.std.proofs.Common.{◌≡◌, take, map, List, ℕ}
use Rattle.smk_eval_rules.proofs.items.flagged.Given as goal

abbrev pub invariant-loop-text : goal.invariant-loop-text
invariant-loop-text l = l.outs ≡ map (λ (t : List ℕ). record { text = t; flags = l.flags }) (take l.text-index l.texts)
