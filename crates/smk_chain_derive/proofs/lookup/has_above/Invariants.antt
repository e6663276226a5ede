use Rattle.std.proofs.Common.{◌≡◌, ◌<◌, ℕ, get_or, take, false}
use Rattle.std.specs.BTreeSet.{contains_text}
use Rattle.smk_chain_derive.proofs.lookup.has_above.Given as goal

abbrev pub invariant-loop-i : goal.invariant-loop-i
invariant-loop-i l = (k : ℕ) → k < l.i → get_or l.text k 0 ≡ 47 → contains_text l.set (take k l.text) ≡ false
