use Rattle.std.proofs.Common.{◌≡◌, ℕ, ◌<◌, take, get_or, false}
use Rattle.std.specs.Prelude.{is_some}
use Rattle.smk_store.specs.Stores.{entry_of}
use Rattle.smk_store.proofs.store.Store.covered.Given as goal

abbrev pub invariant-loop-i : goal.invariant-loop-i
invariant-loop-i l = (k : ℕ) → k < l.i → get_or l.bytes k 0 ≡ 47 → is_some (entry_of l.self (take k l.bytes)) ≡ false
