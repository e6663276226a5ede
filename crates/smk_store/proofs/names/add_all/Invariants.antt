use Rattle.std.proofs.Common.{◌≡◌, ◌||◌, ℕ, List, take}
use Rattle.std.specs.BTreeSet.{contains_text}
use Rattle.smk_store.specs.Walking.{all_tell_of}
use Rattle.smk_store.proofs.names.add_all.Given as goal

abbrev pub invariant-loop-name : goal.invariant-loop-name
invariant-loop-name l = (q : List ℕ) → contains_text l.found q ≡ (all_tell_of l.front (take l.name-index l.names) q || contains_text l.initial.found q)
