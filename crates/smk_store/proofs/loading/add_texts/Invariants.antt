use Rattle.std.proofs.Common.{◌≡◌, ◌||◌, List, ℕ}
use Rattle.std.specs.BTreeSet.{contains_text}
use Rattle.smk_world.specs.World.{is_named}
use Rattle.smk_store.specs.Walking.{texts_of}
use Rattle.smk_store.proofs.loading.add_texts.Given as goal

abbrev pub invariant-loop-text : goal.invariant-loop-text
invariant-loop-text l =
    (q : List ℕ) → (contains_text l.all q || is_named q (texts_of l.text-iterator)) ≡ (contains_text l.initial.all q || is_named q (texts_of l.initial.text-iterator))
