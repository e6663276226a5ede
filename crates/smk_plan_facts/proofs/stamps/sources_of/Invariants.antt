use Rattle.std.proofs.Common.{◌≡◌, ◌||◌, ℕ, List, drop}
use Rattle.std.specs.BTreeSet.{contains_text}
use Rattle.smk_world.specs.Trees.{among}
use Rattle.smk_plan_facts.specs.Facts.{told_sources}
use Rattle.smk_plan_facts.proofs.stamps.sources_of.Given as goal

abbrev pub invariant-loop-maker : goal.invariant-loop-maker
invariant-loop-maker l = (q : List ℕ) → (among (told_sources (drop l.maker-index l.makers)) q || contains_text l.set q) ≡ among (told_sources l.makers) q
