-- What the events of the protocol, failed or not, make of a world.
use Rattle.std.proofs.Common.{◌≡◌, ℕ, Bool, false, List, [], ◌∷◌, refl, arith}
use Rattle.std.specs.Prelude.{Ok, Result, ◌&&◌, ◌||◌}
use Rattle.smk_world.specs.declared.event.Call.TheVariants.{Removed, Started, Waited}
use Rattle.smk_world.specs.declared.event.Change.{Change}
use Rattle.smk_world.specs.declared.event.Ended.{Ended}
use Rattle.smk_world.specs.declared.event.Failed.{Failed}
use Rattle.smk_world.specs.declared.recipe.Recipe.{Recipe}
use Rattle.smk_world.specs.Trees.{Path}
use Rattle.smk_world.specs.World.{World, after, owned_paths, owned_by}
use Rattle.smk_base.specs.Path.{is_at_or_under}
use Rattle.smk_laws_protocol.proofs.Nodes.{ChangesWithin}

either_false : (a b : Bool) → (a || b) ≡ false → a ≡ false
either_false a b h = grind arith

pub removed : (w : World) (p : Path) (r : Result (Unit {0}) Failed) (left : List Change) → ChangesWithin w (after w (record { call = Removed p r; left = left })) (p ∷ [])
removed w p r left = record { others = λ q k. rw (either_false (is_at_or_under q p) false k) refl }

pub started :
    (w : World) (recipe : Recipe) (logs : List Path) (command : List ℕ) (n : ℕ) (left : List Change) →
    ChangesWithin w (after w (record { call = Started recipe logs command (Ok n); left = left })) (owned_paths recipe logs)
started w recipe logs command n left = record { others = λ q k. rw k refl }

pub waited :
    (w : World) (end : Ended) (left : List Change) →
    ChangesWithin w (after w (record { call = Waited (Ok end); left = left })) (owned_by end.number w.children)
waited w end left = record { others = λ q k. rw k refl }
