-- The names of a world after an event have all that reads.
use Rattle.std.proofs.Common.{◌≡◌, Bool, true, false, refl, arith, ◌∙◌, map, Option, Some, None}
use Rattle.std.specs.Prelude.{IsTrue, IsSome, ◌||◌}
use Rattle.smk_world.specs.declared.event.Node.{Node}
use Rattle.smk_world.specs.declared.event.Event.{Event}
use Rattle.smk_world.specs.World.{World, IsFormed, after, made_folders, reading}
use Rattle.smk_world.specs.Trees.{Path, among}
use Rattle.smk_world.proofs.Names.{formed_after as names_after}
use Rattle.smk_laws_protocol.proofs.Basics.{by_test, none_some}
use Rattle.smk_laws_protocol.proofs.Views.{HasNames, reads}
use Rattle.smk_laws_protocol.proofs.Sorted.{among_add}

or_right : (a b : Bool) → b ≡ true → (a || b) ≡ true
or_right true b h = refl
or_right false b h = h

pub grown : (w : World) (e : Event) (q : Path) → IsTrue (among w.names q) → IsTrue (among (after w e).names q)
grown w e q h =
    among_add (map (λ c. c.place) e.left) _ q
    ∙ or_right (among (map (λ c. c.place) e.left) q) _ (among_add (made_folders e.call) w.names q ∙ or_right (among (made_folders e.call) q) (among w.names q) h)

pub formed_after : (w : World) (e : Event) → IsFormed w → IsFormed (after w e)
formed_after w e formed = names_after w e formed

-- the names have all that reads
pub all_named : (w : World) → IsFormed w → HasNames w.names (reads w)
all_named w formed q h = by_test (among w.names q) (λ k. k) (λ k. gone (reading (w.nodes q)) (formed.complete q k) h)
  where
    gone : {A : Type 0} (n : Option Node) → n ≡ None → IsSome n → A
    gone None e h = absurd (never h)
      where
        never : IsSome {T = Node} None → ⊥
        never h = grind arith
    gone (Some n) e h = none_some (Some n) e refl
