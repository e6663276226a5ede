-- Settling takes crash images away and changes nothing else.
use Rattle.std.proofs.Common.{◌≡◌, Bool, true, false, refl, inl, inr, arith, ◌∙◌, Option}
use Rattle.std.specs.Prelude.{if◌then◌else◌, ◌&&◌, ◌||◌}
use Rattle.smk_world.specs.declared.event.Node.{Node}
use Rattle.smk_world.specs.declared.event.Besides.{Besides}
use Rattle.smk_world.specs.declared.event.NodeState.{NodeState}
use Rattle.smk_world.specs.declared.event.NodeState.TheVariants.{Owned, Known}
use Rattle.smk_world.specs.World.{MayLeave, reading, firm}
use Rattle.smk_laws_protocol.proofs.Rows.{now}

pub firm_reads : (s : NodeState) → reading (firm s) ≡ reading s
firm_reads Owned = refl
firm_reads (Known n besides) = refl

pub firm_owned : (s : NodeState) → firm s ≡ Owned → s ≡ Owned
firm_owned Owned h = h
firm_owned (Known n besides) h = absurd (no h)
  where
    no : {b : Besides} → Known n b ≡ Owned → ⊥
    no h = grind arith

pub firm_leaves : (s : NodeState) (n : Option Node) → MayLeave (firm s) n → MayLeave s n
firm_leaves Owned n h = tt
firm_leaves (Known now besides) n (inl h) = inl h
firm_leaves (Known now besides) n (inr h) = absurd h

pub either : (P : NodeState → Type 0) (b : Bool) (s : NodeState) → P (firm s) → P s → P (if b then firm s else s)
either P true s h k = h
either P false s h k = k
