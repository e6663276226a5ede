-- The world that steps lead to, and what a workspace keeps of it.
use Rattle.std.specs.Prelude.{◌≡◌, ◌<◌, ◌+◌, length, nat_eq, ℕ, Bool, true, false, List, [], ◌∷◌, Option, None, Some, if◌then◌else◌, bytes_eq}
use Rattle.std.proofs.Props.{props}
use Rattle.std.specs.Coded.{×_prop, Unit-prop, le_prop}
use Rattle.smk_world.specs.declared.event.Child.{Child}
use Rattle.smk_world.specs.Calls.{started_numbers, are_apart, owned_now, HasOwners}
use Rattle.std.proofs.Common.{ap, sym, subst, refl, ◌∙◌}
use Rattle.std.specs.List.Sorted.{IsStrictlySortedBy}
use Rattle.smk_world.specs.World.{reading, is_within}
use Rattle.smk_world.proofs.Names.{adds_rising, not_added_any, not_above, if_reading, or_false, formed_after}
use Rattle.smk_base.specs.Path.{is_under, is_at_or_under}
use Rattle.smk_world.specs.declared.event.Node.{Node}
use Rattle.smk_world.specs.declared.event.NodeState.{NodeState}
use Rattle.smk_world.specs.declared.event.NodeState.TheVariants.{Owned, Known}
use Rattle.smk_world.specs.World.{World, after, firmly, firm, with_folder, numbers, owned_paths, IsFormed, add_names, folders_above}
use Rattle.smk_world.specs.Folders.{AreInFolders}
use Rattle.smk_world_nodes.specs.Nodes.{node_at}
use Rattle.smk_world_nodes.specs.declared.nodes.Nodes.{Nodes}
use Rattle.smk_world_nodes.specs.declared.step.Step.{Step}
use Rattle.smk_world_nodes.specs.declared.step.Step.TheVariants.{Happened, Put, Gone}

abbrev pub empty_world : World
empty_world = record { names = []; nodes = λ q. firmly None; children = []; log = [] }

-- the node stands there firmly, or nothing does; where a child owns the place, that stays
abbrev pub now_there : Option Node → NodeState → NodeState
now_there n Owned = Owned
now_there n (Known now besides) = firmly n

abbrev pub step_world : World → Step → World
step_world w (Happened e) = after w e
step_world w (Put p n) = record w { names = add_names (p ∷ folders_above p) w.names; nodes = λ q. if bytes_eq q p then now_there (Some n) (w.nodes q) else (if is_under p q then firm (with_folder (w.nodes q)) else w.nodes q) }
step_world w (Gone p) = record w { nodes = λ q. if is_at_or_under q p then now_there None (w.nodes q) else w.nodes q }

abbrev pub replay : World → List Step → World
replay w [] = w
replay w (s ∷ ss) = replay (step_world w s) ss

-- what reads there; where a child owns the place, n
abbrev pub seen : Option Node → NodeState → Option Node
seen n Owned = n
seen n (Known now besides) = now

-- these nodes are what reads in the world
abbrev pub AgreesWith : Nodes → World → Type 0
AgreesWith nodes w = (q : List ℕ) → seen (node_at nodes q) (w.nodes q) ≡ node_at nodes q

-- Where the world is told, these nodes are what reads in it.
abbrev pub Agrees : Bool → Nodes → List Step → Type 0
Agrees told nodes steps = told ≡ true → (q : List ℕ) → seen (node_at nodes q) ((replay empty_world steps).nodes q) ≡ node_at nodes q

pub OptionNode-set : IsSet (Option Node)
OptionNode-set = hlevel props

pub Agrees-prop : (told : Bool) (nodes : Nodes) (steps : List Step) → IsProp (Agrees told nodes steps)
Agrees-prop told nodes steps = λ f g i told_is q. OptionNode-set _ _ (f told_is q) (g told_is q) i

-- the world, where it is told
abbrev pub told_world : Bool → List Step → Option World
told_world true steps = Some (replay empty_world steps)
told_world false steps = None

some_same : {A : Type 0} (x y : A) → Some x ≡ Some y → x ≡ y
some_same x y e = cc

pub same_numbers_told : (told : Bool) (steps : List Step) (w : World) → told_world told steps ≡ Some w → numbers w.children ≡ numbers (replay empty_world steps).children
same_numbers_told true steps w e = ap (λ v. numbers v.children) (sym (some_same _ _ e))
same_numbers_told false steps w e = cc

-- each is below the bound
abbrev pub AllBelow : ℕ → List ℕ → Type 0
AllBelow bound [] = Unit {0}
AllBelow bound (n ∷ ns) = (n < bound) × AllBelow bound ns

-- no child's outputs and logs overlap one another
abbrev pub AllApart : List Child → Type 0
AllApart [] = Unit {0}
AllApart (c ∷ cs) = (are_apart (owned_paths c.recipe c.logs) ≡ true) × AllApart cs

-- none of these is that number
abbrev pub AllOther : ℕ → List ℕ → Type 0
AllOther number [] = Unit {0}
AllOther number (n ∷ ns) = (nat_eq n number ≡ false) × AllOther number ns

-- no number stands there twice
abbrev pub AllDistinct : List ℕ → Type 0
AllDistinct [] = Unit {0}
AllDistinct (n ∷ ns) = AllOther n ns × AllDistinct ns

abbrev pub is_owned : NodeState → Bool
is_owned Owned = true
is_owned (Known now besides) = false

-- what a running child's outputs and logs have is owned
abbrev pub IsHeld : World → Type 0
IsHeld w = (q : List ℕ) → is_within q (owned_now w.children) ≡ true → is_owned (w.nodes q) ≡ true

-- no place is at or under both one of these and one of those
abbrev pub AreAlone : List (List ℕ) → List (List ℕ) → Type 0
AreAlone ps qs = (x : List ℕ) → is_within x ps ≡ true → is_within x qs ≡ true → ⊥

-- no two children own the same place
abbrev pub AllAlone : List Child → Type 0
AllAlone [] = Unit {0}
AllAlone (c ∷ cs) = AreAlone (owned_paths c.recipe c.logs) (owned_now cs) × AllAlone cs

-- These are the world's children, the next number is new, and what is owned is so by just one of them.
pub record IsOrderly (w : World) (children : List Child) (next : ℕ) : Type 0 where
  pub children_are : w.children ≡ children
  pub started_below : AllBelow next (started_numbers w.log)
  pub started_counted : length (started_numbers w.log) + 1 ≡ next
  pub apart : AllApart children
  pub below : AllBelow next (numbers children)
  pub distinct : AllDistinct (numbers children)
  pub owned : HasOwners w
  pub held : IsHeld w
  pub alone : AllAlone children

abbrev pub Orderly : Bool → List Step → List Child → ℕ → Type 0
Orderly told steps children next = told ≡ true → IsOrderly (replay empty_world steps) children next

ListChild-set : IsSet (List Child)
ListChild-set = hlevel props

AllBelow-prop : (bound : ℕ) (ns : List ℕ) → IsProp (AllBelow bound ns)
AllBelow-prop bound [] = Unit-prop
AllBelow-prop bound (n ∷ ns) = ×_prop le_prop (AllBelow-prop bound ns)

AllApart-prop : (cs : List Child) → IsProp (AllApart cs)
AllApart-prop [] = Unit-prop
AllApart-prop (c ∷ cs) = ×_prop (hlevel props) (AllApart-prop cs)

nat-set : IsSet ℕ
nat-set = hlevel props

Bool-set : IsSet Bool
Bool-set = hlevel props

AllOther-prop : (number : ℕ) (ns : List ℕ) → IsProp (AllOther number ns)
AllOther-prop number [] = Unit-prop
AllOther-prop number (n ∷ ns) = ×_prop (hlevel props) (AllOther-prop number ns)

AllDistinct-prop : (ns : List ℕ) → IsProp (AllDistinct ns)
AllDistinct-prop [] = Unit-prop
AllDistinct-prop (n ∷ ns) = ×_prop (AllOther-prop n ns) (AllDistinct-prop ns)

⊥-prop : IsProp ⊥
⊥-prop a b = absurd a

AllAlone-prop : (cs : List Child) → IsProp (AllAlone cs)
AllAlone-prop [] = Unit-prop
AllAlone-prop (c ∷ cs) = ×_prop (λ f g i x h k. ⊥-prop (f x h k) (g x h k) i) (AllAlone-prop cs)

pub Orderly-prop : (told : Bool) (steps : List Step) (children : List Child) (next : ℕ) → IsProp (Orderly told steps children next)
Orderly-prop told steps children next = λ f g i told_is. record {
  children_are = ListChild-set _ _ (f told_is).children_are (g told_is).children_are i;
  started_below = AllBelow-prop next _ (f told_is).started_below (g told_is).started_below i;
  started_counted = nat-set _ _ (f told_is).started_counted (g told_is).started_counted i;
  apart = AllApart-prop children (f told_is).apart (g told_is).apart i;
  below = AllBelow-prop next _ (f told_is).below (g told_is).below i;
  distinct = AllDistinct-prop _ (f told_is).distinct (g told_is).distinct i;
  owned = λ q h. Bool-set _ _ ((f told_is).owned q h) ((g told_is).owned q h) i;
  held = λ q h. Bool-set _ _ ((f told_is).held q h) ((g told_is).held q h) i;
  alone = AllAlone-prop children (f told_is).alone (g told_is).alone i;
}

pub owned_told : (told : Bool) (steps : List Step) (children : List Child) (next : ℕ) → Orderly told steps children next → (w : World) → told_world told steps ≡ Some w → HasOwners w
owned_told true steps children next orderly w e = subst HasOwners (some_same _ _ e) (orderly refl).owned
owned_told false steps children next orderly w e = cc

formed_empty : IsFormed empty_world
unfolding IsStrictlySortedBy
formed_empty = record { rising = tt; complete = λ q h. refl }

formed_put : (w : World) (p : List ℕ) (n : Node) → IsFormed w → IsFormed (step_world w (Put p n))
formed_put w p n f = record {
  rising = adds_rising (p ∷ folders_above p) w.names f.rising;
  complete = λ q h.
      let both = not_added_any q (p ∷ folders_above p) w.names h in
      let here = or_false (bytes_eq q p) _ both.0 in
      ap (λ b. reading (if b then now_there (Some n) (w.nodes q) else (if is_under p q then firm (with_folder (w.nodes q)) else w.nodes q))) here.0
      ∙ ap (λ b. reading (if b then firm (with_folder (w.nodes q)) else w.nodes q)) (not_above p q here.1)
      ∙ f.complete q both.1;
}

gone_reads : (s : NodeState) → reading (now_there None s) ≡ None
gone_reads Owned = refl
gone_reads (Known now besides) = refl

formed_gone : (w : World) (p : List ℕ) → IsFormed w → IsFormed (step_world w (Gone p))
formed_gone w p f = record { rising = f.rising; complete = λ q h. if_reading (is_at_or_under q p) (now_there None (w.nodes q)) (w.nodes q) (gone_reads (w.nodes q)) (f.complete q h) }

formed_replay : (w : World) (ss : List Step) → IsFormed w → IsFormed (replay w ss)
formed_replay w [] f = f
formed_replay w (Happened e ∷ ss) f = formed_replay (after w e) ss (formed_after w e f)
formed_replay w (Put p n ∷ ss) f = formed_replay (step_world w (Put p n)) ss (formed_put w p n f)
formed_replay w (Gone p ∷ ss) f = formed_replay (step_world w (Gone p)) ss (formed_gone w p f)

pub formed_told : (told : Bool) (steps : List Step) (w : World) → told_world told steps ≡ Some w → IsFormed w
formed_told true steps w e = subst IsFormed (some_same _ _ e) (formed_replay empty_world steps formed_empty)
formed_told false steps w e = cc

-- ## Trees

-- where the world is told, these nodes stand in folders
abbrev pub Rooted : Bool → Nodes → Type 0
Rooted told nodes = told ≡ true → AreInFolders (node_at nodes)

pub Rooted-prop : (told : Bool) (nodes : Nodes) → IsProp (Rooted told nodes)
Rooted-prop told nodes = λ f g i told_is q some. record {
  folders = λ h u. OptionNode-set _ _ ((f told_is q some).folders h u) ((g told_is q some).folders h u) i;
  named = Bool-set _ _ (f told_is q some).named (g told_is q some).named i;
}
