-- The least depth at which each path is available, over paths by numbers.
use Rattle.std.specs.Prelude.{◌≡◌, ℕ, zero, suc, ◌<◌, Bool, true, false, ◌||◌, List, [], get_or, nat_le, Option, Some, None}
use Rattle.std.specs.List.{list_any, list_all}
use Rattle.smk_choose.specs.declared.nodes.Want.{Want}
use Rattle.smk_choose.specs.declared.nodes.Want.TheVariants.{Path, NoPath}
use Rattle.smk_choose.specs.declared.nodes.Way.{Way}
use Rattle.smk_choose.specs.declared.nodes.Node.{Node}

-- the height is no more than this
abbrev pub is_within : ℕ → Option ℕ → Bool
is_within n None = false
is_within n (Some k) = nat_le k n

abbrev pub height_at : List (Option ℕ) → ℕ → Option ℕ
height_at heights q = get_or heights q None

-- what is wanted is among these paths
abbrev pub want_in : (ℕ → Bool) → Want → Bool
want_in these (Path q) = these q
want_in these (NoPath t) = false

-- a source, or all that some way wants is among these paths
abbrev pub next : (ℕ → Bool) → Node → Bool
next these node = node.source || list_any (λ (w : Way). list_all (want_in these) w.wants) node.ways

-- no source, and no way to make it
abbrev pub no_node : Node
no_node = record { source = false; ways = [] }

abbrev pub node_at : List Node → ℕ → Node
node_at nodes q = get_or nodes q no_node

-- the path of this number is available at a depth
abbrev pub reached : List Node → ℕ → ℕ → Bool
reached nodes zero q = (node_at nodes q).source
reached nodes (suc n) q = next (reached nodes n) (node_at nodes q)

-- what has a height is available at it
abbrev pub IsSound : List Node → List (Option ℕ) → Type 0
IsSound nodes heights = (n q : ℕ) → n < 201 → is_within n (height_at heights q) ≡ true → reached nodes n q ≡ true

-- what is available at less than a depth has such a height
abbrev pub IsComplete : List Node → ℕ → List (Option ℕ) → Type 0
IsComplete nodes m heights = (n q : ℕ) → n < m → n < 201 → reached nodes n q ≡ true → is_within n (height_at heights q) ≡ true
