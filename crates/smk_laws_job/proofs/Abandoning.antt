-- What removals and settlings were called, and what is absent after a removal.
use Rattle.std.proofs.Common.{◌≡◌, ◌⊎◌, inl, inr, Bool, true, false, List, [], ◌∷◌, ◌++◌, map, ap, subst, ◌∙◌, append_assoc, None, Ok, Err, true≢false}
use Rattle.std.specs.Prelude.{if◌then◌else◌}
use Rattle.smk_laws_protocol.proofs.OneJob.{going_none}
use Rattle.smk_base.specs.Path.{is_at_or_under}
use Rattle.smk_base.specs.declared.tree.Tree.{Tree}
use Rattle.smk_world.specs.declared.event.NodeState.{NodeState}
use Rattle.smk_world.specs.declared.event.Call.{Call}
use Rattle.smk_world.specs.declared.event.Call.TheVariants.{Looked, ReadFile, ReadFolder, Written, Created, Removed, MadeParents, Settled, Protected, Started, Waited}
use Rattle.smk_world.specs.declared.event.Change.{Change}
use Rattle.smk_world.specs.declared.event.Event.{Event}
use Rattle.smk_world.specs.declared.recipe.Recipe.{Recipe}
use Rattle.smk_world.specs.World.{World, after, reading, going, standing, node_after}
use Rattle.smk_world.specs.Calls.{Acted, Lets, failed}
use Rattle.smk_world.specs.Requests.{Request, request}
use Rattle.smk_world.specs.Requests.Request.{Remove, Settle}
use Rattle.smk_world.specs.Trees.{Path, IsIn}
use Rattle.smk_laws_protocol.specs.Protocol.{IsAbsent}

-- ## What was called

pub removed_call : (call : Call) (p : Path) → request call ≡ Remove p → failed call ≡ false → call ≡ Removed p (Ok tt)
removed_call (Removed x (Ok u)) p is quiet = let e : x ≡ p = cc in ap (λ y. Removed y (Ok tt)) e
removed_call (Removed x (Err e)) p is quiet = absurd (true≢false quiet)
removed_call (Looked x r) p is quiet = cc
removed_call (ReadFile x limit r) p is quiet = cc
removed_call (ReadFolder x r) p is quiet = cc
removed_call (Written x bytes r) p is quiet = cc
removed_call (Created x r) p is quiet = cc
removed_call (MadeParents x r) p is quiet = cc
removed_call (Settled xs r) p is quiet = cc
removed_call (Protected x r) p is quiet = cc
removed_call (Started recipe logs command r) p is quiet = cc
removed_call (Waited r) p is quiet = cc

pub settled_call : (call : Call) (ps : List Path) → request call ≡ Settle ps → failed call ≡ false → call ≡ Settled ps (Ok tt)
settled_call (Settled xs (Ok u)) ps is quiet = let e : xs ≡ ps = cc in ap (λ y. Settled y (Ok tt)) e
settled_call (Settled xs (Err e)) ps is quiet = absurd (true≢false quiet)
settled_call (Looked x r) ps is quiet = cc
settled_call (ReadFile x limit r) ps is quiet = cc
settled_call (ReadFolder x r) ps is quiet = cc
settled_call (Written x bytes r) ps is quiet = cc
settled_call (Created x r) ps is quiet = cc
settled_call (Removed x r) ps is quiet = cc
settled_call (MadeParents x r) ps is quiet = cc
settled_call (Protected x r) ps is quiet = cc
settled_call (Started recipe logs command r) ps is quiet = cc
settled_call (Waited r) ps is quiet = cc

-- ## What was removed is absent, and stays so

reads_if : (b : Bool) (s t : NodeState) → reading s ≡ None → reading t ≡ None → reading (if b then t else s) ≡ None
reads_if true s t h k = k
reads_if false s t h k = h

abbrev removed_node : Path → List Change → Path → NodeState → NodeState
removed_node p left q s = if is_at_or_under q p then going (standing left q) s else s

-- the world after p is removed
module _ (act : Recipe → List Tree → Acted) (w : World) (e : Event) (p : Path) (is : e.call ≡ Removed p (Ok tt)) (lets : Lets act w e.call e.left) where
  none_left : e.left ≡ []
  none_left = subst (λ c. Lets act w c e.left) is lets

  node_there : (q : Path) → (after w e).nodes q ≡ removed_node p [] q (w.nodes q)
  node_there q = ap (λ c. node_after c e.left w.children q (w.nodes q)) is ∙ ap (λ l. removed_node p l q (w.nodes q)) none_left

  pub absent_now : IsAbsent (after w e) p
  absent_now q at = ap reading (node_there q) ∙ ap (λ b. reading (if b then going None (w.nodes q) else w.nodes q)) at ∙ going_none (w.nodes q)

  pub absent_still : (x : Path) → IsAbsent w x → IsAbsent (after w e) x
  absent_still x h q at = ap reading (node_there q) ∙ reads_if (is_at_or_under q p) (w.nodes q) (going None (w.nodes q)) (h q at) (going_none (w.nodes q))

-- ## Lists

pub in_first : (ps qs : List Path) (p : Path) → IsIn ps p → IsIn (ps ++ qs) p
in_first [] qs p i = absurd i
in_first (x ∷ ps) qs p (inl e) = inl e
in_first (x ∷ ps) qs p (inr i) = inr (in_first ps qs p i)

pub in_second : (ps qs : List Path) (p : Path) → IsIn qs p → IsIn (ps ++ qs) p
in_second [] qs p i = i
in_second (x ∷ ps) qs p i = inr (in_second ps qs p i)

pub in_map : (f : Path → Path) (ps : List Path) (p : Path) → IsIn ps p → IsIn (map f ps) (f p)
in_map f [] p i = absurd i
in_map f (x ∷ ps) p (inl e) = inl (ap f e)
in_map f (x ∷ ps) p (inr i) = inr (in_map f ps p i)

pub in_either : (ps qs : List Path) (p : Path) → IsIn (ps ++ qs) p → IsIn ps p ⊎ IsIn qs p
in_either [] qs p i = inr i
in_either (x ∷ ps) qs p (inl e) = inl (inl e)
in_either (x ∷ ps) qs p (inr i) = elim (in_either ps qs p i) [ inl l ↦ inl (inr l) | inr r ↦ inr r ]

pub regrouped : (a b : List Request) (c : Request) (d : List Request) → (a ++ (b ++ c ∷ [])) ++ d ≡ a ++ (b ++ c ∷ d)
regrouped a b c d = append_assoc a (b ++ c ∷ []) d ∙ ap (λ t. a ++ t) (append_assoc b (c ∷ []) d)
