-- Events that are confined to some places, and to folders above others: elsewhere a folder stays as it was.
use Rattle.std.proofs.Common.{◌≡◌, ◌⊎◌, Bool, true, false, ◌&&◌, ◌||◌, cond, List, [], ◌∷◌, Option, Ok, Err, bytes_eq, refl, sym, ap, subst, ◌∙◌, inl, inr, true≢false}
use Rattle.std.specs.Prelude.{is_some}
use Rattle.std.specs.List.{list_all}
use Rattle.smk_base.specs.Path.{is_at_or_under, is_under}
use Rattle.smk_base.proofs.Places.{same_place}
use Rattle.smk_world.specs.declared.event.Call.{Call}
use Rattle.smk_world.specs.declared.event.Call.TheVariants.{Looked, ReadFile, ReadFolder, Written, Created, Removed, MadeParents, Settled, Protected, Started, Waited}
use Rattle.smk_world.specs.declared.event.Change.{Change}
use Rattle.smk_world.specs.declared.event.Child.{Child}
use Rattle.smk_world.specs.declared.event.Event.{Event}
use Rattle.smk_world.specs.declared.event.Node.{Node}
use Rattle.smk_world.specs.declared.event.NodeState.{NodeState}
use Rattle.smk_world.specs.World.{World, Nodes, node_in, world_of, firmly, firm, standing, is_within, is_above, is_named, node_after, reads_folder, run, after}
use Rattle.smk_world.specs.Trees.{Path}
use Rattle.smk_drive_rows.proofs.Truth.{and_left, and_right, test}
use Rattle.smk_drive_rows.proofs.Changes.{at_within}
use Rattle.smk_cli_target.specs.Ends.{Stays}

-- the call looks, changes one of the places, makes folders above another one, or settles
abbrev pub is_confined : List Path → List Path → Call → Bool
is_confined places below (Looked p r) = true
is_confined places below (ReadFile p limit r) = true
is_confined places below (ReadFolder p r) = true
is_confined places below (Written p bytes r) = is_within p places
is_confined places below (Created p r) = is_within p places
is_confined places below (Removed p r) = is_within p places
is_confined places below (MadeParents p r) = is_named p below
is_confined places below (Settled ps r) = true
is_confined places below (Protected p r) = false
is_confined places below (Started recipe logs command r) = false
is_confined places below (Waited r) = false

module _ (places below : List Path) (q : Path) (outside : is_within q places ≡ false) (apart : is_above q below ≡ false) where
  not_at : (p : Path) → is_within p places ≡ true → is_at_or_under q p ≡ false
  not_at p h = go (test (is_at_or_under q p))
    where
      go : (is_at_or_under q p ≡ true) ⊎ (is_at_or_under q p ≡ false) → is_at_or_under q p ≡ false
      go (inl t) = absurd (true≢false (sym (at_within q p places t h) ∙ outside))
      go (inr f) = f

  not_same : (p : Path) → is_within p places ≡ true → bytes_eq q p ≡ false
  not_same p h = go (test (bytes_eq q p))
    where
      go : (bytes_eq q p ≡ true) ⊎ (bytes_eq q p ≡ false) → bytes_eq q p ≡ false
      go (inl t) = absurd (true≢false (sym (subst (λ x. is_within x places ≡ true) (sym (same_place q p t)) h) ∙ outside))
      go (inr f) = f

  or_true : (c : Bool) → (c || true) ≡ true
  or_true true = refl
  or_true false = refl

  above_by :
      (p x : Path) (xs : List Path) → is_under p q ≡ true → (is_named p xs ≡ true → is_above q xs ≡ true) →
      (c : Bool) → bytes_eq p x ≡ c → (c || is_named p xs) ≡ true → (is_under x q || is_above q xs) ≡ true
  above_by p x xs u deeper true e t = subst (λ y. (is_under y q || is_above q xs) ≡ true) (same_place p x e) (subst (λ c. (c || is_above q xs) ≡ true) (sym u) refl)
  above_by p x xs u deeper false e t = subst (λ c. (is_under x q || c) ≡ true) (sym (deeper t)) (or_true (is_under x q))

  above_one : (p : Path) (ps : List Path) → is_named p ps ≡ true → is_under p q ≡ true → is_above q ps ≡ true
  above_one p [] n u = absurd (true≢false (sym n))
  above_one p (x ∷ xs) n u = above_by p x xs u (λ t. above_one p xs t u) (bytes_eq p x) refl n

  not_under : (p : Path) → is_named p below ≡ true → is_under p q ≡ false
  not_under p h = go (test (is_under p q))
    where
      go : (is_under p q ≡ true) ⊎ (is_under p q ≡ false) → is_under p q ≡ false
      go (inl t) = absurd (true≢false (sym (above_one p below h t) ∙ apart))
      go (inr f) = f

  kept_by : (n : Option Node) (b : Bool) (s : NodeState) → b ≡ false → cond b s (firmly n) ≡ firmly n
  kept_by n b s e = ap (λ c. cond c s (firmly n)) e

  kept_so : (n : Option Node) (b : Bool) → cond b (firm (firmly n)) (firmly n) ≡ firmly n
  kept_so n true = refl
  kept_so n false = refl

  and_false : (a b : Bool) → b ≡ false → (a && b) ≡ false
  and_false true b e = e
  and_false false b e = refl

  -- a firm node elsewhere stays
  stays_at : (n : Option Node) (c : Call) (left : List Change) (cs : List Child) → is_confined places below c ≡ true → node_after c left cs q (firmly n) ≡ firmly n
  stays_at n (Looked p r) left cs h = refl
  stays_at n (ReadFile p limit r) left cs h = refl
  stays_at n (ReadFolder p r) left cs h = refl
  stays_at n (Written p bytes r) left cs h = kept_by n (bytes_eq q p) _ (not_same p h)
  stays_at n (Created p (Ok made)) left cs h = kept_by n (made && bytes_eq q p) _ (and_false made (bytes_eq q p) (not_same p h))
  stays_at n (Created p (Err e)) left cs h = kept_by n (_ && bytes_eq q p) _ (and_false _ (bytes_eq q p) (not_same p h))
  stays_at n (Removed p r) left cs h = kept_by n (is_at_or_under q p) _ (not_at p h)
  stays_at n (MadeParents p (Ok u)) left cs h = kept_by n (is_under p q) _ (not_under p h)
  stays_at n (MadeParents p (Err e)) left cs h = kept_by n (is_some (standing left q) && is_under p q) _ (and_false (is_some (standing left q)) (is_under p q) (not_under p h))
  stays_at n (Settled ps (Ok u)) left cs h = kept_so n (is_within q ps || (is_above q ps && reads_folder (firmly n)))
  stays_at n (Settled ps (Err e)) left cs h = refl
  stays_at n (Protected p r) left cs h = absurd (true≢false (sym h))
  stays_at n (Started recipe logs command r) left cs h = absurd (true≢false (sym h))
  stays_at n (Waited r) left cs h = absurd (true≢false (sym h))

  stays_in : (n : Option Node) (w : World) (es : List Event) → w.nodes q ≡ firmly n → list_all (λ (e : Event). is_confined places below e.call) es ≡ true → (run w es).nodes q ≡ firmly n
  stays_in n w [] is h = is
  stays_in n w (e ∷ es) is h =
      let later = list_all (λ (d : Event). is_confined places below d.call) es in
      stays_in n (after w e) es
      (ap (λ s. node_after e.call e.left w.children q s) is ∙ stays_at n e.call e.left w.children (and_left (is_confined places below e.call) later h))
      (and_right (is_confined places below e.call) later h)

-- so the world of a folder stays as it was elsewhere
pub stays_elsewhere :
    (places below : List Path) (nodes : Nodes) (es : List Event) → list_all (λ (e : Event). is_confined places below e.call) es ≡ true →
    (q : Path) → is_within q places ≡ false → is_above q below ≡ false → Stays ((world_of nodes).nodes q) ((run (world_of nodes) es).nodes q)
stays_elsewhere places below nodes es h q outside apart =
    let same = stays_in places below q outside apart (node_in nodes q) (world_of nodes) es refl h in
    subst (λ s. Stays ((world_of nodes).nodes q) s) (sym same) (refl, λ n m. m)
