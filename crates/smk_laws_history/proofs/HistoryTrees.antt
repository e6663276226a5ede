-- Each step of a history keeps a tree.
use Rattle.std.proofs.Common.{◌≡◌, ◌⊎◌, inl, inr, Bool, true, false, not, ◌&&◌, ◌||◌, ◌==◌, List, [], ◌∷◌, ◌++◌, length, arith, refl, sym, ap, subst, ◌∙◌, Option, Some, None}
use Rattle.std.specs.Prelude.{IsSome, if◌then◌else◌, bytes_eq, nat_le}
use Rattle.std.specs.List.{list_all}
use Rattle.smk_base.specs.Path.{own_folder, is_under, is_at_or_under, is_path, is_part, are_parts, are_path_bytes, parts}
use Rattle.smk_base.proofs.Places.{same_place, and_first, and_second}
use Rattle.smk_base.proofs.Under.{never_both, both_true, false_of_not, under_further, at_when_under, at_or_under_further}
use Rattle.smk_world.specs.declared.event.Node.{Node}
use Rattle.smk_world.specs.declared.event.Node.TheVariants.{Regular, Directory}
use Rattle.smk_world.specs.Folders.{has_names, CanHold, IsTree}
use Rattle.smk_world.specs.World.{World, reading, firmly, folders_above}
use Rattle.smk_world.specs.Trees.{Path, is_path_text, is_text}
use Rattle.smk_world.proofs.Folders.{no_node, above_differs, names_above, tree_by, tree_run}
use Rattle.smk_store.specs.Images.{seen, is_file, is_folder, is_directory, is_covered, is_outside}
use Rattle.smk_store.specs.Soundness.{Outside}
use Rattle.smk_laws_history.specs.Histories.{edited, removed, can_stand, Step, Edit, Remove, Call, Crash}

-- ## Names of paths

part_named : (part : Path) → is_part part ≡ true → nat_le 1 (length part) ≡ true
part_named [] h = h
part_named (b ∷ part) h = grind arith

all_named : (ps : List Path) → are_parts ps ≡ true → list_all (λ part. nat_le 1 (length part)) ps ≡ true
all_named [] h = refl
all_named (part ∷ ps) h =
    both_true (nat_le 1 (length part)) (list_all (λ x. nat_le 1 (length x)) ps) (part_named part (and_first (is_part part) (are_parts ps) h)) (all_named ps (and_second (is_part part) (are_parts ps) h))

module _ (p : Path) (text : is_path_text p ≡ true) where
  is_path_here : is_path p ≡ true
  is_path_here = and_first (is_path p) (is_text p) text

  past_length : (are_path_bytes p && (are_parts (parts p) && not (is_at_or_under p own_folder))) ≡ true
  past_length = and_second (nat_le (length p) 1000) (are_path_bytes p && (are_parts (parts p) && not (is_at_or_under p own_folder))) is_path_here

  past_bytes : (are_parts (parts p) && not (is_at_or_under p own_folder)) ≡ true
  past_bytes = and_second (are_path_bytes p) (are_parts (parts p) && not (is_at_or_under p own_folder)) past_length

  pub path_named : has_names p ≡ true
  path_named = all_named (parts p) (and_first (are_parts (parts p)) (not (is_at_or_under p own_folder)) past_bytes)

  pub path_outside : is_outside p ≡ true
  path_outside = and_second (are_parts (parts p)) (not (is_at_or_under p own_folder)) past_bytes

-- ## Steps

pub tree_removed : (w : World) (p : Path) → IsTree w → IsTree (removed w p)
tree_removed w p tree =
    tree_by (λ q. reading (w.nodes q)) (λ q. reading (if is_at_or_under q p then firmly None else w.nodes q)) tree
    (λ q some. inl (new q (is_at_or_under q p) some)) (λ q f u some d. kept q f u (is_at_or_under f p) refl some d)
  where
    new : (q : Path) (b : Bool) → IsSome (reading (if b then firmly None else w.nodes q)) → IsSome (reading (w.nodes q))
    new q true h = no_node h
    new q false h = h

    kept : (q f : Path) → is_under q f ≡ true → (b : Bool) → is_at_or_under f p ≡ b → IsSome (reading (if is_at_or_under q p then firmly None else w.nodes q)) → reading (w.nodes f) ≡ Some Directory → reading (if b then firmly None else w.nodes f) ≡ Some Directory
    kept q f u true e some d = no_node (subst (λ b. IsSome (reading (if b then firmly None else w.nodes q))) (at_or_under_further q f p (at_when_under q f u) e) some)
    kept q f u false e some d = d

pub tree_edited : (w : World) (p : Path) (node : Node) → IsTree w → (reading (w.nodes p) ≡ Some Directory → ⊥) → has_names p ≡ true → IsTree (edited w p node)
tree_edited w p node tree free named =
    tree_by (λ q. reading (w.nodes q)) now tree (λ q some. new q (bytes_eq q p) (is_under p q) refl refl some) (λ q f u some d. kept f (bytes_eq f p) refl d)
  where
    now : Path → Option Node
    now q = reading (if bytes_eq q p then firmly (Some node) else (if is_under p q then firmly (Some Directory) else w.nodes q))

    above : (f : Path) → is_under p f ≡ true → now f ≡ Some Directory
    above f u =
        ap (λ b. reading (if b then firmly (Some node) else (if is_under p f then firmly (Some Directory) else w.nodes f))) (above_differs p f u)
        ∙ ap (λ b. reading (if b then firmly (Some Directory) else w.nodes f)) u

    new : (q : Path) (b c : Bool) → bytes_eq q p ≡ b → is_under p q ≡ c → IsSome (reading (if b then firmly (Some node) else (if c then firmly (Some Directory) else w.nodes q))) → IsSome (reading (w.nodes q)) ⊎ CanHold now q
    new q true c e k h = subst (λ x. IsSome (reading (w.nodes x)) ⊎ CanHold now x) (sym (same_place q p e)) (inr (record { folders = λ f u. above f u; named = named }))
    new q false true e k h = inr (record { folders = λ f u. above f (under_further p q f k u); named = names_above p q named k })
    new q false false e k h = inl h

    stays : (f : Path) (c : Bool) → reading (w.nodes f) ≡ Some Directory → reading (if c then firmly (Some Directory) else w.nodes f) ≡ Some Directory
    stays f true d = refl
    stays f false d = d

    kept : (f : Path) (b : Bool) → bytes_eq f p ≡ b → reading (w.nodes f) ≡ Some Directory → reading (if b then firmly (Some node) else (if is_under p f then firmly (Some Directory) else w.nodes f)) ≡ Some Directory
    kept f true e d = absurd (free (subst (λ x. reading (w.nodes x) ≡ Some Directory) (same_place f p e) d))
    kept f false e d = stays f (is_under p f) d

-- where a file can be put, no folder stands
free_there : (o : Outside) (w : World) (p : Path) → is_outside p ≡ true → can_stand (seen o.read w) p ≡ true → reading (w.nodes p) ≡ Some Directory → ⊥
free_there o w p out can is =
    never_both (is_folder (seen o.read w) p) (ap (λ b. is_directory (if b then reading (w.nodes p) else None)) out ∙ ap is_directory is)
    (false_of_not (is_folder (seen o.read w) p) (and_first (not (is_folder (seen o.read w) p)) (list_all (λ f. not (is_file (seen o.read w) f)) (folders_above p)) can))

pub step_tree : (o : Outside) (w next : World) → IsTree w → Step o w next → IsTree next
step_tree o w _ tree (Edit p bytes time read_only can later source sources) =
    let at_now = seen o.read (edited w p (Regular bytes time read_only)) in
    let text : is_path_text p ≡ true = and_first (is_path_text p) (is_file at_now p && not (is_covered at_now p)) source in
    tree_edited w p (Regular bytes time read_only) tree (free_there o w p (path_outside p text) can) (path_named p text)
step_tree o w _ tree (Remove p outside) = tree_removed w p tree
step_tree o w _ tree (Call log paths call alone) = tree_run o.act w log tree call.follows
step_tree o w _ tree (Crash log events rest paths to_the_end nodes call split left) = left.tree
