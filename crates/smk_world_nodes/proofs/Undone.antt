-- Nodes that are put back as they were.
use Rattle.std.proofs.Common.{◌≡◌, ℕ, Bool, true, false, ◌||◌, List, [], ◌∷◌, ◌++◌, refl, ap, sym, ◌∙◌, Option, Some, None, bytes_eq, string_bytes, String}
use Rattle.std.specs.Prelude.{if◌then◌else◌}
use Rattle.std.specs.declared.alloc.Global.{Global}
use Rattle.smk_world.specs.declared.event.Node.{Node}
use Rattle.smk_world.specs.declared.event.Node.TheVariants.{Directory}
use Rattle.smk_world_nodes.specs.Nodes.{is_listed, or_folder}

pub listed_more : (q : List ℕ) (keys : List (String Global)) (key : String Global) → is_listed q (keys ++ key ∷ []) ≡ (is_listed q keys || bytes_eq q (string_bytes key))
listed_more q [] key = or_false (bytes_eq q (string_bytes key))
  where
    or_false : (b : Bool) → (b || false) ≡ b
    or_false true = refl
    or_false false = refl
listed_more q (k ∷ keys) key = ap (λ b. bytes_eq q (string_bytes k) || b) (listed_more q keys key) ∙ or_assoc (bytes_eq q (string_bytes k)) (is_listed q keys) (bytes_eq q (string_bytes key))
  where
    or_assoc : (a b c : Bool) → (a || (b || c)) ≡ ((a || b) || c)
    or_assoc true b c = refl
    or_assoc false b c = refl

-- a folder that was made, where nothing was
pub back_made : (listed here : Bool) (old new : Option Node) → (here ≡ true → old ≡ None) → new ≡ (if here then or_folder old else old) → (if listed || here then None else new) ≡ (if listed then None else old)
back_made true here old new none is = refl
back_made false true old new none is = sym (none refl)
back_made false false old new none is = is

-- a folder that was listed and not made
pub back_kept : (listed here : Bool) (old new : Option Node) → (here ≡ true → old ≡ None) → new ≡ old → (if listed || here then None else new) ≡ (if listed then None else old)
back_kept true here old new none is = refl
back_kept false true old new none is = sym (none refl)
back_kept false false old new none is = is

-- a folder is put where nothing was
pub set_folder : (here : Bool) (old new : Option Node) → (here ≡ true → old ≡ None) → new ≡ (if here then Some Directory else old) → new ≡ (if here then or_folder old else old)
set_folder true old new none is = is ∙ ap or_folder (sym (none refl))
set_folder false old new none is = is
