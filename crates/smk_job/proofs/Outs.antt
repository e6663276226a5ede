-- The outputs of a recipe, item by item.
use Rattle.std.proofs.Common.{◌≡◌, true, List, [], ◌∷◌, ◌++◌, map, refl, ap, subst, ◌∙◌}
use Rattle.std.specs.List.{flat_map}
use Rattle.smk_world.specs.declared.recipe.Out.{Out}
use Rattle.smk_world.specs.declared.recipe.OutItem.{OutItem}
use Rattle.smk_base.specs.Path.{is_path}
use Rattle.smk_world.specs.declared.recipe.Recipe.{Recipe}
use Rattle.smk_world.specs.World.{owned_paths}
use Rattle.smk_world.specs.Trees.{Path, Each, outs_of}

map_both : (xs ys : List Out) → map (λ (out : Out). out.path) (xs ++ ys) ≡ map (λ (out : Out). out.path) xs ++ map (λ (out : Out). out.path) ys
map_both [] ys = refl
map_both (x ∷ xs) ys = ap (λ t. x.path ∷ t) (map_both xs ys)

-- the paths of all outputs are those of each item's
pub paths_same : (items : List OutItem) → map (λ (out : Out). out.path) (flat_map (λ (item : OutItem). item.outs) items) ≡ flat_map (λ (item : OutItem). map (λ (out : Out). out.path) item.outs) items
paths_same [] = refl
paths_same (i ∷ items) =
    map_both i.outs (flat_map (λ (item : OutItem). item.outs) items) ∙ ap (λ t. map (λ (out : Out). out.path) i.outs ++ t) (paths_same items)

pub own_same : (recipe : Recipe) (logs : List Path) (outs : List Out) → outs ≡ outs_of recipe → map (λ (out : Out). out.path) outs ++ logs ≡ owned_paths recipe logs
own_same recipe logs outs are = ap (λ (os : List Out). map (λ (out : Out). out.path) os ++ logs) are ∙ ap (λ ps. ps ++ logs) (paths_same recipe.outputs)

-- the places of outputs and logs are those of the recipe
pub owned_as : (recipe : Recipe) (logs : List Path) (outs : List Out) (owned : List Path) → outs ≡ outs_of recipe
    → (owned ≡ map (λ (out : Out). out.path) outs ++ logs) × Each (λ p. is_path p ≡ true) (map (λ (out : Out). out.path) outs ++ logs)
    → (owned ≡ owned_paths recipe logs) × Each (λ p. is_path p ≡ true) (owned_paths recipe logs)
owned_as recipe logs outs owned are h =
    (h.0 ∙ own_same recipe logs outs are, subst (λ ps. Each (λ p. is_path p ≡ true) ps) (own_same recipe logs outs are) h.1)

pub owned_from : (recipe : Recipe) (logs ls : List Path) (ready outs : List Out) (owned : List Path) → ready ≡ outs_of recipe → outs ≡ ready → ls ≡ logs
    → (owned ≡ map (λ (out : Out). out.path) outs ++ ls) × Each (λ p. is_path p ≡ true) (map (λ (out : Out). out.path) outs ++ ls)
    → (owned ≡ owned_paths recipe logs) × Each (λ p. is_path p ≡ true) (owned_paths recipe logs)
owned_from recipe logs ls ready outs owned are same equal h =
    owned_as recipe logs outs owned (same ∙ are)
    (subst (λ l. (owned ≡ map (λ (out : Out). out.path) outs ++ l) × Each (λ p. is_path p ≡ true) (map (λ (out : Out). out.path) outs ++ l)) equal h)
