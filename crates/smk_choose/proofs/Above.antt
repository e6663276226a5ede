-- The folders above a path, slash by slash.
use Rattle.std.proofs.Common.{◌≡◌, ℕ, ◌+◌, ◌<◌, ◌==◌, Bool, true, false, cond, List, [], ◌∷◌, ◌++◌, map, take, drop, get_or, length, refl, sym, ap, ◌∙◌, append_assoc, append-nil}
use Rattle.std.proofs.lemmas.List.{at_drop_more, take_more, map-id}
use Rattle.smk_world.specs.Trees.{Path}
use Rattle.smk_world.specs.World.{folders_above}
use Rattle.smk_choose.specs.Readings.{folder_at}

map_map : (f g : Path → Path) (xs : List Path) → map f (map g xs) ≡ map (λ x. f (g x)) xs
map_map f g [] = refl
map_map f g (x ∷ xs) = ap (λ ys. f (g x) ∷ ys) (map_map f g xs)

map_same : (f g : Path → Path) → ((x : Path) → f x ≡ g x) → (xs : List Path) → map f xs ≡ map g xs
map_same f g same [] = refl
map_same f g same (x ∷ xs) = ap (λ y. y ∷ map f xs) (same x) ∙ ap (λ ys. g x ∷ ys) (map_same f g same xs)

pub above_none : (text : Path) (fs : List Path) → fs ≡ [] → folders_above text ≡ fs ++ map (λ q. take 0 text ++ q) (folders_above (drop 0 text))
above_none text fs e = sym (ap (λ xs. xs ++ map (λ (q : Path). q) (folders_above text)) e ∙ map-id (folders_above text))

pub above_step : (text : Path) (fs new : List Path) (i b : ℕ) → i < length text → get_or text i b ≡ b →
    folders_above text ≡ fs ++ map (λ q. take i text ++ q) (folders_above (drop i text)) → new ≡ fs ++ folder_at text i b →
    folders_above text ≡ new ++ map (λ q. take (i + 1) text ++ q) (folders_above (drop (i + 1) text))
above_step text fs new i b lt at w e =
    w ∙ ap (λ xs. fs ++ xs) (ap (map (λ q. take i text ++ q)) split ∙ here (b == 47))
    ∙ sym (append_assoc fs (folder_at text i b) rest)
    ∙ ap (λ xs. xs ++ rest) (sym e)
  where
    after : List Path
    after = folders_above (drop (i + 1) text)

    rest : List Path
    rest = map (λ q. take (i + 1) text ++ q) after

    split : folders_above (drop i text) ≡ cond (b == 47) ([] ∷ map (λ q. b ∷ q) after) (map (λ q. b ∷ q) after)
    split = at_drop_more folders_above text i b lt ∙ ap (λ c. folders_above (c ∷ drop (i + 1) text)) at

    longer : (q : Path) → take i text ++ b ∷ q ≡ take (i + 1) text ++ q
    longer q =
        sym (append_assoc (take i text) (b ∷ []) q)
        ∙ ap (λ t. t ++ q) (ap (λ c. take i text ++ c ∷ []) (sym at) ∙ sym (take_more text i b lt))

    others : map (λ q. take i text ++ q) (map (λ q. b ∷ q) after) ≡ rest
    others = map_map (λ q. take i text ++ q) (λ q. b ∷ q) after ∙ map_same (λ q. take i text ++ b ∷ q) (λ q. take (i + 1) text ++ q) longer after

    here : (s : Bool) → map (λ q. take i text ++ q) (cond s ([] ∷ map (λ q. b ∷ q) after) (map (λ q. b ∷ q) after)) ≡ cond s (take i text ∷ []) [] ++ rest
    here true = ap (λ x. x ∷ map (λ q. take i text ++ q) (map (λ q. b ∷ q) after)) (append-nil (take i text)) ∙ ap (λ xs. take i text ∷ xs) others
    here false = others
