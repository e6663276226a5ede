-- The directories among outputs, one item after the other.
use Rattle.std.proofs.Common.{◌≡◌, ℕ, suc, ◌+◌, ◌<◌, Bool, true, false, ◌||◌, cond, List, [], ◌∷◌, ◌++◌, map, filter, length, drop, get_or, refl, sym, ap, ◌∙◌, drop-cons, add-one}
use Rattle.std.specs.List.{flat_map}
use Rattle.std.proofs.lemmas.List.Concat.{flat_map-cons}
use Rattle.smk_world.specs.declared.recipe.Out.{Out}
use Rattle.smk_world.specs.declared.recipe.OutItem.{OutItem}
use Rattle.smk_world.specs.World.{is_named}
use Rattle.smk_world.specs.Trees.{Path, is_folder_kind}
use Rattle.smk_record.proofs.Lists.{named_append}

abbrev pub directories : List Out → List Path
directories outs = map (λ (out : Out). out.path) (filter (λ (out : Out). is_folder_kind out.kind) outs)

kept_or_not : (b : Bool) (o : Out) (xs : List Out) (ps qs : List Path) → map (λ (out : Out). out.path) xs ≡ ps ++ qs → map (λ (out : Out). out.path) (cond b (o ∷ xs) xs) ≡ cond b (o.path ∷ ps) ps ++ qs
kept_or_not true o xs ps qs e = ap (λ t. o.path ∷ t) e
kept_or_not false o xs ps qs e = e

mapped_cond : (b : Bool) (o : Out) (xs : List Out) → map (λ (out : Out). out.path) (cond b (o ∷ xs) xs) ≡ cond b (o.path ∷ map (λ (out : Out). out.path) xs) (map (λ (out : Out). out.path) xs)
mapped_cond true o xs = refl
mapped_cond false o xs = refl

directories-append : (xs ys : List Out) → directories (xs ++ ys) ≡ directories xs ++ directories ys
directories-append [] ys = refl
directories-append (o ∷ xs) ys =
    kept_or_not (is_folder_kind o.kind) o (filter (λ (out : Out). is_folder_kind out.kind) (xs ++ ys)) (directories xs) (directories ys) (directories-append xs ys)
    ∙ ap (λ t. t ++ directories ys) (sym (mapped_cond (is_folder_kind o.kind) o (filter (λ (out : Out). is_folder_kind out.kind) xs)))

pub directory_step : (q : Path) (items : List OutItem) (i : ℕ) (x : OutItem) → i < length items → x ≡ get_or items i x
    → is_named q (directories (flat_map (λ item. item.outs) (drop i items))) ≡ (is_named q (directories x.outs) || is_named q (directories (flat_map (λ item. item.outs) (drop (i + 1) items))))
directory_step q items i x lt e =
    let split : drop i items ≡ x ∷ drop (i + 1) items = drop-cons items i x lt ∙ ap (λ y. y ∷ drop (suc i) items) (sym e) ∙ ap (λ k. x ∷ drop k items) (sym (add-one i)) in
    ap (λ xs. is_named q (directories (flat_map (λ item. item.outs) xs))) split
    ∙ ap (λ outs. is_named q (directories outs)) (flat_map-cons (λ (item : OutItem). item.outs) x (drop (i + 1) items))
    ∙ ap (is_named q) (directories-append x.outs (flat_map (λ item. item.outs) (drop (i + 1) items)))
    ∙ named_append q (directories x.outs) (directories (flat_map (λ item. item.outs) (drop (i + 1) items)))
