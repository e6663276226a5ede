-- The greatest serial of a folder is above all that an unmarked record of it names.
use Rattle.std.proofs.Common.{◌≡◌, inl, inr, not, List, [], ◌∷◌, filter, flat_map, refl, sym, ap, subst, ◌∙◌, Option, Some, None}
use Rattle.std.specs.List.{cons_option, filter_map}
use Rattle.std.specs.Prelude.{option_map}
use Rattle.std.proofs.lemmas.Option.{same_Some}
use Rattle.smk_base.proofs.Under.{or_first}
use Rattle.smk_world.specs.World.{World, IsFormed}
use Rattle.smk_world.specs.Trees.{IsIn}
use Rattle.smk_record.specs.declared.record.Record.{Record}
use Rattle.smk_record.specs.Records.{core, serials}
use Rattle.smk_store.specs.Images.{record_at, seen as image_seen, stands}
use Rattle.smk_store.specs.Soundness.{Outside}
use Rattle.smk_laws_protocol.specs.Midway.{IsBounded, IsTop}
use Rattle.smk_store.specs.Trust.{none_eased}
use Rattle.smk_laws_plan.proofs.CurrentLists.{in_flat}
use Rattle.smk_laws_plan.proofs.CurrentPaths.{among_in}
use Rattle.smk_laws_history.proofs.CurrentComplete.{seen_is_complete}
use Rattle.smk_laws_protocol.proofs.Basics.{filter_in}
use Rattle.smk_safe.proofs.Stored.{fold_holds, kept_stands}
use Rattle.smk_drive.specs.Moments.{Rules, greatest, seen}

one_more : {B : Type 0} (o : Option B) (ys : List B) (y : B) → IsIn ys y → IsIn (cons_option o ys) y
one_more None ys y i = i
one_more (Some x) ys y i = inr i

found_map : {A B : Type 0} (f : A → Option B) (xs : List A) (x : A) (y : B) → IsIn xs x → f x ≡ Some y → IsIn (filter_map f xs) y
found_map f [] x y i e = absurd i
found_map f (z ∷ xs) x y (inl same) e = subst (λ o. IsIn (cons_option o (filter_map f xs)) y) (sym (ap f (sym same) ∙ e)) (inl refl)
found_map f (z ∷ xs) x y (inr i) e = one_more (f z) (filter_map f xs) y (found_map f xs x y i e)

whole_of : (o : Option Record) (r : Record) → option_map core o ≡ Some r → (s : Record) × (o ≡ Some s) × (serials s ≡ serials r)
whole_of None r h = cc
whole_of (Some s) r h = (s, refl, ap serials (same_Some (core s) r h))

bounded : (rules : Rules) (w : World) → IsFormed w → IsBounded none_eased (greatest rules (seen rules w)) (seen rules w)
bounded rules w formed p r n (reads, inr never) i = absurd never
bounded rules w formed p r n (reads, inl unmarked) i =
    let image = seen rules w in
    let full = whole_of (record_at image p) r reads in
    let known = among_in image.known p ((seen_is_complete rules.read w formed).known p
    (or_first (stands (image.kept p)) _ (kept_stands (image.kept p) r reads))) in
    let free = filter_in (λ q. not (image.marked q)) image.known p known (ap not unmarked) in
    let records = filter_map (λ q. record_at image q) (filter (λ q. not (image.marked q)) image.known) in
    let there : IsIn records full.0 = found_map (λ q. record_at image q) (filter (λ q. not (image.marked q)) image.known) p full.0 free full.1 in
    fold_holds 0 (flat_map serials records) n (in_flat serials records full.0 n there (subst (λ l. IsIn l n) (sym full.2) i))

pub greatest_is_top : (o : Outside) (rules : Rules) (w : World) → rules.read ≡ o.read → IsFormed w → IsTop o w (greatest rules (seen rules w))
greatest_is_top o rules w reader formed = subst (λ read. IsBounded none_eased (greatest rules (seen rules w)) (image_seen read w)) reader
    (bounded rules w formed)
