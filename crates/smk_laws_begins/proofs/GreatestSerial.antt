-- The greatest serial of a store is that of its folder.
use Rattle.std.proofs.Common.{◌≡◌, inl, inr, ℕ, max, Bool, true, false, not, List, [], ◌∷◌, ◌++◌, filter, refl, sym, ap, subst, ◌∙◌, bytes_eq, flat_map, Option, Some, None}
use Rattle.std.specs.Prelude.{if◌then◌else◌}
use Rattle.std.specs.List.{cons_option, filter_map, fold}
use Rattle.smk_base.proofs.Places.{place_itself, same_place}
use Rattle.smk_base.proofs.Under.{false_unless}
use Rattle.smk_world.specs.Trees.{IsIn, Path}
use Rattle.smk_record.specs.declared.record.Record.{Record}
use Rattle.smk_record.specs.Records.{are_rising, serials}
use Rattle.smk_record.proofs.Rising.{Above, less_itself, rising_first, rising_rest}
use Rattle.smk_store.specs.declared.store.Entry.{Entry}
use Rattle.smk_store.specs.Images.{Image, is_known, record_at}
use Rattle.smk_store.specs.Loading.{IsStoreOf, entry_at, entry_in}
use Rattle.smk_store.specs.Serials.{all_serials, greatest_serial, unmarked_serials}
use Rattle.smk_store.specs.Stores.{Known, entry_of}
use Rattle.smk_chain_derive.specs.Clashes.{ListsKnown, paths_in}
use Rattle.smk_chain_derive.proofs.Stored.{listed_same}
use Rattle.smk_drive.specs.Moments.{Rules, greatest}

-- ## Each entry is found

above_in : (p : Path) (ks : List Known) → Above p (paths_in ks) → (k : Known) → IsIn ks k → Above p (k.path ∷ [])
above_in p [] above k i = absurd i
above_in p (l ∷ ks) above k (inl e) = subst (λ (x : Known). Above p (x.path ∷ [])) (sym e) (above.0, tt)
above_in p (l ∷ ks) above k (inr i) = above_in p ks above.1 k i

-- a path below others is none of them
other_path : (p q : Path) → Above p (q ∷ []) → bytes_eq p q ≡ false
other_path p q above = false_unless (bytes_eq p q) (λ same. less_itself p (subst (λ x. Above p (x ∷ [])) (sym (same_place p q same)) above).0)

found_entry : (ks : List Known) → are_rising (paths_in ks) ≡ true → (k : Known) → IsIn ks k → entry_of ks k.path ≡ Some k.entry
found_entry [] rising k i = absurd i
found_entry (l ∷ ks) rising k (inl e) =
    subst (λ (x : Known). entry_of (l ∷ ks) x.path ≡ Some x.entry) (sym e) (ap (λ b. if b then Some l.entry else entry_of ks l.path) (place_itself l.path))
found_entry (l ∷ ks) rising k (inr i) =
    ap (λ b. if b then Some l.entry else entry_of ks k.path)
    (other_path l.path k.path (above_in l.path ks (rising_first l.path (paths_in ks) rising) k i))
    ∙ found_entry ks (rising_rest l.path (paths_in ks) rising) k i

-- ## What an entry has

some_same : (a b : Entry) → Some a ≡ Some b → a ≡ b
some_same a b h = cc

none_some : {A : Type 0} (e : Entry) → None ≡ Some e → A
none_some e h = absurd (go h)
  where
    go : None ≡ Some e → ⊥
    go h = cc

entry_is : (image : Image) (p : Path) (e : Entry) → entry_in image p ≡ Some e → e ≡ entry_at image p
entry_is image p e h = go (is_known image p) h
  where
    go : (b : Bool) → (if b then Some (entry_at image p) else None) ≡ Some e → e ≡ entry_at image p
    go true k = sym (some_same (entry_at image p) e k)
    go false k = none_some e k

-- the serials in the unmarked records of these paths
abbrev in_image : Image → List Path → List ℕ
in_image image ps = flat_map serials (filter_map (λ p. record_at image p) (filter (λ p. not (image.marked p)) ps))

with_first : (o : Option Record) (rs : List Record) → flat_map serials (cons_option o rs) ≡ all_serials o ++ flat_map serials rs
with_first None rs = refl
with_first (Some r) rs = refl

one_path : (image : Image) (p : Path) (ps : List Path) → in_image image (p ∷ ps) ≡ unmarked_serials (entry_at image p) ++ in_image image ps
one_path image p ps = go (image.marked p)
  where
    rest : List Path
    rest = filter (λ q. not (image.marked q)) ps

    go :
        (b : Bool) →
        flat_map serials (filter_map (λ q. record_at image q) (if not b then p ∷ rest else rest))
        ≡ (if b then [] else all_serials (record_at image p)) ++ in_image image ps
    go true = refl
    go false = with_first (record_at image p) (filter_map (λ q. record_at image q) rest)

-- so those of the paths of a part of a store are those of its entries
all_paths :
    (image : Image) (store : List Known) → IsStoreOf image store → are_rising (paths_in store) ≡ true → (ks : List Known) →
    ((k : Known) → IsIn ks k → IsIn store k) → in_image image (paths_in ks) ≡ flat_map (λ (k : Known). unmarked_serials k.entry) ks
all_paths image store is rising [] within = refl
all_paths image store is rising (k ∷ ks) within =
    one_path image k.path (paths_in ks)
    ∙ (ap (λ e. unmarked_serials e ++ in_image image (paths_in ks))
    (sym (entry_is image k.path k.entry (sym (is.entries k.path) ∙ found_entry store rising k (within k (inl refl)))))
    ∙ ap (λ ns. unmarked_serials k.entry ++ ns) (all_paths image store is rising ks (λ l i. within l (inr i))))

pub greatest_same :
    (rules : Rules) (image : Image) (store : List Known) →
    IsStoreOf image store → ListsKnown image → are_rising (paths_in store) ≡ true → greatest rules image ≡ greatest_serial store
greatest_same rules image store is listed rising =
    ap (λ ps. fold max 0 (in_image image ps)) (listed_same image store is listed rising)
    ∙ ap (fold max 0) (all_paths image store is rising store (λ k i. i))
