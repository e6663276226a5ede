-- A store that has just what stands but for some paths.
use Rattle.std.proofs.Common.{◌≡◌, inl, inr, Bool, true, false, ◌||◌, not, List, [], ◌∷◌, ◌++◌, refl, sym, ap, ◌∙◌, bytes_eq, Option, Some, None}
use Rattle.std.specs.Prelude.{if◌then◌else◌, is_some}
use Rattle.std.specs.List.{list_any}
use Rattle.smk_base.proofs.Places.{same_place}
use Rattle.smk_base.proofs.Under.{or_first}
use Rattle.smk_world.specs.World.{folders_above}
use Rattle.smk_world.specs.Trees.{Path, IsIn, among}
use Rattle.smk_record.specs.declared.record.Stamp.{Stamp}
use Rattle.smk_store.specs.declared.store.Entry.{Entry}
use Rattle.smk_store.specs.Forgetting.{all_inputs, inputs_of}
use Rattle.smk_store.specs.Images.{Image, is_known, readable, stands}
use Rattle.smk_store.specs.Loading.{IsStoreOf, entry_at, entry_in}
use Rattle.smk_store.specs.Stores.{Known, entry_of}
use Rattle.smk_keep_forget.specs.Turns.{without}

-- ## What is known of a path

abbrev entry_unless : Bool → Option Entry → Option Entry
entry_unless b e = if b then None else e

abbrev first_entry : Bool → Entry → Option Entry → Option Entry
first_entry b e more = if b then Some e else more

pub entry_without : (gone : List Path) (ks : List Known) (q : Path) → entry_of (without gone ks) q ≡ entry_unless (among gone q) (entry_of ks q)
entry_without gone [] q = by (among gone q)
  where
    by : (b : Bool) → None ≡ entry_unless b None
    by true = refl
    by false = refl
entry_without gone (k ∷ ks) q = kept (among gone k.path) refl (entry_without gone ks q)
  where
    here : (b g : Bool) → bytes_eq k.path q ≡ b → among gone k.path ≡ g → entry_of (without gone ks) q ≡ entry_unless (among gone q) (entry_of ks q)
        → (if not g then first_entry b k.entry (entry_of (without gone ks) q) else entry_of (without gone ks) q) ≡ entry_unless (among gone q) (first_entry b k.entry (entry_of ks q))
    here true true same away ih =
        let out : among gone q ≡ true = ap (among gone) (sym (same_place k.path q same)) ∙ away in
        ih ∙ ap (λ v. entry_unless v (entry_of ks q)) out ∙ sym (ap (λ v. entry_unless v (Some k.entry)) out)
    here true false same away ih = sym (ap (λ v. entry_unless v (Some k.entry)) (ap (among gone) (sym (same_place k.path q same)) ∙ away))
    here false true same away ih = ih
    here false false same away ih = ih

    kept : (g : Bool) → among gone k.path ≡ g → entry_of (without gone ks) q ≡ entry_unless (among gone q) (entry_of ks q)
        → entry_of (if not g then k ∷ without gone ks else without gone ks) q ≡ entry_unless (among gone q) (first_entry (bytes_eq k.path q) k.entry (entry_of ks q))
    kept true away ih = here (bytes_eq k.path q) true refl away ih
    kept false away ih = here (bytes_eq k.path q) false refl away ih

pub entry_there : (gone : List Path) (ks : List Known) (q : Path) → among gone q ≡ false → entry_of (without gone ks) q ≡ entry_of ks q
entry_there gone ks q h = entry_without gone ks q ∙ ap (λ b. entry_unless b (entry_of ks q)) h

pub entry_gone : (gone : List Path) (ks : List Known) (q : Path) → among gone q ≡ true → entry_of (without gone ks) q ≡ None
entry_gone gone ks q h = entry_without gone ks q ∙ ap (λ b. entry_unless b (entry_of ks q)) h

-- all is left where no path is gone
pub without_none : (ks : List Known) → without [] ks ≡ ks
without_none [] = refl
without_none (k ∷ ks) = ap (λ t. k ∷ t) (without_none ks)

-- ## Inputs

in_left : {A : Type 0} (xs ys zs : List A) (x : A) → (IsIn ys x → IsIn zs x) → IsIn (xs ++ ys) x → IsIn (xs ++ zs) x
in_left [] ys zs x more h = more h
in_left (y ∷ xs) ys zs x more (inl e) = inl e
in_left (y ∷ xs) ys zs x more (inr h) = inr (in_left xs ys zs x more h)

pub in_right : {A : Type 0} (xs ys : List A) (x : A) → IsIn ys x → IsIn (xs ++ ys) x
in_right [] ys x h = h
in_right (y ∷ xs) ys x h = inr (in_right xs ys x h)

-- what is left is in the whole
pub inputs_left : (gone : List Path) (ks : List Known) (x : Path × Stamp) → IsIn (all_inputs (without gone ks)) x → IsIn (all_inputs ks) x
inputs_left gone [] x h = absurd h
inputs_left gone (k ∷ ks) x h = by (among gone k.path) (inputs_left gone ks x) h
  where
    by : (g : Bool) → (IsIn (all_inputs (without gone ks)) x → IsIn (all_inputs ks) x) → IsIn (all_inputs (if not g then k ∷ without gone ks else without gone ks)) x → IsIn (all_inputs (k ∷ ks)) x
    by true again i = in_right (inputs_of (readable k.entry.kept)) (all_inputs ks) x (again i)
    by false again i = in_left (inputs_of (readable k.entry.kept)) (all_inputs (without gone ks)) (all_inputs ks) x again i

-- ## Images

entry_some : (image : Image) (q : Path) → is_some (entry_in image q) ≡ is_known image q
entry_some image q = by (is_known image q)
  where
    by : (b : Bool) → is_some (if b then Some (entry_at image q) else None) ≡ b
    by true = refl
    by false = refl

-- a store tells what is known
pub known_by_store : (image : Image) (ks : List Known) → IsStoreOf image ks → (q : Path) → is_some (entry_of ks q) ≡ is_known image q
known_by_store image ks store q = ap is_some (store.entries q) ∙ entry_some image q

-- it is enough that it has the entries
pub store_of : (image : Image) (ks : List Known) → ((q : Path) → entry_of ks q ≡ entry_in image q) → IsStoreOf image ks
store_of image ks entries =
    record {
      entries = entries;
      covered = λ p. λ i. list_any (λ q. (ap is_some (entries q) ∙ entry_some image q) i) (p ∷ folders_above p);
    }

-- The image is another one's but for a path, of which nothing is known.
pub record IsWithout (p : Path) (old new : Image) : Type 0 where
  pub none : is_known new p ≡ false
  pub kept : (q : Path) → bytes_eq q p ≡ false → new.kept q ≡ old.kept q
  pub marked : (q : Path) → bytes_eq q p ≡ false → new.marked q ≡ old.marked q
  pub noted : (q : Path) → bytes_eq q p ≡ false → new.noted q ≡ old.noted q

pub entry_other : (p : Path) (old new : Image) → IsWithout p old new → (q : Path) → bytes_eq q p ≡ false → entry_in new q ≡ entry_in old q
entry_other p old new h q off = λ i.
    if stands (h.kept q off i) || (h.marked q off i || h.noted q off i) then Some (record { kept = h.kept q off i; marked = h.marked q off i; noted = h.noted q off i }) else None

pub known_other : (p : Path) (old new : Image) → IsWithout p old new → (q : Path) → bytes_eq q p ≡ false → is_known new q ≡ is_known old q
known_other p old new h q off = λ i. stands (h.kept q off i) || (h.marked q off i || h.noted q off i)

-- one more path is gone
pub store_without : (p : Path) (old new : Image) (gone : List Path) (ks : List Known) → IsWithout p old new → IsStoreOf old (without gone ks) → IsStoreOf new (without (p ∷ gone) ks)
store_without p old new gone ks h store = store_of new (without (p ∷ gone) ks) (λ q. by q (bytes_eq q p) refl)
  where
    by : (q : Path) (b : Bool) → bytes_eq q p ≡ b → entry_of (without (p ∷ gone) ks) q ≡ entry_in new q
    by q true is =
        entry_gone (p ∷ gone) ks q (or_first (bytes_eq q p) (among gone q) is)
        ∙ sym (ap (λ v. if v then Some (entry_at new q) else None) (ap (is_known new) (same_place q p is) ∙ h.none))
    by q false is =
        entry_without (p ∷ gone) ks q
        ∙ ap (λ v. entry_unless (v || among gone q) (entry_of ks q)) is
        ∙ sym (entry_without gone ks q)
        ∙ store.entries q
        ∙ sym (entry_other p old new h q is)
