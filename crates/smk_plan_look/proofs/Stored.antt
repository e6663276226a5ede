-- What a store tells of sources and of their records.
use Rattle.std.proofs.Common.{◌≡◌, inl, inr, Bool, true, false, ◌&&◌, not, List, [], ◌∷◌, ◌||◌, refl, sym, ap, ◌∙◌, Option, Some, None, bytes_eq}
use Rattle.std.specs.Prelude.{is_some, if◌then◌else◌, option_map}
use Rattle.std.specs.List.{list_any}
use Rattle.std.proofs.lemmas.Bool.{true≢false}
use Rattle.std.proofs.lemmas.Option.{same_Some, none-some}
use Rattle.smk_base.proofs.Places.{and_second, place_itself}
use Rattle.smk_base.proofs.Under.{false_of_not, or_first, or_second}
use Rattle.smk_world.specs.declared.event.Node.{Node}
use Rattle.smk_world.specs.declared.event.Node.TheVariants.{Regular, Directory}
use Rattle.smk_world.specs.World.{is_named}
use Rattle.smk_world.specs.Calls.{stat_of}
use Rattle.smk_world.specs.Trees.{Path, Each, IsIn, is_path_text}
use Rattle.smk_store.specs.declared.store.Kept.{Kept}
use Rattle.smk_store.specs.declared.store.Kept.TheVariants.{Absent, Unreadable, Held}
use Rattle.smk_store.specs.Images.{Image, Content, content_of, stands, file_at, is_covered, is_file, is_known, is_source, source_at}
use Rattle.smk_store.specs.Loading.{IsStoreOf, entry_at}
use Rattle.smk_store.specs.Stores.{Known}
use Rattle.smk_store.specs.Trust.{is_summed, sum_of}
use Rattle.smk_digest.specs.Digests.{sum_in}
use Rattle.smk_plan.specs.Summed.{kept_by, kept_in}
use Rattle.smk_plan_look.specs.Needs.{time_by}

-- ## Lists

pub each_in : {A : Type 0} (P : A → Type 0) (xs : List A) → ((x : A) → IsIn xs x → P x) → Each P xs
each_in P [] h = tt
each_in P (x ∷ xs) h = (h x (inl refl), each_in P xs (λ y at. h y (inr at)))

pub any_in : {A : Type 0} (f : A → Bool) (xs : List A) (x : A) → IsIn xs x → f x ≡ true → list_any f xs ≡ true
any_in f [] x at h = absurd at
any_in f (y ∷ xs) x (inl same) h = or_first (f y) (list_any f xs) (sym (ap f same) ∙ h)
any_in f (y ∷ xs) x (inr at) h = or_second (f y) (list_any f xs) (any_in f xs x at h)

pub named_in : (q : Path) (ps : List Path) → IsIn ps q → is_named q ps ≡ true
named_in q [] at = absurd at
named_in q (p ∷ ps) (inl same) = or_first (bytes_eq q p) (is_named q ps) (ap (bytes_eq q) (sym same) ∙ place_itself q)
named_in q (p ∷ ps) (inr at) = or_second (bytes_eq q p) (is_named q ps) (named_in q ps at)

-- ## Files

-- the time of a file
pub file_time : (n : Option Node) (f : Content) → content_of n ≡ Some f → time_by (stat_of n) ≡ Some f.time
file_time None f h = absurd (none-some f h)
file_time (Some Directory) f h = absurd (none-some f h)
file_time (Some (Regular bytes time read_only)) f h = ap (λ (c : Content). Some c.time) (same_Some (record { bytes = bytes; time = time; read_only = read_only }) f h)

-- a file that isn't too large has a digest
pub some_sum : (n : Option Node) (f : Content) → content_of n ≡ Some f → is_summed f.bytes ≡ true → is_some (sum_in n) ≡ true
some_sum None f h small = absurd (none-some f h)
some_sum (Some Directory) f h small = absurd (none-some f h)
some_sum (Some (Regular bytes time read_only)) f h small =
    go (is_summed bytes) (ap (λ (c : Content). is_summed c.bytes) (same_Some (record { bytes = bytes; time = time; read_only = read_only }) f h) ∙ small)
  where
    go : (b : Bool) → b ≡ true → is_some (option_map sum_of (if b then Some bytes else None)) ≡ true
    go true e = refl
    go false e = absurd (true≢false (sym e))

-- a source is a file there, and nothing is known of it
pub source_file : (image : Image) (q : Path) (f : Content) → source_at image q ≡ Some f → (file_at image q ≡ Some f) × (is_covered image q ≡ false)
source_file image q f h = go (is_source image q) refl h
  where
    go : (b : Bool) → is_source image q ≡ b → (if b then file_at image q else None) ≡ Some f → (file_at image q ≡ Some f) × (is_covered image q ≡ false)
    go true e k = (k, false_of_not (is_covered image q) (and_second (is_file image q) (not (is_covered image q)) (and_second (is_path_text q) (is_file image q && not (is_covered image q)) e)))
    go false e k = absurd (none-some f k)

pub source_is : (image : Image) (q : Path) (f : Content) → source_at image q ≡ Some f → is_source image q ≡ true
source_is image q f h = go (is_source image q) refl h
  where
    go : (b : Bool) → is_source image q ≡ b → (if b then file_at image q else None) ≡ Some f → is_source image q ≡ true
    go true e k = e
    go false e k = absurd (none-some f k)

-- ## What is kept

absent : (k : Kept) (b : Bool) → (stands k || b) ≡ false → Absent ≡ k
absent Absent b h = refl
absent Unreadable b h = absurd (true≢false h)
absent (Held r) b h = absurd (true≢false h)

-- the store has what the image keeps
pub kept_same : (image : Image) (known : List Known) → IsStoreOf image known → (p : Path) → kept_in known p ≡ image.kept p
kept_same image known stored p = ap kept_by (stored.entries p) ∙ go (is_known image p) refl
  where
    go : (b : Bool) → is_known image p ≡ b → kept_by (if b then Some (entry_at image p) else None) ≡ image.kept p
    go true e = refl
    go false e = absent (image.kept p) (image.marked p || image.noted p) e
