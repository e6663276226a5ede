-- The records of a job that was closed well are read as they were written, and need no SHA-256 that the job's inputs didn't need.
use Rattle.std.proofs.Common.{◌≡◌, ℕ, ◌≤◌, Bool, true, false, ◌&&◌, List, [], ◌∷◌, ◌++◌}
use Rattle.std.proofs.Common.{map, flat_map, length, zip, arith, refl, sym, subst, bytes_eq, Option, Some, None}
use Rattle.std.specs.Prelude.{◌==◌, if◌then◌else◌, nat_le}
use Rattle.std.specs.List.{list_all, list_any}
use Rattle.std.proofs.lemmas.Bool.{leb-true, or_from}
use Rattle.smk_base.specs.declared.tree.Pair.{Pair}
use Rattle.smk_base.proofs.Places.{and_first, and_second}
use Rattle.smk_base.proofs.Under.{both_true}
use Rattle.smk_world.specs.declared.event.Node.TheVariants.{Regular}
use Rattle.smk_world.specs.declared.recipe.Recipe.{Recipe}
use Rattle.smk_world.specs.Trees.{Each, Path, among, folders_of, is_path_text}
use Rattle.smk_world.specs.World.{in_paths, out_paths}
use Rattle.smk_record.specs.declared.record.Member.{Member}
use Rattle.smk_record.specs.declared.record.Record.{Record}
use Rattle.smk_record.specs.declared.record.Stamp.{Stamp}
use Rattle.smk_record.specs.Records.{are_none, are_rising, are_valid_members, is_earlier, is_format, is_in_format, is_valid, record_of, stamped}
use Rattle.smk_record.specs.Spelling.{ReadsRecords, is_writable, spelling}
use Rattle.smk_store.specs.declared.store.Kept.TheVariants.{Held, Unreadable}
use Rattle.smk_store.specs.Images.{for_path, kept_by, stands}
use Rattle.smk_trigger.specs.Reasons.{held}
use Rattle.smk_plan.specs.Summed.{has_other_time, needs_sum}
use Rattle.smk_run.proofs.Calls.{each_append}
use Rattle.smk_laws_job.proofs.Readable.{AreFor}

-- ## Validity

-- another test in place of the last but one
other_true :
    (bs : List Bool) (x y z : Bool) → list_all (λ (b : Bool). b) (bs ++ x ∷ z ∷ []) ≡ true → y ≡ true →
    list_all (λ (b : Bool). b) (bs ++ y ∷ z ∷ []) ≡ true
other_true [] x y z h k = both_true y (z && true) k (and_second x (z && true) h)
other_true (b ∷ bs) x y z h k =
    both_true b (list_all (λ (a : Bool). a) (bs ++ y ∷ z ∷ [])) (and_first b (list_all (λ (a : Bool). a) (bs ++ x ∷ z ∷ [])) h)
    (other_true bs x y z (and_second b (list_all (λ (a : Bool). a) (bs ++ x ∷ z ∷ [])) h) k)

-- all that is asked of a record but of its members and its format
abbrev tests : Record → List Bool
tests r =
    (length r.stamps == length (in_paths r.recipe))
    ∷ among (out_paths r.recipe) r.path
    ∷ nat_le 1 r.made
    ∷ list_all (is_earlier r.made) r.stamps
    ∷ are_rising (map (λ (w : Pair). w.name) r.recipe.wildcards)
    ∷ list_all is_path_text (in_paths r.recipe)
    ∷ list_all is_path_text (out_paths r.recipe)
    ∷ []

valid_with :
    (p : Path) (made : ℕ) (recipe : Recipe) (stamps : List Stamp) (ms : List Member) → is_valid (record_of p made recipe stamps []) ≡ true →
    AreFor recipe p ms →
    is_valid (record_of p made recipe stamps ms) ≡ true
valid_with p made recipe stamps ms valid for =
    other_true (tests (record_of p made recipe stamps [])) (if among (folders_of recipe) p then are_valid_members p [] else true)
    (if among (folders_of recipe) p then are_valid_members p ms else are_none ms) (is_format 2 && list_all (is_in_format 2) stamps) valid for

-- ## What is kept of an output

-- the record is of this recipe, with these stamps
pub record IsRecordOf (recipe : Recipe) (stamps : List Stamp) (r : Record) : Type 0 where
  pub recipe_is : r.recipe ≡ recipe
  pub stamps_are : r.stamps ≡ stamps

pub kept_stands :
    (read : List ℕ → Option Record) (p : Path) (bytes : List ℕ) (time : ℕ) (read_only : Bool) →
    stands (kept_by read p (Some (Regular bytes time read_only))) ≡ true
kept_stands read p bytes time read_only = go (nat_le (length bytes) 33554432)
  where
    either : (b : Bool) (r : Record) → stands (if b then Held r else Unreadable) ≡ true
    either true r = refl
    either false r = refl

    found : (o : Option Record) → stands (for_path p o) ≡ true
    found None = refl
    found (Some r) = either (bytes_eq r.path p && is_valid r) r

    go : (b : Bool) → stands (if b then for_path p (read bytes) else Unreadable) ≡ true
    go true = found (read bytes)
    go false = refl

pub kept_is :
    (read : List ℕ → Option Record) (p : Path) (made : ℕ) (recipe : Recipe) (stamps : List Stamp) (ms : List Member) (time : ℕ) (read_only : Bool) →
    ReadsRecords read → is_valid (record_of p made recipe stamps []) ≡ true → is_writable (record_of p made recipe stamps []) ≡ true → AreFor recipe p ms →
    Each (IsRecordOf recipe stamps) (held (kept_by read p (Some (Regular (spelling (record_of p made recipe stamps ms)) time read_only))))
kept_is read p made recipe stamps ms time read_only reads valid writable for = go (nat_le (length (spelling r)) 33554432) refl
  where
    r : Record
    r = record_of p made recipe stamps ms

    either : (b : Bool) → Each (IsRecordOf recipe stamps) (held (if b then Held (record_of p made recipe stamps ms) else Unreadable))
    either true = (record { recipe_is = refl; stamps_are = refl }, tt)
    either false = tt

    found : (o : Option Record) → o ≡ Some (record_of p made recipe stamps ms) → Each (IsRecordOf recipe stamps) (held (for_path p o))
    found o is = subst (λ (x : Option Record). Each (IsRecordOf recipe stamps) (held (for_path p x))) (sym is)
        (either (bytes_eq p p && is_valid (record_of p made recipe stamps ms)))

    go :
        (b : Bool) → nat_le (length (spelling (record_of p made recipe stamps ms))) 33554432 ≡ b →
        Each (IsRecordOf recipe stamps) (held (if b then for_path p (read (spelling (record_of p made recipe stamps ms))) else Unreadable))
    go true short =
        let at_most : length (spelling (record_of p made recipe stamps ms)) ≤ 33554432 = leb-true
        (length (spelling (record_of p made recipe stamps ms))) 33554432 short in
        found (read (spelling (record_of p made recipe stamps ms)))
        ((reads (spelling (record_of p made recipe stamps ms)) (record_of p made recipe stamps ms) (omega (arith, at_most))).1 (
          refl,
          both_true (is_valid (record_of p made recipe stamps ms)) (is_writable (record_of p made recipe stamps ms))
              (valid_with p made recipe stamps ms valid for) writable,
        ))
    go false short = tt

-- ## What records need

each_zip : {A : Type 0} (P : A → Type 0) (f : A → Bool) (xs : List A) → ((x : A) → P x → f x ≡ false) → Each P xs → list_any f xs ≡ false
each_zip P f [] all h = refl
each_zip P f (x ∷ xs) all h = or_from (f x) (list_any f xs) (all x h.0) (each_zip P f xs all h.1)

pub each_flat : {A B : Type 0} (P : B → Type 0) (f : A → List B) (xs : List A) → Each (λ x. Each P (f x)) xs → Each P (flat_map f xs)
each_flat P f [] h = tt
each_flat P f (x ∷ xs) h = each_append P (f x) (flat_map f xs) h.0 (each_flat P f xs h.1)

-- the stamp, where it is that of this path, has no other time
abbrev pub IsTimed : Path → ℕ → Path × Stamp → Type 0
IsTimed q t x = bytes_eq x.0 q ≡ true → has_other_time x.1 t ≡ false

timed_none : (q : Path) (t : ℕ) (x : Path × Stamp) → IsTimed q t x → (bytes_eq x.0 q && has_other_time x.1 t) ≡ false
timed_none q t x timed = go (bytes_eq x.0 q) refl
  where
    go : (b : Bool) → bytes_eq x.0 q ≡ b → (b && has_other_time x.1 t) ≡ false
    go true e = timed e
    go false e = refl

pub needs_none :
    (recipe : Recipe) (stamps : List Stamp) (q : Path) (t : ℕ) (rs : List Record) → Each (IsTimed q t) (zip (in_paths recipe) stamps) →
    Each (IsRecordOf recipe stamps) rs →
    needs_sum rs q t ≡ false
needs_none recipe stamps q t [] timed of = refl
needs_none recipe stamps q t (r ∷ rs) timed of =
    or_from (list_any (λ (x : Path × Stamp). bytes_eq x.0 q && has_other_time x.1 t) (stamped r)) (needs_sum rs q t)
    (each_zip (IsTimed q t) (λ (x : Path × Stamp). bytes_eq x.0 q && has_other_time x.1 t) (stamped r) (timed_none q t)
    (subst (Each (IsTimed q t)) (λ i. zip (in_paths (sym of.0.recipe_is i)) (sym of.0.stamps_are i)) timed))
    (needs_none recipe stamps q t rs timed of.1)
