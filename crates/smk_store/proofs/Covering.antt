-- Whether something is known of a path or of a folder above it, by the places of its slashes.
use Rattle.std.proofs.Common.{◌≡◌, ℕ, zero, suc, ◌<◌, ◌≤◌, Bool, true, false, ◌||◌, cond, eqb, List, [], ◌∷◌, map, length, get_or, take, Option, Some, None, refl, sym, ap, ◌∙◌, arith}
use Rattle.std.specs.Prelude.{is_some, option_map}
use Rattle.std.specs.List.{list_any}
use Rattle.std.proofs.lemmas.Bool.{eqb-true}
use Rattle.smk_base.proofs.Under.{or_second}
use Rattle.smk_world.specs.World.{folders_above}
use Rattle.smk_world.specs.Trees.{Path}
use Rattle.smk_store.specs.Stores.{Known, entry_of, is_covered_in}

eqb_from : (a b : ℕ) → a ≡ b → eqb a b ≡ true
eqb_from a b e = grind arith

any_map : (P : Path → Bool) (h : Path → Path) (qs : List Path) → list_any P (map h qs) ≡ list_any (λ q. P (h q)) qs
any_map P h [] = refl
any_map P h (q ∷ qs) = ap (λ b. P (h q) || b) (any_map P h qs)

abbrev with_slash : ℕ → List Path → Bool → List Path
with_slash b folders slash = cond slash ([] ∷ map (λ q. b ∷ q) folders) (map (λ q. b ∷ q) folders)

any_by : (P : Path → Bool) (b : ℕ) (folders : List Path) (slash : Bool) → list_any P (map (λ q. b ∷ q) folders) ≡ true → list_any P (with_slash b folders slash) ≡ true
any_by P b folders true h = or_second (P []) (list_any P (map (λ q. b ∷ q) folders)) h
any_by P b folders false h = h

none_by : (P : Path → Bool) (b : ℕ) (folders : List Path) (slash : Bool) → (slash ≡ true → P [] ≡ false) → list_any P (map (λ q. b ∷ q) folders) ≡ false → list_any P (with_slash b folders slash) ≡ false
none_by P b folders true here h = ap (λ x. x || list_any P (map (λ q. b ∷ q) folders)) (here refl) ∙ h
none_by P b folders false here h = h

any_above : (P : Path → Bool) (name : Path) (k : ℕ) → k < length name → get_or name k 0 ≡ 47 → P (take k name) ≡ true → list_any P (folders_above name) ≡ true
any_above P [] k lt e h = absurd (omega arith)
any_above P (b ∷ text) zero lt e h =
    ap (λ s. list_any P (with_slash b (folders_above text) s)) (eqb_from b 47 e) ∙ ap (λ x. x || list_any P (map (λ q. b ∷ q) (folders_above text))) h
any_above P (b ∷ text) (suc k) lt e h =
    any_by P b (folders_above text) (eqb b 47) (any_map P (λ q. b ∷ q) (folders_above text) ∙ any_above (λ q. P (b ∷ q)) text k (omega arith) e h)

none_above : (P : Path → Bool) (name : Path) → ((k : ℕ) → k < length name → get_or name k 0 ≡ 47 → P (take k name) ≡ false) → list_any P (folders_above name) ≡ false
none_above P [] each = refl
none_above P (b ∷ text) each =
    none_by P b (folders_above text) (eqb b 47) (λ e. each 0 (omega arith) (eqb-true b 47 e))
    (any_map P (λ q. b ∷ q) (folders_above text) ∙ none_above (λ q. P (b ∷ q)) text (λ k lt e. each (suc k) (omega arith) e))

or_none : (a b : Bool) → b ≡ false → a ≡ (a || b)
or_none true b e = refl
or_none false b e = sym e

pub covered_yes : (ks : List Known) (p bytes : Path) (i : ℕ) → bytes ≡ p → i < length bytes → get_or bytes i 0 ≡ 47 → is_some (entry_of ks (take i bytes)) ≡ true → true ≡ is_covered_in ks p
covered_yes ks p bytes i same lt e h =
    sym (or_second (is_some (entry_of ks bytes)) (list_any (λ q. is_some (entry_of ks q)) (folders_above bytes)) (any_above (λ q. is_some (entry_of ks q)) bytes i lt e h)) ∙ ap (is_covered_in ks) same

pub covered_by_itself : (ks : List Known) (p bytes : Path) (i : ℕ) (b : Bool) → bytes ≡ p → ((k : ℕ) → k < i → get_or bytes k 0 ≡ 47 → is_some (entry_of ks (take k bytes)) ≡ false) → length bytes ≤ i → b ≡ is_some (entry_of ks bytes) → b ≡ is_covered_in ks p
covered_by_itself ks p bytes i b same none le is =
    is ∙ or_none (is_some (entry_of ks bytes)) (list_any (λ q. is_some (entry_of ks q)) (folders_above bytes)) (none_above (λ q. is_some (entry_of ks q)) bytes (λ k lt e. none k (omega arith) e)) ∙ ap (is_covered_in ks) same

pub some_as : {A B : Type 0} (f : A → B) (o : Option A) (x : Option B) → option_map f o ≡ x → is_some o ≡ is_some x
some_as f None x e = ap is_some e
some_as f (Some a) x e = ap is_some e
