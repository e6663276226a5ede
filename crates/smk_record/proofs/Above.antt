-- The folders above a name, by the places of its slashes.
use Rattle.std.proofs.Common.{◌≡◌, ℕ, zero, suc, ◌<◌, Bool, true, false, ◌&&◌, cond, eqb, List, [], ◌∷◌, map, length, get_or, take, refl, ap, ◌∙◌, arith}
use Rattle.std.specs.List.{list_all}
use Rattle.std.proofs.lemmas.List.Folds.{list_all-map}
use Rattle.std.proofs.lemmas.Bool.{eqb-true}
use Rattle.smk_base.proofs.Under.{both_true}
use Rattle.smk_world.specs.World.{folders_above}
use Rattle.smk_world.specs.Trees.{Path}

eqb_from : (a b : ℕ) → a ≡ b → eqb a b ≡ true
eqb_from a b e = grind arith

and_none : (a b : Bool) → b ≡ false → (a && b) ≡ false
and_none true b e = e
and_none false b e = refl

all_by : (P : Path → Bool) (b : ℕ) (folders : List Path) (slash : Bool) → (slash ≡ true → P [] ≡ true) → list_all P (map (λ q. b ∷ q) folders) ≡ true
    → list_all P (cond slash ([] ∷ map (λ q. b ∷ q) folders) (map (λ q. b ∷ q) folders)) ≡ true
all_by P b folders true here rest = both_true (P []) (list_all P (map (λ q. b ∷ q) folders)) (here refl) rest
all_by P b folders false here rest = rest

none_by : (P : Path → Bool) (b : ℕ) (folders : List Path) (slash : Bool) → list_all P (map (λ q. b ∷ q) folders) ≡ false
    → list_all P (cond slash ([] ∷ map (λ q. b ∷ q) folders) (map (λ q. b ∷ q) folders)) ≡ false
none_by P b folders true rest = and_none (P []) (list_all P (map (λ q. b ∷ q) folders)) rest
none_by P b folders false rest = rest

pub all_above : (P : Path → Bool) (name : Path) → ((k : ℕ) → k < length name → get_or name k 0 ≡ 47 → P (take k name) ≡ true) → list_all P (folders_above name) ≡ true
all_above P [] each = refl
all_above P (b ∷ text) each =
    all_by P b (folders_above text) (eqb b 47) (λ e. each 0 (omega arith) (eqb-true b 47 e))
    (list_all-map P (λ q. b ∷ q) (folders_above text) ∙ all_above (λ q. P (b ∷ q)) text (λ k lt e. each (suc k) (omega arith) e))

pub one_not_above : (P : Path → Bool) (name : Path) (k : ℕ) → k < length name → get_or name k 0 ≡ 47 → P (take k name) ≡ false → list_all P (folders_above name) ≡ false
one_not_above P [] k lt e h = absurd (omega arith)
one_not_above P (b ∷ text) zero lt e h =
    ap (λ s. list_all P (cond s ([] ∷ map (λ q. b ∷ q) (folders_above text)) (map (λ q. b ∷ q) (folders_above text)))) (eqb_from b 47 e)
    ∙ ap (λ x. x && list_all P (map (λ q. b ∷ q) (folders_above text))) h
one_not_above P (b ∷ text) (suc k) lt e h =
    none_by P b (folders_above text) (eqb b 47) (list_all-map P (λ q. b ∷ q) (folders_above text) ∙ one_not_above (λ q. P (b ∷ q)) text k (omega arith) e h)
