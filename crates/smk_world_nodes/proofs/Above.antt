-- The folders above a place, one slash after another.
use Rattle.std.proofs.Common.{◌≡◌, ◌<◌, ℕ, zero, suc, ◌+◌, Bool, true, false, ◌&&◌, ◌||◌, ◌==◌, List, [], ◌∷◌, length, take, get_or, refl, ap, sym, ◌∙◌, arith, bytes_eq, add-one, Option, Some, None}
use Rattle.std.specs.Prelude.{if◌then◌else◌, nat_eq}
use Rattle.std.proofs.lemmas.Bool.{eqb-true, eq-eqb}
use Rattle.std.proofs.Math.Bool.{and-true, and-false, or-false}
use Rattle.smk_base.specs.Path.{is_under}
use Rattle.smk_world.specs.declared.event.Node.{Node}
use Rattle.smk_world_nodes.specs.Nodes.{or_folder}

-- one of the folders above p that is shorter than i
abbrev pub is_short_above : List ℕ → ℕ → List ℕ → Bool
is_short_above p zero q = false
is_short_above [] (suc i) q = false
is_short_above (b ∷ p) (suc i) [] = b == 47
is_short_above (b ∷ p) (suc i) (c ∷ q) = b == c && is_short_above p i q

pub all_short : (p q : List ℕ) → is_short_above p (length p) q ≡ is_under p q
all_short [] q = refl
all_short (b ∷ p) [] = refl
all_short (b ∷ p) (c ∷ q) = ap (λ v. b == c && v) (all_short p q)

flip : (b c : ℕ) → nat_eq c b ≡ nat_eq b c
flip b c =
    elim (nat_eq b c) as (λ v. nat_eq b c ≡ v → nat_eq c b ≡ v) [
      | true ↦ λ e. eq-eqb c b (sym (eqb-true b c e))
      | false ↦ λ e. elim (nat_eq c b) as (λ v. nat_eq c b ≡ v → v ≡ false) [ true ↦ λ f. sym (eq-eqb b c (sym (eqb-true c b f))) ∙ e | false ↦ λ f. refl ] refl
    ] refl

join : (same : Bool) (s g t : Bool) → (same && (s || (g && t))) ≡ ((same && s) || (g && (same && t)))
join true s g t = refl
join false s g t = sym (and-false g)

pub short_more : (p : List ℕ) (i : ℕ) (q : List ℕ) → i < length p → is_short_above p (suc i) q ≡ (is_short_above p i q || ((get_or p i 0 == 47) && bytes_eq q (take i p)))
short_more [] i q lt = absurd (omega arith)
short_more (b ∷ p) zero [] lt = sym (and-true (b == 47))
short_more (b ∷ p) zero (c ∷ q) lt = and-false (b == c) ∙ sym (and-false (b == 47))
short_more (b ∷ p) (suc i) [] lt = sym (ap (λ v. (b == 47) || v) (and-false (get_or p i 0 == 47)) ∙ or-false (b == 47))
short_more (b ∷ p) (suc i) (c ∷ q) lt =
    ap (λ v. b == c && v) (short_more p i q (omega arith))
    ∙ join (b == c) (is_short_above p i q) (get_or p i 0 == 47) (bytes_eq q (take i p))
    ∙ ap (λ v. (b == c && is_short_above p i q) || ((get_or p i 0 == 47) && (v && bytes_eq q (take i p)))) (sym (flip b c))

twice : (n : Option Node) → or_folder (or_folder n) ≡ or_folder n
twice None = refl
twice (Some n) = refl

both : (s t : Bool) (n : Option Node) → (if t then or_folder (if s then or_folder n else n) else (if s then or_folder n else n)) ≡ (if s || t then or_folder n else n)
both true true n = twice n
both true false n = refl
both false true n = refl
both false false n = refl

-- at a slash
pub folder_made : (p : List ℕ) (i : ℕ) (q range : List ℕ) (n0 n1 n2 : Option Node) → i < length p → get_or p i 0 ≡ 47 → range ≡ take i p
    → n1 ≡ (if is_short_above p i q then or_folder n0 else n0) → n2 ≡ (if bytes_eq q range then or_folder n1 else n1) → n2 ≡ (if is_short_above p (i + 1) q then or_folder n0 else n0)
folder_made p i q range n0 n1 n2 lt slash is one two =
    two ∙ ap (λ r. if bytes_eq q r then or_folder n1 else n1) is ∙ ap (λ n. if bytes_eq q (take i p) then or_folder n else n) one
    ∙ both (is_short_above p i q) (bytes_eq q (take i p)) n0
    ∙ ap (λ v. if is_short_above p i q || v then or_folder n0 else n0) (ap (λ v. v && bytes_eq q (take i p)) (sym (eq-eqb (get_or p i 0) 47 slash)))
    ∙ ap (λ v. if v then or_folder n0 else n0) (sym (short_more p i q lt)) ∙ rw add-one refl

not_slash : (b : ℕ) → (b ≡ 47 → ⊥) → (b == 47) ≡ false
not_slash b other = elim (b == 47) as (λ v. (b == 47) ≡ v → v ≡ false) [ true ↦ λ e. absurd (other (eqb-true b 47 e)) | false ↦ λ e. refl ] refl

-- elsewhere
pub folder_kept : (p : List ℕ) (i : ℕ) (q : List ℕ) (n0 n1 : Option Node) → i < length p → (get_or p i 0 ≡ 47 → ⊥)
    → n1 ≡ (if is_short_above p i q then or_folder n0 else n0) → n1 ≡ (if is_short_above p (i + 1) q then or_folder n0 else n0)
folder_kept p i q n0 n1 lt other one =
    one ∙ ap (λ v. if v then or_folder n0 else n0) (sym (short_more p i q lt ∙ ap (λ g. is_short_above p i q || (g && bytes_eq q (take i p))) (not_slash (get_or p i 0) other) ∙ or-false (is_short_above p i q))) ∙ rw add-one refl
