-- Where none is the first, there is none.
use Rattle.std.proofs.Common.{◌≡◌, inl, inr, ℕ, cond, Bool, true, false, ◌&&◌, List, [], ◌∷◌, arith, refl, sym, ap, subst, ◌∙◌, Some, None, true≢false}
use Rattle.std.specs.Prelude.{nat_le}
use Rattle.std.specs.List.{find, list_all}
use Rattle.std.proofs.lemmas.Option.{none-some}
use Rattle.smk_world.specs.Trees.{IsIn}
use Rattle.smk_flow.specs.declared.job.Job.{Job}
use Rattle.smk_trigger.specs.declared.reason.State.{State}
use Rattle.smk_drive.specs.Lawful.{first_of}

all_by : {A : Type 0} (f : A → Bool) (xs : List A) → ((x : A) → IsIn xs x → f x ≡ true) → list_all f xs ≡ true
all_by f [] each = refl
all_by f (x ∷ xs) each = ap (λ b. b && list_all f xs) (each x (inl refl)) ∙ all_by f xs (λ y i. each y (inr i))

found_some : {A : Type 0} (f : A → Bool) (xs : List A) (x : A) → IsIn xs x → f x ≡ true → find f xs ≡ None → ⊥
found_some f [] x i is none = i
found_some f (y ∷ ys) x i is none = go (f y) refl (λ j e. found_some f ys x j is e) i none
  where
    go : (b : Bool) → f y ≡ b → (IsIn ys x → find f ys ≡ None → ⊥) → IsIn (y ∷ ys) x → cond b (Some y) (find f ys) ≡ None → ⊥
    go true at later j e = none-some y (sym e)
    go false at later (inl same) e = true≢false (sym is ∙ ap f same ∙ at)
    go false at later (inr j) e = later j e

-- one of them has the greatest number
record HasTop {A : Type 0} (rank : A → ℕ) (xs : List A) : Type 0 where
  pub top : A
  pub is_in : IsIn xs top
  pub most : (x : A) → IsIn xs x → nat_le (rank x) (rank top) ≡ true

same_le : (n : ℕ) → nat_le n n ≡ true
same_le n = grind arith

le_le : (a b c : ℕ) → nat_le a b ≡ true → nat_le b c ≡ true → nat_le a c ≡ true
le_le a b c first second = grind arith

not_le : (a b : ℕ) → nat_le a b ≡ false → nat_le b a ≡ true
not_le a b less = grind arith

-- this one above all others, or the greatest of those
above :
    {A : Type 0} (rank : A → ℕ) (x : A) (xs : List A) (rest : HasTop rank xs) (b : Bool) → nat_le (rank x) (rank rest.top) ≡ b → HasTop rank (x ∷ xs)
above {A = A} rank x xs rest true is = record { top = rest.top; is_in = inr rest.is_in; most = λ y i. at y i }
  where
    at : (y : A) → IsIn (x ∷ xs) y → nat_le (rank y) (rank rest.top) ≡ true
    at y (inl e) = subst (λ z. nat_le (rank z) (rank rest.top) ≡ true) (sym e) is
    at y (inr i) = rest.most y i
above {A = A} rank x xs rest false is = record { top = x; is_in = inl refl; most = λ y i. at y i }
  where
    at : (y : A) → IsIn (x ∷ xs) y → nat_le (rank y) (rank x) ≡ true
    at y (inl e) = subst (λ z. nat_le (rank z) (rank x) ≡ true) (sym e) (same_le (rank x))
    at y (inr i) = le_le (rank y) (rank rest.top) (rank x) (rest.most y i) (not_le (rank x) (rank rest.top) is)

has_top : {A : Type 0} (rank : A → ℕ) (x : A) (xs : List A) → HasTop rank (x ∷ xs)
has_top {A = A} rank x [] = record { top = x; is_in = inl refl; most = λ y i. only y i }
  where
    only : (y : A) → IsIn (x ∷ []) y → nat_le (rank y) (rank x) ≡ true
    only y (inl e) = subst (λ z. nat_le (rank z) (rank x) ≡ true) (sym e) (same_le (rank x))
    only y (inr i) = absurd i
has_top rank x (y ∷ ys) =
    let rest = has_top rank y ys in
    above rank x (y ∷ ys) rest (nat_le (rank x) (rank rest.top)) refl

pub none_first : (es : List (Job × State)) → first_of es ≡ None → es ≡ []
none_first [] none = refl
none_first (e ∷ es) none =
    let t = has_top (λ (k : Job × State). k.0.priority) e es in
    absurd
    (found_some (λ (x : Job × State). list_all (λ (k : Job × State). nat_le k.0.priority x.0.priority) (e ∷ es)) (e ∷ es) t.top t.is_in
    (all_by (λ (k : Job × State). nat_le k.0.priority t.top.0.priority) (e ∷ es) t.most) none)
