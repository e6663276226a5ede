-- The jobs that come after each.
use Rattle.std.proofs.Common.{◌≡◌, ℕ, zero, suc, ◌+◌, ◌<◌, ◌≤◌, ◌≢◌, ◌⊎◌, true, List, [], ◌∷◌, ◌++◌, Some, length, set, refl, sym, ap, ◌∙◌, subst, inl, inr, arith, length-set}
use Rattle.std.specs.List.{slice_get}
use Rattle.std.proofs.lemmas.Bool.{cases_eq, cases_lt}
use Rattle.std.proofs.lemmas.Option.{slice_get_within}
use Rattle.smk_core.specs.Indices.{has}
use Rattle.smk_core.specs.Standing.{befores_of, list_of}
use Rattle.smk_core.specs.Lines.{AreBehind, AreEarlier, IsNoted, list_at}
use Rattle.smk_core.proofs.Gets.{get_set_same, get_set_other, has_cases, has_append, has_left, has_last}

pub none_noted : (job : ℕ) (lists : List (List ℕ)) → IsNoted [] job lists lists
none_noted job lists = record { as_many = refl; kept = λ i k t. t; noted = λ i t lt. cc }

pub noted_then : (befores : List ℕ) (before job : ℕ) (old mid new : List (List ℕ)) → IsNoted befores job old mid → IsNoted (before ∷ []) job mid new → IsNoted (befores ++ before ∷ []) job old new
noted_then befores before job old mid new a b = record {
  as_many = b.as_many ∙ a.as_many;
  kept = λ i k t. b.kept i k (a.kept i k t);
  noted = λ i t lt. go i lt (has_append befores (before ∷ []) i t);
}
  where
    go : (i : ℕ) → i < length old → (has befores i ≡ true) ⊎ (has (before ∷ []) i ≡ true) → has (list_at new i) job ≡ true
    go i lt (inl t) = b.kept i job (a.noted i t lt)
    go i lt (inr t) = b.noted i t (subst (λ (n : ℕ). i < n) (sym a.as_many) lt)

only : (before i : ℕ) → has (before ∷ []) i ≡ true → before ≡ i
only before i t = go (has_cases before [] i t)
  where
    go : (before ≡ i) ⊎ (has [] i ≡ true) → before ≡ i
    go (inl e) = e
    go (inr t) = cc

-- there is no such job
pub noted_past : (before job : ℕ) (lists : List (List ℕ)) → length lists ≤ before → IsNoted (before ∷ []) job lists lists
noted_past before job lists le = record {
  as_many = refl;
  kept = λ i k t. t;
  noted = λ i t lt. absurd (let e : before ≡ i = only before i t in omega arith);
}

pub noted_one : (before job : ℕ) (list : List ℕ) (lists : List (List ℕ)) → slice_get lists before ≡ Some list → IsNoted (before ∷ []) job lists (set lists before (list ++ job ∷ []))
noted_one before job list lists at = record {
  as_many = length-set lists before (list ++ job ∷ []);
  kept = λ i k t. kept_by i k t (cases_eq i before);
  noted = λ i t lt. subst (λ (n : ℕ). has (list_at (set lists before (list ++ job ∷ [])) n) job ≡ true) (only before i t) now_has;
}
  where
    now_is : list_at (set lists before (list ++ job ∷ [])) before ≡ list ++ job ∷ []
    now_is = ap list_of (get_set_same lists before (list ++ job ∷ []) (slice_get_within lists before list at))

    now_has : has (list_at (set lists before (list ++ job ∷ [])) before) job ≡ true
    now_has = ap (λ (l : List ℕ). has l job) now_is ∙ has_last list job

    kept_by : (i k : ℕ) → has (list_at lists i) k ≡ true → (i ≡ before) ⊎ (i ≢ before) → has (list_at (set lists before (list ++ job ∷ [])) i) k ≡ true
    kept_by i k t (inr ne) = ap (λ (l : List ℕ). has l k) (ap list_of (get_set_other lists before i (list ++ job ∷ []) ne)) ∙ t
    kept_by i k t (inl e) =
        ap (λ (n : ℕ). has (list_at (set lists before (list ++ job ∷ [])) n) k) e
        ∙ ap (λ (l : List ℕ). has l k) now_is
        ∙ has_left list (job ∷ []) k (ap (λ (l : List ℕ). has l k) (sym (ap (list_at lists) e ∙ ap list_of at)) ∙ t)

-- ## All jobs

pub record AreBehindTo (befores behind : List (List ℕ)) (n : ℕ) : Type 0 where
  pub many : length behind ≡ length befores
  pub each : (j i : ℕ) → j < n → has (befores_of befores j) i ≡ true → has (list_at behind i) j ≡ true

pub none_behind : (befores behind : List (List ℕ)) → length behind ≡ length befores → AreBehindTo befores behind 0
none_behind befores behind many = record { many = many; each = λ j i lt. absurd (omega arith) }

has_within : (befores : List (List ℕ)) (j i : ℕ) → has (befores_of befores j) i ≡ true → j < length befores
has_within [] j i t = cc
has_within (bs ∷ befores) zero i t = omega arith
has_within (bs ∷ befores) (suc j) i t = let h : j < length befores = has_within befores j i t in omega arith

pub one_behind : (befores behind now : List (List ℕ)) (job : ℕ) (list : List ℕ) → AreEarlier befores → slice_get befores job ≡ Some list → IsNoted list job behind now
    → AreBehindTo befores behind job → AreBehindTo befores now (job + 1)
one_behind befores behind now job list earlier at noted h = record {
  many = noted.as_many ∙ h.many;
  each = λ j i lt t. go j i t lt (cases_lt j job);
}
  where
    here : (j i : ℕ) → has (befores_of befores j) i ≡ true → j ≡ job → has (list_at now i) j ≡ true
    here j i t e =
        let inside : i < length behind = (let a : i < j = earlier j i t in let b : j < length befores = has_within befores j i t in let m : length behind ≡ length befores = h.many in omega arith) in
        subst (λ (n : ℕ). has (list_at now i) n ≡ true) (sym e) (noted.noted i (ap (λ (l : List ℕ). has l i) (sym (ap (befores_of befores) e ∙ ap list_of at)) ∙ t) inside)

    go : (j i : ℕ) → has (befores_of befores j) i ≡ true → j < job + 1 → (j < job) ⊎ (job ≤ j) → has (list_at now i) j ≡ true
    go j i t lt (inl less) = noted.kept i j (h.each j i less t)
    go j i t lt (inr le) = here j i t (omega arith)

pub all_behind : (befores behind : List (List ℕ)) (n : ℕ) → length befores ≤ n → AreBehindTo befores behind n → AreBehind befores behind
all_behind befores behind n all h i j t = h.each j i (let lt : j < length befores = has_within befores j i t in omega arith) t
