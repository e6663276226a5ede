-- The best of the jobs that pass is the first of those with the greatest priority.
use Rattle.std.proofs.Common.{◌≡◌, ℕ, suc, ◌+◌, length, arith, Bool, true, false, cond, ◌&&◌, List, [], ◌∷◌, ◌++◌, filter, find, refl}
use Rattle.std.proofs.Common.{sym, ap, subst, inl, inr, ◌∙◌, Option, Some, None, option_map}
use Rattle.std.specs.Prelude.{nat_le, nat_lt}
use Rattle.std.specs.List.{list_all, slice_get}
use Rattle.std.proofs.lemmas.Bool.Decides.{nat_tests}
use Rattle.std.proofs.Math.Bool.{and-false}
use Rattle.smk_flow.specs.declared.job.Job.{Job}
use Rattle.smk_trigger.specs.declared.reason.State.{State}
use Rattle.smk_drive.specs.Lawful.{first_of}
use Rattle.smk_laws_plan.proofs.CurrentLists.{In, all_from, all_in, find_in, none_some}
use Rattle.smk_drive_pick.specs.declared.next.Best.{Best}
use Rattle.smk_drive_pick.specs.Picking.{wrapped}
use Rattle.smk_drive_pick.specs.Told.{better, if_passes, best_from}

-- ## Lists

find_front : {A : Type 0} (t : A → Bool) (xs ys : List A) (x : A) → find t xs ≡ Some x → find t (xs ++ ys) ≡ Some x
find_front t [] ys x e = absurd (none_some None x refl e)
find_front t (y ∷ xs) ys x e = go (t y) e (find_front t xs ys x)
  where
    go : (b : Bool) → cond b (Some y) (find t xs) ≡ Some x → (find t xs ≡ Some x → find t (xs ++ ys) ≡ Some x) → cond b (Some y) (find t (xs ++ ys)) ≡ Some x
    go true e ih = e
    go false e ih = ih e

find_back : {A : Type 0} (t : A → Bool) (xs ys : List A) → ((x : A) → In x xs → t x ≡ false) → find t (xs ++ ys) ≡ find t ys
find_back t [] ys h = refl
find_back t (x ∷ xs) ys h = ap (λ b. cond b (Some x) (find t (xs ++ ys))) (h x (inl refl)) ∙ find_back t xs ys (λ y i. h y (inr i))

find_same : {A : Type 0} (t u : A → Bool) (xs : List A) → ((x : A) → In x xs → t x ≡ u x) → find t xs ≡ find u xs
find_same t u [] h = refl
find_same t u (x ∷ xs) h = λ i. cond (h x (inl refl) i) (Some x) (find_same t u xs (λ y k. h y (inr k)) i)

filter_more : {A : Type 0} (t : A → Bool) (xs : List A) (x : A) → filter t (xs ++ x ∷ []) ≡ filter t xs ++ cond (t x) (x ∷ []) []
filter_more t [] x = go (t x)
  where
    go : (b : Bool) → cond b (x ∷ []) [] ≡ cond b (x ∷ []) []
    go b = refl
filter_more t (y ∷ xs) x = go (t y) (filter_more t xs x)
  where
    go :
        (b : Bool) → filter t (xs ++ x ∷ []) ≡ filter t xs ++ cond (t x) (x ∷ []) [] → cond b (y ∷ filter t (xs ++ x ∷ [])) (filter t (xs ++ x ∷ []))
        ≡ cond b (y ∷ filter t xs) (filter t xs) ++ cond (t x) (x ∷ []) []
    go true e = ap (λ zs. y ∷ zs) e
    go false e = e

all_more : {A : Type 0} (t : A → Bool) (xs : List A) (x : A) → list_all t (xs ++ x ∷ []) ≡ (list_all t xs && t x)
all_more t [] x = go (t x)
  where
    go : (b : Bool) → (b && true) ≡ (true && b)
    go true = refl
    go false = refl
all_more t (y ∷ xs) x = go (t y) (all_more t xs x)
  where
    go : (b : Bool) → list_all t (xs ++ x ∷ []) ≡ (list_all t xs && t x) → (b && list_all t (xs ++ x ∷ [])) ≡ ((b && list_all t xs) && t x)
    go true e = e
    go false e = refl

append_end : {A : Type 0} (xs : List A) → xs ++ [] ≡ xs
append_end [] = refl
append_end (x ∷ xs) = ap (λ ys. x ∷ ys) (append_end xs)

append_next : {A : Type 0} (xs : List A) (y : A) (ys : List A) → (xs ++ y ∷ []) ++ ys ≡ xs ++ y ∷ ys
append_next [] y ys = refl
append_next (x ∷ xs) y ys = ap (λ zs. x ∷ zs) (append_next xs y ys)

length_next : {A : Type 0} (xs : List A) (y : A) → length (xs ++ y ∷ []) ≡ suc (length xs)
length_next [] y = refl
length_next (x ∷ xs) y = ap suc (length_next xs y)

get_next : {A : Type 0} (xs : List A) (y : A) (ys : List A) → slice_get (xs ++ y ∷ ys) (length xs) ≡ Some y
get_next [] y ys = refl
get_next (x ∷ xs) y ys = get_next xs y ys

-- ## Numbers

le_itself : (a : ℕ) → nat_le a a ≡ true
le_itself a = grind (arith, nat_tests)

le_over : (a b c : ℕ) → nat_lt b a ≡ false → nat_le b c ≡ true → nat_le a c ≡ true
le_over a b c h k = grind (arith, nat_tests)

le_under : (a b c : ℕ) → nat_lt b a ≡ true → nat_le c b ≡ true → nat_le a c ≡ false
le_under a b c h k = grind (arith, nat_tests)

le_less : (a b c : ℕ) → nat_lt b a ≡ true → nat_le c b ≡ true → nat_le c a ≡ true
le_less a b c h k = grind (arith, nat_tests)

le_not_less : (a b : ℕ) → nat_lt b a ≡ false → nat_le a b ≡ true
le_not_less a b h = grind (arith, nat_tests)

-- ## The first of the greatest

abbrev Staged : Type 0
Staged = Job × State

-- all of them have at most this priority
abbrev tops : List Staged → ℕ → Bool
tops es p = list_all (λ (k : Staged). nat_le k.0.priority p) es

-- the best of those that have passed, of all these
abbrev IsBest : List Staged → List Staged → Option Best → Type 0
IsBest all passed None = passed ≡ []
IsBest all passed (Some b) =
    (e : Staged) × (slice_get all b.number ≡ Some e) × (b.priority ≡ e.0.priority) × (first_of passed ≡ Some e) × (tops passed e.0.priority ≡ true)

first_one : (e : Staged) → first_of (e ∷ []) ≡ Some e
first_one e = ap (λ b. cond (b && true) (Some e) None) (le_itself e.0.priority)

tops_one : (e : Staged) → tops (e ∷ []) e.0.priority ≡ true
tops_one e = ap (λ b. b && true) (le_itself e.0.priority)

-- one more whose priority isn't greater
module _ (passed : List Staged) (best e : Staged) (is : first_of passed ≡ Some best) (most : tops passed best.0.priority ≡ true) where
  abbrev more : List Staged
  more = passed ++ e ∷ []

  here : In best passed
  here = (find_in (λ (x : Staged). tops passed x.0.priority) passed best is).0

  kept_first : nat_lt best.0.priority e.0.priority ≡ false → first_of more ≡ Some best
  kept_first h =
      find_front (λ (x : Staged). tops more x.0.priority) passed (e ∷ []) best
      (find_same (λ (x : Staged). tops more x.0.priority) (λ (x : Staged). tops passed x.0.priority) passed same ∙ is)
    where
      same : (x : Staged) → In x passed → tops more x.0.priority ≡ tops passed x.0.priority
      same x i = all_more (λ (k : Staged). nat_le k.0.priority x.0.priority) passed e ∙ go (tops passed x.0.priority) refl
        where
          go : (b : Bool) → tops passed x.0.priority ≡ b → (b && nat_le e.0.priority x.0.priority) ≡ b
          go false k = refl
          go true k = le_over e.0.priority best.0.priority x.0.priority h (all_in (λ (k : Staged). nat_le k.0.priority x.0.priority) passed best k here)

  kept_tops : nat_lt best.0.priority e.0.priority ≡ false → tops more best.0.priority ≡ true
  kept_tops h =
      all_more (λ (k : Staged). nat_le k.0.priority best.0.priority) passed e
      ∙ (λ i. most i && le_not_less e.0.priority best.0.priority h i)

  taken_tops : nat_lt best.0.priority e.0.priority ≡ true → tops more e.0.priority ≡ true
  taken_tops h =
      all_more (λ (k : Staged). nat_le k.0.priority e.0.priority) passed e
      ∙ (λ i. all_from (λ (k : Staged). nat_le k.0.priority e.0.priority) passed
      (λ x k. le_less e.0.priority best.0.priority x.0.priority h (all_in (λ (k : Staged). nat_le k.0.priority best.0.priority) passed x most k)) i
      && le_itself e.0.priority i)

  taken_first : nat_lt best.0.priority e.0.priority ≡ true → first_of more ≡ Some e
  taken_first h =
      find_back (λ (x : Staged). tops more x.0.priority) passed (e ∷ []) lower
      ∙ ap (λ b. cond b (Some e) None) (taken_tops h)
    where
      lower : (x : Staged) → In x passed → tops more x.0.priority ≡ false
      lower x i =
          all_more (λ (k : Staged). nat_le k.0.priority x.0.priority) passed e
          ∙ ap (λ b. tops passed x.0.priority && b)
          (le_under e.0.priority best.0.priority x.0.priority h (all_in (λ (k : Staged). nat_le k.0.priority best.0.priority) passed x most i))
          ∙ and-false (tops passed x.0.priority)

abbrev best_with : ℕ → Staged → Best
best_with n e = record { number = n; priority = e.0.priority }

-- one more is looked at
step :
    (all passed : List Staged) (best : Option Best) (n : ℕ) (e : Staged) (b : Bool) → slice_get all n ≡ Some e → IsBest all passed best →
    IsBest all (passed ++ cond b (e ∷ []) []) (better best (cond b (Some (best_with n e)) None))
step all passed None n e false at h = append_end passed ∙ h
step all passed (Some best) n e false at h = subst (λ ps. IsBest all ps (Some best)) (sym (append_end passed)) h
step all passed None n e true at h =
    (e, at, refl, ap (λ ps. first_of (ps ++ e ∷ [])) h ∙ first_one e, ap (λ ps. tops (ps ++ e ∷ []) e.0.priority) h ∙ tops_one e)
step all passed (Some best) n e true at h = go (nat_lt best.priority e.0.priority) refl
  where
    go : (b : Bool) → nat_lt best.priority e.0.priority ≡ b → IsBest all (passed ++ e ∷ []) (cond b (Some (best_with n e)) (Some best))
    go true k =
        let less = ap (λ p. nat_lt p e.0.priority) (sym h.2) ∙ k in
        (e, at, refl, taken_first passed h.0 e h.3 h.4 less, taken_tops passed h.0 e h.3 h.4 less)
    go false k =
        let most = ap (λ p. nat_lt p e.0.priority) (sym h.2) ∙ k in
        (h.0, h.1, h.2, kept_first passed h.0 e h.3 h.4 most, kept_tops passed h.0 e h.3 h.4 most)

all_looked :
    (test : Staged → Bool) (all before rest : List Staged) (best : Option Best) → all ≡ before ++ rest → IsBest all (filter test before) best →
    IsBest all (filter test all) (best_from (λ n. test) (length before) best rest)
all_looked test all before [] best e h = subst (λ es. IsBest all (filter test es) best) (sym (e ∙ append_end before)) h
all_looked test all before (x ∷ rest) best e h =
    subst (λ n. IsBest all (filter test all) (best_from (λ n. test) n (better best (if_passes test (length before) x)) rest)) (length_next before x)
    (all_looked test all (before ++ x ∷ []) rest (better best (if_passes test (length before) x)) (e ∙ sym (append_next before x rest))
    (subst (λ es. IsBest all es (better best (if_passes test (length before) x))) (sym (filter_more test before x))
    (step all (filter test before) best (length before) x (test x) (ap (λ es. slice_get es (length before)) e ∙ get_next before x rest) h)))

-- the best by number, where the test is the same of each that is there
pub best_same :
    (test : ℕ → Staged → Bool) (one : Staged → Bool) (n : ℕ) (best : Option Best) (es : List Staged) →
    ((k : ℕ) (e : Staged) → slice_get es k ≡ Some e → test (k + n) e ≡ one e) → best_from test n best es ≡ best_from (λ k. one) n best es
best_same test one n best [] h = refl
best_same test one n best (e ∷ es) h =
    let here : test n e ≡ one e = subst (λ m. test m e ≡ one e) (omega arith) (h 0 e refl) in
    (λ i. best_from test (suc n) (better best (cond (here i) (Some (best_with n e)) None)) es)
    ∙ best_same test one (suc n) (better best (if_passes one n e)) es
    (λ k x at. subst (λ m. test m x ≡ one x) (omega arith) (h (suc k) x at))

pub best_is :
    (test : Staged → Bool) (all : List Staged) →
    option_map (slice_get all) (option_map (λ (b : Best). b.number) (best_from (λ n. test) 0 None all)) ≡ option_map wrapped (first_of (filter test all))
best_is test all = go (best_from (λ n. test) 0 None all) (all_looked test all [] all None refl refl)
  where
    go :
        (o : Option Best) → IsBest all (filter test all) o → option_map (slice_get all) (option_map (λ (b : Best). b.number) o)
        ≡ option_map wrapped (first_of (filter test all))
    go None h = sym (ap (λ es. option_map wrapped (first_of es)) h)
    go (Some b) h = ap Some h.1 ∙ sym (ap (λ (o : Option Staged). option_map wrapped o) h.3)
