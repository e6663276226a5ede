-- Jobs that are added one by one, each once.
use Rattle.std.proofs.Common.{◌≡◌, ◌∙◌, ℕ, suc, eqb, eqb-true, Bool, true, false, cond, ◌&&◌, ◌||◌, not, List, [], ◌∷◌, ◌++◌, filter, length, Option, Some, None, option_map, refl, sym, ap, ap₂, append_assoc, append-nil, true≢false}
use Rattle.std.specs.Prelude.{bytes_eq}
use Rattle.std.specs.List.{list_any, AllByRecursion}
use Rattle.std.proofs.lemmas.Slice.Eq.{bytes_eq-Decides}
use Rattle.std.proofs.lemmas.Bool.{or_right, eq-eqb}
use lib.Pointwise.{pointwise}
use Rattle.smk_base.specs.declared.tree.Pair.{Pair}
use Rattle.smk_base.proofs.Places.{and_first, and_second}
use Rattle.smk_base.proofs.Under.{both_true}
use Rattle.smk_flow.specs.Flows.{Candidate}
use Rattle.smk_choose.specs.declared.choice.Making.{Making}
use Rattle.smk_choose.specs.Told.{making}
use Rattle.smk_record.specs.Records.{same_pair}
use Rattle.smk_chain.specs.Derive.{same_candidate, distinct}
use Rattle.smk_chain_walk.specs.Numbers.{is_job, place_of, has, added, all_added}

-- ---- one job

pairs_same : (xs ys : List Pair) → pointwise same_pair xs ys ≡ true → xs ≡ ys
pairs_same [] [] h = refl
pairs_same [] (y ∷ ys) h = absurd cc
pairs_same (x ∷ xs) [] h = absurd cc
pairs_same (x ∷ xs) (y ∷ ys) h =
    let one = and_first (same_pair x y) (pointwise same_pair xs ys) h in
    let name = (bytes_eq-Decides x.name y.name).0 (and_first (bytes_eq x.name y.name) (bytes_eq x.value y.value) one) in
    let value = (bytes_eq-Decides x.value y.value).0 (and_second (bytes_eq x.name y.name) (bytes_eq x.value y.value) one) in
    ap₂ ◌∷◌ (ap₂ (λ n v. record { name = n; value = v }) name value) (pairs_same xs ys (and_second (same_pair x y) (pointwise same_pair xs ys) h))

pairs_own : (xs : List Pair) → pointwise same_pair xs xs ≡ true
pairs_own [] = refl
pairs_own (x ∷ xs) =
    both_true (same_pair x x) (pointwise same_pair xs xs) (both_true (bytes_eq x.name x.name) (bytes_eq x.value x.value) ((bytes_eq-Decides x.name x.name).1 refl) ((bytes_eq-Decides x.value x.value).1 refl)) (pairs_own xs)

pub is_its_job : (c : Candidate) → is_job (making c) c ≡ true
is_its_job c = both_true (eqb c.rule c.rule) (pointwise same_pair c.binding c.binding) (eq-eqb c.rule c.rule refl) (pairs_own c.binding)

pub job_is : (m : Making) (c : Candidate) → is_job m c ≡ true → making c ≡ m
job_is m c h =
    ap₂ (λ r b. record { rule = r; binding = b }) (eqb-true c.rule m.rule (and_first (eqb c.rule m.rule) (pointwise same_pair c.binding m.binding) h))
    (pairs_same c.binding m.binding (and_second (eqb c.rule m.rule) (pointwise same_pair c.binding m.binding) h))

-- ---- places

abbrev pub or_place : Option ℕ → Option ℕ → Option ℕ
or_place None later = later
or_place (Some n) later = Some n

abbrev pub place_if : Bool → ℕ → Option ℕ
place_if b n = cond b (Some n) None

or_suc : (o : Option ℕ) (b : Bool) (n : ℕ) → option_map suc (or_place o (place_if b n)) ≡ or_place (option_map suc o) (place_if b (suc n))
or_suc None true n = refl
or_suc None false n = refl
or_suc (Some k) b n = refl

pub place_push : (cs : List Candidate) (c : Candidate) (m : Making) → place_of (cs ++ c ∷ []) m ≡ or_place (place_of cs m) (place_if (is_job m c) (length cs))
place_push [] c m = refl
place_push (d ∷ cs) c m = go (is_job m d) (ap (option_map suc) (place_push cs c m) ∙ or_suc (place_of cs m) (is_job m c) (length cs))
  where
    go : (b : Bool) → option_map suc (place_of (cs ++ c ∷ []) m) ≡ or_place (option_map suc (place_of cs m)) (place_if (is_job m c) (suc (length cs))) →
        cond b (Some 0) (option_map suc (place_of (cs ++ c ∷ []) m)) ≡ or_place (cond b (Some 0) (option_map suc (place_of cs m))) (place_if (is_job m c) (suc (length cs)))
    go true later = refl
    go false later = later

pub placed : (cs : List Candidate) (m : Making) (n : ℕ) → place_of cs m ≡ Some n → list_any (is_job m) cs ≡ true
placed [] m n e = absurd cc
placed (c ∷ cs) m n e = go (is_job m c) (place_of cs m) refl (λ k p. placed cs m k p) e
  where
    go : (b : Bool) (o : Option ℕ) → place_of cs m ≡ o → ((k : ℕ) → place_of cs m ≡ Some k → list_any (is_job m) cs ≡ true) → cond b (Some 0) (option_map suc o) ≡ Some n → b || list_any (is_job m) cs ≡ true
    go true o p rest e = refl
    go false None p rest e = absurd cc
    go false (Some k) p rest e = rest k p

pub unplaced : (cs : List Candidate) (m : Making) → place_of cs m ≡ None → list_any (is_job m) cs ≡ false
unplaced [] m e = refl
unplaced (c ∷ cs) m e = go (is_job m c) (place_of cs m) refl (λ p. unplaced cs m p) e
  where
    go : (b : Bool) (o : Option ℕ) → place_of cs m ≡ o → (place_of cs m ≡ None → list_any (is_job m) cs ≡ false) → cond b (Some 0) (option_map suc o) ≡ None → b || list_any (is_job m) cs ≡ false
    go true o p rest e = absurd cc
    go false None p rest e = rest p
    go false (Some k) p rest e = absurd cc

-- a job that is there has a place
pub has_place : (cs : List Candidate) (m : Making) → list_any (is_job m) cs ≡ true → (n : ℕ) × (place_of cs m ≡ Some n)
has_place cs m h = go (place_of cs m) refl
  where
    go : (o : Option ℕ) → place_of cs m ≡ o → (n : ℕ) × (o ≡ Some n)
    go (Some n) e = (n, refl)
    go None e = absurd (true≢false (sym h ∙ unplaced cs m e))

-- ---- what is there stays there

pub any_push : {A : Type 0} (f : A → Bool) (xs : List A) (x : A) → list_any f (xs ++ x ∷ []) ≡ list_any f xs || f x
any_push f [] x = or_nil (f x)
  where
    or_nil : (b : Bool) → b || false ≡ b
    or_nil true = refl
    or_nil false = refl
any_push f (y ∷ xs) x = ap (λ b. f y || b) (any_push f xs x) ∙ sym (or_assoc (f y) (list_any f xs) (f x))
  where
    or_assoc : (a b c : Bool) → (a || b) || c ≡ a || (b || c)
    or_assoc true b c = refl
    or_assoc false b c = refl

pub place_added : (cs : List Candidate) (c : Candidate) (m : Making) (n : ℕ) → place_of cs m ≡ Some n → place_of (added cs c) m ≡ Some n
place_added cs c m n e = go (has cs c)
  where
    go : (b : Bool) → place_of (cond b cs (cs ++ c ∷ [])) m ≡ Some n
    go true = e
    go false = place_push cs c m ∙ ap (λ o. or_place o (place_if (is_job m c) (length cs))) e

pub place_all_added : (cs xs : List Candidate) (m : Making) (n : ℕ) → place_of cs m ≡ Some n → place_of (all_added cs xs) m ≡ Some n
place_all_added cs [] m n e = e
place_all_added cs (x ∷ xs) m n e = place_all_added (added cs x) xs m n (place_added cs x m n e)

-- the jobs that are among these are among those
pub record Within (cs ds : List Candidate) : Type 0 where
  pub kept : (m : Making) (n : ℕ) → place_of cs m ≡ Some n → place_of ds m ≡ Some n

pub within_has : (cs ds : List Candidate) → Within cs ds → (c : Candidate) → has cs c ≡ true → has ds c ≡ true
within_has cs ds w c h = let p = has_place cs (making c) h in placed ds (making c) p.0 (w.kept (making c) p.0 p.1)

pub within_added : (cs : List Candidate) (c : Candidate) → Within cs (added cs c)
within_added cs c = record { kept = λ m n e. place_added cs c m n e }

pub within_all_added : (cs xs : List Candidate) → Within cs (all_added cs xs)
within_all_added cs xs = record { kept = λ m n e. place_all_added cs xs m n e }

pub added_has : (cs : List Candidate) (c : Candidate) → has (added cs c) c ≡ true
added_has cs c = go (has cs c) refl
  where
    go : (b : Bool) → has cs c ≡ b → has (cond b cs (cs ++ c ∷ [])) c ≡ true
    go true e = e
    go false e = any_push (is_job (making c)) cs c ∙ or_right (has cs c) (is_job (making c) c) (is_its_job c)

pub all_added_has : (cs xs : List Candidate) → AllByRecursion (λ c. has (all_added cs xs) c ≡ true) xs
all_added_has cs [] = tt
all_added_has cs (x ∷ xs) = (within_has (added cs x) (all_added (added cs x) xs) (within_all_added (added cs x) xs) x (added_has cs x), all_added_has (added cs x) xs)

-- ---- adding in parts

pub all_added_append : (cs xs ys : List Candidate) → all_added cs (xs ++ ys) ≡ all_added (all_added cs xs) ys
all_added_append cs [] ys = refl
all_added_append cs (x ∷ xs) ys = all_added_append (added cs x) xs ys

added_there : (cs : List Candidate) (c : Candidate) → has cs c ≡ true → added cs c ≡ cs
added_there cs c h = ap (λ b. cond b cs (cs ++ c ∷ [])) h

pub all_there : (cs xs : List Candidate) → AllByRecursion (λ c. has cs c ≡ true) xs → all_added cs xs ≡ cs
all_there cs [] h = refl
all_there cs (x ∷ xs) h = ap (λ ds. all_added ds xs) (added_there cs x h.0) ∙ all_there cs xs h.1

-- ---- each once

pub filter_within : {A : Type 0} (p q : A → Bool) → ((x : A) → q x ≡ false → p x ≡ false) → (xs : List A) → filter p (filter q xs) ≡ filter p xs
filter_within p q h [] = refl
filter_within p q h (x ∷ xs) = go (filter_within p q h xs) (q x) (p x) refl refl
  where
    go : filter p (filter q xs) ≡ filter p xs → (b d : Bool) → q x ≡ b → p x ≡ d → filter p (cond b (x ∷ filter q xs) (filter q xs)) ≡ cond d (x ∷ filter p xs) (filter p xs)
    go rest true d e f = ap (λ a. cond a (x ∷ filter p (filter q xs)) (filter p (filter q xs))) f ∙ ap (λ ys. cond d (x ∷ ys) ys) rest
    go rest false true e f = absurd (true≢false (sym f ∙ h x e))
    go rest false false e f = rest

pub filter_both : {A : Type 0} (p q r : A → Bool) → ((x : A) → r x ≡ p x && q x) → (xs : List A) → filter p (filter q xs) ≡ filter r xs
filter_both p q r h [] = refl
filter_both p q r h (x ∷ xs) = go (filter_both p q r h xs) (q x) (p x) refl refl
  where
    is : (b d : Bool) → q x ≡ b → p x ≡ d → r x ≡ d && b
    is b d e f = h x ∙ ap₂ ◌&&◌ f e

    go : filter p (filter q xs) ≡ filter r xs → (b d : Bool) → q x ≡ b → p x ≡ d → filter p (cond b (x ∷ filter q xs) (filter q xs)) ≡ cond (r x) (x ∷ filter r xs) (filter r xs)
    go rest true true e f = ap (λ a. cond a (x ∷ filter p (filter q xs)) (filter p (filter q xs))) f ∙ ap (λ ys. x ∷ ys) rest ∙ sym (ap (λ a. cond a (x ∷ filter r xs) (filter r xs)) (is true true e f))
    go rest true false e f = ap (λ a. cond a (x ∷ filter p (filter q xs)) (filter p (filter q xs))) f ∙ rest ∙ sym (ap (λ a. cond a (x ∷ filter r xs) (filter r xs)) (is true false e f))
    go rest false true e f = rest ∙ sym (ap (λ a. cond a (x ∷ filter r xs) (filter r xs)) (is false true e f))
    go rest false false e f = rest ∙ sym (ap (λ a. cond a (x ∷ filter r xs) (filter r xs)) (is false false e f))

abbrev misses : List Candidate → Candidate → Bool
misses cs y = not (has cs y)

pub not_or : (a b : Bool) → not (a || b) ≡ not a && not b
not_or true b = refl
not_or false b = refl

all_added_is : (cs xs : List Candidate) → all_added cs xs ≡ cs ++ filter (misses cs) (distinct same_candidate xs)
all_added_is cs [] = sym (append-nil cs)
all_added_is cs (x ∷ xs) = go (λ ds. all_added_is ds xs) (has cs x) refl
  where
    others : List Candidate
    others = filter (λ y. not (same_candidate x y)) (distinct same_candidate xs)

    go : ((ds : List Candidate) → all_added ds xs ≡ ds ++ filter (misses ds) (distinct same_candidate xs)) → (b : Bool) → has cs x ≡ b → all_added (cond b cs (cs ++ x ∷ [])) xs ≡ cs ++ cond (not b) (x ∷ filter (misses cs) others) (filter (misses cs) others)
    go more true e = more cs ∙ ap (λ ys. cs ++ ys) (sym (filter_within (misses cs) (λ y. not (same_candidate x y)) (λ y h. ap not (there y h)) (distinct same_candidate xs)))
      where
        there : (y : Candidate) → not (same_candidate x y) ≡ false → has cs y ≡ true
        there y h = ap (λ m. list_any (is_job m) cs) (sym (job_is (making y) x (twice (same_candidate x y) h))) ∙ e
          where
            twice : (b : Bool) → not b ≡ false → b ≡ true
            twice true h = refl
            twice false h = absurd (true≢false h)
    go more false e =
        more (cs ++ x ∷ [])
        ∙ append_assoc cs (x ∷ []) (filter (misses (cs ++ x ∷ [])) (distinct same_candidate xs))
        ∙ ap (λ ys. cs ++ x ∷ ys) (sym (filter_both (misses cs) (λ y. not (same_candidate x y)) (misses (cs ++ x ∷ []))
        (λ y. ap not (any_push (is_job (making y)) cs x) ∙ not_or (has cs y) (same_candidate x y)) (distinct same_candidate xs)))

pub filter_all : {A : Type 0} (p : A → Bool) → ((x : A) → p x ≡ true) → (xs : List A) → filter p xs ≡ xs
filter_all p h [] = refl
filter_all p h (x ∷ xs) = ap (λ a. cond a (x ∷ filter p xs) (filter p xs)) (h x) ∙ ap (λ ys. x ∷ ys) (filter_all p h xs)

-- adding one by one to nothing gives each once, where it comes first
pub distinct_is : (xs : List Candidate) → distinct same_candidate xs ≡ all_added [] xs
distinct_is xs = sym (all_added_is [] xs ∙ filter_all (misses []) (λ y. refl) (distinct same_candidate xs))
