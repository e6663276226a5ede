-- A chosen candidate is one of the viable ones, and stands at its rule's number.
use Rattle.std.proofs.Common.{◌≡◌, ℕ, ◌+◌, Bool, true, false, cond, List, [], ◌∷◌, Option, Some, None, refl, ap, subst, filter, true≢false}
use Rattle.std.specs.Prelude.{slice_get}
use Rattle.std.specs.List.{find, enumerate_from, AllByRecursion}
use Rattle.smk_world.specs.Trees.{Path}
use Rattle.smk_flow.specs.Flows.{Flow, Candidate}
use Rattle.smk_choose.specs.Choose.{Sources, Choice, Lack, Source, Make, Nothing, Ambiguous, candidates, is_viable, viable, lack_of_first, leader, choice, choose}
use Rattle.smk_choose.proofs.Listed.{Placed, all_filter, candidates_placed}

abbrev HasFor : (Candidate → Type 0) → Option (ℕ × Candidate) → Type 0
HasFor P None = Unit {0}
HasFor P (Some e) = P e.1

abbrev HoldsFor : (Candidate → Type 0) → Choice → Type 0
HoldsFor P Source = Unit {0}
HoldsFor P (Make c) = P c
HoldsFor P (Nothing l) = Unit {0}
HoldsFor P (Ambiguous a b) = Unit {0}

found_has : (P : Candidate → Type 0) (test : ℕ × Candidate → Bool) (n : ℕ) (cs : List Candidate) → AllByRecursion P cs → HasFor P (find test (enumerate_from n cs))
found_has P test n [] all = tt
found_has P test n (c ∷ cs) all = go (test (n, c)) (found_has P test (n + 1) cs all.1)
  where
    go : (b : Bool) → HasFor P (find test (enumerate_from (n + 1) cs)) → HasFor P (cond b (Some (n, c)) (find test (enumerate_from (n + 1) cs)))
    go true more = all.0
    go false more = more

best_has : (P : Candidate → Type 0) (o : Option (ℕ × Candidate)) (vs : List Candidate) (l : Option Lack) → HasFor P o → AllByRecursion P vs → HoldsFor P (choice o vs l)
best_has P (Some e) vs l p all = p
best_has P None [] l p all = tt
best_has P None (a ∷ []) l p all = all.0
best_has P None (a ∷ b ∷ rest) l p all = tt

choice_has : (flow : Flow) (sources : Sources) (p : Path) (P : Candidate → Type 0) → AllByRecursion P (viable flow sources p) → HoldsFor P (choose flow sources p)
choice_has flow sources p P all = go (sources.is p)
  where
    go : (b : Bool) → HoldsFor P (elim b as (λ _. Choice) [ true ↦ Source | false ↦ choice (leader flow (enumerate_from 0 (viable flow sources p))) (viable flow sources p) (lack_of_first flow sources (candidates flow sources p)) ])
    go true = tt
    go false =
        best_has P (leader flow (enumerate_from 0 (viable flow sources p))) (viable flow sources p) (lack_of_first flow sources (candidates flow sources p))
        (found_has P _ 0 (viable flow sources p) all) all

-- what holds of all viable candidates holds of the chosen one
pub chosen_viable : (flow : Flow) (sources : Sources) (p : Path) (c : Candidate) (P : Candidate → Type 0) → AllByRecursion P (viable flow sources p) → choose flow sources p ≡ Make c → P c
chosen_viable flow sources p c P all e = subst (HoldsFor P) e (choice_has flow sources p P all)

-- what holds of all candidates holds of the chosen one
pub chosen_candidate : (flow : Flow) (sources : Sources) (p : Path) (c : Candidate) (P : Candidate → Type 0) → AllByRecursion P (candidates flow sources p) → choose flow sources p ≡ Make c → P c
chosen_candidate flow sources p c P all e = chosen_viable flow sources p c P (all_filter P (is_viable flow sources) (candidates flow sources p) all) e

-- the rule of the chosen candidate is the one with its number
pub chosen_placed : (flow : Flow) (sources : Sources) (p : Path) (c : Candidate) → choose flow sources p ≡ Make c → slice_get flow.rules c.rule ≡ Some c.part
chosen_placed flow sources p c e = chosen_candidate flow sources p c (Placed flow.rules) (candidates_placed flow sources p) e

-- what passes a filter passes its test
pub all_pass : {A : Type 0} (f : A → Bool) (xs : List A) → AllByRecursion (λ x. f x ≡ true) (filter f xs)
all_pass f [] = tt
all_pass f (x ∷ xs) = go (f x) refl (all_pass f xs)
  where
    go : (b : Bool) → f x ≡ b → AllByRecursion (λ y. f y ≡ true) (filter f xs) → AllByRecursion (λ y. f y ≡ true) (cond b (x ∷ filter f xs) (filter f xs))
    go true e rest = (e, rest)
    go false e rest = rest

-- all that the chosen candidate wants whatever the listings are is available
pub chosen_is_viable : (flow : Flow) (sources : Sources) (p : Path) (c : Candidate) → choose flow sources p ≡ Make c → is_viable flow sources c ≡ true
chosen_is_viable flow sources p c e = chosen_viable flow sources p c (λ d. is_viable flow sources d ≡ true) (all_pass (is_viable flow sources) (candidates flow sources p)) e

-- a path that a job is chosen for is no source
pub chosen_no_source : (flow : Flow) (sources : Sources) (p : Path) (c : Candidate) → choose flow sources p ≡ Make c → sources.is p ≡ false
chosen_no_source flow sources p c e = go (sources.is p) e
  where
    other : Choice → Bool
    other Source = true
    other (Make d) = false
    other (Nothing l) = false
    other (Ambiguous a b) = false

    best : Choice
    best = choice (leader flow (enumerate_from 0 (viable flow sources p))) (viable flow sources p) (lack_of_first flow sources (candidates flow sources p))

    go : (b : Bool) → elim b as (λ _. Choice) [ true ↦ Source | false ↦ best ] ≡ Make c → b ≡ false
    go true h = absurd (true≢false (ap other h))
    go false h = refl
