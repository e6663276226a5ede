-- Where two tell the same on a reach, the same jobs are chosen from its targets, and the same is refused.
use Rattle.std.proofs.Common.{◌≡◌, inl, inr, ℕ, zero, suc, ◌+◌, ◌&&◌, ◌||◌, Bool, true, false, cond, not, List, [], ◌∷◌, ◌++◌, map, filter, refl, sym, ap, ap₂, subst, ◌∙◌, Option, Some, None, option_map, bytes_eq, max, ◌==◌}
use Rattle.std.specs.Prelude.{if◌then◌else◌}
use Rattle.std.specs.List.{AllByRecursion, list_any, list_all, find, fold, flat_map, enumerate_from}
use Rattle.smk_choose.proofs.Listed.{all_append}
use Rattle.smk_chain.proofs.Inputs.{all_front, all_back}
use Rattle.smk_base.specs.Path.{is_path}
use Rattle.smk_base.proofs.Places.{same_place}
use Rattle.smk_world.specs.Trees.{Path, IsIn}
use Rattle.smk_pattern.specs.Shapes.{Text}
use Rattle.smk_flow.specs.declared.job.Job.{Job}
use Rattle.smk_flow.specs.Flows.{Flow, Candidate, declared_inputs, gathered_folders, first_wants}
use Rattle.smk_choose.specs.Choose.{Sources, Choice, Lack, Source, choice, leader, candidates, is_apart, avail, is_viable, viable, lack_of_first, choose, maker, Make, Nothing, Ambiguous}
use Rattle.smk_choose.proofs.Picked.{chosen_candidate, chosen_no_source}
use Rattle.smk_store.specs.Images.{Image}
use Rattle.smk_chain.specs.Derive.{Listings, gathered_files, wants, wanted_paths, distinct, walk, height, Refusal, NoInput, Deep, refused_at, refused, next, reach, spots, clashes, same_candidate, jobs, job, job_refusals, outcome}
use Rattle.smk_chain_sight.specs.Sight.{fitting, places, SameAt, SameAround, SameOnReach, IsSmall, Suffices}

-- ## Members of lists

pub all_in : {A : Type 0} (P : A → Type 0) (xs : List A) (x : A) → AllByRecursion P xs → IsIn xs x → P x
all_in P [] x all h = absurd h
all_in P (y ∷ ys) x all (inl e) = subst P (sym e) all.0
all_in P (y ∷ ys) x all (inr h) = all_in P ys x all.1 h

pub all_of_each : {A : Type 0} (P : A → Type 0) (xs : List A) → ((x : A) → IsIn xs x → P x) → AllByRecursion P xs
all_of_each P [] each = tt
all_of_each P (x ∷ xs) each = (each x (inl refl), all_of_each P xs (λ y h. each y (inr h)))

pub all_weaker : {A : Type 0} (P Q : A → Type 0) → ((x : A) → P x → Q x) → (xs : List A) → AllByRecursion P xs → AllByRecursion Q xs
all_weaker P Q more [] all = tt
all_weaker P Q more (x ∷ xs) all = (more x all.0, all_weaker P Q more xs all.1)

pub in_first : {A : Type 0} (xs ys : List A) (x : A) → IsIn xs x → IsIn (xs ++ ys) x
in_first [] ys x h = absurd h
in_first (y ∷ xs) ys x (inl e) = inl e
in_first (y ∷ xs) ys x (inr h) = inr (in_first xs ys x h)

pub in_second : {A : Type 0} (xs ys : List A) (x : A) → IsIn ys x → IsIn (xs ++ ys) x
in_second [] ys x h = h
in_second (y ∷ xs) ys x h = inr (in_second xs ys x h)

in_when : {A : Type 0} (b : Bool) (y x : A) (rest : List A) → b ≡ true → x ≡ y → IsIn (cond b (y ∷ rest) rest) x
in_when true y x rest t e = inl e
in_when false y x rest t e = absurd (no t)
  where
    no : false ≡ true → ⊥
    no q = cc

in_anyway : {A : Type 0} (b : Bool) (y x : A) (rest : List A) → IsIn rest x → IsIn (cond b (y ∷ rest) rest) x
in_anyway true y x rest h = inr h
in_anyway false y x rest h = h

pub in_filter : {A : Type 0} (p : A → Bool) (xs : List A) (x : A) → IsIn xs x → p x ≡ true → IsIn (filter p xs) x
in_filter p [] x h t = absurd h
in_filter p (y ∷ ys) x (inl e) t = in_when (p y) y x (filter p ys) (ap p (sym e) ∙ t) e
in_filter p (y ∷ ys) x (inr h) t = in_anyway (p y) y x (filter p ys) (in_filter p ys x h t)

pub in_distinct : (xs : List Path) (x : Path) → IsIn xs x → IsIn (distinct bytes_eq xs) x
in_distinct [] x h = absurd h
in_distinct (y ∷ ys) x (inl e) = inl e
in_distinct (y ∷ ys) x (inr h) = go (bytes_eq y x) refl (in_distinct ys x h)
  where
    go : (b : Bool) → bytes_eq y x ≡ b → IsIn (distinct bytes_eq ys) x → IsIn (y ∷ filter (λ z. not (bytes_eq y z)) (distinct bytes_eq ys)) x
    go true e rest = inl (sym (same_place y x e))
    go false e rest = inr (in_filter (λ z. not (bytes_eq y z)) (distinct bytes_eq ys) x rest (ap not e))

pub in_flat : {A B : Type 0} (f : A → List B) (xs : List A) (x : A) (y : B) → IsIn xs x → IsIn (f x) y → IsIn (flat_map f xs) y
in_flat f [] x y h k = absurd h
in_flat f (z ∷ zs) x y (inl e) k = in_first (f z) (flat_map f zs) y (subst (λ v. IsIn (f v) y) e k)
in_flat f (z ∷ zs) x y (inr h) k = in_second (f z) (flat_map f zs) y (in_flat f zs x y h k)

-- what passes the test has P where it passes
pub all_filtered : {A : Type 0} (p : A → Bool) (P : A → Type 0) (xs : List A) → AllByRecursion P (filter p xs) → AllByRecursion (λ x. p x ≡ true → P x) xs
all_filtered p P [] all = tt
all_filtered p P (x ∷ xs) all = (here (p x) all, all_filtered p P xs (rest (p x) all))
  where
    here : (b : Bool) → AllByRecursion P (cond b (x ∷ filter p xs) (filter p xs)) → b ≡ true → P x
    here true h e = h.0
    here false h e = absurd (no e)
      where
        no : false ≡ true → ⊥
        no q = cc

    rest : (b : Bool) → AllByRecursion P (cond b (x ∷ filter p xs) (filter p xs)) → AllByRecursion P (filter p xs)
    rest true h = h.1
    rest false h = h

pub all_flat : {A B : Type 0} (P : B → Type 0) (f : A → List B) (xs : List A) → AllByRecursion P (flat_map f xs) → AllByRecursion (λ x. AllByRecursion P (f x)) xs
all_flat P f [] all = tt
all_flat P f (x ∷ xs) all = (all_front P (f x) (flat_map f xs) all, all_flat P f xs (all_back P (f x) (flat_map f xs) all))

-- ## Lists on which two functions are the same

filter_same : {A : Type 0} (f g : A → Bool) (xs : List A) → AllByRecursion (λ x. f x ≡ g x) xs → filter f xs ≡ filter g xs
filter_same f g [] all = refl
filter_same f g (x ∷ xs) all = ap₂ (λ b ys. cond b (x ∷ ys) ys) all.0 (filter_same f g xs all.1)

list_all_same : {A : Type 0} (f g : A → Bool) (xs : List A) → AllByRecursion (λ x. f x ≡ g x) xs → list_all f xs ≡ list_all g xs
list_all_same f g [] all = refl
list_all_same f g (x ∷ xs) all = ap₂ ◌&&◌ all.0 (list_all_same f g xs all.1)

list_any_same : {A : Type 0} (f g : A → Bool) (xs : List A) → AllByRecursion (λ x. f x ≡ g x) xs → list_any f xs ≡ list_any g xs
list_any_same f g [] all = refl
list_any_same f g (x ∷ xs) all = ap₂ ◌||◌ all.0 (list_any_same f g xs all.1)

find_same : {A : Type 0} (f g : A → Bool) (xs : List A) → AllByRecursion (λ x. f x ≡ g x) xs → find f xs ≡ find g xs
find_same f g [] all = refl
find_same f g (x ∷ xs) all = ap₂ (λ b o. cond b (Some x) o) all.0 (find_same f g xs all.1)

map_same : {A B : Type 0} (f g : A → B) (xs : List A) → AllByRecursion (λ x. f x ≡ g x) xs → map f xs ≡ map g xs
map_same f g [] all = refl
map_same f g (x ∷ xs) all = ap₂ ◌∷◌ all.0 (map_same f g xs all.1)

pub flat_same : {A B : Type 0} (f g : A → List B) (xs : List A) → AllByRecursion (λ x. f x ≡ g x) xs → flat_map f xs ≡ flat_map g xs
flat_same f g [] all = refl
flat_same f g (x ∷ xs) all = ap₂ ◌++◌ all.0 (flat_same f g xs all.1)

and_same : (a b c : Bool) → (a ≡ true → b ≡ c) → (a && b) ≡ (a && c)
and_same true b c same = same refl
and_same false b c same = refl

-- ## Levels

-- k more than n
abbrev pub more : ℕ → ℕ → ℕ
more zero n = n
more (suc k) n = more k (suc n)

abbrev over : ℕ → ℕ → ℕ
over zero k = k
over (suc n) k = suc (over n k)

-- The two tell the same of the path, and, so many levels deep, of what its candidates want.
abbrev pub Good : Flow → Sources → Sources → Listings → ℕ → Path → Type 0
Good flow S T L zero p = T.is p ≡ S.is p
Good flow S T L (suc k) p =
    SameAround flow S T p × (S.is p ≡ false → AllByRecursion (Good flow S T L k) (filter is_path (flat_map (wants flow L) (candidates flow S p))))

good_step : (flow : Flow) (S T : Sources) (L : Listings) (k : ℕ) (p : Path) → Good flow S T L (suc k) p → Good flow S T L k p
good_step flow S T L zero p g = g.0.0.0
good_step flow S T L (suc k) p g =
    (g.0, λ e. all_weaker (Good flow S T L (suc k)) (Good flow S T L k) (good_step flow S T L k) (filter is_path (flat_map (wants flow L) (candidates flow S p))) (g.1 e))

good_less : (flow : Flow) (S T : Sources) (L : Listings) (n k : ℕ) (p : Path) → Good flow S T L (suc (over n k)) p → Good flow S T L (suc k) p
good_less flow S T L zero k p g = g
good_less flow S T L (suc n) k p g = good_less flow S T L n k p (good_step flow S T L (suc (over n k)) p g)

-- ## Candidates

apart_same : (flow : Flow) (S T : Sources) (c : Candidate) → AllByRecursion (λ (q : Text). is_path q ≡ true → SameAt S T q) (places flow c) → is_apart flow T c ≡ is_apart flow S c
apart_same flow S T c all =
    list_all_same (λ q. is_path q && not (T.holds q)) (λ q. is_path q && not (S.holds q)) (places flow c)
    (all_weaker (λ (q : Text). is_path q ≡ true → SameAt S T q) (λ q. (is_path q && not (T.holds q)) ≡ (is_path q && not (S.holds q)))
    (λ q h. and_same (is_path q) (not (T.holds q)) (not (S.holds q)) (λ e. ap not (h e).1)) (places flow c) all)

pub candidates_same : (flow : Flow) (S T : Sources) (p : Path) → SameAround flow S T p → S.is p ≡ false → candidates flow T p ≡ candidates flow S p
candidates_same flow S T p same e =
    filter_same (is_apart flow T) (is_apart flow S) (fitting flow p)
    (all_weaker (λ (c : Candidate). AllByRecursion (λ (q : Text). is_path q ≡ true → SameAt S T q) (places flow c)) (λ c. is_apart flow T c ≡ is_apart flow S c)
    (apart_same flow S T) (fitting flow p) (same.1 e))

-- each candidate's wants, so many levels deep
wants_good : (flow : Flow) (S T : Sources) (L : Listings) (k : ℕ) (p : Path) → Good flow S T L (suc k) p → S.is p ≡ false
    → AllByRecursion (λ (c : Candidate). AllByRecursion (λ (w : Text). is_path w ≡ true → Good flow S T L k w) (wants flow L c)) (candidates flow S p)
wants_good flow S T L k p g e =
    all_flat (λ (w : Text). is_path w ≡ true → Good flow S T L k w) (wants flow L) (candidates flow S p)
    (all_filtered is_path (Good flow S T L k) (flat_map (wants flow L) (candidates flow S p)) (g.1 e))

-- what it wants whatever the listings are stands first
first_ones : (flow : Flow) (L : Listings) (c : Candidate) (P : Text → Type 0) → AllByRecursion P (wants flow L c) → AllByRecursion P (first_wants flow c)
first_ones flow L c P all =
    all_append P (declared_inputs flow c) (gathered_folders flow c)
    (all_front P (declared_inputs flow c) (gathered_folders flow c ++ gathered_files flow L c) all)
    (all_front P (gathered_folders flow c) (gathered_files flow L c) (all_back P (declared_inputs flow c) (gathered_folders flow c ++ gathered_files flow L c) all))

firsts_good : (flow : Flow) (S T : Sources) (L : Listings) (k : ℕ) (p : Path) → Good flow S T L (suc k) p → S.is p ≡ false
    → AllByRecursion (λ (c : Candidate). AllByRecursion (λ (w : Text). is_path w ≡ true → Good flow S T L k w) (first_wants flow c)) (candidates flow S p)
firsts_good flow S T L k p g e =
    all_weaker (λ (c : Candidate). AllByRecursion (λ (w : Text). is_path w ≡ true → Good flow S T L k w) (wants flow L c))
    (λ (c : Candidate). AllByRecursion (λ (w : Text). is_path w ≡ true → Good flow S T L k w) (first_wants flow c))
    (λ c all. first_ones flow L c (λ (w : Text). is_path w ≡ true → Good flow S T L k w) all) (candidates flow S p) (wants_good flow S T L k p g e)

-- ## What is available

abbrev avail_by : Bool → Bool → Bool → Bool
avail_by path source some =
    elim path as (λ _. Bool) [
      | false ↦ false
      | true ↦ elim source as (λ _. Bool) [
        | true ↦ true
        | false ↦ some
      ]
    ]

abbrev some_by : Flow → Sources → ℕ → Text → Bool
some_by flow S n p = list_any (λ c. list_all (avail flow S n) (first_wants flow c)) (candidates flow S p)

ended_same : (path s t : Bool) → (path ≡ true → t ≡ s) → (path && t) ≡ (path && s)
ended_same path s t same = and_same path t s same

avail_step : (flow : Flow) (S T : Sources) (L : Listings) (n : ℕ) (p : Text) → ((q : Text) → (is_path q ≡ true → Good flow S T L n q) → avail flow T n q ≡ avail flow S n q)
    → (is_path p ≡ true → Good flow S T L (suc n) p) → avail flow T (suc n) p ≡ avail flow S (suc n) p
avail_step flow S T L n p again good = by_path (is_path p) refl
  where
    by_source : is_path p ≡ true → (b : Bool) → S.is p ≡ b → avail flow T (suc n) p ≡ avail flow S (suc n) p
    by_source path true e =
        ap₂ (λ x y. avail_by x y (some_by flow T n p)) path ((good path).0.0.0 ∙ e)
        ∙ sym (ap₂ (λ x y. avail_by x y (some_by flow S n p)) path e)
    by_source path false e =
        ap₂ (λ x y. avail_by x y (some_by flow T n p)) path ((good path).0.0.0 ∙ e)
        ∙ ap (list_any (λ c. list_all (avail flow T n) (first_wants flow c))) (candidates_same flow S T p (good path).0 e)
        ∙ list_any_same (λ c. list_all (avail flow T n) (first_wants flow c)) (λ c. list_all (avail flow S n) (first_wants flow c)) (candidates flow S p)
        (all_weaker (λ (c : Candidate). AllByRecursion (λ (w : Text). is_path w ≡ true → Good flow S T L n w) (first_wants flow c))
        (λ c. list_all (avail flow T n) (first_wants flow c) ≡ list_all (avail flow S n) (first_wants flow c))
        (λ c all. list_all_same (avail flow T n) (avail flow S n) (first_wants flow c)
        (all_weaker (λ (w : Text). is_path w ≡ true → Good flow S T L n w) (λ w. avail flow T n w ≡ avail flow S n w) again (first_wants flow c) all))
        (candidates flow S p) (firsts_good flow S T L n p (good path) e))
        ∙ sym (ap₂ (λ x y. avail_by x y (some_by flow S n p)) path e)

    by_path : (b : Bool) → is_path p ≡ b → avail flow T (suc n) p ≡ avail flow S (suc n) p
    by_path true path = by_source path (S.is p) refl
    by_path false path =
        ap (λ x. avail_by x (T.is p) (some_by flow T n p)) path
        ∙ sym (ap (λ x. avail_by x (S.is p) (some_by flow S n p)) path)

avail_same : (flow : Flow) (S T : Sources) (L : Listings) (n : ℕ) (p : Text) → (is_path p ≡ true → Good flow S T L n p) → avail flow T n p ≡ avail flow S n p
avail_same flow S T L zero p good = ended_same (is_path p) (S.is p) (T.is p) good
avail_same flow S T L (suc n) p good = avail_step flow S T L n p (avail_same flow S T L n) good

-- ## What is chosen

abbrev choice_by : Flow → Bool → List Candidate → Option Lack → Choice
choice_by flow source vs l = elim source as (λ _. Choice) [ true ↦ Source | false ↦ choice (leader flow (enumerate_from 0 vs)) vs l ]

abbrev SameFirsts : Flow → Sources → Sources → Candidate → Type 0
SameFirsts flow S T c = AllByRecursion (λ (w : Text). avail flow T 199 w ≡ avail flow S 199 w) (first_wants flow c)

firsts_same : (flow : Flow) (S T : Sources) (L : Listings) (p : Path) → Good flow S T L 200 p → S.is p ≡ false → AllByRecursion (SameFirsts flow S T) (candidates flow S p)
firsts_same flow S T L p g e =
    all_weaker (λ (c : Candidate). AllByRecursion (λ (w : Text). is_path w ≡ true → Good flow S T L 199 w) (first_wants flow c)) (SameFirsts flow S T)
    (λ c all. all_weaker (λ (w : Text). is_path w ≡ true → Good flow S T L 199 w) (λ (w : Text). avail flow T 199 w ≡ avail flow S 199 w) (avail_same flow S T L 199) (first_wants flow c) all)
    (candidates flow S p) (firsts_good flow S T L 199 p g e)

viable_same : (flow : Flow) (S T : Sources) (cs : List Candidate) → AllByRecursion (SameFirsts flow S T) cs → filter (is_viable flow T) cs ≡ filter (is_viable flow S) cs
viable_same flow S T cs all =
    filter_same (is_viable flow T) (is_viable flow S) cs
    (all_weaker (SameFirsts flow S T) (λ c. is_viable flow T c ≡ is_viable flow S c) (λ c h. list_all_same (avail flow T 199) (avail flow S 199) (first_wants flow c) h) cs all)

lack_same : (flow : Flow) (S T : Sources) (cs : List Candidate) → AllByRecursion (SameFirsts flow S T) cs → lack_of_first flow T cs ≡ lack_of_first flow S cs
lack_same flow S T [] all = refl
lack_same flow S T (c ∷ cs) all =
    ap (option_map (λ (t : Text). record { rule = c.rule; wanted = t }))
    (find_same (λ t. not (avail flow T 199 t)) (λ t. not (avail flow S 199 t)) (first_wants flow c)
    (all_weaker (λ (w : Text). avail flow T 199 w ≡ avail flow S 199 w) (λ t. not (avail flow T 199 t) ≡ not (avail flow S 199 t)) (λ w h. ap not h) (first_wants flow c) all.0))

pub choose_same : (flow : Flow) (S T : Sources) (L : Listings) (p : Path) → Good flow S T L 200 p → choose flow T p ≡ choose flow S p
choose_same flow S T L p g = go (S.is p) refl
  where
    go : (b : Bool) → S.is p ≡ b → choose flow T p ≡ choose flow S p
    go true e =
        ap (λ b. choice_by flow b (viable flow T p) (lack_of_first flow T (candidates flow T p))) (g.0.0.0 ∙ e)
        ∙ sym (ap (λ b. choice_by flow b (viable flow S p) (lack_of_first flow S (candidates flow S p))) e)
    go false e =
        let cs = candidates_same flow S T p g.0 e in
        let firsts = firsts_same flow S T L p g e in
        ap (λ b. choice_by flow b (viable flow T p) (lack_of_first flow T (candidates flow T p))) (g.0.0.0 ∙ e)
        ∙ ap₂ (choice_by flow false)
        (ap (filter (is_viable flow T)) cs ∙ viable_same flow S T (candidates flow S p) firsts)
        (ap (lack_of_first flow T) cs ∙ lack_same flow S T (candidates flow S p) firsts)
        ∙ sym (ap (λ b. choice_by flow b (viable flow S p) (lack_of_first flow S (candidates flow S p))) e)

-- what the chosen job wants, so many levels deep
pub maker_is : (ch : Choice) (c : Candidate) → maker ch ≡ Some c → ch ≡ Make c
maker_is Source c e = absurd (no c e)
  where
    no : (c : Candidate) → None ≡ Some c → ⊥
    no c q = cc
maker_is (Make d) c e = ap Make (got d c e)
  where
    got : (d c : Candidate) → Some d ≡ Some c → d ≡ c
    got d c q = cc
maker_is (Nothing l) c e = absurd (no c e)
  where
    no : (c : Candidate) → None ≡ Some c → ⊥
    no c q = cc
maker_is (Ambiguous a b) c e = absurd (no c e)
  where
    no : (c : Candidate) → None ≡ Some c → ⊥
    no c q = cc

chosen_good : (flow : Flow) (S T : Sources) (L : Listings) (k : ℕ) (p : Path) (c : Candidate) → Good flow S T L (suc k) p → maker (choose flow S p) ≡ Some c
    → AllByRecursion (λ (w : Text). is_path w ≡ true → Good flow S T L k w) (wants flow L c)
chosen_good flow S T L k p c g e =
    let made = maker_is (choose flow S p) c e in
    chosen_candidate flow S p c (λ (d : Candidate). AllByRecursion (λ (w : Text). is_path w ≡ true → Good flow S T L k w) (wants flow L d))
    (wants_good flow S T L k p g (chosen_no_source flow S p c made)) made

-- ## Heights, refusals and walks

abbrev height_by : (Candidate → ℕ) → Option Candidate → ℕ
height_by f m = elim m as (λ _. ℕ) [ None ↦ 0 | Some c ↦ f c ]

all_passing : (P : Text → Type 0) (ws : List Text) → AllByRecursion (λ (w : Text). is_path w ≡ true → P w) ws → AllByRecursion P (filter is_path ws)
all_passing P [] all = tt
all_passing P (w ∷ ws) all = go (is_path w) refl (all_passing P ws all.1)
  where
    go : (b : Bool) → is_path w ≡ b → AllByRecursion P (filter is_path ws) → AllByRecursion P (cond b (w ∷ filter is_path ws) (filter is_path ws))
    go true e rest = (all.0 e, rest)
    go false e rest = rest

height_step : (flow : Flow) (S T : Sources) (L : Listings) (n : ℕ) (p : Path) → ((q : Path) → Good flow S T L (over n 199) q → height flow T L n q ≡ height flow S L n q)
    → Good flow S T L (suc (over n 199)) p → height flow T L (suc n) p ≡ height flow S L (suc n) p
height_step flow S T L n p again g =
    ap (λ ch. height_by (λ c. 1 + fold max 0 (map (height flow T L n) (wanted_paths flow L c))) (maker ch)) (choose_same flow S T L p (good_less flow S T L n 199 p g))
    ∙ go (maker (choose flow S p)) refl
  where
    go : (m : Option Candidate) → maker (choose flow S p) ≡ m
        → height_by (λ c. 1 + fold max 0 (map (height flow T L n) (wanted_paths flow L c))) m ≡ height_by (λ c. 1 + fold max 0 (map (height flow S L n) (wanted_paths flow L c))) m
    go None e = refl
    go (Some c) e =
        ap (λ ns. 1 + fold max 0 ns)
        (map_same (height flow T L n) (height flow S L n) (wanted_paths flow L c)
        (all_weaker (Good flow S T L (over n 199)) (λ w. height flow T L n w ≡ height flow S L n w) again (wanted_paths flow L c)
        (all_passing (Good flow S T L (over n 199)) (wants flow L c) (chosen_good flow S T L (over n 199) p c g e))))

pub height_same : (flow : Flow) (S T : Sources) (L : Listings) (n : ℕ) (p : Path) → Good flow S T L (over n 199) p → height flow T L n p ≡ height flow S L n p
height_same flow S T L zero p g = refl
height_same flow S T L (suc n) p g = height_step flow S T L n p (height_same flow S T L n) g

abbrev refused_by : (Candidate → List Refusal) → Option Candidate → List Refusal
refused_by f m = elim m as (λ _. List Refusal) [ None ↦ [] | Some c ↦ f c ]

-- what is refused of one want
abbrev refused_want : Flow → Sources → Listings → ℕ → Path → Candidate → Text → List Refusal
refused_want flow S L n p c w = elim (is_path w) as (λ _. List Refusal) [ true ↦ refused flow S L n w | false ↦ NoInput p c.rule w ∷ [] ]

abbrev want_by : Bool → List Refusal → List Refusal → List Refusal
want_by b path none = elim b as (λ _. List Refusal) [ true ↦ path | false ↦ none ]

want_same : (b : Bool) (x y none : List Refusal) → (b ≡ true → x ≡ y) → want_by b x none ≡ want_by b y none
want_same true x y none same = same refl
want_same false x y none same = refl

refused_step : (flow : Flow) (S T : Sources) (L : Listings) (n : ℕ) (p : Path) → ((q : Path) → Good flow S T L (over n 199) q → refused flow T L n q ≡ refused flow S L n q)
    → Good flow S T L (suc (over n 199)) p → refused flow T L (suc n) p ≡ refused flow S L (suc n) p
refused_step flow S T L n p again g =
    ap (λ ch. refused_at flow L p ch ++ refused_by (λ c. flat_map (refused_want flow T L n p c) (wants flow L c)) (maker ch)) (choose_same flow S T L p (good_less flow S T L n 199 p g))
    ∙ ap (λ rs. refused_at flow L p (choose flow S p) ++ rs) (go (maker (choose flow S p)) refl)
  where
    go : (m : Option Candidate) → maker (choose flow S p) ≡ m
        → refused_by (λ c. flat_map (refused_want flow T L n p c) (wants flow L c)) m ≡ refused_by (λ c. flat_map (refused_want flow S L n p c) (wants flow L c)) m
    go None e = refl
    go (Some c) e =
        flat_same (refused_want flow T L n p c) (refused_want flow S L n p c) (wants flow L c)
        (all_weaker (λ (w : Text). is_path w ≡ true → Good flow S T L (over n 199) w) (λ w. refused_want flow T L n p c w ≡ refused_want flow S L n p c w)
        (λ w h. want_same (is_path w) (refused flow T L n w) (refused flow S L n w) (NoInput p c.rule w ∷ []) (λ path. again w (h path)))
        (wants flow L c) (chosen_good flow S T L (over n 199) p c g e))

pub refused_same : (flow : Flow) (S T : Sources) (L : Listings) (n : ℕ) (p : Path) → Good flow S T L (over n 199) p → refused flow T L n p ≡ refused flow S L n p
refused_same flow S T L zero p g = refl
refused_same flow S T L (suc n) p g = refused_step flow S T L n p (refused_same flow S T L n) g

pub never_cons : {A : Type 0} (x : A) (xs : List A) → x ∷ xs ≡ [] → ⊥
never_cons x xs e = cc

-- nothing is refused of the parts of what nothing is refused of
pub none_first : {A : Type 0} (xs ys : List A) → xs ++ ys ≡ [] → xs ≡ []
none_first [] ys e = refl
none_first (x ∷ xs) ys e = absurd (never_cons x (xs ++ ys) e)

pub none_second : {A : Type 0} (xs ys : List A) → xs ++ ys ≡ [] → ys ≡ []
none_second [] ys e = e
none_second (x ∷ xs) ys e = absurd (never_cons x (xs ++ ys) e)

pub none_each : {A B : Type 0} (f : A → List B) (xs : List A) → flat_map f xs ≡ [] → AllByRecursion (λ x. f x ≡ []) xs
none_each f [] e = tt
none_each f (x ∷ xs) e = (none_first (f x) (flat_map f xs) e, none_each f xs (none_second (f x) (flat_map f xs) e))

-- what nothing is refused of is a path of which nothing is refused
want_fine : (b : Bool) (x : List Refusal) (p : Path) (rule : ℕ) (w : Text) → want_by b x (NoInput p rule w ∷ []) ≡ [] → (b ≡ true) × (x ≡ [])
want_fine true x p rule w e = (refl, e)
want_fine false x p rule w e = absurd (no (NoInput p rule w) e)
  where
    no : (r : Refusal) → r ∷ [] ≡ [] → ⊥
    no r q = cc

all_and : {A : Type 0} (P Q R : A → Type 0) → ((x : A) → P x → Q x → R x) → (xs : List A) → AllByRecursion P xs → AllByRecursion Q xs → AllByRecursion R xs
all_and P Q R more [] a b = tt
all_and P Q R more (x ∷ xs) a b = (more x a.0 b.0, all_and P Q R more xs a.1 b.1)

abbrev walk_by : (Candidate → List Candidate) → Option Candidate → List Candidate
walk_by f m = elim m as (λ _. List Candidate) [ None ↦ [] | Some c ↦ f c ]

walk_step : (flow : Flow) (S T : Sources) (L : Listings) (n : ℕ) (p : Path) → ((q : Path) → Good flow S T L (over n 199) q → refused flow S L (suc n) q ≡ [] → walk flow T L n q ≡ walk flow S L n q)
    → Good flow S T L (suc (over n 199)) p → refused flow S L (suc (suc n)) p ≡ [] → walk flow T L (suc n) p ≡ walk flow S L (suc n) p
walk_step flow S T L n p again g none =
    ap (λ ch. walk_by (λ c. flat_map (walk flow T L n) (wants flow L c) ++ c ∷ []) (maker ch)) (choose_same flow S T L p (good_less flow S T L n 199 p g))
    ∙ go (maker (choose flow S p)) refl
    (none_second (refused_at flow L p (choose flow S p)) (refused_by (λ c. flat_map (refused_want flow S L (suc n) p c) (wants flow L c)) (maker (choose flow S p))) none)
  where
    go : (m : Option Candidate) → maker (choose flow S p) ≡ m → refused_by (λ c. flat_map (refused_want flow S L (suc n) p c) (wants flow L c)) m ≡ []
        → walk_by (λ c. flat_map (walk flow T L n) (wants flow L c) ++ c ∷ []) m ≡ walk_by (λ c. flat_map (walk flow S L n) (wants flow L c) ++ c ∷ []) m
    go None e fine = refl
    go (Some c) e fine =
        ap (λ cs. cs ++ c ∷ [])
        (flat_same (walk flow T L n) (walk flow S L n) (wants flow L c)
        (all_and (λ (w : Text). is_path w ≡ true → Good flow S T L (over n 199) w) (λ w. refused_want flow S L (suc n) p c w ≡ []) (λ w. walk flow T L n w ≡ walk flow S L n w)
        (λ w h none. let f = want_fine (is_path w) (refused flow S L (suc n) w) p c.rule w none in again w (h f.0) f.1)
        (wants flow L c) (chosen_good flow S T L (over n 199) p c g e) (none_each (refused_want flow S L (suc n) p c) (wants flow L c) fine)))

-- the jobs that a path calls for, where nothing is refused of it
pub walk_same : (flow : Flow) (S T : Sources) (L : Listings) (n : ℕ) (p : Path) → Good flow S T L (over n 199) p → refused flow S L (suc n) p ≡ [] → walk flow T L n p ≡ walk flow S L n p
walk_same flow S T L zero p g none = refl
walk_same flow S T L (suc n) p g none = walk_step flow S T L n p (walk_same flow S T L n) g none

-- ## The reach

nearer_in : (flow : Flow) (S : Sources) (L : Listings) (targets : List Path) (d : ℕ) (p : Path) → IsIn (reach flow S L d targets) p → IsIn (reach flow S L (suc d) targets) p
nearer_in flow S L targets d p h =
    in_distinct (reach flow S L d targets ++ flat_map (next flow S L) (reach flow S L d targets)) p
    (in_first (reach flow S L d targets) (flat_map (next flow S L) (reach flow S L d targets)) p h)

next_in : (flow : Flow) (S : Sources) (L : Listings) (targets : List Path) (d : ℕ) (p w : Path) → IsIn (reach flow S L d targets) p → IsIn (next flow S L p) w → IsIn (reach flow S L (suc d) targets) w
next_in flow S L targets d p w h k =
    in_distinct (reach flow S L d targets ++ flat_map (next flow S L) (reach flow S L d targets)) w
    (in_second (reach flow S L d targets) (flat_map (next flow S L) (reach flow S L d targets)) w (in_flat (next flow S L) (reach flow S L d targets) p w h k))

further_in : (flow : Flow) (S : Sources) (L : Listings) (targets : List Path) (k d : ℕ) (p : Path) → IsIn (reach flow S L d targets) p → IsIn (reach flow S L (more k d) targets) p
further_in flow S L targets zero d p h = h
further_in flow S L targets (suc k) d p h = further_in flow S L targets k (suc d) p (nearer_in flow S L targets d p h)

wanted_next : (flow : Flow) (S : Sources) (L : Listings) (p w : Path) → S.is p ≡ false → IsIn (filter is_path (flat_map (wants flow L) (candidates flow S p))) w → IsIn (next flow S L p) w
wanted_next flow S L p w e h = subst (λ b. IsIn (if b then [] else filter is_path (flat_map (wants flow L) (candidates flow S p))) w) (sym e) h

good_at : (flow : Flow) (S T : Sources) (L : Listings) (targets : List Path) (k d : ℕ) (p : Path) → AllByRecursion (SameAround flow S T) (reach flow S L (more k d) targets)
    → IsIn (reach flow S L d targets) p → Good flow S T L k p
good_at flow S T L targets zero d p all h = (all_in (SameAround flow S T) (reach flow S L d targets) p all h).0.0
good_at flow S T L targets (suc k) d p all h = (
  all_in (SameAround flow S T) (reach flow S L (more k (suc d)) targets) p all (further_in flow S L targets k (suc d) p (nearer_in flow S L targets d p h)),
  λ e. all_of_each (Good flow S T L k) (filter is_path (flat_map (wants flow L) (candidates flow S p)))
      (λ w i. good_at flow S T L targets k (suc d) w all (next_in flow S L targets d p w h (wanted_next flow S L p w e i))),
)

pub targets_good : (flow : Flow) (S T : Sources) (L : Listings) (targets : List Path) → SameOnReach flow S L targets T → AllByRecursion (Good flow S T L 400) targets
targets_good flow S T L targets all =
    all_of_each (Good flow S T L 400) targets (λ p h. good_at flow S T L targets 400 0 p (subst (λ n. AllByRecursion (SameAround flow S T) (reach flow S L n targets)) levels all) (in_distinct targets p h))
  where
    levels : 400 ≡ more 400 0
    levels = refl

next_same : (flow : Flow) (S T : Sources) (L : Listings) (p : Path) → SameAround flow S T p → next flow T L p ≡ next flow S L p
next_same flow S T L p same = go (S.is p) refl
  where
    go : (b : Bool) → S.is p ≡ b → next flow T L p ≡ next flow S L p
    go true e =
        ap (λ b. if b then [] else filter is_path (flat_map (wants flow L) (candidates flow T p))) (same.0.0 ∙ e)
        ∙ sym (ap (λ b. if b then [] else filter is_path (flat_map (wants flow L) (candidates flow S p))) e)
    go false e =
        ap (λ b. if b then [] else filter is_path (flat_map (wants flow L) (candidates flow T p))) (same.0.0 ∙ e)
        ∙ ap (λ cs. filter is_path (flat_map (wants flow L) cs)) (candidates_same flow S T p same e)
        ∙ sym (ap (λ b. if b then [] else filter is_path (flat_map (wants flow L) (candidates flow S p))) e)

reach_at : (flow : Flow) (S T : Sources) (L : Listings) (targets : List Path) (k d : ℕ) → AllByRecursion (SameAround flow S T) (reach flow S L (more k d) targets)
    → reach flow T L d targets ≡ reach flow S L d targets → reach flow T L (more k d) targets ≡ reach flow S L (more k d) targets
reach_at flow S T L targets zero d all same = same
reach_at flow S T L targets (suc k) d all same =
    reach_at flow S T L targets k (suc d) all
    (ap (λ ps. distinct bytes_eq (ps ++ flat_map (next flow T L) ps)) same
    ∙ ap (λ qs. distinct bytes_eq (reach flow S L d targets ++ qs))
    (flat_same (next flow T L) (next flow S L) (reach flow S L d targets)
    (all_of_each (λ p. next flow T L p ≡ next flow S L p) (reach flow S L d targets)
    (λ p h. next_same flow S T L p (all_in (SameAround flow S T) (reach flow S L (more k (suc d)) targets) p all (further_in flow S L targets k (suc d) p (nearer_in flow S L targets d p h)))))))

reach_same : (flow : Flow) (S T : Sources) (L : Listings) (targets : List Path) → SameOnReach flow S L targets T → reach flow T L 400 targets ≡ reach flow S L 400 targets
reach_same flow S T L targets all = by 400 levels all
  where
    levels : 400 ≡ more 400 0
    levels = refl

    by : (n : ℕ) → n ≡ more 400 0 → AllByRecursion (SameAround flow S T) (reach flow S L n targets) → reach flow T L n targets ≡ reach flow S L n targets
    by n e each = subst (λ m. reach flow T L m targets ≡ reach flow S L m targets) (sym e)
        (reach_at flow S T L targets 400 0 (subst (λ m. AllByRecursion (SameAround flow S T) (reach flow S L m targets)) e each) refl)

-- ## Derivations

outcome_same : (a b c d : List Refusal) (js ks : List Job) → (b ≡ [] → (c ≡ d) × (js ≡ ks)) → outcome (a ++ (b ++ c)) js ≡ outcome (a ++ (b ++ d)) ks
outcome_same (r ∷ a) b c d js ks same = refl
outcome_same [] (r ∷ b) c d js ks same = refl
outcome_same [] [] c d js ks same = ap₂ outcome (same refl).0 (same refl).1

module _ (flow : Flow) (S T : Sources) (L : Listings) (targets : List Path) (all : AllByRecursion (Good flow S T L 400) targets) where
  deep_same : filter (λ p. height flow T L 201 p == 201) targets ≡ filter (λ p. height flow S L 201 p == 201) targets
  deep_same =
      filter_same (λ p. height flow T L 201 p == 201) (λ p. height flow S L 201 p == 201) targets
      (all_weaker (Good flow S T L 400) (λ p. (height flow T L 201 p == 201) ≡ (height flow S L 201 p == 201))
      (λ p g. ap (λ n. n == 201) (height_same flow S T L 201 p g)) targets all)

  pub all_refused_same : flat_map (refused flow T L 201) targets ≡ flat_map (refused flow S L 201) targets
  all_refused_same =
      flat_same (refused flow T L 201) (refused flow S L 201) targets
      (all_weaker (Good flow S T L 400) (λ p. refused flow T L 201 p ≡ refused flow S L 201 p) (refused_same flow S T L 201) targets all)

  pub jobs_same : flat_map (refused flow S L 201) targets ≡ [] → jobs flow T L targets ≡ jobs flow S L targets
  jobs_same none =
      ap (λ cs. map (job flow L) (distinct same_candidate cs))
      (flat_same (walk flow T L 200) (walk flow S L 200) targets
      (all_and (Good flow S T L 400) (λ p. refused flow S L 201 p ≡ []) (λ p. walk flow T L 200 p ≡ walk flow S L 200 p)
      (λ p g fine. walk_same flow S T L 200 p (good_step flow S T L 399 p g) fine)
      targets all (none_each (refused flow S L 201) targets none)))

  -- the derivation, but for the number of paths
  pub derived_same : (image : Image) → outcome (job_refusals flow T image L targets) (jobs flow T L targets) ≡ outcome (job_refusals flow S image L targets) (jobs flow S L targets)
  derived_same image =
      ap₂ (λ ps rs. outcome (map Deep ps ++ (rs ++ clashes image [] (flat_map spots (jobs flow T L targets)))) (jobs flow T L targets)) deep_same all_refused_same
      ∙ outcome_same (map Deep (filter (λ p. height flow S L 201 p == 201) targets)) (flat_map (refused flow S L 201) targets)
      (clashes image [] (flat_map spots (jobs flow T L targets))) (clashes image [] (flat_map spots (jobs flow S L targets))) (jobs flow T L targets) (jobs flow S L targets)
      (λ none. (ap (λ js. clashes image [] (flat_map spots js)) (jobs_same none), jobs_same none))

-- what tells the same on the reach suffices, where the reach isn't too large
pub suffices : (flow : Flow) (S T : Sources) (L : Listings) (targets : List Path) → SameOnReach flow S L targets T → IsSmall flow S L targets → Suffices flow S L targets T
suffices flow S T L targets same small =
    record {
      few = small;
      same = same;
      same_reach = reach_same flow S T L targets same;
      same_derivation = derived_same flow S T L targets (targets_good flow S T L targets same);
    }
