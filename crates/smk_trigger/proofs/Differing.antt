-- Inputs with other stamps than the recorded ones.
use Rattle.std.proofs.Common.{◌≡◌, ℕ, suc, ◌+◌, ◌<◌, length, get_or, drop, add-one, append_assoc, Bool, true, false, cond, ◌&&◌, ◌||◌, not, List, [], ◌∷◌, ◌++◌, map, Option, Some, None, refl, sym, ap, ◌∙◌, bytes_eq}
use Rattle.std.specs.Prelude.{if◌then◌else◌}
use Rattle.std.specs.List.{list_any, filter, zip}
use Rattle.std.proofs.lemmas.List.Folds.{list_any-append}
use Rattle.std.proofs.Math.Seq.{drop-cons}
use Rattle.smk_base.proofs.Places.{same_place}
use Rattle.smk_world.specs.Trees.{Path}
use Rattle.smk_record.specs.declared.record.Stamp.{Stamp}
use Rattle.smk_record.specs.Records.{agree}
use Rattle.smk_trigger.specs.declared.reason.Reason.{Reason}
use Rattle.smk_trigger.specs.declared.reason.Reason.TheVariants.{Updated}
use Rattle.smk_trigger.specs.declared.updates.Recorded.{Recorded}
use Rattle.smk_trigger.specs.declared.updates.Recorded.TheVariants.{One, Several}
use Rattle.smk_trigger.specs.Reasons.{is_updated, once}
use Rattle.smk_trigger.specs.Updates.{joined, differs, disagrees, is_other, update_of, updates_in}

-- ## One more stamp

abbrev other_than : Stamp → Stamp → Bool
other_than now s = not (agree s now)

or_none : (b : Bool) → (b || false) ≡ b
or_none true = refl
or_none false = refl

pub joined_differs : (o : Option Recorded) (s now : Stamp) → differs (Some (joined o s)) now ≡ (differs o now || not (agree s now))
joined_differs None s now = refl
joined_differs (Some (One t)) s now = ap (λ b. other_than now t || b) (or_none (other_than now s))
joined_differs (Some (Several ss)) s now = list_any-append (other_than now) ss (s ∷ []) ∙ ap (λ b. list_any (other_than now) ss || b) (or_none (other_than now s))

-- ## Each path once

either_test : {A : Type 0} (a b : A → Bool) (xs : List A) → filter a (filter b xs) ≡ filter (λ x. b x && a x) xs
either_test a b [] = refl
either_test a b (x ∷ xs) = go (b x) (either_test a b xs)
  where
    go : (v : Bool) → filter a (filter b xs) ≡ filter (λ x. b x && a x) xs
        → filter a (cond v (x ∷ filter b xs) (filter b xs)) ≡ cond (v && a x) (x ∷ filter (λ x. b x && a x) xs) (filter (λ x. b x && a x) xs)
    go true e = ap (λ l. cond (a x) (x ∷ l) l) e
    go false e = e

abbrev Input : Type 0
Input = Path × Option Stamp

abbrev is_by : (Path → Option Recorded) → Input → Bool
is_by f e = disagrees (f e.0) e.1

abbrev without : Path → (Path → Option Recorded) → Path → Option Recorded
without q f p = if bytes_eq q p then None else f p

nothing_disagrees : (now : Option Stamp) → disagrees None now ≡ false
nothing_disagrees None = refl
nothing_disagrees (Some s) = refl

without_by : (q : Path) (f : Path → Option Recorded) (e : Input) → is_by (without q f) e ≡ (not (bytes_eq q e.0) && is_by f e)
without_by q f e = go (bytes_eq q e.0)
  where
    go : (b : Bool) → disagrees (if b then None else f e.0) e.1 ≡ (not b && disagrees (f e.0) e.1)
    go true = nothing_disagrees e.1
    go false = refl

filter_by : (a b : Input → Bool) → ((e : Input) → a e ≡ b e) → (xs : List Input) → filter a xs ≡ filter b xs
filter_by a b same xs = λ i. filter (λ e. same e i) xs

abbrev told : Input → Reason
told e = Updated e.0

pub updates_are : (es : List Input) (f : Path → Option Recorded) → updates_in f es ≡ map told (filter (is_by f) (once es))
updates_are [] f = refl
updates_are (e ∷ es) f =
    ap (λ l. update_of (f e.0) e.0 e.1 ++ l)
    (updates_are es (without e.0 f)
    ∙ ap (map told) (filter_by (is_by (without e.0 f)) (λ d. not (bytes_eq e.0 d.0) && is_by f d) (without_by e.0 f) (once es) ∙ sym (either_test (is_by f) (λ d. not (bytes_eq e.0 d.0)) (once es))))
    ∙ go (is_by f e) (filter (is_by f) (filter (λ (d : Input). not (bytes_eq e.0 d.0)) (once es)))
  where
    go : (b : Bool) (rest : List Input) → (if b then Updated e.0 ∷ [] else []) ++ map told rest ≡ map told (cond b (e ∷ rest) rest)
    go true rest = refl
    go false rest = refl

-- ## By the recorded ones

pub updates_by : (recorded : List (Path × Stamp)) (f : Path → Option Recorded) → ((q : Path) (now : Stamp) → differs (f q) now ≡ list_any (is_other q now) recorded)
    → (es : List Input) → updates_in f es ≡ map told (filter (is_updated recorded) (once es))
updates_by recorded f same es = updates_are es f ∙ ap (map told) (filter_by (is_by f) (is_updated recorded) (λ e. at e.0 e.1) (once es))
  where
    at : (q : Path) (now : Option Stamp) → disagrees (f q) now ≡ is_updated recorded (q, now)
    at q None = refl
    at q (Some now) = same q now

pub updates_told : (recorded : List (Path × Stamp)) (f : Path → Option Recorded) → ((q : Path) (now : Stamp) → differs (f q) now ≡ list_any (is_other q now) recorded)
    → (paths inputs : List Path) (stamps : List (Option Stamp)) → paths ≡ inputs → updates_in f (zip paths stamps) ≡ map told (filter (is_updated recorded) (once (zip inputs stamps)))
updates_told recorded f same paths inputs stamps e = updates_by recorded f same (zip paths stamps) ∙ ap (λ ps. map told (filter (is_updated recorded) (once (zip ps stamps)))) e

-- ## One step

if_cond : {A : Type 0} (b : Bool) (s t : A) → cond b s t ≡ if b then s else t
if_cond true s t = refl
if_cond false s t = refl

pub one_taken : (key path q : Path) (o : Option Recorded) → key ≡ path → cond (bytes_eq key q) None o ≡ if bytes_eq path q then None else o
one_taken key path q o same = if_cond (bytes_eq key q) None o ∙ ap (λ p. if bytes_eq p q then None else o) same

added_there : (b : Bool) (j : Recorded) (o : Option Recorded) (s now : Stamp) → (b ≡ true → differs (Some j) now ≡ (differs o now || not (agree s now)))
    → differs (cond b (Some j) o) now ≡ (differs o now || (b && not (agree s now)))
added_there true j o s now here = here refl
added_there false j o s now here = sym (or_none (differs o now))

taken_back : (b : Bool) (j : Recorded) (o : Option Recorded) → cond b (Some j) (if b then None else o) ≡ cond b (Some j) o
taken_back true j o = refl
taken_back false j o = refl

-- what was recorded of the path is taken out, and put back with one more stamp
pub put_back : (f h g : Path → Option Recorded) (path key : Path) (j : Recorded) → key ≡ path → ((q : Path) → h q ≡ if bytes_eq path q then None else f q)
    → ((q : Path) → g q ≡ cond (bytes_eq key q) (Some j) (h q)) → (q : Path) → g q ≡ cond (bytes_eq key q) (Some j) (f q)
put_back f h g path key j same left new q =
    new q ∙ ap (cond (bytes_eq key q) (Some j)) (left q ∙ ap (λ p. if bytes_eq p q then None else f q) (sym same)) ∙ taken_back (bytes_eq key q) j (f q)

pub one_added : (f g : Path → Option Recorded) (path key : Path) (s : Stamp) (o : Option Recorded) (j : Recorded) → key ≡ path → o ≡ f path → j ≡ joined o s
    → ((q : Path) → g q ≡ cond (bytes_eq key q) (Some j) (f q)) → (q : Path) (now : Stamp) → differs (g q) now ≡ (differs (f q) now || is_other q now (path, s))
one_added f g path key s o j same is joins new q now =
    ap (λ x. differs x now) (new q ∙ ap (λ k. cond (bytes_eq k q) (Some j) (f q)) same)
    ∙ added_there (bytes_eq path q) j (f q) s now
    (λ e. ap (λ x. differs (Some x) now) (joins ∙ ap (λ x. joined x s) (is ∙ ap f (same_place path q e))) ∙ joined_differs (f q) s now)

pub one_update : (f g : Path → Option Recorded) (found new : List Reason) (paths : List Path) (stamps : List (Option Stamp)) (i : ℕ) (p : Path) (now : Option Stamp) (o : Option Recorded)
    → i < length paths → p ≡ get_or paths i p → i < length stamps → now ≡ get_or stamps i now → o ≡ f p → ((q : Path) → g q ≡ if bytes_eq p q then None else f q)
    → new ≡ found ++ update_of o p now → (whole : List Reason) → found ++ updates_in f (zip (drop i paths) (drop i stamps)) ≡ whole
    → new ++ updates_in g (zip (drop (i + 1) paths) (drop (i + 1) stamps)) ≡ whole
one_update f g found new paths stamps i p now o lt is_p lt' is_now is_o left made whole before =
    let next : zip (drop i paths) (drop i stamps) ≡ (p, now) ∷ zip (drop (suc i) paths) (drop (suc i) stamps) =
    ap (λ l. zip l (drop i stamps)) (drop-cons paths i p lt ∙ ap (λ x. x ∷ drop (suc i) paths) (sym is_p)) ∙ ap (zip (p ∷ drop (suc i) paths)) (drop-cons stamps i now lt' ∙ ap (λ x. x ∷ drop (suc i) stamps) (sym is_now)) in
    ap (λ n. new ++ updates_in g (zip (drop n paths) (drop n stamps))) (add-one i)
    ∙ ap (λ h. new ++ updates_in h (zip (drop (suc i) paths) (drop (suc i) stamps))) (λ j. λ q. left q j)
    ∙ ap (λ l. l ++ updates_in (without p f) (zip (drop (suc i) paths) (drop (suc i) stamps))) (made ∙ ap (λ x. found ++ update_of x p now) is_o)
    ∙ append_assoc found (update_of (f p) p now) (updates_in (without p f) (zip (drop (suc i) paths) (drop (suc i) stamps)))
    ∙ ap (λ l. found ++ updates_in f l) (sym next) ∙ before

or_assoc : (a b c : Bool) → ((a || b) || c) ≡ (a || (b || c))
or_assoc true b c = refl
or_assoc false b c = refl

-- of the next input a stamp is added
pub one_recorded : (f g : Path → Option Recorded) (paths : List Path) (stamps : List Stamp) (i : ℕ) (p : Path) (s : Stamp)
    → i < length paths → p ≡ get_or paths i p → i < length stamps → s ≡ get_or stamps i s
    → ((q : Path) (now : Stamp) → differs (g q) now ≡ (differs (f q) now || is_other q now (p, s))) → (whole : List (Path × Stamp))
    → ((q : Path) (now : Stamp) → (differs (f q) now || list_any (is_other q now) (zip (drop i paths) (drop i stamps))) ≡ list_any (is_other q now) whole)
    → (q : Path) (now : Stamp) → (differs (g q) now || list_any (is_other q now) (zip (drop (i + 1) paths) (drop (i + 1) stamps))) ≡ list_any (is_other q now) whole
one_recorded f g paths stamps i p s lt is_p lt' is_s added whole before q now =
    let next : zip (drop i paths) (drop i stamps) ≡ (p, s) ∷ zip (drop (suc i) paths) (drop (suc i) stamps) =
    ap (λ l. zip l (drop i stamps)) (drop-cons paths i p lt ∙ ap (λ x. x ∷ drop (suc i) paths) (sym is_p)) ∙ ap (zip (p ∷ drop (suc i) paths)) (drop-cons stamps i s lt' ∙ ap (λ x. x ∷ drop (suc i) stamps) (sym is_s)) in
    ap (λ n. differs (g q) now || list_any (is_other q now) (zip (drop n paths) (drop n stamps))) (add-one i)
    ∙ ap (λ b. b || list_any (is_other q now) (zip (drop (suc i) paths) (drop (suc i) stamps))) (added q now)
    ∙ or_assoc (differs (f q) now) (is_other q now (p, s)) (list_any (is_other q now) (zip (drop (suc i) paths) (drop (suc i) stamps)))
    ∙ ap (λ l. differs (f q) now || list_any (is_other q now) l) (sym next) ∙ before q now
