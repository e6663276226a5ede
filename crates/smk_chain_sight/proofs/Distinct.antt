-- Lists of paths in which each stands once, where it comes first.
use Rattle.std.proofs.Common.{◌≡◌, inl, inr, ◌≤◌, Bool, true, false, ◌&&◌, ◌||◌, not, cond, List, [], ◌∷◌, ◌++◌, filter, length, take, refl, sym, ap, ap₂, ◌∙◌, arith, bytes_eq, append_assoc, append-nil, length-append}
use Rattle.std.specs.List.{AllByRecursion}
use Rattle.smk_base.proofs.Places.{same_place, place_itself, same_flipped}
use Rattle.smk_base.proofs.Under.{never_both, or_cases, or_first, or_second}
use Rattle.smk_world.specs.World.{is_named}
use Rattle.smk_world.specs.Trees.{Path}
use Rattle.smk_chain.specs.Derive.{distinct}

abbrev pub once : List Path → List Path
once = distinct bytes_eq

-- the path, unless it is there
abbrev pub with_one : Bool → List Path → Path → List Path
with_one there xs y = cond there xs (xs ++ y ∷ [])

-- those that aren't there, one after another
abbrev pub added : List Path → List Path → List Path
added xs [] = xs
added xs (y ∷ ys) = added (with_one (is_named y xs) xs y) ys

pub added-append : (xs ys zs : List Path) → added xs (ys ++ zs) ≡ added (added xs ys) zs
added-append xs [] zs = refl
added-append xs (y ∷ ys) zs = added-append (with_one (is_named y xs) xs y) ys zs

-- ## It is the same

pub named_push : (z x : Path) (xs : List Path) → is_named z (xs ++ x ∷ []) ≡ (is_named z xs || bytes_eq z x)
named_push z x [] = go (bytes_eq z x)
  where
    go : (b : Bool) → (b || false) ≡ (false || b)
    go true = refl
    go false = refl
named_push z x (y ∷ xs) = ap (λ b. bytes_eq z y || b) (named_push z x xs) ∙ go (bytes_eq z y) (is_named z xs) (bytes_eq z x)
  where
    go : (a b c : Bool) → (a || (b || c)) ≡ ((a || b) || c)
    go true b c = refl
    go false b c = refl

filter_same : (p q : Path → Bool) (zs : List Path) → ((z : Path) → p z ≡ q z) → filter p zs ≡ filter q zs
filter_same p q [] same = refl
filter_same p q (z ∷ zs) same = ap₂ (λ b ys. cond b (z ∷ ys) ys) (same z) (filter_same p q zs same)

filter_both : (p q : Path → Bool) (zs : List Path) → filter p (filter q zs) ≡ filter (λ z. q z && p z) zs
filter_both p q [] = refl
filter_both p q (z ∷ zs) = go (q z) (filter_both p q zs)
  where
    go : (b : Bool) → filter p (filter q zs) ≡ filter (λ y. q y && p y) zs
        → filter p (cond b (z ∷ filter q zs) (filter q zs)) ≡ cond (b && p z) (z ∷ filter (λ y. q y && p y) zs) (filter (λ y. q y && p y) zs)
    go true more = ap (λ ys. cond (p z) (z ∷ ys) ys) more
    go false more = more

filter_all : (zs : List Path) → filter (λ z. true) zs ≡ zs
filter_all [] = refl
filter_all (z ∷ zs) = ap (λ ys. z ∷ ys) (filter_all zs)

abbrev rest_of : List Path → List Path → List Path
rest_of xs ys = filter (λ z. not (is_named z xs)) (once ys)

is_step : (xs : List Path) (y : Path) (ys : List Path) → ((zs : List Path) → added zs ys ≡ zs ++ rest_of zs ys) → added xs (y ∷ ys) ≡ xs ++ rest_of xs (y ∷ ys)
is_step xs y ys again = go (is_named y xs) refl
  where
    there : is_named y xs ≡ true → (z : Path) → (not (bytes_eq y z) && not (is_named z xs)) ≡ not (is_named z xs)
    there e z = by (bytes_eq y z) refl
      where
        by : (b : Bool) → bytes_eq y z ≡ b → (not b && not (is_named z xs)) ≡ not (is_named z xs)
        by true f = sym (ap (λ t. not (is_named t xs)) (sym (same_place y z f)) ∙ ap not e)
        by false f = refl

    fresh : (z : Path) → (not (bytes_eq y z) && not (is_named z xs)) ≡ not (is_named z (xs ++ y ∷ []))
    fresh z = swap (bytes_eq y z) (is_named z xs) ∙ ap (λ b. not (is_named z xs || b)) (same_flipped y z) ∙ ap not (sym (named_push z y xs))
      where
        swap : (a b : Bool) → (not a && not b) ≡ not (b || a)
        swap true true = refl
        swap true false = refl
        swap false true = refl
        swap false false = refl

    go : (b : Bool) → is_named y xs ≡ b → added (with_one b xs y) ys ≡ xs ++ cond (not b) (y ∷ filter (λ z. not (is_named z xs)) (filter (λ z. not (bytes_eq y z)) (once ys))) (filter (λ z. not (is_named z xs)) (filter (λ z. not (bytes_eq y z)) (once ys)))
    go true e =
        again xs
        ∙ ap (λ rest. xs ++ rest) (sym (filter_both (λ z. not (is_named z xs)) (λ z. not (bytes_eq y z)) (once ys) ∙ filter_same (λ z. not (bytes_eq y z) && not (is_named z xs)) (λ z. not (is_named z xs)) (once ys) (there e)))
    go false e =
        again (xs ++ y ∷ [])
        ∙ append_assoc xs (y ∷ []) (rest_of (xs ++ y ∷ []) ys)
        ∙ ap (λ rest. xs ++ (y ∷ rest)) (sym (filter_both (λ z. not (is_named z xs)) (λ z. not (bytes_eq y z)) (once ys) ∙ filter_same (λ z. not (bytes_eq y z) && not (is_named z xs)) (λ z. not (is_named z (xs ++ y ∷ []))) (once ys) fresh))

-- what is added to these is what isn't among them
added_is : (xs ys : List Path) → added xs ys ≡ xs ++ rest_of xs ys
added_is xs [] = sym (append-nil xs)
added_is xs (y ∷ ys) = is_step xs y ys (λ zs. added_is zs ys)

pub once_added : (ys : List Path) → once ys ≡ added [] ys
once_added ys = sym (added_is [] ys ∙ filter_all (once ys))

-- ## Each once

abbrev IsOnce : List Path → Type 0
IsOnce [] = Unit {0}
IsOnce (x ∷ xs) = (is_named x xs ≡ false) × IsOnce xs

not_filtered : (p : Path → Bool) (x : Path) (xs : List Path) → is_named x xs ≡ false → is_named x (filter p xs) ≡ false
not_filtered p x [] h = refl
not_filtered p x (y ∷ xs) h = go (p y) (first (bytes_eq x y) (is_named x xs) h) (not_filtered p x xs (second (bytes_eq x y) (is_named x xs) h))
  where
    first : (a b : Bool) → (a || b) ≡ false → a ≡ false
    first true b e = e
    first false b e = refl

    second : (a b : Bool) → (a || b) ≡ false → b ≡ false
    second true b e = absurd (never_both true refl e)
    second false b e = e

    go : (b : Bool) → bytes_eq x y ≡ false → is_named x (filter p xs) ≡ false → is_named x (cond b (y ∷ filter p xs) (filter p xs)) ≡ false
    go true e more = ap (λ c. c || is_named x (filter p xs)) e ∙ more
    go false e more = more

once_filtered : (p : Path → Bool) (xs : List Path) → IsOnce xs → IsOnce (filter p xs)
once_filtered p [] h = tt
once_filtered p (x ∷ xs) h = go (p x) (once_filtered p xs h.1)
  where
    go : (b : Bool) → IsOnce (filter p xs) → IsOnce (cond b (x ∷ filter p xs) (filter p xs))
    go true more = (not_filtered p x xs h.0, more)
    go false more = more

not_itself : (x : Path) (xs : List Path) → is_named x (filter (λ z. not (bytes_eq x z)) xs) ≡ false
not_itself x [] = refl
not_itself x (y ∷ xs) = go (bytes_eq x y) refl (not_itself x xs)
  where
    go : (b : Bool) → bytes_eq x y ≡ b → is_named x (filter (λ z. not (bytes_eq x z)) xs) ≡ false
        → is_named x (cond (not b) (y ∷ filter (λ z. not (bytes_eq x z)) xs) (filter (λ z. not (bytes_eq x z)) xs)) ≡ false
    go true e more = more
    go false e more = ap (λ c. c || is_named x (filter (λ z. not (bytes_eq x z)) xs)) e ∙ more

is_once : (xs : List Path) → IsOnce (once xs)
is_once [] = tt
is_once (x ∷ xs) = (not_itself x (once xs), once_filtered (λ z. not (bytes_eq x z)) (once xs) (is_once xs))

none_out : (x : Path) (xs : List Path) → is_named x xs ≡ false → filter (λ z. not (bytes_eq x z)) xs ≡ xs
none_out x [] h = refl
none_out x (y ∷ xs) h = go (bytes_eq x y) h (λ k. none_out x xs k)
  where
    go : (b : Bool) → (b || is_named x xs) ≡ false → (is_named x xs ≡ false → filter (λ z. not (bytes_eq x z)) xs ≡ xs)
        → cond (not b) (y ∷ filter (λ z. not (bytes_eq x z)) xs) (filter (λ z. not (bytes_eq x z)) xs) ≡ y ∷ xs
    go true e more = absurd (never_both true refl e)
    go false e more = ap (λ ys. y ∷ ys) (more e)

once_stays : (xs : List Path) → IsOnce xs → once xs ≡ xs
once_stays [] h = refl
once_stays (x ∷ xs) h = ap (λ ys. x ∷ filter (λ z. not (bytes_eq x z)) ys) (once_stays xs h.1) ∙ ap (λ ys. x ∷ ys) (none_out x xs h.0)

pub once_again : (xs : List Path) → once (once xs) ≡ once xs
once_again xs = once_stays (once xs) (is_once xs)

-- ## Adding

pub once_more : (xs ys : List Path) → once (xs ++ ys) ≡ added (once xs) ys
once_more xs ys = once_added (xs ++ ys) ∙ added-append [] xs ys ∙ ap (λ zs. added zs ys) (sym (once_added xs))

-- to what stands once
pub once_on : (xs ys : List Path) → once xs ≡ xs → once (xs ++ ys) ≡ added xs ys
once_on xs ys e = once_more xs ys ∙ ap (λ zs. added zs ys) e

pub once_twice : (xs ys : List Path) → once (once xs ++ ys) ≡ once (xs ++ ys)
once_twice xs ys = once_on (once xs) ys (once_again xs) ∙ sym (once_more xs ys)

-- step by step
pub then_added : (init now new ys zs : List Path) → now ≡ once (init ++ ys) → new ≡ once (now ++ zs) → new ≡ once (init ++ (ys ++ zs))
then_added init now new ys zs e f =
    f ∙ ap (λ xs. once (xs ++ zs)) e ∙ once_twice (init ++ ys) zs ∙ ap once (append_assoc init ys zs)

pub nothing_added : (init now : List Path) → once init ≡ init → now ≡ init → now ≡ once (init ++ [])
nothing_added init now e same = same ∙ sym (ap once (append-nil init) ∙ e)

-- a path that is there, and one that isn't
pub there_already : (xs : List Path) (x : Path) → once xs ≡ xs → is_named x xs ≡ true → xs ≡ once (xs ++ x ∷ [])
there_already xs x e h = sym (once_on xs (x ∷ []) e ∙ ap (λ b. with_one b xs x) h)

pub not_there : (xs : List Path) (x : Path) → once xs ≡ xs → is_named x xs ≡ false → xs ++ x ∷ [] ≡ once (xs ++ x ∷ [])
not_there xs x e h = sym (once_on xs (x ∷ []) e ∙ ap (λ b. with_one b xs x) h)

-- what was there stands first
pub record Longer (xs ys : List Path) : Type 0 where
  pub more : List Path
  pub is : ys ≡ xs ++ more

pub longer_then : (xs ys zs : List Path) → Longer xs ys → Longer ys zs → Longer xs zs
longer_then xs ys zs a b = record { more = a.more ++ b.more; is = b.is ∙ ap (λ t. t ++ b.more) a.is ∙ append_assoc xs a.more b.more }

pub longer_same : (xs : List Path) → Longer xs xs
longer_same xs = record { more = []; is = sym (append-nil xs) }

pub added_longer : (xs ys : List Path) → Longer xs (added xs ys)
added_longer xs [] = longer_same xs
added_longer xs (y ∷ ys) = longer_then xs (with_one (is_named y xs) xs y) (added (with_one (is_named y xs) xs y) ys) (go (is_named y xs)) (added_longer (with_one (is_named y xs) xs y) ys)
  where
    go : (b : Bool) → Longer xs (with_one b xs y)
    go true = longer_same xs
    go false = record { more = y ∷ []; is = refl }

pub longer_length : (xs ys : List Path) → Longer xs ys → length xs ≤ length ys
longer_length xs ys l = omega (arith, ap length l.is, length-append xs l.more)

pub longer_take : (xs ys : List Path) → Longer xs ys → take (length xs) ys ≡ xs
longer_take xs ys l = ap (take (length xs)) l.is ∙ go xs
  where
    go : (zs : List Path) → take (length zs) (zs ++ l.more) ≡ zs
    go [] = refl
    go (z ∷ zs) = ap (λ t. z ∷ t) (go zs)

pub longer_by_none : (xs ys : List Path) → Longer xs ys → length ys ≤ length xs → ys ≡ xs
longer_by_none xs ys l h = go l.more l.is (omega (arith, h, ap length l.is, length-append xs l.more))
  where
    go : (more : List Path) → ys ≡ xs ++ more → length more ≤ 0 → ys ≡ xs
    go [] e le = e ∙ append-nil xs
    go (m ∷ more) e le = absurd (omega (arith, le))

-- what is added is there
named_first : (z : Path) (xs ys : List Path) → is_named z xs ≡ true → is_named z (xs ++ ys) ≡ true
named_first z [] ys h = absurd (never_both false h refl)
named_first z (x ∷ xs) ys h =
    elim (or_cases (bytes_eq z x) (is_named z xs) h) [
      | inl here ↦ or_first (bytes_eq z x) (is_named z (xs ++ ys)) here
      | inr there ↦ or_second (bytes_eq z x) (is_named z (xs ++ ys)) (named_first z xs ys there)
    ]

named_longer : (z : Path) (xs ys : List Path) → Longer xs ys → is_named z xs ≡ true → is_named z ys ≡ true
named_longer z xs ys l h = ap (is_named z) l.is ∙ named_first z xs l.more h

with_named : (xs : List Path) (y : Path) (b : Bool) → is_named y xs ≡ b → is_named y (with_one b xs y) ≡ true
with_named xs y true e = e
with_named xs y false e = named_push y y xs ∙ or_second (is_named y xs) (bytes_eq y y) (place_itself y)

added_named : (xs ys : List Path) → AllByRecursion (λ z. is_named z (added xs ys) ≡ true) ys
added_named xs [] = tt
added_named xs (y ∷ ys) =
    let now = with_one (is_named y xs) xs y in
    (named_longer y now (added now ys) (added_longer now ys) (with_named xs y (is_named y xs) refl), added_named now ys)

pub added_known : (xs ys : List Path) → AllByRecursion (λ z. is_named z xs ≡ true) ys → added xs ys ≡ xs
added_known xs [] all = refl
added_known xs (y ∷ ys) all = ap (λ b. added (with_one b xs y) ys) all.0 ∙ added_known xs ys all.1

-- twice the same
pub added_twice : (xs ys : List Path) → added (added xs ys) ys ≡ added xs ys
added_twice xs ys = added_known (added xs ys) ys (added_named xs ys)
