-- The binding of a path has each name once, so by name it rises.
use Rattle.std.proofs.Common.{◌≡◌, ◌∙◌, ℕ, Bool, true, false, cond, not, ◌&&◌, ◌||◌, eqb-true, eq-eqb, ltb-false, lt-ltb, Less, Equal, Greater, List, [], ◌∷◌, map, filter, Option, Some, None, option_map, refl, sym, ap, arith, bytes_eq, true≢false, ◌<◌, ◌≤◌, ◌==◌}
use Rattle.std.specs.Prelude.{nat_lt}
use Rattle.std.proofs.lemmas.Bool.{eqb-false}
use Rattle.std.specs.Ordering.{nat_cmp, ordering_then}
use Rattle.std.specs.Cmp.Lexicographic.{slice_cmp}
use Rattle.std.specs.List.{AllByRecursion}
use Rattle.smk_base.specs.declared.tree.Pair.{Pair}
use Rattle.smk_base.proofs.Places.{and_first, and_second, same_flipped}
use Rattle.smk_base.proofs.Under.{both_true, or_second}
use Rattle.smk_record.specs.Records.{are_rising, is_less}
use Rattle.smk_pattern.specs.Shapes.{Text, Wildcard}
use Rattle.smk_pattern.specs.Grammar.{Piece, plain, hole, limit_for, inline_limits}
use Rattle.smk_pattern.specs.Reading.{pieces, names_in, shape_of, is_below, put, by_name}
use Rattle.smk_pattern.specs.Fitting.{bound_pairs}
use Rattle.smk_pattern.specs.Bound.{bound, binding_of}
use Rattle.smk_chain_derive.proofs.Lists.{OnSome}
use Rattle.smk_choose.proofs.Listed.{all_filter}

-- ## Byte order

pub below_less : (a b : Text) → is_below a b ≡ true → is_less (slice_cmp nat_cmp a b) ≡ true
below_less [] [] h = h
below_less [] (c ∷ b) h = refl
below_less (x ∷ a) [] h = h
below_less (x ∷ a) (y ∷ b) h = go (nat_lt x y) (x == y) (below_less a b) h
  where
    go : (l e : Bool) → (is_below a b ≡ true → is_less (slice_cmp nat_cmp a b) ≡ true) → (l || (e && is_below a b)) ≡ true →
        is_less (ordering_then (cond l Less (cond e Equal Greater)) (slice_cmp nat_cmp a b)) ≡ true
    go true e more k = refl
    go false true more k = more k
    go false false more k = k

turned_lt : (x y : ℕ) → nat_lt x y ≡ false → (x ≡ y → ⊥) → nat_lt y x ≡ true
turned_lt x y l d = lt-ltb y x (above (ltb-false x y l))
  where
    strict : y ≤ x → (y < x → ⊥) → x ≡ y
    strict h k = omega (arith, h, k)

    above : y ≤ x → y < x
    above h = omega (arith, h, d)

-- of two names that differ one is below the other
below_other : (a b : Text) → is_below a b ≡ false → bytes_eq a b ≡ false → is_below b a ≡ true
below_other [] [] h d = absurd (true≢false d)
below_other [] (c ∷ b) h d = absurd (true≢false h)
below_other (x ∷ a) [] h d = refl
below_other (x ∷ a) (y ∷ b) h d = go (nat_lt x y) (x == y) refl refl (below_other a b) h d
  where
    go : (l e : Bool) → nat_lt x y ≡ l → (x == y) ≡ e → (is_below a b ≡ false → bytes_eq a b ≡ false → is_below b a ≡ true) → (l || (e && is_below a b)) ≡ false → (e && bytes_eq a b) ≡ false →
        is_below (y ∷ b) (x ∷ a) ≡ true
    go true e p q more k f = absurd (true≢false k)
    go false true p q more k f =
        or_second (nat_lt y x) ((y == x) && is_below b a) (both_true (y == x) (is_below b a) (eq-eqb y x (sym (eqb-true x y q))) (more k f))
    go false false p q more k f = ap (λ v. v || ((y == x) && is_below b a)) (turned_lt x y p (eqb-false x y q))

-- ## Names that rise

abbrev pub names : List Pair → List Text
names bs = map (λ (p : Pair). p.name) bs

-- the first of these is above the text
abbrev Heads : Text → List Text → Type 0
Heads o [] = Unit {0}
Heads o (q ∷ qs) = is_less (slice_cmp nat_cmp o q) ≡ true

rising_cons : (o : Text) (qs : List Text) → Heads o qs → are_rising qs ≡ true → are_rising (o ∷ qs) ≡ true
rising_cons o [] h r = refl
rising_cons o (q ∷ qs) h r = both_true (is_less (slice_cmp nat_cmp o q)) (are_rising (q ∷ qs)) h r

rising_heads : (o : Text) (qs : List Text) → are_rising (o ∷ qs) ≡ true → Heads o qs
rising_heads o [] r = tt
rising_heads o (q ∷ qs) r = and_first (is_less (slice_cmp nat_cmp o q)) (are_rising (q ∷ qs)) r

rising_rest : (o : Text) (qs : List Text) → are_rising (o ∷ qs) ≡ true → are_rising qs ≡ true
rising_rest o [] r = refl
rising_rest o (q ∷ qs) r = and_second (is_less (slice_cmp nat_cmp o q)) (are_rising (q ∷ qs)) r

heads_put : (o : Text) (p : Pair) (bs : List Pair) → is_less (slice_cmp nat_cmp o p.name) ≡ true → Heads o (names bs) → Heads o (names (put p bs))
heads_put o p [] h k = h
heads_put o p (q ∷ bs) h k = go (is_below p.name q.name)
  where
    go : (b : Bool) → Heads o (names (cond b (p ∷ q ∷ bs) (q ∷ put p bs)))
    go true = h
    go false = k

-- the pair's name is another than theirs
abbrev Differs : Text → Pair → Type 0
Differs name q = bytes_eq name q.name ≡ false

put_rising : (p : Pair) (bs : List Pair) → AllByRecursion (Differs p.name) bs → are_rising (names bs) ≡ true → are_rising (names (put p bs)) ≡ true
put_rising p [] d r = refl
put_rising p (q ∷ bs) d r = go (is_below p.name q.name) refl (put_rising p bs d.1 (rising_rest q.name (names bs) r))
  where
    go : (b : Bool) → is_below p.name q.name ≡ b → are_rising (names (put p bs)) ≡ true → are_rising (names (cond b (p ∷ q ∷ bs) (q ∷ put p bs))) ≡ true
    go true e more = both_true (is_less (slice_cmp nat_cmp p.name q.name)) (are_rising (names (q ∷ bs))) (below_less p.name q.name e) r
    go false e more =
        rising_cons q.name (names (put p bs)) (heads_put q.name p bs (below_less q.name p.name (below_other p.name q.name e d.0)) (rising_heads q.name (names bs) r)) more

all_put : (P : Pair → Type 0) (p : Pair) (bs : List Pair) → P p → AllByRecursion P bs → AllByRecursion P (put p bs)
all_put P p [] h all = (h, tt)
all_put P p (q ∷ bs) h all = go (is_below p.name q.name) (all_put P p bs h all.1)
  where
    go : (b : Bool) → AllByRecursion P (put p bs) → AllByRecursion P (cond b (p ∷ q ∷ bs) (q ∷ put p bs))
    go true more = (h, all)
    go false more = (all.0, more)

all_by_name : (P : Pair → Type 0) (bs : List Pair) → AllByRecursion P bs → AllByRecursion P (by_name bs)
all_by_name P [] all = tt
all_by_name P (p ∷ bs) all = all_put P p (by_name bs) all.0 (all_by_name P bs all.1)

-- no name twice
abbrev pub NamesApart : List Pair → Type 0
NamesApart [] = Unit {0}
NamesApart (p ∷ bs) = AllByRecursion (Differs p.name) bs × NamesApart bs

pub by_name_rising : (bs : List Pair) → NamesApart bs → are_rising (names (by_name bs)) ≡ true
by_name_rising [] h = refl
by_name_rising (p ∷ bs) h = put_rising p (by_name bs) (all_by_name (Differs p.name) bs h.0) (by_name_rising bs h.1)

put_apart : (p : Pair) (bs : List Pair) → AllByRecursion (Differs p.name) bs → NamesApart bs → NamesApart (put p bs)
put_apart p [] d h = (tt, tt)
put_apart p (q ∷ bs) d h = go (is_below p.name q.name) (put_apart p bs d.1 h.1)
  where
    go : (b : Bool) → NamesApart (put p bs) → NamesApart (cond b (p ∷ q ∷ bs) (q ∷ put p bs))
    go true more = (d, h)
    go false more = (all_put (Differs q.name) p bs (same_flipped q.name p.name ∙ d.0) h.0, more)

by_name_apart : (bs : List Pair) → NamesApart bs → NamesApart (by_name bs)
by_name_apart [] h = tt
by_name_apart (p ∷ bs) h = put_apart p (by_name bs) (all_by_name (Differs p.name) bs h.0) (by_name_apart bs h.1)

-- ## Names of a pattern

abbrev DiffersFrom : Text → Text → Type 0
DiffersFrom name other = bytes_eq name other ≡ false

abbrev TextsApart : List Text → Type 0
TextsApart [] = Unit {0}
TextsApart (n ∷ ns) = AllByRecursion (DiffersFrom n) ns × TextsApart ns

kept_differ : (name : Text) (ns : List Text) → AllByRecursion (DiffersFrom name) (filter (λ other. not (bytes_eq name other)) ns)
kept_differ name [] = tt
kept_differ name (n ∷ ns) = go (bytes_eq name n) refl (kept_differ name ns)
  where
    rest : List Text
    rest = filter (λ other. not (bytes_eq name other)) ns

    go : (b : Bool) → bytes_eq name n ≡ b → AllByRecursion (DiffersFrom name) rest → AllByRecursion (DiffersFrom name) (cond (not b) (n ∷ rest) rest)
    go true e more = more
    go false e more = (e, more)

kept_apart : (test : Text → Bool) (ns : List Text) → TextsApart ns → TextsApart (filter test ns)
kept_apart test [] h = tt
kept_apart test (n ∷ ns) h = go (test n) (kept_apart test ns h.1)
  where
    go : (b : Bool) → TextsApart (filter test ns) → TextsApart (cond b (n ∷ filter test ns) (filter test ns))
    go true more = (all_filter (DiffersFrom n) test ns h.0, more)
    go false more = more

names_apart : (ps : List Piece) → TextsApart (names_in ps)
names_apart [] = tt
names_apart (plain t ∷ ps) = names_apart ps
names_apart (hole name limit ∷ ps) = (kept_differ name (names_in ps), kept_apart (λ other. not (bytes_eq name other)) (names_in ps) (names_apart ps))

abbrev wildcard : (Text → Option Text) → Text → Wildcard
wildcard limit name = record { name = name; limit = limit name }

bound_differ : (limit : Text → Option Text) (name : Text) (ns values : List Text) → AllByRecursion (DiffersFrom name) ns → AllByRecursion (Differs name) (bound_pairs (map (wildcard limit) ns) values)
bound_differ limit name [] values d = tt
bound_differ limit name (n ∷ ns) [] d = tt
bound_differ limit name (n ∷ ns) (v ∷ values) d = (d.0, bound_differ limit name ns values d.1)

bound_apart : (limit : Text → Option Text) (ns values : List Text) → TextsApart ns → NamesApart (bound_pairs (map (wildcard limit) ns) values)
bound_apart limit [] values h = tt
bound_apart limit (n ∷ ns) [] h = tt
bound_apart limit (n ∷ ns) (v ∷ values) h = (bound_differ limit n ns values h.0, bound_apart limit ns values h.1)

-- a binding of a path has no name twice
pub binding_apart : (limits : List Pair) (t path : Text) → OnSome NamesApart (binding_of limits t path)
binding_apart limits t path = go (bound (shape_of limits t) path)
  where
    limit : Text → Option Text
    limit name = limit_for limits name (inline_limits name (pieces t))

    go : (o : Option (List Text)) → OnSome NamesApart (option_map (λ values. by_name (bound_pairs (shape_of limits t).wildcards values)) o)
    go None = tt
    go (Some values) = by_name_apart (bound_pairs (shape_of limits t).wildcards values) (bound_apart limit (names_in (pieces t)) values (names_apart (pieces t)))
