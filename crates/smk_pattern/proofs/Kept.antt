-- What is kept by name.
use Rattle.std.proofs.Common.{◌≡◌, ℕ, zero, suc, ◌+◌, ◌<◌, ◌≤◌, ◌==◌, ◌&&◌, List, [], ◌∷◌, ◌++◌, length, map, filter, not, cond, Bool, true, false, Option, Some, None, option_map, is_some, Bor, refl, sym, ap, subst, ◌∙◌, arith, length-append, append-nil, true≢false, bytes_eq, nat_le, take, drop, get_or, take-append-drop, slice_get, ap₂}
use Rattle.std.specs.BTreeMap.{BTreeMap, get_by}
use Rattle.std.specs.Map.{update}
use Rattle.std.specs.Cmp.Lexicographic.{slice_cmp}
use Rattle.std.specs.Ordering.{nat_cmp}
use Rattle.std.specs.List.{list_all, find}
use Rattle.std.proofs.lemmas.Bool.{eqb-true, eq-eqb, and_parts}
use Rattle.std.proofs.lemmas.Bool.Decides.{nat_tests}
use Rattle.std.proofs.lemmas.Slice.Eq.{bytes_eq-Decides}
use Rattle.std.proofs.lemmas.List.{map_more}
use Rattle.smk_base.specs.declared.tree.Pair.{Pair}
use Rattle.smk_pattern.specs.declared.splitting.Written.{Written}
use Rattle.smk_pattern.specs.declared.by_name.Names.{Names}
use Rattle.smk_pattern.specs.Shapes.{Text, Wildcard}
use Rattle.smk_pattern.specs.Grammar.{Piece, plain, hole, inline_limits, given_limit, limit_for}
use Rattle.smk_pattern.specs.Reading.{place_of, names_in, value}
use Rattle.smk_pattern.specs.Written.{is_single, with_name, wildcard_by, AreAllLimits, IsFirstBad}
use Rattle.smk_pattern.specs.Splitting.{written_of, all_written}
use Rattle.smk_pattern.specs.ByName.{place_at, text_at, found_place, AreNames, first_of, or_text, AreInline}
use Rattle.smk_pattern.proofs.Names.{lacks, place_in, place_out, place_here, found_at, lacks_more_same, lacks_more_other, not_same}

-- ---- tests

same_text : (a b : Text) → bytes_eq a b ≡ true → a ≡ b
same_text a b e = (bytes_eq-Decides a b).0 e

-- ---- names

not_kept : (name : Text) (known : List Text) → is_some (found_place name known) ≡ false → lacks known name ≡ true
not_kept name known = by (lacks known name)
  where
    by : (b : Bool) → is_some (cond b None (Some (place_of name known))) ≡ false → b ≡ true
    by true e = refl
    by false e = absurd (true≢false e)

-- one more name is found, and the others as before
found_more : (known : List Text) (name q : Text) → lacks known name ≡ true →
    cond (bytes_eq name q) (Some (length known)) (found_place q known) ≡ found_place q (known ++ name ∷ [])
found_more known name q none = by (bytes_eq name q) refl
  where
    here : (q : Text) → name ≡ q → Some (length known) ≡ found_place q (known ++ name ∷ [])
    here q same =
        let l = lacks_more_same known name q same in
        let at : place_of q known ≡ length known = eqb-true (place_of q known) (length known) (ap (lacks known) (sym same) ∙ none) in
        let p : place_of q (known ++ name ∷ []) ≡ length known + place_of q (name ∷ []) = place_out q known (name ∷ []) at in
        let z : place_of q (name ∷ []) ≡ 0 = subst (λ (o : Text). place_of o (name ∷ []) ≡ 0) same (place_here name []) in
        let place : place_of q (known ++ name ∷ []) ≡ length known = omega (arith, p, z) in
        ap Some (sym place) ∙ sym (ap (λ b. cond b None (Some (place_of q (known ++ name ∷ [])))) l)

    there : (b : Bool) → lacks known q ≡ b → bytes_eq q name ≡ false → found_place q known ≡ found_place q (known ++ name ∷ [])
    there true f other =
        let l = lacks_more_other known name q other in
        ap (λ b. cond b None (Some (place_of q known))) f ∙ sym (ap (λ b. cond b None (Some (place_of q (known ++ name ∷ [])))) (l ∙ f))
    there false f other =
        let l = lacks_more_other known name q other in
        ap (λ b. cond b None (Some (place_of q known))) f ∙ ap Some (sym (place_in q known (name ∷ []) (found_at known q f)))
        ∙ sym (ap (λ b. cond b None (Some (place_of q (known ++ name ∷ [])))) (l ∙ f))

    by : (b : Bool) → bytes_eq name q ≡ b → cond (bytes_eq name q) (Some (length known)) (found_place q known) ≡ found_place q (known ++ name ∷ [])
    by true e = ap (λ b. cond b (Some (length known)) (found_place q known)) e ∙ here q (same_text name q e)
    by false e = ap (λ b. cond b (Some (length known)) (found_place q known)) e ∙ there (lacks known q) refl (not_same name q e)

pub names_more : (old new : Names) (name : Bor Text) (count : ℕ) (known : List Text) → AreNames old known → count ≡ length known → is_some (place_at old.places name.now) ≡ false →
    new.list.items ≡ old.list.items ++ name ∷ [] →
    ((q : Text) → place_at new.places q ≡ update bytes_eq (place_at old.places) name.now (Some count) q) → AreNames new (with_name (hole name.now None) known)
names_more old new name count known h n free list at =
    let none : lacks known name.now ≡ true = not_kept name.now known (ap (λ (o : Option ℕ). is_some o) (sym (h.at name.now)) ∙ free) in
    subst (AreNames new) (sym (ap (λ b. cond b (known ++ name.now ∷ []) known) none)) (record {
      list = ap (map (λ (b : Bor Text). b.now)) list ∙ pushed old.list.items ∙ ap (λ (k : List Text). k ++ name.now ∷ []) h.list;
      at = λ q. at q ∙ ap (λ (m : ℕ). cond (bytes_eq name.now q) (Some m) (place_at old.places q)) n
          ∙ ap (λ (o : Option ℕ). cond (bytes_eq name.now q) (Some (length known)) o) (h.at q) ∙ found_more known name.now q none;
    })
  where
    pushed : (xs : List (Bor Text)) → map (λ (b : Bor Text). b.now) (xs ++ name ∷ []) ≡ map (λ (b : Bor Text). b.now) xs ++ name.now ∷ []
    pushed [] = refl
    pushed (x ∷ xs) = ap (λ ys. x.now ∷ ys) (pushed xs)

-- ---- constraints in pieces

limits_by : (b : Bool) (l : Text) (xs ys : List Text) → cond b (l ∷ (xs ++ ys)) (xs ++ ys) ≡ cond b (l ∷ xs) xs ++ ys
limits_by true l xs ys = refl
limits_by false l xs ys = refl

pub limits_append : (name : Text) (ps qs : List Piece) → inline_limits name (ps ++ qs) ≡ inline_limits name ps ++ inline_limits name qs
limits_append name [] qs = refl
limits_append name (plain t ∷ ps) qs = limits_append name ps qs
limits_append name (hole other None ∷ ps) qs = limits_append name ps qs
limits_append name (hole other (Some l) ∷ ps) qs =
    ap (λ xs. cond (bytes_eq name other) (l ∷ xs) xs) (limits_append name ps qs) ∙ limits_by (bytes_eq name other) l (inline_limits name ps) (inline_limits name qs)

-- a piece without a constraint changes nothing
pub inline_same : (texts : BTreeMap (Bor Text) (Bor Text)) (ps : List Piece) (p : Piece) → AreInline texts ps → ((name : Text) → inline_limits name (p ∷ []) ≡ []) →
    AreInline texts (ps ++ p ∷ [])
inline_same texts ps p h none =
    let same = λ (name : Text). limits_append name ps (p ∷ []) ∙ ap (λ xs. inline_limits name ps ++ xs) (none name) ∙ append-nil (inline_limits name ps) in
    record {
      at = λ name. h.at name ∙ ap first_of (sym (same name));
      single = λ name. let le = h.single name in omega (arith, le, ap length (same name));
    }

first_none : (xs : List Text) → is_some (first_of xs) ≡ false → xs ≡ []
first_none [] e = refl
first_none (x ∷ xs) e = absurd (true≢false e)

first_some : (xs : List Text) → is_some (first_of xs) ≡ true → 1 ≤ length xs
first_some [] e = absurd (true≢false (sym e))
first_some (x ∷ xs) e = omega arith

pub inline_more : (old new : BTreeMap (Bor Text) (Bor Text)) (ps : List Piece) (name limit : Text) → AreInline old ps → is_some (text_at old name) ≡ false →
    ((q : Text) → text_at new q ≡ cond (bytes_eq name q) (Some limit) (text_at old q)) → AreInline new (ps ++ hole name (Some limit) ∷ [])
inline_more old new ps name limit h free at =
    let p = hole name (Some limit) in
    let none : inline_limits name ps ≡ [] = first_none (inline_limits name ps) (ap (λ (o : Option Text). is_some o) (sym (h.at name)) ∙ free) in
    record {
      at = λ q. at q ∙ by q (bytes_eq name q) refl none ∙ ap first_of (sym (limits_append q ps (p ∷ [])));
      single = λ q. let le = one q (bytes_eq name q) refl none in omega (arith, le, ap length (limits_append q ps (p ∷ [])));
    }
  where
    turned : (q : Text) (b : Bool) → bytes_eq name q ≡ b → bytes_eq q name ≡ b
    turned q true e = (bytes_eq-Decides q name).1 (sym (same_text name q e))
    turned q false e = not_same name q e

    here : (q : Text) (b : Bool) → bytes_eq name q ≡ b → inline_limits q (hole name (Some limit) ∷ []) ≡ cond b (limit ∷ []) []
    here q b e = ap (λ c. cond c (limit ∷ []) []) (turned q b e)

    by : (q : Text) (b : Bool) → bytes_eq name q ≡ b → inline_limits name ps ≡ [] →
        cond (bytes_eq name q) (Some limit) (text_at old q) ≡ first_of (inline_limits q ps ++ inline_limits q (hole name (Some limit) ∷ []))
    by q true e none =
        let empty : inline_limits q ps ≡ [] = subst (λ (n : Text). inline_limits n ps ≡ []) (same_text name q e) none in
        ap (λ b. cond b (Some limit) (text_at old q)) e ∙ sym (ap first_of (ap (λ xs. xs ++ inline_limits q (hole name (Some limit) ∷ [])) empty ∙ here q true e))
    by q false e none =
        ap (λ b. cond b (Some limit) (text_at old q)) e ∙ h.at q
        ∙ sym (ap first_of (ap (λ xs. inline_limits q ps ++ xs) (here q false e) ∙ append-nil (inline_limits q ps)))

    one : (q : Text) (b : Bool) → bytes_eq name q ≡ b → inline_limits name ps ≡ [] → length (inline_limits q ps ++ inline_limits q (hole name (Some limit) ∷ [])) ≤ 1
    one q true e none =
        let empty : inline_limits q ps ≡ [] = subst (λ (n : Text). inline_limits n ps ≡ []) (same_text name q e) none in
        let l : length (inline_limits q ps ++ inline_limits q (hole name (Some limit) ∷ [])) ≡ 1 =
        ap length (ap (λ xs. xs ++ inline_limits q (hole name (Some limit) ∷ [])) empty ∙ here q true e) in
        omega (arith, l)
    one q false e none =
        let le = h.single q in
        let l : length (inline_limits q ps ++ inline_limits q (hole name (Some limit) ∷ [])) ≡ length (inline_limits q ps) =
        ap length (ap (λ xs. inline_limits q ps ++ xs) (here q false e) ∙ append-nil (inline_limits q ps)) in
        omega (arith, le, l)

pub inline_twice : (old : BTreeMap (Bor Text) (Bor Text)) (ps : List Piece) (name limit : Text) → AreInline old ps → is_some (text_at old name) ≡ true →
    2 ≤ length (inline_limits name (ps ++ hole name (Some limit) ∷ []))
inline_twice old ps name limit h some =
    let one = first_some (inline_limits name ps) (ap (λ (o : Option Text). is_some o) (sym (h.at name)) ∙ some) in
    let here : inline_limits name (hole name (Some limit) ∷ []) ≡ limit ∷ [] = ap (λ c. cond c (limit ∷ []) []) ((bytes_eq-Decides name name).1 refl) in
    let l = ap length (limits_append name ps (hole name (Some limit) ∷ []) ∙ ap (λ xs. inline_limits name ps ++ xs) here) ∙ length-append (inline_limits name ps) (limit ∷ []) in
    omega (arith, one, l)

-- more pieces have no fewer constraints
twice_more : (name : Text) (ps qs : List Piece) → 2 ≤ length (inline_limits name ps) → 2 ≤ length (inline_limits name (ps ++ qs))
twice_more name ps qs le = omega (arith, le, ap length (limits_append name ps qs), length-append (inline_limits name ps) (inline_limits name qs))

-- ---- a name with a constraint is one of the names

abbrev test_if : (Text → Bool) → (Text → Bool) → Text → Bool
test_if p f x = cond (p x) (f x) true

all_filter_by : (b c d e : Bool) → cond b (c && d) d ≡ true → (d ≡ true → e ≡ true) → cond b c true && e ≡ true
all_filter_by true true d e h k = k h
all_filter_by true false d e h k = absurd (true≢false (sym h))
all_filter_by false c d e h k = k h

all_cond : (f : Text → Bool) (b : Bool) (x : Text) (xs : List Text) → list_all f (cond b (x ∷ xs) xs) ≡ cond b (f x && list_all f xs) (list_all f xs)
all_cond f true x xs = refl
all_cond f false x xs = refl

all_filter : (p f : Text → Bool) (xs : List Text) → list_all f (filter p xs) ≡ true → list_all (test_if p f) xs ≡ true
all_filter p f [] h = refl
all_filter p f (x ∷ xs) h =
    all_filter_by (p x) (f x) (list_all f (filter p xs)) (list_all (test_if p f) xs) (sym (all_cond f (p x) x (filter p xs)) ∙ h) (all_filter p f xs)

holds_behind : (f : Text → Bool) (other name : Text) (ps : List Piece) → list_all f (other ∷ filter (λ o. not (bytes_eq other o)) (names_in ps)) ≡ true →
    (bytes_eq other name ≡ false → list_all (test_if (λ o. not (bytes_eq other o)) f) (names_in ps) ≡ true → test_if (λ o. not (bytes_eq other o)) f name ≡ true) → f name ≡ true
holds_behind f other name ps h rec = by (bytes_eq other name) refl
  where
    a : (f other ≡ true) × (list_all f (filter (λ o. not (bytes_eq other o)) (names_in ps)) ≡ true)
    a = and_parts (f other) (list_all f (filter (λ o. not (bytes_eq other o)) (names_in ps))) h

    by : (b : Bool) → bytes_eq other name ≡ b → f name ≡ true
    by true e = subst (λ (n : Text). f n ≡ true) (same_text other name e) a.0
    by false e = sym (ap (λ b. cond (not b) (f name) true) e) ∙ rec e (all_filter (λ o. not (bytes_eq other o)) f (names_in ps) a.1)

holds_at : (f : Text → Bool) (ps : List Piece) (name : Text) → 1 ≤ length (inline_limits name ps) → list_all f (names_in ps) ≡ true → f name ≡ true
holds_at f [] name le h = absurd (omega (arith, le))
holds_at f (plain t ∷ ps) name le h = holds_at f ps name le h
holds_at f (hole other None ∷ ps) name le h = holds_behind f other name ps h (λ _ all. holds_at (test_if (λ o. not (bytes_eq other o)) f) ps name le all)
holds_at f (hole other (Some l) ∷ ps) name le h =
    holds_behind f other name ps h (λ e all.
    let same : inline_limits name (hole other (Some l) ∷ ps) ≡ inline_limits name ps = ap (λ b. cond b (l ∷ inline_limits name ps) (inline_limits name ps)) (not_same other name e) in
    holds_at (test_if (λ o. not (bytes_eq other o)) f) ps name (omega (arith, le, ap length same)) all)

-- where a name has two constraints, not each name has one at most
pub not_single : (ps qs rest : List Piece) (name : Text) → rest ≡ ps ++ qs → 2 ≤ length (inline_limits name ps) → list_all (is_single rest) (names_in rest) ≡ false
not_single ps qs rest name e two = by (list_all (is_single rest) (names_in rest)) refl
  where
    le : 2 ≤ length (inline_limits name rest)
    le = subst (λ (xs : List Piece). 2 ≤ length (inline_limits name xs)) (sym e) (twice_more name ps qs two)

    much : (n : ℕ) → 2 ≤ n → nat_le n 1 ≡ true → ⊥
    much n le e = grind (arith, nat_tests)

    by : (b : Bool) → list_all (is_single rest) (names_in rest) ≡ b → b ≡ false
    by true f = absurd (much (length (inline_limits name rest)) le (holds_at (is_single rest) rest name (omega (arith, le)) f))
    by false f = refl

pub all_single : (texts : BTreeMap (Bor Text) (Bor Text)) (ps : List Piece) → AreInline texts ps → (names : List Text) → list_all (is_single ps) names ≡ true
all_single texts ps h [] = refl
all_single texts ps h (name ∷ names) = by (is_single ps name) (few (length (inline_limits name ps)) (h.single name)) (all_single texts ps h names)
  where
    few : (n : ℕ) → n ≤ 1 → nat_le n 1 ≡ true
    few n le = grind (arith, nat_tests)

    by : (b : Bool) → b ≡ true → list_all (is_single ps) names ≡ true → b && list_all (is_single ps) names ≡ true
    by true e h = h
    by false e h = absurd (true≢false (sym e))

-- ---- what is given

or_some : (a b : Option Text) → is_some a ≡ true → a ≡ or_text a b
or_some None b e = absurd (true≢false (sym e))
or_some (Some t) b e = refl

or_again : (a b c : Option Text) → or_text (or_text a b) c ≡ or_text a (or_text b c)
or_again None b c = refl
or_again (Some t) b c = refl

given_append : (name : Text) (xs ys : List Pair) → given_limit name (xs ++ ys) ≡ or_text (given_limit name xs) (given_limit name ys)
given_append name [] ys = refl
given_append name (x ∷ xs) ys = ap (λ o. cond (bytes_eq name x.name) (Some x.value) o) (given_append name xs ys) ∙ by (bytes_eq name x.name) (given_limit name xs)
  where
    by : (t : Bool) (o : Option Text) → cond t (Some x.value) (or_text o (given_limit name ys)) ≡ or_text (cond t (Some x.value) o) (given_limit name ys)
    by true o = refl
    by false o = refl

-- one more pair, after those before
pub given_more : (name : Text) (a b c : Option Text) (xs ys : List Pair) (p : Pair) → ys ≡ xs ++ p ∷ [] → b ≡ or_text a (given_limit name xs) → c ≡ or_text b (given_limit name (p ∷ [])) →
    c ≡ or_text a (given_limit name ys)
given_more name a b c xs ys p e f g =
    g ∙ ap (λ o. or_text o (given_limit name (p ∷ []))) f ∙ or_again a (given_limit name xs) (given_limit name (p ∷ []))
    ∙ ap (or_text a) (sym (given_append name xs (p ∷ [])) ∙ ap (given_limit name) (sym e))

-- the name of the pair, and another one
pub given_other : (q name value : Text) (a : Option Text) → bytes_eq name q ≡ false → a ≡ or_text a (cond (bytes_eq q name) (Some value) None)
given_other q name value a e = by a (bytes_eq q name) (not_same name q e)
  where
    by : (a : Option Text) (b : Bool) → b ≡ false → a ≡ or_text a (cond b (Some value) None)
    by None false e = refl
    by None true e = absurd (true≢false e)
    by (Some t) b e = refl

pub given_kept : (q name value : Text) (a : Text → Option Text) → is_some (a name) ≡ true → a q ≡ or_text (a q) (cond (bytes_eq q name) (Some value) None)
given_kept q name value a some = by (bytes_eq name q) refl
  where
    by : (b : Bool) → bytes_eq name q ≡ b → a q ≡ or_text (a q) (cond (bytes_eq q name) (Some value) None)
    by true e = or_some (a q) (cond (bytes_eq q name) (Some value) None) (subst (λ (n : Text). is_some (a n) ≡ true) (same_text name q e) some)
    by false e = given_other q name value (a q) e

pub given_added : (q name value : Text) (a b : Text → Option Text) → is_some (a name) ≡ false → b q ≡ cond (bytes_eq name q) (Some value) (a q) →
    b q ≡ or_text (a q) (cond (bytes_eq q name) (Some value) None)
given_added q name value a b free e = by (bytes_eq name q) refl
  where
    none : (o : Option Text) → is_some o ≡ false → o ≡ None
    none None e = refl
    none (Some t) e = absurd (true≢false e)

    by : (t : Bool) → bytes_eq name q ≡ t → b q ≡ or_text (a q) (cond (bytes_eq q name) (Some value) None)
    by true f =
        let same : name ≡ q = same_text name q f in
        let empty : a q ≡ None = none (a q) (subst (λ (n : Text). is_some (a n) ≡ false) same free) in
        let turned : bytes_eq q name ≡ true = (bytes_eq-Decides q name).1 (sym same) in
        e ∙ ap (λ t. cond t (Some value) (a q)) f ∙ sym (ap (λ o. or_text o (cond (bytes_eq q name) (Some value) None)) empty ∙ ap (λ t. cond t (Some value) None) turned)
    by false f = e ∙ ap (λ t. cond t (Some value) (a q)) f ∙ given_other q name value (a q) f

-- a name that isn't looked for
pub given_absent : (q name value : Text) (places : BTreeMap (Bor Text) ℕ) (a : Option Text) → is_some (place_at places name) ≡ false → is_some (place_at places q) ≡ true →
    a ≡ or_text a (cond (bytes_eq q name) (Some value) None)
given_absent q name value places a none some = by (bytes_eq name q) refl
  where
    by : (b : Bool) → bytes_eq name q ≡ b → a ≡ or_text a (cond (bytes_eq q name) (Some value) None)
    by true e = absurd (true≢false (sym some ∙ ap (λ (n : Text). is_some (place_at places n)) (sym (same_text name q e)) ∙ none))
    by false e = given_other q name value a e

-- the value of a name is found as a constraint is
pub value_given : (name : Text) (binding : List Pair) → value binding name ≡ given_limit name binding
value_given name [] = refl
value_given name (p ∷ ps) = by (bytes_eq p.name name) refl (value_given name ps)
  where
    by : (b : Bool) → bytes_eq p.name name ≡ b → value ps name ≡ given_limit name ps → value (p ∷ ps) name ≡ given_limit name (p ∷ ps)
    by true e later =
        ap (λ b. option_map (λ (x : Pair). x.value) (cond b (Some p) (find (λ (x : Pair). bytes_eq x.name name) ps))) e
        ∙ sym (ap (λ b. cond b (Some p.value) (given_limit name ps)) ((bytes_eq-Decides name p.name).1 (sym (same_text p.name name e))))
    by false e later =
        ap (λ b. option_map (λ (x : Pair). x.value) (cond b (Some p) (find (λ (x : Pair). bytes_eq x.name name) ps))) e ∙ later
        ∙ sym (ap (λ b. cond b (Some p.value) (given_limit name ps)) (not_same p.name name e))

-- the constraint of a name: what stands in the pieces, or else what is given
pub limit_is : (given : List Pair) (name : Text) (limits : List Text) → or_text (first_of limits) (given_limit name given) ≡ limit_for given name limits
limit_is given name [] = refl
limit_is given name (l ∷ ls) = refl

pub or_none : (a : Option Text) → a ≡ or_text a None
or_none None = refl
or_none (Some t) = refl

mapped : (b : Bool) (t : Bor Text) (o : Option (Bor Text)) →
    option_map (λ (x : Bor Text). x.now) (cond b (Some t) o) ≡ cond b (Some t.now) (option_map (λ (x : Bor Text). x.now) o)
mapped true t o = refl
mapped false t o = refl

pub text_kept : (old new : BTreeMap (Bor Text) (Bor Text)) (name : Text) (t : Bor Text) →
    ((q : Text) → get_by (λ k. slice_cmp nat_cmp q k.now) new ≡ update bytes_eq (λ ds. get_by (λ k. slice_cmp nat_cmp ds k.now) old) name (Some t) q) →
    (q : Text) → text_at new q ≡ cond (bytes_eq name q) (Some t.now) (text_at old q)
text_kept old new name t u q =
    ap (λ (o : Option (Bor Text)). option_map (λ (x : Bor Text). x.now) o) (u q) ∙ mapped (bytes_eq name q) t (get_by (λ k. slice_cmp nat_cmp q k.now) old)

-- the pieces up to a place, the piece there, and those behind it
pub all_parts : (ws : List Written) (i : ℕ) (d : Written) → i < length ws →
    all_written ws ≡ (all_written (take i ws) ++ written_of (get_or ws i d) ∷ []) ++ all_written (drop (i + 1) ws)
all_parts ws i d lt =
    sym (ap all_written (take-append-drop (i + 1) ws)) ∙ appended (take (i + 1) ws) (drop (i + 1) ws)
    ∙ ap (λ xs. xs ++ all_written (drop (i + 1) ws)) (map_more written_of ws i d lt)
  where
    appended : (xs ys : List Written) → all_written (xs ++ ys) ≡ all_written xs ++ all_written ys
    appended [] ys = refl
    appended (x ∷ xs) ys = ap (λ zs. written_of x ∷ zs) (appended xs ys)

-- ---- the constraints of the names

before_by : (t : Bool) (x n : ℕ) → x < n → cond t 0 (suc x) < suc n
before_by true x n lt = omega arith
before_by false x n lt = omega (arith, lt)

place_before : (names : List Text) (n : ℕ) (name : Text) → slice_get names n ≡ Some name → place_of name names < length names
place_before [] n name e = absurd cc
place_before (x ∷ xs) zero name e =
    let same : x ≡ name = cc in
    let first : place_of name (x ∷ xs) ≡ 0 = subst (λ (y : Text). place_of name (y ∷ xs) ≡ 0) (sym same) (place_here name xs) in
    omega (arith, first)
place_before (x ∷ xs) (suc n) name e = before_by (bytes_eq name x) (place_of name xs) (length xs) (place_before xs n name e)

is_found : (names : List Text) (n : ℕ) (name : Text) → slice_get names n ≡ Some name → is_some (found_place name names) ≡ true
is_found names n name e = by (lacks names name) (different (place_of name names) (length names) (place_before names n name e))
  where
    different : (m n : ℕ) → m < n → (m == n) ≡ false
    different m n lt = grind (arith, nat_tests)

    by : (b : Bool) → b ≡ false → is_some (cond b None (Some (place_of name names))) ≡ true
    by true f = absurd (true≢false f)
    by false f = refl

pub limits_agree : (names : Names) (inline texts : BTreeMap (Bor Text) (Bor Text)) (ps : List Piece) (given : List Pair) → AreNames names (names_in ps) → AreInline inline ps →
    ((q : Text) → is_some (place_at names.places q) ≡ true → text_at texts q ≡ or_text (text_at inline q) (given_limit q given)) →
    (n : ℕ) (name : Text) → slice_get (names_in ps) n ≡ Some name → text_at texts name ≡ limit_for given name (inline_limits name ps)
limits_agree names inline texts ps given h i all n name e =
    all name (ap (λ (o : Option ℕ). is_some o) (h.at name) ∙ is_found (names_in ps) n name e)
    ∙ ap (λ o. or_text o (given_limit name given)) (i.at name) ∙ limit_is given name (inline_limits name ps)

pub same_wildcards : (f g : Text → Option Text) (names : List Text) → ((n : ℕ) (name : Text) → slice_get names n ≡ Some name → f name ≡ g name) →
    map (wildcard_by f) names ≡ map (wildcard_by g) names
same_wildcards f g [] h = refl
same_wildcards f g (x ∷ xs) h =
    ap₂ (λ (l : Option Text) (ws : List Wildcard). let w : Wildcard = record { name = x; limit = l } in w ∷ ws) (h 0 x refl) (same_wildcards f g xs (λ n. h (suc n)))

pub same_limits : (f g : Text → Option Text) (names : List Text) → ((n : ℕ) (name : Text) → slice_get names n ≡ Some name → f name ≡ g name) →
    AreAllLimits f names → AreAllLimits g names
same_limits f g names same h n name limit at is = h n name limit at (same n name at ∙ is)

get_taken : (names : List Text) (k n : ℕ) (name : Text) → slice_get (take k names) n ≡ Some name → slice_get names n ≡ Some name
get_taken [] zero n name e = absurd cc
get_taken [] (suc k) n name e = absurd cc
get_taken (x ∷ xs) zero n name e = absurd cc
get_taken (x ∷ xs) (suc k) zero name e = e
get_taken (x ∷ xs) (suc k) (suc n) name e = get_taken xs k n name e

pub same_bad : (f g : Text → Option Text) (names : List Text) (name : Text) → ((n : ℕ) (name : Text) → slice_get names n ≡ Some name → f name ≡ g name) →
    IsFirstBad f names name → IsFirstBad g names name
same_bad f g names name same b = record {
  n = b.n;
  at = b.at;
  limit = b.limit;
  is = sym (same b.n name b.at) ∙ b.is;
  bad = b.bad;
  before = same_limits f g (take b.n names) (λ n other e. same n other (get_taken names b.n n other e)) b.before;
}
