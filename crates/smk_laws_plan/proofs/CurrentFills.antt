-- A binding, put by name, fills its pattern to its path, where the numbers of wildcards are in the order in which these first stand.
use Rattle.std.proofs.Common.{◌≡◌, ◌⊎◌, ℕ, suc, ◌+◌, ◌-◌, Bool, true, false, not, cond, ◌&&◌, List, [], ◌∷◌, ◌++◌, map, filter, flat_map, find, length, take, drop, get_or, reverse, refl, sym, ap, subst, inl, inr, ◌∙◌, arith, Option, Some, None, option_map, true≢false, bytes_eq, append_assoc, append-nil, length-append, take-append-drop}
use Rattle.std.specs.List.{range_with_len, slice_get}
use Rattle.std.proofs.lemmas.Bool.{eqb-true}
use Rattle.std.proofs.lemmas.List.{get_or_append_left}
use Rattle.std.proofs.lemmas.Option.{slice_get_within, slice_get-get_or}
use Rattle.std.proofs.Math.Seq.{get_or-append_right}
use Rattle.smk_base.specs.declared.tree.Pair.{Pair}
use Rattle.smk_base.proofs.Places.{same_place, place_itself, same_flipped}
use Rattle.smk_pattern.specs.Shapes.{Text, Part, Wildcard, IsNumbered}
use Rattle.smk_pattern.specs.Shapes.Part.{text, wild}
use Rattle.smk_pattern.specs.Grammar.{Piece, plain, hole, limit_for, inline_limits}
use Rattle.smk_pattern.specs.Fitting.{filled, bound_pairs}
use Rattle.smk_pattern.specs.Reading.{pieces, names_in, place_of, part_in, shape_of, value, fill, fill_piece, or_empty, put, by_name, is_below}
use Rattle.smk_pattern.specs.Bound.{begins, suits, is_cut, limit_at, bindings, first_values, bound, BoundFills}
use Rattle.smk_laws_plan.proofs.CurrentChosen.{mapped}
use Rattle.smk_laws_plan.proofs.CurrentLists.{In, some_inj, none_some, clash_of, and_left, and_right, not_true, flat_in, in_filter, filter_in}

-- the numbers of a text's wildcards are in order
abbrev pub AreNumbered : Type 0
AreNumbered = (ps : List Piece) → IsNumbered (map (part_in (names_in ps)) ps) 0 (length (names_in ps))

-- ## What is computed fills the parts

begins_split : (front t : Text) → begins front t ≡ true → t ≡ front ++ drop (length front) t
begins_split [] t h = refl
begins_split (x ∷ front) [] h = absurd (true≢false (sym h))
begins_split (x ∷ front) (y ∷ t) h = λ i. sym (eqb-true x y (and_left _ (begins front t) h)) i ∷ begins_split front t (and_right _ (begins front t) h) i

-- the values go on from the known ones, are so many, and fill the parts
pub record FillsOn (ps : List Part) (known : List Text) (path : Text) (all : ℕ) (vs : List Text) : Type 0 where
  pub more : List Text
  pub goes_on : vs ≡ known ++ more
  pub so_many : length vs ≡ all
  pub fills : filled ps vs ≡ path

module _ (limits : List (Option Text)) where
  abbrev IsSure : List Part → Type 0
  IsSure ps =
      (path : Text) (known : List Text) (all : ℕ) (vs : List Text) →
      IsNumbered ps (length known) all → In vs (bindings limits ps path known) → FillsOn ps known path all vs

  new_value :
      (ps : List Part) → IsSure ps → (n : ℕ) (path : Text) (known : List Text) (all : ℕ) (vs : List Text) → n ≡ length known → IsNumbered ps (length known + 1) all →
      (k : ℕ) → In vs (bindings limits ps (drop k path) (known ++ take k path ∷ [])) → FillsOn (wild n ∷ ps) known path all vs
  new_value ps ih n path known all vs is num k h =
      let long : length known + 1 ≡ length (known ++ take k path ∷ []) = sym (length-append known (take k path ∷ [])) in
      let r = ih (drop k path) (known ++ take k path ∷ []) all vs (subst (λ m. IsNumbered ps m all) long num) h in
      let goes : vs ≡ known ++ (take k path ∷ r.more) = r.goes_on ∙ append_assoc known (take k path ∷ []) r.more in
      let zero_off : n - length known ≡ 0 = omega arith in
      let here : get_or vs n [] ≡ take k path =
      ap (λ xs. get_or xs n []) goes ∙ get_or-append_right known (take k path ∷ r.more) n [] (omega arith) ∙ ap (λ m. get_or (take k path ∷ r.more) m []) zero_off in
      record {
        more = take k path ∷ r.more;
        goes_on = goes;
        so_many = r.so_many;
        fills = ap (λ v. v ++ filled ps vs) here ∙ ap (λ t. take k path ++ t) r.fills ∙ take-append-drop k path;
      }

  old_value :
      (ps : List Part) → IsSure ps → (n : ℕ) (path : Text) (known : List Text) (all : ℕ) (vs : List Text) (v : Text) → slice_get known n ≡ Some v →
      IsNumbered ps (length known) all → begins v path ≡ true → In vs (bindings limits ps (drop (length v) path) known) → FillsOn (wild n ∷ ps) known path all vs
  old_value ps ih n path known all vs v e num b h =
      let r = ih (drop (length v) path) known all vs num h in
      let within = slice_get_within known n v e in
      let same : get_or known n [] ≡ v = some_inj (get_or known n []) v (sym (slice_get-get_or known n [] within) ∙ e) in
      let here : get_or vs n [] ≡ v = ap (λ xs. get_or xs n []) r.goes_on ∙ get_or_append_left known r.more [] n within ∙ same in
      record {
        more = r.more;
        goes_on = r.goes_on;
        so_many = r.so_many;
        fills = ap (λ w. w ++ filled ps vs) here ∙ ap (λ t. v ++ t) r.fills ∙ sym (begins_split v path b);
      }

  abbrev at_length : List Part → Text → List Text → ℕ → ℕ → List (List Text)
  at_length ps path known n k =
      elim (is_cut (drop k path) && suits (limit_at limits n) (take k path)) as (λ _. List (List Text)) [
        | true ↦ bindings limits ps (drop k path) (known ++ take k path ∷ [])
        | false ↦ []
      ]

  abbrev by_value : ℕ → List Part → Text → List Text → Option Text → List (List Text)
  by_value n ps path known o =
      elim o as (λ _. List (List Text)) [
        | Some v ↦ elim (begins v path) as (λ _. List (List Text)) [ true ↦ bindings limits ps (drop (length v) path) known | false ↦ [] ]
        | None ↦
            flat_map
            (λ k. elim (is_cut (drop k path) && suits (limit_at limits n) (take k path)) as (λ _. List (List Text)) [
              | true ↦ bindings limits ps (drop k path) (known ++ take k path ∷ [])
              | false ↦ []
            ])
            (reverse (range_with_len 0 (length path + 1)))
      ]

  wild_sure : (n : ℕ) (ps : List Part) → IsSure ps → IsSure (wild n ∷ ps)
  wild_sure n ps ih path known all vs num h = go (slice_get known n) refl h num
    where
      some : (v : Text) → slice_get known n ≡ Some v → (b : Bool) → begins v path ≡ b →
          In vs (elim b as (λ _. List (List Text)) [ true ↦ bindings limits ps (drop (length v) path) known | false ↦ [] ]) →
          IsNumbered (wild n ∷ ps) (length known) all → FillsOn (wild n ∷ ps) known path all vs
      some v e true f k (inl m) = old_value ps ih n path known all vs v e m.1 f k
      some v e true f k (inr m) = absurd (let within = slice_get_within known n v e in let is = m.0 in omega arith)
      some v e false f k m = absurd k

      at_cut : (k : ℕ) (b : Bool) →
          In vs (elim b as (λ _. List (List Text)) [ true ↦ bindings limits ps (drop k path) (known ++ take k path ∷ []) | false ↦ [] ]) →
          n ≡ length known → IsNumbered ps (length known + 1) all → FillsOn (wild n ∷ ps) known path all vs
      at_cut k true i is m = new_value ps ih n path known all vs is m k i
      at_cut k false i is m = absurd i

      go : (o : Option Text) → slice_get known n ≡ o → In vs (by_value n ps path known o) → IsNumbered (wild n ∷ ps) (length known) all → FillsOn (wild n ∷ ps) known path all vs
      go (Some v) e k m = some v e (begins v path) refl k m
      go None e k (inl m) = absurd (none_some (slice_get known n) (get_or known n []) e (slice_get-get_or known n [] m.0))
      go None e k (inr m) =
          let r = flat_in (at_length ps path known n) (reverse (range_with_len 0 (length path + 1))) vs k in
          at_cut r.0 (is_cut (drop r.0 path) && suits (limit_at limits n) (take r.0 path)) r.2 m.0 m.2

  pub sure : (ps : List Part) → IsSure ps
  sure [] [] known all vs num (inl e) = record { more = []; goes_on = e ∙ sym (append-nil known); so_many = ap length e ∙ num; fills = refl }
  sure [] [] known all vs num (inr h) = absurd h
  sure [] (b ∷ path) known all vs num h = absurd h
  sure (text t ∷ ps) path known all vs num h = go (sure ps) (begins t path) refl h
    where
      go : IsSure ps → (b : Bool) → begins t path ≡ b →
          In vs (elim b as (λ _. List (List Text)) [ true ↦ bindings limits ps (drop (length t) path) known | false ↦ [] ]) → FillsOn (text t ∷ ps) known path all vs
      go ih true e k =
          let r = ih (drop (length t) path) known all vs num k in
          record { more = r.more; goes_on = r.goes_on; so_many = r.so_many; fills = ap (λ x. t ++ x) r.fills ∙ sym (begins_split t path e) }
      go ih false e k = absurd k
  sure (wild n ∷ ps) path known all vs num h = wild_sure n ps (sure ps) path known all vs num h

-- ## Names

abbrev named : Text → Pair → Bool
named name p = bytes_eq p.name name

abbrev paired : (Text → Option Text) → List Text → List Text → List Pair
paired limit names vs = bound_pairs (map (λ name. record { name = name; limit = limit name }) names) vs

pairs_value :
    (limit : Text → Option Text) (names vs : List Text) (name : Text) → length vs ≡ length names → In name names →
    value (paired limit names vs) name ≡ Some (get_or vs (place_of name names) [])
pairs_value limit [] vs name l i = absurd i
pairs_value limit (other ∷ names) [] name l i = absurd (omega arith)
pairs_value limit (other ∷ names) (v ∷ vs) name l i = go (bytes_eq name other) refl i (pairs_value limit names vs name (omega arith))
  where
    go : (b : Bool) → bytes_eq name other ≡ b → In name (other ∷ names) → (In name names → value (paired limit names vs) name ≡ Some (get_or vs (place_of name names) [])) →
        value (paired limit (other ∷ names) (v ∷ vs)) name ≡ Some (get_or (v ∷ vs) (place_of name (other ∷ names)) [])
    go true e k ih =
        let head : Pair = record { name = other; value = v } in
        ap (λ c. option_map (λ (p : Pair). p.value) (cond c (Some head) (find (named name) (paired limit names vs)))) (same_flipped other name ∙ e)
        ∙ sym (ap (λ c. Some (get_or (v ∷ vs) (cond c 0 (suc (place_of name names))) [])) e)
    go false e (inl k) ih = absurd (clash_of (bytes_eq name other) (subst (λ w. bytes_eq name w ≡ true) k (place_itself name)) e)
    go false e (inr k) ih =
        let head : Pair = record { name = other; value = v } in
        ap (λ c. option_map (λ (p : Pair). p.value) (cond c (Some head) (find (named name) (paired limit names vs)))) (same_flipped other name ∙ e)
        ∙ ih k
        ∙ sym (ap (λ c. Some (get_or (v ∷ vs) (cond c 0 (suc (place_of name names))) [])) e)

-- ## Put by name

in_put : (p q : Pair) (bs : List Pair) → In q (put p bs) → (q ≡ p) ⊎ In q bs
in_put p q [] (inl e) = inl e
in_put p q [] (inr h) = absurd h
in_put p q (x ∷ bs) h = go (is_below p.name x.name) h (in_put p q bs)
  where
    turn : (q ≡ p) ⊎ In q bs → (q ≡ p) ⊎ In q (x ∷ bs)
    turn (inl e) = inl e
    turn (inr k) = inr (inr k)

    later : In q (x ∷ put p bs) → (In q (put p bs) → (q ≡ p) ⊎ In q bs) → (q ≡ p) ⊎ In q (x ∷ bs)
    later (inl e) ih = inr (inl e)
    later (inr k) ih = turn (ih k)

    go : (b : Bool) → In q (cond b (p ∷ x ∷ bs) (x ∷ put p bs)) → (In q (put p bs) → (q ≡ p) ⊎ In q bs) → (q ≡ p) ⊎ In q (x ∷ bs)
    go true k ih = k
    go false k ih = later k ih

in_by_name : (q : Pair) (ps : List Pair) → In q (by_name ps) → In q ps
in_by_name q [] h = absurd h
in_by_name q (p ∷ ps) h = go (in_put p q (by_name ps) h) (in_by_name q ps)
  where
    go : (q ≡ p) ⊎ In q (by_name ps) → (In q (by_name ps) → In q ps) → In q (p ∷ ps)
    go (inl e) ih = inl e
    go (inr k) ih = inr (ih k)

put_other : (name : Text) (p : Pair) (bs : List Pair) → named name p ≡ false → find (named name) (put p bs) ≡ find (named name) bs
put_other name p [] h = ap (λ c. cond c (Some p) None) h
put_other name p (x ∷ bs) h = go (is_below p.name x.name) (put_other name p bs h)
  where
    go : (b : Bool) → find (named name) (put p bs) ≡ find (named name) bs → find (named name) (cond b (p ∷ x ∷ bs) (x ∷ put p bs)) ≡ find (named name) (x ∷ bs)
    go true ih = ap (λ c. cond c (Some p) (find (named name) (x ∷ bs))) h
    go false ih = ap (λ o. cond (named name x) (Some x) o) ih

put_own : (name : Text) (p : Pair) (bs : List Pair) → named name p ≡ true → ((q : Pair) → In q bs → named name q ≡ false) → find (named name) (put p bs) ≡ Some p
put_own name p [] h others = ap (λ c. cond c (Some p) None) h
put_own name p (x ∷ bs) h others = go (is_below p.name x.name) (put_own name p bs h (λ q k. others q (inr k)))
  where
    go : (b : Bool) → find (named name) (put p bs) ≡ Some p → find (named name) (cond b (p ∷ x ∷ bs) (x ∷ put p bs)) ≡ Some p
    go true ih = ap (λ c. cond c (Some p) (find (named name) (x ∷ bs))) h
    go false ih = ap (λ c. cond c (Some x) (find (named name) (put p bs))) (others x (inl refl)) ∙ ih

abbrev NamesApart : List Pair → Type 0
NamesApart [] = Unit {0}
NamesApart (p ∷ ps) = ((q : Pair) → In q ps → bytes_eq q.name p.name ≡ false) × NamesApart ps

by_name_finds : (name : Text) (ps : List Pair) → NamesApart ps → find (named name) (by_name ps) ≡ find (named name) ps
by_name_finds name [] apart = refl
by_name_finds name (p ∷ ps) apart = go (named name p) refl (by_name_finds name ps apart.1)
  where
    go : (b : Bool) → named name p ≡ b → find (named name) (by_name ps) ≡ find (named name) ps → find (named name) (put p (by_name ps)) ≡ cond (named name p) (Some p) (find (named name) ps)
    go true e ih =
        put_own name p (by_name ps) e
        (λ q k. subst (λ w. bytes_eq q.name w ≡ false) (same_place p.name name e) (apart.0 q (in_by_name q ps k)))
        ∙ sym (ap (λ c. cond c (Some p) (find (named name) ps)) e)
    go false e ih = put_other name p (by_name ps) e ∙ ih ∙ sym (ap (λ c. cond c (Some p) (find (named name) ps)) e)

abbrev TextsApart : List Text → Type 0
TextsApart [] = Unit {0}
TextsApart (n ∷ ns) = ((m : Text) → In m ns → bytes_eq m n ≡ false) × TextsApart ns

pair_name : (limit : Text → Option Text) (names vs : List Text) (q : Pair) → In q (paired limit names vs) → In q.name names
pair_name limit [] vs q h = absurd h
pair_name limit (n ∷ names) [] q h = absurd h
pair_name limit (n ∷ names) (v ∷ vs) q (inl e) = inl (ap (λ (p : Pair). p.name) e)
pair_name limit (n ∷ names) (v ∷ vs) q (inr k) = inr (pair_name limit names vs q k)

pairs_apart : (limit : Text → Option Text) (names vs : List Text) → TextsApart names → NamesApart (paired limit names vs)
pairs_apart limit [] vs h = tt
pairs_apart limit (n ∷ names) [] h = tt
pairs_apart limit (n ∷ names) (v ∷ vs) h = (λ q k. h.0 q.name (pair_name limit names vs q k), pairs_apart limit names vs h.1)

filter_apart : (T : Text → Bool) (ns : List Text) → TextsApart ns → TextsApart (filter T ns)
filter_apart T [] h = tt
filter_apart T (n ∷ ns) h = go (T n) (filter_apart T ns h.1)
  where
    go : (b : Bool) → TextsApart (filter T ns) → TextsApart (cond b (n ∷ filter T ns) (filter T ns))
    go true ih = (λ m k. h.0 m ((filter_in T ns m k).0), ih)
    go false ih = ih

names_apart : (ps : List Piece) → TextsApart (names_in ps)
names_apart [] = tt
names_apart (plain t ∷ ps) = names_apart ps
names_apart (hole name limit ∷ ps) = (
  λ m k. same_flipped m name ∙ not_true (bytes_eq name m) ((filter_in (λ other. not (bytes_eq name other)) (names_in ps) m k).1),
  filter_apart (λ other. not (bytes_eq name other)) (names_in ps) (names_apart ps),
)

-- ## Filling

abbrev hole_name : Piece → List Text
hole_name (plain t) = []
hole_name (hole name limit) = name ∷ []

in_names : (ps : List Piece) (p : Piece) (name : Text) → In p ps → In name (hole_name p) → In name (names_in ps)
in_names [] p name h k = absurd h
in_names (plain t ∷ ps) p name (inl e) k = absurd (subst (λ w. In name (hole_name w)) e k)
in_names (plain t ∷ ps) p name (inr h) k = in_names ps p name h k
in_names (hole n limit ∷ ps) p name (inl e) k = own (subst (λ w. In name (hole_name w)) e k)
  where
    own : In name (n ∷ []) → In name (names_in (hole n limit ∷ ps))
    own (inl s) = inl s
    own (inr k) = absurd k
in_names (hole n limit ∷ ps) p name (inr h) k = go (bytes_eq n name) refl (in_names ps p name h k)
  where
    go : (b : Bool) → bytes_eq n name ≡ b → In name (names_in ps) → In name (names_in (hole n limit ∷ ps))
    go true e i = inl (sym (same_place n name e))
    go false e i = inr (in_filter (λ other. not (bytes_eq n other)) (names_in ps) name i (ap not e))

fill_is :
    (b : List Pair) (names vs : List Text) → ((name : Text) → In name names → or_empty (value b name) ≡ get_or vs (place_of name names) []) →
    (ps : List Piece) → ((p : Piece) (name : Text) → In p ps → In name (hole_name p) → In name names) →
    flat_map (fill_piece b) ps ≡ filled (map (part_in names) ps) vs
fill_is b names vs has [] within = refl
fill_is b names vs has (plain t ∷ ps) within = ap (λ x. t ++ x) (fill_is b names vs has ps (λ p name i k. within p name (inr i) k))
fill_is b names vs has (hole name limit ∷ ps) within =
    let first = has name (within (hole name limit) name (inl refl) (inl refl)) in
    let later = fill_is b names vs has ps (λ p name i k. within p name (inr i) k) in
    λ i. first i ++ later i

first_value : (vss : List (List Text)) (vs : List Text) → first_values vss ≡ Some vs → In vs vss
first_value [] vs h = absurd (none_some None vs refl h)
first_value (x ∷ vss) vs h = inl (sym (some_inj x vs h))

pub bound_fills_from : AreNumbered → BoundFills
bound_fills_from numbered limits t path b e =
    let r = mapped (λ values. by_name (bound_pairs (shape_of limits t).wildcards values)) (bound (shape_of limits t) path) b e in
    let names = names_in (pieces t) in
    let limit : Text → Option Text = λ name. limit_for limits name (inline_limits name (pieces t)) in
    let s =
    sure (map (λ (w : Wildcard). w.limit) (shape_of limits t).wildcards) (map (part_in (names_in (pieces t))) (pieces t)) path [] (length (names_in (pieces t))) r.0
    (numbered (pieces t)) (first_value _ r.0 r.1) in
    subst (λ c. fill c t ≡ path) r.2
    (fill_is (by_name (paired limit (names_in (pieces t)) r.0)) (names_in (pieces t)) r.0
    (λ name i. ap (λ o. or_empty (option_map (λ (p : Pair). p.value) o)) (by_name_finds name (paired limit (names_in (pieces t)) r.0) (pairs_apart limit (names_in (pieces t)) r.0 (names_apart (pieces t))))
    ∙ ap or_empty (pairs_value limit (names_in (pieces t)) r.0 name s.so_many i))
    (pieces t) (in_names (pieces t))
    ∙ s.fills)
