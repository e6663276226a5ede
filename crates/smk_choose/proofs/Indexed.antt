-- The numbers of the rules that are tried for a path.
use Rattle.std.proofs.Common.{◌≡◌, ℕ, ◌+◌, ◌<◌, ◌≤◌, ◌==◌, ◌||◌, Bool, true, false, cond, if◌then◌else◌, List, [], ◌∷◌, ◌++◌, length, bytes_eq, Option, Some, None, slice_get, refl, sym, ap, subst, ◌∙◌, arith}
use Rattle.std.proofs.lemmas.Bool.{eqb-true, eqb-false, eq-eqb, or_left, or_right}
use Rattle.std.proofs.lemmas.Slice.Eq.{bytes_eq-Decides}
use Rattle.smk_pattern.specs.Shapes.{Text}
use Rattle.smk_choose.specs.Index.{Rises, AreBelow, has_number, is_number, is_last, HasAdded, HasAddedWhere, or_no}

-- ---- lists of numbers

pub rises_from : (from to : ℕ) (ns : List ℕ) → to ≤ from → Rises from ns → Rises to ns
rises_from from to [] le h = tt
rises_from from to (n ∷ ns) le h = (omega (arith, le, h.0), h.1)

rises_push : (from n : ℕ) (ns : List ℕ) → from ≤ n → AreBelow n ns → Rises from ns → Rises from (ns ++ n ∷ [])
rises_push from n [] le below h = (le, tt)
rises_push from n (m ∷ ns) le below h = (h.0, rises_push (m + 1) n ns (omega (arith, below.0)) below.1 h.1)

pub below_more : (a b : ℕ) (ns : List ℕ) → a ≤ b → AreBelow a ns → AreBelow b ns
below_more a b [] le h = tt
below_more a b (n ∷ ns) le h = (omega (arith, le, h.0), below_more a b ns le h.1)

below_push : (end n : ℕ) (ns : List ℕ) → n < end → AreBelow end ns → AreBelow end (ns ++ n ∷ [])
below_push end n [] lt h = (lt, tt)
below_push end n (m ∷ ns) lt h = (h.0, below_push end n ns lt h.1)

pub or_swap : (a b c : Bool) → (a || (b || c)) ≡ (b || (a || c))
or_swap true true c = refl
or_swap true false c = refl
or_swap false b c = refl

has_push : (m n : ℕ) (ns : List ℕ) → has_number m (ns ++ n ∷ []) ≡ (m == n || has_number m ns)
has_push m n [] = refl
has_push m n (k ∷ ns) = ap (λ b. m == k || b) (has_push m n ns) ∙ or_swap (m == k) (m == n) (has_number m ns)

last_at : (n m : ℕ) (ns : List ℕ) → is_last n (m ∷ ns) ≡ is_number n (slice_get (m ∷ ns) (length ns))
last_at n m ns = ap (λ i. is_number n (slice_get (m ∷ ns) i)) (omega arith)

last_later : (n m k : ℕ) (ns : List ℕ) → is_last n (k ∷ ns) ≡ is_last n (m ∷ k ∷ ns)
last_later n m k ns = last_at n k ns ∙ sym (last_at n m (k ∷ ns))

last_below : (n from : ℕ) (ns : List ℕ) → is_last n ns ≡ false → AreBelow (n + 1) ns → Rises from ns → AreBelow n ns
last_below n from [] e below h = tt
last_below n from (m ∷ []) e below h =
    let other : m ≡ n → ⊥ = eqb-false m n e in
    (less m n below.0 other, tt)
  where
    less : (m n : ℕ) → m < n + 1 → (m ≡ n → ⊥) → m < n
    less m n lt other = omega (arith, lt, other)
last_below n from (m ∷ k ∷ ns) e below h =
    (omega (arith, below.1.0, h.1.0), last_below n (m + 1) (k ∷ ns) (last_later n m k ns ∙ e) below.1 h.1)

last_has : (n : ℕ) (ns : List ℕ) → is_last n ns ≡ true → has_number n ns ≡ true
last_has n [] e = absurd (no_last e)
  where
    no_last : false ≡ true → ⊥
    no_last e = cc
last_has n (m ∷ []) e = or_left (n == m) false (eq-eqb n m (sym (eqb-true m n e)))
last_has n (m ∷ k ∷ ns) e = or_right (n == m) (has_number n (k ∷ ns)) (last_has n (k ∷ ns) (last_later n m k ns ∙ e))

pub stays : (n : ℕ) (ns : List ℕ) → is_last n ns ≡ true → HasAdded n ns ns
stays n ns e = record { rises = λ b r. r; below = λ b. b; has = λ m. go m (m == n) refl }
  where
    go : (m : ℕ) (b : Bool) → (m == n) ≡ b → has_number m ns ≡ (b || has_number m ns)
    go m true same = ap (λ k. has_number k ns) (eqb-true m n same) ∙ last_has n ns e
    go m false other = refl

pub pushed : (n : ℕ) (old new : List ℕ) → is_last n old ≡ false → new ≡ old ++ n ∷ [] → HasAdded n old new
pushed n old new e is = subst (HasAdded n old) (sym is) made
  where
    made : HasAdded n old (old ++ n ∷ [])
    made = record {
      rises = λ b r. rises_push 0 n old (omega arith) (last_below n 0 old e b r) r;
      below = λ b. below_push (n + 1) n old (omega arith) b;
      has = λ m. has_push m n old;
    }

-- ---- those kept for a text

or_no_cond : (b : Bool) (ns : List ℕ) (o : Option (List ℕ)) → or_no (cond b (Some ns) o) ≡ cond b ns (or_no o)
or_no_cond true ns o = refl
or_no_cond false ns o = refl

pub text_put : (b : Bool) (ns : List ℕ) (now o : Option (List ℕ)) → now ≡ cond b (Some ns) o → or_no now ≡ cond b ns (or_no o)
text_put b ns now o e = ap or_no e ∙ or_no_cond b ns o

text_gone : (b : Bool) (o : Option (List ℕ)) → or_no (cond b None o) ≡ if b then [] else or_no o
text_gone true o = refl
text_gone false o = refl

pub text_taken : (b : Bool) (now o : Option (List ℕ)) → now ≡ cond b None o → or_no now ≡ if b then [] else or_no o
text_taken b now o e = ap or_no e ∙ text_gone b o

pub text_added : (t : Text) (n : ℕ) (was numbers : List ℕ) (old left new : Text → List ℕ) → was ≡ old t → HasAdded n was numbers →
    ((q : Text) → left q ≡ if bytes_eq t q then [] else old q) → ((q : Text) → new q ≡ cond (bytes_eq t q) numbers (left q)) →
    (q : Text) → HasAddedWhere (bytes_eq t q) n (old q) (new q)
text_added t n was numbers old left new is added taken put q = go (bytes_eq t q) refl (taken q) (put q)
  where
    go : (b : Bool) → bytes_eq t q ≡ b → left q ≡ (if b then [] else old q) → new q ≡ cond b numbers (left q) → HasAddedWhere b n (old q) (new q)
    go true same gone there = subst (HasAdded n (old q)) (sym there) (subst (λ ns. HasAdded n ns numbers) (is ∙ ap old ((bytes_eq-Decides t q).0 same)) added)
    go false other gone there = there ∙ gone
