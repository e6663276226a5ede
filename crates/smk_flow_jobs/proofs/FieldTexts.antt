-- Texts that aren't read as patterns, with the names in their braces filled.
use Rattle.std.proofs.Common.{◌≡◌, ◌≢◌, ℕ, suc, ◌<◌, ◌==◌, ◌&&◌, ◌||◌, not, List, [], ◌∷◌, ◌++◌, length, get_or, Option, Some, None, option_map, Bool, true, false, cond, refl, sym, ap, subst, ◌∙◌, arith, append-nil, append_assoc}
use Rattle.std.specs.List.{list_all}
use Rattle.std.specs.Int.{is_in_range}
use Rattle.std.proofs.lemmas.Bool.Decides.{nat_tests}
use Rattle.std.proofs.lemmas.Bool.{and_parts, not-true}
use Rattle.smk_base.specs.declared.tree.Pair.{Pair}
use Rattle.smk_pattern.specs.Shapes.{Text}
use Rattle.smk_pattern.specs.Grammar.{is_letter, is_name}
use Rattle.smk_pattern.specs.Reading.{filling, fill_words, one_name, longer_name, value, or_empty}
use Rattle.smk_flow.specs.Begun.{lacks, from_brace}

-- ---- a byte that doesn't stand in a text

differs : (b c : ℕ) → (b ≡ c → ⊥) → not (b == c) ≡ true
differs b c h = go (b == c) refl
  where
    go : (x : Bool) → (b == c) ≡ x → not x ≡ true
    go true e = absurd (h (grind (arith, nat_tests)))
    go false e = refl

and_both : (a b : Bool) → a ≡ true → b ≡ true → (a && b) ≡ true
and_both a b ea eb = ap (λ (x : Bool). x && b) ea ∙ eb

pub free : (c : ℕ) (t : Text) → ((i : ℕ) → i < length t → get_or t i 0 ≢ c) → lacks c t ≡ true
free c [] h = refl
free c (b ∷ t) h = and_both (not (b == c)) (lacks c t) (differs b c (h 0 (omega arith))) (free c t (λ i lt. h (suc i) (omega (arith, lt))))

pub lacks_behind : (c d : ℕ) (n t : Text) → lacks c (n ++ d ∷ t) ≡ true → lacks c t ≡ true
lacks_behind c d [] t h = (and_parts (not (d == c)) (lacks c t) h).1
lacks_behind c d (b ∷ n) t h = lacks_behind c d n t (and_parts (not (b == c)) (lacks c (n ++ d ∷ t)) h).1

-- ---- one byte more

abbrev name_at : List Pair → Text → Option (Text × Text)
name_at b t = (filling b t).name

abbrev is_in_name : ℕ → Bool
is_in_name x = is_letter x || is_in_range 48 57 x

abbrev grown : ℕ → Text × Text → Text × Text
grown x c = (x ∷ c.0, c.1)

plain_byte : (w : Text) (b : List Pair) (x : ℕ) (o : Option (Text × Text)) → (x == 123) ≡ false → one_name w b x o ≡ x ∷ w
plain_byte w b x None e = refl
plain_byte w b x (Some c) e = ap (λ (v : Bool). cond (v && is_name c.0) (or_empty (value b c.0) ++ c.1) (x ∷ w)) e

plain : (b : List Pair) (t : Text) → lacks 123 t ≡ true → fill_words b t ≡ t
plain b [] h = refl
plain b (x ∷ t) h =
    plain_byte (fill_words b t) b x (name_at b t) (not-true (x == 123) (and_parts (not (x == 123)) (lacks 123 t) h).0)
    ∙ ap (λ (u : Text). x ∷ u) (plain b t (and_parts (not (x == 123)) (lacks 123 t) h).1)

longer : (x : ℕ) (w : Text) (o : Option (Text × Text)) → (x == 125) ≡ false → longer_name x w o ≡ cond (is_in_name x) (option_map (grown x) o) None
longer x w o e = ap (λ (v : Bool). cond v (Some ([], w)) (cond (is_in_name x) (option_map (grown x) o) None)) e

-- ---- a name, or none

unclosed : (b : List Pair) (n : Text) → lacks 125 n ≡ true → name_at b n ≡ None
unclosed b [] h = refl
unclosed b (x ∷ n) h =
    longer x (fill_words b n) (name_at b n) (not-true (x == 125) (and_parts (not (x == 125)) (lacks 125 n) h).0)
    ∙ ap (λ (o : Option (Text × Text)). cond (is_in_name x) (option_map (grown x) o) None) (unclosed b n (and_parts (not (x == 125)) (lacks 125 n) h).1)
    ∙ none (is_in_name x)
  where
    none : (v : Bool) → cond v (option_map (grown x) None) None ≡ None
    none true = refl
    none false = refl

closed : (b : List Pair) (n t : Text) → lacks 125 n ≡ true → name_at b (n ++ 125 ∷ t) ≡ cond (list_all is_in_name n) (Some (n, fill_words b t)) None
closed b [] t h = refl
closed b (x ∷ n) t h =
    longer x (fill_words b (n ++ 125 ∷ t)) (name_at b (n ++ 125 ∷ t)) (not-true (x == 125) (and_parts (not (x == 125)) (lacks 125 n) h).0)
    ∙ ap (λ (o : Option (Text × Text)). cond (is_in_name x) (option_map (grown x) o) None) (closed b n t (and_parts (not (x == 125)) (lacks 125 n) h).1)
    ∙ both (is_in_name x) (list_all is_in_name n)
  where
    both : (v u : Bool) → cond v (option_map (grown x) (cond u (Some (n, fill_words b t)) None)) None ≡ cond (v && u) (Some (x ∷ n, fill_words b t)) None
    both true true = refl
    both true false = refl
    both false u = refl

name_bytes : (n : Text) → is_name n ≡ true → list_all is_in_name n ≡ true
name_bytes [] e = refl
name_bytes (x ∷ n) e =
    and_both (is_in_name x) (list_all is_in_name n) (ap (λ (v : Bool). v || is_in_range 48 57 x) (and_parts (is_letter x) (list_all is_in_name n) e).0)
    (and_parts (is_letter x) (list_all is_in_name n) e).1

-- a brace stands for itself before what closes none
pub itself : (b : List Pair) (t : Text) → lacks 123 t ≡ true → lacks 125 t ≡ true → 123 ∷ t ≡ fill_words b (123 ∷ t)
itself b t opens closes =
    sym (ap (λ (o : Option (Text × Text)). one_name (fill_words b t) b 123 o) (unclosed b t closes) ∙ ap (λ (u : Text). 123 ∷ u) (plain b t opens))

-- and before what closes something else than a name
pub no_name : (b : List Pair) (t n later : Text) → t ≡ n ++ 125 ∷ later → lacks 123 t ≡ true → lacks 125 n ≡ true → is_name n ≡ false → 123 ∷ t ≡ fill_words b (123 ∷ t)
no_name b t n later is opens closes e =
    sym (ap (λ (o : Option (Text × Text)). one_name (fill_words b t) b 123 o) (ap (name_at b) is ∙ closed b n later closes)
    ∙ go (list_all is_in_name n) ∙ ap (λ (u : Text). 123 ∷ u) (plain b t opens))
  where
    go : (v : Bool) → one_name (fill_words b t) b 123 (cond v (Some (n, fill_words b later)) None) ≡ 123 ∷ fill_words b t
    go true = ap (λ (u : Bool). cond u (or_empty (value b n) ++ fill_words b later) (123 ∷ fill_words b t)) e
    go false = refl

-- a name in braces stands for its value
pub a_name : (b : List Pair) (t n later : Text) → t ≡ n ++ 125 ∷ later → lacks 123 t ≡ true → lacks 125 n ≡ true → is_name n ≡ true →
    or_empty (value b n) ++ later ≡ fill_words b (123 ∷ t)
a_name b t n later is opens closes e =
    sym (ap (λ (o : Option (Text × Text)). one_name (fill_words b t) b 123 o)
    (ap (name_at b) is ∙ closed b n later closes ∙ ap (λ (v : Bool). cond v (Some (n, fill_words b later)) None) (name_bytes n e))
    ∙ ap (λ (u : Bool). cond u (or_empty (value b n) ++ fill_words b later) (123 ∷ fill_words b t)) e
    ∙ ap (λ (u : Text). or_empty (value b n) ++ u) (plain b later (lacks_behind 123 125 n later (subst (λ (u : Text). lacks 123 u ≡ true) is opens))))

-- ---- a brace that opens begins anew

abbrev followed : Text → Text × Text → Text × Text
followed f c = (c.0, c.1 ++ f)

abbrev more : Text → Option (Text × Text) → Option (Text × Text)
more f o = option_map (followed f) o

whole_step : (w f : Text) (b : List Pair) (x : ℕ) (o : Option (Text × Text)) → one_name (w ++ f) b x (more f o) ≡ one_name w b x o ++ f
whole_step w f b x None = refl
whole_step w f b x (Some c) = go ((x == 123) && is_name c.0)
  where
    go : (v : Bool) → cond v (or_empty (value b c.0) ++ (c.1 ++ f)) (x ∷ (w ++ f)) ≡ cond v (or_empty (value b c.0) ++ c.1) (x ∷ w) ++ f
    go true = sym (append_assoc (or_empty (value b c.0)) c.1 f)
    go false = refl

name_step : (x : ℕ) (w f : Text) (o : Option (Text × Text)) → longer_name x (w ++ f) (more f o) ≡ more f (longer_name x w o)
name_step x w f o = go (x == 125) (is_in_name x) o
  where
    go : (v u : Bool) (o : Option (Text × Text)) →
        cond v (Some ([], w ++ f)) (cond u (option_map (grown x) (more f o)) None)
        ≡ more f (cond v (Some ([], w)) (cond u (option_map (grown x) o) None))
    go true u o = refl
    go false true None = refl
    go false true (Some c) = refl
    go false false o = refl

both_anew : (b : List Pair) (t r : Text) → (name_at b (t ++ 123 ∷ r) ≡ more (fill_words b (123 ∷ r)) (name_at b t))
    × (fill_words b (t ++ 123 ∷ r) ≡ fill_words b t ++ fill_words b (123 ∷ r))
both_anew b [] r = (refl, refl)
both_anew b (x ∷ t) r =
    let h = both_anew b t r in
    let f = fill_words b (123 ∷ r) in (
      ap (λ (w : Text). longer_name x w (name_at b (t ++ 123 ∷ r))) h.1 ∙ ap (λ (o : Option (Text × Text)). longer_name x (fill_words b t ++ f) o) h.0
          ∙ name_step x (fill_words b t) f (name_at b t),
      ap (λ (w : Text). one_name w b x (name_at b (t ++ 123 ∷ r))) h.1 ∙ ap (λ (o : Option (Text × Text)). one_name (fill_words b t ++ f) b x o) h.0
          ∙ whole_step (fill_words b t) f b x (name_at b t),
    )

pub anew : (b : List Pair) (t : Text) (rest : Option Text) → fill_words b (t ++ from_brace rest) ≡ fill_words b t ++ fill_words b (from_brace rest)
anew b t None = ap (fill_words b) (append-nil t) ∙ sym (append-nil (fill_words b t))
anew b t (Some r) = (both_anew b t r).1

-- a text up to its first brace that opens
pub front_plain : (b : List Pair) (text front : Text) (rest : Option Text) → text ≡ front ++ from_brace rest → lacks 123 front ≡ true →
    front ++ fill_words b (from_brace rest) ≡ fill_words b text
front_plain b text front rest is opens = sym (ap (fill_words b) is ∙ anew b front rest ∙ ap (λ (u : Text). u ++ fill_words b (from_brace rest)) (plain b front opens))

-- what is made so far, with one more segment
pub one_more : (b : List Pair) (made more whole value plain behind segment : Text) (rest : Option Text) →
    made ++ fill_words b (123 ∷ behind) ≡ whole → behind ≡ segment ++ from_brace rest → value ++ plain ≡ fill_words b (123 ∷ segment) →
    more ≡ (made ++ value) ++ plain → more ++ fill_words b (from_brace rest) ≡ whole
one_more b made more whole value plain behind segment rest so_far is here e =
    ap (λ (u : Text). u ++ fill_words b (from_brace rest)) (e ∙ append_assoc made value plain ∙ ap (λ (u : Text). made ++ u) here)
    ∙ append_assoc made (fill_words b (123 ∷ segment)) (fill_words b (from_brace rest))
    ∙ ap (λ (u : Text). made ++ u) (sym (anew b (123 ∷ segment) rest) ∙ ap (λ (u : Text). fill_words b (123 ∷ u)) (sym is))
    ∙ so_far
