-- What a reader takes is no end, and where it refuses, a fault stands there.
use Rattle.std.proofs.Common.{◌≡◌, ℕ, zero, suc, Bool, true, false, List, [], ◌∷◌, ◌++◌, length, Option, Some, None, Ok, Err, refl, sym, ap, subst, ◌∙◌, append_assoc, inl, inr, cond, ◌&&◌}
use Rattle.std.specs.Prelude.{codes, not}
use Rattle.std.specs.Str.{bytes_eq}
use Rattle.std.proofs.lemmas.Bool.{and_parts, cases_Bool}
use Rattle.smk_parse_expr.specs.declared.symbol.Symbol.{Symbol}
use Rattle.smk_parse_expr.specs.declared.symbol.Symbol.TheVariants as s
use Rattle.smk_parse_expr.specs.declared.symbol.Sign.{Sign}
use Rattle.smk_parse_expr.specs.declared.symbol.Sign.TheVariants.{Comma, Equals, Open, Close, OpenSquare, CloseSquare, Point, Plus, Colon, Greater}
use Rattle.smk_parse_expr.specs.declared.symbol.ParseFault.{ParseFault}
use Rattle.smk_parse_expr.specs.declared.symbol.ParseFault.TheVariants.{Unexpected, Unsupported, Doubled}
use Rattle.smk_parse_expr.specs.declared.symbol.Keyword.{Keyword}
use Rattle.smk_parse_expr.specs.declared.symbol.Keyword.TheVariants as word
use Rattle.smk_parse_tree.specs.declared.syntax.Expr.{Expr}
use Rattle.smk_parse_tree.specs.declared.syntax.Expr.TheVariants as e
use Rattle.smk_parse_tree.specs.declared.syntax.ItemForm.{ItemForm}
use Rattle.smk_parse_tree.specs.declared.syntax.ExpandForm.{roll-ExpandForm}
use Rattle.smk_parse_tree.specs.declared.syntax.OutputPick.TheVariants as pick
use Rattle.smk_parse_expr.specs.Symbols.{Bytes, Parser, Outcome, and_then, ◌>>=◌, ◌<$>◌, pure, sees, next, eat, word_of, expect, refuse, refusal, goes_on, is_unsupported, at_end, end}
use Rattle.smk_parse_expr.specs.Exprs.{texts, text, name, number, spelled, by_name, by_place, picked, outputs, gathered, plain, keys, keys_from, closed, listed, listed_from, has_name, is_zip, zip, valued, argument, arguments_from, arguments, expanded, flagged, many, named, by_word, term, terms_from, terms, level, summed, expr, opened_by, max_depth}
use Rattle.smk_parse_expr.specs.Items.{has_named, positional, item, another, items_from, items}
use Rattle.smk_parse_expr.specs.Faults.{NoEnds, IsRefused, unexpected, unexpected_end, unsupported, doubled, IsJudged}
use Rattle.smk_parse_expr.proofs.Steps.{done, sees-found}

abbrev IsFair : {A : Type 0} → Parser A → Type 0
IsFair p = (i : List Symbol) → IsJudged i (p i)

-- ---- symbols in front

no_ends-append : (xs ys : List Symbol) → NoEnds xs → NoEnds ys → NoEnds (xs ++ ys)
no_ends-append [] ys h k = k
no_ends-append (s.Name at w ∷ xs) ys h k = no_ends-append xs ys h k
no_ends-append (s.Number at n ∷ xs) ys h k = no_ends-append xs ys h k
no_ends-append (s.Text at t ∷ xs) ys h k = no_ends-append xs ys h k
no_ends-append (s.Sign at l ∷ xs) ys h k = no_ends-append xs ys h k
no_ends-append (s.Newline at ∷ xs) ys h k = absurd h
no_ends-append (s.Indent at ∷ xs) ys h k = absurd h
no_ends-append (s.Dedent at ∷ xs) ys h k = absurd h

refused-behind : (xs i : List Symbol) (f : ParseFault) → NoEnds xs → IsRefused i f → IsRefused (xs ++ i) f
refused-behind xs i f none (unexpected us ys y at why) = unexpected (xs ++ us) ys y (ap (λ (v : List Symbol). xs ++ v) at ∙ sym (append_assoc xs us (y ∷ ys))) why
refused-behind xs i f none (unexpected_end h) = unexpected_end (no_ends-append xs i none h)
refused-behind xs i f none (unsupported us ys at w same why) =
    unsupported (xs ++ us) ys at w (ap (λ (v : List Symbol). xs ++ v) same ∙ sym (append_assoc xs us (s.Name at w ∷ ys))) why
refused-behind xs i f none (doubled us ys a b w same) =
    doubled (xs ++ us) ys a b w (ap (λ (v : List Symbol). xs ++ v) same ∙ sym (append_assoc xs us (s.Name a w ∷ s.Sign b Equals ∷ ys)))

judged-behind : {A : Type 0} (xs i : List Symbol) (r : Outcome A) → NoEnds xs → IsJudged i r → IsJudged (xs ++ i) r
judged-behind xs i (Ok p) none (us, same, h) = (xs ++ us, ap (λ (v : List Symbol). xs ++ v) same ∙ sym (append_assoc xs us p.1), no_ends-append xs us none h)
judged-behind xs i (Err f) none h = refused-behind xs i f none h

-- ---- ways to combine

fair-pure : {A : Type 0} (a : A) → IsFair (pure a)
fair-pure a i = ([], refl, tt)

fair-refuse : (i : List Symbol) → IsRefused i (refusal i)
fair-refuse [] = unexpected_end tt
fair-refuse (s.Number at n ∷ xs) = unexpected [] xs (s.Number at n) refl refl
fair-refuse (s.Text at t ∷ xs) = unexpected [] xs (s.Text at t) refl refl
fair-refuse (s.Sign at k ∷ xs) = unexpected [] xs (s.Sign at k) refl refl
fair-refuse (s.Newline at ∷ xs) = unexpected [] xs (s.Newline at) refl refl
fair-refuse (s.Indent at ∷ xs) = unexpected [] xs (s.Indent at) refl refl
fair-refuse (s.Dedent at ∷ xs) = unexpected [] xs (s.Dedent at) refl refl
fair-refuse (s.Name at w ∷ xs) = elim (cases_Bool (is_unsupported (word_of w) xs)) [
  | inl yes_it_is ↦
      subst (IsRefused (s.Name at w ∷ xs)) (sym (ap (λ b. cond b (Unsupported at) (Unexpected at)) yes_it_is)) (unsupported [] xs at w refl yes_it_is)
  | inr none ↦
      let why : refusal (s.Name at w ∷ xs) ≡ Unexpected at = ap (λ b. cond b (Unsupported at) (Unexpected at)) none in
      subst (IsRefused (s.Name at w ∷ xs)) (sym why) (unexpected [] xs (s.Name at w) refl why)
]

judged-then : {A B : Type 0} (i : List Symbol) (r : Outcome A) (f : A → Parser B) → IsJudged i r → ((a : A) → IsFair (f a)) → IsJudged i (and_then r f)
judged-then {A} {B} i (Ok p) f (xs, same, none) fair =
    let behind = judged-behind xs p.1 (f p.0 p.1) none (fair p.0 p.1) in
    subst (λ (v : List Symbol). IsJudged v (f p.0 p.1)) (sym same) behind
judged-then i (Err e) f h fair = h

fair-then : {A B : Type 0} (p : Parser A) (f : A → Parser B) → IsFair p → ((a : A) → IsFair (f a)) → IsFair (p >>= f)
fair-then p f fair each i = judged-then i (p i) f (fair i) each

fair-if : {A : Type 0} (b : Bool) (p q : Parser A) → IsFair p → IsFair q → IsFair (cond b p q)
fair-if true p q h k i = h i
fair-if false p q h k i = k i

judged-if : {A : Type 0} (b : Bool) (i : List Symbol) (q r : Outcome A) → (b ≡ true → IsJudged i q) → (b ≡ false → IsJudged i r) → IsJudged i (cond b q r)
judged-if true i q r h k = h refl
judged-if false i q r h k = k refl

-- ---- steps

one_sign : (k : Sign) (i : List Symbol) → sees k i ≡ true → (xs : List Symbol) × (i ≡ xs ++ next i) × NoEnds xs
one_sign k i met = let f = sees-found k i met in (s.Sign f.0 k ∷ [], f.2 ∙ ap (λ (v : List Symbol). s.Sign f.0 k ∷ v) (ap next (sym f.2)), tt)

fair-eat : (k : Sign) → IsFair (eat k)
fair-eat k i = elim (cases_Bool (sees k i)) [
  | inl met ↦ subst (λ b. IsJudged i (done b (cond b (next i) i))) (sym met) (one_sign k i met)
  | inr none ↦ subst (λ b. IsJudged i (done b (cond b (next i) i))) (sym none) ([], refl, tt)
]

fair-expect : (k : Sign) → IsFair (expect k)
unfolding expect
fair-expect k i = judged-if (sees k i) i (done tt (next i)) (refuse i) (one_sign k i) (λ _. fair-refuse i)

fair-text : IsFair text
unfolding text
fair-text [] = fair-refuse []
fair-text (s.Text at t ∷ xs) = (s.Text at t ∷ [], refl, tt)
fair-text (s.Name at w ∷ xs) = fair-refuse (s.Name at w ∷ xs)
fair-text (s.Number at n ∷ xs) = fair-refuse (s.Number at n ∷ xs)
fair-text (s.Sign at k ∷ xs) = fair-refuse (s.Sign at k ∷ xs)
fair-text (s.Newline at ∷ xs) = fair-refuse (s.Newline at ∷ xs)
fair-text (s.Indent at ∷ xs) = fair-refuse (s.Indent at ∷ xs)
fair-text (s.Dedent at ∷ xs) = fair-refuse (s.Dedent at ∷ xs)

fair-name : IsFair name
unfolding name
fair-name [] = fair-refuse []
fair-name (s.Name at w ∷ xs) = (s.Name at w ∷ [], refl, tt)
fair-name (s.Text at w ∷ xs) = fair-refuse (s.Text at w ∷ xs)
fair-name (s.Number at n ∷ xs) = fair-refuse (s.Number at n ∷ xs)
fair-name (s.Sign at k ∷ xs) = fair-refuse (s.Sign at k ∷ xs)
fair-name (s.Newline at ∷ xs) = fair-refuse (s.Newline at ∷ xs)
fair-name (s.Indent at ∷ xs) = fair-refuse (s.Indent at ∷ xs)
fair-name (s.Dedent at ∷ xs) = fair-refuse (s.Dedent at ∷ xs)

fair-number : IsFair number
unfolding number
fair-number [] = fair-refuse []
fair-number (s.Number at n ∷ xs) = (s.Number at n ∷ [], refl, tt)
fair-number (s.Text at w ∷ xs) = fair-refuse (s.Text at w ∷ xs)
fair-number (s.Name at w ∷ xs) = fair-refuse (s.Name at w ∷ xs)
fair-number (s.Sign at k ∷ xs) = fair-refuse (s.Sign at k ∷ xs)
fair-number (s.Newline at ∷ xs) = fair-refuse (s.Newline at ∷ xs)
fair-number (s.Indent at ∷ xs) = fair-refuse (s.Indent at ∷ xs)
fair-number (s.Dedent at ∷ xs) = fair-refuse (s.Dedent at ∷ xs)

fair-spelled : (k : Bytes) → IsFair (spelled k)
unfolding spelled
fair-spelled k [] = fair-refuse []
fair-spelled k (s.Name at w ∷ xs) =
    judged-if (bytes_eq w k) (s.Name at w ∷ xs) (done tt xs) (refuse (s.Name at w ∷ xs)) (λ _. (s.Name at w ∷ [], refl, tt)) (λ _. fair-refuse (s.Name at w ∷ xs))
fair-spelled k (s.Text at w ∷ xs) = fair-refuse (s.Text at w ∷ xs)
fair-spelled k (s.Number at n ∷ xs) = fair-refuse (s.Number at n ∷ xs)
fair-spelled k (s.Sign at l ∷ xs) = fair-refuse (s.Sign at l ∷ xs)
fair-spelled k (s.Newline at ∷ xs) = fair-refuse (s.Newline at ∷ xs)
fair-spelled k (s.Indent at ∷ xs) = fair-refuse (s.Indent at ∷ xs)
fair-spelled k (s.Dedent at ∷ xs) = fair-refuse (s.Dedent at ∷ xs)

-- ---- forms without an expression inside

fair-texts : (t : Bytes) → IsFair (texts t)
fair-texts t [] = ([], refl, tt)
fair-texts t (s.Text at u ∷ xs) = judged-behind (s.Text at u ∷ []) xs (texts (t ++ u) xs) tt (fair-texts (t ++ u) xs)
fair-texts t (s.Name at w ∷ xs) = ([], refl, tt)
fair-texts t (s.Number at n ∷ xs) = ([], refl, tt)
fair-texts t (s.Sign at k ∷ xs) = ([], refl, tt)
fair-texts t (s.Newline at ∷ xs) = ([], refl, tt)
fair-texts t (s.Indent at ∷ xs) = ([], refl, tt)
fair-texts t (s.Dedent at ∷ xs) = ([], refl, tt)

fair-keys_from : (n : ℕ) (found : List Bytes) → IsFair (keys_from n found)
unfolding keys_from
fair-keys_from zero found = fair-refuse
fair-keys_from (suc n) found =
    fair-then (eat OpenSquare) (λ more. cond more (text >>= (λ key. expect CloseSquare >>= (λ _. keys_from n (found ++ key ∷ [])))) (pure found)) (fair-eat OpenSquare)
    (λ more. fair-if more (text >>= (λ key. expect CloseSquare >>= (λ _. keys_from n (found ++ key ∷ [])))) (pure found)
    (fair-then text (λ key. expect CloseSquare >>= (λ _. keys_from n (found ++ key ∷ []))) fair-text
    (λ key. fair-then (expect CloseSquare) (λ _. keys_from n (found ++ key ∷ [])) (fair-expect CloseSquare) (λ _. fair-keys_from n (found ++ key ∷ []))))
    (fair-pure found))

fair-keys : IsFair keys
unfolding keys
fair-keys i = fair-keys_from (length i) [] i

fair-by_name : IsFair by_name
unfolding by_name
fair-by_name = fair-then name (λ w. pure (pick.Named w)) fair-name (λ w. fair-pure (pick.Named w))

fair-by_place : IsFair by_place
unfolding by_place
fair-by_place = fair-then number (λ n. expect CloseSquare >>= (λ _. pure (pick.At n))) fair-number
    (λ n. fair-then (expect CloseSquare) (λ _. pure (pick.At n)) (fair-expect CloseSquare) (λ _. fair-pure (pick.At n)))

-- behind a sign that was seen
judged-next : {A : Type 0} (k : Sign) (i : List Symbol) (r : Outcome A) → sees k i ≡ true → IsJudged (next i) r → IsJudged i r
judged-next k i r met h =
    let f = one_sign k i met in
    subst (λ (v : List Symbol). IsJudged v r) (sym f.1) (judged-behind f.0 (next i) r f.2 h)

fair-picked : IsFair picked
unfolding picked
fair-picked i =
    judged-if (sees Point i) i (by_name (next i)) (cond (sees OpenSquare i) (by_place (next i)) (Ok (pick.All, i)))
    (λ met. judged-next Point i (by_name (next i)) met (fair-by_name (next i)))
    (λ _. judged-if (sees OpenSquare i) i (by_place (next i)) (Ok (pick.All, i))
    (λ met. judged-next OpenSquare i (by_place (next i)) met (fair-by_place (next i)))
    (λ _. ([], refl, tt)))

abbrev out4 : Bytes → Unit {0} → Parser Expr
out4 rule _ = e.Outputs rule <$> picked

abbrev out3 : Bytes → Unit {0} → Parser Expr
out3 rule _ = spelled (codes "output") >>= out4 rule

abbrev out2 : Bytes → Parser Expr
out2 rule = expect Point >>= out3 rule

abbrev out1 : Unit {0} → Parser Expr
out1 _ = name >>= out2

fair-outputs : IsFair outputs
unfolding outputs
fair-outputs =
    fair-then (expect Point) out1 (fair-expect Point) (λ _. fair-then name out2 fair-name (λ rule. fair-then (expect Point) (out3 rule) (fair-expect Point)
    (λ _. fair-then (spelled (codes "output")) (out4 rule) (fair-spelled (codes "output"))
    (λ _. fair-then picked (λ p. pure (e.Outputs rule p)) fair-picked (λ p. fair-pure (e.Outputs rule p))))))

abbrev gather7 : Bytes → Bytes → Bytes → Unit {0} → Parser Expr
gather7 n l t _ = pure (e.FromCheckpoint n l t)

abbrev gather6 : Bytes → Bytes → Bytes → Parser Expr
gather6 n l t = expect Close >>= gather7 n l t

abbrev gather5 : Bytes → Bytes → Unit {0} → Parser Expr
gather5 n l _ = text >>= gather6 n l

abbrev gather4 : Bytes → Bytes → Parser Expr
gather4 n l = expect Comma >>= gather5 n l

abbrev gather3 : Bytes → Unit {0} → Parser Expr
gather3 n _ = text >>= gather4 n

abbrev gather2 : Bytes → Parser Expr
gather2 n = expect Comma >>= gather3 n

abbrev gather1 : Unit {0} → Parser Expr
gather1 _ = name >>= gather2

fair-gathered : IsFair gathered
unfolding gathered
fair-gathered =
    fair-then (expect Open) gather1 (fair-expect Open) (λ _. fair-then name gather2 fair-name (λ n. fair-then (expect Comma) (gather3 n) (fair-expect Comma)
    (λ _. fair-then text (gather4 n) fair-text (λ l. fair-then (expect Comma) (gather5 n l) (fair-expect Comma)
    (λ _. fair-then text (gather6 n l) fair-text (λ t. fair-then (expect Close) (gather7 n l t) (fair-expect Close) (λ _. fair-pure (e.FromCheckpoint n l t))))))))

-- ---- forms with expressions inside

one_name : (i : List Symbol) → is_zip i ≡ true → (xs : List Symbol) × (i ≡ xs ++ next i) × NoEnds xs
one_name [] h = absurd cc
one_name (s.Name at w ∷ xs) h = (s.Name at w ∷ [], refl, tt)
one_name (s.Text at w ∷ xs) h = absurd cc
one_name (s.Number at n ∷ xs) h = absurd cc
one_name (s.Sign at l ∷ xs) h = absurd cc
one_name (s.Newline at ∷ xs) h = absurd cc
one_name (s.Indent at ∷ xs) h = absurd cc
one_name (s.Dedent at ∷ xs) h = absurd cc

fair-zip : IsFair zip
fair-zip i = judged-if (sees Comma i && is_zip (next i)) i (done true (next (next i))) (done false i)
    (λ met.
    let f = and_parts (sees Comma i) (is_zip (next i)) met in
    judged-next Comma i (done true (next (next i))) f.0 (one_name (next i) f.1))
    (λ _. ([], refl, tt))

module _ (p : Parser Expr) (fair : IsFair p) where
  fair-closed : IsFair (closed p)
  unfolding closed
  fair-closed = fair-then p (λ x. expect Close >>= (λ _. pure x)) fair (λ x. fair-then (expect Close) (λ _. pure x) (fair-expect Close) (λ _. fair-pure x))

  fair-listed_from : (n : ℕ) (found : List Expr) → IsFair (listed_from p n found)
  unfolding listed_from
  fair-listed_from zero found = fair-refuse
  fair-listed_from (suc n) found =
      let last : Expr → Parser (List Expr) = λ x. expect CloseSquare >>= (λ _. pure (found ++ x ∷ [])) in
      let choose : Expr → Bool → Parser (List Expr) = λ x more. cond more (listed_from p n (found ++ x ∷ [])) (last x) in
      let reads : Parser (List Expr) = p >>= (λ x. eat Comma >>= choose x) in
      let fair_choose : (x : Expr) → (more : Bool) → IsFair (choose x more)
      = λ x more. fair-if more (listed_from p n (found ++ x ∷ [])) (last x) (fair-listed_from n (found ++ x ∷ []))
      (fair-then (expect CloseSquare) (λ _. pure (found ++ x ∷ [])) (fair-expect CloseSquare) (λ _. fair-pure (found ++ x ∷ []))) in
      fair-then (eat CloseSquare) (λ ends. cond ends (pure found) reads) (fair-eat CloseSquare)
      (λ ends. fair-if ends (pure found) reads (fair-pure found)
      (fair-then p (λ x. eat Comma >>= choose x) fair (λ x. fair-then (eat Comma) (choose x) (fair-eat Comma) (fair_choose x))))

  fair-listed : IsFair (listed p)
  unfolding listed
  fair-listed i = fair-listed_from (length i) [] i

  fair-valued : (w : Bytes) → IsFair (valued p w)
  unfolding valued
  fair-valued w = fair-then p (λ value. pure (record { name = w; value = value })) fair (λ value. fair-pure {A = ItemForm} (record { name = w; value = value }))

  -- a name and `=`
  judged-argument : (found : List ItemForm) (at : ℕ) (w : Bytes) (xs : List Symbol) → sees Equals xs ≡ true
      → IsJudged (s.Name at w ∷ xs) (cond (has_name found w) (Err (Doubled at)) (valued p w (next xs)))
  judged-argument found at w xs met =
      let f = sees-found Equals xs met in
      let i : List Symbol = s.Name at w ∷ xs in
      judged-if (has_name found w) i (Err (Doubled at)) (valued p w (next xs))
      (λ _. doubled [] f.1 at f.0 w (ap (λ (v : List Symbol). s.Name at w ∷ v) f.2))
      (λ _. judged-behind (s.Name at w ∷ []) xs (valued p w (next xs)) tt (judged-next Equals xs (valued p w (next xs)) met (fair-valued w (next xs))))

  fair-argument : (found : List ItemForm) → IsFair (argument p found)
  unfolding argument
  fair-argument found [] = fair-refuse []
  fair-argument found (s.Name at w ∷ xs) =
      judged-if (sees Equals xs) (s.Name at w ∷ xs) (cond (has_name found w) (Err (Doubled at)) (valued p w (next xs))) (refuse (s.Name at w ∷ xs))
      (judged-argument found at w xs) (λ _. fair-refuse (s.Name at w ∷ xs))
  fair-argument found (s.Text at w ∷ xs) = fair-refuse (s.Text at w ∷ xs)
  fair-argument found (s.Number at n ∷ xs) = fair-refuse (s.Number at n ∷ xs)
  fair-argument found (s.Sign at k ∷ xs) = fair-refuse (s.Sign at k ∷ xs)
  fair-argument found (s.Newline at ∷ xs) = fair-refuse (s.Newline at ∷ xs)
  fair-argument found (s.Indent at ∷ xs) = fair-refuse (s.Indent at ∷ xs)
  fair-argument found (s.Dedent at ∷ xs) = fair-refuse (s.Dedent at ∷ xs)

  fair-arguments_from : (n : ℕ) (found : List ItemForm) → IsFair (arguments_from p n found)
  unfolding arguments_from
  fair-arguments_from zero found = fair-refuse
  fair-arguments_from (suc n) found =
      let reads : Parser (List ItemForm) = argument p found >>= (λ x. arguments_from p n (found ++ x ∷ [])) in
      let choose : Bool → Bool → Parser (List ItemForm) = λ more ends. cond ends (pure found) (cond more reads refuse) in
      fair-then (eat Comma) (λ more. eat Close >>= choose more) (fair-eat Comma)
      (λ more. fair-then (eat Close) (choose more) (fair-eat Close)
      (λ ends. fair-if ends (pure found) (cond more reads refuse) (fair-pure found)
      (fair-if more reads refuse
      (fair-then (argument p found) (λ x. arguments_from p n (found ++ x ∷ [])) (fair-argument found) (λ x. fair-arguments_from n (found ++ x ∷ [])))
      fair-refuse)))

  fair-arguments : IsFair (arguments p)
  unfolding arguments
  fair-arguments i = fair-arguments_from (length i) [] i

  abbrev expand3 : Expr → Bool → List ItemForm → Parser Expr
  expand3 v pairs items = pure (e.Expand (roll-ExpandForm (record { pattern = v; zip = pairs; named = items })))

  abbrev expand2 : Expr → Bool → Parser Expr
  expand2 v pairs = arguments p >>= expand3 v pairs

  abbrev expand1 : Expr → Parser Expr
  expand1 v = zip >>= expand2 v

  fair-expanded : IsFair (expanded p)
  unfolding expanded
  fair-expanded =
      fair-then p expand1 fair (λ v. fair-then zip (expand2 v) fair-zip (λ pairs. fair-then (arguments p) (expand3 v pairs) fair-arguments
      (λ items. fair-pure (e.Expand (roll-ExpandForm (record { pattern = v; zip = pairs; named = items }))))))

module _ (inner : Option (Parser Expr)) (fair : (p : Parser Expr) → inner ≡ Some p → IsFair p) where
  fair-opened : (o : Option (Parser Expr)) → inner ≡ o → (body : Parser Expr → Parser Expr) → ((p : Parser Expr) → IsFair p → IsFair (body p)) → (k : Sign) (i : List Symbol)
      → sees k i ≡ true → IsJudged i (opened_by inner o body i)
  fair-opened None same body each k i met = fair-refuse i
  fair-opened (Some p) same body each k i met = judged-next k i (body p (next i)) met (each p (fair p same) (next i))

  many_body : (p : Parser Expr) → IsFair p → IsFair (listed p >>= (λ v. pure (e.Many v)))
  many_body p h = fair-then (listed p) (λ v. pure (e.Many v)) (fair-listed p h) (λ v. fair-pure (e.Many v))

  -- a word, and what stands behind it
  judged-plain : (at : ℕ) (w : Bytes) (xs : List Symbol) → (goes_on xs ≡ true → is_unsupported (word_of w) xs ≡ true) → IsJudged (s.Name at w ∷ xs) (plain at w xs)
  unfolding plain
  judged-plain at w xs why =
      judged-if (goes_on xs) (s.Name at w ∷ xs) (Err (Unsupported at)) (Ok (e.Name w, xs)) (λ met. unsupported [] xs at w refl (why met)) (λ _. (s.Name at w ∷ [], refl, tt))

  one_word : {A : Type 0} (at : ℕ) (w : Bytes) (xs : List Symbol) (r : Outcome A) → IsJudged xs r → IsJudged (s.Name at w ∷ xs) r
  one_word at w xs r h = judged-behind (s.Name at w ∷ []) xs r tt h

  not_seen : (b c : Bool) → b ≡ true → c ≡ false → (b && not c) ≡ true
  not_seen b c h k = cc

  judged-word : (k : Keyword) (at : ℕ) (w : Bytes) (xs : List Symbol) → word_of w ≡ k → IsJudged (s.Name at w ∷ xs) (by_word inner at w k xs)
  unfolding flagged
  judged-word word.True at w xs is = (s.Name at w ∷ [], refl, tt)
  judged-word word.False at w xs is = (s.Name at w ∷ [], refl, tt)
  judged-word word.Python at w xs is = unsupported [] xs at w refl (ap (λ k. is_unsupported k xs) is)
  judged-word word.Config at w xs is =
      judged-if (sees OpenSquare xs) (s.Name at w ∷ xs) (and_then (keys xs) (λ v. pure (e.Config v))) (plain at w xs)
      (λ _. one_word at w xs (and_then (keys xs) (λ v. pure (e.Config v))) (fair-then keys (λ v. pure (e.Config v)) fair-keys (λ v. fair-pure (e.Config v)) xs))
      (λ _. judged-plain at w xs (λ on. ap (λ k. is_unsupported k xs) is ∙ on))
  judged-word word.Rules at w xs is =
      judged-if (sees Point xs) (s.Name at w ∷ xs) (outputs xs) (plain at w xs)
      (λ _. one_word at w xs (outputs xs) (fair-outputs xs))
      (λ none. judged-plain at w xs (λ on. ap (λ k. is_unsupported k xs) is ∙ not_seen (goes_on xs) (sees Point xs) on none))
  judged-word word.Flag at w xs is =
      judged-if (sees Open xs) (s.Name at w ∷ xs) (and_then (opened_by inner inner closed xs) (λ v. pure (e.Flagged w v))) (plain at w xs)
      (λ met. one_word at w xs (and_then (opened_by inner inner closed xs) (λ v. pure (e.Flagged w v)))
      (judged-then xs (opened_by inner inner closed xs) (λ v. pure (e.Flagged w v)) (fair-opened inner refl closed fair-closed Open xs met) (λ v. fair-pure (e.Flagged w v))))
      (λ none. judged-plain at w xs (λ on. ap (λ k. is_unsupported k xs) is ∙ not_seen (goes_on xs) (sees Open xs) on none))
  judged-word word.Expand at w xs is =
      judged-if (sees Open xs) (s.Name at w ∷ xs) (opened_by inner inner expanded xs) (plain at w xs)
      (λ met. one_word at w xs (opened_by inner inner expanded xs) (fair-opened inner refl expanded fair-expanded Open xs met))
      (λ none. judged-plain at w xs (λ on. ap (λ k. is_unsupported k xs) is ∙ not_seen (goes_on xs) (sees Open xs) on none))
  judged-word word.FromCheckpoint at w xs is =
      judged-if (sees Open xs) (s.Name at w ∷ xs) (gathered xs) (plain at w xs)
      (λ _. one_word at w xs (gathered xs) (fair-gathered xs))
      (λ none. judged-plain at w xs (λ on. ap (λ k. is_unsupported k xs) is ∙ not_seen (goes_on xs) (sees Open xs) on none))
  judged-word word.Other at w xs is = judged-plain at w xs (λ on. ap (λ k. is_unsupported k xs) is ∙ on)

  judged-sign : (at : ℕ) (k : Sign) (xs : List Symbol) → IsJudged (s.Sign at k ∷ xs) (term inner (s.Sign at k ∷ xs))
  unfolding term many
  judged-sign at Open xs = fair-opened inner refl closed fair-closed Open (s.Sign at Open ∷ xs) refl
  judged-sign at OpenSquare xs = fair-opened inner refl (λ p. listed p >>= (λ v. pure (e.Many v))) many_body OpenSquare (s.Sign at OpenSquare ∷ xs) refl
  judged-sign at Colon xs = fair-refuse (s.Sign at Colon ∷ xs)
  judged-sign at Comma xs = fair-refuse (s.Sign at Comma ∷ xs)
  judged-sign at Equals xs = fair-refuse (s.Sign at Equals ∷ xs)
  judged-sign at Close xs = fair-refuse (s.Sign at Close ∷ xs)
  judged-sign at CloseSquare xs = fair-refuse (s.Sign at CloseSquare ∷ xs)
  judged-sign at Point xs = fair-refuse (s.Sign at Point ∷ xs)
  judged-sign at Plus xs = fair-refuse (s.Sign at Plus ∷ xs)
  judged-sign at Greater xs = fair-refuse (s.Sign at Greater ∷ xs)

  fair-term : IsFair (term inner)
  unfolding term named
  fair-term [] = fair-refuse []
  fair-term (s.Text at t ∷ xs) =
      judged-behind (s.Text at t ∷ []) xs (and_then (texts t xs) (λ v. pure (e.Word v))) tt (fair-then (texts t) (λ v. pure (e.Word v)) (fair-texts t) (λ v. fair-pure (e.Word v)) xs)
  fair-term (s.Number at n ∷ xs) = (s.Number at n ∷ [], refl, tt)
  fair-term (s.Name at w ∷ xs) = judged-word (word_of w) at w xs refl
  fair-term (s.Sign at k ∷ xs) = judged-sign at k xs
  fair-term (s.Newline at ∷ xs) = fair-refuse (s.Newline at ∷ xs)
  fair-term (s.Indent at ∷ xs) = fair-refuse (s.Indent at ∷ xs)
  fair-term (s.Dedent at ∷ xs) = fair-refuse (s.Dedent at ∷ xs)

  fair-terms_from : (n : ℕ) (found : List Expr) → IsFair (terms_from inner n found)
  unfolding terms_from
  fair-terms_from zero found = fair-refuse
  fair-terms_from (suc n) found =
      let reads : Parser (List Expr) = term inner >>= (λ x. terms_from inner n (found ++ x ∷ [])) in
      fair-then (eat Plus) (λ more. cond more reads (pure found)) (fair-eat Plus)
      (λ more. fair-if more reads (pure found) (fair-then (term inner) (λ x. terms_from inner n (found ++ x ∷ [])) fair-term (λ x. fair-terms_from n (found ++ x ∷ []))) (fair-pure found))

  fair-terms : (first : Expr) → IsFair (terms inner first)
  unfolding terms
  fair-terms first i = fair-terms_from (length i) (first ∷ []) i

  fair-level : IsFair (level inner)
  unfolding level
  fair-level = fair-then (term inner) (λ v. terms inner v >>= (λ es. pure (summed es))) fair-term
      (λ v. fair-then (terms inner v) (λ es. pure (summed es)) (fair-terms v) (λ es. fair-pure (summed es)))

-- what an option's parser answers
abbrev at_some : Option (Parser Expr) → Parser Expr → Parser Expr
at_some (Some p) q = p
at_some None q = q

-- An expression is read without taking an end, or refused.
pub expr-judged : (depth : ℕ) (i : List Symbol) → IsJudged i (expr depth i)
unfolding expr
expr-judged zero i = fair-level None (λ p same. absurd cc) i
expr-judged (suc depth) i =
    fair-level (Some (expr depth)) (λ p same j. subst (λ (o : Option (Parser Expr)). IsJudged j (at_some o p j)) same (expr-judged depth j)) i

-- ---- items

fair-end : IsFair end
unfolding end
fair-end i = judged-if (at_end i) i (done tt i) (refuse i) (λ _. ([], refl, tt)) (λ _. fair-refuse i)

fair-positional : (found : List ItemForm) → IsFair (positional found)
fair-positional found = fair-if (has_named found) refuse (valued (expr max_depth) []) fair-refuse (fair-valued (expr max_depth) (expr-judged max_depth) [])

fair-item : (found : List ItemForm) → IsFair (item found)
unfolding item
fair-item found [] = fair-positional found []
fair-item found (s.Name at w ∷ xs) =
    let i : List Symbol = s.Name at w ∷ xs in
    judged-if (sees Equals xs) i (argument (expr max_depth) found i) (positional found i) (λ _. fair-argument (expr max_depth) (expr-judged max_depth) found i) (λ _. fair-positional found i)
fair-item found (s.Text at w ∷ xs) = fair-positional found (s.Text at w ∷ xs)
fair-item found (s.Number at n ∷ xs) = fair-positional found (s.Number at n ∷ xs)
fair-item found (s.Sign at k ∷ xs) = fair-positional found (s.Sign at k ∷ xs)
fair-item found (s.Newline at ∷ xs) = fair-positional found (s.Newline at ∷ xs)
fair-item found (s.Indent at ∷ xs) = fair-positional found (s.Indent at ∷ xs)
fair-item found (s.Dedent at ∷ xs) = fair-positional found (s.Dedent at ∷ xs)

fair-another : IsFair another
fair-another = fair-then (eat Comma) (λ more i. Ok (more && not (at_end i), i)) (fair-eat Comma) (λ more i. ([], refl, tt))

fair-items_from : (n : ℕ) (found : List ItemForm) → IsFair (items_from n found)
unfolding items_from
fair-items_from zero found = fair-refuse
fair-items_from (suc n) found =
    let last : ItemForm → Parser (List ItemForm) = λ x. end >>= (λ _. pure (found ++ x ∷ [])) in
    let choose : ItemForm → Bool → Parser (List ItemForm) = λ x more. cond more (items_from n (found ++ x ∷ [])) (last x) in
    let fair_choose : (x : ItemForm) → (more : Bool) → IsFair (choose x more)
    = λ x more. fair-if more (items_from n (found ++ x ∷ [])) (last x) (fair-items_from n (found ++ x ∷ []))
    (fair-then end (λ _. pure (found ++ x ∷ [])) fair-end (λ _. fair-pure (found ++ x ∷ []))) in
    fair-then (item found) (λ x. another >>= choose x) (fair-item found) (λ x. fair-then another (choose x) fair-another (fair_choose x))

-- Items are read without taking an end, or refused.
pub items-judged : (i : List Symbol) → IsJudged i (items i)
unfolding items
items-judged i = fair-items_from (length i) [] i
