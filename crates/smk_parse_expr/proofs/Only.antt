-- What the grammar spells is read, whatever follows that ends it.
use Rattle.std.proofs.Common.{◌≡◌, ℕ, zero, suc, ◌+◌, ◌≤◌, ◌<◌, Bool, true, false, List, [], ◌∷◌, ◌++◌, length, Option, Some, None, Ok, Err, refl, sym, ap, subst, ◌∙◌, append_assoc, arith, inl, inr, cond, length-append, ◌&&◌}
use Rattle.std.specs.Prelude.{codes, not}
use Rattle.std.specs.Str.{bytes_eq}
use Rattle.std.proofs.lemmas.List.{append-nil}
use Rattle.std.proofs.lemmas.Bool.{cases_Bool}
use Rattle.std.proofs.Math.Bool.{and-false}
use Rattle.smk_parse_expr.specs.declared.symbol.Symbol.{Symbol}
use Rattle.smk_parse_expr.specs.declared.symbol.Symbol.TheVariants as s
use Rattle.smk_parse_expr.specs.declared.symbol.Sign.{Sign}
use Rattle.smk_parse_expr.specs.declared.symbol.Sign.TheVariants.{Comma, Equals, Open, Close, OpenSquare, CloseSquare, Plus, Point}
use Rattle.smk_parse_expr.specs.declared.symbol.ParseFault.TheVariants.{Unsupported, Doubled}
use Rattle.smk_parse_expr.specs.declared.symbol.Keyword.{Keyword}
use Rattle.smk_parse_expr.specs.declared.symbol.Keyword.TheVariants as word
use Rattle.smk_parse_tree.specs.declared.syntax.Expr.{Expr}
use Rattle.smk_parse_tree.specs.declared.syntax.Expr.TheVariants as e
use Rattle.smk_parse_tree.specs.declared.syntax.ItemForm.{ItemForm}
use Rattle.smk_parse_tree.specs.declared.syntax.ExpandForm.{roll-ExpandForm}
use Rattle.smk_parse_tree.specs.declared.syntax.OutputPick.{OutputPick}
use Rattle.smk_parse_expr.specs.Symbols.{Bytes, Parser, Outcome, and_then, ◌>>=◌, pure, sees, next, word_of, expect, goes_on}
use Rattle.smk_parse_expr.specs.Exprs.{texts, text, name, number, spelled, by_name, by_place, picked, outputs, gathered, plain, keys, keys_from, closed, listed, listed_from, has_name, is_zip, zip, valued, argument, arguments_from, arguments, expanded, flagged, many, named, by_word, term, terms_from, terms, level, summed, expr, opened_by}
use Rattle.smk_parse_expr.specs.Grammar.{Stops, StopsSum, Spelling, IsTexts, IsKeys, IsPick, all, by_name as named_pick, by_place as placed_pick, IsZip, paired, not_paired, IsListed, IsClosing, alone, behind_comma, IsArguments, IsTerm, IsTail, IsLevel, IsExpr, may_be_name, a_text, a_number, a_truth, a_falsehood, a_name, a_key, in_parentheses, a_flag, an_output, an_expand, of_checkpoint, a_list, one_term, a_sum}
use Rattle.smk_parse_expr.proofs.Steps.{parts}

abbrev pub ReadsAll : Spelling → Parser Expr → Type 0
ReadsAll Inner p = (xs rest : List Symbol) (x : Expr) → Inner xs x → StopsSum rest → p (xs ++ rest) ≡ Ok (x, rest)

pub record Within (may_open : Bool) (Inner : Spelling) (inner : Option (Parser Expr)) : Type 0 where
  pub reads : may_open ≡ true → (p : Parser Expr) × (inner ≡ Some p) × ReadsAll Inner p
  pub opens : (xs : List Symbol) (x : Expr) → Inner xs x → may_open ≡ true
  -- no expression begins with the bracket that closes a list
  pub begins : (xs rest : List Symbol) (x : Expr) → Inner xs x → sees CloseSquare (xs ++ rest) ≡ false

texts-stop : (t : Bytes) (rest : List Symbol) → goes_on rest ≡ false → texts t rest ≡ Ok (t, rest)
texts-stop t [] h = refl
texts-stop t (s.Text at v ∷ xs) h = absurd cc
texts-stop t (s.Name at w ∷ xs) h = refl
texts-stop t (s.Number at n ∷ xs) h = refl
texts-stop t (s.Sign at k ∷ xs) h = refl
texts-stop t (s.Newline at ∷ xs) h = refl
texts-stop t (s.Indent at ∷ xs) h = refl
texts-stop t (s.Dedent at ∷ xs) h = refl

abbrev done : {A : Type 0} → A → List Symbol → Outcome A
done a rest = Ok (a, rest)

texts-only : (t u : Bytes) (xs rest : List Symbol) → IsTexts t xs u → goes_on rest ≡ false → texts t (xs ++ rest) ≡ done u rest
texts-only t u [] rest h stop = texts-stop t rest stop ∙ ap (λ v. done v rest) h
texts-only t u (s.Text at v ∷ xs) rest h stop = texts-only (t ++ v) u xs rest h stop
texts-only t u (s.Name at w ∷ xs) rest h stop = absurd h
texts-only t u (s.Number at n ∷ xs) rest h stop = absurd h
texts-only t u (s.Sign at k ∷ xs) rest h stop = absurd h
texts-only t u (s.Newline at ∷ xs) rest h stop = absurd h
texts-only t u (s.Indent at ∷ xs) rest h stop = absurd h
texts-only t u (s.Dedent at ∷ xs) rest h stop = absurd h

-- a bracket closes
behind_close : (b : ℕ) (rest : List Symbol) → 1 ≤ length rest → StopsSum (s.Sign b Close ∷ rest)
behind_close b rest some = record { stops = record { ends = refl; no_key = refl; some = omega arith }; no_plus = refl }

closed-only : (p : Parser Expr) (Inner : Spelling) (b : ℕ) (xs rest : List Symbol) (x : Expr) → ReadsAll Inner p → Inner xs x → 1 ≤ length rest
    → closed p ((xs ++ s.Sign b Close ∷ []) ++ rest) ≡ Ok (x, rest)
unfolding closed expect
closed-only p Inner b xs rest x reads h some =
    let group : (xs ++ s.Sign b Close ∷ []) ++ rest ≡ xs ++ (s.Sign b Close ∷ rest) = append_assoc xs (s.Sign b Close ∷ []) rest in
    ap (closed p) group ∙ rw (reads xs (s.Sign b Close ∷ rest) x h (behind_close b rest some)) refl

keys-len : (ks : List Bytes) (xs : List Symbol) → IsKeys ks xs → length ks ≤ length xs
keys-len [] xs h = omega arith
keys-len (k ∷ ks) xs (a, b, c, ys, e, h) = omega (arith, ap length e, keys-len ks ys h)

keys-only : (n : ℕ) (found ks : List Bytes) (xs rest : List Symbol) → IsKeys ks xs → Stops rest → length ks < n
    → keys_from n found (xs ++ rest) ≡ done (found ++ ks) rest
unfolding keys_from text expect
keys-only zero found ks xs rest h stop lt = absurd (omega arith)
keys-only (suc n) found [] xs rest h stop lt = rw (h, stop.no_key) (ap (λ v. done v rest) (sym (append-nil found)))
keys-only (suc n) found (k ∷ ks) xs rest (a, b, c, ys, e, h) stop lt =
    let group : (found ++ k ∷ []) ++ ks ≡ found ++ k ∷ ks = append_assoc found (k ∷ []) ks in
    ap (λ i. keys_from (suc n) found (i ++ rest)) e ∙ keys-only n (found ++ k ∷ []) ks ys rest h stop (omega arith) ∙ ap (λ v. done v rest) group

keyed : (ks : List Bytes) (xs rest : List Symbol) → IsKeys ks xs → Stops rest → keys (xs ++ rest) ≡ done ks rest
unfolding keys
keyed ks xs rest h stop = keys-only (length (xs ++ rest)) [] ks xs rest h stop (omega (arith, length-append xs rest, keys-len ks xs h, stop.some))

listed-len : (Inner : Spelling) (es : List Expr) (xs : List Symbol) → IsListed Inner es xs → length es ≤ length xs
listed-len Inner [] xs h = omega arith
listed-len Inner (x ∷ es) xs (ys, zs, e, h, inl (none, b, last)) = omega (arith, ap length e, length-append ys zs, ap length last, ap length none)
listed-len Inner (x ∷ es) xs (ys, zs, e, h, inr (a, ws, more, others)) = omega (arith, ap length e, length-append ys zs, ap length more, listed-len Inner es ws others)

-- a sign follows an expression
pub behind_sign : (b : ℕ) (k : Sign) (rest : List Symbol) → goes_on (s.Sign b k ∷ rest) ≡ false → sees OpenSquare (s.Sign b k ∷ rest) ≡ false → sees Plus (s.Sign b k ∷ rest) ≡ false → StopsSum (s.Sign b k ∷ rest)
behind_sign b k rest e f g = record { stops = record { ends = e; no_key = f; some = omega arith }; no_plus = g }

listed-only : (p : Parser Expr) (Inner : Spelling) (n : ℕ) (found es : List Expr) (xs rest : List Symbol) → ReadsAll Inner p
    → ((ys more : List Symbol) (x : Expr) → Inner ys x → sees CloseSquare (ys ++ more) ≡ false)
    → IsListed Inner es xs → 1 ≤ length rest → length es < n → listed_from p n found (xs ++ rest) ≡ done (found ++ es) rest
unfolding listed_from expect
listed-only p Inner zero found es xs rest reads begins h some lt = absurd (omega arith)
listed-only p Inner (suc n) found [] xs rest reads begins (b, e) some lt =
    ap (λ i. listed_from p (suc n) found (i ++ rest)) e ∙ ap (λ v. done v rest) (sym (append-nil found))
listed-only p Inner (suc n) found (x ∷ es) xs rest reads begins (ys, zs, e, h, inl (none, b, last)) some lt =
    let i = ys ++ (s.Sign b CloseSquare ∷ rest) in
    let same : xs ++ rest ≡ i = ap (λ (v : List Symbol). v ++ rest) (e ∙ ap (λ (v : List Symbol). ys ++ v) last) ∙ append_assoc ys (s.Sign b CloseSquare ∷ []) rest in
    let now : listed_from p (suc n) found i ≡ done (found ++ x ∷ []) rest
    = rw (begins ys (s.Sign b CloseSquare ∷ rest) x h, reads ys (s.Sign b CloseSquare ∷ rest) x h (behind_sign b CloseSquare rest refl refl refl)) refl in
    ap (listed_from p (suc n) found) same ∙ now ∙ ap (λ (v : List Expr). done (found ++ x ∷ v) rest) (sym none)
listed-only p Inner (suc n) found (x ∷ es) xs rest reads begins (ys, zs, e, h, inr (a, ws, more, others)) some lt =
    let i = ys ++ (s.Sign a Comma ∷ (ws ++ rest)) in
    let same : xs ++ rest ≡ i = ap (λ (v : List Symbol). v ++ rest) (e ∙ ap (λ (v : List Symbol). ys ++ v) more) ∙ append_assoc ys (s.Sign a Comma ∷ ws) rest in
    let now : listed_from p (suc n) found i ≡ listed_from p n (found ++ x ∷ []) (ws ++ rest)
    = rw (begins ys (s.Sign a Comma ∷ (ws ++ rest)) x h, reads ys (s.Sign a Comma ∷ (ws ++ rest)) x h (behind_sign a Comma (ws ++ rest) refl refl refl)) refl in
    let group : (found ++ x ∷ []) ++ es ≡ found ++ x ∷ es = append_assoc found (x ∷ []) es in
    ap (listed_from p (suc n) found) same ∙ now ∙ listed-only p Inner n (found ++ x ∷ []) es ws rest reads begins others some (omega arith)
    ∙ ap (λ (v : List Expr). done v rest) group

-- ---- `expand`

-- what values under names begin with
record Begins (xs : List Symbol) : Type 0 where
  stops : StopsSum xs
  not_zip : (sees Comma xs && is_zip (next xs)) ≡ false
  no_equals : sees Equals xs ≡ false

closing-begins : (xs rest : List Symbol) → IsClosing xs → Begins (xs ++ rest)
closing-begins xs rest (alone b) = record { stops = behind_sign b Close rest refl refl refl; not_zip = refl; no_equals = refl }
closing-begins xs rest (behind_comma a b) = record { stops = behind_sign a Comma (s.Sign b Close ∷ rest) refl refl refl; not_zip = refl; no_equals = refl }

arguments-begin : (Inner : Spelling) (found items : List ItemForm) (xs rest : List Symbol) → IsArguments Inner found items xs → Begins (xs ++ rest)
arguments-begin Inner found [] xs rest h = closing-begins xs rest h
arguments-begin Inner found (x ∷ items) xs rest (a, b, c, ys, zs, e, new, h, others) =
    let us : List Symbol = s.Name b x.name ∷ s.Sign c Equals ∷ ((ys ++ zs) ++ rest) in
    let it : Begins (s.Sign a Comma ∷ us) = record { stops = behind_sign a Comma us refl refl refl; not_zip = and-false (bytes_eq x.name (codes "zip")); no_equals = refl } in
    subst (λ (v : List Symbol). Begins (v ++ rest)) (sym e) it

zip-begins : (b : Bool) (ys xs : List Symbol) → IsZip ys b → Begins xs → StopsSum (ys ++ xs)
zip-begins b ys xs (paired a c) h = behind_sign a Comma (s.Name c (codes "zip") ∷ xs) refl refl refl
zip-begins b ys xs not_paired h = h.stops

zip-only : (b : Bool) (ys xs : List Symbol) → IsZip ys b → Begins xs → zip (ys ++ xs) ≡ done b xs
zip-only b ys xs (paired a c) h = ap (λ v. cond (not v) (done true xs) (done false (s.Sign a Comma ∷ s.Name c (codes "zip") ∷ xs))) h.no_equals
zip-only b ys xs not_paired h = ap (λ v. cond v (done true (next (next xs))) (done false xs)) h.not_zip

closing-len : (xs : List Symbol) → IsClosing xs → 1 ≤ length xs
closing-len xs (alone b) = omega arith
closing-len xs (behind_comma a b) = omega arith

arguments-len : (Inner : Spelling) (found items : List ItemForm) (xs : List Symbol) → IsArguments Inner found items xs → length items + 1 ≤ length xs
arguments-len Inner found [] xs h = omega (arith, closing-len xs h)
arguments-len Inner found (x ∷ items) xs (a, b, c, ys, zs, e, new, h, others) =
    omega (arith, ap length e, length-append ys zs, arguments-len Inner (found ++ x ∷ []) items zs others)

closing-only : (p : Parser Expr) (n : ℕ) (found : List ItemForm) (xs rest : List Symbol) → IsClosing xs → arguments_from p (suc n) found (xs ++ rest) ≡ done found rest
unfolding arguments_from
closing-only p n found xs rest (alone b) = refl
closing-only p n found xs rest (behind_comma a b) = refl

pub argument-only : (p : Parser Expr) (found : List ItemForm) (x : ItemForm) (b c : ℕ) (xs rest : List Symbol) → has_name found x.name ≡ false
    → p xs ≡ Ok (x.value, rest) → argument p found (s.Name b x.name ∷ s.Sign c Equals ∷ xs) ≡ done x rest
unfolding argument valued
argument-only p found x b c xs rest new reads =
    ap (λ v. cond v (Err (Doubled b)) (valued p x.name xs)) new ∙ ap (λ r. and_then r (λ value. pure (record { name = x.name; value = value }))) reads

arguments-only : (p : Parser Expr) (Inner : Spelling) (n : ℕ) (found items : List ItemForm) (xs rest : List Symbol) → ReadsAll Inner p
    → IsArguments Inner found items xs → length items < n → arguments_from p n found (xs ++ rest) ≡ done (found ++ items) rest
unfolding arguments_from
arguments-only p Inner zero found items xs rest reads h lt = absurd (omega arith)
arguments-only p Inner (suc n) found [] xs rest reads h lt = closing-only p n found xs rest h ∙ ap (λ (v : List ItemForm). done v rest) (sym (append-nil found))
arguments-only p Inner (suc n) found (x ∷ items) xs rest reads (a, b, c, ys, zs, e, new, h, others) lt =
    let more = zs ++ rest in
    let j : List Symbol = s.Name b x.name ∷ s.Sign c Equals ∷ (ys ++ more) in
    let same : xs ++ rest ≡ s.Sign a Comma ∷ j
    = ap (λ (v : List Symbol). v ++ rest) e ∙ ap (λ (v : List Symbol). s.Sign a Comma ∷ s.Name b x.name ∷ s.Sign c Equals ∷ v) (append_assoc ys zs rest) in
    let one : argument p found j ≡ done x more
    = argument-only p found x b c (ys ++ more) more new (reads ys more x.value h (arguments-begin Inner (found ++ x ∷ []) items zs rest others).stops) in
    let now : arguments_from p (suc n) found (s.Sign a Comma ∷ j) ≡ arguments_from p n (found ++ x ∷ []) more
    = ap (λ r. and_then r (λ v. arguments_from p n (found ++ v ∷ []))) one in
    ap (arguments_from p (suc n) found) same ∙ now ∙ arguments-only p Inner n (found ++ x ∷ []) items zs rest reads others (omega arith)
    ∙ ap (λ (v : List ItemForm). done v rest) (append_assoc found (x ∷ []) items)

abbrev expand3 : Expr → Bool → List ItemForm → Parser Expr
expand3 v pairs items = pure (e.Expand (roll-ExpandForm (record { pattern = v; zip = pairs; named = items })))

abbrev expand2 : Parser Expr → Expr → Bool → Parser Expr
expand2 p v pairs = arguments p >>= expand3 v pairs

abbrev expand1 : Parser Expr → Expr → Parser Expr
expand1 p v = zip >>= expand2 p v

expanded-only : (p : Parser Expr) (Inner : Spelling) (x : Expr) (pairs : Bool) (items : List ItemForm) (xs ys zs rest : List Symbol) → ReadsAll Inner p
    → Inner xs x → IsZip ys pairs → IsArguments Inner [] items zs
    → expanded p ((xs ++ (ys ++ zs)) ++ rest) ≡ done (e.Expand (roll-ExpandForm (record { pattern = x; zip = pairs; named = items }))) rest
unfolding expanded arguments
expanded-only p Inner x pairs items xs ys zs rest reads h paired_or_not named_ones =
    let begins = arguments-begin Inner [] items zs rest named_ones in
    let more = zs ++ rest in
    let same : (xs ++ (ys ++ zs)) ++ rest ≡ xs ++ (ys ++ more) = append_assoc xs (ys ++ zs) rest ∙ ap (λ (v : List Symbol). xs ++ v) (append_assoc ys zs rest) in
    ap (expanded p) same
    ∙ ap (λ r. and_then r (expand1 p)) (reads xs (ys ++ more) x h (zip-begins pairs ys more paired_or_not begins))
    ∙ ap (λ r. and_then r (expand2 p x)) (zip-only pairs ys more paired_or_not begins)
    ∙ ap (λ r. and_then r (expand3 x pairs)) (arguments-only p Inner (length more) [] items zs rest reads named_ones (omega (arith, length-append zs rest, arguments-len Inner [] items zs named_ones)))

-- ---- terms

module _ (may_open : Bool) (Inner : Spelling) (inner : Option (Parser Expr)) (within : Within may_open Inner inner) where
  opened-only : (a b : ℕ) (xs rest : List Symbol) (x : Expr) → Inner xs x → 1 ≤ length rest
      → opened_by inner inner closed (s.Sign a Open ∷ ((xs ++ s.Sign b Close ∷ []) ++ rest)) ≡ Ok (x, rest)
  opened-only a b xs rest x h some =
      let w = within.reads (within.opens xs x h) in
      ap (λ o. opened_by inner o closed (s.Sign a Open ∷ ((xs ++ s.Sign b Close ∷ []) ++ rest))) w.1 ∙ closed-only w.0 Inner b xs rest x w.2 h some

  listed-all : (p : Parser Expr) (es : List Expr) (xs rest : List Symbol) → ReadsAll Inner p → IsListed Inner es xs → 1 ≤ length rest
      → listed p (xs ++ rest) ≡ done es rest
  unfolding listed
  listed-all p es xs rest reads l some = listed-only p Inner (length (xs ++ rest)) [] es xs rest reads within.begins l some (omega (arith, length-append xs rest, listed-len Inner es xs l))

  plain-only : (at : ℕ) (w : Bytes) (rest : List Symbol) → Stops rest → plain at w rest ≡ done (e.Name w) rest
  unfolding plain
  plain-only at w rest stop = ap (λ b. cond b (Err (Unsupported at)) (Ok (e.Name w, rest))) stop.ends

  no_open : (rest : List Symbol) → goes_on rest ≡ false → sees Open rest ≡ false
  no_open [] h = refl
  no_open (s.Text at v ∷ xs) h = refl
  no_open (s.Name at w ∷ xs) h = refl
  no_open (s.Number at n ∷ xs) h = refl
  no_open (s.Sign at k ∷ xs) h = elim (cases_Bool (sees Open (s.Sign at k ∷ xs))) [ inl e ↦ absurd (cc (ap (λ b. cond b true (sees Point (s.Sign at k ∷ xs))) e)) | inr e ↦ e ]
  no_open (s.Newline at ∷ xs) h = refl
  no_open (s.Indent at ∷ xs) h = refl
  no_open (s.Dedent at ∷ xs) h = refl

  no_point : (rest : List Symbol) → goes_on rest ≡ false → sees Point rest ≡ false
  no_point [] h = refl
  no_point (s.Text at v ∷ xs) h = refl
  no_point (s.Name at w ∷ xs) h = refl
  no_point (s.Number at n ∷ xs) h = refl
  no_point (s.Sign at k ∷ xs) h = elim (cases_Bool (sees Open (s.Sign at k ∷ xs))) [
    | inl e ↦ absurd (cc (ap (λ b. cond b true (sees Point (s.Sign at k ∷ xs))) e))
    | inr e ↦ sym (ap (λ b. cond b true (sees Point (s.Sign at k ∷ xs))) e) ∙ h
  ]
  no_point (s.Newline at ∷ xs) h = refl
  no_point (s.Indent at ∷ xs) h = refl
  no_point (s.Dedent at ∷ xs) h = refl

  picked-only : (p : OutputPick) (xs rest : List Symbol) → IsPick xs p → Stops rest → picked (xs ++ rest) ≡ done p rest
  unfolding picked by_name by_place name number expect
  picked-only p xs rest all stop = rw (no_point rest stop.ends, stop.no_key) refl
  picked-only p xs rest (named_pick a b w) stop = refl
  picked-only p xs rest (placed_pick a b c n) stop = refl

  outputs-only : (a b c d : ℕ) (rule : Bytes) (p : OutputPick) (xs rest : List Symbol) → IsPick xs p → Stops rest
      → outputs (s.Sign a Point ∷ s.Name b rule ∷ s.Sign c Point ∷ s.Name d (codes "output") ∷ (xs ++ rest)) ≡ done (e.Outputs rule p) rest
  unfolding outputs expect name spelled
  outputs-only a b c d rule p xs rest h stop = ap (λ r. and_then r (λ v. pure (e.Outputs rule v))) (picked-only p xs rest h stop)

  gathered-only : (a b c d f g k : ℕ) (n l t : Bytes) (rest : List Symbol)
      → gathered (s.Sign a Open ∷ s.Name b n ∷ s.Sign c Comma ∷ s.Text d l ∷ s.Sign f Comma ∷ s.Text g t ∷ s.Sign k Close ∷ rest) ≡ done (e.FromCheckpoint n l t) rest
  unfolding gathered expect name text
  gathered-only a b c d f g k n l t rest = refl

  expand-only : (a : ℕ) (x : Expr) (pairs : Bool) (items : List ItemForm) (xs ys zs rest : List Symbol) → Inner xs x → IsZip ys pairs → IsArguments Inner [] items zs
      → opened_by inner inner expanded (s.Sign a Open ∷ ((xs ++ (ys ++ zs)) ++ rest)) ≡ done (e.Expand (roll-ExpandForm (record { pattern = x; zip = pairs; named = items }))) rest
  expand-only a x pairs items xs ys zs rest h paired_or_not named_ones =
      let w = within.reads (within.opens xs x h) in
      ap (λ o. opened_by inner o expanded (s.Sign a Open ∷ ((xs ++ (ys ++ zs)) ++ rest))) w.1 ∙ expanded-only w.0 Inner x pairs items xs ys zs rest w.2 h paired_or_not named_ones

  named-only : (at : ℕ) (w : Bytes) (k : Keyword) (rest : List Symbol) → may_be_name k ≡ true → Stops rest → by_word inner at w k rest ≡ done (e.Name w) rest
  named-only at w word.True rest h stop = absurd cc
  named-only at w word.False rest h stop = absurd cc
  named-only at w word.Python rest h stop = absurd cc
  named-only at w word.Config rest h stop = rw stop.no_key (plain-only at w rest stop)
  named-only at w word.Flag rest h stop = rw (no_open rest stop.ends) (plain-only at w rest stop)
  named-only at w word.Rules rest h stop = rw (no_point rest stop.ends) (plain-only at w rest stop)
  named-only at w word.Expand rest h stop = rw (no_open rest stop.ends) (plain-only at w rest stop)
  named-only at w word.FromCheckpoint rest h stop = rw (no_open rest stop.ends) (plain-only at w rest stop)
  named-only at w word.Other rest h stop = plain-only at w rest stop

  term-only : (xs rest : List Symbol) (x : Expr) → IsTerm may_open Inner xs x → Stops rest → term inner (xs ++ rest) ≡ Ok (x, rest)
  unfolding term named plain flagged many
  term-only xs rest x (a_text at t u ys h) stop = ap (λ r. and_then r (λ v. pure (e.Word v))) (texts-only t u ys rest h stop.ends)
  term-only xs rest x (a_number at n) stop = refl
  term-only xs rest x (a_truth at w h) stop = ap (λ k. by_word inner at w k rest) h
  term-only xs rest x (a_falsehood at w h) stop = ap (λ k. by_word inner at w k rest) h
  term-only xs rest x (a_name at w h) stop = named-only at w (word_of w) rest h stop
  term-only xs rest x (a_key at w k ks ys h (a, b, c, zs, same, more)) stop =
      let opens : sees OpenSquare (ys ++ rest) ≡ true = ap (λ (v : List Symbol). sees OpenSquare (v ++ rest)) same in
      ap (λ v. by_word inner at w v (ys ++ rest)) h ∙ ap (λ b. cond b (and_then (keys (ys ++ rest)) (λ v. pure (e.Config v))) (plain at w (ys ++ rest))) opens
      ∙ ap (λ r. and_then r (λ v. pure (e.Config v))) (keyed (k ∷ ks) ys rest (a, b, c, zs, same, more) stop)
  term-only xs rest x (in_parentheses a b ys y h) stop = opened-only a b ys rest y h stop.some
  term-only xs rest x (a_flag at a b w ys y h inside) stop =
      ap (λ k. by_word inner at w k (s.Sign a Open ∷ ((ys ++ s.Sign b Close ∷ []) ++ rest))) h
      ∙ ap (λ r. and_then r (λ v. pure (e.Flagged w v))) (opened-only a b ys rest y inside stop.some)
  term-only xs rest x (an_output at a b c d w rule p ys h picks) stop =
      ap (λ k. by_word inner at w k (s.Sign a Point ∷ s.Name b rule ∷ s.Sign c Point ∷ s.Name d (codes "output") ∷ (ys ++ rest))) h
      ∙ outputs-only a b c d rule p ys rest picks stop
  term-only xs rest x (an_expand at a w y pairs items us ys zs h inside paired_or_not named_ones) stop =
      ap (λ k. by_word inner at w k (s.Sign a Open ∷ ((us ++ (ys ++ zs)) ++ rest))) h ∙ expand-only a y pairs items us ys zs rest inside paired_or_not named_ones
  term-only xs rest x (of_checkpoint at a b c d f g k w n l t h) stop =
      ap (λ v. by_word inner at w v (s.Sign a Open ∷ s.Name b n ∷ s.Sign c Comma ∷ s.Text d l ∷ s.Sign f Comma ∷ s.Text g t ∷ s.Sign k Close ∷ rest)) h
      ∙ gathered-only a b c d f g k n l t rest
  term-only xs rest x (a_list a es ys h l) stop =
      let w = within.reads h in
      ap (λ o. opened_by inner o (λ p. listed p >>= (λ v. pure (e.Many v))) (s.Sign a OpenSquare ∷ (ys ++ rest))) w.1
      ∙ ap (λ r. and_then r (λ v. pure (e.Many v))) (listed-all w.0 es ys rest w.2 l stop.some)

  -- what follows a term of a sum
  tail-stops : (es : List Expr) (zs rest : List Symbol) → IsTail (IsTerm may_open Inner) es zs → StopsSum rest → Stops (zs ++ rest)
  tail-stops [] zs rest e stop = subst (λ (v : List Symbol). Stops (v ++ rest)) (sym e) stop.stops
  tail-stops (x ∷ es) zs rest (a, us, vs, e, h, others) stop =
      subst (λ (v : List Symbol). Stops (v ++ rest)) (sym e) (record { ends = refl; no_key = refl; some = omega arith })

  tail-len : (es : List Expr) (zs : List Symbol) → IsTail (IsTerm may_open Inner) es zs → length es ≤ length zs
  tail-len [] zs e = omega arith
  tail-len (x ∷ es) zs (a, us, vs, e, h, others) = omega (arith, ap length e, length-append us vs, tail-len es vs others)

  -- the terms of a sum
  terms-only : (n : ℕ) (found es : List Expr) (xs rest : List Symbol) → IsTail (IsTerm may_open Inner) es xs → StopsSum rest → length es < n
      → terms_from inner n found (xs ++ rest) ≡ done (found ++ es) rest
  unfolding terms_from
  terms-only zero found es xs rest h stop lt = absurd (omega arith)
  terms-only (suc n) found [] xs rest h stop lt = rw (h, stop.no_plus) (ap (λ (v : List Expr). done v rest) (sym (append-nil found)))
  terms-only (suc n) found (x ∷ es) xs rest (a, ys, zs, e, h, others) stop lt =
      let i = s.Sign a Plus ∷ (ys ++ (zs ++ rest)) in
      let same : xs ++ rest ≡ i = ap (λ (v : List Symbol). v ++ rest) e ∙ ap (λ (v : List Symbol). s.Sign a Plus ∷ v) (append_assoc ys zs rest) in
      let now : terms_from inner (suc n) found i ≡ terms_from inner n (found ++ x ∷ []) (zs ++ rest)
      = ap (λ r. and_then r (λ v. terms_from inner n (found ++ v ∷ []))) (term-only ys (zs ++ rest) x h (tail-stops es zs rest others stop)) in
      ap (terms_from inner (suc n) found) same ∙ now ∙ terms-only n (found ++ x ∷ []) es zs rest others stop (omega arith)
      ∙ ap (λ (v : List Expr). done v rest) (append_assoc found (x ∷ []) es)

  level-only : (xs rest : List Symbol) (x : Expr) → IsLevel may_open Inner xs x → StopsSum rest → level inner (xs ++ rest) ≡ Ok (x, rest)
  unfolding level terms
  level-only xs rest x (one_term ys y h) stop =
      ap (λ r. and_then r (λ v. terms inner v >>= (λ es. pure (summed es)))) (term-only ys rest y h stop.stops)
      ∙ ap (λ r. and_then r (λ es. pure (summed es))) (terms-only (length rest) (y ∷ []) [] [] rest refl stop (omega (arith, stop.stops.some)))
  level-only xs rest x (a_sum ys zs y z es h others) stop =
      ap (level inner) (append_assoc ys zs rest)
      ∙ ap (λ r. and_then r (λ v. terms inner v >>= (λ es. pure (summed es)))) (term-only ys (zs ++ rest) y h (tail-stops (z ∷ es) zs rest others stop))
      ∙ ap (λ r. and_then r (λ es. pure (summed es))) (terms-only (length (zs ++ rest)) (y ∷ []) (z ∷ es) zs rest others stop (omega (arith, length-append zs rest, tail-len (z ∷ es) zs others, stop.stops.some)))

-- no expression begins with the bracket that closes a list
module _ (may_open : Bool) (Inner : Spelling) where
  term-begins : (xs rest : List Symbol) (x : Expr) → IsTerm may_open Inner xs x → sees CloseSquare (xs ++ rest) ≡ false
  term-begins xs rest x (a_text at t u ys h) = refl
  term-begins xs rest x (a_number at n) = refl
  term-begins xs rest x (a_truth at w h) = refl
  term-begins xs rest x (a_falsehood at w h) = refl
  term-begins xs rest x (a_name at w h) = refl
  term-begins xs rest x (a_key at w k ks ys h more) = refl
  term-begins xs rest x (in_parentheses a b ys y h) = refl
  term-begins xs rest x (a_flag at a b w ys y h inside) = refl
  term-begins xs rest x (an_output at a b c d w rule p ys h picks) = refl
  term-begins xs rest x (an_expand at a w y pairs items us ys zs h inside paired_or_not named_ones) = refl
  term-begins xs rest x (of_checkpoint at a b c d f g k w n l t h) = refl
  term-begins xs rest x (a_list a es ys h l) = refl

  level-begins : (xs rest : List Symbol) (x : Expr) → IsLevel may_open Inner xs x → sees CloseSquare (xs ++ rest) ≡ false
  level-begins xs rest x (one_term ys y h) = term-begins ys rest y h
  level-begins xs rest x (a_sum ys zs y z es h others) = ap (sees CloseSquare) (append_assoc ys zs rest) ∙ term-begins ys (zs ++ rest) y h

expr-begins : (depth : ℕ) (xs rest : List Symbol) (x : Expr) → IsExpr depth xs x → sees CloseSquare (xs ++ rest) ≡ false
expr-begins zero xs rest x h = level-begins false (λ _ _. ⊥) xs rest x h
expr-begins (suc depth) xs rest x h = level-begins true (IsExpr depth) xs rest x h

-- What the grammar spells is read as that, whatever follows that ends it.
pub expr-only : (depth : ℕ) (xs rest : List Symbol) (x : Expr) → IsExpr depth xs x → StopsSum rest → expr depth (xs ++ rest) ≡ Ok (x, rest)
unfolding expr
expr-only zero xs rest x h stop = level-only false (λ _ _. ⊥) None (record { reads = λ e. absurd cc; opens = λ _ _ e. absurd e; begins = λ _ _ _ e. absurd e }) xs rest x h stop
expr-only (suc depth) xs rest x h stop =
    level-only true (IsExpr depth) (Some (expr depth))
    (record { reads = λ _. (expr depth, refl, λ ys more y inside ends. expr-only depth ys more y inside ends); opens = λ _ _ _. refl; begins = λ ys more y inside. expr-begins depth ys more y inside }) xs rest x h stop

-- Symbols spell one expression.
pub expr-one : (depth : ℕ) (xs : List Symbol) (x y : Expr) → IsExpr depth xs x → IsExpr depth xs y → x ≡ y
expr-one depth xs x y h k =
    let last : List Symbol = s.Newline 0 ∷ [] in
    let stop : StopsSum last = record { stops = record { ends = refl; no_key = refl; some = omega arith }; no_plus = refl } in
    let both : done x last ≡ done y last = sym (expr-only depth xs last x h stop) ∙ expr-only depth xs last y k stop in
    (parts x y last last both).0
