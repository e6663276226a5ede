-- What is read is what the grammar spells.
use Rattle.std.proofs.Common.{◌≡◌, ℕ, zero, suc, Bool, true, false, List, [], ◌∷◌, ◌++◌, length, Option, Some, None, Ok, Err, refl, sym, ap, subst, ◌∙◌, append_assoc, inl, inr, cond, ◌&&◌}
use Rattle.std.specs.Prelude.{codes, not}
use Rattle.std.specs.Str.{bytes_eq}
use Rattle.std.proofs.lemmas.List.{append-nil}
use Rattle.std.proofs.lemmas.Slice.Eq.{bytes_eq-Decides}
use Rattle.std.proofs.lemmas.Bool.{and_parts, cases_Bool}
use Rattle.smk_parse_expr.specs.declared.symbol.Symbol.{Symbol}
use Rattle.smk_parse_expr.specs.declared.symbol.Symbol.TheVariants as s
use Rattle.smk_parse_expr.specs.declared.symbol.Sign.{Sign}
use Rattle.smk_parse_expr.specs.declared.symbol.Sign.TheVariants.{Comma, Open, Close, OpenSquare, CloseSquare, Plus, Point, Colon, Equals, Greater}
use Rattle.smk_parse_expr.specs.declared.symbol.ParseFault.TheVariants.{Unsupported, Doubled}
use Rattle.smk_parse_expr.specs.declared.symbol.Keyword.{Keyword}
use Rattle.smk_parse_expr.specs.declared.symbol.Keyword.TheVariants as word
use Rattle.smk_parse_tree.specs.declared.syntax.Expr.{Expr}
use Rattle.smk_parse_tree.specs.declared.syntax.Expr.TheVariants as e
use Rattle.smk_parse_tree.specs.declared.syntax.ItemForm.{ItemForm}
use Rattle.smk_parse_tree.specs.declared.syntax.ExpandForm.{roll-ExpandForm}
use Rattle.smk_parse_tree.specs.declared.syntax.OutputPick.{OutputPick}
use Rattle.smk_parse_expr.specs.Symbols.{Bytes, Parser, and_then, ◌>>=◌, ◌<$>◌, pure, sees, next, word_of, expect, refuse, goes_on}
use Rattle.smk_parse_expr.specs.Exprs.{texts, text, name, spelled, picked, outputs, gathered, plain, keys, keys_from, closed, listed, listed_from, has_name, is_zip, zip, valued, argument, arguments_from, arguments, expanded, flagged, many, named, by_word, term, terms_from, terms, level, summed, expr, opened_by}
use Rattle.smk_parse_expr.specs.Grammar.{Spelling, IsTexts, IsKeys, IsPick, IsZip, paired, not_paired, IsListed, alone, behind_comma, IsArguments, IsTerm, IsTail, IsLevel, IsExpr, may_be_name, a_text, a_number, a_truth, a_falsehood, a_name, a_key, in_parentheses, a_flag, an_output, an_expand, of_checkpoint, a_list, one_term, a_sum}
use Rattle.smk_parse_expr.proofs.Steps.{done, Takes, bind_ok, chosen, parts, sees-found, refused, expect-found, text-found, sign_then, name_then, text_then, word_then, picked-found}

-- what an option's parser answers
abbrev at_some : Option (Parser Expr) → Parser Expr → Parser Expr
at_some (Some p) q = p
at_some None q = q

abbrev pub FoundAll : Spelling → Parser Expr → Type 0
FoundAll Inner p = (i rest : List Symbol) (x : Expr) → p i ≡ Ok (x, rest) → Takes Inner i x rest

texts-found : (t u : Bytes) (i rest : List Symbol) → texts t i ≡ done u rest → Takes (λ xs v. IsTexts t xs v) i u rest
texts-found t u [] rest h = let p = parts t u [] rest h in ([], p.1, p.0)
texts-found t u (s.Text at v ∷ xs) rest h = let f = texts-found (t ++ v) u xs rest h in (s.Text at v ∷ f.0, ap (λ (w : List Symbol). s.Text at v ∷ w) f.1, f.2)
texts-found t u (s.Name at w ∷ xs) rest h = let p = parts t u (s.Name at w ∷ xs) rest h in ([], p.1, p.0)
texts-found t u (s.Number at n ∷ xs) rest h = let p = parts t u (s.Number at n ∷ xs) rest h in ([], p.1, p.0)
texts-found t u (s.Sign at k ∷ xs) rest h = let p = parts t u (s.Sign at k ∷ xs) rest h in ([], p.1, p.0)
texts-found t u (s.Newline at ∷ xs) rest h = let p = parts t u (s.Newline at ∷ xs) rest h in ([], p.1, p.0)
texts-found t u (s.Indent at ∷ xs) rest h = let p = parts t u (s.Indent at ∷ xs) rest h in ([], p.1, p.0)
texts-found t u (s.Dedent at ∷ xs) rest h = let p = parts t u (s.Dedent at ∷ xs) rest h in ([], p.1, p.0)

closed-found : (p : Parser Expr) (Inner : Spelling) → FoundAll Inner p → (i rest : List Symbol) (x : Expr) → closed p i ≡ done x rest
    → (xs : List Symbol) × (b : ℕ) × (i ≡ (xs ++ s.Sign b Close ∷ []) ++ rest) × Inner xs x
unfolding closed
closed-found p Inner all i rest x h =
    let a = bind_ok (p i) (λ v. expect Close >>= (λ _. pure v)) x rest h in
    let b = bind_ok (expect Close a.1) (λ _. pure a.0) x rest a.3 in
    let last = expect-found Close a.1 b.1 b.2 in
    let same = parts a.0 x b.1 rest b.3 in
    let f = all i a.1 a.0 a.2 in
    let e : i ≡ (f.0 ++ s.Sign last.0 Close ∷ []) ++ rest
    = f.1 ∙ ap (λ (v : List Symbol). f.0 ++ v) (last.1 ∙ ap (λ (v : List Symbol). s.Sign last.0 Close ∷ v) same.1) ∙ sym (append_assoc f.0 (s.Sign last.0 Close ∷ []) rest) in
    (f.0, last.0, e, subst (Inner f.0) same.0 f.2)

-- more were found than before, in these symbols
abbrev Adds : {A : Type 0} → (List A → List Symbol → Type 0) → List A → List Symbol → List A → List Symbol → Type 0
Adds {A} Is found i all rest = (more : List A) × (xs : List Symbol) × (all ≡ found ++ more) × (i ≡ xs ++ rest) × Is more xs

keys-found : (n : ℕ) (found ks : List Bytes) (i rest : List Symbol) → keys_from n found i ≡ done ks rest → Adds IsKeys found i ks rest
unfolding keys_from
keys-found zero found ks i rest h = absurd (refused i rest ks h)
keys-found (suc n) found ks i rest h = elim (cases_Bool (sees OpenSquare i)) [
  | inl met ↦
      let start = sees-found OpenSquare i met in
      let goes : and_then (text (next i)) (λ key. expect CloseSquare >>= (λ _. keys_from n (found ++ key ∷ []))) ≡ done ks rest = rw met at h in
      let a = bind_ok (text (next i)) (λ key. expect CloseSquare >>= (λ _. keys_from n (found ++ key ∷ []))) ks rest goes in
      let b = bind_ok (expect CloseSquare a.1) (λ _. keys_from n (found ++ a.0 ∷ [])) ks rest a.3 in
      let key = text-found a.0 (next i) a.1 a.2 in
      let last = expect-found CloseSquare a.1 b.1 b.2 in
      let others = keys-found n (found ++ a.0 ∷ []) ks b.1 rest b.3 in
      let e : i ≡ (s.Sign start.0 OpenSquare ∷ s.Text key.0 a.0 ∷ s.Sign last.0 CloseSquare ∷ others.1) ++ rest
      = start.2 ∙ ap (λ (v : List Symbol). s.Sign start.0 OpenSquare ∷ v) (ap next (sym start.2) ∙ key.1
      ∙ ap (λ (v : List Symbol). s.Text key.0 a.0 ∷ v) (last.1 ∙ ap (λ (v : List Symbol). s.Sign last.0 CloseSquare ∷ v) others.3)) in (
        a.0 ∷ others.0,
        s.Sign start.0 OpenSquare ∷ s.Text key.0 a.0 ∷ s.Sign last.0 CloseSquare ∷ others.1,
        others.2 ∙ append_assoc found (a.0 ∷ []) others.0,
        e,
        (start.0, key.0, last.0, others.1, refl, others.4),
      )
  | inr none ↦
      let same : done found i ≡ done ks rest = rw none at h in
      let p = parts found ks i rest same in
      ([], [], sym p.0 ∙ sym (append-nil found), p.1, refl)
]

key-read : (n : ℕ) (ks : List Bytes) (i rest : List Symbol) → sees OpenSquare i ≡ true → keys_from (suc n) [] i ≡ done ks rest → ks ≡ [] → ⊥
unfolding keys_from
key-read n ks i rest met h none =
    let goes : and_then (text (next i)) (λ key. expect CloseSquare >>= (λ _. keys_from n (key ∷ []))) ≡ done ks rest = rw met at h in
    let a = bind_ok (text (next i)) (λ key. expect CloseSquare >>= (λ _. keys_from n (key ∷ []))) ks rest goes in
    let b = bind_ok (expect CloseSquare a.1) (λ _. keys_from n (a.0 ∷ [])) ks rest a.3 in
    let others = keys-found n (a.0 ∷ []) ks b.1 rest b.3 in
    let e : ks ≡ a.0 ∷ others.0 = others.2 in
    cc

-- where a bracket stands, a key is read
first-key : (i rest : List Symbol) (ks : List Bytes) → sees OpenSquare i ≡ true → keys i ≡ done ks rest → (xs : List Symbol) × (i ≡ xs ++ rest) × IsKeys ks xs × (ks ≡ [] → ⊥)
unfolding keys
first-key [] rest ks met h = absurd cc
first-key (i ∷ is) rest ks met h =
    let a = keys-found (length (i ∷ is)) [] ks (i ∷ is) rest h in
    (a.1, a.3, subst (λ (v : List Bytes). IsKeys v a.1) (sym a.2) a.4, key-read (length is) ks (i ∷ is) rest met h)

terms-found : (may_open : Bool) (Inner : Spelling) (inner : Option (Parser Expr)) (n : ℕ) (found es : List Expr) (i rest : List Symbol)
    → ((j mid : List Symbol) (x : Expr) → term inner j ≡ done x mid → Takes (IsTerm may_open Inner) j x mid)
    → terms_from inner n found i ≡ done es rest → Adds (IsTail (IsTerm may_open Inner)) found i es rest
unfolding terms_from
terms-found may_open Inner inner zero found es i rest all h = absurd (refused i rest es h)
terms-found may_open Inner inner (suc n) found es i rest all h = elim (cases_Bool (sees Plus i)) [
  | inl met ↦
      let start = sees-found Plus i met in
      let goes : and_then (term inner (next i)) (λ x. terms_from inner n (found ++ x ∷ [])) ≡ done es rest = rw met at h in
      let a = bind_ok (term inner (next i)) (λ x. terms_from inner n (found ++ x ∷ [])) es rest goes in
      let one = all (next i) a.1 a.0 a.2 in
      let others = terms-found may_open Inner inner n (found ++ a.0 ∷ []) es a.1 rest all a.3 in
      let e : i ≡ (s.Sign start.0 Plus ∷ (one.0 ++ others.1)) ++ rest
      = start.2 ∙ ap (λ (v : List Symbol). s.Sign start.0 Plus ∷ v) (ap next (sym start.2) ∙ one.1 ∙ ap (λ (v : List Symbol). one.0 ++ v) others.3 ∙ sym (append_assoc one.0 others.1 rest)) in
      (a.0 ∷ others.0, s.Sign start.0 Plus ∷ (one.0 ++ others.1), others.2 ∙ append_assoc found (a.0 ∷ []) others.0, e, (start.0, one.0, others.1, refl, one.2, others.4))
  | inr none ↦
      let same : done found i ≡ done es rest = rw none at h in
      let p = parts found es i rest same in
      ([], [], sym p.0 ∙ sym (append-nil found), p.1, refl)
]

listed-found : (p : Parser Expr) (Inner : Spelling) → FoundAll Inner p → (n : ℕ) (found es : List Expr) (i rest : List Symbol)
    → listed_from p n found i ≡ done es rest → Adds (IsListed Inner) found i es rest
unfolding listed_from
listed-found p Inner all zero found es i rest h = absurd (refused i rest es h)
listed-found p Inner all (suc n) found es i rest h = elim (cases_Bool (sees CloseSquare i)) [
  | inl met ↦
      let start = sees-found CloseSquare i met in
      let same : done found (next i) ≡ done es rest = rw met at h in
      let q = parts found es (next i) rest same in
      ([], s.Sign start.0 CloseSquare ∷ [], sym q.0 ∙ sym (append-nil found), start.2 ∙ ap (λ (v : List Symbol). s.Sign start.0 CloseSquare ∷ v) (ap next (sym start.2) ∙ q.1), (start.0, refl))
  | inr none ↦
      let goes : and_then (p i) (λ x j. cond (sees Comma j) (listed_from p n (found ++ x ∷ [])) (expect CloseSquare >>= (λ _. pure (found ++ x ∷ []))) (cond (sees Comma j) (next j) j)) ≡ done es rest = rw none at h in
      let a = bind_ok (p i) (λ x j. cond (sees Comma j) (listed_from p n (found ++ x ∷ [])) (expect CloseSquare >>= (λ _. pure (found ++ x ∷ []))) (cond (sees Comma j) (next j) j)) es rest goes in
      let one = all i a.1 a.0 a.2 in
      elim (cases_Bool (sees Comma a.1)) [
        | inl comma ↦
            let start = sees-found Comma a.1 comma in
            let others = listed-found p Inner all n (found ++ a.0 ∷ []) es (next a.1) rest (rw comma at a.3) in
            let e : i ≡ (one.0 ++ (s.Sign start.0 Comma ∷ others.1)) ++ rest
            = one.1 ∙ ap (λ (v : List Symbol). one.0 ++ v) (start.2 ∙ ap (λ (v : List Symbol). s.Sign start.0 Comma ∷ v) (ap next (sym start.2) ∙ others.3)) ∙ sym (append_assoc one.0 (s.Sign start.0 Comma ∷ others.1) rest) in (
              a.0 ∷ others.0,
              one.0 ++ (s.Sign start.0 Comma ∷ others.1),
              others.2 ∙ append_assoc found (a.0 ∷ []) others.0,
              e,
              (one.0, s.Sign start.0 Comma ∷ others.1, refl, one.2, inr (start.0, others.1, refl, others.4)),
            )
        | inr last ↦
            let ends : and_then (expect CloseSquare a.1) (λ _. pure (found ++ a.0 ∷ [])) ≡ done es rest = rw last at a.3 in
            let b = bind_ok (expect CloseSquare a.1) (λ _. pure (found ++ a.0 ∷ [])) es rest ends in
            let bracket = expect-found CloseSquare a.1 b.1 b.2 in
            let q = parts (found ++ a.0 ∷ []) es b.1 rest b.3 in
            let e : i ≡ (one.0 ++ (s.Sign bracket.0 CloseSquare ∷ [])) ++ rest
            = one.1 ∙ ap (λ (v : List Symbol). one.0 ++ v) (bracket.1 ∙ ap (λ (v : List Symbol). s.Sign bracket.0 CloseSquare ∷ v) q.1) ∙ sym (append_assoc one.0 (s.Sign bracket.0 CloseSquare ∷ []) rest) in
            (a.0 ∷ [], one.0 ++ (s.Sign bracket.0 CloseSquare ∷ []), sym q.0, e, (one.0, s.Sign bracket.0 CloseSquare ∷ [], refl, one.2, inl (refl, bracket.0, refl)))
      ]
]

-- ---- `rules` and `from_checkpoint`

abbrev out4 : Bytes → Unit {0} → Parser Expr
out4 rule _ = e.Outputs rule <$> picked

abbrev out3 : Bytes → Unit {0} → Parser Expr
out3 rule _ = spelled (codes "output") >>= out4 rule

abbrev out2 : Bytes → Parser Expr
out2 rule = expect Point >>= out3 rule

abbrev out1 : Unit {0} → Parser Expr
out1 _ = name >>= out2

abbrev OfOutputs : List Symbol → Expr → Type 0
OfOutputs xs x =
    (a b c d : ℕ) × (rule : Bytes) × (p : OutputPick) × (ys : List Symbol) × (xs ≡ s.Sign a Point ∷ s.Name b rule ∷ s.Sign c Point ∷ s.Name d (codes "output") ∷ ys)
    × IsPick ys p × (e.Outputs rule p ≡ x)

outputs-found : (i rest : List Symbol) (x : Expr) → outputs i ≡ done x rest → Takes OfOutputs i x rest
unfolding outputs
outputs-found i rest x h =
    let a = sign_then Point out1 x i rest h in
    let b = name_then out2 x a.1 rest a.3 in
    let c = sign_then Point (out3 b.1) x b.2 rest b.4 in
    let d = word_then (codes "output") (out4 b.1) x c.1 rest c.3 in
    let f = bind_ok (picked d.1) (λ p. pure (e.Outputs b.1 p)) x rest d.3 in
    let g = picked-found f.0 d.1 f.1 f.2 in
    let q = parts (e.Outputs b.1 f.0) x f.1 rest f.3 in
    let same : i ≡ s.Sign a.0 Point ∷ s.Name b.0 b.1 ∷ s.Sign c.0 Point ∷ s.Name d.0 (codes "output") ∷ (g.0 ++ rest)
    = a.2 ∙ ap (λ (v : List Symbol). s.Sign a.0 Point ∷ v) (b.3 ∙ ap (λ (v : List Symbol). s.Name b.0 b.1 ∷ v) (c.2 ∙ ap (λ (v : List Symbol). s.Sign c.0 Point ∷ v)
    (d.2 ∙ ap (λ (v : List Symbol). s.Name d.0 (codes "output") ∷ v) (g.1 ∙ ap (λ (v : List Symbol). g.0 ++ v) q.1)))) in (
      s.Sign a.0 Point ∷ s.Name b.0 b.1 ∷ s.Sign c.0 Point ∷ s.Name d.0 (codes "output") ∷ g.0,
      same,
      (a.0, b.0, c.0, d.0, b.1, f.0, g.0, refl, g.2, q.0),
    )

abbrev gather7 : Bytes → Bytes → Bytes → Unit {0} → Parser Expr
gather7 n l t _ = pure (e.FromCheckpoint n l t)

abbrev gather6 : Bytes → Bytes → Bytes → Parser Expr
gather6 n l t = expect Close >>= gather7 n l t

abbrev gather5 : Bytes → Bytes → Unit {0} → Parser Expr
gather5 n l _ = text >>= gather6 n l

abbrev gather4 : Bytes → Bytes → Parser Expr
gather4 n l = expect Comma >>= gather5 n l

abbrev gather3 : Bytes → Unit {0} → Parser Expr
gather3 n _ = text >>= gather4 n

abbrev gather2 : Bytes → Parser Expr
gather2 n = expect Comma >>= gather3 n

abbrev gather1 : Unit {0} → Parser Expr
gather1 _ = name >>= gather2

abbrev OfCheckpoint : List Symbol → Expr → Type 0
OfCheckpoint xs x =
    (a b c d f g k : ℕ) × (n l t : Bytes)
    × (xs ≡ s.Sign a Open ∷ s.Name b n ∷ s.Sign c Comma ∷ s.Text d l ∷ s.Sign f Comma ∷ s.Text g t ∷ s.Sign k Close ∷ []) × (e.FromCheckpoint n l t ≡ x)

gathered-found : (i rest : List Symbol) (x : Expr) → gathered i ≡ done x rest → Takes OfCheckpoint i x rest
unfolding gathered
gathered-found i rest x h =
    let a = sign_then Open gather1 x i rest h in
    let b = name_then gather2 x a.1 rest a.3 in
    let c = sign_then Comma (gather3 b.1) x b.2 rest b.4 in
    let d = text_then (gather4 b.1) x c.1 rest c.3 in
    let f = sign_then Comma (gather5 b.1 d.1) x d.2 rest d.4 in
    let g = text_then (gather6 b.1 d.1) x f.1 rest f.3 in
    let k = sign_then Close (gather7 b.1 d.1 g.1) x g.2 rest g.4 in
    let q = parts (e.FromCheckpoint b.1 d.1 g.1) x k.1 rest k.3 in
    let same : i ≡ s.Sign a.0 Open ∷ s.Name b.0 b.1 ∷ s.Sign c.0 Comma ∷ s.Text d.0 d.1 ∷ s.Sign f.0 Comma ∷ s.Text g.0 g.1 ∷ s.Sign k.0 Close ∷ rest
    = a.2 ∙ ap (λ (v : List Symbol). s.Sign a.0 Open ∷ v) (b.3 ∙ ap (λ (v : List Symbol). s.Name b.0 b.1 ∷ v) (c.2 ∙ ap (λ (v : List Symbol). s.Sign c.0 Comma ∷ v)
    (d.3 ∙ ap (λ (v : List Symbol). s.Text d.0 d.1 ∷ v) (f.2 ∙ ap (λ (v : List Symbol). s.Sign f.0 Comma ∷ v) (g.3 ∙ ap (λ (v : List Symbol). s.Text g.0 g.1 ∷ v)
    (k.2 ∙ ap (λ (v : List Symbol). s.Sign k.0 Close ∷ v) q.1)))))) in (
      s.Sign a.0 Open ∷ s.Name b.0 b.1 ∷ s.Sign c.0 Comma ∷ s.Text d.0 d.1 ∷ s.Sign f.0 Comma ∷ s.Text g.0 g.1 ∷ s.Sign k.0 Close ∷ [],
      same,
      (a.0, b.0, c.0, d.0, f.0, g.0, k.0, b.1, d.1, g.1, refl, q.0),
    )

-- ---- `expand`

is_zip-found : (i : List Symbol) → is_zip i ≡ true → (at : ℕ) × (xs : List Symbol) × (i ≡ s.Name at (codes "zip") ∷ xs)
is_zip-found [] h = absurd cc
is_zip-found (s.Name at w ∷ xs) h =
    let f = and_parts (bytes_eq w (codes "zip")) (not (sees Equals xs)) h in
    (at, xs, ap (λ (v : Bytes). s.Name at v ∷ xs) ((bytes_eq-Decides w (codes "zip")).0 f.0))
is_zip-found (s.Text at w ∷ xs) h = absurd cc
is_zip-found (s.Number at n ∷ xs) h = absurd cc
is_zip-found (s.Sign at l ∷ xs) h = absurd cc
is_zip-found (s.Newline at ∷ xs) h = absurd cc
is_zip-found (s.Indent at ∷ xs) h = absurd cc
is_zip-found (s.Dedent at ∷ xs) h = absurd cc

zip-found : (b : Bool) (i rest : List Symbol) → zip i ≡ done b rest → Takes IsZip i b rest
zip-found b i rest h = elim (chosen (sees Comma i && is_zip (next i)) (Ok (true, next (next i))) (Ok (false, i)) (done b rest) h) [
  | inl (met, same) ↦
      let f = and_parts (sees Comma i) (is_zip (next i)) met in
      let c = sees-found Comma i f.0 in
      let z = is_zip-found (next i) f.1 in
      let q = parts true b (next (next i)) rest same in
      let behind : z.1 ≡ rest = ap next (sym z.2) ∙ q.1 in (
        s.Sign c.0 Comma ∷ s.Name z.0 (codes "zip") ∷ [],
        c.2 ∙ ap (λ (v : List Symbol). s.Sign c.0 Comma ∷ v) (ap next (sym c.2) ∙ z.2 ∙ ap (λ (v : List Symbol). s.Name z.0 (codes "zip") ∷ v) behind),
        subst (IsZip (s.Sign c.0 Comma ∷ s.Name z.0 (codes "zip") ∷ [])) q.0 (paired c.0 z.0),
      )
  | inr (none, same) ↦ let q = parts false b i rest same in ([], q.1, subst (IsZip []) q.0 not_paired)
]

module _ (p : Parser Expr) (Inner : Spelling) (all : FoundAll Inner p) where
  abbrev pub OfArgument : List ItemForm → List Symbol → ItemForm → Type 0
  OfArgument found xs x =
      (b c : ℕ) × (ys : List Symbol) × (xs ≡ s.Name b x.name ∷ s.Sign c Equals ∷ ys) × (has_name found x.name ≡ false) × Inner ys x.value

  pub valued-found : (w : Bytes) (x : ItemForm) (i rest : List Symbol) → valued p w i ≡ done x rest
      → (ys : List Symbol) × (i ≡ ys ++ rest) × (v : Expr) × Inner ys v × ◌≡◌ {A = ItemForm} (record { name = w; value = v }) x
  unfolding valued
  valued-found w x i rest h =
      let b = bind_ok (p i) (λ value. pure (record { name = w; value = value })) x rest h in
      let f = all i b.1 b.0 b.2 in
      let q = parts (record { name = w; value = b.0 }) x b.1 rest b.3 in
      (f.0, f.1 ∙ ap (λ (v : List Symbol). f.0 ++ v) q.1, b.0, f.2, q.0)

  pub argument-found : (found : List ItemForm) (x : ItemForm) (i rest : List Symbol) → argument p found i ≡ done x rest → Takes (OfArgument found) i x rest
  unfolding argument
  argument-found found x [] rest h = absurd cc
  argument-found found x (s.Name at w ∷ xs) rest h =
      elim (chosen (sees Equals xs) (cond (has_name found w) (Err (Doubled at)) (valued p w (next xs))) (refuse (s.Name at w ∷ xs)) (done x rest) h) [
        | inl (met, other) ↦ elim (chosen (has_name found w) (Err (Doubled at)) (valued p w (next xs)) (done x rest) other) [
          | inl (twice, same) ↦ absurd cc
          | inr (new, same) ↦
              let f = sees-found Equals xs met in
              let v = valued-found w x (next xs) rest same in
              let is : w ≡ x.name = ap (λ (r : ItemForm). r.name) v.4 in
              let has : has_name found x.name ≡ false = ap (has_name found) (sym is) ∙ new in
              let it : Inner v.0 x.value = subst (λ (r : ItemForm). Inner v.0 r.value) v.4 v.3 in (
                s.Name at w ∷ s.Sign f.0 Equals ∷ v.0,
                ap (λ (u : List Symbol). s.Name at w ∷ u) (f.2 ∙ ap (λ (u : List Symbol). s.Sign f.0 Equals ∷ u) (ap next (sym f.2) ∙ v.1)),
                (at, f.0, v.0, ap (λ (u : Bytes). s.Name at u ∷ s.Sign f.0 Equals ∷ v.0) is, has, it),
              )
        ]
        | inr (none, same) ↦ absurd (refused (s.Name at w ∷ xs) rest x same)
      ]
  argument-found found x (s.Text at w ∷ xs) rest h = absurd cc
  argument-found found x (s.Number at n ∷ xs) rest h = absurd cc
  argument-found found x (s.Sign at l ∷ xs) rest h = absurd cc
  argument-found found x (s.Newline at ∷ xs) rest h = absurd cc
  argument-found found x (s.Indent at ∷ xs) rest h = absurd cc
  argument-found found x (s.Dedent at ∷ xs) rest h = absurd cc

  arguments-found : (n : ℕ) (found es : List ItemForm) (i rest : List Symbol) → arguments_from p n found i ≡ done es rest
      → (more : List ItemForm) × (xs : List Symbol) × (es ≡ found ++ more) × (i ≡ xs ++ rest) × IsArguments Inner found more xs
  unfolding arguments_from
  arguments-found zero found es i rest h = absurd (refused i rest es h)
  arguments-found (suc n) found es i rest h = elim (cases_Bool (sees Comma i)) [
    | inl comma ↦
        let start = sees-found Comma i comma in
        let goes : cond (sees Close (next i)) (pure found) (argument p found >>= (λ x. arguments_from p n (found ++ x ∷ []))) (cond (sees Close (next i)) (next (next i)) (next i)) ≡ done es rest = rw comma at h in
        elim (cases_Bool (sees Close (next i))) [
          | inl close ↦
              let last = sees-found Close (next i) close in
              let same : done found (next (next i)) ≡ done es rest = rw close at goes in
              let q = parts found es (next (next i)) rest same in
              let behind : last.1 ≡ rest = ap next (sym last.2) ∙ q.1 in (
                [],
                s.Sign start.0 Comma ∷ s.Sign last.0 Close ∷ [],
                sym q.0 ∙ sym (append-nil found),
                start.2 ∙ ap (λ (v : List Symbol). s.Sign start.0 Comma ∷ v) (ap next (sym start.2) ∙ last.2 ∙ ap (λ (v : List Symbol). s.Sign last.0 Close ∷ v) behind),
                behind_comma start.0 last.0,
              )
          | inr goes_on_here ↦
              let reads : and_then (argument p found (next i)) (λ x. arguments_from p n (found ++ x ∷ [])) ≡ done es rest = rw goes_on_here at goes in
              let a = bind_ok (argument p found (next i)) (λ x. arguments_from p n (found ++ x ∷ [])) es rest reads in
              let one = argument-found found a.0 (next i) a.1 a.2 in
              let others = arguments-found n (found ++ a.0 ∷ []) es a.1 rest a.3 in
              let it = one.2 in
              let whole : i ≡ (s.Sign start.0 Comma ∷ (one.0 ++ others.1)) ++ rest
              = start.2 ∙ ap (λ (v : List Symbol). s.Sign start.0 Comma ∷ v) (ap next (sym start.2) ∙ one.1 ∙ ap (λ (v : List Symbol). one.0 ++ v) others.3 ∙ sym (append_assoc one.0 others.1 rest)) in (
                a.0 ∷ others.0,
                s.Sign start.0 Comma ∷ (one.0 ++ others.1),
                others.2 ∙ append_assoc found (a.0 ∷ []) others.0,
                whole,
                (start.0, it.0, it.1, it.2, others.1, ap (λ (v : List Symbol). s.Sign start.0 Comma ∷ (v ++ others.1)) it.3, it.4, it.5, others.4),
              )
        ]
    | inr plain ↦
        let goes : cond (sees Close i) (pure found) refuse (cond (sees Close i) (next i) i) ≡ done es rest = rw plain at h in
        elim (cases_Bool (sees Close i)) [
          | inl close ↦
              let last = sees-found Close i close in
              let same : done found (next i) ≡ done es rest = rw close at goes in
              let q = parts found es (next i) rest same in
              let behind : last.1 ≡ rest = ap next (sym last.2) ∙ q.1 in
              ([], s.Sign last.0 Close ∷ [], sym q.0 ∙ sym (append-nil found), last.2 ∙ ap (λ (v : List Symbol). s.Sign last.0 Close ∷ v) behind, alone last.0)
          | inr goes_on_here ↦
              let same : refuse i ≡ done es rest = rw goes_on_here at goes in
              absurd (refused i rest es same)
        ]
  ]

  abbrev expand_form : Expr → Bool → List ItemForm → Expr
  expand_form v pairs items = e.Expand (roll-ExpandForm (record { pattern = v; zip = pairs; named = items }))

  abbrev OfExpand : List Symbol → Expr → Type 0
  OfExpand us x =
      (v : Expr) × (pairs : Bool) × (items : List ItemForm) × (xs ys zs : List Symbol) × (us ≡ xs ++ (ys ++ zs)) × Inner xs v × IsZip ys pairs × IsArguments Inner [] items zs
      × (expand_form v pairs items ≡ x)

  abbrev expand3 : Expr → Bool → List ItemForm → Parser Expr
  expand3 v pairs items = pure (expand_form v pairs items)

  abbrev expand2 : Expr → Bool → Parser Expr
  expand2 v pairs = arguments p >>= expand3 v pairs

  abbrev expand1 : Expr → Parser Expr
  expand1 v = zip >>= expand2 v

  expanded-found : (i rest : List Symbol) (x : Expr) → expanded p i ≡ done x rest → Takes OfExpand i x rest
  unfolding expanded arguments
  expanded-found i rest x h =
      let a = bind_ok (p i) expand1 x rest h in
      let f = all i a.1 a.0 a.2 in
      let z = bind_ok (zip a.1) (expand2 a.0) x rest a.3 in
      let g = zip-found z.0 a.1 z.1 z.2 in
      let n = bind_ok (arguments p z.1) (expand3 a.0 z.0) x rest z.3 in
      let k = arguments-found (length z.1) [] n.0 z.1 n.1 n.2 in
      let q = parts (expand_form a.0 z.0 n.0) x n.1 rest n.3 in
      let same : i ≡ (f.0 ++ (g.0 ++ k.1)) ++ rest
      = f.1 ∙ ap (λ (v : List Symbol). f.0 ++ v) (g.1 ∙ ap (λ (v : List Symbol). g.0 ++ v) (k.3 ∙ ap (λ (v : List Symbol). k.1 ++ v) q.1) ∙ sym (append_assoc g.0 k.1 rest))
      ∙ sym (append_assoc f.0 (g.0 ++ k.1) rest) in
      let items : IsArguments Inner [] n.0 k.1 = subst (λ (v : List ItemForm). IsArguments Inner [] v k.1) (sym k.2) k.4 in
      (f.0 ++ (g.0 ++ k.1), same, (a.0, z.0, n.0, f.0, g.0, k.1, refl, f.2, g.2, items, q.0))

pub record Inside (may_open : Bool) (Inner : Spelling) (inner : Option (Parser Expr)) : Type 0 where
  pub found : (p : Parser Expr) → inner ≡ Some p → FoundAll Inner p
  pub opens : (p : Parser Expr) → inner ≡ Some p → may_open ≡ true

module _ (may_open : Bool) (Inner : Spelling) (inner : Option (Parser Expr)) (inside : Inside may_open Inner inner) where
  abbrev Term : Spelling
  Term = IsTerm may_open Inner

  opened-found : (o : Option (Parser Expr)) → inner ≡ o → (a : ℕ) (xs rest : List Symbol) (x : Expr) → opened_by inner o closed (s.Sign a Open ∷ xs) ≡ done x rest
      → (ys : List Symbol) × (b : ℕ) × (xs ≡ (ys ++ s.Sign b Close ∷ []) ++ rest) × Inner ys x
  opened-found None same a xs rest x h = absurd (refused (s.Sign a Open ∷ xs) rest x h)
  opened-found (Some p) same a xs rest x h = closed-found p Inner (inside.found p same) xs rest x h

  listed-in : (o : Option (Parser Expr)) → inner ≡ o → (a : ℕ) (xs rest : List Symbol) (x : Expr)
      → opened_by inner o (λ p. listed p >>= (λ v. pure (e.Many v))) (s.Sign a OpenSquare ∷ xs) ≡ done x rest → Takes Term (s.Sign a OpenSquare ∷ xs) x rest
  unfolding listed
  listed-in None same a xs rest x h = absurd (refused (s.Sign a OpenSquare ∷ xs) rest x h)
  listed-in (Some p) same a xs rest x h =
      let b = bind_ok (listed p xs) (λ v. pure (e.Many v)) x rest h in
      let l = listed-found p Inner (inside.found p same) _ [] b.0 xs b.1 b.2 in
      let q = parts (e.Many b.0) x b.1 rest b.3 in
      let whole : IsListed Inner b.0 l.1 = subst (λ (v : List Expr). IsListed Inner v l.1) (sym l.2) l.4 in (
        s.Sign a OpenSquare ∷ l.1,
        ap (λ (v : List Symbol). s.Sign a OpenSquare ∷ v) (l.3 ∙ ap (λ (v : List Symbol). l.1 ++ v) q.1),
        subst (Term (s.Sign a OpenSquare ∷ l.1)) q.0 (a_list a b.0 l.1 (inside.opens p same) whole),
      )

  expand-found : (o : Option (Parser Expr)) → inner ≡ o → (at a : ℕ) (w : Bytes) → word_of w ≡ word.Expand → (xs rest : List Symbol) (x : Expr)
      → opened_by inner o expanded (s.Sign a Open ∷ xs) ≡ done x rest → Takes Term (s.Name at w ∷ s.Sign a Open ∷ xs) x rest
  expand-found None same at a w is xs rest x h = absurd (refused (s.Sign a Open ∷ xs) rest x h)
  expand-found (Some p) same at a w is xs rest x h =
      let f = expanded-found p Inner (inside.found p same) xs rest x h in
      let o = f.2 in
      let form : Expr = e.Expand (roll-ExpandForm (record { pattern = o.0; zip = o.1; named = o.2 })) in
      let it : Term (s.Name at w ∷ s.Sign a Open ∷ f.0) form
      = subst (λ (v : List Symbol). Term (s.Name at w ∷ s.Sign a Open ∷ v) form) (sym o.6) (an_expand at a w o.0 o.1 o.2 o.3 o.4 o.5 is o.7 o.8 o.9) in
      (s.Name at w ∷ s.Sign a Open ∷ f.0, ap (λ (v : List Symbol). s.Name at w ∷ s.Sign a Open ∷ v) f.1, subst (Term (s.Name at w ∷ s.Sign a Open ∷ f.0)) o.10 it)

  plain-found : (at : ℕ) (w : Bytes) (xs rest : List Symbol) (x : Expr) → may_be_name (word_of w) ≡ true → plain at w xs ≡ done x rest → Takes Term (s.Name at w ∷ xs) x rest
  unfolding plain
  plain-found at w xs rest x may h = elim (chosen (goes_on xs) (Err (Unsupported at)) (Ok (e.Name w, xs)) (done x rest) h) [
    | inl (met, same) ↦ absurd cc
    | inr (none, same) ↦ let q = parts (e.Name w) x xs rest same in (s.Name at w ∷ [], ap (λ (v : List Symbol). s.Name at w ∷ v) q.1, subst (Term (s.Name at w ∷ [])) q.0 (a_name at w may))
  ]

  some-keys : (at : ℕ) (w : Bytes) → word_of w ≡ word.Config → (xs ys rest : List Symbol) (x : Expr) (ks : List Bytes) → sees OpenSquare xs ≡ true → xs ≡ ys ++ rest
      → IsKeys ks ys → e.Config ks ≡ x → (ks ≡ [] → ⊥) → Takes Term (s.Name at w ∷ xs) x rest
  some-keys at w is xs ys rest x [] met same h q some = absurd (some refl)
  some-keys at w is xs ys rest x (k ∷ ks) met same h q some =
      (s.Name at w ∷ ys, ap (λ (v : List Symbol). s.Name at w ∷ v) same, subst (Term (s.Name at w ∷ ys)) q (a_key at w k ks ys is h))

  keyed : (at : ℕ) (w : Bytes) → word_of w ≡ word.Config → (xs rest : List Symbol) (x : Expr) → sees OpenSquare xs ≡ true
      → and_then (keys xs) (λ v. pure (e.Config v)) ≡ done x rest → Takes Term (s.Name at w ∷ xs) x rest
  keyed at w is xs rest x met h =
      let b = bind_ok (keys xs) (λ v. pure (e.Config v)) x rest h in
      let f = first-key xs b.1 b.0 met b.2 in
      let q = parts (e.Config b.0) x b.1 rest b.3 in
      some-keys at w is xs f.0 rest x b.0 met (f.1 ∙ ap (λ (v : List Symbol). f.0 ++ v) q.1) f.2 q.0 f.3

  by_word-found : (k : Keyword) (at : ℕ) (w : Bytes) → word_of w ≡ k → (xs rest : List Symbol) (x : Expr) → by_word inner at w k xs ≡ done x rest → Takes Term (s.Name at w ∷ xs) x rest
  unfolding flagged
  by_word-found word.True at w is xs rest x h =
      let q = parts (e.Truth true) x xs rest h in (s.Name at w ∷ [], ap (λ (v : List Symbol). s.Name at w ∷ v) q.1, subst (Term (s.Name at w ∷ [])) q.0 (a_truth at w is))
  by_word-found word.False at w is xs rest x h =
      let q = parts (e.Truth false) x xs rest h in (s.Name at w ∷ [], ap (λ (v : List Symbol). s.Name at w ∷ v) q.1, subst (Term (s.Name at w ∷ [])) q.0 (a_falsehood at w is))
  by_word-found word.Python at w is xs rest x h = absurd cc
  by_word-found word.Config at w is xs rest x h = elim (chosen (sees OpenSquare xs) (and_then (keys xs) (λ v. pure (e.Config v))) (plain at w xs) (done x rest) h) [
    | inl (met, same) ↦ keyed at w is xs rest x met same
    | inr (none, same) ↦ plain-found at w xs rest x (ap may_be_name is) same
  ]
  by_word-found word.Flag at w is xs rest x h = elim (chosen (sees Open xs) (and_then (opened_by inner inner closed xs) (λ v. pure (e.Flagged w v))) (plain at w xs) (done x rest) h) [
    | inl (met, same) ↦
        let start = sees-found Open xs met in
        let b = bind_ok (opened_by inner inner closed xs) (λ v. pure (e.Flagged w v)) x rest same in
        let f = opened-found inner refl start.0 start.1 b.1 b.0 (ap (opened_by inner inner closed) (sym start.2) ∙ b.2) in
        let q = parts (e.Flagged w b.0) x b.1 rest b.3 in (
          s.Name at w ∷ s.Sign start.0 Open ∷ (f.0 ++ s.Sign f.1 Close ∷ []),
          ap (λ (v : List Symbol). s.Name at w ∷ v) (start.2 ∙ ap (λ (v : List Symbol). s.Sign start.0 Open ∷ v) (f.2 ∙ ap (λ (v : List Symbol). (f.0 ++ s.Sign f.1 Close ∷ []) ++ v) q.1)),
          subst (Term (s.Name at w ∷ s.Sign start.0 Open ∷ (f.0 ++ s.Sign f.1 Close ∷ []))) q.0 (a_flag at start.0 f.1 w f.0 b.0 is f.3),
        )
    | inr (none, same) ↦ plain-found at w xs rest x (ap may_be_name is) same
  ]
  by_word-found word.Rules at w is xs rest x h = elim (chosen (sees Point xs) (outputs xs) (plain at w xs) (done x rest) h) [
    | inl (met, same) ↦
        let f = outputs-found xs rest x same in
        let o = f.2 in
        let ys : List Symbol = s.Name at w ∷ s.Sign o.0 Point ∷ s.Name o.1 o.4 ∷ s.Sign o.2 Point ∷ s.Name o.3 (codes "output") ∷ o.6 in
        let it : Term (s.Name at w ∷ f.0) (e.Outputs o.4 o.5)
        = subst (λ (v : List Symbol). Term (s.Name at w ∷ v) (e.Outputs o.4 o.5)) (sym o.7) (an_output at o.0 o.1 o.2 o.3 w o.4 o.5 o.6 is o.8) in
        (s.Name at w ∷ f.0, ap (λ (v : List Symbol). s.Name at w ∷ v) f.1, subst (Term (s.Name at w ∷ f.0)) o.9 it)
    | inr (none, same) ↦ plain-found at w xs rest x (ap may_be_name is) same
  ]
  by_word-found word.Expand at w is xs rest x h = elim (chosen (sees Open xs) (opened_by inner inner expanded xs) (plain at w xs) (done x rest) h) [
    | inl (met, same) ↦
        let start = sees-found Open xs met in
        let f = expand-found inner refl at start.0 w is start.1 rest x (ap (opened_by inner inner expanded) (sym start.2) ∙ same) in
        (f.0, ap (λ (v : List Symbol). s.Name at w ∷ v) start.2 ∙ f.1, f.2)
    | inr (none, same) ↦ plain-found at w xs rest x (ap may_be_name is) same
  ]
  by_word-found word.FromCheckpoint at w is xs rest x h = elim (chosen (sees Open xs) (gathered xs) (plain at w xs) (done x rest) h) [
    | inl (met, same) ↦
        let f = gathered-found xs rest x same in
        let o = f.2 in
        let it : Term (s.Name at w ∷ f.0) (e.FromCheckpoint o.7 o.8 o.9)
        = subst (λ (v : List Symbol). Term (s.Name at w ∷ v) (e.FromCheckpoint o.7 o.8 o.9)) (sym o.10) (of_checkpoint at o.0 o.1 o.2 o.3 o.4 o.5 o.6 w o.7 o.8 o.9 is) in
        (s.Name at w ∷ f.0, ap (λ (v : List Symbol). s.Name at w ∷ v) f.1, subst (Term (s.Name at w ∷ f.0)) o.11 it)
    | inr (none, same) ↦ plain-found at w xs rest x (ap may_be_name is) same
  ]
  by_word-found word.Other at w is xs rest x h = plain-found at w xs rest x (ap may_be_name is) h

  sign-found : (a : ℕ) (k : Sign) (xs rest : List Symbol) (x : Expr) → term inner (s.Sign a k ∷ xs) ≡ done x rest → Takes Term (s.Sign a k ∷ xs) x rest
  unfolding term many
  sign-found a Open xs rest x h =
      let f = opened-found inner refl a xs rest x h in
      (s.Sign a Open ∷ (f.0 ++ s.Sign f.1 Close ∷ []), ap (λ (v : List Symbol). s.Sign a Open ∷ v) f.2, in_parentheses a f.1 f.0 x f.3)
  sign-found a OpenSquare xs rest x h = listed-in inner refl a xs rest x h
  sign-found a Colon xs rest x h = absurd cc
  sign-found a Comma xs rest x h = absurd cc
  sign-found a Equals xs rest x h = absurd cc
  sign-found a Close xs rest x h = absurd cc
  sign-found a CloseSquare xs rest x h = absurd cc
  sign-found a Point xs rest x h = absurd cc
  sign-found a Plus xs rest x h = absurd cc
  sign-found a Greater xs rest x h = absurd cc

  term-found : (i rest : List Symbol) (x : Expr) → term inner i ≡ done x rest → Takes Term i x rest
  unfolding term named
  term-found [] rest x h = absurd cc
  term-found (s.Text at t ∷ xs) rest x h =
      let b = bind_ok (texts t xs) (λ v. pure (e.Word v)) x rest h in
      let f = texts-found t b.0 xs b.1 b.2 in
      let q = parts (e.Word b.0) x b.1 rest b.3 in
      (s.Text at t ∷ f.0, ap (λ (v : List Symbol). s.Text at t ∷ v) (f.1 ∙ ap (λ (v : List Symbol). f.0 ++ v) q.1), subst (Term (s.Text at t ∷ f.0)) q.0 (a_text at t b.0 f.0 f.2))
  term-found (s.Number at n ∷ xs) rest x h =
      let q = parts (e.Number n) x xs rest h in (s.Number at n ∷ [], ap (λ (v : List Symbol). s.Number at n ∷ v) q.1, subst (Term (s.Number at n ∷ [])) q.0 (a_number at n))
  term-found (s.Name at w ∷ xs) rest x h = by_word-found (word_of w) at w refl xs rest x h
  term-found (s.Sign at k ∷ xs) rest x h = sign-found at k xs rest x h
  term-found (s.Newline at ∷ xs) rest x h = absurd cc
  term-found (s.Indent at ∷ xs) rest x h = absurd cc
  term-found (s.Dedent at ∷ xs) rest x h = absurd cc

  -- one term is itself
  summed-found : (ts us rest : List Symbol) (y : Expr) (more : List Expr) → Term ts y → IsTail Term more us → IsLevel may_open Inner (ts ++ us) (summed (y ∷ more))
  summed-found ts us rest y [] h none = subst (λ (v : List Symbol). IsLevel may_open Inner v y) (sym (ap (λ (v : List Symbol). ts ++ v) none ∙ append-nil ts)) (one_term ts y h)
  summed-found ts us rest y (z ∷ es) h others = a_sum ts us y z es h others

  level-found : (i rest : List Symbol) (x : Expr) → level inner i ≡ done x rest → Takes (IsLevel may_open Inner) i x rest
  unfolding level terms
  level-found i rest x h =
      let a = bind_ok (term inner i) (λ v. terms inner v >>= (λ es. pure (summed es))) x rest h in
      let one = term-found i a.1 a.0 a.2 in
      let b = bind_ok (terms inner a.0 a.1) (λ es. pure (summed es)) x rest a.3 in
      let others = terms-found may_open Inner inner _ (a.0 ∷ []) b.0 a.1 b.1 term-found b.2 in
      let q = parts (summed b.0) x b.1 rest b.3 in
      let sum : summed (a.0 ∷ others.0) ≡ x = ap summed (sym others.2) ∙ q.0 in (
        one.0 ++ others.1,
        one.1 ∙ ap (λ (v : List Symbol). one.0 ++ v) (others.3 ∙ ap (λ (v : List Symbol). others.1 ++ v) q.1) ∙ sym (append_assoc one.0 others.1 rest),
        subst (IsLevel may_open Inner (one.0 ++ others.1)) sum (summed-found one.0 others.1 rest a.0 others.0 one.2 others.4),
      )

-- What is read is what the grammar spells.
pub expr-found : (depth : ℕ) (i rest : List Symbol) (x : Expr) → expr depth i ≡ Ok (x, rest) → (xs : List Symbol) × (i ≡ xs ++ rest) × IsExpr depth xs x
unfolding expr
expr-found zero i rest x h = level-found false (λ _ _. ⊥) None (record { found = λ p e. absurd cc; opens = λ p e. absurd cc }) i rest x h
expr-found (suc depth) i rest x h =
    level-found true (IsExpr depth) (Some (expr depth))
    (record { found = λ p e j mid y g. expr-found depth j mid y (ap (λ (o : Option (Parser Expr)). at_some o p j) e ∙ g); opens = λ p e. refl }) i rest x h
