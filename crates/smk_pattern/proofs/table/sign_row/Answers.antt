use Rattle.std.proofs.Common.{◌≡◌, ℕ, zero, suc, List, [], ◌∷◌, ◌++◌, get_or, map, set, length, Bool, true, false, refl, sym, ap, ◌∙◌, Vec, Global, ◌<◌, ◌⊎◌, inl, inr, ⊎_elim, arith}
use Rattle.std.proofs.lemmas.List.{map_push}
use Rattle.smk_pattern.proofs.table.sign_row.Goals as goal

pushed_default : {A : Type 0} (xs : List A) (d : A) (n : ℕ) → get_or (xs ++ d ∷ []) n d ≡ get_or xs n d
pushed_default [] d zero = refl
pushed_default [] d (suc n) = refl
pushed_default (x ∷ xs) d zero = refl
pushed_default (x ∷ xs) d (suc n) = pushed_default xs d n

rows_push : (rows new : List (Vec Bool Global)) (v : Vec Bool Global) (parts left : ℕ) → new ≡ rows ++ v ∷ [] → v.items ≡ [] →
    get_or (get_or (map (λ (row : Vec Bool Global). row.items) new) parts []) left false ≡ get_or (get_or (map (λ (row : Vec Bool Global). row.items) rows) parts []) left false
rows_push rows new v parts left e f =
    rw (e, map_push (λ (row : Vec Bool Global). row.items) rows v, f)
    (ap (λ (r : List Bool). get_or r left false) (pushed_default (map (λ (row : Vec Bool Global). row.items) rows) [] parts))

pub loop-preserved : goal.loop-preserved
loop-preserved c = λ parts left.
    rows_push _ _ c.new.result parts left c.in_ok-push.ensures.items c.new.ensures.items ∙ c.loop.invariant parts left

signed : (rows : List (Vec Bool Global)) (old new : Vec Bool Global) (pieces bytes : ℕ) → old ≡ get_or rows pieces old → pieces < length rows →
    ((left : ℕ) → get_or new.items left false ≡ true → (get_or old.items left false ≡ true) ⊎ (left ≡ bytes)) → (parts left : ℕ) →
    get_or (get_or (map (λ (row : Vec Bool Global). row.items) (set rows pieces new)) parts []) left false ≡ true →
    (get_or (get_or (map (λ (row : Vec Bool Global). row.items) rows) parts []) left false ≡ true) ⊎ ((parts ≡ pieces) × (left ≡ bytes))
signed [] old new pieces bytes e lt h parts left t = absurd (omega (arith, lt))
signed (r ∷ rows) old new zero bytes e lt h zero left t =
    ⊎_elim (λ was. inl (ap (λ (v : Vec Bool Global). get_or v.items left false) (sym e) ∙ was)) (λ now. inr (refl, now)) (h left t)
signed (r ∷ rows) old new zero bytes e lt h (suc parts) left t = inl t
signed (r ∷ rows) old new (suc pieces) bytes e lt h zero left t = inl t
signed (r ∷ rows) old new (suc pieces) bytes e lt h (suc parts) left t =
    ⊎_elim (λ was. inl was) (λ now. inr (ap (λ n. suc n) now.0, now.1)) (signed rows old new pieces bytes e (omega (arith, lt)) h parts left t)

pub returns-in_err-sign : goal.returns-in_err-sign
returns-in_err-sign c = λ parts left t.
    ⊎_elim (λ was. inl (sym (c.loop.invariant parts left) ∙ was)) (λ now. inr now)
    (signed c.loop.rows.items c.index_mut-signs.result.now c.sign.new.row c.args.row c.args.bytes c.index_mut-signs.ensures.value (omega (arith, c.loop.rows.ok.0)) c.sign.ensures parts left t)

pub returns-in_ok-sign : goal.returns-in_ok-sign
returns-in_ok-sign c = λ parts left t.
    ⊎_elim (λ was. inl (sym (c.loop.invariant parts left) ∙ was)) (λ now. inr now)
    (signed c.loop.rows.items c.index_mut-signs.result.now c.sign.new.row c.args.row c.args.bytes c.index_mut-signs.ensures.value (omega (arith, c.loop.rows.ok.0)) c.sign.ensures parts left t)
