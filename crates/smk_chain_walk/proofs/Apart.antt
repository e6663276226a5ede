-- No two jobs have the same text.
use Rattle.std.proofs.Common.{◌≡◌, ◌∙◌, ℕ, ◌+◌, ◌<◌, ◌≤◌, ◌^◌, List, [], ◌∷◌, ◌++◌, length, refl, sym, ap, ap₂, append_assoc, arith, length-append}
use Rattle.std.specs.Prelude.{decimal}
use Rattle.std.specs.List.{flat_map}
use Rattle.smk_base.specs.declared.tree.Pair.{Pair}
use Rattle.smk_choose.specs.declared.choice.Making.{Making}
use Rattle.smk_record.specs.Spelling.{num, text, pair}
use Rattle.smk_record.specs.Reading.{number_in}
use Rattle.smk_record.proofs.Inverts.{some_is, number_again}
use Rattle.smk_chain_walk.specs.Numbers.{key, IsSmall}

same_front : (t u x y : List ℕ) → length t ≡ length u → t ++ x ≡ u ++ y → (t ≡ u) × (x ≡ y)
same_front [] [] x y l e = (refl, e)
same_front [] (b ∷ u) x y l e = absurd (omega (arith, l))
same_front (a ∷ t) [] x y l e = absurd (omega (arith, l))
same_front (a ∷ t) (b ∷ u) x y l e =
    let first : a ≡ b = cc in
    let rest : t ++ x ≡ u ++ y = cc in
    let r = same_front t u x y (omega (arith, l)) rest in
    (ap₂ ◌∷◌ first r.0, r.1)

numbers_one : (end n m : ℕ) (r s : List ℕ) → Rattle.smk_record.specs.Reading.is_digit end ≡ Rattle.std.proofs.Common.false → n < 2 ^ 64 → m < 2 ^ 64 →
    decimal n ++ end ∷ r ≡ decimal m ++ end ∷ s → (n ≡ m) × (r ≡ s)
numbers_one end n m r s d hn hm e =
    let a : ℕ × List ℕ = (n, r) in
    let b : ℕ × List ℕ = (m, s) in
    let both = some_is a b (sym (number_again end n r d hn) ∙ ap (number_in end) e ∙ number_again end m s d hm) in
    (ap (λ (q : ℕ × List ℕ). q.0) both, ap (λ (q : ℕ × List ℕ). q.1) both)

text_regrouped : (t r : List ℕ) → text t ++ r ≡ decimal (length t) ++ 58 ∷ (t ++ 10 ∷ r)
text_regrouped t r = append_assoc (decimal (length t)) (58 ∷ (t ++ 10 ∷ [])) r ∙ ap (λ x. decimal (length t) ++ 58 ∷ x) (append_assoc t (10 ∷ []) r)

text_long : (t : List ℕ) → length t ≤ length (text t)
text_long t = omega (arith, length-append (decimal (length t)) (58 ∷ (t ++ 10 ∷ [])), length-append t (10 ∷ []))

texts_one : (t u r s : List ℕ) → length (text t) < 2 ^ 64 → length (text u) < 2 ^ 64 → text t ++ r ≡ text u ++ s → (t ≡ u) × (r ≡ s)
texts_one t u r s ht hu e =
    let n = numbers_one 58 (length t) (length u) (t ++ 10 ∷ r) (u ++ 10 ∷ s) refl (omega (arith, text_long t, ht)) (omega (arith, text_long u, hu))
    (sym (text_regrouped t r) ∙ e ∙ text_regrouped u s) in
    let f = same_front t u (10 ∷ r) (10 ∷ s) n.0 n.1 in
    (f.0, let q : 10 ∷ r ≡ 10 ∷ s = f.1 in cc)

pair_some : (p : Pair) (r : List ℕ) → 0 < length (pair p ++ r)
pair_some p r = omega (arith, length-append (pair p) r, length-append (text p.name) (text p.value), length-append (decimal (length p.name)) (58 ∷ (p.name ++ 10 ∷ [])))

pairs_one : (xs ys : List Pair) → length (flat_map pair xs) < 2 ^ 64 → length (flat_map pair ys) < 2 ^ 64 → flat_map pair xs ≡ flat_map pair ys → xs ≡ ys
pairs_one [] [] hx hy e = refl
pairs_one [] (q ∷ ys) hx hy e = absurd (let l : 0 ≡ length (pair q ++ flat_map pair ys) = ap length e in omega (arith, l, pair_some q (flat_map pair ys)))
pairs_one (p ∷ xs) [] hx hy e = absurd (let l : length (pair p ++ flat_map pair xs) ≡ 0 = ap length e in omega (arith, l, pair_some p (flat_map pair xs)))
pairs_one (p ∷ xs) (q ∷ ys) hx hy e =
    let rx = flat_map pair xs in
    let ry = flat_map pair ys in
    let lx = length-append (pair p) rx in
    let ly = length-append (pair q) ry in
    let kx = length-append (text p.name) (text p.value) in
    let ky = length-append (text q.name) (text q.value) in
    let whole : text p.name ++ (text p.value ++ rx) ≡ text q.name ++ (text q.value ++ ry) =
    sym (append_assoc (text p.name) (text p.value) rx) ∙ e ∙ append_assoc (text q.name) (text q.value) ry in
    let one = texts_one p.name q.name (text p.value ++ rx) (text q.value ++ ry) (omega (arith, hx, lx, kx)) (omega (arith, hy, ly, ky)) whole in
    let two = texts_one p.value q.value rx ry (omega (arith, hx, lx, kx)) (omega (arith, hy, ly, ky)) one.1 in
    ap₂ ◌∷◌ (ap₂ (λ n v. record { name = n; value = v }) one.0 two.0) (pairs_one xs ys (omega (arith, hx, lx)) (omega (arith, hy, ly)) two.1)

pub keys_one : (a b : Making) → IsSmall a → IsSmall b → key a ≡ key b → a ≡ b
keys_one a b ha hb e =
    let ra = flat_map pair a.binding in
    let rb = flat_map pair b.binding in
    let n = numbers_one 10 a.rule b.rule ra rb refl ha.0 hb.0
    (sym (append_assoc (decimal a.rule) (10 ∷ []) ra) ∙ e ∙ append_assoc (decimal b.rule) (10 ∷ []) rb) in
    let bindings = pairs_one a.binding b.binding (omega (arith, ha.1, length-append (num a.rule) ra)) (omega (arith, hb.1, length-append (num b.rule) rb)) n.1 in
    ap₂ (λ r p. record { rule = r; binding = p }) n.0 bindings
