-- Chains and what records vouch for, from one image to another in which the same records speak.
use Rattle.std.proofs.Common.{◌≡◌, ℕ, zero, suc, Bool, true, List, [], ◌∷◌, map, refl, sym, ap, subst, inl, inr, arith, ◌∙◌, Option, Some, None}
use Rattle.std.specs.Prelude.{◌==◌, if◌then◌else◌}
use Rattle.std.specs.Option.{option_and_then}
use Rattle.smk_base.specs.declared.tree.Tree.{Tree}
use Rattle.smk_record.specs.declared.record.Stamp.{Stamp}
use Rattle.smk_record.specs.declared.record.Stamp.TheVariants.{Time, Sum, Made}
use Rattle.smk_record.specs.declared.record.Record.{Record}
use Rattle.smk_world.specs.Trees.{Path, Act, all_of, value_at, part_at, IsIn}
use Rattle.smk_store.specs.Trust.{Versions, Eased, vouched}
use Rattle.smk_record.specs.Records.{stamped}
use Rattle.smk_laws_protocol.proofs.View.{View, Speaks, Chain, Link, holder, input_value, vir}

-- what speaks in the one speaks in the other
abbrev pub Passes : View → Eased → View → Eased → Type 0
Passes v e v' e' = (q h : Path) (r : Record) → Speaks v e q h r → Speaks v' e' q h r

-- The same for what records with Q name; these have Q again.
abbrev pub PassesFor : (Record → Type 0) → View → Eased → View → Eased → Type 0
PassesFor Q v e v' e' =
    (r : Record) → Q r → (q : Path) (m : ℕ) → IsIn (stamped r) (q, Made m) → (h : Path) (s : Record) → Speaks v e q h s → s.made ≡ m → Speaks v' e' q h s × Q s

pub chain_for : (Q : Record → Type 0) (v v' : View) (e e' : Eased) → PassesFor Q v e v' e' → (r : Record) → Q r → Chain v e r → Chain v' e' r
chain_for Q v v' e e' on _ ok (Link r place by speaks chains) =
    Link r place by
    (λ q m i. ((on r ok q m i (place q m) (by q m) (speaks q m i).0 (speaks q m i).1).0, (speaks q m i).1))
    (λ q m i. chain_for Q v v' e e' on (by q m) (on r ok q m i (place q m) (by q m) (speaks q m i).0 (speaks q m i).1).1 (chains q m i))

abbrev pub Any : Record → Type 0
Any r = Unit {0}

pub for_any : (v v' : View) (e e' : Eased) → Passes v e v' e' → PassesFor Any v e v' e'
for_any v v' e e' on r ok q m i h s speaks same = (on q h s speaks, tt)

pub chain_on : (v v' : View) (e e' : Eased) → Passes v e v' e' → (r : Record) → Chain v e r → Chain v' e' r
chain_on v v' e e' on r chain = chain_for Any v v' e e' (for_any v v' e e' on) r tt chain

pub map_same : {A B : Type 0} (f g : A → B) (xs : List A) → ((x : A) → IsIn xs x → f x ≡ g x) → map f xs ≡ map g xs
map_same f g [] h = refl
map_same f g (x ∷ xs) h = λ i. h x (inl refl) i ∷ map_same f g xs (λ y k. h y (inr k)) i

-- an input's value where its holder and the record there are known
pub value_of_product :
    (v : View) (H : Versions) (V : Path → Option Tree) (q h : Path) (m : ℕ) (r : Record) →
    holder v q ≡ Some h → v.record_at h ≡ Some r → r.made ≡ m →
    input_value v H V (q, Made m) ≡ option_and_then (part_at h q) (V h)
value_of_product v H V q h m r is at same =
    rw (is, at) (subst (λ n. (if r.made == n then option_and_then (part_at h q) (V h) else None) ≡ option_and_then (part_at h q) (V h)) same (by_test (r.made == r.made) (self r.made)))
  where
    self : (n : ℕ) → (n == n) ≡ true
    self n = grind arith

    by_test : (b : Bool) → b ≡ true → (if b then option_and_then (part_at h q) (V h) else None) ≡ option_and_then (part_at h q) (V h)
    by_test b k = rw k refl

-- the inputs' values, where those of the holders that the chain names are the same
pub inputs_for :
    (Q : Record → Type 0) (H : Versions) (v v' : View) (e e' : Eased) (V V' : Path → Option Tree) → PassesFor Q v e v' e' →
    (r : Record) → Q r → Chain v e r →
    ((h : Path) (s : Record) → Q s → Chain v e s → v.record_at h ≡ Some s → v'.record_at h ≡ Some s → V h ≡ V' h) →
    (x : Path × Stamp) → IsIn (stamped r) x → input_value v H V x ≡ input_value v' H V' x
inputs_for Q H v v' e e' V V' on r ok chain same (q, Time t) i = refl
inputs_for Q H v v' e e' V V' on r ok chain same (q, Sum t d) i = refl
inputs_for Q H v v' e e' V V' on _ ok (Link r place by speaks chains) same (q, Made m) i =
    let s = (speaks q m i).0 in
    let k = on r ok q m i (place q m) (by q m) s (speaks q m i).1 in
    value_of_product v H V q (place q m) m (by q m) s.holder s.clear.0 (speaks q m i).1
    ∙ ap (option_and_then (part_at (place q m) q)) (same (place q m) (by q m) k.1 (chains q m i) s.clear.0 k.0.clear.0)
    ∙ sym (value_of_product v' H V' q (place q m) m (by q m) k.0.holder k.0.clear.0 (speaks q m i).1)

pub vir_for :
    (Q : Record → Type 0) (act : Act) (H : Versions) (v v' : View) (e e' : Eased) → PassesFor Q v e v' e' → (n : ℕ) (p : Path) (r : Record) →
    v.record_at p ≡ Some r → v'.record_at p ≡ Some r → Q r → Chain v e r → vir v act H n p ≡ vir v' act H n p
vir_for Q act H v v' e e' on zero p r at at' ok chain = refl
vir_for Q act H v v' e e' on (suc n) p r at at' ok chain =
    ap (vouched act p (input_value v H (vir v act H n))) at
    ∙ ap (λ xs. value_at act r.recipe p (all_of xs))
    (map_same (input_value v H (vir v act H n)) (input_value v' H (vir v' act H n)) (stamped r)
    (inputs_for Q H v v' e e' (vir v act H n) (vir v' act H n) on r ok chain
    (λ h s k c is is'. vir_for Q act H v v' e e' on n h s is is' k c)))
    ∙ sym (ap (vouched act p (input_value v' H (vir v' act H n))) at')

pub vir_on :
    (act : Act) (H : Versions) (v v' : View) (e e' : Eased) → Passes v e v' e' → (n : ℕ) (p : Path) (r : Record) →
    v.record_at p ≡ Some r → v'.record_at p ≡ Some r → Chain v e r → vir v act H n p ≡ vir v' act H n p
vir_on act H v v' e e' on n p r at at' chain = vir_for Any act H v v' e e' (for_any v v' e e' on) n p r at at' tt chain
