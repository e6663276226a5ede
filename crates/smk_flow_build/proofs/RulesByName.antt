-- One more rule under its name.
use Rattle.std.proofs.Common.{◌≡◌, List, [], ◌∷◌, ◌++◌, Option, Some, option_map, is_some, cond, Bool, true, false, true≢false, refl, sym, ap, ◌∙◌, bytes_eq, Bor}
use Rattle.std.specs.BTreeMap.{BTreeMap, get_by}
use Rattle.std.specs.Map.{update}
use Rattle.std.specs.Cmp.Lexicographic.{slice_cmp}
use Rattle.std.specs.Ordering.{nat_cmp}
use Rattle.std.proofs.lemmas.Slice.Eq.{bytes_eq-Decides}
use Rattle.smk_pattern.specs.Shapes.{Text}
use Rattle.smk_flow.specs.declared.rule.RulePart.{RulePart}
use Rattle.smk_flow.specs.Named.{rule_at}
use Rattle.smk_flow.specs.Checks.{rule_in}

in_more : (above : List RulePart) (part : RulePart) (q : Text) → is_some (rule_in above part.name) ≡ false →
    cond (bytes_eq part.name q) (Some part) (rule_in above q) ≡ rule_in (above ++ part ∷ []) q
in_more [] part q h = refl
in_more (r ∷ rs) part q h = go (bytes_eq r.name q) (bytes_eq r.name part.name) (bytes_eq part.name q) refl refl refl h (in_more rs part q)
  where
    go : (x z y : Bool) → bytes_eq r.name q ≡ x → bytes_eq r.name part.name ≡ z → bytes_eq part.name q ≡ y →
        is_some (cond z (Some r) (rule_in rs part.name)) ≡ false →
        (is_some (rule_in rs part.name) ≡ false → cond (bytes_eq part.name q) (Some part) (rule_in rs q) ≡ rule_in (rs ++ part ∷ []) q) →
        cond (bytes_eq part.name q) (Some part) (cond x (Some r) (rule_in rs q)) ≡ cond x (Some r) (rule_in (rs ++ part ∷ []) q)
    go x true y ex ez ey h more = absurd (true≢false h)
    go true false true ex ez ey h more =
        let a : r.name ≡ q = (bytes_eq-Decides r.name q).0 ex in
        let b : part.name ≡ q = (bytes_eq-Decides part.name q).0 ey in
        let same : bytes_eq r.name part.name ≡ true = (bytes_eq-Decides r.name part.name).1 (a ∙ sym b) in
        absurd (true≢false (sym same ∙ ez))
    go true false false ex ez ey h more = ap (λ (b : Bool). cond b (Some part) (Some r)) ey
    go false false y ex ez ey h more = more h

mapped : (b : Bool) (p : Bor RulePart) (o : Option (Bor RulePart)) →
    option_map (λ (r : Bor RulePart). r.now) (cond b (Some p) o) ≡ cond b (Some p.now) (option_map (λ (r : Bor RulePart). r.now) o)
mapped true p o = refl
mapped false p o = refl

pub rule_more : (old new : BTreeMap (Bor Text) (Bor RulePart)) (key : Text) (p : Bor RulePart) → key ≡ p.now.name → is_some (rule_at old p.now.name) ≡ false →
    ((q : Text) → get_by (λ k. slice_cmp nat_cmp q k.now) new ≡ update bytes_eq (λ ds. get_by (λ k. slice_cmp nat_cmp ds k.now) old) key (Some p) q) →
    (above : List RulePart) → ((q : Text) → rule_at old q ≡ rule_in above q) → (q : Text) → rule_at new q ≡ rule_in (above ++ p.now ∷ []) q
rule_more old new key p same free u above h q =
    ap (λ (o : Option (Bor RulePart)). option_map (λ (r : Bor RulePart). r.now) o) (u q)
    ∙ mapped (bytes_eq key q) p (get_by (λ k. slice_cmp nat_cmp q k.now) old)
    ∙ ap (λ (t : Text). cond (bytes_eq t q) (Some p.now) (rule_at old q)) same
    ∙ ap (λ (o : Option RulePart). cond (bytes_eq p.now.name q) (Some p.now) o) (h q)
    ∙ in_more above p.now q (ap (λ (o : Option RulePart). is_some o) (sym (h p.now.name)) ∙ free)
