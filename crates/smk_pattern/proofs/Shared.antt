-- Compiled constraints by their texts.
use Rattle.std.proofs.Common.{◌≡◌, Bool, true, false, cond, Some, String, refl, sym, ap, subst, ◌∙◌, bytes_eq}
use Rattle.std.specs.declared.rc.Rc.{Rc}
use Rattle.std.specs.declared.alloc.Global.{Global}
use Rattle.std.specs.BTreeMap.{BTreeMap, get_by_text, is_at}
use Rattle.std.specs.Map.{update, lookup}
use Rattle.std.proofs.lemmas.Map.Text.{text_cmp}
use Rattle.std.proofs.lemmas.Slice.Eq.{bytes_eq-Decides}
use Rattle.smk_pattern.specs.Shapes.{Text}
use Rattle.smk_pattern.specs.Limits.{IsLimit}
use Rattle.smk_pattern.specs.Compiled.{AreCompiled}

-- one more
pub one_more : (old new : BTreeMap (String Global) (Rc Text Global)) (text : Text) (added : Rc Text Global) → AreCompiled old → added.value ≡ text → IsLimit text →
    ((q : Text) → get_by_text new q ≡ update bytes_eq (get_by_text old) text (Some added) q) → AreCompiled new
one_more old new text added h same limit g = record { is = λ q found e. by q found (bytes_eq text q) refl (sym (g q) ∙ e) }
  where
    by : (q : Text) (found : Rc Text Global) (b : Bool) → bytes_eq text q ≡ b → cond (bytes_eq text q) (Some added) (get_by_text old q) ≡ Some found → (found.value ≡ q) × IsLimit q
    by q found true f e =
        let here : Some added ≡ Some found = sym (ap (λ b. cond b (Some added) (get_by_text old q)) f) ∙ e in
        let is : added ≡ found = cc in
        let name : text ≡ q = (bytes_eq-Decides text q).0 f in
        (ap (λ (r : Rc Text Global). r.value) (sym is) ∙ same ∙ name, subst IsLimit name limit)
    by q found false f e = h.is q found (sym (ap (λ b. cond b (Some added) (get_by_text old q)) f) ∙ e)

-- nothing is added
pub none_more : (old new : BTreeMap (String Global) (Rc Text Global)) → AreCompiled old → new.entries ≡ old.entries → AreCompiled new
none_more old new h same = record { is = λ q found e. h.is q found (ap (lookup (is_at (text_cmp q))) (sym same) ∙ e) }
