-- What is known of the items stays known when one is added.
use Rattle.std.proofs.Common.{◌≡◌, Bool, true, false, List, [], ◌∷◌, ◌++◌, length, refl, sym, ap, ◌∙◌, cond, ◌||◌, ◌==◌, String, Global, string_bytes}
use Rattle.std.specs.Prelude.{not}
use Rattle.std.specs.List.{list_any}
use Rattle.std.specs.Str.{bytes_eq}
use Rattle.std.specs.String.{string_cmp}
use Rattle.std.specs.BTreeSet.{BTreeSet, UpdatesBy, contains_text}
use Rattle.std.specs.Cmp.Lexicographic.{slice_cmp}
use Rattle.std.specs.Ordering.{nat_cmp}
use Rattle.std.proofs.lemmas.Map.Text.{btree_set_updates_text}
use Rattle.std.proofs.Math.Bool.{or_assoc, or-false}
use Rattle.smk_parse_tree.specs.declared.syntax.ItemForm.{ItemForm}
use Rattle.smk_parse_expr.specs.Symbols.{Bytes}
use Rattle.smk_parse_expr.specs.Exprs.{has_name}
use Rattle.smk_parse_expr.specs.SoFar.{Tells}

or-cond : (a b : Bool) → cond a true b ≡ (b || a)
or-cond true true = refl
or-cond true false = refl
or-cond false b = sym (or-false b)

any-append : (p : ItemForm → Bool) (xs : List ItemForm) (x : ItemForm) → list_any p (xs ++ x ∷ []) ≡ (list_any p xs || p x)
any-append p [] x = or-false (p x)
any-append p (y ∷ xs) x = ap (λ b. p y || b) (any-append p xs x) ∙ sym (or_assoc (p y) (list_any p xs) (p x))

pub told : (items : List ItemForm) (x : ItemForm) (names after : BTreeSet (String Global)) (key : String Global) (flag more : Bool) → Tells items names flag
    → string_bytes key ≡ x.name → UpdatesBy string_cmp (λ k. slice_cmp nat_cmp (string_bytes key) (string_bytes k)) names after true
    → more ≡ (flag || not (length x.name == 0)) → Tells (items ++ x ∷ []) after more
told items x names after key flag more h same updates is = record {
  same_names = λ w.
      btree_set_updates_text (string_bytes key) names after true updates w
      ∙ or-cond (bytes_eq (string_bytes key) w) (contains_text names w)
      ∙ ap (λ b. b || bytes_eq (string_bytes key) w) (h.same_names w)
      ∙ ap (λ (v : Bytes). has_name items w || bytes_eq v w) same
      ∙ sym (any-append (λ i. bytes_eq i.name w) items x);
  is_named = is ∙ ap (λ b. b || not (length x.name == 0)) h.is_named ∙ sym (any-append (λ i. not (length i.name == 0)) items x);
}
