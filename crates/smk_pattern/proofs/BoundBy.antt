-- The binding that is found is the one that is computed.
use Rattle.std.proofs.Common.{◌≡◌, List, length, Option, Some, None, option_map, MatchOption, refl, sym, ap, ◌∙◌, IsUtf8}
use Rattle.smk_base.specs.declared.tree.Pair.{Pair}
use Rattle.smk_pattern.specs.Shapes.{Text, Shape, IsNumbered, AreTexts}
use Rattle.smk_pattern.specs.Fitting.{Fits, bound_pairs}
use Rattle.smk_pattern.specs.Binding.{IsBindingOf}
use Rattle.smk_pattern.specs.Bound.{bound}
use Rattle.smk_pattern.proofs.First.{bound_is_binding}
use Rattle.smk_pattern.proofs.Unique.{one_binding}

pub bound_by : (p : Shape) (path : Text) (found : Option (List Pair)) → IsNumbered p.parts 0 (length p.wildcards) → AreTexts p.parts → IsUtf8 path →
    MatchOption found ((values : List Text) → Fits p path values → ⊥) (λ b. IsBindingOf p path b) →
    found ≡ option_map (bound_pairs p.wildcards) (bound p path)
bound_by p path found num texts utf8 m = by (bound p path) refl found m
  where
    by : (o : Option (List Text)) → bound p path ≡ o → (found : Option (List Pair)) → MatchOption found ((values : List Text) → Fits p path values → ⊥) (λ b. IsBindingOf p path b) →
        found ≡ option_map (bound_pairs p.wildcards) (bound p path)
    by None e None none = sym (ap (option_map (bound_pairs p.wildcards)) e)
    by None e (Some b) (values, i, same) = absurd ((bound_is_binding p path num texts utf8).1 e values i.fits)
    by (Some v) e None none = absurd (none v ((bound_is_binding p path num texts utf8).0 v e).fits)
    by (Some v) e (Some b) (values, i, same) =
        let one = one_binding p path values v num i ((bound_is_binding p path num texts utf8).0 v e) in
        ap Some (same ∙ ap (bound_pairs p.wildcards) one) ∙ sym (ap (option_map (bound_pairs p.wildcards)) e)
