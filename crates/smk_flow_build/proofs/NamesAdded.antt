-- Names that are added to names.
use Rattle.std.proofs.Common.{◌≡◌, List, ◌++◌, ap, ◌∙◌, append_assoc}
use Rattle.smk_pattern.specs.Shapes.{Text}

pub five_more : (x0 x1 x2 x3 x4 x5 a b c d e : List Text) → x1 ≡ x0 ++ a → x2 ≡ x1 ++ b → x3 ≡ x2 ++ c → x4 ≡ x3 ++ d → x5 ≡ x4 ++ e →
    x5 ≡ x0 ++ (a ++ (b ++ (c ++ (d ++ e))))
five_more x0 x1 x2 x3 x4 x5 a b c d e p1 p2 p3 p4 p5 =
    let q2 : x2 ≡ (x0 ++ a) ++ b = p2 ∙ ap (λ (x : List Text). x ++ b) p1 in
    let q3 : x3 ≡ ((x0 ++ a) ++ b) ++ c = p3 ∙ ap (λ (x : List Text). x ++ c) q2 in
    let q4 : x4 ≡ (((x0 ++ a) ++ b) ++ c) ++ d = p4 ∙ ap (λ (x : List Text). x ++ d) q3 in
    p5 ∙ ap (λ (x : List Text). x ++ e) q4 ∙ simp append_assoc
