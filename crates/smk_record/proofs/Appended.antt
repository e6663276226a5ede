-- One piece of text after the other.
use Rattle.std.proofs.Common.{◌≡◌, ℕ, List, ◌++◌, ap, ◌∙◌, append_assoc}

pub eight_appended : (a b c d e f g h x0 x1 x2 x3 x4 x5 x6 x7 x8 : List ℕ) → x1 ≡ x0 ++ a → x2 ≡ x1 ++ b → x3 ≡ x2 ++ c → x4 ≡ x3 ++ d → x5 ≡ x4 ++ e → x6 ≡ x5 ++ f → x7 ≡ x6 ++ g → x8 ≡ x7 ++ h
    → x8 ≡ x0 ++ (a ++ (b ++ (c ++ (d ++ (e ++ (f ++ (g ++ h)))))))
eight_appended a b c d e f g h x0 x1 x2 x3 x4 x5 x6 x7 x8 e1 e2 e3 e4 e5 e6 e7 e8 =
    e8 ∙ ap (λ t. t ++ h) (e7 ∙ ap (λ t. t ++ g) (e6 ∙ ap (λ t. t ++ f) (e5 ∙ ap (λ t. t ++ e) (e4 ∙ ap (λ t. t ++ d) (e3 ∙ ap (λ t. t ++ c) (e2 ∙ ap (λ t. t ++ b) e1)))))) ∙ simp append_assoc
