-- Lines that were added one after another.
use Rattle.std.proofs.Common.{◌≡◌, [], ◌++◌, ap, ◌∙◌, append_assoc}
use Rattle.smk_gen.specs.Files.{Text}

-- five texts behind one another, from the first on
five_texts : (a b c d e : Text) → (((a ++ b) ++ c) ++ d) ++ e ≡ a ++ (b ++ (c ++ (d ++ e)))
five_texts a b c d e =
    append_assoc ((a ++ b) ++ c) d e
    ∙ append_assoc (a ++ b) c (d ++ e)
    ∙ append_assoc a b (c ++ (d ++ e))

pub five_added : (a b c d e t0 t1 t2 t3 t4 t5 : Text) →
    t0 ≡ [] → t1 ≡ t0 ++ a → t2 ≡ t1 ++ b → t3 ≡ t2 ++ c → t4 ≡ t3 ++ d → t5 ≡ t4 ++ e → t5 ≡ a ++ (b ++ (c ++ (d ++ e)))
five_added a b c d e t0 t1 t2 t3 t4 t5 none first second third fourth fifth =
    fifth
    ∙ ap (λ t. t ++ e) (fourth ∙ ap (λ t. t ++ d) (third ∙ ap (λ t. t ++ c) (second ∙ ap (λ t. t ++ b) (first ∙ ap (λ t. t ++ a) none))))
    ∙ five_texts a b c d e
