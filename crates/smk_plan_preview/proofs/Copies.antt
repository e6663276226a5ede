-- Listings that are added one by one.
use Rattle.std.proofs.Common.{◌≡◌, ℕ, ◌+◌, ◌<◌, ◌≤◌, List, [], ◌∷◌, ◌++◌, length, take, get_or, sym, ap, ◌∙◌, append_assoc}
use Rattle.std.proofs.lemmas.List.{take_more, take_all}
use Rattle.smk_chain.specs.declared.jobs.Known.{Known}

pub copy_next : (init now new xs : List Known) (i : ℕ) (x : Known) → i < length xs → x ≡ get_or xs i x → now ≡ init ++ take i xs → new ≡ now ++ x ∷ [] → new ≡ init ++ take (i + 1) xs
copy_next init now new xs i x lt at e pushed =
    pushed ∙ ap (λ (ls : List Known). ls ++ x ∷ []) e ∙ append_assoc init (take i xs) (x ∷ [])
    ∙ ap (λ (ls : List Known). init ++ ls) (sym (take_more xs i x lt ∙ ap (λ (y : Known). take i xs ++ y ∷ []) (sym at)))

pub copies_all : (init now xs : List Known) (i : ℕ) → length xs ≤ i → now ≡ init ++ take i xs → now ≡ init ++ xs
copies_all init now xs i le e = e ∙ ap (λ (ls : List Known). init ++ ls) (take_all i xs le)
