-- What is lent.
use Rattle.std.specs.Prelude.{ℕ, suc, List, [], ◌∷◌, map, if◌then◌else◌}
use Rattle.std.specs.Borrow.{Bor}
use Rattle.smk_base.specs.declared.tree.Pair.{Pair}
use Rattle.smk_pattern.specs.Reading.{is_below}
use Rattle.smk_flow.specs.declared.rule.FlaggedText.{FlaggedText}

abbrev pub all_lent : List (Bor FlaggedText) → List FlaggedText
all_lent = map (λ o. o.now)

abbrev pub pairs_lent : List (Bor Pair) → List Pair
pairs_lent = map (λ p. p.now)

-- how many of these pairs stand before one that is put among them by name
abbrev pub place_among : Pair → List Pair → ℕ
place_among p [] = 0
place_among p (q ∷ pairs) = if is_below p.name q.name then 0 else suc (place_among p pairs)
