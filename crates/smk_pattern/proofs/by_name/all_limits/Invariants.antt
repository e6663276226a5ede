use Rattle.std.proofs.Common.{◌≡◌, List, ℕ, take, is_some, true}
use Rattle.smk_pattern.specs.Grammar.{given_limit}
use Rattle.smk_pattern.specs.ByName.{place_at, text_at, or_text}
use Rattle.smk_pattern.proofs.by_name.all_limits.Given as goal

abbrev pub invariant-loop-pair : goal.invariant-loop-pair
invariant-loop-pair l = (q : List ℕ) → is_some (place_at l.names.places q) ≡ true →
    text_at l.texts q ≡ or_text (text_at l.fn.inline q) (given_limit q (take l.pair-index l.given))
