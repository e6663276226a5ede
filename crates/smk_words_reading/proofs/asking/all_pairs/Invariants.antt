use Rattle.std.proofs.Common.{◌≡◌, ◌++◌, map, drop, option_map}
use Rattle.smk_words_reading.specs.Asking.{all_of, pair_in}
use Rattle.smk_words_reading.proofs.asking.all_pairs.Given as goal

abbrev pub invariant-loop-word : goal.invariant-loop-word
invariant-loop-word l =
    all_of pair_in (map (λ w. w.now) l.words) ≡ option_map (λ later. l.pairs ++ later) (all_of pair_in (map (λ w. w.now) (drop l.word-index l.words)))
