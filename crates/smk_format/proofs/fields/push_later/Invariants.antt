use Rattle.std.proofs.Common.{◌≡◌, ◌++◌, ◌∷◌, take, string_bytes}
use Rattle.std.specs.List.{flat_map}
use Rattle.smk_pattern.specs.Searching.{now_of}
use Rattle.smk_format.proofs.fields.push_later.Given as goal

abbrev pub invariant-loop-word : goal.invariant-loop-word
invariant-loop-word l = string_bytes l.text ≡ string_bytes l.initial.text ++ flat_map (λ t. 32 ∷ t) (now_of (take l.word-index l.words))
