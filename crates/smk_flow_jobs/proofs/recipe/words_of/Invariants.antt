use Rattle.std.proofs.Common.{◌≡◌, take, map}
use Rattle.smk_flow.specs.Jobs.{filled_word}
use Rattle.smk_flow_jobs.proofs.recipe.words_of.Given as goal

abbrev pub invariant-loop-word : goal.invariant-loop-word
invariant-loop-word l = l.made ≡ map (filled_word l.binding) (take l.word-index l.words)
