use Rattle.std.proofs.Common.{◌≡◌, take, true}
use Rattle.std.specs.List.{list_all}
use Rattle.smk_world.specs.Trees.{is_text}
use Rattle.smk_run.proofs.wording.see_words.Given as goal

abbrev pub invariant-loop-word : goal.invariant-loop-word
invariant-loop-word l = list_all is_text (take l.word-index l.words) ≡ true
