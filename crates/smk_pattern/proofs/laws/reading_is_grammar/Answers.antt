use Rattle.smk_pattern.proofs.Grammatical.{reading_is_grammar}
use Rattle.smk_pattern.proofs.laws.reading_is_grammar.Goals as goal

pub returns : goal.returns
returns c = reading_is_grammar
