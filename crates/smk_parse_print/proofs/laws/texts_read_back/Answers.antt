use Rattle.smk_parse_print.proofs.Texts.{spelt}
use Rattle.smk_parse_print.proofs.laws.texts_read_back.Goals as goal

pub returns : goal.returns
returns c = spelt
