use Rattle.smk_parse_print.proofs.Whole.{lexed-written}
use Rattle.smk_parse_print.proofs.laws.lines_read_back.Goals as goal

pub returns : goal.returns
returns c = lexed-written
