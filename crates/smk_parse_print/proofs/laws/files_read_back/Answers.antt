use Rattle.smk_parse_print.proofs.Back.{reads_back}
use Rattle.smk_parse_print.proofs.laws.files_read_back.Goals as goal

pub returns : goal.returns
returns c = reads_back
