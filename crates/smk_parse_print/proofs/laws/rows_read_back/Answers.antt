use Rattle.smk_parse_print.proofs.Rows.{rows_read_back as rows}
use Rattle.smk_parse_print.proofs.laws.rows_read_back.Goals as goal

pub returns : goal.returns
returns c = rows
