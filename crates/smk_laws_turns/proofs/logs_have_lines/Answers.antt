use Rattle.smk_laws_turns.proofs.Lines.{lines_go_on, looks_tell_nothing, none_begun_none_told, one_text, opening_tells_nothing}
use Rattle.smk_laws_turns.proofs.logs_have_lines.Goals as goal

pub returns : goal.returns
returns c = record { one = one_text; more = lines_go_on; none = none_begun_none_told; opening = opening_tells_nothing; looks = looks_tell_nothing }
