use Rattle.std.proofs.Common.{sym, ◌∙◌, map, string_bytes}
use Rattle.smk_words_reading.proofs.Whole.{read_asked, read_without_cores, read_nothing}
use Rattle.smk_words_reading.proofs.top.read_words.Goals as goal

pub returns-in-Ok-Ask-clause-ok : goal.returns-in-Ok-Ask-clause-ok
returns-in-Ok-Ask-clause-ok c = read_asked (map string_bytes c.args.words.now) c.in-Ok-Ask.asked (sym c.in-Ok-Ask.field-0-is ∙ c.in-Ok-Ask.ensures)

pub returns-in-Ok-WithoutCores-clause-no_cores : goal.returns-in-Ok-WithoutCores-clause-no_cores
returns-in-Ok-WithoutCores-clause-no_cores c = λ _. read_without_cores (map string_bytes c.args.words.now) (sym c.in-Ok-WithoutCores.field-0-is ∙ c.in-Ok-WithoutCores.ensures)

pub returns-in-Ok-Nothing-clause-bad : goal.returns-in-Ok-Nothing-clause-bad
returns-in-Ok-Nothing-clause-bad c = λ _. read_nothing (map string_bytes c.args.words.now) (sym c.in-Ok-Nothing.field-0-is ∙ c.in-Ok-Nothing.ensures)
