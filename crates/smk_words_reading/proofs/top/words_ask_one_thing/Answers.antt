use Rattle.smk_words_reading.proofs.Whole.{one_asked, none_asked_without_cores, each_told, joined_letters_ask}
use Rattle.smk_words_reading.proofs.top.words_ask_one_thing.Goals as goal

pub returns : goal.returns
returns c = record { one = one_asked; apart = none_asked_without_cores; each = each_told; example = joined_letters_ask }
