use native.Mathlib.Omega.{arith}
use Rattle.std.proofs.Common.{None}
use Rattle.std.proofs.lemmas.Str.Pattern.{strip_prefix_char}
use Rattle.smk_words_reading.proofs.Loops.{unsigned_none}
use Rattle.smk_words_reading.proofs.letters.unsigned.Goals as goal

pub returns-in-None : goal.returns-in-None
returns-in-None c = unsigned_none c.args.text.now (strip_prefix_char 61 c.args.text.now None c.in-None.ensures.cases (omega arith))
