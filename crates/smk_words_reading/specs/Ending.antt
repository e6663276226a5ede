-- Where words may end.
use Rattle.std.specs.Prelude.{Bool, true, false}
use Rattle.smk_words_reading.specs.declared.spelling.Expected.{Expected}
use Rattle.smk_words_reading.specs.declared.spelling.Expected.TheVariants.{Word, Value, Target}

-- no value is awaited
abbrev pub may_end : Expected → Bool
may_end Word = true
may_end (Value o) = false
may_end Target = true
