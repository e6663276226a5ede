-- How words are read, one after another.
use Rattle.std.specs.Prelude.{ℕ, Bool, false, List, [], ◌∷◌, ◌++◌, codes, length, bytes_eq, nat_lt, ◌==◌, ◌&&◌, not, if◌then◌else◌, Option, Some, None, option_map, find}
use Rattle.smk_words_reading.specs.declared.parts.Flag.{Flag}
use Rattle.smk_words_reading.specs.declared.parts.Flag.TheVariants as flag
use Rattle.smk_words_reading.specs.declared.parts.Setting.{Setting}
use Rattle.smk_words_reading.specs.declared.parts.Setting.TheVariants as setting
use Rattle.smk_words_reading.specs.declared.parts.Part.{Part}
use Rattle.smk_words_reading.specs.declared.parts.Part.TheVariants as part
use Rattle.smk_words_reading.specs.declared.spelling.Expected.{Expected}
use Rattle.smk_words_reading.specs.declared.spelling.Expected.TheVariants.{Word, Value, Target}
use Rattle.smk_words_reading.specs.Words.{Text, flag_word, setting_word, begins_with, is_empty, is_value}

-- ## Options by word and by letter

abbrev pub flags : List Flag
flags = flag.DryRun ∷ flag.KeepGoing ∷ flag.RerunIncomplete ∷ flag.Force ∷ flag.ForceAll ∷ flag.Unlock ∷ flag.NoLock ∷ []

abbrev pub settings : List Setting
settings = setting.Cores ∷ setting.Snakefile ∷ setting.Config ∷ setting.Resources ∷ setting.CleanupMetadata ∷ setting.Generate ∷ []

abbrev pub flag_named : Text → Option Flag
flag_named word = find (λ f. bytes_eq (flag_word f) word) flags

abbrev pub setting_named : Text → Option Setting
setting_named word = find (λ o. bytes_eq (setting_word o) word) settings

abbrev pub flag_at : ℕ → Option Flag
flag_at b =
    if b == 110 then Some flag.DryRun else
    (if b == 107 then Some flag.KeepGoing else (if b == 102 then Some flag.Force else (if b == 70 then Some flag.ForceAll else None)))

abbrev pub setting_at : ℕ → Option Setting
setting_at b = if b == 99 then Some setting.Cores else (if b == 115 then Some setting.Snakefile else (if b == 67 then Some setting.Config else None))

-- ## One word

-- the parts that a word spells, and what is expected behind it: nothing where it isn't read
abbrev pub Step : Type 0
Step = List Part × Option Expected

abbrev pub unread : Step
unread = ([], None)

abbrev pub after : List Part → Step → Step
after parts step = (parts ++ step.0, step.1)

-- a letter of ASCII first
abbrev pub begins_with_ascii : Text → Bool
begins_with_ascii [] = false
begins_with_ascii (b ∷ text) = nat_lt b 128

-- the text before the first such byte, and the text behind it
abbrev pub split_at : ℕ → Text → Option (Text × Text)
split_at c [] = None
split_at c (b ∷ text) = if b == c then Some ([], text) else option_map (λ (p : Text × Text). (b ∷ p.0, p.1)) (split_at c text)

-- without `=` in front
abbrev pub unsigned : Text → Text
unsigned [] = []
unsigned (b ∷ text) = if b == 61 then text else b ∷ text

abbrev pub given : Setting → Text → Step
given o v = if length v == 0 then unread else (part.Given o v ∷ [], Some Word)

-- what stands behind an option's letter
abbrev pub joined : Setting → Text → Step
joined o text = if length text == 0 then ([], Some (Value o)) else given o (unsigned text)

-- a flag's letter first
abbrev pub first_flag : Text → Option (Flag × Text)
first_flag [] = None
first_flag (b ∷ text) = option_map (λ (f : Flag). (f, text)) (flag_at b)

-- an option's letter first
abbrev pub first_setting : Text → Option (Setting × Text)
first_setting [] = None
first_setting (b ∷ text) = option_map (λ (o : Setting). (o, text)) (setting_at b)

abbrev pub joined_of : Option (Setting × Text) → Step
joined_of None = unread
joined_of (Some p) = joined p.0 p.1

-- no flag's letter first
abbrev pub last_in : Text → Step
last_in text = if length text == 0 then ([], Some Word) else joined_of (first_setting text)

abbrev pub letters_by : Option Flag → Step → Step → Step
letters_by None last more = last
letters_by (Some f) last more = after (part.Flagged f ∷ []) more

abbrev pub letters_in : Text → Step
letters_in [] = last_in []
letters_in (b ∷ text) = letters_by (flag_at b) (last_in (b ∷ text)) (letters_in text)

abbrev pub setting_given : Option Setting → Text → Step
setting_given None v = unread
setting_given (Some o) v = given o v

abbrev pub whole_setting : Option Setting → Step
whole_setting None = unread
whole_setting (Some o) = ([], Some (Value o))

abbrev pub whole_flag : Option Flag → Text → Step
whole_flag None word = whole_setting (setting_named word)
whole_flag (Some f) word = (part.Flagged f ∷ [], Some Word)

abbrev pub long_of : Option (Text × Text) → Text → Step
long_of None word = whole_flag (flag_named word) word
long_of (Some p) word = setting_given (setting_named p.0) p.1

-- a word that begins with two dashes
abbrev pub long_in : Text → Step
long_in word = if bytes_eq word (codes "--") then ([], Some Target) else long_of (split_at 61 word) word

-- what stands behind the dash of a word that isn't plain
abbrev pub behind_dash : Text → Option Text
behind_dash [] = None
behind_dash (b ∷ text) = if b == 45 && not (is_empty text) then Some text else None

abbrev pub option_in : Option Text → Text → Step
option_in None word = (part.Target word ∷ [], Some Word)
option_in (Some text) word = if begins_with 45 text then long_in word else letters_in text

abbrev pub word_in : Text → Step
word_in word = option_in (behind_dash word) word

-- ## All words

abbrev pub step : Expected → Text → Step
step Word word = word_in word
step (Value o) word = if is_value word then (part.Given o word ∷ [], Some Word) else unread
step Target word = (part.Target word ∷ [], Some Target)

abbrev pub ends : Expected → Option (List Part)
ends Word = Some []
ends (Value o) = None
ends Target = Some []

abbrev pub before : List Part → Option (List Part) → Option (List Part)
before parts later = option_map (λ (more : List Part). parts ++ more) later

abbrev pub spelled_next : Option Expected → (Expected → Option (List Part)) → Option (List Part)
spelled_next None later = None
spelled_next (Some expected) later = later expected

-- the parts that the words spell where this is expected
abbrev pub spelled : Expected → List Text → Option (List Part)
spelled expected [] = ends expected
spelled expected (word ∷ words) = before (step expected word).0 (spelled_next (step expected word).1 (λ next. spelled next words))
