-- Words are read as they ask.
use Rattle.std.proofs.Common.{◌≡◌, ◌⊎◌, inl, inr, List, [], Option, Some, None, refl, sym, ◌∙◌, ap, subst}
use Rattle.smk_words_reading.specs.declared.parts.Part.{Part}
use Rattle.smk_words_reading.specs.declared.asked.Asked.{Asked}
use Rattle.smk_words_reading.specs.declared.asking.Meaning.{Meaning}
use Rattle.smk_words_reading.specs.declared.asking.Meaning.TheVariants.{Ask, WithoutCores, Nothing}
use Rattle.smk_words_reading.specs.declared.spelling.Expected.TheVariants.{Word}
use Rattle.smk_words_reading.specs.Words.{Text}
use Rattle.smk_words_reading.specs.Reading.{spelled}
use Rattle.smk_words_reading.specs.Asks.{IsAsked, LacksCores, AreUnread, OneAsked, NoneAskedWithoutCores}
use Rattle.smk_words_reading.specs.Asking.{meaning_in, meaning_of}
use Rattle.smk_words_reading.specs.Laws.{EachIsTold, JoinedLettersAsk}
use Rattle.smk_words_reading.proofs.AllWords.{spelled_sound, spelled_whole}
use Rattle.smk_words_reading.proofs.Wanted.{PartsMean, parts_sound, asked_read, without_cores_read}

-- what the words mean
abbrev pub read : List Text → Meaning
read words = meaning_of (spelled Word words)

-- what a meaning tells of the words
abbrev WordsMean : List Text → Meaning → Type 0
WordsMean words (Ask asked) = IsAsked words asked
WordsMean words WithoutCores = LacksCores words
WordsMean words Nothing = Unit {0}

of_parts : (words : List Text) (parts : List Part) → spelled Word words ≡ Some parts → (m : Meaning) → PartsMean parts m → WordsMean words m
of_parts words parts e (Ask asked) h = record { parts = parts; spelled = spelled_sound words parts e; asks = h }
of_parts words parts e WithoutCores h = record { parts = parts; spelled = spelled_sound words parts e; asks = h }
of_parts words parts e Nothing h = tt

of_spelled : (words : List Text) (q : Option (List Part)) → spelled Word words ≡ q → WordsMean words (meaning_of q)
of_spelled words None e = tt
of_spelled words (Some parts) e = of_parts words parts e (meaning_in parts) (parts_sound parts)

words_mean : (words : List Text) → WordsMean words (read words)
words_mean words = of_spelled words (spelled Word words) refl

-- what is read is asked
pub read_asked : (words : List Text) (asked : Asked) → Ask asked ≡ read words → IsAsked words asked
read_asked words asked e = subst (WordsMean words) (sym e) (words_mean words)

pub read_without_cores : (words : List Text) → WithoutCores ≡ read words → LacksCores words
read_without_cores words e = subst (WordsMean words) (sym e) (words_mean words)

-- what is asked is read
asked_is_read : (words : List Text) (asked : Asked) → IsAsked words asked → read words ≡ Ask asked
asked_is_read words asked h = ap meaning_of (spelled_whole words h.parts h.spelled) ∙ asked_read h.parts asked h.asks

lacking_is_read : (words : List Text) → LacksCores words → read words ≡ WithoutCores
lacking_is_read words h = ap meaning_of (spelled_whole words h.parts h.spelled) ∙ without_cores_read h.parts h.asks

ask_nothing : (asked : Asked) → Nothing ≡ Ask asked → ⊥
ask_nothing asked e = cc

cores_nothing : Nothing ≡ WithoutCores → ⊥
cores_nothing e = cc

ask_cores : (asked : Asked) → Ask asked ≡ WithoutCores → ⊥
ask_cores asked e = cc

same_ask : (a b : Asked) → Ask a ≡ Ask b → a ≡ b
same_ask a b e = cc

pub read_nothing : (words : List Text) → Nothing ≡ read words → AreUnread words
read_nothing words e = (λ asked h. ask_nothing asked (e ∙ asked_is_read words asked h), λ h. cores_nothing (e ∙ lacking_is_read words h))

pub one_asked : OneAsked
one_asked words a b h k = same_ask a b (sym (asked_is_read words a h) ∙ asked_is_read words b k)

pub none_asked_without_cores : NoneAskedWithoutCores
none_asked_without_cores words a h k = ask_cores a (sym (asked_is_read words a h) ∙ lacking_is_read words k)

pub each_told : EachIsTold
each_told words = by (read words) refl
  where
    by : (m : Meaning) → read words ≡ m → ((asked : Asked) × IsAsked words asked) ⊎ (LacksCores words ⊎ AreUnread words)
    by (Ask asked) e = inl (asked, read_asked words asked (sym e))
    by WithoutCores e = inr (inl (read_without_cores words (sym e)))
    by Nothing e = inr (inr (read_nothing words (sym e)))

pub joined_letters_ask : JoinedLettersAsk
joined_letters_ask = read_asked _ _ refl
