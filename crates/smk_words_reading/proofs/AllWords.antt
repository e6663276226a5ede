-- Words are read as they are spelled.
use Rattle.std.proofs.Common.{◌≡◌, Bool, true, false, cond, List, [], ◌∷◌, ◌++◌, map, codes, Option, Some, None, refl, sym, ◌∙◌, ap, subst, IsTrue}
use Rattle.std.proofs.lemmas.Bool.{cond-true}
use Rattle.smk_words_reading.specs.declared.parts.Setting.{Setting}
use Rattle.smk_words_reading.specs.declared.parts.Part.{Part}
use Rattle.smk_words_reading.specs.declared.parts.Part.TheVariants as part
use Rattle.smk_words_reading.specs.declared.spelling.Expected.{Expected}
use Rattle.smk_words_reading.specs.declared.spelling.Expected.TheVariants.{Word, Value, Target}
use Rattle.smk_words_reading.specs.Words.{Text, is_value, SpellsWord, TakesNext, Spells}
use Rattle.smk_words_reading.specs.Words.Spells.{NoWord, OnlyTargets, AWord, AWordAndValue}
use Rattle.smk_words_reading.specs.Reading.{Step, unread, before, spelled_next, spelled, word_in}
use Rattle.smk_words_reading.proofs.OneWord.{WordMeans, word_sound, word_whole, word_next}

-- The words begin with the option's value.
pub data BeginsWithValue (o : Setting) : List Text → List Part → Type 0 where
  ValueFirst :
      (v : Text) (words : List Text) (later : List Part) →
      IsTrue (is_value v) → Spells words later → BeginsWithValue o (v ∷ words) (part.Given o v ∷ later)

-- what the parts tell of the words where this is expected
abbrev WordsMean : Expected → List Text → Option (List Part) → Type 0
WordsMean Word words None = Unit {0}
WordsMean Word words (Some parts) = Spells words parts
WordsMean (Value o) words None = Unit {0}
WordsMean (Value o) words (Some parts) = BeginsWithValue o words parts
WordsMean Target words None = Unit {0}
WordsMean Target words (Some parts) = parts ≡ map part.Target words

before_word : (word : Text) (words : List Text) (parts : List Part) → SpellsWord word parts →
    (q : Option (List Part)) → WordsMean Word words q → WordsMean Word (word ∷ words) (before parts q)
before_word word words parts w None h = tt
before_word word words parts w (Some later) h = AWord word words parts later w h

value_first : (word : Text) (words : List Text) (parts : List Part) (o : Setting) (later : List Part) →
    TakesNext word parts o → BeginsWithValue o words later → Spells (word ∷ words) (parts ++ later)
value_first word _ parts o _ t (ValueFirst v words later is s) = AWordAndValue word v words parts o later t is s

before_value : (word : Text) (words : List Text) (parts : List Part) (o : Setting) → TakesNext word parts o →
    (q : Option (List Part)) → WordsMean (Value o) words q → WordsMean Word (word ∷ words) (before parts q)
before_value word words parts o t None h = tt
before_value word words parts o t (Some later) h = value_first word words parts o later t h

before_targets : (word : Text) (words : List Text) (parts : List Part) → word ≡ codes "--" → parts ≡ [] →
    (q : Option (List Part)) → WordsMean Target words q → WordsMean Word (word ∷ words) (before parts q)
before_targets word words parts e n None h = tt
before_targets word words parts e n (Some later) h =
    subst (λ (w : Text). Spells (w ∷ words) (parts ++ later)) (sym e)
    (subst (λ (ps : List Part). Spells (codes "--" ∷ words) (ps ++ later)) (sym n)
    (subst (λ (l : List Part). Spells (codes "--" ∷ words) l) (sym h) (OnlyTargets words)))

-- what the words spell behind this step
abbrev pub behind : Step → List Text → Option (List Part)
behind s words = before s.0 (spelled_next s.1 (λ next. spelled next words))

next_word : (word : Text) (words : List Text) (s : Step) → WordMeans word s →
    ((e : Expected) → WordsMean e words (spelled e words)) → WordsMean Word (word ∷ words) (behind s words)
next_word word words (parts, None) h rest = tt
next_word word words (parts, Some Word) h rest = before_word word words parts h (spelled Word words) (rest Word)
next_word word words (parts, Some (Value o)) h rest = before_value word words parts o h (spelled (Value o) words) (rest (Value o))
next_word word words (parts, Some Target) h rest = before_targets word words parts h.0 h.1 (spelled Target words) (rest Target)

then_value : (word : Text) (words : List Text) (o : Setting) → is_value word ≡ true →
    (q : Option (List Part)) → WordsMean Word words q → WordsMean (Value o) (word ∷ words) (before (part.Given o word ∷ []) q)
then_value word words o is None h = tt
then_value word words o is (Some later) h = ValueFirst word words later is h

next_value : (word : Text) (words : List Text) (o : Setting) (x : Bool) → is_value word ≡ x →
    WordsMean Word words (spelled Word words) →
    WordsMean (Value o) (word ∷ words) (behind (cond {A = Step} x (part.Given o word ∷ [], Some Word) unread) words)
next_value word words o true is rest = then_value word words o is (spelled Word words) rest
next_value word words o false is rest = tt

then_target : (word : Text) (words : List Text) (q : Option (List Part)) →
    WordsMean Target words q → WordsMean Target (word ∷ words) (before (part.Target word ∷ []) q)
then_target word words None h = tt
then_target word words (Some later) h = ap (λ (l : List Part). part.Target word ∷ l) h

all_sound : (words : List Text) (e : Expected) → WordsMean e words (spelled e words)
all_sound [] Word = NoWord
all_sound [] (Value o) = tt
all_sound [] Target = refl
all_sound (word ∷ words) Word = next_word word words (word_in word) (word_sound word) (λ e. all_sound words e)
all_sound (word ∷ words) (Value o) = next_value word words o (is_value word) refl (all_sound words Word)
all_sound (word ∷ words) Target = then_target word words (spelled Target words) (all_sound words Target)

-- what is read is spelled
pub spelled_sound : (words : List Text) (parts : List Part) → spelled Word words ≡ Some parts → Spells words parts
spelled_sound words parts e = subst (λ (q : Option (List Part)). WordsMean Word words q) e (all_sound words Word)

targets_whole : (words : List Text) → spelled Target words ≡ Some (map part.Target words)
targets_whole [] = refl
targets_whole (word ∷ words) = ap (before (part.Target word ∷ [])) (targets_whole words)

value_whole : (o : Setting) (v : Text) (words : List Text) (later : List Part) → is_value v ≡ true →
    spelled Word words ≡ Some later → spelled (Value o) (v ∷ words) ≡ Some (part.Given o v ∷ later)
value_whole o v words later is e =
    ap (λ (s : Step). behind s words) (cond-true {A = Step} (is_value v) (part.Given o v ∷ [], Some Word) unread is)
    ∙ ap (before (part.Given o v ∷ [])) e

-- what is spelled is read
pub spelled_whole : (words : List Text) (parts : List Part) → Spells words parts → spelled Word words ≡ Some parts
spelled_whole _ _ NoWord = refl
spelled_whole _ _ (OnlyTargets words) = ap (before []) (targets_whole words)
spelled_whole _ _ (AWord word words parts later w s) =
    ap (λ (s : Step). behind s words) (word_whole word parts w) ∙ ap (before parts) (spelled_whole words later s)
spelled_whole _ _ (AWordAndValue word v words parts o later t is s) =
    ap (λ (s : Step). behind s (v ∷ words)) (word_next word parts o t)
    ∙ ap (before parts) (value_whole o v words later is (spelled_whole words later s))
