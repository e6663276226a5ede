-- What words spell.
use Rattle.std.specs.Prelude.{◌≡◌, ◌≢◌, ℕ, Bool, true, false, ◌&&◌, ◌||◌, not, List, [], ◌∷◌, ◌++◌, length, codes, ◌==◌, IsTrue, Option, Some, None, map}
use Rattle.smk_words_reading.specs.declared.parts.Flag.{Flag}
use Rattle.smk_words_reading.specs.declared.parts.Flag.TheVariants.{DryRun, KeepGoing, RerunIncomplete, Force, ForceAll, Unlock, NoLock}
use Rattle.smk_words_reading.specs.declared.parts.Setting.{Setting}
use Rattle.smk_words_reading.specs.declared.parts.Setting.TheVariants.{Cores, Snakefile, Config, Resources, CleanupMetadata, Generate}
use Rattle.smk_words_reading.specs.declared.parts.Part.{Part}
use Rattle.smk_words_reading.specs.declared.parts.Part.TheVariants.{Target, Flagged, Given}

abbrev pub Text : Type 0
Text = List ℕ

-- ## Options

abbrev pub flag_word : Flag → Text
flag_word DryRun = codes "--dry-run"
flag_word KeepGoing = codes "--keep-going"
flag_word RerunIncomplete = codes "--rerun-incomplete"
flag_word Force = codes "--force"
flag_word ForceAll = codes "--forceall"
flag_word Unlock = codes "--unlock"
flag_word NoLock = codes "--nolock"

abbrev pub setting_word : Setting → Text
setting_word Cores = codes "--cores"
setting_word Snakefile = codes "--snakefile"
setting_word Config = codes "--config"
setting_word Resources = codes "--resources"
setting_word CleanupMetadata = codes "--cleanup-metadata"
setting_word Generate = codes "--generate"

-- the letters of those that have one: n, k, f and F
abbrev pub flag_letter : Flag → Option ℕ
flag_letter DryRun = Some 110
flag_letter KeepGoing = Some 107
flag_letter RerunIncomplete = None
flag_letter Force = Some 102
flag_letter ForceAll = Some 70
flag_letter Unlock = None
flag_letter NoLock = None

-- c, s and C
abbrev pub setting_letter : Setting → Option ℕ
setting_letter Cores = Some 99
setting_letter Snakefile = Some 115
setting_letter Config = Some 67
setting_letter Resources = None
setting_letter CleanupMetadata = None
setting_letter Generate = None

-- ## Words and the parts that they spell

abbrev pub is_empty : Text → Bool
is_empty [] = true
is_empty (b ∷ text) = false

abbrev pub begins_with : ℕ → Text → Bool
begins_with c [] = false
begins_with c (b ∷ text) = b == c

-- it doesn't begin with a dash, or is one alone
abbrev pub is_plain : Text → Bool
is_plain [] = true
is_plain (b ∷ text) = not (b == 45) || is_empty text

-- as the next word it may be an option's value
abbrev pub is_value : Text → Bool
is_value word = not (length word == 0) && is_plain word

-- Letters behind a dash spell these parts. A value stands last, at once or behind `=`.
pub data SpellsLetters : Text → List Part → Type 0 where
  LastFlag : (f : Flag) (letter : ℕ) → flag_letter f ≡ Some letter → SpellsLetters (letter ∷ []) (Flagged f ∷ [])
  NextFlag :
      (f : Flag) (letter : ℕ) (text : Text) (parts : List Part) →
      flag_letter f ≡ Some letter → SpellsLetters text parts → SpellsLetters (letter ∷ text) (Flagged f ∷ parts)
  ValueAtOnce :
      (o : Setting) (letter : ℕ) (v : Text) →
      setting_letter o ≡ Some letter → v ≢ [] → begins_with 61 v ≡ false → SpellsLetters (letter ∷ v) (Given o v ∷ [])
  ValueBehindSign : (o : Setting) (letter : ℕ) (v : Text) → setting_letter o ≡ Some letter → v ≢ [] → SpellsLetters (letter ∷ 61 ∷ v) (Given o v ∷ [])

-- Letters behind a dash spell these parts, and the last letter's option takes the next word.
pub data LettersTakeNext : Text → List Part → Setting → Type 0 where
  LastSetting : (o : Setting) (letter : ℕ) → setting_letter o ≡ Some letter → LettersTakeNext (letter ∷ []) [] o
  FlagBefore :
      (f : Flag) (letter : ℕ) (text : Text) (parts : List Part) (o : Setting) →
      flag_letter f ≡ Some letter → LettersTakeNext text parts o → LettersTakeNext (letter ∷ text) (Flagged f ∷ parts) o

-- A word spells these parts.
pub data SpellsWord : Text → List Part → Type 0 where
  ATarget : (word : Text) → IsTrue (is_plain word) → SpellsWord word (Target word ∷ [])
  AFlag : (f : Flag) → SpellsWord (flag_word f) (Flagged f ∷ [])
  WithSign : (o : Setting) (v : Text) → v ≢ [] → SpellsWord (setting_word o ++ 61 ∷ v) (Given o v ∷ [])
  Letters : (text : Text) (parts : List Part) → SpellsLetters text parts → SpellsWord (45 ∷ text) parts

-- A word spells these parts, and its last option takes the next word.
pub data TakesNext : Text → List Part → Setting → Type 0 where
  ASetting : (o : Setting) → TakesNext (setting_word o) [] o
  LastOfLetters : (text : Text) (parts : List Part) (o : Setting) → LettersTakeNext text parts o → TakesNext (45 ∷ text) parts o

-- Words spell these parts, in order. Behind `--` all are targets.
pub data Spells : List Text → List Part → Type 0 where
  NoWord : Spells [] []
  OnlyTargets : (words : List Text) → Spells (codes "--" ∷ words) (map Target words)
  AWord :
      (word : Text) (words : List Text) (parts later : List Part) →
      SpellsWord word parts → Spells words later → Spells (word ∷ words) (parts ++ later)
  AWordAndValue :
      (word v : Text) (words : List Text) (parts : List Part) (o : Setting) (later : List Part) →
      TakesNext word parts o → IsTrue (is_value v) → Spells words later → Spells (word ∷ v ∷ words) (parts ++ Given o v ∷ later)
