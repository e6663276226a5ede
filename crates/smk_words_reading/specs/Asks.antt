-- What words ask.
use Rattle.std.specs.Prelude.{◌≡◌, ◌≢◌, ◌⊎◌, ◌≤◌, ℕ, Bool, true, false, ◌&&◌, ◌||◌, not, List, [], ◌∷◌, ◌++◌, map, filter, length, decimal, bytes_eq, nat_le, ◌==◌, if◌then◌else◌, Option, Some, None, option_to_list, filter_map}
use Rattle.std.specs.List.{list_all, list_any}
use Rattle.smk_base.specs.Path.{is_path}
use Rattle.smk_base.specs.declared.tree.Amount.{Amount}
use Rattle.smk_base.specs.declared.tree.Pair.{Pair}
use Rattle.smk_pick.specs.declared.settings.Force.{Force}
use Rattle.smk_pick.specs.declared.settings.Force.TheVariants.{No, Targets, All}
use Rattle.smk_words_reading.specs.declared.parts.Flag.{Flag}
use Rattle.smk_words_reading.specs.declared.parts.Flag.TheVariants as flag
use Rattle.smk_words_reading.specs.declared.parts.Setting.{Setting}
use Rattle.smk_words_reading.specs.declared.parts.Setting.TheVariants as setting
use Rattle.smk_words_reading.specs.declared.parts.Part.{Part}
use Rattle.smk_words_reading.specs.declared.parts.Part.TheVariants.{Target, Flagged, Given}
use Rattle.smk_words_reading.specs.declared.asked.Asked.{Asked}
use Rattle.smk_words_reading.specs.declared.asked.Asked.TheVariants.{Run, Preview, Unlock, Forget, Generate}
use Rattle.smk_words_reading.specs.declared.asked.RunWords.{RunWords}
use Rattle.smk_words_reading.specs.Words.{Text, flag_word, setting_word, Spells}

-- ## Parts

abbrev pub target_of : Part → Option Text
target_of (Target word) = Some word
target_of (Flagged f) = None
target_of (Given o v) = None

abbrev pub targets_in : List Part → List Text
targets_in parts = filter_map target_of parts

abbrev pub is_flag : Flag → Part → Bool
is_flag f (Target word) = false
is_flag f (Flagged g) = bytes_eq (flag_word g) (flag_word f)
is_flag f (Given o v) = false

-- how often the flag stands
abbrev pub times : Flag → List Part → ℕ
times f parts = length (filter (is_flag f) parts)

abbrev pub has : Flag → List Part → Bool
has f parts = list_any (is_flag f) parts

abbrev pub value_of : Setting → Part → Option Text
value_of o (Target word) = None
value_of o (Flagged f) = None
value_of o (Given p v) = if bytes_eq (setting_word p) (setting_word o) then Some v else None

-- the values of the option, in order
abbrev pub values : Setting → List Part → List Text
values o parts = filter_map (value_of o) parts

-- ## Values

abbrev pub is_letter : ℕ → Bool
is_letter b = (nat_le 65 b && nat_le b 90) || ((nat_le 97 b && nat_le b 122) || b == 95)

abbrev pub is_digit : ℕ → Bool
is_digit b = nat_le 48 b && nat_le b 57

-- a letter or `_`, and then letters, digits and `_`
abbrev pub is_name : Text → Bool
is_name [] = false
is_name (b ∷ text) = is_letter b && list_all (λ c. is_letter c || is_digit c) text

-- KEY=VALUE
abbrev pub pair_text : Pair → Text
pair_text s = s.name ++ 61 ∷ s.value

abbrev pub is_pair : Pair → Bool
is_pair s = is_name s.name

-- NAME=N
abbrev pub amount_text : Amount → Text
amount_text b = b.name ++ 61 ∷ decimal b.count

abbrev pub is_amount : Amount → Bool
is_amount b = is_name b.name && nat_le b.count 4294967296

abbrev pub are_different : List Text → Bool
are_different [] = true
are_different (name ∷ names) = not (list_any (λ other. bytes_eq other name) names) && are_different names

abbrev pub name_of : Amount → Text
name_of b = b.name

-- SEED:SIZE
abbrev pub seed_size_text : ℕ → ℕ → Text
seed_size_text seed size = decimal seed ++ 58 ∷ decimal size

-- ## What the parts ask

abbrev pub force_in : List Part → Force
force_in parts = if has flag.ForceAll parts then All else (if has flag.Force parts then Targets else No)

-- Without a word on cores, the parts ask for this run or its listing.
pub record IsRunOf (parts : List Part) (w : RunWords) : Type 0 where
  pub targets : w.targets ≡ targets_in parts
  pub file : values setting.Snakefile parts ≡ option_to_list w.file
  pub file_is_path : list_all is_path (option_to_list w.file) ≡ true
  pub sets : values setting.Config parts ≡ map pair_text w.sets
  pub are_pairs : list_all is_pair w.sets ≡ true
  pub bounds : values setting.Resources parts ≡ map amount_text w.bounds
  pub are_amounts : list_all is_amount w.bounds ≡ true
  pub each_once : are_different (map name_of w.bounds) ≡ true
  pub nolock : w.nolock ≡ has flag.NoLock parts
  pub keep_going : w.keep_going ≡ has flag.KeepGoing parts
  pub rerun_incomplete : w.rerun_incomplete ≡ has flag.RerunIncomplete parts
  pub force : w.force ≡ force_in parts
  pub flags_once : (f : Flag) → times f parts ≤ 1
  pub no_unlock : has flag.Unlock parts ≡ false
  pub no_cleanup : values setting.CleanupMetadata parts ≡ []
  pub no_generate : values setting.Generate parts ≡ []

-- `--cores` stands once, with this number
pub record HasCores (parts : List Part) (cores : ℕ) : Type 0 where
  pub spelled : values setting.Cores parts ≡ decimal cores ∷ []
  pub least : 1 ≤ cores
  pub most : cores ≤ 4096

-- the part is a path to be forgotten, or says that the lock isn't heeded
abbrev pub is_of_cleanup : Part → Bool
is_of_cleanup (Target word) = false
is_of_cleanup (Flagged f) = bytes_eq (flag_word f) (flag_word flag.NoLock)
is_of_cleanup (Given o v) = bytes_eq (setting_word o) (setting_word setting.CleanupMetadata)

-- The parts ask this. A listing has one core where they name none.
pub data Asks (parts : List Part) : Asked → Type 0 where
  ARun : (w : RunWords) → IsRunOf parts w → has flag.DryRun parts ≡ false → HasCores parts w.cores → Asks parts (Run w)
  AListing :
      (w : RunWords) →
      IsRunOf parts w → has flag.DryRun parts ≡ true → HasCores parts w.cores ⊎ ((values setting.Cores parts ≡ []) × (w.cores ≡ 1)) → Asks parts (Preview w)
  AnUnlocking : parts ≡ Flagged flag.Unlock ∷ [] → Asks parts Unlock
  AForgetting :
      (paths : List Text) (nolock : Bool) →
      values setting.CleanupMetadata parts ≡ paths →
      paths ≢ [] →
      list_all is_path paths ≡ true →
      nolock ≡ has flag.NoLock parts → times flag.NoLock parts ≤ 1 → list_all is_of_cleanup parts ≡ true → Asks parts (Forget paths nolock)
  AGenerating :
      (seed size : ℕ) →
      parts ≡ Given setting.Generate (seed_size_text seed size) ∷ [] → seed ≤ 4294967295 → 1 ≤ size → size ≤ 2000 → Asks parts (Generate seed size)

-- The parts ask for a run and don't say on how many cores.
pub record AsksWithoutCores (parts : List Part) : Type 0 where
  pub run : RunWords
  pub is_run : IsRunOf parts run
  pub no_listing : has flag.DryRun parts ≡ false
  pub no_cores : values setting.Cores parts ≡ []

-- ## What words ask

-- the words spell parts that ask this
pub record IsAsked (words : List Text) (asked : Asked) : Type 0 where
  pub parts : List Part
  pub spelled : Spells words parts
  pub asks : Asks parts asked

-- the words ask for a run and don't say on how many cores
pub record LacksCores (words : List Text) : Type 0 where
  pub parts : List Part
  pub spelled : Spells words parts
  pub asks : AsksWithoutCores parts

-- the words ask nothing
abbrev pub AreUnread : List Text → Type 0
AreUnread words = ((asked : Asked) → ¬ IsAsked words asked) × (¬ LacksCores words)

-- What words ask is one thing.
abbrev pub OneAsked : Type 0
OneAsked = (words : List Text) (a b : Asked) → IsAsked words a → IsAsked words b → a ≡ b

-- Words that lack cores ask nothing.
abbrev pub NoneAskedWithoutCores : Type 0
NoneAskedWithoutCores = (words : List Text) (a : Asked) → IsAsked words a → ¬ LacksCores words
