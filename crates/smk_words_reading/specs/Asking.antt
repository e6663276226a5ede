-- How parts are read.
use Rattle.std.specs.Prelude.{ℕ, Bool, ◌&&◌, ◌||◌, List, [], ◌∷◌, map, length, decimal, bytes_eq, nat_le, ◌==◌, if◌then◌else◌, Option, Some, None, option_map, unwrap_or}
use Rattle.std.specs.List.{list_all, list_any}
use Rattle.std.specs.Str.Parse.{digits_value}
use Rattle.smk_base.specs.Path.{is_path}
use Rattle.smk_base.specs.declared.tree.Amount.{Amount}
use Rattle.smk_base.specs.declared.tree.Pair.{Pair}
use Rattle.smk_words_reading.specs.declared.parts.Flag.{Flag}
use Rattle.smk_words_reading.specs.declared.parts.Flag.TheVariants as flag
use Rattle.smk_words_reading.specs.declared.parts.Setting.TheVariants as setting
use Rattle.smk_words_reading.specs.declared.parts.Part.{Part}
use Rattle.smk_words_reading.specs.declared.asked.Asked.TheVariants.{Run, Preview, Unlock, Forget, Generate}
use Rattle.smk_words_reading.specs.declared.asked.RunWords.{RunWords}
use Rattle.smk_words_reading.specs.declared.asking.Meaning.{Meaning}
use Rattle.smk_words_reading.specs.declared.asking.Meaning.TheVariants.{Ask, WithoutCores, Nothing}
use Rattle.smk_words_reading.specs.Words.{Text}
use Rattle.smk_words_reading.specs.Reading.{split_at}
use Rattle.smk_words_reading.specs.Asks.{is_name, is_of_cleanup, has, times, values, targets_in, force_in, are_different, name_of}

-- ## Values

abbrev pub is_number : ℕ → ℕ → Text → ℕ → Bool
is_number least most word n = bytes_eq (decimal n) word && (nat_le least n && nat_le n most)

-- the number that the word spells, where it is within the limits
abbrev pub number_in : ℕ → ℕ → Text → Option ℕ
number_in least most word = if is_number least most word (digits_value 10 word) then Some (digits_value 10 word) else None

abbrev pub path_in : Text → Option Text
path_in word = if is_path word then Some word else None

abbrev pub pair_of : Option (Text × Text) → Option Pair
pair_of None = None
pair_of (Some p) = if is_name p.0 then Some (record { name = p.0; value = p.1 }) else None

abbrev pub pair_in : Text → Option Pair
pair_in word = pair_of (split_at 61 word)

abbrev pub amount_named : Text → Option ℕ → Option Amount
amount_named name None = None
amount_named name (Some count) = Some (record { name = name; count = count })

abbrev pub amount_of : Option (Text × Text) → Option Amount
amount_of None = None
amount_of (Some p) = if is_name p.0 then amount_named p.0 (number_in 0 4294967296 p.1) else None

abbrev pub amount_in : Text → Option Amount
amount_in word = amount_of (split_at 61 word)

abbrev pub both : Option ℕ → Option ℕ → Option (ℕ × ℕ)
both None second = None
both (Some m) None = None
both (Some m) (Some n) = Some (m, n)

abbrev pub seed_size_of : Option (Text × Text) → Option (ℕ × ℕ)
seed_size_of None = None
seed_size_of (Some p) = both (number_in 0 4294967295 p.0) (number_in 1 2000 p.1)

abbrev pub seed_size_in : Text → Option (ℕ × ℕ)
seed_size_in word = seed_size_of (split_at 58 word)

-- ## Lists of values

abbrev pub cons_both : {A : Type 0} → Option A → Option (List A) → Option (List A)
cons_both None ys = None
cons_both (Some y) None = None
cons_both (Some y) (Some ys) = Some (y ∷ ys)

-- what is read of each word, where all are read
abbrev pub all_of : {A : Type 0} → (Text → Option A) → List Text → Option (List A)
all_of read [] = Some []
all_of read (word ∷ words) = cons_both (read word) (all_of read words)

-- what is read of the one word, where there is one
abbrev pub only : {A : Type 0} → (Text → Option A) → List Text → Option (Option A)
only {A} read [] = Some None
only {A} read (word ∷ []) = option_map (λ (x : A). Some x) (read word)
only {A} read (word ∷ other ∷ words) = None

abbrev pub cores_in : List Part → Option (Option ℕ)
cores_in parts = only (number_in 1 4096) (values setting.Cores parts)

abbrev pub file_in : List Part → Option (Option Text)
file_in parts = only path_in (values setting.Snakefile parts)

abbrev pub sets_in : List Part → Option (List Pair)
sets_in parts = all_of pair_in (values setting.Config parts)

abbrev pub is_named : Text → List Text → Bool
is_named name names = list_any (λ other. bytes_eq other name) names

abbrev pub of_different : Option (List Amount) → Option (List Amount)
of_different None = None
of_different (Some bounds) = if are_different (map name_of bounds) then Some bounds else None

abbrev pub bounds_in : List Part → Option (List Amount)
bounds_in parts = of_different (all_of amount_in (values setting.Resources parts))

-- ## Runs

abbrev pub is_once : Flag → List Part → Bool
is_once f parts = nat_le (times f parts) 1

abbrev pub are_once : List Part → Bool
are_once parts =
    is_once flag.DryRun parts
    && (is_once flag.KeepGoing parts
    && (is_once flag.RerunIncomplete parts && (is_once flag.Force parts && (is_once flag.ForceAll parts && is_once flag.NoLock parts))))

abbrev pub run_with : ℕ → List Part → Option Text → List Pair → List Amount → RunWords
run_with cores parts file sets bounds =
    record {
      targets = targets_in parts;
      cores = cores;
      file = file;
      sets = sets;
      bounds = bounds;
      nolock = has flag.NoLock parts;
      keep_going = has flag.KeepGoing parts;
      rerun_incomplete = has flag.RerunIncomplete parts;
      force = force_in parts;
    }

abbrev pub run_of : ℕ → List Part → Option (Option Text) → Option (List Pair) → Option (List Amount) → Option RunWords
run_of cores parts None sets bounds = None
run_of cores parts (Some file) None bounds = None
run_of cores parts (Some file) (Some sets) None = None
run_of cores parts (Some file) (Some sets) (Some bounds) = Some (run_with cores parts file sets bounds)

abbrev pub run_in : ℕ → List Part → Option RunWords
run_in cores parts = if are_once parts then run_of cores parts (file_in parts) (sets_in parts) (bounds_in parts) else None

-- ## What the parts mean

abbrev pub run_meaning : RunWords → Option ℕ → List Part → Meaning
run_meaning run None parts = if has flag.DryRun parts then Ask (Preview run) else WithoutCores
run_meaning run (Some cores) parts = if has flag.DryRun parts then Ask (Preview run) else Ask (Run run)

abbrev pub with_run : Option RunWords → Option ℕ → List Part → Meaning
with_run None cores parts = Nothing
with_run (Some run) cores parts = run_meaning run cores parts

abbrev pub with_cores : Option (Option ℕ) → List Part → Meaning
with_cores None parts = Nothing
with_cores (Some cores) parts = with_run (run_in (unwrap_or cores 1) parts) cores parts

abbrev pub running : List Part → Meaning
running parts = with_cores (cores_in parts) parts

abbrev pub forgetting : Option (List Text) → List Part → Meaning
forgetting None parts = Nothing
forgetting (Some paths) parts = if is_once flag.NoLock parts && list_all is_of_cleanup parts then Ask (Forget paths (has flag.NoLock parts)) else Nothing

abbrev pub generating : Option (ℕ × ℕ) → List Part → Meaning
generating None parts = Nothing
generating (Some numbers) parts = if length parts == 1 then Ask (Generate numbers.0 numbers.1) else Nothing

abbrev pub generating_or_running : List Text → List Part → Meaning
generating_or_running [] parts = running parts
generating_or_running (word ∷ words) parts = generating (seed_size_in word) parts

abbrev pub without_unlock : List Text → List Part → Meaning
without_unlock [] parts = generating_or_running (values setting.Generate parts) parts
without_unlock (word ∷ words) parts = forgetting (all_of path_in (word ∷ words)) parts

abbrev pub meaning_in : List Part → Meaning
meaning_in parts =
    if has flag.Unlock parts then (if length parts == 1 then Ask Unlock else Nothing) else without_unlock (values setting.CleanupMetadata parts) parts

-- what the words mean
abbrev pub meaning_of : Option (List Part) → Meaning
meaning_of None = Nothing
meaning_of (Some parts) = meaning_in parts
