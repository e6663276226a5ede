-- Parts are read as they ask.
use native.Mathlib.Omega.{arith}
use Rattle.std.proofs.Common.{◌≡◌, ◌≢◌, ℕ, suc, ◌≤◌, ◌<◌, ◌^◌, Bool, true, false, cond, ◌&&◌, ◌||◌, List, [], ◌∷◌, map, filter, length, Option, Some, None, option_map, option_to_list, refl, sym, ◌∙◌, ap, subst, bytes_eq, ◌==◌, inl, inr, ◌⊎◌}
use Rattle.std.specs.List.{list_all, list_any, cons_option}
use Rattle.std.specs.Option.{unwrap_or}
use Rattle.std.proofs.lemmas.Bool.{eqb-true, leb-true, le-leb, cond-true, cond-false, and_parts, and_from, or_parts, false≢true, or_from}
use Rattle.std.proofs.lemmas.Option.{none-some, same_Some, cond_some}
use Rattle.std.proofs.lemmas.Slice.Eq.{bytes_eq-Decides}
use Rattle.smk_base.specs.Path.{is_path}
use Rattle.smk_base.specs.declared.tree.Amount.{Amount}
use Rattle.smk_base.specs.declared.tree.Pair.{Pair}
use Rattle.smk_words_reading.specs.declared.parts.Flag.{Flag}
use Rattle.smk_words_reading.specs.declared.parts.Flag.TheVariants as flag
use Rattle.smk_words_reading.specs.declared.parts.Setting.{Setting}
use Rattle.smk_words_reading.specs.declared.parts.Setting.TheVariants as setting
use Rattle.smk_words_reading.specs.declared.parts.Part.{Part}
use Rattle.smk_words_reading.specs.declared.parts.Part.TheVariants.{Target, Flagged, Given}
use Rattle.smk_words_reading.specs.declared.asked.Asked.{Asked}
use Rattle.smk_words_reading.specs.declared.asked.Asked.TheVariants.{Run, Preview, Unlock, Forget, Generate}
use Rattle.smk_words_reading.specs.declared.asked.RunWords.{RunWords}
use Rattle.smk_words_reading.specs.declared.asking.Meaning.{Meaning}
use Rattle.smk_words_reading.specs.declared.asking.Meaning.TheVariants.{Ask, WithoutCores, Nothing}
use Rattle.smk_words_reading.specs.Words.{Text, flag_word, setting_word}
use Rattle.smk_words_reading.specs.Reading.{flag_named, setting_named}
use Rattle.smk_words_reading.specs.Asks.{is_flag, times, has, values, is_pair, pair_text, is_amount, amount_text, are_different, name_of, seed_size_text, IsRunOf, HasCores, is_of_cleanup, Asks, AsksWithoutCores}
use Rattle.smk_words_reading.specs.Asks.Asks.{ARun, AListing, AnUnlocking, AForgetting, AGenerating}
use Rattle.smk_words_reading.specs.Asking.{number_in, path_in, pair_in, amount_in, seed_size_in, all_of, only, cores_in, file_in, sets_in, of_different, bounds_in, is_once, are_once, run_with, run_of, run_in, run_meaning, with_run, with_cores, forgetting, generating, generating_or_running, without_unlock, meaning_in}
use Rattle.smk_words_reading.proofs.Numerals.{number_spelled, number_read, pair_sound, pair_whole, amount_sound, amount_whole, seed_size_sound, seed_size_whole, path_sound, path_whole, all_of_sound, all_of_whole, paths_sound, paths_whole}

-- ## The one value of an option

-- what the values are, where they are read so
abbrev OnlyMeans : {A : Type 0} → (Text → Option A) → List Text → Option A → Type 0
OnlyMeans read words None = words ≡ []
OnlyMeans read words (Some x) = (word : Text) × (words ≡ word ∷ []) × (read word ≡ Some x)

one_sound : {A : Type 0} (read : Text → Option A) (word : Text) (q : Option A) (r : Option A) → read word ≡ r →
    option_map (λ (x : A). Some x) r ≡ Some q → OnlyMeans read (word ∷ []) q
one_sound read word q None e f = absurd (none-some q f)
one_sound {A} read word q (Some x) e f =
    subst (λ (z : Option A). OnlyMeans read (word ∷ []) z) (same_Some (Some x) q f) (word, refl, e)

only_sound : {A : Type 0} (read : Text → Option A) (words : List Text) (q : Option A) → only read words ≡ Some q → OnlyMeans read words q
only_sound {A} read [] q e = subst (λ (z : Option A). OnlyMeans read [] z) (same_Some None q e) refl
only_sound read (word ∷ []) q e = one_sound read word q (read word) refl e
only_sound read (word ∷ other ∷ words) q e = absurd (none-some q e)

-- ## Cores

-- what is said of the cores
abbrev CoresMean : List Part → Option ℕ → Type 0
CoresMean parts None = values setting.Cores parts ≡ []
CoresMean parts (Some n) = HasCores parts n

cores_mean : (parts : List Part) (q : Option ℕ) → OnlyMeans (number_in 1 4096) (values setting.Cores parts) q → CoresMean parts q
cores_mean parts None h = h
cores_mean parts (Some n) h =
    let is = number_spelled 1 4096 h.0 n h.2 in
    record { spelled = h.1 ∙ ap (λ (w : Text). w ∷ []) is.0; least = is.1; most = is.2 }

cores_sound : (parts : List Part) (q : Option ℕ) → cores_in parts ≡ Some q → CoresMean parts q
cores_sound parts q e = cores_mean parts q (only_sound (number_in 1 4096) (values setting.Cores parts) q e)

cores_small : (n : ℕ) → n ≤ 4096 → n < 2 ^ 64
cores_small n h = omega arith

cores_whole : (parts : List Part) (n : ℕ) → HasCores parts n → cores_in parts ≡ Some (Some n)
cores_whole parts n h =
    ap (only (number_in 1 4096)) h.spelled
    ∙ ap (option_map (λ (m : ℕ). Some m)) (number_read 1 4096 n (cores_small n h.most) h.least h.most)

no_cores : (parts : List Part) → values setting.Cores parts ≡ [] → cores_in parts ≡ Some None
no_cores parts e = ap (only (number_in 1 4096)) e

-- ## The file

-- what is said of the file
record FileMeans (parts : List Part) (file : Option Text) : Type 0 where
  spelled : values setting.Snakefile parts ≡ option_to_list file
  is_path : list_all is_path (option_to_list file) ≡ true

file_means : (parts : List Part) (q : Option Text) → OnlyMeans path_in (values setting.Snakefile parts) q → FileMeans parts q
file_means parts None h = record { spelled = h; is_path = refl }
file_means parts (Some path) h =
    let is = path_sound h.0 path h.2 in
    record { spelled = h.1 ∙ ap (λ (w : Text). w ∷ []) is.0; is_path = and_from (is_path path) true is.1 refl }

file_sound : (parts : List Part) (q : Option Text) → file_in parts ≡ Some q → FileMeans parts q
file_sound parts q e = file_means parts q (only_sound path_in (values setting.Snakefile parts) q e)

file_read : (q : Option Text) → list_all is_path (option_to_list q) ≡ true → only path_in (option_to_list q) ≡ Some q
file_read None h = refl
file_read (Some path) h = ap (option_map (λ (p : Text). Some p)) (path_whole path (and_parts (is_path path) true h).0)

file_whole : (parts : List Part) (q : Option Text) → values setting.Snakefile parts ≡ option_to_list q → list_all is_path (option_to_list q) ≡ true → file_in parts ≡ Some q
file_whole parts q e h = ap (only path_in) e ∙ file_read q h

-- ## Pairs and bounds

sets_sound : (parts : List Part) (sets : List Pair) → sets_in parts ≡ Some sets → (values setting.Config parts ≡ map pair_text sets) × (list_all is_pair sets ≡ true)
sets_sound parts sets e = all_of_sound pair_in pair_text is_pair pair_sound (values setting.Config parts) sets e

sets_whole : (parts : List Part) (sets : List Pair) → values setting.Config parts ≡ map pair_text sets → list_all is_pair sets ≡ true → sets_in parts ≡ Some sets
sets_whole parts sets e h = ap (all_of pair_in) e ∙ all_of_whole pair_in pair_text is_pair pair_whole sets h

-- what is said of the bounds
record BoundsMean (parts : List Part) (bounds : List Amount) : Type 0 where
  spelled : values setting.Resources parts ≡ map amount_text bounds
  good : list_all is_amount bounds ≡ true
  each_once : are_different (map name_of bounds) ≡ true

bounds_step : (parts : List Part) (bounds : List Amount) (q : Option (List Amount)) → all_of amount_in (values setting.Resources parts) ≡ q → of_different q ≡ Some bounds → BoundsMean parts bounds
bounds_step parts bounds None e f = absurd (none-some bounds f)
bounds_step parts bounds (Some found) e f =
    let same = cond_some (are_different (map name_of found)) found bounds f in
    let good = all_of_sound amount_in amount_text is_amount amount_sound (values setting.Resources parts) found e in
    subst (BoundsMean parts) same.1 (record { spelled = good.0; good = good.1; each_once = same.0 })

bounds_sound : (parts : List Part) (bounds : List Amount) → bounds_in parts ≡ Some bounds → BoundsMean parts bounds
bounds_sound parts bounds e = bounds_step parts bounds (all_of amount_in (values setting.Resources parts)) refl e

bounds_whole : (parts : List Part) (bounds : List Amount) → values setting.Resources parts ≡ map amount_text bounds → list_all is_amount bounds ≡ true →
    are_different (map name_of bounds) ≡ true → bounds_in parts ≡ Some bounds
bounds_whole parts bounds e h once =
    ap (λ (words : List Text). of_different (all_of amount_in words)) e
    ∙ ap of_different (all_of_whole amount_in amount_text is_amount amount_whole bounds h)
    ∙ cond-true (are_different (map name_of bounds)) (Some bounds) None once

-- ## Flags

none_filtered : (f : Flag) (parts : List Part) → has f parts ≡ false → filter (is_flag f) parts ≡ []
none_filtered f [] e = refl
none_filtered f (p ∷ parts) e =
    let halves = or_parts (is_flag f p) (list_any (is_flag f) parts) e in
    cond-false (is_flag f p) (p ∷ filter (is_flag f) parts) (filter (is_flag f) parts) halves.0 ∙ none_filtered f parts halves.1

none_times : (f : Flag) (parts : List Part) → has f parts ≡ false → times f parts ≤ 1
none_times f parts e = let none : times f parts ≡ 0 = ap (λ (ps : List Part). length ps) (none_filtered f parts e) in omega (arith, none)

-- each flag of a run stands at most once
record AreOnce (parts : List Part) : Type 0 where
  dry_run : is_once flag.DryRun parts ≡ true
  keep_going : is_once flag.KeepGoing parts ≡ true
  rerun_incomplete : is_once flag.RerunIncomplete parts ≡ true
  force : is_once flag.Force parts ≡ true
  forceall : is_once flag.ForceAll parts ≡ true
  nolock : is_once flag.NoLock parts ≡ true

once_parts : (a b c d e f : Bool) → (a && (b && (c && (d && (e && f))))) ≡ true →
    (a ≡ true) × (b ≡ true) × (c ≡ true) × (d ≡ true) × (e ≡ true) × (f ≡ true)
once_parts true true true true true true h = (refl, refl, refl, refl, refl, refl)
once_parts true true true true true false h = absurd (false≢true h)
once_parts true true true true false f h = absurd (false≢true h)
once_parts true true true false e f h = absurd (false≢true h)
once_parts true true false d e f h = absurd (false≢true h)
once_parts true false c d e f h = absurd (false≢true h)
once_parts false b c d e f h = absurd (false≢true h)

once_sound : (parts : List Part) → are_once parts ≡ true → has flag.Unlock parts ≡ false → (f : Flag) → times f parts ≤ 1
once_sound parts h no_unlock f =
    let all = once_parts (is_once flag.DryRun parts) (is_once flag.KeepGoing parts) (is_once flag.RerunIncomplete parts) (is_once flag.Force parts) (is_once flag.ForceAll parts) (is_once flag.NoLock parts) h in
    by all.0 all.1 all.2 all.3 all.4 all.5 f
  where
    by : is_once flag.DryRun parts ≡ true → is_once flag.KeepGoing parts ≡ true → is_once flag.RerunIncomplete parts ≡ true →
        is_once flag.Force parts ≡ true → is_once flag.ForceAll parts ≡ true → is_once flag.NoLock parts ≡ true → (f : Flag) → times f parts ≤ 1
    by a b c d e g flag.DryRun = leb-true (times flag.DryRun parts) 1 a
    by a b c d e g flag.KeepGoing = leb-true (times flag.KeepGoing parts) 1 b
    by a b c d e g flag.RerunIncomplete = leb-true (times flag.RerunIncomplete parts) 1 c
    by a b c d e g flag.Force = leb-true (times flag.Force parts) 1 d
    by a b c d e g flag.ForceAll = leb-true (times flag.ForceAll parts) 1 e
    by a b c d e g flag.Unlock = none_times flag.Unlock parts no_unlock
    by a b c d e g flag.NoLock = leb-true (times flag.NoLock parts) 1 g

once_whole : (parts : List Part) → ((f : Flag) → times f parts ≤ 1) → are_once parts ≡ true
once_whole parts h =
    let one : (f : Flag) → is_once f parts ≡ true = λ f. le-leb (times f parts) 1 (h f) in
    and_from _ _ (one flag.DryRun) (and_from _ _ (one flag.KeepGoing) (and_from _ _ (one flag.RerunIncomplete)
    (and_from _ _ (one flag.Force) (and_from _ _ (one flag.ForceAll) (one flag.NoLock)))))

-- ## Runs

-- what stands with no run
record StandsForRun (parts : List Part) : Type 0 where
  no_unlock : has flag.Unlock parts ≡ false
  no_cleanup : values setting.CleanupMetadata parts ≡ []
  no_generate : values setting.Generate parts ≡ []

built : (parts : List Part) (cores : ℕ) (file : Option Text) (sets : List Pair) (bounds : List Amount) → StandsForRun parts → are_once parts ≡ true →
    FileMeans parts file → (values setting.Config parts ≡ map pair_text sets) × (list_all is_pair sets ≡ true) → BoundsMean parts bounds →
    IsRunOf parts (run_with cores parts file sets bounds)
built parts cores file sets bounds alone once f s b =
    record {
      targets = refl;
      file = f.spelled;
      file_is_path = f.is_path;
      sets = s.0;
      are_pairs = s.1;
      bounds = b.spelled;
      are_amounts = b.good;
      each_once = b.each_once;
      nolock = refl;
      keep_going = refl;
      rerun_incomplete = refl;
      force = refl;
      flags_once = once_sound parts once alone.no_unlock;
      no_unlock = alone.no_unlock;
      no_cleanup = alone.no_cleanup;
      no_generate = alone.no_generate;
    }

-- what is said of a run with these cores
record RunMeans (parts : List Part) (cores : ℕ) (w : RunWords) : Type 0 where
  is_run : IsRunOf parts w
  same_cores : w.cores ≡ cores

run_step : (parts : List Part) (cores : ℕ) (w : RunWords) → StandsForRun parts → are_once parts ≡ true →
    (p : Option (Option Text)) (q : Option (List Pair)) (r : Option (List Amount)) →
    file_in parts ≡ p → sets_in parts ≡ q → bounds_in parts ≡ r → run_of cores parts p q r ≡ Some w → RunMeans parts cores w
run_step parts cores w alone once None q r a b c e = absurd (none-some w e)
run_step parts cores w alone once (Some file) None r a b c e = absurd (none-some w e)
run_step parts cores w alone once (Some file) (Some sets) None a b c e = absurd (none-some w e)
run_step parts cores w alone once (Some file) (Some sets) (Some bounds) a b c e =
    subst (RunMeans parts cores) (same_Some (run_with cores parts file sets bounds) w e)
    (record {
      is_run = built parts cores file sets bounds alone once (file_sound parts file a) (sets_sound parts sets b) (bounds_sound parts bounds c);
      same_cores = refl;
    })

once_step : (parts : List Part) (cores : ℕ) (w : RunWords) → StandsForRun parts → (x : Bool) → are_once parts ≡ x →
    cond x (run_of cores parts (file_in parts) (sets_in parts) (bounds_in parts)) None ≡ Some w → RunMeans parts cores w
once_step parts cores w alone true once e = run_step parts cores w alone once (file_in parts) (sets_in parts) (bounds_in parts) refl refl refl e
once_step parts cores w alone false once e = absurd (none-some w e)

run_sound : (parts : List Part) (cores : ℕ) (w : RunWords) → StandsForRun parts → run_in cores parts ≡ Some w → RunMeans parts cores w
run_sound parts cores w alone e = once_step parts cores w alone (are_once parts) refl e

same_run : (parts : List Part) (w : RunWords) (cores : ℕ) → IsRunOf parts w → run_with cores parts w.file w.sets w.bounds ≡ record w { cores = cores }
same_run parts w cores r =
    λ i. record {
      targets = sym r.targets i;
      cores = cores;
      file = w.file;
      sets = w.sets;
      bounds = w.bounds;
      nolock = sym r.nolock i;
      keep_going = sym r.keep_going i;
      rerun_incomplete = sym r.rerun_incomplete i;
      force = sym r.force i;
    }

run_whole : (parts : List Part) (w : RunWords) (cores : ℕ) → IsRunOf parts w → run_in cores parts ≡ Some (record w { cores = cores })
run_whole parts w cores r =
    cond-true (are_once parts) (run_of cores parts (file_in parts) (sets_in parts) (bounds_in parts)) None (once_whole parts r.flags_once)
    ∙ ap (λ (p : Option (Option Text)). run_of cores parts p (sets_in parts) (bounds_in parts)) (file_whole parts w.file r.file r.file_is_path)
    ∙ ap (λ (q : Option (List Pair)). run_of cores parts (Some w.file) q (bounds_in parts)) (sets_whole parts w.sets r.sets r.are_pairs)
    ∙ ap (run_of cores parts (Some w.file) (Some w.sets)) (bounds_whole parts w.bounds r.bounds r.are_amounts r.each_once)
    ∙ ap (λ (v : RunWords). Some v) (same_run parts w cores r)

-- ## Parts that stand alone

flag_of_word : (f : Flag) → flag_named (flag_word f) ≡ Some f
flag_of_word flag.DryRun = refl
flag_of_word flag.KeepGoing = refl
flag_of_word flag.RerunIncomplete = refl
flag_of_word flag.Force = refl
flag_of_word flag.ForceAll = refl
flag_of_word flag.Unlock = refl
flag_of_word flag.NoLock = refl

setting_of_word : (o : Setting) → setting_named (setting_word o) ≡ Some o
setting_of_word setting.Cores = refl
setting_of_word setting.Snakefile = refl
setting_of_word setting.Config = refl
setting_of_word setting.Resources = refl
setting_of_word setting.CleanupMetadata = refl
setting_of_word setting.Generate = refl

same_flag : (f g : Flag) → bytes_eq (flag_word f) (flag_word g) ≡ true → f ≡ g
same_flag f g e = same_Some f g (sym (flag_of_word f) ∙ ap flag_named ((bytes_eq-Decides (flag_word f) (flag_word g)).0 e) ∙ flag_of_word g)

same_setting : (o p : Setting) → bytes_eq (setting_word o) (setting_word p) ≡ true → o ≡ p
same_setting o p e = same_Some o p (sym (setting_of_word o) ∙ ap setting_named ((bytes_eq-Decides (setting_word o) (setting_word p)).0 e) ∙ setting_of_word p)

longer : (n : ℕ) → (suc (suc n) == 1) ≡ true → ⊥
longer n e = let same : suc (suc n) ≡ 1 = eqb-true (suc (suc n)) 1 e in omega (arith, same)

lone_flag : (parts : List Part) → has flag.Unlock parts ≡ true → (length parts == 1) ≡ true → parts ≡ Flagged flag.Unlock ∷ []
lone_flag [] h n = absurd (false≢true h)
lone_flag (Target word ∷ []) h n = absurd (false≢true h)
lone_flag (Flagged f ∷ []) h n = one (bytes_eq (flag_word f) (flag_word flag.Unlock)) refl h
  where
    one : (x : Bool) → bytes_eq (flag_word f) (flag_word flag.Unlock) ≡ x → (x || false) ≡ true → ◌≡◌ {A = List Part} (Flagged f ∷ []) (Flagged flag.Unlock ∷ [])
    one true e h = ap (λ (g : Flag). Flagged g ∷ []) (same_flag f flag.Unlock e)
    one false e h = absurd (false≢true h)
lone_flag (Given o v ∷ []) h n = absurd (false≢true h)
lone_flag (p ∷ q ∷ parts) h n = absurd (longer (length parts) n)

given_step : (o : Setting) (w v : Text) (vs : List Text) (x : Bool) → bytes_eq (setting_word o) (setting_word setting.Generate) ≡ x →
    cons_option (cond x (Some w) None) [] ≡ v ∷ vs → ◌≡◌ {A = List Part} (Given o w ∷ []) (Given setting.Generate v ∷ [])
given_step o w v vs true e h =
    ap (λ (p : Setting). Given p w ∷ []) (same_setting o setting.Generate e) ∙ ap (λ (t : Text). Given setting.Generate t ∷ []) (first h)
  where
    first : w ∷ [] ≡ v ∷ vs → w ≡ v
    first h = cc
given_step o w v vs false e h = absurd (nothing h)
  where
    nothing : [] ≡ v ∷ vs → ⊥
    nothing h = cc

no_value : (v : Text) (vs : List Text) → [] ≡ v ∷ vs → ⊥
no_value v vs h = cc

lone_value : (parts : List Part) (v : Text) (vs : List Text) → values setting.Generate parts ≡ v ∷ vs → (length parts == 1) ≡ true → parts ≡ Given setting.Generate v ∷ []
lone_value [] v vs h n = absurd (no_value v vs h)
lone_value (Target word ∷ []) v vs h n = absurd (no_value v vs h)
lone_value (Flagged f ∷ []) v vs h n = absurd (no_value v vs h)
lone_value (Given o w ∷ []) v vs h n = given_step o w v vs (bytes_eq (setting_word o) (setting_word setting.Generate)) refl h
lone_value (p ∷ q ∷ parts) v vs h n = absurd (longer (length parts) n)

-- ## What is read is asked

-- what a meaning tells of the parts
abbrev pub PartsMean : List Part → Meaning → Type 0
PartsMean parts (Ask asked) = Asks parts asked
PartsMean parts WithoutCores = AsksWithoutCores parts
PartsMean parts Nothing = Unit {0}

cores_listed : (parts : List Part) (w : RunWords) (cores : Option ℕ) → CoresMean parts cores → w.cores ≡ unwrap_or cores 1 →
    HasCores parts w.cores ⊎ ((values setting.Cores parts ≡ []) × (w.cores ≡ 1))
cores_listed parts w None c e = inr (c, e)
cores_listed parts w (Some n) c e = inl (subst (HasCores parts) (sym e) c)

meaning_sound : (parts : List Part) (w : RunWords) (cores : Option ℕ) → CoresMean parts cores →
    RunMeans parts (unwrap_or cores 1) w → PartsMean parts (run_meaning w cores parts)
meaning_sound parts w None c r = listed (has flag.DryRun parts) refl
  where
    listed : (x : Bool) → has flag.DryRun parts ≡ x → PartsMean parts (cond x (Ask (Preview w)) WithoutCores)
    listed true d = AListing w r.is_run d (cores_listed parts w None c r.same_cores)
    listed false d = record { run = w; is_run = r.is_run; no_listing = d; no_cores = c }
meaning_sound parts w (Some n) c r = listed (has flag.DryRun parts) refl
  where
    listed : (x : Bool) → has flag.DryRun parts ≡ x → PartsMean parts (cond x (Ask (Preview w)) (Ask (Run w)))
    listed true d = AListing w r.is_run d (cores_listed parts w (Some n) c r.same_cores)
    listed false d = ARun w r.is_run d (subst (HasCores parts) (sym r.same_cores) c)

with_run_sound : (parts : List Part) (cores : Option ℕ) → StandsForRun parts → CoresMean parts cores →
    (q : Option RunWords) → run_in (unwrap_or cores 1) parts ≡ q → PartsMean parts (with_run q cores parts)
with_run_sound parts cores alone c None e = tt
with_run_sound parts cores alone c (Some w) e = meaning_sound parts w cores c (run_sound parts (unwrap_or cores 1) w alone e)

with_cores_sound : (parts : List Part) → StandsForRun parts → (q : Option (Option ℕ)) → cores_in parts ≡ q → PartsMean parts (with_cores q parts)
with_cores_sound parts alone None e = tt
with_cores_sound parts alone (Some cores) e = with_run_sound parts cores alone (cores_sound parts cores e) (run_in (unwrap_or cores 1) parts) refl

generating_sound : (parts : List Part) (word : Text) (words : List Text) → values setting.Generate parts ≡ word ∷ words →
    (q : Option (ℕ × ℕ)) → seed_size_in word ≡ q → PartsMean parts (generating q parts)
generating_sound parts word words v None e = tt
generating_sound parts word words v (Some numbers) e = alone (length parts == 1) refl
  where
    alone : (x : Bool) → (length parts == 1) ≡ x → PartsMean parts (cond x (Ask (Generate numbers.0 numbers.1)) Nothing)
    alone true n =
        let is = seed_size_sound word numbers.0 numbers.1 e in
        AGenerating numbers.0 numbers.1 (lone_value parts word words v n ∙ ap (λ (t : Text). Given setting.Generate t ∷ []) is.spelled) is.most_seed is.least_size is.most_size
    alone false n = tt

generating_or_running_sound : (parts : List Part) → has flag.Unlock parts ≡ false → values setting.CleanupMetadata parts ≡ [] →
    (words : List Text) → values setting.Generate parts ≡ words → PartsMean parts (generating_or_running words parts)
generating_or_running_sound parts u c [] e = with_cores_sound parts (record { no_unlock = u; no_cleanup = c; no_generate = e }) (cores_in parts) refl
generating_or_running_sound parts u c (word ∷ words) e = generating_sound parts word words e (seed_size_in word) refl

some_paths : (word : Text) (words paths : List Text) → word ∷ words ≡ paths → paths ≢ []
some_paths word words paths e n = no_value word words (sym (e ∙ n))

forgetting_sound : (parts : List Part) (word : Text) (words : List Text) → values setting.CleanupMetadata parts ≡ word ∷ words →
    (q : Option (List Text)) → all_of path_in (word ∷ words) ≡ q → PartsMean parts (forgetting q parts)
forgetting_sound parts word words v None e = tt
forgetting_sound parts word words v (Some paths) e = alone (is_once flag.NoLock parts && list_all is_of_cleanup parts) refl
  where
    alone : (x : Bool) → (is_once flag.NoLock parts && list_all is_of_cleanup parts) ≡ x → PartsMean parts (cond x (Ask (Forget paths (has flag.NoLock parts))) Nothing)
    alone true n =
        let found = paths_sound (word ∷ words) paths e in
        let halves = and_parts (is_once flag.NoLock parts) (list_all is_of_cleanup parts) n in
        AForgetting paths (has flag.NoLock parts) (v ∙ found.0) (some_paths word words paths found.0) found.1 refl (leb-true (times flag.NoLock parts) 1 halves.0) halves.1
    alone false n = tt

without_unlock_sound : (parts : List Part) → has flag.Unlock parts ≡ false → (words : List Text) → values setting.CleanupMetadata parts ≡ words →
    PartsMean parts (without_unlock words parts)
without_unlock_sound parts u [] e = generating_or_running_sound parts u e (values setting.Generate parts) refl
without_unlock_sound parts u (word ∷ words) e = forgetting_sound parts word words e (all_of path_in (word ∷ words)) refl

meaning_step : (parts : List Part) (x y : Bool) → has flag.Unlock parts ≡ x → (length parts == 1) ≡ y →
    PartsMean parts (cond x (cond y (Ask Unlock) Nothing) (without_unlock (values setting.CleanupMetadata parts) parts))
meaning_step parts true true u n = AnUnlocking (lone_flag parts u n)
meaning_step parts true false u n = tt
meaning_step parts false y u n = without_unlock_sound parts u (values setting.CleanupMetadata parts) refl

pub parts_sound : (parts : List Part) → PartsMean parts (meaning_in parts)
parts_sound parts = meaning_step parts (has flag.Unlock parts) (length parts == 1) refl refl

-- ## What is asked is read

no_unlock_read : (parts : List Part) → has flag.Unlock parts ≡ false → meaning_in parts ≡ without_unlock (values setting.CleanupMetadata parts) parts
no_unlock_read parts u =
    cond-false (has flag.Unlock parts) (cond (length parts == 1) (Ask Unlock) Nothing) (without_unlock (values setting.CleanupMetadata parts) parts) u

run_read : (parts : List Part) (w : RunWords) (cores : Option ℕ) → IsRunOf parts w → cores_in parts ≡ Some cores →
    meaning_in parts ≡ run_meaning (record w { cores = unwrap_or cores 1 }) cores parts
run_read parts w cores r c =
    no_unlock_read parts r.no_unlock
    ∙ ap (λ (words : List Text). without_unlock words parts) r.no_cleanup
    ∙ ap (λ (words : List Text). generating_or_running words parts) r.no_generate
    ∙ ap (λ (q : Option (Option ℕ)). with_cores q parts) c
    ∙ ap (λ (q : Option RunWords). with_run q cores parts) (run_whole parts w (unwrap_or cores 1) r)

forget_flag : (f : Flag) → bytes_eq (flag_word f) (flag_word flag.NoLock) ≡ true → bytes_eq (flag_word f) (flag_word flag.Unlock) ≡ false
forget_flag flag.DryRun e = refl
forget_flag flag.KeepGoing e = refl
forget_flag flag.RerunIncomplete e = refl
forget_flag flag.Force e = refl
forget_flag flag.ForceAll e = refl
forget_flag flag.Unlock e = absurd (false≢true e)
forget_flag flag.NoLock e = refl

forget_part : (p : Part) → is_of_cleanup p ≡ true → is_flag flag.Unlock p ≡ false
forget_part (Target word) e = refl
forget_part (Flagged f) e = forget_flag f e
forget_part (Given o v) e = refl

no_unlock_to_forget : (parts : List Part) → list_all is_of_cleanup parts ≡ true → has flag.Unlock parts ≡ false
no_unlock_to_forget [] e = refl
no_unlock_to_forget (p ∷ parts) e =
    let halves = and_parts (is_of_cleanup p) (list_all is_of_cleanup parts) e in
    or_from (is_flag flag.Unlock p) (has flag.Unlock parts) (forget_part p halves.0) (no_unlock_to_forget parts halves.1)

some_forgotten : (parts : List Part) (paths : List Text) → paths ≢ [] → without_unlock paths parts ≡ forgetting (all_of path_in paths) parts
some_forgotten parts [] n = absurd (n refl)
some_forgotten parts (path ∷ paths) n = refl

forget_read : (parts : List Part) (paths : List Text) (nolock : Bool) →
    values setting.CleanupMetadata parts ≡ paths → paths ≢ [] → list_all is_path paths ≡ true →
    nolock ≡ has flag.NoLock parts → times flag.NoLock parts ≤ 1 → list_all is_of_cleanup parts ≡ true → meaning_in parts ≡ Ask (Forget paths nolock)
forget_read parts paths nolock v some good lock once alone =
    no_unlock_read parts (no_unlock_to_forget parts alone)
    ∙ ap (λ (words : List Text). without_unlock words parts) v
    ∙ some_forgotten parts paths some
    ∙ ap (λ (q : Option (List Text)). forgetting q parts) (paths_whole paths good)
    ∙ cond-true (is_once flag.NoLock parts && list_all is_of_cleanup parts) (Ask (Forget paths (has flag.NoLock parts))) Nothing
    (and_from (is_once flag.NoLock parts) (list_all is_of_cleanup parts) (le-leb (times flag.NoLock parts) 1 once) alone)
    ∙ ap (λ (l : Bool). Ask (Forget paths l)) (sym lock)

generate_read : (seed size : ℕ) → seed ≤ 4294967295 → 1 ≤ size → size ≤ 2000 →
    meaning_in (Given setting.Generate (seed_size_text seed size) ∷ []) ≡ Ask (Generate seed size)
generate_read seed size most low high =
    ap (λ (q : Option (ℕ × ℕ)). generating q (Given setting.Generate (seed_size_text seed size) ∷ [])) (seed_size_whole seed size most low high)

listing_read : (parts : List Part) (w : RunWords) → IsRunOf parts w → has flag.DryRun parts ≡ true →
    HasCores parts w.cores ⊎ ((values setting.Cores parts ≡ []) × (w.cores ≡ 1)) → meaning_in parts ≡ Ask (Preview w)
listing_read parts w r d (inl c) =
    run_read parts w (Some w.cores) r (cores_whole parts w.cores c)
    ∙ cond-true (has flag.DryRun parts) (Ask (Preview w)) (Ask (Run w)) d
listing_read parts w r d (inr c) =
    run_read parts w None r (no_cores parts c.0)
    ∙ cond-true (has flag.DryRun parts) (Ask (Preview (record w { cores = 1 }))) WithoutCores d
    ∙ ap (λ (n : ℕ). Ask (Preview (record w { cores = n }))) (sym c.1)

-- what the parts ask is what is read of them
pub asked_read : (parts : List Part) (asked : Asked) → Asks parts asked → meaning_in parts ≡ Ask asked
asked_read parts _ (ARun w r d c) =
    run_read parts w (Some w.cores) r (cores_whole parts w.cores c)
    ∙ cond-false (has flag.DryRun parts) (Ask (Preview w)) (Ask (Run w)) d
asked_read parts _ (AListing w r d c) = listing_read parts w r d c
asked_read parts _ (AnUnlocking e) = ap meaning_in e
asked_read parts _ (AForgetting paths nolock v some good lock once alone) = forget_read parts paths nolock v some good lock once alone
asked_read parts _ (AGenerating seed size e most low high) = ap meaning_in e ∙ generate_read seed size most low high

pub without_cores_read : (parts : List Part) → AsksWithoutCores parts → meaning_in parts ≡ WithoutCores
without_cores_read parts h =
    run_read parts h.run None h.is_run (no_cores parts h.no_cores)
    ∙ cond-false (has flag.DryRun parts) (Ask (Preview (record h.run { cores = 1 }))) WithoutCores h.no_listing
