-- One word is read as it is spelled.
use native.Mathlib.Omega.{arith}
use Rattle.std.proofs.Common.{◌≡◌, ◌≢◌, ℕ, suc, Bool, true, false, cond, not, ◌&&◌, ◌||◌, List, [], ◌∷◌, ◌++◌, codes, length, Option, Some, None, option_map, is_none, refl, sym, ◌∙◌, ap, subst, ◌==◌, bytes_eq}
use Rattle.std.proofs.lemmas.Bool.{eqb-true, ne_eqb, cond-false, true≢false, false≢true}
use Rattle.std.proofs.lemmas.Option.{none-some, same_Some}
use Rattle.std.proofs.lemmas.Slice.Eq.{bytes_eq-Decides}
use Rattle.smk_words_reading.specs.declared.parts.Flag.{Flag}
use Rattle.smk_words_reading.specs.declared.parts.Flag.TheVariants.{DryRun, KeepGoing, RerunIncomplete, Force, ForceAll, Unlock, NoLock}
use Rattle.smk_words_reading.specs.declared.parts.Setting.{Setting}
use Rattle.smk_words_reading.specs.declared.parts.Setting.TheVariants.{Cores, Snakefile, Config, Resources, CleanupMetadata, Generate}
use Rattle.smk_words_reading.specs.declared.parts.Part.{Part}
use Rattle.smk_words_reading.specs.declared.parts.Part.TheVariants as part
use Rattle.smk_words_reading.specs.declared.spelling.Expected.TheVariants.{Word, Value, Target}
use Rattle.smk_words_reading.specs.Words.{Text, flag_word, setting_word, flag_letter, setting_letter, begins_with, is_empty, is_plain, SpellsLetters, LettersTakeNext, SpellsWord, TakesNext}
use Rattle.smk_words_reading.specs.Words.SpellsLetters.{LastFlag, NextFlag, ValueAtOnce, ValueBehindSign}
use Rattle.smk_words_reading.specs.Words.LettersTakeNext.{LastSetting, FlagBefore}
use Rattle.smk_words_reading.specs.Words.SpellsWord.{ATarget, AFlag, WithSign, Letters}
use Rattle.smk_words_reading.specs.Words.TakesNext.{ASetting, LastOfLetters}
use Rattle.smk_words_reading.specs.Reading.{Step, unread, after, split_at, unsigned, given, joined, first_setting, joined_of, last_in, letters_by, letters_in, flag_named, setting_named, flag_at, setting_at, setting_given, whole_setting, whole_flag, long_of, long_in, behind_dash, option_in, word_in}
use Rattle.smk_words_reading.proofs.Options.{flag_named_is, setting_named_is, flag_at_is, setting_at_is, flag_at_letter, setting_at_letter, no_flag_at, flag_no_dash, setting_no_dash}
use Rattle.smk_words_reading.proofs.Cuts.{cut_is}

pub cons_nil : (b : ℕ) (t : Text) → (b ∷ t) ≢ []
cons_nil b t e = cc

pub cons_length : (b : ℕ) (t : Text) → (length (b ∷ t) == 0) ≡ false
cons_length b t = ne_eqb (suc (length t)) 0 (λ e. omega (arith, e))

pub empty_length : (t : Text) → (length t == 0) ≡ is_empty t
empty_length [] = refl
empty_length (b ∷ t) = cons_length b t

some_length : (v : Text) → v ≢ [] → (length v == 0) ≡ false
some_length [] n = absurd (n refl)
some_length (b ∷ v) n = cons_length b v

length_some : (v : Text) → (length v == 0) ≡ false → v ≢ []
length_some v h e = true≢false (subst (λ (w : Text). (length w == 0) ≡ false) e h)

-- ## Steps over letters

given_whole : (o : Setting) (v : Text) → v ≢ [] → given o v ≡ (part.Given o v ∷ [], Some Word)
given_whole o v n = cond-false {A = Step} (length v == 0) unread (part.Given o v ∷ [], Some Word) (some_length v n)

joined_cons : (o : Setting) (c : ℕ) (v : Text) → joined o (c ∷ v) ≡ given o (unsigned (c ∷ v))
joined_cons o c v = cond-false {A = Step} (length (c ∷ v) == 0) ([], Some (Value o)) (given o (unsigned (c ∷ v))) (cons_length c v)

last_cons : (b : ℕ) (text : Text) → last_in (b ∷ text) ≡ joined_of (first_setting (b ∷ text))
last_cons b text = cond-false {A = Step} (length (b ∷ text) == 0) ([], Some Word) (joined_of (first_setting (b ∷ text))) (cons_length b text)

-- letters whose first is an option's
at_setting : (o : Setting) (b : ℕ) (text : Text) → setting_letter o ≡ Some b → letters_in (b ∷ text) ≡ joined o text
at_setting o b text l =
    ap (λ (q : Option Flag). letters_by q (last_in (b ∷ text)) (letters_in text)) (no_flag_at o b l)
    ∙ last_cons b text
    ∙ ap (λ (q : Option Setting). joined_of (option_map (λ (p : Setting). (p, text)) q)) (setting_at_letter o b l)

-- letters whose first is a flag's
at_flag : (f : Flag) (b : ℕ) (text : Text) → flag_letter f ≡ Some b → letters_in (b ∷ text) ≡ after (part.Flagged f ∷ []) (letters_in text)
at_flag f b text l = ap (λ (q : Option Flag). letters_by q (last_in (b ∷ text)) (letters_in text)) (flag_at_letter f b l)

-- ## What is read is spelled

-- what a step tells of the letters behind a dash
abbrev pub LettersMean : Text → Step → Type 0
LettersMean text (parts, None) = Unit {0}
LettersMean text (parts, Some Word) = SpellsLetters text parts
LettersMean text (parts, Some (Value o)) = LettersTakeNext text parts o
LettersMean text (parts, Some Target) = ⊥

-- what a step tells of a word
abbrev pub WordMeans : Text → Step → Type 0
WordMeans word (parts, None) = Unit {0}
WordMeans word (parts, Some Word) = SpellsWord word parts
WordMeans word (parts, Some (Value o)) = TakesNext word parts o
WordMeans word (parts, Some Target) = (word ≡ codes "--") × (parts ≡ [])

behind_sign : (o : Setting) (b c : ℕ) (v : Text) → setting_letter o ≡ Some b → c ≡ 61 → (x : Bool) → (length v == 0) ≡ x →
    LettersMean (b ∷ c ∷ v) (cond {A = Step} x unread (part.Given o v ∷ [], Some Word))
behind_sign o b c v l s true e = tt
behind_sign o b c v l s false e =
    subst (λ z. SpellsLetters (b ∷ z ∷ v) (part.Given o v ∷ [])) (sym s) (ValueBehindSign o b v l (length_some v e))

sign_step : (o : Setting) (b c : ℕ) (v : Text) → setting_letter o ≡ Some b → (x : Bool) → (c == 61) ≡ x →
    LettersMean (b ∷ c ∷ v) (given o (cond x v (c ∷ v)))
sign_step o b c v l true e = behind_sign o b c v l (eqb-true c 61 e) (length v == 0) refl
sign_step o b c v l false e =
    subst (LettersMean (b ∷ c ∷ v)) (sym (given_whole o (c ∷ v) (cons_nil c v))) (ValueAtOnce o b (c ∷ v) l (cons_nil c v) e)

joined_sound : (o : Setting) (b : ℕ) (text : Text) → setting_letter o ≡ Some b → LettersMean (b ∷ text) (joined o text)
joined_sound o b [] l = LastSetting o b l
joined_sound o b (c ∷ v) l = subst (LettersMean (b ∷ c ∷ v)) (sym (joined_cons o c v)) (sign_step o b c v l (c == 61) refl)

at_last : (b : ℕ) (text : Text) (q : Option Setting) → setting_at b ≡ q → LettersMean (b ∷ text) (joined_of (option_map (λ (o : Setting). (o, text)) q))
at_last b text None e = tt
at_last b text (Some o) e = joined_sound o b text (setting_at_is b o e)

last_sound : (b : ℕ) (text : Text) → LettersMean (b ∷ text) (last_in (b ∷ text))
last_sound b text = subst (LettersMean (b ∷ text)) (sym (last_cons b text)) (at_last b text (setting_at b) refl)

flag_before : (f : Flag) (b : ℕ) (text : Text) → flag_letter f ≡ Some b → (s : Step) → LettersMean text s → LettersMean (b ∷ text) (after (part.Flagged f ∷ []) s)
flag_before f b text l (parts, None) h = tt
flag_before f b text l (parts, Some Word) h = NextFlag f b text parts l h
flag_before f b text l (parts, Some (Value o)) h = FlagBefore f b text parts o l h
flag_before f b text l (parts, Some Target) h = h

one_letter : (b : ℕ) (q : Option Flag) → flag_at b ≡ q → LettersMean (b ∷ []) (letters_by q (last_in (b ∷ [])) (letters_in []))
one_letter b None e = last_sound b []
one_letter b (Some f) e = LastFlag f b (flag_at_is b f e)

more_letters : (b : ℕ) (text : Text) (q : Option Flag) → flag_at b ≡ q →
    LettersMean text (letters_in text) → LettersMean (b ∷ text) (letters_by q (last_in (b ∷ text)) (letters_in text))
more_letters b text None e h = last_sound b text
more_letters b text (Some f) e h = flag_before f b text (flag_at_is b f e) (letters_in text) h

letters_sound : (b : ℕ) (text : Text) → LettersMean (b ∷ text) (letters_in (b ∷ text))
letters_sound b [] = one_letter b (flag_at b) refl
letters_sound b (c ∷ text) = more_letters b (c ∷ text) (flag_at b) refl (letters_sound c text)

behind_a_dash : (text : Text) (s : Step) → LettersMean text s → WordMeans (45 ∷ text) s
behind_a_dash text (parts, None) h = tt
behind_a_dash text (parts, Some Word) h = Letters text parts h
behind_a_dash text (parts, Some (Value o)) h = LastOfLetters text parts o h
behind_a_dash text (parts, Some Target) h = absurd h

given_step : (word name v : Text) (o : Setting) → word ≡ name ++ 61 ∷ v → setting_word o ≡ name → (x : Bool) → (length v == 0) ≡ x →
    WordMeans word (cond {A = Step} x unread (part.Given o v ∷ [], Some Word))
given_step word name v o e n true h = tt
given_step word name v o e n false h =
    subst (λ z. SpellsWord z (part.Given o v ∷ [])) (ap (λ (m : Text). m ++ 61 ∷ v) n ∙ sym e) (WithSign o v (length_some v h))

named_sound : (word name v : Text) → word ≡ name ++ 61 ∷ v → (q : Option Setting) → setting_named name ≡ q → WordMeans word (setting_given q v)
named_sound word name v e None n = tt
named_sound word name v e (Some o) n = given_step word name v o e (setting_named_is name o n) (length v == 0) refl

setting_sound : (word : Text) (q : Option Setting) → setting_named word ≡ q → WordMeans word (whole_setting q)
setting_sound word None e = tt
setting_sound word (Some o) e = subst (λ z. TakesNext z [] o) (setting_named_is word o e) (ASetting o)

flag_sound : (word : Text) (q : Option Flag) → flag_named word ≡ q → WordMeans word (whole_flag q word)
flag_sound word None e = setting_sound word (setting_named word) refl
flag_sound word (Some f) e = subst (λ z. SpellsWord z (part.Flagged f ∷ [])) (flag_named_is word f e) (AFlag f)

cut_sound : (word : Text) (q : Option (Text × Text)) → split_at 61 word ≡ q → WordMeans word (long_of q word)
cut_sound word None e = flag_sound word (flag_named word) refl
cut_sound word (Some p) e = named_sound word p.0 p.1 (cut_is 61 word p.0 p.1 e) (setting_named p.0) refl

long_step : (word : Text) (x : Bool) → bytes_eq word (codes "--") ≡ x →
    WordMeans word (cond {A = Step} x ([], Some Target) (long_of (split_at 61 word) word))
long_step word true e = ((bytes_eq-Decides word (codes "--")).0 e, refl)
long_step word false e = cut_sound word (split_at 61 word) refl

plain_step : (x y : Bool) (t : Text) → cond (x && not y) (Some t) None ≡ None → (not x || y) ≡ true
plain_step true true t e = refl
plain_step true false t e = absurd (none-some t (sym e))
plain_step false y t e = refl

pub plain_undashed : (word : Text) → behind_dash word ≡ None → is_plain word ≡ true
plain_undashed [] e = refl
plain_undashed (b ∷ t) e = plain_step (b == 45) (is_empty t) t e

dash_step : (x y : Bool) (t text : Text) → cond (x && not y) (Some t) None ≡ Some text → (x ≡ true) × (y ≡ false) × (t ≡ text)
dash_step true true t text e = absurd (none-some text e)
dash_step true false t text e = (refl, refl, same_Some t text e)
dash_step false y t text e = absurd (none-some text e)

dashed : (word text : Text) → behind_dash word ≡ Some text → word ≡ 45 ∷ text
dashed [] text e = absurd (none-some text e)
dashed (b ∷ t) text e =
    let parts = dash_step (b == 45) (is_empty t) t text e in
    ap (λ z. z ∷ t) (eqb-true b 45 parts.0) ∙ ap (λ (w : Text). 45 ∷ w) parts.2

not_alone : (word : Text) → behind_dash word ≡ Some [] → ⊥
not_alone [] e = none-some [] e
not_alone (b ∷ t) e =
    let parts = dash_step (b == 45) (is_empty t) t [] e in
    true≢false (subst (λ (w : Text). is_empty w ≡ false) parts.2 parts.1)

dashed_step : (word : Text) (b : ℕ) (t : Text) → word ≡ 45 ∷ b ∷ t → (x : Bool) → (b == 45) ≡ x → WordMeans word (cond x (long_in word) (letters_in (b ∷ t)))
dashed_step word b t e true d = long_step word (bytes_eq word (codes "--")) refl
dashed_step word b t e false d = subst (λ z. WordMeans z (letters_in (b ∷ t))) (sym e) (behind_a_dash (b ∷ t) (letters_in (b ∷ t)) (letters_sound b t))

option_sound : (word : Text) (q : Option Text) → behind_dash word ≡ q → WordMeans word (option_in q word)
option_sound word None e = ATarget word (plain_undashed word e)
option_sound word (Some []) e = absurd (not_alone word e)
option_sound word (Some (b ∷ t)) e = dashed_step word b t (dashed word (b ∷ t) e) (b == 45) refl

pub word_sound : (word : Text) → WordMeans word (word_in word)
word_sound word = option_sound word (behind_dash word) refl

-- ## What is spelled is read

undashed_step : (x y : Bool) (t : Text) → (not x || y) ≡ true → cond (x && not y) (Some t) None ≡ None
undashed_step true true t e = refl
undashed_step true false t e = absurd (false≢true e)
undashed_step false y t e = refl

pub undashed : (word : Text) → is_plain word ≡ true → behind_dash word ≡ None
undashed [] e = refl
undashed (b ∷ t) e = undashed_step (b == 45) (is_empty t) t e

-- whether a word is plain, by what stands behind its dash
pub plain_by_dash : (word : Text) (q : Option Text) → q ≡ behind_dash word → is_plain word ≡ is_none q
plain_by_dash word None e = plain_undashed word (sym e)
plain_by_dash word (Some t) e = by (is_plain word) refl
  where
    by : (x : Bool) → is_plain word ≡ x → x ≡ false
    by true h = absurd (none-some t (sym (undashed word h) ∙ sym e))
    by false h = refl

at_once : (o : Setting) (v : Text) → v ≢ [] → begins_with 61 v ≡ false → joined o v ≡ (part.Given o v ∷ [], Some Word)
at_once o [] n e = absurd (n refl)
at_once o (c ∷ v) n e = joined_cons o c v ∙ ap (given o) (cond-false (c == 61) v (c ∷ v) e) ∙ given_whole o (c ∷ v) n

letters_whole : (text : Text) (parts : List Part) → SpellsLetters text parts → letters_in text ≡ (parts, Some Word)
letters_whole _ _ (LastFlag f b l) = at_flag f b [] l
letters_whole _ _ (NextFlag f b text parts l h) = at_flag f b text l ∙ ap (after (part.Flagged f ∷ [])) (letters_whole text parts h)
letters_whole _ _ (ValueAtOnce o b v l n e) = at_setting o b v l ∙ at_once o v n e
letters_whole _ _ (ValueBehindSign o b v l n) = at_setting o b (61 ∷ v) l ∙ joined_cons o 61 v ∙ given_whole o v n

letters_next : (text : Text) (parts : List Part) (o : Setting) → LettersTakeNext text parts o → letters_in text ≡ (parts, Some (Value o))
letters_next _ _ _ (LastSetting o b l) = at_setting o b [] l
letters_next _ _ _ (FlagBefore f b text parts o l h) = at_flag f b text l ∙ ap (after (part.Flagged f ∷ [])) (letters_next text parts o h)

-- a dash and letters are read as letters
dash_letters : (b : ℕ) (t : Text) → (b == 45) ≡ false → word_in (45 ∷ b ∷ t) ≡ letters_in (b ∷ t)
dash_letters b t e = cond-false (b == 45) (long_in (45 ∷ b ∷ t)) (letters_in (b ∷ t)) e

word_letters : (text : Text) (parts : List Part) → SpellsLetters text parts → word_in (45 ∷ text) ≡ letters_in text
word_letters _ _ (LastFlag f b l) = dash_letters b [] (flag_no_dash f b l)
word_letters _ _ (NextFlag f b text parts l h) = dash_letters b text (flag_no_dash f b l)
word_letters _ _ (ValueAtOnce o b v l n e) = dash_letters b v (setting_no_dash o b l)
word_letters _ _ (ValueBehindSign o b v l n) = dash_letters b (61 ∷ v) (setting_no_dash o b l)

next_letters : (text : Text) (parts : List Part) (o : Setting) → LettersTakeNext text parts o → word_in (45 ∷ text) ≡ letters_in text
next_letters _ _ _ (LastSetting o b l) = dash_letters b [] (setting_no_dash o b l)
next_letters _ _ _ (FlagBefore f b text parts o l h) = dash_letters b text (flag_no_dash f b l)

flag_whole : (f : Flag) → word_in (flag_word f) ≡ (part.Flagged f ∷ [], Some Word)
flag_whole DryRun = refl
flag_whole KeepGoing = refl
flag_whole RerunIncomplete = refl
flag_whole Force = refl
flag_whole ForceAll = refl
flag_whole Unlock = refl
flag_whole NoLock = refl

sign_whole : (o : Setting) (v : Text) → v ≢ [] → word_in (setting_word o ++ 61 ∷ v) ≡ (part.Given o v ∷ [], Some Word)
sign_whole Cores v n = given_whole Cores v n
sign_whole Snakefile v n = given_whole Snakefile v n
sign_whole Config v n = given_whole Config v n
sign_whole Resources v n = given_whole Resources v n
sign_whole CleanupMetadata v n = given_whole CleanupMetadata v n
sign_whole Generate v n = given_whole Generate v n

setting_whole : (o : Setting) → word_in (setting_word o) ≡ ([], Some (Value o))
setting_whole Cores = refl
setting_whole Snakefile = refl
setting_whole Config = refl
setting_whole Resources = refl
setting_whole CleanupMetadata = refl
setting_whole Generate = refl

pub word_whole : (word : Text) (parts : List Part) → SpellsWord word parts → word_in word ≡ (parts, Some Word)
word_whole _ _ (ATarget word plain) = ap (λ (q : Option Text). option_in q word) (undashed word plain)
word_whole _ _ (AFlag f) = flag_whole f
word_whole _ _ (WithSign o v n) = sign_whole o v n
word_whole _ _ (Letters text parts h) = word_letters text parts h ∙ letters_whole text parts h

pub word_next : (word : Text) (parts : List Part) (o : Setting) → TakesNext word parts o → word_in word ≡ (parts, Some (Value o))
word_next _ _ _ (ASetting o) = setting_whole o
word_next _ _ _ (LastOfLetters text parts o h) = next_letters text parts o h ∙ letters_next text parts o h
