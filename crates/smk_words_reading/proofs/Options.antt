-- Options by their words and letters.
use Rattle.std.proofs.Common.{◌≡◌, ℕ, Bool, true, false, cond, List, [], ◌∷◌, Option, Some, None, refl, sym, ◌∙◌, ap, subst, find, bytes_eq, nat_lt, ◌==◌}
use Rattle.std.proofs.lemmas.Bool.{eqb-true, false≢true}
use Rattle.std.proofs.lemmas.Option.{none-some, same_Some}
use Rattle.std.proofs.lemmas.Slice.Eq.{bytes_eq-Decides}
use Rattle.smk_words_reading.specs.declared.parts.Flag.{Flag}
use Rattle.smk_words_reading.specs.declared.parts.Flag.TheVariants.{DryRun, KeepGoing, RerunIncomplete, Force, ForceAll, Unlock, NoLock}
use Rattle.smk_words_reading.specs.declared.parts.Setting.{Setting}
use Rattle.smk_words_reading.specs.declared.parts.Setting.TheVariants.{Cores, Snakefile, Config, Resources, CleanupMetadata, Generate}
use Rattle.smk_words_reading.specs.Words.{Text, flag_word, setting_word, flag_letter, setting_letter}
use Rattle.smk_words_reading.specs.Reading.{flags, settings, flag_named, setting_named, flag_at, setting_at}

-- ## By word

found_step : {X : Type 0} (p : X → Bool) (y x : X) (rest : Option X) (b : Bool) →
    p y ≡ b → (rest ≡ Some x → p x ≡ true) → cond b (Some y) rest ≡ Some x → p x ≡ true
found_step p y x rest true e more f = subst (λ z. p z ≡ true) (same_Some y x f) e
found_step p y x rest false e more f = more f

-- what is found passes
found_passes : {X : Type 0} (p : X → Bool) (xs : List X) (x : X) → find p xs ≡ Some x → p x ≡ true
found_passes p [] x e = absurd (none-some x e)
found_passes p (y ∷ ys) x e = found_step p y x (find p ys) (p y) refl (found_passes p ys x) e

pub flag_named_is : (word : Text) (f : Flag) → flag_named word ≡ Some f → flag_word f ≡ word
flag_named_is word f e = (bytes_eq-Decides (flag_word f) word).0 (found_passes (λ g. bytes_eq (flag_word g) word) flags f e)

pub setting_named_is : (word : Text) (o : Setting) → setting_named word ≡ Some o → setting_word o ≡ word
setting_named_is word o e = (bytes_eq-Decides (setting_word o) word).0 (found_passes (λ p. bytes_eq (setting_word p) word) settings o e)

-- ## By letter

letter_step : {X : Type 0} (letter_of : X → Option ℕ) (b c : ℕ) (x y : X) (rest : Option X) →
    letter_of x ≡ Some c → (t : Bool) → (b == c) ≡ t → (rest ≡ Some y → letter_of y ≡ Some b) → cond t (Some x) rest ≡ Some y → letter_of y ≡ Some b
letter_step letter_of b c x y rest l true e more f =
    subst (λ z. letter_of z ≡ Some b) (same_Some x y f) (l ∙ ap (λ (n : ℕ). Some n) (sym (eqb-true b c e)))
letter_step letter_of b c x y rest l false e more f = more f

pub flag_at_is : (b : ℕ) (f : Flag) → flag_at b ≡ Some f → flag_letter f ≡ Some b
flag_at_is b f e =
    letter_step flag_letter b 110 DryRun f _ refl (b == 110) refl
    (letter_step flag_letter b 107 KeepGoing f _ refl (b == 107) refl
    (letter_step flag_letter b 102 Force f _ refl (b == 102) refl
    (letter_step flag_letter b 70 ForceAll f None refl (b == 70) refl (λ n. absurd (none-some f n))))) e

pub setting_at_is : (b : ℕ) (o : Setting) → setting_at b ≡ Some o → setting_letter o ≡ Some b
setting_at_is b o e =
    letter_step setting_letter b 99 Cores o _ refl (b == 99) refl
    (letter_step setting_letter b 115 Snakefile o _ refl (b == 115) refl
    (letter_step setting_letter b 67 Config o None refl (b == 67) refl (λ n. absurd (none-some o n)))) e

pub flag_at_letter : (f : Flag) (b : ℕ) → flag_letter f ≡ Some b → flag_at b ≡ Some f
flag_at_letter DryRun b e = subst (λ n. flag_at n ≡ Some DryRun) (same_Some 110 b e) refl
flag_at_letter KeepGoing b e = subst (λ n. flag_at n ≡ Some KeepGoing) (same_Some 107 b e) refl
flag_at_letter RerunIncomplete b e = absurd (none-some b e)
flag_at_letter Force b e = subst (λ n. flag_at n ≡ Some Force) (same_Some 102 b e) refl
flag_at_letter ForceAll b e = subst (λ n. flag_at n ≡ Some ForceAll) (same_Some 70 b e) refl
flag_at_letter Unlock b e = absurd (none-some b e)
flag_at_letter NoLock b e = absurd (none-some b e)

pub setting_at_letter : (o : Setting) (b : ℕ) → setting_letter o ≡ Some b → setting_at b ≡ Some o
setting_at_letter Cores b e = subst (λ n. setting_at n ≡ Some Cores) (same_Some 99 b e) refl
setting_at_letter Snakefile b e = subst (λ n. setting_at n ≡ Some Snakefile) (same_Some 115 b e) refl
setting_at_letter Config b e = subst (λ n. setting_at n ≡ Some Config) (same_Some 67 b e) refl
setting_at_letter Resources b e = absurd (none-some b e)
setting_at_letter CleanupMetadata b e = absurd (none-some b e)
setting_at_letter Generate b e = absurd (none-some b e)

-- no flag has the letter of an option with a value
pub no_flag_at : (o : Setting) (b : ℕ) → setting_letter o ≡ Some b → flag_at b ≡ None
no_flag_at Cores b e = subst (λ n. flag_at n ≡ None) (same_Some 99 b e) refl
no_flag_at Snakefile b e = subst (λ n. flag_at n ≡ None) (same_Some 115 b e) refl
no_flag_at Config b e = subst (λ n. flag_at n ≡ None) (same_Some 67 b e) refl
no_flag_at Resources b e = absurd (none-some b e)
no_flag_at CleanupMetadata b e = absurd (none-some b e)
no_flag_at Generate b e = absurd (none-some b e)

-- letters are no dashes
pub flag_no_dash : (f : Flag) (b : ℕ) → flag_letter f ≡ Some b → (b == 45) ≡ false
flag_no_dash DryRun b e = subst (λ n. (n == 45) ≡ false) (same_Some 110 b e) refl
flag_no_dash KeepGoing b e = subst (λ n. (n == 45) ≡ false) (same_Some 107 b e) refl
flag_no_dash RerunIncomplete b e = absurd (none-some b e)
flag_no_dash Force b e = subst (λ n. (n == 45) ≡ false) (same_Some 102 b e) refl
flag_no_dash ForceAll b e = subst (λ n. (n == 45) ≡ false) (same_Some 70 b e) refl
flag_no_dash Unlock b e = absurd (none-some b e)
flag_no_dash NoLock b e = absurd (none-some b e)

pub setting_no_dash : (o : Setting) (b : ℕ) → setting_letter o ≡ Some b → (b == 45) ≡ false
setting_no_dash Cores b e = subst (λ n. (n == 45) ≡ false) (same_Some 99 b e) refl
setting_no_dash Snakefile b e = subst (λ n. (n == 45) ≡ false) (same_Some 115 b e) refl
setting_no_dash Config b e = subst (λ n. (n == 45) ≡ false) (same_Some 67 b e) refl
setting_no_dash Resources b e = absurd (none-some b e)
setting_no_dash CleanupMetadata b e = absurd (none-some b e)
setting_no_dash Generate b e = absurd (none-some b e)

-- letters are of ASCII
flag_small : (f : Flag) (b : ℕ) → flag_letter f ≡ Some b → nat_lt b 128 ≡ true
flag_small DryRun b e = subst (λ n. nat_lt n 128 ≡ true) (same_Some 110 b e) refl
flag_small KeepGoing b e = subst (λ n. nat_lt n 128 ≡ true) (same_Some 107 b e) refl
flag_small RerunIncomplete b e = absurd (none-some b e)
flag_small Force b e = subst (λ n. nat_lt n 128 ≡ true) (same_Some 102 b e) refl
flag_small ForceAll b e = subst (λ n. nat_lt n 128 ≡ true) (same_Some 70 b e) refl
flag_small Unlock b e = absurd (none-some b e)
flag_small NoLock b e = absurd (none-some b e)

setting_small : (o : Setting) (b : ℕ) → setting_letter o ≡ Some b → nat_lt b 128 ≡ true
setting_small Cores b e = subst (λ n. nat_lt n 128 ≡ true) (same_Some 99 b e) refl
setting_small Snakefile b e = subst (λ n. nat_lt n 128 ≡ true) (same_Some 115 b e) refl
setting_small Config b e = subst (λ n. nat_lt n 128 ≡ true) (same_Some 67 b e) refl
setting_small Resources b e = absurd (none-some b e)
setting_small CleanupMetadata b e = absurd (none-some b e)
setting_small Generate b e = absurd (none-some b e)

flag_at_large : (b : ℕ) → nat_lt b 128 ≡ false → (q : Option Flag) → flag_at b ≡ q → q ≡ None
flag_at_large b h None e = refl
flag_at_large b h (Some f) e = absurd (false≢true (sym h ∙ flag_small f b (flag_at_is b f e)))

setting_at_large : (b : ℕ) → nat_lt b 128 ≡ false → (q : Option Setting) → setting_at b ≡ q → q ≡ None
setting_at_large b h None e = refl
setting_at_large b h (Some o) e = absurd (false≢true (sym h ∙ setting_small o b (setting_at_is b o e)))

pub no_flag_beyond : (b : ℕ) → nat_lt b 128 ≡ false → flag_at b ≡ None
no_flag_beyond b h = flag_at_large b h (flag_at b) refl

pub no_setting_beyond : (b : ℕ) → nat_lt b 128 ≡ false → setting_at b ≡ None
no_setting_beyond b h = setting_at_large b h (setting_at b) refl
