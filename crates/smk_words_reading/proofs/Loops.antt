-- Loops and calls of the reader.
use Rattle.std.proofs.Common.{◌≡◌, ◌≢◌, Bor, length, ℕ, suc, ◌+◌, ◌<◌, get_or, drop, drop-cons, add-one, Bool, true, false, cond, not, ◌&&◌, List, [], ◌∷◌, ◌++◌, Option, Some, None, option_map, is_none, is_some, refl, sym, ◌∙◌, ap, append_assoc, ◌==◌, nat_lt}
use Rattle.std.proofs.lemmas.Bool.{eqb-true, true≢false, false≢true}
use Rattle.std.proofs.lemmas.Option.{none-some}
use Rattle.smk_words_reading.specs.declared.parts.Flag.{Flag}
use Rattle.smk_words_reading.specs.declared.parts.Setting.{Setting}
use Rattle.smk_words_reading.specs.declared.parts.Part.{Part}
use Rattle.smk_words_reading.specs.declared.parts.Part.TheVariants as part
use Rattle.smk_words_reading.specs.declared.spelling.Expected.{Expected}
use Rattle.smk_words_reading.specs.Words.{Text, is_empty, is_plain}
use Rattle.smk_words_reading.specs.Reading.{Step, after, before, last_in, letters_by, letters_in, first_flag, first_setting, flag_at, spelled_next, begins_with_ascii, behind_dash, unsigned}
use Rattle.smk_words_reading.specs.Asking.{cons_both, all_of}
use Rattle.smk_words_reading.proofs.Options.{no_flag_beyond, no_setting_beyond}
use Rattle.smk_words_reading.proofs.OneWord.{empty_length, plain_by_dash}

-- ## Lists that are read

pub one_more : {A : Type 0} (done : List A) (x : A) (q : Option (List A)) →
    option_map (λ (later : List A). done ++ later) (cons_both (Some x) q) ≡ option_map (λ (later : List A). (done ++ x ∷ []) ++ later) q
one_more done x None = refl
one_more {A} done x (Some ys) = ap (λ (l : List A). Some l) (sym (append_assoc done (x ∷ []) ys))

-- parts that are added one after another
pub before_both : (old added : List Part) (q : Option (List Part)) → before old (before added q) ≡ before (old ++ added) q
before_both old added None = refl
before_both old added (Some l) = ap (λ (m : List Part). Some m) (sym (append_assoc old added l))

-- one word more
pub one_word_more : (s : Step) (old new : List Part) (next : Expected) (later : Expected → Option (List Part)) →
    new ≡ old ++ s.0 → Some next ≡ s.1 → before old (before s.0 (spelled_next s.1 later)) ≡ before new (later next)
one_word_more s old new next later p n =
    before_both old s.0 (spelled_next s.1 later)
    ∙ ap (λ (ps : List Part). before ps (spelled_next s.1 later)) (sym p)
    ∙ ap (λ (q : Option Expected). before new (spelled_next q later)) (sym n)

-- a word that isn't read
pub word_unread : (s : Step) (old : List Part) (later : Expected → Option (List Part)) → None ≡ s.1 → None ≡ before old (before s.0 (spelled_next s.1 later))
word_unread s old later n = ap (λ (q : Option Expected). before old (before s.0 (spelled_next q later))) n

-- ## Letters

first_letter : (b : ℕ) (text : Text) (q : Option Flag) (f : Flag) (later : Text) → flag_at b ≡ q → option_map {U = Flag × Text} (λ (g : Flag). (g, text)) q ≡ Some (f, later) →
    letters_in (b ∷ text) ≡ after (part.Flagged f ∷ []) (letters_in later)
first_letter b text None f later e h = absurd (none-some (f, later) h)
first_letter b text (Some g) f later e h =
    ap (λ (q : Option Flag). letters_by q (last_in (b ∷ text)) (letters_in text)) e
    ∙ ap (λ (k : Flag × Text). after (part.Flagged k.0 ∷ []) (letters_in k.1)) (same (g, text) (f, later) h)
  where
    same : (a b : Flag × Text) → Some a ≡ Some b → a ≡ b
    same a b e = cc

-- the first letter's flag, and then the rest
pub flag_first : (text : Text) (f : Flag) (later : Text) → first_flag text ≡ Some (f, later) → letters_in text ≡ after (part.Flagged f ∷ []) (letters_in later)
flag_first [] f later e = absurd (none-some (f, later) e)
flag_first (b ∷ text) f later e = first_letter b text (flag_at b) f later refl e

no_letter : (b : ℕ) (text : Text) (q : Option Flag) → flag_at b ≡ q → option_map {U = Flag × Text} (λ (g : Flag). (g, text)) q ≡ None → letters_in (b ∷ text) ≡ last_in (b ∷ text)
no_letter b text None e h = ap (λ (q : Option Flag). letters_by q (last_in (b ∷ text)) (letters_in text)) e
no_letter b text (Some g) e h = absurd (none-some (g, text) (sym h))

-- no flag's letter first
pub no_flag_first : (text : Text) → first_flag text ≡ None → letters_in text ≡ last_in text
no_flag_first [] e = refl
no_flag_first (b ∷ text) e = no_letter b text (flag_at b) refl e

pub no_ascii_flag : (text : Text) → begins_with_ascii text ≡ false → first_flag text ≡ None
no_ascii_flag [] e = refl
no_ascii_flag (b ∷ text) e = ap (option_map (λ (g : Flag). (g, text))) (no_flag_beyond b e)

pub no_ascii_setting : (text : Text) → begins_with_ascii text ≡ false → first_setting text ≡ None
no_ascii_setting [] e = refl
no_ascii_setting (b ∷ text) e = ap (option_map (λ (o : Setting). (o, text))) (no_setting_beyond b e)

no_dash_step : (b : ℕ) (text : Text) (x : Bool) → (b == 45) ≡ x → nat_lt b 128 ≡ false → cond (x && not (is_empty text)) (Some text) None ≡ None
no_dash_step b text true e h = absurd (false≢true (sym h ∙ ap (λ n. nat_lt n 128) (eqb-true b 45 e)))
no_dash_step b text false e h = refl

pub no_ascii_dash : (text : Text) → begins_with_ascii text ≡ false → behind_dash text ≡ None
no_ascii_dash [] e = refl
no_ascii_dash (b ∷ text) e = no_dash_step b text (b == 45) refl e

-- ## Letters that are read one after another

-- what has been read and what is left are all
pub record AreAll (old now : List Part) (text rest : Text) : Type 0 where
  pub parts : old ++ (letters_in text).0 ≡ now ++ (letters_in rest).0
  pub next : (letters_in text).1 ≡ (letters_in rest).1

pub all_at_first : (old : List Part) (text : Text) → AreAll old old text text
all_at_first old text = record { parts = refl; next = refl }

pub all_after_one : (old now new : List Part) (text rest : Text) (f : Flag) (later : Text) → AreAll old now text rest → first_flag rest ≡ Some (f, later) →
    new ≡ now ++ part.Flagged f ∷ [] → AreAll old new text later
all_after_one old now new text rest f later h e n =
    let is = flag_first rest f later e in
    record {
      parts =
          h.parts ∙ ap (λ (s : Step). now ++ s.0) is ∙ sym (append_assoc now (part.Flagged f ∷ []) (letters_in later).0)
          ∙ ap (λ (ps : List Part). ps ++ (letters_in later).0) (sym n);
      next = h.next ∙ ap (λ (s : Step). s.1) is;
    }

pub all_at_last : (old now new : List Part) (text rest : Text) → AreAll old now text rest → first_flag rest ≡ None →
    new ≡ now ++ (last_in rest).0 → new ≡ old ++ (letters_in text).0
all_at_last old now new text rest h e n = n ∙ ap (λ (s : Step). now ++ s.0) (sym (no_flag_first rest e)) ∙ sym h.parts

pub next_at_last : (old now : List Part) (text rest : Text) (next : Option Expected) → AreAll old now text rest → first_flag rest ≡ None →
    next ≡ (last_in rest).1 → next ≡ (letters_in text).1
next_at_last old now text rest next h e n = n ∙ ap (λ (s : Step). s.1) (sym (no_flag_first rest e)) ∙ sym h.next

-- ## Small calls

pub unsigned_none : (text : Text) → ((rest : Text) → text ≢ 61 ∷ rest) → text ≡ unsigned text
unsigned_none [] h = refl
unsigned_none (b ∷ text) h = by (b == 61) refl
  where
    by : (x : Bool) → (b == 61) ≡ x → b ∷ text ≡ cond x text (b ∷ text)
    by true e = absurd (h text (ap (λ z. z ∷ text) (eqb-true b 61 e)))
    by false e = refl

none_of : (r : Option (Bor Text)) → is_none (option_map (λ (b : Bor Text). b.now) r) ≡ is_none r
none_of None = refl
none_of (Some b) = refl

none_bool : (r : Option (Bor Text)) (x : Bool) → is_some r ≡ not x → x ≡ is_none r
none_bool None true e = refl
none_bool None false e = absurd (false≢true e)
none_bool (Some b) true e = absurd (true≢false e)
none_bool (Some b) false e = refl

pub plain_found : (word : Text) (r : Option (Bor Text)) (x : Bool) → option_map (λ (b : Bor Text). b.now) r ≡ behind_dash word → is_some r ≡ not x → x ≡ is_plain word
plain_found word r x e n = none_bool r x n ∙ sym (none_of r) ∙ sym (plain_by_dash word (option_map (λ (b : Bor Text). b.now) r) e)

-- what stands behind the dash, by the first letter
pub dash_first : (word rest : Text) (b : ℕ) → word ≡ b ∷ rest → cond (b == 45 && not (length rest == 0)) (Some rest) None ≡ behind_dash word
dash_first word rest b e =
    ap (λ (x : Bool). cond (b == 45 && not x) (Some rest) None) (empty_length rest) ∙ ap behind_dash (sym e)

-- ## Elements of slices

-- what is left, first element and rest
pub rest_of : {X : Type 0} (xs : List X) (i : ℕ) (x : X) → i < length xs → x ≡ get_or xs i x → drop i xs ≡ x ∷ drop (i + 1) xs
rest_of {X} xs i x h is = drop-cons xs i x h ∙ ap (λ (z : X). z ∷ drop (suc i) xs) (sym is) ∙ ap (λ (n : ℕ). x ∷ drop n xs) (sym (add-one i))

-- one more of the words is read
pub next_read : {A : Type 0} (read : Text → Option A) (whole : Option (List A)) (done new : List A) (words rest : List Text) (word : Text) (x : A) →
    whole ≡ option_map (λ (later : List A). done ++ later) (all_of read words) → words ≡ word ∷ rest → Some x ≡ read word → new ≡ done ++ x ∷ [] →
    whole ≡ option_map (λ (later : List A). new ++ later) (all_of read rest)
next_read {A} read whole done new words rest word x h w r n =
    h ∙ ap (λ (ws : List Text). option_map (λ (later : List A). done ++ later) (all_of read ws)) w
    ∙ ap (λ (q : Option A). option_map (λ (later : List A). done ++ later) (cons_both q (all_of read rest))) (sym r)
    ∙ one_more done x (all_of read rest)
    ∙ ap (λ (d : List A). option_map (λ (later : List A). d ++ later) (all_of read rest)) (sym n)

-- one of the words isn't read
pub next_unread : {A : Type 0} (read : Text → Option A) (whole : Option (List A)) (done : List A) (words rest : List Text) (word : Text) →
    whole ≡ option_map (λ (later : List A). done ++ later) (all_of read words) → words ≡ word ∷ rest → None ≡ read word → None ≡ whole
next_unread {A} read whole done words rest word h w r =
    sym (h ∙ ap (λ (ws : List Text). option_map (λ (later : List A). done ++ later) (all_of read ws)) w
    ∙ ap (λ (q : Option A). option_map (λ (later : List A). done ++ later) (cons_both q (all_of read rest))) (sym r))
