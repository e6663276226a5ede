-- Loops over words.
use Rattle.std.proofs.Common.{◌≡◌, ℕ, suc, ◌+◌, ◌<◌, ◌≤◌, Bool, true, false, List, [], ◌∷◌, ◌++◌, map, length, get_or, drop, drop-cons, drop_of_length-le, add-one, append-nil, Option, Some, None, option_map, refl, sym, ◌∙◌, ap, find, Bor}
use Rattle.std.proofs.lemmas.Bool.{cond-false, true≢false, false≢true}
use Rattle.smk_words_reading.specs.declared.parts.Flag.{Flag}
use Rattle.smk_words_reading.specs.declared.parts.Part.{Part}
use Rattle.smk_words_reading.specs.declared.spelling.Expected.{Expected}
use Rattle.smk_words_reading.specs.declared.spelling.Expected.TheVariants.{Word, Value, Target}
use Rattle.smk_words_reading.specs.Words.{Text}
use Rattle.smk_words_reading.specs.Ending.{may_end}
use Rattle.smk_words_reading.specs.Reading.{first_flag, before, step, ends, spelled}
use Rattle.smk_words_reading.specs.Asking.{all_of}
use Rattle.smk_words_reading.proofs.Loops.{one_word_more, word_unread, rest_of, next_read, next_unread}

-- ## Tables

-- the first that passes is further on
pub find_next : {X : Type 0} (p : X → Bool) (xs : List X) (i : ℕ) (d : X) (whole : Option X) →
    whole ≡ find p (drop i xs) → i < length xs → p (get_or xs i d) ≡ false → whole ≡ find p (drop (i + 1) xs)
find_next {X} p xs i d whole h l f =
    h ∙ ap (find p) (drop-cons xs i d l) ∙ cond-false (p (get_or xs i d)) (Some (get_or xs i d)) (find p (drop (suc i) xs)) f
    ∙ ap (λ (n : ℕ). find p (drop n xs)) (sym (add-one i))

-- ## Values that are read

abbrev pub words_now : List (Bor Text) → List Text
words_now ws = map (λ (w : Bor Text). w.now) ws

abbrev pub no_word : Bor Text
no_word = record { ref_ptr = (0, 0); now = [] }

rest_now : (ws : List (Bor Text)) (i : ℕ) → i < length ws → words_now (drop i ws) ≡ (get_or ws i no_word).now ∷ words_now (drop (i + 1) ws)
rest_now ws i l = ap words_now (drop-cons ws i no_word l) ∙ ap (λ (n : ℕ). (get_or ws i no_word).now ∷ words_now (drop n ws)) (sym (add-one i))

-- nothing is read yet
pub none_read : {A : Type 0} (done : List A) → done ≡ [] → (q : Option (List A)) → q ≡ option_map (λ (later : List A). done ++ later) q
none_read {A} done e None = refl
none_read {A} done e (Some later) = ap (λ (d : List A). Some (d ++ later)) (sym e)

pub one_read : {A : Type 0} (read : Text → Option A) (ws : List (Bor Text)) (i : ℕ) (done new : List A) (x : A) →
    all_of read (words_now ws) ≡ option_map (λ (later : List A). done ++ later) (all_of read (words_now (drop i ws))) →
    i < length ws → Some x ≡ read (get_or ws i no_word).now → new ≡ done ++ x ∷ [] →
    all_of read (words_now ws) ≡ option_map (λ (later : List A). new ++ later) (all_of read (words_now (drop (i + 1) ws)))
one_read read ws i done new x h l r n =
    next_read read (all_of read (words_now ws)) done new (words_now (drop i ws)) (words_now (drop (i + 1) ws)) (get_or ws i no_word).now x h (rest_now ws i l) r n

pub one_unread : {A : Type 0} (read : Text → Option A) (ws : List (Bor Text)) (i : ℕ) (done : List A) →
    all_of read (words_now ws) ≡ option_map (λ (later : List A). done ++ later) (all_of read (words_now (drop i ws))) →
    i < length ws → None ≡ read (get_or ws i no_word).now → None ≡ all_of read (words_now ws)
one_unread read ws i done h l r =
    next_unread read (all_of read (words_now ws)) done (words_now (drop i ws)) (words_now (drop (i + 1) ws)) (get_or ws i no_word).now h (rest_now ws i l) r

pub all_read : {A : Type 0} (read : Text → Option A) (ws : List (Bor Text)) (i : ℕ) (done : List A) →
    all_of read (words_now ws) ≡ option_map (λ (later : List A). done ++ later) (all_of read (words_now (drop i ws))) →
    length ws ≤ i → Some done ≡ all_of read (words_now ws)
all_read {A} read ws i done h l =
    sym (h ∙ ap (λ (rest : List (Bor Text)). option_map (λ (later : List A). done ++ later) (all_of read (words_now rest))) (drop_of_length-le ws {i = i} l)
    ∙ ap (λ (d : List A). Some d) (append-nil done))

-- ## Letters

-- no flag was found
pub no_first : (rest : Text) (r : Option (Flag × Bor Text)) → option_map {U = Flag × Text} (λ (p : Flag × Bor Text). (p.0, p.1.now)) r ≡ first_flag rest →
    r ≡ None → first_flag rest ≡ None
no_first rest r h e = sym h ∙ ap (option_map {U = Flag × Text} (λ (p : Flag × Bor Text). (p.0, p.1.now))) e

-- ## All words

pub word_more : {X : Type 0} (text_of : X → Text) (ws : List X) (i : ℕ) (w : X) (t : Text) (expected next : Expected) (old new : List Part) (whole : Option (List Part)) →
    whole ≡ before old (spelled expected (map text_of (drop i ws))) → i < length ws → w ≡ get_or ws i w → t ≡ text_of w →
    new ≡ old ++ (step expected t).0 → Some next ≡ (step expected t).1 → whole ≡ before new (spelled next (map text_of (drop (i + 1) ws)))
word_more {X} text_of ws i w t expected next old new whole h l is same p n =
    h ∙ ap (λ (rest : List X). before old (spelled expected (map text_of rest))) (rest_of ws i w l is)
    ∙ ap (λ (u : Text). before old (spelled expected (u ∷ map text_of (drop (i + 1) ws)))) (sym same)
    ∙ one_word_more (step expected t) old new next (λ e. spelled e (map text_of (drop (i + 1) ws))) p n

pub word_less : {X : Type 0} (text_of : X → Text) (ws : List X) (i : ℕ) (w : X) (t : Text) (expected : Expected) (old : List Part) (whole : Option (List Part)) →
    whole ≡ before old (spelled expected (map text_of (drop i ws))) → i < length ws → w ≡ get_or ws i w → t ≡ text_of w →
    None ≡ (step expected t).1 → None ≡ whole
word_less {X} text_of ws i w t expected old whole h l is same n =
    word_unread (step expected t) old (λ e. spelled e (map text_of (drop (i + 1) ws))) n
    ∙ ap (λ (u : Text). before old (spelled expected (u ∷ map text_of (drop (i + 1) ws)))) same
    ∙ ap (λ (rest : List X). before old (spelled expected (map text_of rest))) (sym (rest_of ws i w l is))
    ∙ sym h

end_read : (e : Expected) → may_end e ≡ true → ends e ≡ Some []
end_read Word h = refl
end_read (Value o) h = absurd (false≢true h)
end_read Target h = refl

end_unread : (e : Expected) → may_end e ≡ false → ends e ≡ None
end_unread Word h = absurd (true≢false h)
end_unread (Value o) h = refl
end_unread Target h = absurd (true≢false h)

at_end : {X : Type 0} (text_of : X → Text) (ws : List X) (i : ℕ) (expected : Expected) (old : List Part) (whole : Option (List Part)) →
    whole ≡ before old (spelled expected (map text_of (drop i ws))) → length ws ≤ i → whole ≡ before old (ends expected)
at_end {X} text_of ws i expected old whole h l =
    h ∙ ap (λ (rest : List X). before old (spelled expected (map text_of rest))) (drop_of_length-le ws {i = i} l)

pub words_whole : {X : Type 0} (text_of : X → Text) (ws : List X) (i : ℕ) (expected : Expected) (old : List Part) (whole : Option (List Part)) →
    whole ≡ before old (spelled expected (map text_of (drop i ws))) → length ws ≤ i → may_end expected ≡ true → Some old ≡ whole
words_whole text_of ws i expected old whole h l e =
    sym (at_end text_of ws i expected old whole h l ∙ ap (before old) (end_read expected e) ∙ ap (λ (ps : List Part). Some ps) (append-nil old))

pub words_open : {X : Type 0} (text_of : X → Text) (ws : List X) (i : ℕ) (expected : Expected) (old : List Part) (whole : Option (List Part)) →
    whole ≡ before old (spelled expected (map text_of (drop i ws))) → length ws ≤ i → may_end expected ≡ false → None ≡ whole
words_open text_of ws i expected old whole h l e = sym (at_end text_of ws i expected old whole h l ∙ ap (before old) (end_unread expected e))
