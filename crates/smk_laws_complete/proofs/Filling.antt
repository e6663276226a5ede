-- Places of logs fill with the texts of the items that stood there.
use Rattle.std.proofs.Common.{◌≡◌, ℕ, zero, suc, ◌+◌, ◌-◌, ◌≤◌, ◌<◌, ◌^◌, ◌%◌, Bool, true, false, cond, List, [], ◌∷◌, ◌++◌, map, take, drop, length, get_or, Option, Some, None, option_map, refl, ap, sym, ◌∙◌, append_assoc, append-nil, arith, codes, true≢false}
use Rattle.std.specs.Prelude.{decimal, nat_lt, slice_get, bytes_eq, not, ◌||◌, is_some}
use Rattle.std.specs.List.{find, flat_map, list_all}
use Rattle.std.specs.Str.Parse.{digits_value}
use Rattle.std.proofs.lemmas.Bool.{and_from, ltb-true, ltb-false, lt-ltb}
use Rattle.std.proofs.lemmas.Bool.Decides.{nat_tests}
use Rattle.std.proofs.lemmas.Fmt.{decimal_by_steps, decimal_digit, decimal_is_IsNumeral, decimal_nonempty, first_decimal}
use Rattle.std.proofs.lemmas.Grind.{flat_map-append}
use Rattle.std.proofs.lemmas.List.{drop_more}
use Rattle.smk_flow.specs.declared.job.Job.{Job}
use Rattle.smk_template.specs.Templates.{Text, Symbol, Plain, Field, Loose, is_brace, braced, spelled, symbols, template_of, written}
use Rattle.smk_laws_complete.proofs.Again.{HasNoBrace, AreSpelled, AreFit, no_brace_more, no_brace_both, symbols_again, symbols_fit}
use Rattle.smk_format.specs.Fields.{Pick, Place, Strange, all_values, digits_len, is_digit, is_numeral, log_values, place_in, place_of, picked, single, values_by, values_of}
use Rattle.smk_format.specs.Commands.{filled, first_missing, has_value, shown, spaced, symbol_text}
use Rattle.smk_eval_rules.specs.declared.logs.LogItem.{LogItem}
use Rattle.smk_eval_rules.specs.Logs.{is_closed, item_of, later_places, place_field, placed_symbols, places, places_or}
use Rattle.smk_laws_complete.specs.NamedLogs.{named_or, named_text, is_known, first_unknown, IsWithin, PlacesFillByName, PlacesAreKnown}

-- ## Digits

abbrev AllDigits : Text → Type 0
AllDigits [] = Unit {0}
AllDigits (d ∷ ds) = (is_digit d ≡ true) × AllDigits ds

digits_and : (ds : Text) (d : ℕ) → AllDigits ds → is_digit d ≡ true → AllDigits (ds ++ d ∷ [])
digits_and [] d all e = (e, tt)
digits_and (x ∷ ds) d (one, all) e = (one, digits_and ds d all e)

is_digit_small : (n : ℕ) → n < 10 → is_digit (48 + n) ≡ true
is_digit_small n lt = grind (arith, nat_tests)

digits_of_decimal : (k : ℕ) → k < 2 ^ 64 → AllDigits (decimal k)
digits_of_decimal = decimal_by_steps (λ m ds. AllDigits ds) (λ m l. (is_digit_small m l, tt)) (λ m ds l h. digits_and ds (48 + m % 10) h (is_digit_small (m % 10) (omega arith)))

no_brace_digit : (d : ℕ) → is_digit d ≡ true → is_brace d ≡ false
no_brace_digit d e = grind (arith, nat_tests)

no_brace_digits : (ds : Text) → AllDigits ds → HasNoBrace ds
no_brace_digits [] all = refl
no_brace_digits (d ∷ ds) (one, all) = no_brace_more d ds (no_brace_digit d one) (no_brace_digits ds all)

digits_before : (ds : Text) → AllDigits ds → digits_len (ds ++ 93 ∷ []) ≡ length ds
digits_before [] all = refl
digits_before (d ∷ ds) (one, all) = ap (λ (v : Bool). cond v (suc (digits_len (ds ++ 93 ∷ []))) 0) one ∙ ap suc (digits_before ds all)

front : (ds more : Text) → take (length ds) (ds ++ more) ≡ ds
front [] more = refl
front (d ∷ ds) more = ap (λ (t : Text). d ∷ t) (front ds more)

behind : (ds more : Text) → drop (length ds) (ds ++ more) ≡ more
behind [] more = refl
behind (d ∷ ds) more = behind ds more

numeral_by : (ds : Text) → 0 < length ds → (1 < length ds → 48 < get_or ds 0 0) → is_numeral ds ≡ true
numeral_by [] some h = absurd (omega (arith, some))
numeral_by (d ∷ []) some h = refl
numeral_by (d ∷ (c ∷ ds)) some h = let big = h (omega arith) in grind (arith, nat_tests)

numeral_decimal : (k : ℕ) → k < 2 ^ 64 → is_numeral (decimal k) ≡ true
numeral_decimal zero lt = ap is_numeral (decimal_digit 0 (omega arith))
numeral_decimal (suc k) lt = numeral_by (decimal (suc k)) (decimal_nonempty (suc k) lt) (λ l. first_decimal (suc k) (omega arith) lt)

place_of_decimal : (k : ℕ) → k < 2 ^ 64 → place_of (decimal k) ≡ Place k
unfolding place_of
place_of_decimal k lt =
    let value = (decimal_is_IsNumeral k lt).1 in
    let small : nat_lt (digits_value 10 (decimal k)) (2 ^ 64) ≡ true = ap (λ (m : ℕ). nat_lt m (2 ^ 64)) value ∙ lt-ltb k (2 ^ 64) lt in
    ap (λ (v : Bool). cond v (Place (digits_value 10 (decimal k))) Strange) (and_from (is_numeral (decimal k)) (nat_lt (digits_value 10 (decimal k)) (2 ^ 64)) (numeral_decimal k lt) small)
    ∙ ap Place value

-- ## The field of a place

abbrev place_name : ℕ → Text
place_name k = codes "log[" ++ (decimal k ++ codes "]")

place_in_decimal : (k : ℕ) → k < 2 ^ 64 → place_in (decimal k ++ 93 ∷ []) ≡ Place k
unfolding place_in
place_in_decimal k lt =
    let ds = decimal k in
    let t = ds ++ 93 ∷ [] in
    ap (λ (m : ℕ). cond (bytes_eq (drop m t) (codes "]")) (place_of (take m t)) Strange) (digits_before ds (digits_of_decimal k lt))
    ∙ ap (λ (x : Text). cond (bytes_eq x (codes "]")) (place_of (take (length ds) t)) Strange) (behind ds (93 ∷ []))
    ∙ ap place_of (front ds (93 ∷ []))
    ∙ place_of_decimal k lt

logs_valued : (logs : List Text) → all_values (map log_values logs) ≡ logs
logs_valued [] = refl
logs_valued (t ∷ logs) = ap (λ (ts : List Text). t ∷ ts) (logs_valued logs)

log_at : (job : Job) (pick : Pick) → values_by job (codes "log") pick ≡ picked (map log_values job.logs) pick
unfolding values_by
log_at job pick = refl

there : (xs : List Text) (k : ℕ) → k < length xs → slice_get xs k ≡ Some (get_or xs k [])
there [] k lt = absurd (omega (arith, lt))
there (x ∷ xs) zero lt = refl
there (x ∷ xs) (suc k) lt = there xs k (omega (arith, lt))

values_at : (job : Job) (k : ℕ) → k < length job.logs → length job.logs < 2 ^ 64 → values_of job (place_name k) ≡ Some (get_or job.logs k [] ∷ [])
values_at job k lt small =
    log_at job (place_in (decimal k ++ 93 ∷ []))
    ∙ ap (λ (p : Pick). picked (map log_values job.logs) p) (place_in_decimal k (omega (arith, lt, small)))
    ∙ ap (λ (ts : List Text). option_map single (slice_get ts k)) (logs_valued job.logs)
    ∙ ap (option_map single) (there job.logs k lt)

place_filled : (job : Job) (n k : ℕ) → k < length job.logs → length job.logs < 2 ^ 64 → symbol_text job n (Field (place_name k)) ≡ get_or job.logs k []
place_filled job n k lt small = ap shown (values_at job k lt small) ∙ append-nil (get_or job.logs k [])

-- ## Places in a row

abbrev later_symbols : ℕ → ℕ → List Symbol
later_symbols k zero = []
later_symbols k (suc m) = Plain 32 ∷ (Field (place_name k) ∷ later_symbols (k + 1) m)

abbrev place_symbols : ℕ → ℕ → List Symbol
place_symbols start end = cond (nat_lt start end) (Field (place_name start) ∷ later_symbols (start + 1) (end - (start + 1))) []

place_spelled : (k : ℕ) → place_field k ≡ braced (place_name k)
place_spelled k = ap (λ (t : Text). codes "{log[" ++ t) (sym (append_assoc (decimal k) (93 ∷ []) (125 ∷ [])))

later_spelled : (m k : ℕ) → later_places k m ≡ template_of (later_symbols k m)
later_spelled zero k = refl
later_spelled (suc m) k =
    ap (λ (t : Text). 32 ∷ (t ++ later_places (k + 1) m)) (place_spelled k)
    ∙ ap (λ (t : Text). 32 ∷ (braced (place_name k) ++ t)) (later_spelled m (k + 1))

places_by : (start end : ℕ) (v : Bool) → cond v (place_field start ++ later_places (start + 1) (end - (start + 1))) [] ≡ template_of (cond v (Field (place_name start) ∷ later_symbols (start + 1) (end - (start + 1))) [])
places_by start end true =
    ap (λ (t : Text). t ++ later_places (start + 1) (end - (start + 1))) (place_spelled start)
    ∙ ap (λ (t : Text). braced (place_name start) ++ t) (later_spelled (end - (start + 1)) (start + 1))
places_by start end false = refl

places_spelled : (start end : ℕ) → places start end ≡ template_of (place_symbols start end)
places_spelled start end = places_by start end (nat_lt start end)

name_no_brace : (k : ℕ) → k < 2 ^ 64 → HasNoBrace (place_name k)
name_no_brace k lt = no_brace_both (codes "log[") (decimal k ++ 93 ∷ []) refl (no_brace_both (decimal k) (93 ∷ []) (no_brace_digits (decimal k) (digits_of_decimal k lt)) refl)

later_are : (m k : ℕ) → k + m < 2 ^ 64 → AreSpelled (later_symbols k m)
later_are zero k lt = tt
later_are (suc m) k lt = (tt, (name_no_brace k (omega (arith, lt)), later_are m (k + 1) (omega (arith, lt))))

places_are_by : (start end : ℕ) (v : Bool) → nat_lt start end ≡ v → end < 2 ^ 64 → AreSpelled (cond v (Field (place_name start) ∷ later_symbols (start + 1) (end - (start + 1))) [])
places_are_by start end true e lt = let more = ltb-true start end e in (name_no_brace start (omega (arith, lt, more)), later_are (end - (start + 1)) (start + 1) (omega (arith, lt, more)))
places_are_by start end false e lt = tt

later_filled : (job : Job) (n m k : ℕ) → k + m ≤ length job.logs → length job.logs < 2 ^ 64 → filled job n (later_symbols k m) ≡ flat_map (λ (y : Text). codes " " ++ y) (take m (drop k job.logs))
later_filled job n zero k le small = refl
later_filled job n (suc m) k le small =
    ap (λ (t : Text). 32 ∷ (t ++ filled job n (later_symbols (k + 1) m))) (place_filled job n k (omega (arith, le)) small)
    ∙ ap (λ (t : Text). 32 ∷ (get_or job.logs k [] ++ t)) (later_filled job n m (k + 1) (omega (arith, le)) small)
    ∙ ap (λ (ts : List Text). flat_map (λ (y : Text). codes " " ++ y) (take (suc m) ts)) (sym (drop_more job.logs k [] (omega (arith, le))))

places_filled_by : (job : Job) (n start end : ℕ) (v : Bool) → nat_lt start end ≡ v → start ≤ end → end ≤ length job.logs → length job.logs < 2 ^ 64
    → filled job n (cond v (Field (place_name start) ∷ later_symbols (start + 1) (end - (start + 1))) []) ≡ spaced (take (end - start) (drop start job.logs))
places_filled_by job n start end true e le within small =
    let more = ltb-true start end e in
    let one : suc (end - (start + 1)) ≡ end - start = omega (arith, more) in
    ap (λ (t : Text). t ++ filled job n (later_symbols (start + 1) (end - (start + 1)))) (place_filled job n start (omega (arith, more, within)) small)
    ∙ ap (λ (t : Text). get_or job.logs start [] ++ t) (later_filled job n (end - (start + 1)) (start + 1) (omega (arith, more, within)) small)
    ∙ ap (λ (ts : List Text). spaced (take (suc (end - (start + 1))) ts)) (sym (drop_more job.logs start [] (omega (arith, more, within))))
    ∙ ap (λ (m : ℕ). spaced (take m (drop start job.logs))) one
places_filled_by job n start end false e le within small =
    let less = ltb-false start end e in
    let none : 0 ≡ end - start = omega (arith, less) in
    ap (λ (m : ℕ). spaced (take m (drop start job.logs))) none

-- ## Fields that are known

abbrev AllKnown : Job → List Symbol → Type 0
AllKnown job [] = Unit {0}
AllKnown job (s ∷ ss) = (has_value job s ≡ true) × AllKnown job ss

known_skipped : (job : Job) (xs ys : List Symbol) → AllKnown job xs → first_missing job (xs ++ ys) ≡ first_missing job ys
known_skipped job [] ys all = refl
known_skipped job (x ∷ xs) ys (one, all) =
    ap (λ (v : Bool). option_map written (cond (not v) (Some x) (find (λ s. not (has_value job s)) (xs ++ ys)))) one
    ∙ known_skipped job xs ys all

later_known : (job : Job) (m k : ℕ) → k + m ≤ length job.logs → length job.logs < 2 ^ 64 → AllKnown job (later_symbols k m)
later_known job zero k le small = tt
later_known job (suc m) k le small = (refl, (ap is_some (values_at job k (omega (arith, le)) small), later_known job m (k + 1) (omega (arith, le)) small))

places_known : (job : Job) (start end : ℕ) (v : Bool) → nat_lt start end ≡ v → end ≤ length job.logs → length job.logs < 2 ^ 64
    → AllKnown job (cond v (Field (place_name start) ∷ later_symbols (start + 1) (end - (start + 1))) [])
places_known job start end true e le small =
    let more = ltb-true start end e in
    (ap is_some (values_at job start (omega (arith, more, le)) small), later_known job (end - (start + 1)) (start + 1) (omega (arith, more, le)) small)
places_known job start end false e le small = tt

-- ## Symbols in a row

abbrev list_or : Text → Option LogItem → List Symbol
list_or field (Some i) = place_symbols i.start i.end
list_or field None = Field field ∷ []

abbrev placed_list : List LogItem → Symbol → List Symbol
placed_list items (Plain b) = Plain b ∷ []
placed_list items (Field field) = list_or field (item_of items field)
placed_list items (Loose text) = Loose text ∷ []

abbrev placed_lists : List LogItem → List Symbol → List Symbol
placed_lists items = flat_map (placed_list items)

or_spelled : (field : Text) (o : Option LogItem) → places_or field o ≡ template_of (list_or field o)
or_spelled field (Some i) = places_spelled i.start i.end
or_spelled field None = sym (append-nil (braced field))

placed_spelled : (items : List LogItem) (ss : List Symbol) → list_all is_closed ss ≡ true → placed_symbols items ss ≡ template_of (placed_lists items ss)
placed_spelled items [] e = refl
placed_spelled items (Plain b ∷ ss) e = ap (λ (t : Text). spelled (Plain b) ++ t) (placed_spelled items ss e)
placed_spelled items (Field field ∷ ss) e =
    ap (λ (t : Text). t ++ placed_symbols items ss) (or_spelled field (item_of items field))
    ∙ ap (λ (t : Text). template_of (list_or field (item_of items field)) ++ t) (placed_spelled items ss e)
    ∙ sym (flat_map-append spelled (list_or field (item_of items field)) (placed_lists items ss))
placed_spelled items (Loose text ∷ ss) e = absurd (true≢false (sym e))

spelled_both : (xs ys : List Symbol) → AreSpelled xs → AreSpelled ys → AreSpelled (xs ++ ys)
spelled_both [] ys all more = more
spelled_both (x ∷ xs) ys (one, all) more = (one, spelled_both xs ys all more)

module _ (items : List LogItem) (job : Job) (n : ℕ) (small : length job.logs < 2 ^ 64) (within : (i : LogItem) (field : Text) → item_of items field ≡ Some i → IsWithin (length job.logs) i) where
  or_are : (field : Text) (o : Option LogItem) → item_of items field ≡ o → HasNoBrace field → AreSpelled (list_or field o)
  or_are field (Some i) e h = let stands = within i field e in let high = stands.1 in places_are_by i.start i.end (nat_lt i.start i.end) refl (omega (arith, high, small))
  or_are field None e h = (h, tt)

  placed_are : (ss : List Symbol) → AreFit ss → list_all is_closed ss ≡ true → AreSpelled (placed_lists items ss)
  placed_are [] fit e = tt
  placed_are (Plain b ∷ ss) (one, fit) e = (tt, placed_are ss fit e)
  placed_are (Field field ∷ ss) (one, fit) e = spelled_both (list_or field (item_of items field)) (placed_lists items ss) (or_are field (item_of items field) refl one) (placed_are ss fit e)
  placed_are (Loose text ∷ ss) (one, fit) e = absurd (true≢false (sym e))

  or_filled : (field : Text) (o : Option LogItem) → item_of items field ≡ o → filled job n (list_or field o) ≡ named_or (symbol_text job n (Field field)) job.logs o
  or_filled field (Some i) e = let stands = within i field e in places_filled_by job n i.start i.end (nat_lt i.start i.end) refl stands.0 stands.1 small
  or_filled field None e = append-nil (symbol_text job n (Field field))

  list_filled : (s : Symbol) → filled job n (placed_list items s) ≡ named_text items job n s
  list_filled (Plain b) = refl
  list_filled (Field field) = or_filled field (item_of items field) refl
  list_filled (Loose text) = refl

  lists_filled : (ss : List Symbol) → filled job n (placed_lists items ss) ≡ flat_map (named_text items job n) ss
  lists_filled [] = refl
  lists_filled (s ∷ ss) =
      flat_map-append (symbol_text job n) (placed_list items s) (placed_lists items ss)
      ∙ ap (λ (t : Text). t ++ filled job n (placed_lists items ss)) (list_filled s)
      ∙ ap (λ (t : Text). named_text items job n s ++ t) (lists_filled ss)

  -- ## What is missing

  or_known : (field : Text) (o : Option LogItem) (rest more : List Symbol) → item_of items field ≡ o → first_missing job rest ≡ first_unknown items job more
      → first_missing job (list_or field o ++ rest) ≡ option_map written (cond (not (is_some o || has_value job (Field field))) (Some (Field field)) (find (λ s. not (is_known items job s)) more))
  or_known field (Some i) rest more e h =
      let stands = within i field e in
      known_skipped job (place_symbols i.start i.end) rest (places_known job i.start i.end (nat_lt i.start i.end) refl stands.1 small) ∙ h
  or_known field None rest more e h = go (has_value job (Field field))
    where
      go : (v : Bool) → option_map written (cond (not v) (Some (Field field)) (find (λ s. not (has_value job s)) rest)) ≡ option_map written (cond (not v) (Some (Field field)) (find (λ s. not (is_known items job s)) more))
      go true = h
      go false = refl

  lists_known : (ss : List Symbol) → list_all is_closed ss ≡ true → first_missing job (placed_lists items ss) ≡ first_unknown items job ss
  lists_known [] e = refl
  lists_known (Plain b ∷ ss) e = lists_known ss e
  lists_known (Field field ∷ ss) e = or_known field (item_of items field) (placed_lists items ss) ss refl (lists_known ss e)
  lists_known (Loose text ∷ ss) e = absurd (true≢false (sym e))

pub places_fill_by_name : PlacesFillByName
places_fill_by_name items job n command small within closed =
    let ss = symbols command in
    ap (λ (t : Text). filled job n (symbols t)) (placed_spelled items ss closed)
    ∙ ap (filled job n) (symbols_again (placed_lists items ss) (placed_are items job n small within ss (symbols_fit command) closed))
    ∙ lists_filled items job n small within ss

pub places_are_known : PlacesAreKnown
places_are_known items job command small within closed =
    let ss = symbols command in
    ap (λ (t : Text). first_missing job (symbols t)) (placed_spelled items ss closed)
    ∙ ap (first_missing job) (symbols_again (placed_lists items ss) (placed_are items job 0 small within ss (symbols_fit command) closed))
    ∙ lists_known items job 0 small within ss closed
