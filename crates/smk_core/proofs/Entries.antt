-- One entry of the lines changes.
use Rattle.std.proofs.Common.{◌≡◌, ℕ, ◌<◌, ◌≢◌, ◌⊎◌, Bool, true, false, cond, List, Option, Some, None, length, set, refl, sym, ap, ◌∙◌, subst, inl, inr, arith}
use Rattle.std.specs.List.{slice_get}
use Rattle.std.specs.Option.{option_map}
use Rattle.std.proofs.lemmas.Bool.{cases_eq, lt-ltb, le-ltb}
use Rattle.std.proofs.lemmas.Option.{none-some, same_Some, slice_get-map, slice_get_within}
use Rattle.smk_pick.specs.declared.room.Ask.{Ask}
use Rattle.smk_core.specs.declared.place.Place.{Place}
use Rattle.smk_core.specs.declared.place.TheConstants.{NONE}
use Rattle.smk_core.specs.Lines.{entry, entry_in, is_number, IsThere, line_at, with_entry, IsInLine, present_in}
use Rattle.smk_core.specs.Standing.{list_of}
use Rattle.smk_core.proofs.Gets.{get_set_same, get_set_other, same_lists}

-- ## Places

place_by : (p q : Place) → p.line ≡ q.line → p.at ≡ q.at → p ≡ q
place_by p q e d = λ i. record { line = e i; at = d i }

pub place_cases : (p q : Place) → (p ≡ q) ⊎ (p ≢ q)
place_cases p q = go (cases_eq p.line q.line) (cases_eq p.at q.at)
  where
    go : (p.line ≡ q.line) ⊎ (p.line ≢ q.line) → (p.at ≡ q.at) ⊎ (p.at ≢ q.at) → (p ≡ q) ⊎ (p ≢ q)
    go (inl e) (inl d) = inl (place_by p q e d)
    go (inr n) d = inr (λ e. n (ap (λ (x : Place). x.line) e))
    go (inl e) (inr n) = inr (λ d. n (ap (λ (x : Place). x.at) d))

-- ## An entry that is there

-- the line of an entry, and the entry in it
pub record IsFound (lines : List (List ℕ)) (p : Place) : Type 0 where
  pub line : List ℕ
  pub number : ℕ
  pub line_is : slice_get lines p.line ≡ Some line
  pub number_is : slice_get line p.at ≡ Some number

found_by : (lines : List (List ℕ)) (p : Place) (o : Option (List ℕ)) (x : ℕ) → slice_get lines p.line ≡ o → entry_in o p.at ≡ Some x → IsFound lines p
found_by lines p None x e h = absurd (none-some x h)
found_by lines p (Some line) x e h = record { line = line; number = x; line_is = e; number_is = h }

pub found : (lines : List (List ℕ)) (p : Place) → IsThere lines p → IsFound lines p
found lines p h = found_by lines p (slice_get lines p.line) h.0 refl h.1

pub entry_of : (lines : List (List ℕ)) (p : Place) (line : List ℕ) → slice_get lines p.line ≡ Some line → entry lines p ≡ slice_get line p.at
entry_of lines p line e = ap (λ (o : Option (List ℕ)). entry_in o p.at) e

module _ (lines : List (List ℕ)) (p : Place) (x : ℕ) (h : IsThere lines p) where
  now_there : slice_get (with_entry lines p x) p.line ≡ Some (set (line_at lines p.line) p.at x)
  now_there = get_set_same lines p.line (set (line_at lines p.line) p.at x) (slice_get_within lines p.line (found lines p h).line (found lines p h).line_is)

  line_is : line_at lines p.line ≡ (found lines p h).line
  line_is = ap list_of (found lines p h).line_is

  pub entry_same : entry (with_entry lines p x) p ≡ Some x
  entry_same =
      entry_of (with_entry lines p x) p (set (line_at lines p.line) p.at x) now_there
      ∙ get_set_same (line_at lines p.line) p.at x
      (subst (λ (l : List ℕ). p.at < length l) (sym line_is) (slice_get_within (found lines p h).line p.at (found lines p h).number (found lines p h).number_is))

  entry_aside : (q : Place) → q ≢ p → (q.line ≡ p.line) ⊎ (q.line ≢ p.line) → entry (with_entry lines p x) q ≡ entry lines q
  entry_aside q ne (inr apart) = ap (λ (o : Option (List ℕ)). entry_in o q.at) (get_set_other lines p.line q.line (set (line_at lines p.line) p.at x) apart)
  entry_aside q ne (inl e) =
      entry_of (with_entry lines p x) q (set (line_at lines p.line) p.at x) (ap (slice_get (with_entry lines p x)) e ∙ now_there)
      ∙ get_set_other (line_at lines p.line) p.at q.at x (λ d. ne (place_by q p e d))
      ∙ ap (λ (l : List ℕ). slice_get l q.at) line_is
      ∙ sym (entry_of lines q (found lines p h).line (ap (slice_get lines) e ∙ (found lines p h).line_is))

  pub entry_other : (q : Place) → q ≢ p → entry (with_entry lines p x) q ≡ entry lines q
  entry_other q ne = entry_aside q ne (cases_eq q.line p.line)

-- ## All jobs in line

module _ (asks : List Ask) (places : List Place) (lines : List (List ℕ)) (h : IsInLine asks places lines) (j : ℕ) (p : Place) (at : slice_get places j ≡ Some p) (x : ℕ) where
  there : IsThere lines p
  there = h.there j p at

  put_there : (q : Place) → IsThere lines q → (q ≡ p) ⊎ (q ≢ p) → IsThere (with_entry lines p x) q
  put_there q t (inl e) = (x, ap (entry (with_entry lines p x)) e ∙ entry_same lines p x there)
  put_there q t (inr ne) = (t.0, entry_other lines p x there q ne ∙ t.1)

  put_own : (x < NONE → x ≡ j) → (q : Place) (y : ℕ) → entry (with_entry lines p x) q ≡ Some y → y < NONE → (q ≡ p) ⊎ (q ≢ p) → slice_get places y ≡ Some q
  put_own own q y e small (inl same) =
      let y_is : y ≡ x = same_Some y x (sym e ∙ ap (entry (with_entry lines p x)) same ∙ entry_same lines p x there) in
      let y_j : y ≡ j = y_is ∙ own (subst (λ (n : ℕ). n < NONE) y_is small) in
      ap (slice_get places) y_j ∙ at ∙ ap Some (sym same)
  put_own own q y e small (inr ne) = h.own q y (sym (entry_other lines p x there q ne) ∙ e) small

  pub put_in_line : (x < NONE → x ≡ j) → IsInLine asks places (with_entry lines p x)
  put_in_line own = record {
    few = h.few;
    as_many = h.as_many;
    there = λ i q e. put_there q (h.there i q e) (place_cases q p);
    own = λ q y e small. put_own own q y e small (place_cases q p);
    apart = h.apart;
    alike = h.alike;
  }

  present_by : (i : ℕ) → (i ≡ j) ⊎ (i ≢ j) → (o : Option Place) → slice_get places i ≡ o
      → option_map (λ (q : Place). is_number (entry (with_entry lines p x) q)) o ≡ slice_get (set (present_in places lines) j (is_number (Some x))) i
  present_by i (inl e) o d =
      ap (option_map (λ (q : Place). is_number (entry (with_entry lines p x) q))) (sym d ∙ ap (slice_get places) e ∙ at)
      ∙ ap (λ (y : Option ℕ). Some (is_number y)) (entry_same lines p x there)
      ∙ sym (ap (slice_get (set (present_in places lines) j (is_number (Some x)))) e
      ∙ get_set_same (present_in places lines) j (is_number (Some x))
      (slice_get_within (present_in places lines) j (is_number (entry lines p)) (slice_get-map (λ (q : Place). is_number (entry lines q)) places j ∙ ap (option_map (λ (q : Place). is_number (entry lines q))) at)))
  present_by i (inr ne) None d =
      sym (get_set_other (present_in places lines) j i (is_number (Some x)) ne
      ∙ slice_get-map (λ (q : Place). is_number (entry lines q)) places i ∙ ap (option_map (λ (q : Place). is_number (entry lines q))) d)
  present_by i (inr ne) (Some q) d =
      ap (λ (y : Option ℕ). Some (is_number y)) (entry_other lines p x there q (λ e. ne (h.apart i j p (d ∙ ap Some e) at)))
      ∙ sym (get_set_other (present_in places lines) j i (is_number (Some x)) ne
      ∙ slice_get-map (λ (q : Place). is_number (entry lines q)) places i ∙ ap (option_map (λ (q : Place). is_number (entry lines q))) d)

  pub put_present : present_in places (with_entry lines p x) ≡ set (present_in places lines) j (is_number (Some x))
  put_present =
      same_lists (present_in places (with_entry lines p x)) (set (present_in places lines) j (is_number (Some x)))
      (λ i. slice_get-map (λ (q : Place). is_number (entry (with_entry lines p x) q)) places i ∙ present_by i (cases_eq i j) (slice_get places i) refl)

-- what is put for a job that is ready or not
pub number_is : (j : ℕ) (b : Bool) → j < NONE → is_number (Some (cond b j NONE)) ≡ b
number_is j true h = lt-ltb j NONE h
number_is j false h = le-ltb NONE NONE (omega arith)

pub number_own : (j : ℕ) (b : Bool) → cond b j NONE < NONE → cond b j NONE ≡ j
number_own j true h = refl
number_own j false h = absurd (omega arith)
