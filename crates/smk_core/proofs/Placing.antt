-- How jobs get their places in line.
use Rattle.std.proofs.Common.{◌≡◌, ℕ, ◌+◌, ◌<◌, ◌≤◌, ◌≢◌, ◌⊎◌, false, List, [], ◌∷◌, ◌++◌, Option, Some, None, length, map, replicate, refl, sym, ap, ◌∙◌, subst, inl, inr, arith, length-append}
use Rattle.std.specs.List.{slice_get}
use Rattle.std.specs.Option.{option_map}
use Rattle.std.proofs.lemmas.Bool.{cases_eq, cases_lt, cases_order, le-ltb}
use Rattle.std.proofs.lemmas.List.{length-replicate}
use Rattle.std.proofs.lemmas.Option.{none-some, same_Some, slice_get-map, slice_get_within, slice_get_past}
use Rattle.smk_pick.specs.declared.room.Ask.{Ask}
use Rattle.smk_core.specs.declared.place.Kind.{Kind}
use Rattle.smk_core.specs.declared.place.Place.{Place}
use Rattle.smk_core.specs.declared.place.TheConstants.{NONE}
use Rattle.smk_core.specs.Lines.{entry, entry_in, is_number, IsInLine, present_in, ArePlaced, IsKindOf, OpensLine, AddsPlace}
use Rattle.smk_core.proofs.Gets.{get_set_same, get_set_other, get_append_left, get_append_at, get_append_past, get_some, get_replicate, replicate_get, same_lists}
use Rattle.smk_core.proofs.Entries.{entry_of}

pub none_placed : (asks : List Ask) → ArePlaced asks [] []
none_placed asks = record { bounded = λ j p e. absurd (none-some p e); apart = λ i j p e d. absurd (none-some p e) }

-- ## A line is opened

abbrev IsIn : List Ask → List Kind → ℕ → Place → Type 0
IsIn asks kinds j p = (k : Kind) × (slice_get kinds p.line ≡ Some k) × (p.at < k.size) × (slice_get asks j ≡ slice_get asks k.first)

pub opened_placed : (asks : List Ask) (kinds now : List Kind) (places : List Place) → OpensLine kinds now → ArePlaced asks kinds places → ArePlaced asks now places
opened_placed asks kinds now places (inl e) h = subst (λ (ks : List Kind). ArePlaced asks ks places) (sym e) h
opened_placed asks kinds now places (inr (new, e)) h = record {
  bounded = λ j p at.
      let b : IsIn asks kinds j p = h.bounded j p at in
      (b.0, ap (λ (ks : List Kind). slice_get ks p.line) e ∙ get_append_left kinds (new ∷ []) p.line (slice_get_within kinds p.line b.0 b.1) ∙ b.1, b.2, b.3);
  apart = h.apart;
}

-- ## A place is added

module _ (asks : List Ask) (kinds now : List Kind) (places there : List Place) (line : ℕ) (a : AddsPlace line kinds now places there) (h : ArePlaced asks kinds places) where
  abbrev kind : Kind
  kind = a.kind

  abbrev more : Kind
  more = record kind { size = kind.size + 1 }

  abbrev last : Place
  last = record { line = line; at = kind.size }

  now_at : slice_get now line ≡ Some more
  now_at = ap (λ (ks : List Kind). slice_get ks line) a.kinds_are ∙ get_set_same kinds line more (slice_get_within kinds line kind a.found)

  now_else : (i : ℕ) → i ≢ line → slice_get now i ≡ slice_get kinds i
  now_else i ne = ap (λ (ks : List Kind). slice_get ks i) a.kinds_are ∙ get_set_other kinds line i more ne

  still_in : (j : ℕ) (p : Place) → IsIn asks kinds j p → (p.line ≡ line) ⊎ (p.line ≢ line) → IsIn asks now j p
  still_in j p b (inr ne) = (b.0, now_else p.line ne ∙ b.1, b.2, b.3)
  still_in j p b (inl e) =
      let same : b.0 ≡ kind = same_Some b.0 kind (sym b.1 ∙ ap (slice_get kinds) e ∙ a.found) in
      let less : p.at < kind.size = subst (λ (k : Kind). p.at < k.size) same b.2 in
      (more, ap (slice_get now) e ∙ now_at, (omega arith), b.3 ∙ ap (λ (k : Kind). slice_get asks k.first) same)

-- which place a job has
data IsPlaceOf (places : List Place) (last : Place) (j : ℕ) (p : Place) : Type 0 where
  Before : slice_get places j ≡ Some p → IsPlaceOf places last j p
  Last : j ≡ length places → p ≡ last → IsPlaceOf places last j p

place_by : (places : List Place) (last : Place) (j : ℕ) (p : Place) → slice_get (places ++ last ∷ []) j ≡ Some p → (j ≡ length places) ⊎ ((j < length places) ⊎ (length places < j)) → IsPlaceOf places last j p
place_by places last j p e (inr (inl lt)) = Before (sym (get_append_left places (last ∷ []) j lt) ∙ e)
place_by places last j p e (inl same) = Last same (same_Some p last (sym e ∙ ap (slice_get (places ++ last ∷ [])) same ∙ get_append_at places last))
place_by places last j p e (inr (inr gt)) = absurd (none-some p (sym (get_append_past places last j gt) ∙ e))

place_of : (places : List Place) (last : Place) (j : ℕ) (p : Place) → slice_get (places ++ last ∷ []) j ≡ Some p → IsPlaceOf places last j p
place_of places last j p e = place_by places last j p e (cases_order j (length places))

module _ (asks : List Ask) (kinds now : List Kind) (places there : List Place) (line : ℕ) (a : AddsPlace line kinds now places there) (h : ArePlaced asks kinds places) (ask : Ask) (next : slice_get asks (length places) ≡ Some ask) (k : IsKindOf asks kinds ask line) where
  abbrev new : Place
  new = record { line = line; at = a.kind.size }

  last_in : (p : Place) → p ≡ new → IsIn asks now (length places) p
  last_in p e =
      let same : k.0 ≡ a.kind = same_Some k.0 a.kind (sym k.1 ∙ a.found) in
      let first : slice_get asks (length places) ≡ slice_get asks a.kind.first = next ∙ sym k.2 ∙ ap (λ (x : Kind). slice_get asks x.first) same in
      let here : IsIn asks now (length places) new = (record a.kind { size = a.kind.size + 1 }, now_at asks kinds now places there line a h, (omega arith), first) in
      subst (IsIn asks now (length places)) (sym e) here

  bounded_by : (j : ℕ) (p : Place) → IsPlaceOf places new j p → IsIn asks now j p
  bounded_by j p (Before e) = still_in asks kinds now places there line a h j p (h.bounded j p e) (cases_eq p.line line)
  bounded_by j p (Last e d) = subst (λ (n : ℕ). IsIn asks now n p) (sym e) (last_in p d)

  not_new : (j : ℕ) (p : Place) → slice_get places j ≡ Some p → p ≡ new → ⊥
  not_new j p e d =
      let b : IsIn asks kinds j p = h.bounded j p e in
      let same : b.0 ≡ a.kind = same_Some b.0 a.kind (sym b.1 ∙ ap (λ (q : Place). slice_get kinds q.line) d ∙ a.found) in
      let less : p.at < a.kind.size = subst (λ (x : Kind). p.at < x.size) same b.2 in
      let at_is : p.at ≡ a.kind.size = ap (λ (q : Place). q.at) d in
      omega arith

  apart_by : (i j : ℕ) (p : Place) → IsPlaceOf places new i p → IsPlaceOf places new j p → i ≡ j
  apart_by i j p (Before e) (Before d) = h.apart i j p e d
  apart_by i j p (Before e) (Last n d) = absurd (not_new i p e d)
  apart_by i j p (Last n d) (Before e) = absurd (not_new j p e d)
  apart_by i j p (Last n d) (Last m c) = n ∙ sym m

  place_in : (j : ℕ) (p : Place) → slice_get there j ≡ Some p → IsPlaceOf places new j p
  place_in j p e = place_of places new j p (sym (ap (λ (ps : List Place). slice_get ps j) a.places_are) ∙ e)

  pub added_placed : ArePlaced asks now there
  added_placed = record {
    bounded = λ j p e. bounded_by j p (place_in j p e);
    apart = λ i j p e d. apart_by i j p (place_in i p e) (place_in j p d);
  }

-- ## Lines without numbers

abbrev pub empty_line : Kind → List ℕ
empty_line k = replicate k.size NONE

module _ (asks : List Ask) (kinds : List Kind) (places : List Place) (h : ArePlaced asks kinds places) where
  abbrev lines : List (List ℕ)
  lines = map empty_line kinds

  entry_is : (j : ℕ) (p : Place) → slice_get places j ≡ Some p → entry lines p ≡ Some NONE
  entry_is j p e =
      let b : IsIn asks kinds j p = h.bounded j p e in
      entry_of lines p (empty_line b.0) (slice_get-map empty_line kinds p.line ∙ ap (option_map empty_line) b.1) ∙ get_replicate b.0.size p.at NONE b.2

  none_in : (o : Option Kind) (at x : ℕ) → entry_in (option_map empty_line o) at ≡ Some x → x ≡ NONE
  none_in None at x e = absurd (none-some x e)
  none_in (Some k) at x e = replicate_get k.size at NONE x e

  no_number : (p : Place) (x : ℕ) → entry lines p ≡ Some x → x ≡ NONE
  no_number p x e = none_in (slice_get kinds p.line) p.at x (sym (ap (λ (o : Option (List ℕ)). entry_in o p.at) (slice_get-map empty_line kinds p.line)) ∙ e)

  pub empty_in_line : length asks ≤ NONE → length places ≡ length asks → IsInLine asks places lines
  empty_in_line few many = record {
    few = few;
    as_many = many;
    there = λ j p e. (NONE, entry_is j p e);
    own = λ p x e small. absurd (let none : x ≡ NONE = no_number p x e in omega arith);
    apart = h.apart;
    alike = λ i j p q e d same.
        let b : IsIn asks kinds i p = h.bounded i p e in
        let c : IsIn asks kinds j q = h.bounded j q d in
        let one : b.0 ≡ c.0 = same_Some b.0 c.0 (sym b.1 ∙ ap (slice_get kinds) same ∙ c.1) in
        b.3 ∙ ap (λ (k : Kind). slice_get asks k.first) one ∙ sym c.3;
  }

  absent_by : (i n : ℕ) → length places ≡ n → (o : Option Place) → slice_get places i ≡ o → (i < n) ⊎ (n ≤ i) → option_map (λ (p : Place). is_number (entry lines p)) o ≡ slice_get (replicate n false) i
  absent_by i n many (Some p) e (inl lt) = ap (λ (y : Option ℕ). Some (is_number y)) (entry_is i p e) ∙ ap Some (le-ltb NONE NONE (omega arith)) ∙ sym (get_replicate n i false lt)
  absent_by i n many (Some p) e (inr le) = absurd (let lt : i < length places = slice_get_within places i p e in omega arith)
  absent_by i n many None e (inl lt) = absurd (let s : (p : Place) × (slice_get places i ≡ Some p) = get_some places i (subst (λ (m : ℕ). i < m) (sym many) lt) in none-some s.0 (sym e ∙ s.1))
  absent_by i n many None e (inr le) = sym (slice_get_past (replicate n false) i (short n le))
    where
      short : (m : ℕ) → m ≤ i → length (replicate m false) ≤ i
      short m le = subst (λ (x : ℕ). x ≤ i) (sym (length-replicate m false)) le

  pub empty_absent : (n : ℕ) → length places ≡ n → present_in places lines ≡ replicate n false
  empty_absent n many =
      same_lists (present_in places lines) (replicate n false)
      (λ i. slice_get-map (λ (p : Place). is_number (entry lines p)) places i ∙ absent_by i n many (slice_get places i) refl (cases_lt i n))

pub added_many : (kinds now : List Kind) (places there : List Place) (line j : ℕ) → AddsPlace line kinds now places there → length places ≡ j → length there ≡ j + 1
added_many kinds now places there line j a e =
    ap length a.places_are ∙ length-append places (record { line = line; at = a.kind.size } ∷ []) ∙ ap (λ (n : ℕ). n + 1) e
