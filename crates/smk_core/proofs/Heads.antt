-- The first job that fits is the head of a line.
use Rattle.std.proofs.Common.{◌≡◌, ℕ, zero, suc, ◌-◌, ◌^◌, ◌<◌, ◌≤◌, ◌⊎◌, Bool, true, false, cond, ◌&&◌, List, [], ◌∷◌, Option, Some, None, length, map, refl, sym, ap, ◌∙◌, subst, inl, inr, arith}
use Rattle.std.specs.Prelude.{slice_index}
use Rattle.std.specs.List.{slice_get}
use Rattle.std.specs.Option.{option_map}
use Rattle.std.proofs.lemmas.Bool.{and_parts, and_from, ltb-true, lt-ltb}
use Rattle.std.proofs.lemmas.Option.{none-some, same_Some, slice_get-map, slice_get_within, slice_get-get_or, get_or_from_slice_get}
use Rattle.smk_pick.specs.declared.room.Ask.{Ask}
use Rattle.smk_pick.specs.declared.room.Room.{Room}
use Rattle.smk_pick.specs.Picks.{comes_first}
use Rattle.smk_core.specs.declared.place.Place.{Place}
use Rattle.smk_core.specs.declared.place.TheConstants.{NONE}
use Rattle.smk_core.specs.Indices.{is_true, is_true_at}
use Rattle.smk_core.specs.Standing.{rank_of, priority_of}
use Rattle.smk_core.specs.Lines.{Line, least, entry, is_number, IsInLine, present_in, fits_room, is_before, better, best_of, is_fitting, IsBest}
use Rattle.smk_core.proofs.Entries.{IsFound, found, entry_of}
use Rattle.smk_core.proofs.Orders.{first_self, first_kept, first_later}
use Rattle.smk_core.proofs.Trees.{least_below, least_in}

-- ## The best of some jobs

module _ (asks : List Ask) (room : Room) where
  abbrev fits_at : ℕ → Bool
  fits_at h = fits_room room (slice_get asks h)

  -- the best is there, and the job isn't before it
  abbrev pub Beats : Option ℕ → ℕ → Type 0
  Beats None h = ⊥
  Beats (Some b) h = comes_first (rank_of asks h) (rank_of asks b) ≡ false

  abbrev better_by : Option ℕ → ℕ → Bool → Option ℕ
  better_by best g b = cond b (Some g) best

  kept_by : (best : Option ℕ) (g h : ℕ) → Beats best h → (b : Bool) → (fits_at g && is_before asks g best) ≡ b → Beats (better_by best g b) h
  kept_by best g h k false e = k
  kept_by None g h k true e = absurd k
  kept_by (Some b) g h k true e = first_kept (rank_of asks h) (rank_of asks b) (rank_of asks g) k (and_parts (fits_at g) (is_before asks g (Some b)) e).1

  better_kept : (best : Option ℕ) (g h : ℕ) → Beats best h → Beats (better asks room best g) h
  better_kept best g h k = kept_by best g h k (fits_at g && is_before asks g best) refl

  new_by : (best : Option ℕ) (g : ℕ) → fits_at g ≡ true → (b : Bool) → is_before asks g best ≡ b → Beats (better_by best g (fits_at g && b)) g
  new_by best g f true e = subst (λ (t : Bool). Beats (better_by best g (t && true)) g) (sym f) (first_self (rank_of asks g))
  new_by None g f false e = cc
  new_by (Some b) g f false e = subst (λ (t : Bool). Beats (better_by (Some b) g (t && false)) g) (sym f) e

  better_new : (best : Option ℕ) (g : ℕ) → fits_at g ≡ true → Beats (better asks room best g) g
  better_new best g f = new_by best g f (is_before asks g best) refl

  best_kept : (hs : List ℕ) (best : Option ℕ) (h : ℕ) → Beats best h → Beats (best_of asks room best hs) h
  best_kept [] best h k = k
  best_kept (g ∷ hs) best h k = best_kept hs (better asks room best g) h (better_kept best g h k)

  pub best_beats : (hs : List ℕ) (best : Option ℕ) (i h : ℕ) → slice_get hs i ≡ Some h → fits_at h ≡ true → Beats (best_of asks room best hs) h
  best_beats [] best i h e f = absurd (none-some h e)
  best_beats (g ∷ hs) best zero h e f =
      let d : g ≡ h = same_Some g h e in
      best_kept hs (better asks room best g) h (subst (λ (n : ℕ). Beats (better asks room best g) n) d (better_new best g (ap fits_at d ∙ f)))
  best_beats (g ∷ hs) best (suc i) h e f = best_beats hs (better asks room best g) i h e f

  -- where the best comes from
  abbrev IsFrom : List ℕ → ℕ → Type 0
  IsFrom hs b = (i : ℕ) × (slice_get hs i ≡ Some b) × (fits_at b ≡ true)

  from_by : (best : Option ℕ) (g b : ℕ) (t : Bool) → (fits_at g && is_before asks g best) ≡ t → better_by best g t ≡ Some b → (best ≡ Some b) ⊎ ((g ≡ b) × (fits_at b ≡ true))
  from_by best g b false e d = inl d
  from_by best g b true e d =
      let same : g ≡ b = same_Some g b d in
      inr (same, ap fits_at (sym same) ∙ (and_parts (fits_at g) (is_before asks g best) e).0)

  better_from : (best : Option ℕ) (g b : ℕ) → better asks room best g ≡ Some b → (best ≡ Some b) ⊎ ((g ≡ b) × (fits_at b ≡ true))
  better_from best g b d = from_by best g b (fits_at g && is_before asks g best) refl d

  from_head : (g : ℕ) (hs : List ℕ) (best : Option ℕ) (b : ℕ) → (best ≡ Some b) ⊎ ((g ≡ b) × (fits_at b ≡ true)) → (best ≡ Some b) ⊎ IsFrom (g ∷ hs) b
  from_head g hs best b (inl e) = inl e
  from_head g hs best b (inr (e, f)) = inr (zero, ap Some e, f)

  from_more : (g : ℕ) (hs : List ℕ) (best : Option ℕ) (b : ℕ) → (better asks room best g ≡ Some b) ⊎ IsFrom hs b → (best ≡ Some b) ⊎ IsFrom (g ∷ hs) b
  from_more g hs best b (inl e) = from_head g hs best b (better_from best g b e)
  from_more g hs best b (inr (i, e, f)) = inr (suc i, e, f)

  pub best_from : (hs : List ℕ) (best : Option ℕ) (b : ℕ) → best_of asks room best hs ≡ Some b → (best ≡ Some b) ⊎ IsFrom hs b
  best_from [] best b e = inl e
  best_from (g ∷ hs) best b e = from_more g hs best b (best_from hs (better asks room best g) b e)

-- ## The heads of the lines

module _ (asks : List Ask) (places : List Place) (lines : List (List ℕ)) (h : IsInLine asks places lines) where
  abbrev here : List Bool
  here = present_in places lines

  present_at : (j : ℕ) (p : Place) → slice_get places j ≡ Some p → is_true_at here j ≡ is_number (entry lines p)
  present_at j p e = ap is_true (slice_get-map (λ (q : Place). is_number (entry lines q)) places j ∙ ap (option_map (λ (q : Place). is_number (entry lines q))) e)

  -- the least of a line, where there is one, is a job in it
  record IsHead (line b : ℕ) : Type 0 where
    pub at : ℕ
    pub place_is : slice_get places b ≡ Some (record { line = line; at = at })
    pub present : is_true_at here b ≡ true

  head_by : (i : ℕ) (l : List ℕ) → slice_get lines i ≡ Some l → (r : (k : ℕ) × (k < length l) × (slice_index l k ≡ least l)) → least l < NONE → IsHead i (least l)
  head_by i l e r small =
      let p : Place = record { line = i; at = r.0 } in
      let number : entry lines p ≡ Some (least l) = entry_of lines p l e ∙ slice_get-get_or l r.0 0 r.1 ∙ ap Some r.2 in
      let own : slice_get places (least l) ≡ Some p = h.own p (least l) number small in
      record { at = r.0; place_is = own; present = present_at (least l) p own ∙ ap is_number number ∙ lt-ltb (least l) NONE small }

  head : (i : ℕ) (l : List ℕ) → slice_get lines i ≡ Some l → least l < NONE → IsHead i (least l)
  head i l e small = head_by i l e (least_in l small) small

  -- what each job in line has at the head of its line
  record HasHead (j : ℕ) : Type 0 where
    pub line : ℕ
    pub first : ℕ
    pub head_is : slice_get (map least lines) line ≡ Some first
    pub asks_are : slice_get asks first ≡ slice_get asks j
    pub sooner : first ≤ j

  in_line_by : (j : ℕ) (p : Place) → slice_get places j ≡ Some p → (o : Option ℕ) → entry lines p ≡ o → is_number o ≡ true → HasHead j
  in_line_by j p at None e n = cc
  in_line_by j p at (Some x) e n =
      let small : x < NONE = ltb-true x NONE n in
      let x_is : x ≡ j = h.apart x j p (h.own p x e small) at in
      let f : IsFound lines p = found lines p (x, e) in
      let l : List ℕ = f.line in
      let there : slice_get l p.at ≡ Some x = sym (entry_of lines p l f.line_is) ∙ e in
      let low : least l ≤ slice_index l p.at = least_below l p.at (slice_get_within l p.at x there) in
      let value : slice_index l p.at ≡ x = get_or_from_slice_get l p.at x 0 there in
      let less : least l ≤ x = subst (λ (n : ℕ). least l ≤ n) value low in
      let hd : IsHead p.line (least l) = head p.line l f.line_is (omega arith) in
      record {
        line = p.line;
        first = least l;
        head_is = slice_get-map least lines p.line ∙ ap (option_map least) f.line_is;
        asks_are = h.alike (least l) j (record { line = p.line; at = hd.at }) p hd.place_is at refl;
        sooner = subst (λ (n : ℕ). least l ≤ n) x_is less;
      }

  in_line_from : (j : ℕ) (o : Option Place) → slice_get places j ≡ o → is_true (option_map (λ (q : Place). is_number (entry lines q)) o) ≡ true → HasHead j
  in_line_from j None e t = cc
  in_line_from j (Some p) e t = in_line_by j p e (entry lines p) refl t

  in_line : (j : ℕ) → is_true_at here j ≡ true → HasHead j
  in_line j t = in_line_from j (slice_get places j) refl (sym (ap is_true (slice_get-map (λ (q : Place). is_number (entry lines q)) places j)) ∙ t)

  -- ## The best of the heads

  module _ (room : Room) where
    abbrev queue : Line
    queue = record { asks = asks; present = here }

    fitting_beats : (j : ℕ) → is_fitting queue room j ≡ true → (r : Option ℕ) → r ≡ best_of asks room None (map least lines) → (b : ℕ) → r ≡ Some b
        → comes_first (rank_of asks j) (rank_of asks b) ≡ false
    fitting_beats j t r e b d =
        let parts : (is_true_at here j ≡ true) × (fits_room room (slice_get asks j) ≡ true) = and_parts (is_true_at here j) (fits_room room (slice_get asks j)) t in
        let hd : HasHead j = in_line j parts.0 in
        let beats : Beats asks room (best_of asks room None (map least lines)) hd.first =
        best_beats asks room (map least lines) None hd.line hd.first hd.head_is (ap (fits_room room) hd.asks_are ∙ parts.1) in
        let first : comes_first (rank_of asks hd.first) (rank_of asks b) ≡ false = subst (λ (o : Option ℕ). Beats asks room o hd.first) (sym e ∙ d) beats in
        first_later (2 ^ 64 - 1 - priority_of (slice_get asks j)) j hd.first (rank_of asks b) hd.sooner
        (subst (λ (o : Option Ask). comes_first (2 ^ 64 - 1 - priority_of o, hd.first) (rank_of asks b) ≡ false) hd.asks_are first)

    none_fits : (j : ℕ) (b : Bool) → is_fitting queue room j ≡ b → None ≡ best_of asks room None (map least lines) → b ≡ false
    none_fits j false t e = refl
    none_fits j true t e =
        let parts : (is_true_at here j ≡ true) × (fits_room room (slice_get asks j) ≡ true) = and_parts (is_true_at here j) (fits_room room (slice_get asks j)) t in
        let hd : HasHead j = in_line j parts.0 in
        absurd (subst (λ (o : Option ℕ). Beats asks room o hd.first) (sym e)
        (best_beats asks room (map least lines) None hd.line hd.first hd.head_is (ap (fits_room room) hd.asks_are ∙ parts.1)))

    ask_there : (b : ℕ) (o : Option Ask) → slice_get asks b ≡ o → fits_room room o ≡ true → b < length asks
    ask_there b None e f = cc
    ask_there b (Some a) e f = slice_get_within asks b a e

    from_line : (b i : ℕ) (o : Option (List ℕ)) → slice_get lines i ≡ o → option_map least o ≡ Some b → b < NONE → is_true_at here b ≡ true
    from_line b i None e d small = absurd (none-some b d)
    from_line b i (Some l) e d small =
        let b_is : least l ≡ b = same_Some (least l) b d in
        subst (λ (n : ℕ). is_true_at here n ≡ true) b_is (head i l e (subst (λ (n : ℕ). n < NONE) (sym b_is) small)).present

    best_fits : (b : ℕ) → (None ≡ Some b) ⊎ IsFrom asks room (map least lines) b → is_fitting queue room b ≡ true
    best_fits b (inl e) = absurd (none-some b e)
    best_fits b (inr (i, e, f)) =
        and_from (is_true_at here b) (fits_room room (slice_get asks b))
        (from_line b i (slice_get lines i) refl (sym (slice_get-map least lines i) ∙ e) (let inside : b < length asks = ask_there b (slice_get asks b) refl f in let few : length asks ≤ NONE = h.few in omega arith)) f

    best_by : (r : Option ℕ) → r ≡ best_of asks room None (map least lines) → IsBest queue room r
    best_by None e = λ j. none_fits j (is_fitting queue room j) refl e
    best_by (Some b) e = (best_fits b (best_from asks room (map least lines) None b (sym e)), λ k t. fitting_beats k t (Some b) e b refl)

    pub heads_best : (r : Option ℕ) → r ≡ best_of asks room None (map least lines) → IsBest queue room r
    heads_best r e = best_by r e
