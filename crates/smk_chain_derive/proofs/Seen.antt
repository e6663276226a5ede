-- The known paths of the image of a formed world are listed.
use Rattle.std.proofs.Common.{◌≡◌, inl, inr, ℕ, Bool, true, false, cond, ◌||◌, ◌&&◌, not, ◌==◌, List, [], ◌∷◌, ◌++◌, length, drop, Option, refl, sym, ap, ◌∙◌, bytes_eq, is_some, codes}
use Rattle.std.specs.Prelude.{if◌then◌else◌}
use Rattle.std.specs.List.{filter, flat_map}
use Rattle.std.specs.List.Sorted.{IsStrictlySortedBy}
use Rattle.std.specs.Cmp.Lexicographic.{slice_cmp}
use Rattle.std.specs.Ordering.{nat_cmp, is_eq}
use Rattle.std.specs.declared.cmp.Ordering.{Ordering}
use Rattle.std.specs.declared.cmp.Ordering.TheVariants.{Less, Equal, Greater}
use Rattle.std.proofs.lemmas.List.{drop_at}
use Rattle.std.proofs.lemmas.Map.Text.{is_eq-slice_cmp}
use Rattle.std.specs.Cmp.{both_ways}
use Rattle.smk_choose.proofs.Indexed.{or_swap}
use Rattle.smk_base.specs.Path.{parts, to_first}
use Rattle.smk_base.specs.Place.{joined_name, name_of, record_place, mark_place, note_place}
use Rattle.smk_base.proofs.Apart.{no_slashes, with_slashes, parts_no_slash, parts_joined}
use Rattle.smk_base.proofs.Names.{parts_some}
use Rattle.smk_base.proofs.Paths.{parts-joined}
use Rattle.smk_base.proofs.Places.{and_first, and_second, same_place, place_itself}
use Rattle.smk_base.proofs.Under.{no_slash, never_both, false_of_not, or_first, or_second, or_cases, both_true}
use Rattle.smk_world.specs.World.{World, IsFormed, IsRising, reading, name_placed, add_name, add_names}
use Rattle.smk_world.specs.Trees.{Path, among, is_path_text}
use Rattle.smk_world.proofs.Names.{adds_rising}
use Rattle.smk_record.specs.declared.record.Record.{Record}
use Rattle.smk_record.specs.Records.{are_rising, is_less}
use Rattle.smk_store.specs.Images.{without_signs, told_of, known_by, kept_by, is_known, seen}
use Rattle.smk_store.proofs.Loads.{kept_stands, known_signs}
use Rattle.smk_chain_derive.specs.Clashes.{ListsKnown}

-- ## Names and the paths that they stand for

one_part : (part : Path) → no_slash part ≡ true → parts part ≡ part ∷ []
one_part [] h = refl
one_part (b ∷ part) h =
    ap (λ v. if v then [] ∷ parts part else to_first b (parts part)) (false_of_not (b == 47) (and_first (not (b == 47)) (no_slash part) h))
    ∙ ap (to_first b) (one_part part (and_second (not (b == 47)) (no_slash part) h))

unsigned_next : (sign : ℕ) (part : Path) (ps : List Path) → (ps ≡ [] → ⊥) → without_signs ((sign ∷ part) ∷ ps) ≡ part ++ 47 ∷ without_signs ps
unsigned_next sign part [] never = absurd (never refl)
unsigned_next sign part (q ∷ ps) never = refl

unsigned : (ps : List Path) → no_slashes ps ≡ true → (ps ≡ [] → ⊥) → without_signs (parts (joined_name ps)) ≡ with_slashes ps
unsigned [] h never = absurd (never refl)
unsigned (part ∷ []) h never = ap (λ ps. without_signs (to_first 61 ps)) (one_part part (and_first (no_slash part) true h))
unsigned (part ∷ (next ∷ rest)) h never =
    ap without_signs
    (parts-joined (43 ∷ part) (joined_name (next ∷ rest))
    ∙ ap (λ ps. to_first 43 ps ++ parts (joined_name (next ∷ rest))) (one_part part (and_first (no_slash part) (no_slashes (next ∷ rest)) h)))
    ∙ unsigned_next 43 part (parts (joined_name (next ∷ rest))) (parts_some (joined_name (next ∷ rest)))
    ∙ ap (λ t. part ++ 47 ∷ t) (unsigned (next ∷ rest) (and_second (no_slash part) (no_slashes (next ∷ rest)) h) (λ e. cc))

named_path : (p : Path) → without_signs (parts (name_of p)) ≡ p
named_path p = unsigned (parts p) (parts_no_slash p) (parts_some p) ∙ parts_joined p

abbrev told_with : Path → Path → Path → List Path
told_with folder place q = if bytes_eq place (folder ++ name_of q) && is_path_text q then q ∷ [] else []

-- the place of a path tells of it
told_itself : (folder p : Path) → is_path_text p ≡ true → among (told_of folder (folder ++ name_of p)) p ≡ true
told_itself folder p h =
    let same : without_signs (parts (drop (length folder) (folder ++ name_of p))) ≡ p =
    ap (λ t. without_signs (parts t)) (drop_at folder (name_of p) (length folder) refl) ∙ named_path p in
    let told : told_of folder (folder ++ name_of p) ≡ p ∷ [] =
    ap (told_with folder (folder ++ name_of p)) same
    ∙ ap (λ b. if b then p ∷ [] else []) (both_true (bytes_eq (folder ++ name_of p) (folder ++ name_of p)) (is_path_text p) (place_itself (folder ++ name_of p)) h) in
    ap (λ l. among l p) told ∙ or_first (bytes_eq p p) false (place_itself p)

-- and of no other one
told_other : (folder place q : Path) → among (told_of folder place) q ≡ true → (place ≡ folder ++ name_of q) × (is_path_text q ≡ true)
told_other folder place q h = go (bytes_eq place (folder ++ name_of p) && is_path_text p) refl h
  where
    p : Path
    p = without_signs (parts (drop (length folder) place))

    at : q ≡ p → (bytes_eq place (folder ++ name_of p) && is_path_text p) ≡ true → (place ≡ folder ++ name_of q) × (is_path_text q ≡ true)
    at same e = (
      same_place place (folder ++ name_of p) (and_first (bytes_eq place (folder ++ name_of p)) (is_path_text p) e) ∙ ap (λ x. folder ++ name_of x) (sym same),
      ap is_path_text same ∙ and_second (bytes_eq place (folder ++ name_of p)) (is_path_text p) e,
    )

    go : (b : Bool) → (bytes_eq place (folder ++ name_of p) && is_path_text p) ≡ b → among (if b then p ∷ [] else []) q ≡ true → (place ≡ folder ++ name_of q) × (is_path_text q ≡ true)
    go true e k = elim (or_cases (bytes_eq q p) false k) [ inl same ↦ at (same_place q p same) e | inr none ↦ absurd (never_both false none refl) ]
    go false e k = absurd (never_both false k refl)

-- ## Adding names

twice : (a x : Bool) → (a || x) ≡ (a || (a || x))
twice true x = refl
twice false x = refl

added : (r q : Path) (ps : List Path) → among (add_name q ps) r ≡ (bytes_eq r q || among ps r)
added r q [] = refl
added r q (p ∷ ps) = placed (slice_cmp nat_cmp q p) refl (added r q ps)
  where
    placed : (o : Ordering) → slice_cmp nat_cmp q p ≡ o → among (add_name q ps) r ≡ (bytes_eq r q || among ps r) → among (name_placed o q p ps (add_name q ps)) r ≡ (bytes_eq r q || (bytes_eq r p || among ps r))
    placed Less e more = refl
    placed Equal e more =
        twice (bytes_eq r p) (among ps r) ∙ ap (λ t. bytes_eq r t || (bytes_eq r p || among ps r)) (sym (same_place q p (sym (is_eq-slice_cmp q p) ∙ ap is_eq e)))
    placed Greater e more = ap (λ b. bytes_eq r p || b) more ∙ or_swap (bytes_eq r p) (bytes_eq r q) (among ps r)

all_added : (r : Path) (qs : List Path) → among (add_names qs []) r ≡ among qs r
all_added r [] = refl
all_added r (q ∷ qs) = added r q (add_names qs []) ∙ ap (λ b. bytes_eq r q || b) (all_added r qs)

rises : (ps : List Path) → IsRising ps → are_rising ps ≡ true
unfolding IsStrictlySortedBy
rises [] s = refl
rises (p ∷ []) s = refl
rises (p ∷ q ∷ rest) s = both_true (is_less (slice_cmp nat_cmp p q)) (are_rising (q ∷ rest)) (ap is_less s.0.0) (rises (q ∷ rest) s.1)

none_rises : IsRising []
unfolding IsStrictlySortedBy
none_rises = tt

-- ## What places tell of

among_both : (xs ys : List Path) (q : Path) → among (xs ++ ys) q ≡ (among xs q || among ys q)
among_both [] ys q = refl
among_both (x ∷ xs) ys q = ap (λ b. bytes_eq q x || b) (among_both xs ys q) ∙ joined (bytes_eq q x) (among xs q) (among ys q)
  where
    joined : (a b c : Bool) → (a || (b || c)) ≡ ((a || b) || c)
    joined true b c = refl
    joined false b c = refl

record ToldBy (stood : Path → Bool) (q : Path) : Type 0 where
  place : Path
  stands : stood place ≡ true
  tells : among (known_by place) q ≡ true

teller : (stood : Path → Bool) (q : Path) (names : List Path) → among (flat_map known_by (filter stood names)) q ≡ true → ToldBy stood q
teller stood q [] h = absurd (never_both false h refl)
teller stood q (n ∷ names) h = go (stood n) refl (teller stood q names) h
  where
    go : (b : Bool) → stood n ≡ b → (among (flat_map known_by (filter stood names)) q ≡ true → ToldBy stood q)
        → among (flat_map known_by (cond b (n ∷ filter stood names) (filter stood names))) q ≡ true → ToldBy stood q
    go false e more k = more k
    go true e more k =
        elim (or_cases (among (known_by n) q) (among (flat_map known_by (filter stood names)) q) (sym (among_both (known_by n) (flat_map known_by (filter stood names)) q) ∙ k)) [
          | inl here ↦ record { place = n; stands = e; tells = here }
          | inr later ↦ more later
        ]

is_told : (stood : Path → Bool) (q place : Path) (names : List Path) → among names place ≡ true → stood place ≡ true → among (known_by place) q ≡ true → among (flat_map known_by (filter stood names)) q ≡ true
is_told stood q place [] n s t = absurd (never_both false n refl)
is_told stood q place (m ∷ names) n s t = elim (or_cases (bytes_eq place m) (among names place) n) [ inl same ↦ here (same_place place m same) | inr later ↦ there (stood m) (is_told stood q place names later s t) ]
  where
    there : (b : Bool) → among (flat_map known_by (filter stood names)) q ≡ true → among (flat_map known_by (cond b (m ∷ filter stood names) (filter stood names))) q ≡ true
    there true h = among_both (known_by m) (flat_map known_by (filter stood names)) q ∙ or_second (among (known_by m) q) (among (flat_map known_by (filter stood names)) q) h
    there false h = h

    here : place ≡ m → among (flat_map known_by (cond (stood m) (m ∷ filter stood names) (filter stood names))) q ≡ true
    here same =
        ap (λ b. among (flat_map known_by (cond b (m ∷ filter stood names) (filter stood names))) q) (sym (ap stood same) ∙ s)
        ∙ among_both (known_by m) (flat_map known_by (filter stood names)) q
        ∙ or_first (among (known_by m) q) (among (flat_map known_by (filter stood names)) q) (ap (λ p. among (known_by p) q) (sym same) ∙ t)

abbrev records : Path
records = codes ".snakemake/smk/records/"

abbrev marks : Path
marks = codes ".snakemake/smk/marks/"

abbrev notes : Path
notes = codes ".snakemake/smk/logs/"

known_by_cases : (place q : Path) → among (known_by place) q ≡ (among (told_of records place) q || (among (told_of marks place) q || among (told_of notes place) q))
known_by_cases place q =
    among_both (told_of records place) (told_of marks place ++ told_of notes place) q ∙ ap (λ b. among (told_of records place) q || b) (among_both (told_of marks place) (told_of notes place) q)

-- ## The world

module _ (w : World) (formed : IsFormed w) where
  abbrev stood : Path → Bool
  stood q = is_some (reading (w.nodes q))

  abbrev has_sign : Path → Bool
  has_sign q = is_path_text q && (stood (record_place q) || (stood (mark_place q) || stood (note_place q)))

  named : (place : Path) → stood place ≡ true → among w.names place ≡ true
  named place h = go (among w.names place) refl
    where
      go : (b : Bool) → among w.names place ≡ b → among w.names place ≡ true
      go true e = e
      go false e = absurd (never_both (stood place) h (ap is_some (formed.complete place e)))

  sign_of : (q : Path) → ToldBy stood q → has_sign q ≡ true
  sign_of q t =
      elim (or_cases (among (told_of records t.place) q) (among (told_of marks t.place) q || among (told_of notes t.place) q) (sym (known_by_cases t.place q) ∙ t.tells)) [
        | inl r ↦ at (told_other records t.place q r).1 (or_first (stood (record_place q)) _ (moved (record_place q) (told_other records t.place q r).0))
        | inr more ↦ elim (or_cases (among (told_of marks t.place) q) (among (told_of notes t.place) q) more) [
          | inl m ↦ at (told_other marks t.place q m).1 (or_second (stood (record_place q)) _ (or_first (stood (mark_place q)) _ (moved (mark_place q) (told_other marks t.place q m).0)))
          | inr n ↦ at (told_other notes t.place q n).1 (or_second (stood (record_place q)) _ (or_second (stood (mark_place q)) _ (moved (note_place q) (told_other notes t.place q n).0)))
        ]
      ]
    where
      moved : (place : Path) → t.place ≡ place → stood place ≡ true
      moved place e = ap stood (sym e) ∙ t.stands

      at : is_path_text q ≡ true → (stood (record_place q) || (stood (mark_place q) || stood (note_place q))) ≡ true → has_sign q ≡ true
      at p h = both_true (is_path_text q) _ p h

  told_of_sign : (q : Path) → has_sign q ≡ true → among (flat_map known_by (filter stood w.names)) q ≡ true
  told_of_sign q h =
      elim (or_cases (stood (record_place q)) (stood (mark_place q) || stood (note_place q)) (and_second (is_path_text q) _ h)) [
        | inl r ↦ at (record_place q) r (or_first (among (told_of records (record_place q)) q) _ (told_itself records q path))
        | inr more ↦ elim (or_cases (stood (mark_place q)) (stood (note_place q)) more) [
          | inl m ↦ at (mark_place q) m (or_second (among (told_of records (mark_place q)) q) _ (or_first (among (told_of marks (mark_place q)) q) _ (told_itself marks q path)))
          | inr n ↦ at (note_place q) n (or_second (among (told_of records (note_place q)) q) _ (or_second (among (told_of marks (note_place q)) q) _ (told_itself notes q path)))
        ]
      ]
    where
      path : is_path_text q ≡ true
      path = and_first (is_path_text q) _ h

      at : (place : Path) → stood place ≡ true → (among (told_of records place) q || (among (told_of marks place) q || among (told_of notes place) q)) ≡ true → among (flat_map known_by (filter stood w.names)) q ≡ true
      at place s t = is_told stood q place w.names (named place s) s (known_by_cases place q ∙ t)

  -- the known paths of the image are just those with a record, a mark or a note, in byte order
  pub seen_lists_known : (read : List ℕ → Option Record) → ListsKnown (seen read w)
  seen_lists_known read = record { rising = rises (seen read w).known (adds_rising (flat_map known_by (filter stood w.names)) [] none_rises); each = each }
    where
      each : (q : Path) → among (seen read w).known q ≡ is_known (seen read w) q
      each q =
          all_added q (flat_map known_by (filter stood w.names))
          ∙ both_ways (among (flat_map known_by (filter stood w.names)) q) (has_sign q) (λ h. sign_of q (teller stood q w.names h)) (told_of_sign q)
          ∙ known_signs (is_path_text q) (stood (record_place q)) (stood (mark_place q)) (stood (note_place q)) (kept_by read q (reading (w.nodes (record_place q))))
          (λ path. kept_stands read q (reading (w.nodes (record_place q))))
