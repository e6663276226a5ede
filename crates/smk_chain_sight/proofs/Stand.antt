-- What stands in a working folder, and which of it are sources.
use Rattle.std.proofs.Common.{◌≡◌, ◌⊎◌, inl, inr, ◌≢◌, ℕ, ◌≤◌, Bool, true, false, ◌&&◌, ◌||◌, not, cond, List, [], ◌∷◌, ◌++◌, map, length, refl, sym, ap, ap₂, subst, ◌∙◌, Option, Some, None, arith, append_assoc, append-nil, length-append, filter}
use Rattle.std.specs.Prelude.{IsSome, is_some, IsTrue, All, Contains, nat_le, bytes_eq, ◌==◌}
use Rattle.std.specs.List.{list_any}
use Rattle.std.specs.Str.{IsUtf8}
use Rattle.std.proofs.lemmas.Str.{IsUtf8-from_ascii}
use Rattle.std.proofs.lemmas.Str.Ascii.{IsAscii-cons, IsAscii-nil}
use Rattle.std.proofs.lemmas.Bool.{leb-true, le-leb}
use Rattle.std.proofs.lemmas.List.Elements.{All-contains, All-weaker, All-map, All-contains_itself}
use Rattle.smk_base.specs.Path.{parts, is_path, is_path_byte, are_parts, are_path_bytes, is_under, is_at_or_under, overlaps, own_folder}
use Rattle.smk_base.proofs.Places.{and_first, and_second, same_place, place_itself}
use Rattle.smk_base.proofs.Paths.{parts-joined, are_parts-append, are_path_bytes-joined, path_bytes, path_parts}
use Rattle.smk_base.proofs.Under.{never_both, false_unless, false_of_not, or_first, or_second, or_cases, both_true, under_folder, rest_under, at_itself, at_when_under, at_or_under_cases, at_or_under_further}
use Rattle.smk_world.specs.declared.event.Node.{Node}
use Rattle.smk_world.specs.declared.event.Node.TheVariants.{Regular, Directory}
use Rattle.smk_world.specs.declared.event.NodeState.{NodeState}
use Rattle.smk_world.specs.declared.event.NodeState.TheVariants.{Owned, Known}
use Rattle.smk_world.specs.World.{World, reading, reads_folder, folders_above, is_named}
use Rattle.smk_world.specs.declared.event.Listing.{Listing}
use Rattle.smk_world.specs.declared.event.Name.{Name}
use Rattle.smk_world.specs.Calls.{in_folder, stat_of, is_name, IsTextName, MayStand, Stands, IsListing, ListingIs}
use Rattle.smk_world.specs.Trees.{Path, is_path_text, is_text}
use Rattle.smk_record.proofs.Digits.{text_is_utf8, utf8_is_text}
use Rattle.smk_store.specs.Images.{Image, is_file, is_known, is_covered, is_source, holds_source, content_of}
use Rattle.smk_store.specs.Stores.{Known as Entries, is_covered_in}
use Rattle.smk_store.proofs.Loads.{named_filter}
use Rattle.smk_store.proofs.Walks.{flat, split, Deeper, utf8_before, utf8_behind, bytes_before, bytes_behind}
use Rattle.smk_chain_sight.specs.Viewing.{Viewed, NoneUnder, SomeUnder, TellsUnder, IsSighted, by_stat}

-- ## Folders above

any_map : (P : Path → Bool) (h : Path → Path) (qs : List Path) → list_any P (map h qs) ≡ list_any (λ q. P (h q)) qs
any_map P h [] = refl
any_map P h (q ∷ qs) = ap (λ b. P (h q) || b) (any_map P h qs)

abbrev with_slash : ℕ → List Path → Bool → List Path
with_slash b folders slash = cond slash ([] ∷ map (λ q. b ∷ q) folders) (map (λ q. b ∷ q) folders)

any_by : (P : Path → Bool) (b : ℕ) (folders : List Path) (slash : Bool) → list_any P (map (λ q. b ∷ q) folders) ≡ true → list_any P (with_slash b folders slash) ≡ true
any_by P b folders true h = or_second (P []) (list_any P (map (λ q. b ∷ q) folders)) h
any_by P b folders false h = h

-- a folder with a slash after it is above the path
pub above_here : (P : Path → Bool) (p rest : Path) → P p ≡ true → list_any P (folders_above (p ++ 47 ∷ rest)) ≡ true
above_here P [] rest h = or_first (P []) (list_any P (map (λ q. 47 ∷ q) (folders_above rest))) h
above_here P (b ∷ p) rest h =
    any_by P b (folders_above (p ++ 47 ∷ rest)) (b == 47)
    (any_map P (λ q. b ∷ q) (folders_above (p ++ 47 ∷ rest)) ∙ above_here (λ q. P (b ∷ q)) p rest h)

-- so is what is above that
more_by : (P : Path → Bool) (b : ℕ) (p rest : Path) → (list_any (λ q. P (b ∷ q)) (folders_above p) ≡ true → list_any (λ q. P (b ∷ q)) (folders_above (p ++ 47 ∷ rest)) ≡ true)
    → (s : Bool) → list_any P (with_slash b (folders_above p) s) ≡ true → list_any P (with_slash b (folders_above (p ++ 47 ∷ rest)) s) ≡ true
more_by P b p rest again s h = go s h
  where
    deeper : list_any P (map (λ q. b ∷ q) (folders_above p)) ≡ true → list_any P (map (λ q. b ∷ q) (folders_above (p ++ 47 ∷ rest))) ≡ true
    deeper k = any_map P (λ q. b ∷ q) (folders_above (p ++ 47 ∷ rest)) ∙ again (sym (any_map P (λ q. b ∷ q) (folders_above p)) ∙ k)

    go : (t : Bool) → list_any P (with_slash b (folders_above p) t) ≡ true → list_any P (with_slash b (folders_above (p ++ 47 ∷ rest)) t) ≡ true
    go true k =
        elim (or_cases (P []) (list_any P (map (λ q. b ∷ q) (folders_above p))) k) [
          | inl here ↦ or_first (P []) (list_any P (map (λ q. b ∷ q) (folders_above (p ++ 47 ∷ rest)))) here
          | inr there ↦ or_second (P []) (list_any P (map (λ q. b ∷ q) (folders_above (p ++ 47 ∷ rest)))) (deeper there)
        ]
    go false k = deeper k

above_more : (P : Path → Bool) (p rest : Path) → list_any P (folders_above p) ≡ true → list_any P (folders_above (p ++ 47 ∷ rest)) ≡ true
above_more P [] rest h = absurd (never_both false h refl)
above_more P (b ∷ p) rest h = more_by P b p rest (above_more (λ q. P (b ∷ q)) p rest) (b == 47) h

pub record Above (P : Path → Bool) (p : Path) : Type 0 where
  pub folder : Path
  pub passes : P folder ≡ true
  pub over : is_under p folder ≡ true

under_same : (b : ℕ) (p f : Path) → is_under p f ≡ true → is_under (b ∷ p) (b ∷ f) ≡ true
under_same b p f h = let r = rest_under p f h in subst (λ q. is_under (b ∷ q) (b ∷ f) ≡ true) (sym r.1) (under_folder (b ∷ f) r.0)

is_by : (P : Path → Bool) (b : ℕ) (p : Path) → (list_any (λ q. P (b ∷ q)) (folders_above p) ≡ true → Above (λ q. P (b ∷ q)) p)
    → (s : Bool) → (b == 47) ≡ s → list_any P (with_slash b (folders_above p) s) ≡ true → Above P (b ∷ p)
is_by P b p again s e h = go s e h
  where
    deeper : list_any P (map (λ q. b ∷ q) (folders_above p)) ≡ true → Above P (b ∷ p)
    deeper k =
        let a = again (sym (any_map P (λ q. b ∷ q) (folders_above p)) ∙ k) in
        record { folder = b ∷ a.folder; passes = a.passes; over = under_same b p a.folder a.over }

    go : (t : Bool) → (b == 47) ≡ t → list_any P (with_slash b (folders_above p) t) ≡ true → Above P (b ∷ p)
    go true f k =
        elim (or_cases (P []) (list_any P (map (λ q. b ∷ q) (folders_above p))) k) [
          | inl here ↦ record { folder = []; passes = here; over = f }
          | inr there ↦ deeper there
        ]
    go false f k = deeper k

pub above_is : (P : Path → Bool) (p : Path) → list_any P (folders_above p) ≡ true → Above P p
above_is P [] h = absurd (never_both false h refl)
above_is P (b ∷ p) h = is_by P b p (above_is (λ q. P (b ∷ q)) p) (b == 47) refl h

-- ## What is covered

-- what is under a covered path is covered
pub covered_under : (image : Image) (q p : Path) → is_covered image p ≡ true → is_under q p ≡ true → is_covered image q ≡ true
covered_under image q p h under =
    let r = rest_under q p under in
    let above : list_any (is_known image) (folders_above (p ++ 47 ∷ r.0)) ≡ true =
    elim (or_cases (is_known image p) (list_any (is_known image) (folders_above p)) h) [
      | inl here ↦ above_here (is_known image) p r.0 here
      | inr there ↦ above_more (is_known image) p r.0 there
    ] in
    or_second (is_known image q) (list_any (is_known image) (folders_above q)) (subst (λ t. list_any (is_known image) (folders_above t) ≡ true) (sym r.1) above)

-- ## Sources

pub record Parts (image : Image) (q : Path) : Type 0 where
  pub path : is_path_text q ≡ true
  pub file : is_file image q ≡ true
  pub uncovered : is_covered image q ≡ false

pub source_parts : (image : Image) (q : Path) → is_source image q ≡ true → Parts image q
source_parts image q h =
    let more = and_second (is_path_text q) (is_file image q && not (is_covered image q)) h in
    record {
      path = and_first (is_path_text q) (is_file image q && not (is_covered image q)) h;
      file = and_first (is_file image q) (not (is_covered image q)) more;
      uncovered = false_of_not (is_covered image q) (and_second (is_file image q) (not (is_covered image q)) more);
    }

pub is_a_source : (image : Image) (q : Path) → is_path_text q ≡ true → is_file image q ≡ true → is_covered image q ≡ false → is_source image q ≡ true
is_a_source image q path file uncovered =
    both_true (is_path_text q) (is_file image q && not (is_covered image q)) path
    (both_true (is_file image q) (not (is_covered image q)) file (ap not uncovered))

pub no_source_unless : (image : Image) (q : Path) → (is_source image q ≡ true → ⊥) → is_source image q ≡ false
no_source_unless image q never = false_unless (is_source image q) never

-- what is covered is no source, nor is what is under it
pub covered_none : (image : Image) (q : Path) → is_covered image q ≡ true → is_source image q ≡ false
covered_none image q h = no_source_unless image q (λ s. never_both (is_covered image q) h (source_parts image q s).uncovered)

pub covered_none_at : (image : Image) (q p : Path) → is_covered image p ≡ true → is_at_or_under q p ≡ true → is_source image q ≡ false
covered_none_at image q p h at =
    elim (at_or_under_cases q p at) [
      | inl e ↦ covered_none image q (ap (is_covered image) e ∙ h)
      | inr under ↦ covered_none image q (covered_under image q p h under)
    ]

pub file_some : (n : Option Node) → is_some (content_of n) ≡ true → IsSome n
file_some None h = absurd (never_both false h refl)
file_some (Some (Regular bytes time read_only)) h = refl
file_some (Some Directory) h = refl

not_folder : (s : NodeState) → is_some (content_of (reading s)) ≡ true → reads_folder s ≡ true → ⊥
not_folder Owned h k = never_both false k refl
not_folder (Known None besides) h k = never_both false k refl
not_folder (Known (Some (Regular bytes time read_only)) besides) h k = never_both false k refl
not_folder (Known (Some Directory) besides) h k = never_both false h refl

plain_file : (s : NodeState) → IsSome (reading s) → reads_folder s ≡ false → is_some (content_of (reading s)) ≡ true
plain_file Owned h k = absurd (never_both false h refl)
plain_file (Known None besides) h k = absurd (never_both false h refl)
plain_file (Known (Some (Regular bytes time read_only)) besides) h k = refl
plain_file (Known (Some Directory) besides) h k = absurd (never_both true refl k)

module _ (nodes : Path → NodeState) (store : List Entries) (image : Image) (v : Viewed nodes store image) where
  -- a source is a file that reads
  pub source_reads : (q : Path) → is_source image q ≡ true → is_some (content_of (reading (nodes q))) ≡ true
  source_reads q s = let p = source_parts image q s in sym (ap (λ n. is_some (content_of n)) (v.node q p.path)) ∙ p.file

  -- where no folder is, there is no source under it
  pub none_under : (p : Path) → is_path_text p ≡ true → reads_folder (nodes p) ≡ false → NoneUnder image p
  none_under p path plain q under =
      let r = rest_under q p under in
      no_source_unless image q
      (λ s. never_both (reads_folder (nodes p))
      (v.in_folders p r.0 path (subst (λ t. IsSome (reading (nodes t))) r.1 (file_some (reading (nodes q)) (source_reads q s)))) plain)

  -- a folder is no source
  pub folder_none : (p : Path) → reads_folder (nodes p) ≡ true → is_source image p ≡ false
  folder_none p h = no_source_unless image p (λ s. not_folder (nodes p) (source_reads p s) h)

  -- a file that isn't covered is one
  pub file_source : (p : Path) → is_path_text p ≡ true → IsSome (reading (nodes p)) → reads_folder (nodes p) ≡ false → is_covered_in store p ≡ false → is_source image p ≡ true
  file_source p path some plain uncovered =
      is_a_source image p path (ap (λ n. is_some (content_of n)) (v.node p path) ∙ plain_file (nodes p) some plain) (sym (v.covered p) ∙ uncovered)

  -- ## One look

  pub sighted_covered : (p : Path) → is_covered_in store p ≡ true → IsSighted image p (record { source = false; folder = false })
  sighted_covered p h =
      let covered = sym (v.covered p) ∙ h in
      record { source = sym (covered_none image p covered); none = λ plain q under. covered_none image q (covered_under image q p covered under) }

  sighted_by : (p : Path) (s : NodeState) → nodes p ≡ s → is_path_text p ≡ true → is_covered_in store p ≡ false → IsSighted image p (by_stat (stat_of (reading s)))
  sighted_by p Owned e path uncovered = absurd (never_both (is_covered_in store p) (v.owned p path e) uncovered)
  sighted_by p (Known None besides) e path uncovered =
      record {
        source = sym (no_source_unless image p (λ s. never_both false (sym (ap (λ (t : NodeState). is_some (content_of (reading t))) e) ∙ source_reads p s) refl));
        none = λ plain. none_under p path (ap reads_folder e);
      }
  sighted_by p (Known (Some (Regular bytes time read_only)) besides) e path uncovered =
      record {
        source = sym (file_source p path (ap (λ (t : NodeState). is_some (reading t)) e) (ap reads_folder e) uncovered);
        none = λ plain. none_under p path (ap reads_folder e);
      }
  sighted_by p (Known (Some Directory) besides) e path uncovered =
      record {
        source = sym (folder_none p (ap reads_folder e));
        none = λ plain. absurd (never_both true refl plain);
      }

  pub sighted_is : (p : Path) → is_path_text p ≡ true → is_covered_in store p ≡ false → IsSighted image p (by_stat (stat_of (reading (nodes p))))
  sighted_is p path uncovered = sighted_by p (nodes p) refl path uncovered

  -- ## What a path holds

  any_named : (f : Path → Bool) (q : Path) (ps : List Path) → is_named q ps ≡ true → f q ≡ true → list_any f ps ≡ true
  any_named f q [] h k = absurd (never_both false h refl)
  any_named f q (p ∷ ps) h k =
      elim (or_cases (bytes_eq q p) (is_named q ps) h) [
        | inl here ↦ or_first (f p) (list_any f ps) (subst (λ t. f t ≡ true) (same_place q p here) k)
        | inr there ↦ or_second (f p) (list_any f ps) (any_named f q ps there k)
      ]

  pub holds_yes : (p q : Path) → is_source image q ≡ true → overlaps p q ≡ true → holds_source image p ≡ true
  holds_yes p q s h =
      any_named (overlaps p) q (filter (is_source image) image.names)
      (named_filter (is_source image) q image.names ∙ both_true (is_source image q) (is_named q image.names) s (v.named q s)) h

  filter_none : (test f : Path → Bool) (ps : List Path) → ((q : Path) → test q ≡ true → f q ≡ false) → list_any f (filter test ps) ≡ false
  filter_none test f [] none = refl
  filter_none test f (p ∷ ps) none = go (test p) refl (filter_none test f ps none)
    where
      go : (b : Bool) → test p ≡ b → list_any f (filter test ps) ≡ false → list_any f (cond b (p ∷ filter test ps) (filter test ps)) ≡ false
      go true e rest = ap (λ x. x || list_any f (filter test ps)) (none p e) ∙ rest
      go false e rest = rest

  pub holds_no : (p : Path) → ((q : Path) → is_source image q ≡ true → overlaps p q ≡ true → ⊥) → holds_source image p ≡ false
  holds_no p never = filter_none (is_source image) (overlaps p) image.names (λ q s. false_unless (overlaps p q) (never q s))

  -- a source above it
  pub holds_above : (p : Path) → list_any (is_source image) (folders_above p) ≡ true → holds_source image p ≡ true
  holds_above p h =
      let a = above_is (is_source image) p h in
      holds_yes p a.folder a.passes (or_second (bytes_eq p a.folder) (is_under p a.folder || is_under a.folder p) (or_first (is_under p a.folder) (is_under a.folder p) a.over))

  -- a source under it
  pub holds_under : (p : Path) → SomeUnder image p → holds_source image p ≡ true
  holds_under p u = holds_yes p u.0 u.2 (or_second (bytes_eq p u.0) (is_under p u.0 || is_under u.0 p) (or_second (is_under p u.0) (is_under u.0 p) u.1))

  pub holds_itself : (p : Path) → is_source image p ≡ true → holds_source image p ≡ true
  holds_itself p s = holds_yes p p s (or_first (bytes_eq p p) (is_under p p || is_under p p) (place_itself p))

  pub holds_none : (p : Path) → is_source image p ≡ false → list_any (is_source image) (folders_above p) ≡ false → NoneUnder image p → holds_source image p ≡ false
  holds_none p here above under =
      holds_no p (λ q s h.
      elim (or_cases (bytes_eq p q) (is_under p q || is_under q p) h) [
        | inl e ↦ never_both (is_source image q) s (sym (ap (is_source image) (same_place p q e)) ∙ here)
        | inr more ↦ elim (or_cases (is_under p q) (is_under q p) more) [
          | inl over ↦ let r = rest_under p q over in never_both (list_any (is_source image) (folders_above p)) (subst (λ t. list_any (is_source image) (folders_above t) ≡ true) (sym r.1) (above_here (is_source image) q r.0 s)) above
          | inr below ↦ never_both (is_source image q) s (under q below)
        ]
      ])

  pub holds_by : (p : Path) (found : Bool) → is_source image p ≡ false → list_any (is_source image) (folders_above p) ≡ false → TellsUnder image p found → found ≡ holds_source image p
  holds_by p true here above t = sym (holds_under p (t.some refl))
  holds_by p false here above t = sym (holds_none p here above (t.none refl))

-- ## A folder above a path is one

outside_above : (a b : Path) → is_at_or_under (a ++ 47 ∷ b) own_folder ≡ false → is_at_or_under a own_folder ≡ false
outside_above a b h = false_unless (is_at_or_under a own_folder) (λ k. never_both (is_at_or_under (a ++ 47 ∷ b) own_folder) (at_or_under_further (a ++ 47 ∷ b) a own_folder (at_when_under (a ++ 47 ∷ b) a (under_folder a b)) k) h)

pub path_outside : (p : Path) → is_path p ≡ true → is_at_or_under p own_folder ≡ false
path_outside p h =
    false_of_not (is_at_or_under p own_folder)
    (and_second (are_parts (parts p)) (not (is_at_or_under p own_folder))
    (and_second (are_path_bytes p) (are_parts (parts p) && not (is_at_or_under p own_folder))
    (and_second (nat_le (length p) 1000) (are_path_bytes p && (are_parts (parts p) && not (is_at_or_under p own_folder))) h)))

path_length : (p : Path) → is_path p ≡ true → length p ≤ 1000
path_length p h = leb-true (length p) 1000 (and_first (nat_le (length p) 1000) (are_path_bytes p && (are_parts (parts p) && not (is_at_or_under p own_folder))) h)

pub path_above : (a b : Path) → is_path (a ++ 47 ∷ b) ≡ true → is_path a ≡ true
path_above a b h =
    both_true (nat_le (length a) 1000) (are_path_bytes a && (are_parts (parts a) && not (is_at_or_under a own_folder)))
    (le-leb (length a) 1000 (omega (arith, path_length (a ++ 47 ∷ b) h, length-append a (47 ∷ b))))
    (both_true (are_path_bytes a) (are_parts (parts a) && not (is_at_or_under a own_folder))
    (and_first (are_path_bytes a) (are_path_bytes b) (sym (are_path_bytes-joined a b) ∙ path_bytes (a ++ 47 ∷ b) h))
    (both_true (are_parts (parts a)) (not (is_at_or_under a own_folder))
    (and_first (are_parts (parts a)) (are_parts (parts b)) (sym (ap are_parts (parts-joined a b) ∙ are_parts-append (parts a) (parts b)) ∙ path_parts (a ++ 47 ∷ b) h))
    (ap not (outside_above a b (path_outside (a ++ 47 ∷ b) h)))))

pub text_above : (a b : Path) → is_path_text (a ++ 47 ∷ b) ≡ true → is_path_text a ≡ true
text_above a b h =
    both_true (is_path a) (is_text a)
    (path_above a b (and_first (is_path (a ++ 47 ∷ b)) (is_text (a ++ 47 ∷ b)) h))
    (utf8_is_text a (utf8_before a b (text_is_utf8 (a ++ 47 ∷ b) (and_second (is_path (a ++ 47 ∷ b)) (is_text (a ++ 47 ∷ b)) h))))

-- what is no path has nothing under it that is one
pub none_at_none : (image : Image) (p q : Path) → is_path_text p ≡ false → is_at_or_under q p ≡ true → is_source image q ≡ false
none_at_none image p q other at =
    no_source_unless image q (λ s.
    elim (at_or_under_cases q p at) [
      | inl e ↦ never_both (is_path_text p) (sym (ap is_path_text e) ∙ (source_parts image q s).path) other
      | inr under ↦
          let r = rest_under q p under in
          never_both (is_path_text p) (text_above p r.0 (subst (λ t. is_path_text t ≡ true) r.1 (source_parts image q s).path)) other
    ])

-- ## Names in a folder

-- the first part after a folder isn't empty
some_part : (a part rest : Path) → is_path (a ++ 47 ∷ (part ++ rest)) ≡ true → (rest ≡ []) ⊎ ((more : Path) × (rest ≡ 47 ∷ more)) → part ≡ [] → ⊥
some_part a part rest h (inl end) none =
    never_both false
    (and_second (are_parts (parts a)) (are_parts (parts []))
    (sym (ap are_parts (parts-joined a []) ∙ are_parts-append (parts a) (parts []))
    ∙ path_parts (a ++ 47 ∷ []) (subst (λ t. is_path (a ++ 47 ∷ t) ≡ true) (ap₂ ◌++◌ none end) h))) refl
some_part a part rest h (inr more) none =
    never_both false
    (and_second (are_parts (parts a)) (are_parts (parts (47 ∷ more.0)))
    (sym (ap are_parts (parts-joined a (47 ∷ more.0)) ∙ are_parts-append (parts a) (parts (47 ∷ more.0)))
    ∙ path_parts (a ++ 47 ∷ (47 ∷ more.0)) (subst (λ t. is_path (a ++ 47 ∷ t) ≡ true) (ap₂ ◌++◌ none more.1) h))) refl

long_enough : (part : Path) → (part ≡ [] → ⊥) → nat_le 1 (length part) ≡ true
long_enough [] never = absurd (never refl)
long_enough (b ∷ part) never = le-leb 1 (length (b ∷ part)) (omega arith)

no_feed : (t : List ℕ) → are_path_bytes t ≡ true → list_any (λ (b : ℕ). b == 10) t ≡ false
no_feed [] h = refl
no_feed (b ∷ t) h =
    let here : is_path_byte b ≡ true = and_first (is_path_byte b) (are_path_bytes t) h in
    ap (λ (v : Bool). v || list_any (λ (x : ℕ). x == 10) t) (false_of_not (b == 10) (and_second (not (b == 0)) (not (b == 10)) here))
    ∙ no_feed t (and_second (is_path_byte b) (are_path_bytes t) h)

slash_utf8 : IsUtf8 (47 ∷ [])
slash_utf8 = IsUtf8-from_ascii (47 ∷ []) (IsAscii-cons 47 [] (omega arith) IsAscii-nil)

rest_utf8 : (folder rest : Path) → is_path_text (folder ++ 47 ∷ rest) ≡ true → IsUtf8 rest
rest_utf8 folder rest h =
    let all = text_is_utf8 (folder ++ 47 ∷ rest) (and_second (is_path (folder ++ 47 ∷ rest)) (is_text (folder ++ 47 ∷ rest)) h) in
    utf8_behind (47 ∷ []) rest (utf8_behind folder (47 ∷ rest) all (utf8_before folder rest all)) slash_utf8

folder_some : (s : NodeState) → reads_folder s ≡ true → IsSome (reading s)
folder_some Owned h = absurd (never_both false h refl)
folder_some (Known None besides) h = absurd (never_both false h refl)
folder_some (Known (Some (Regular bytes time read_only)) besides) h = absurd (never_both false h refl)
folder_some (Known (Some Directory) besides) h = refl

-- the name, and that it is text
pub name_of_part : (a part rest : Path) → is_path_text (a ++ 47 ∷ (part ++ rest)) ≡ true → (rest ≡ []) ⊎ ((more : Path) × (rest ≡ 47 ∷ more)) → flat part ≡ true → IsUtf8 part → (is_name part ≡ true) × IsTextName part
name_of_part a part rest h ends is_flat utf8 =
    let path = and_first (is_path (a ++ 47 ∷ (part ++ rest))) (is_text (a ++ 47 ∷ (part ++ rest))) h in
    let bytes = bytes_before part rest (bytes_behind (47 ∷ []) (part ++ rest) (bytes_behind a (47 ∷ (part ++ rest)) (path_bytes (a ++ 47 ∷ (part ++ rest)) path))) in
    (both_true (nat_le 1 (length part)) (flat part) (long_enough part (some_part a part rest path ends)) is_flat, (utf8, no_feed part bytes))

-- the name stands in the folder, and is a folder's where it says so
abbrev pub NameStands : (Path → NodeState) → Path → Name → Type 0
NameStands nodes folder n = IsSome (reading (nodes (in_folder folder n.name))) × (n.folder ≡ reads_folder (nodes (in_folder folder n.name)))

-- the same of a name that stands for a path, unless that is covered
abbrev pub NameTells : (Path → NodeState) → List Entries → Path → Name → Type 0
NameTells nodes store folder n = is_path_text (in_folder folder n.name) ≡ true → is_covered_in store (in_folder folder n.name) ≡ false → NameStands nodes folder n

-- So it is of each of these names; and in a folder that isn't covered each name where something stands is among them.
pub record ListedIn (nodes : Path → NodeState) (store : List Entries) (folder : Path) (names : List Name) : Type 0 where
  pub each : All (NameTells nodes store folder) names
  pub all : is_covered_in store folder ≡ false → (name : Path) → is_name name ≡ true → IsTextName name → IsSome (reading (nodes (in_folder folder name))) → Contains (map (λ (n : Name). n.name) names) name

may_stand : (folder : Bool) (s : NodeState) → s ≢ Owned → MayStand folder s → IsSome (reading s) × (folder ≡ reads_folder s)
may_stand folder Owned other h = absurd (other refl)
may_stand folder (Known None besides) other h = absurd h
may_stand folder (Known (Some (Regular bytes time read_only)) besides) other h = (refl, sym h)
may_stand folder (Known (Some Directory) besides) other h = (refl, sym h)

none_some : (A : Type 0) → IsSome {T = A} None → ⊥
none_some A h = cc

stands_there : (s : NodeState) → IsSome (reading s) → Stands s
stands_there Owned h = absurd (none_some Node h)
stands_there (Known None besides) h = absurd (none_some Node h)
stands_there (Known (Some node) besides) h = tt

none_listed : (nodes : Path → NodeState) (store : List Entries) (image : Image) (folder : Path) (names : List Name) → Viewed nodes store image → is_path_text folder ≡ true → names ≡ [] → reads_folder (nodes folder) ≡ false → ListedIn nodes store folder names
none_listed nodes store image folder names v path none plain =
    record {
      each = subst (All (NameTells nodes store folder)) (sym none) (λ k d lt. absurd (omega arith));
      all = λ uncovered name is text some. absurd (never_both (reads_folder (nodes folder)) (v.in_folders folder name path some) plain);
    }

all_listed : (w : World) (store : List Entries) (image : Image) (folder : Path) (listing : Listing) → Viewed w.nodes store image → IsListing w folder listing → ListedIn w.nodes store folder listing.names
all_listed w store image folder listing v h =
    record {
      each = All-weaker (λ (n : Name). IsTrue (is_name n.name) × IsTextName n.name × MayStand n.folder (w.nodes (in_folder folder n.name))) (NameTells w.nodes store folder)
          (λ n p path uncovered.
          may_stand n.folder (w.nodes (in_folder folder n.name)) (λ owned. never_both (is_covered_in store (in_folder folder n.name)) (v.owned (in_folder folder n.name) path owned) uncovered) p.2)
          listing.names h.stand;
      all = λ uncovered name is text some. h.all name is text (stands_there (w.nodes (in_folder folder name)) some);
    }

-- what is in a covered folder is covered
covered_in : (nodes : Path → NodeState) (store : List Entries) (image : Image) (folder name : Path) → Viewed nodes store image → is_covered_in store folder ≡ true → is_covered_in store (in_folder folder name) ≡ true
covered_in nodes store image folder name v h = v.covered (in_folder folder name) ∙ covered_under image (in_folder folder name) folder (sym (v.covered folder) ∙ h) (under_folder folder name)

-- a covered folder tells nothing
covered_listed : (nodes : Path → NodeState) (store : List Entries) (image : Image) (folder : Path) (names : List Name) → Viewed nodes store image → is_covered_in store folder ≡ true → ListedIn nodes store folder names
covered_listed nodes store image folder names v h =
    record {
      each = All-weaker (Contains names) (NameTells nodes store folder)
          (λ n c path uncovered. absurd (never_both (is_covered_in store (in_folder folder n.name)) (covered_in nodes store image folder n.name v h) uncovered)) names (All-contains_itself names);
      all = λ uncovered. absurd (never_both (is_covered_in store folder) h uncovered);
    }

listed_by : (w : World) (store : List Entries) (image : Image) (folder : Path) (listing : Listing) (s : NodeState) → Viewed w.nodes store image → is_path_text folder ≡ true → w.nodes folder ≡ s → ListingIs w folder listing s → ListedIn w.nodes store folder listing.names
listed_by w store image folder listing Owned v path at h = covered_listed w.nodes store image folder listing.names v (v.owned folder path at)
listed_by w store image folder listing (Known None besides) v path at h = none_listed w.nodes store image folder listing.names v path (ap (λ (l : Listing). l.names) h) (ap reads_folder at)
listed_by w store image folder listing (Known (Some (Regular bytes time read_only)) besides) v path at h = none_listed w.nodes store image folder listing.names v path (ap (λ (l : Listing). l.names) h) (ap reads_folder at)
listed_by w store image folder listing (Known (Some Directory) besides) v path at h = all_listed w store image folder listing v h.1

pub listed_in : (w : World) (store : List Entries) (image : Image) (folder : Path) (listing : Listing) → Viewed w.nodes store image → is_path_text folder ≡ true → ListingIs w folder listing (w.nodes folder) → ListedIn w.nodes store folder listing.names
listed_in w store image folder listing v path h = listed_by w store image folder listing (w.nodes folder) v path refl h

-- ## Name by name

-- neither the name's place nor anything under it is a source
abbrev pub NoneAt : Image → Path → Name → Type 0
NoneAt image folder n = (q : Path) → is_at_or_under q (in_folder folder n.name) ≡ true → is_source image q ≡ false

named_in : (names : List Name) (name : Path) → Contains (map (λ (n : Name). n.name) names) name → (n : Name) × Contains names n × (n.name ≡ name)
named_in names name h =
    All-contains (λ (x : Path). (n : Name) × Contains names n × (n.name ≡ x)) (map (λ (n : Name). n.name) names) name
    (All-map (λ (x : Path). (n : Name) × Contains names n × (n.name ≡ x)) (λ (n : Name). n.name) names
    (All-weaker (Contains names) (λ (m : Name). (n : Name) × Contains names n × (n.name ≡ m.name)) (λ m c. (m, c, refl)) names (All-contains_itself names))) h

module _ (nodes : Path → NodeState) (store : List Entries) (image : Image) (v : Viewed nodes store image) (folder : Path) (names : List Name) (l : ListedIn nodes store folder names) where
  -- a place that isn't a path's, or is covered, or that of a folder with no source under it
  pub at_no_path : (n : Name) → is_path_text (in_folder folder n.name) ≡ false → NoneAt image folder n
  at_no_path n other q at = none_at_none image (in_folder folder n.name) q other at

  pub at_covered : (n : Name) → is_covered_in store (in_folder folder n.name) ≡ true → NoneAt image folder n
  at_covered n h q at = covered_none_at image q (in_folder folder n.name) (sym (v.covered (in_folder folder n.name)) ∙ h) at

  pub at_folder : (n : Name) → reads_folder (nodes (in_folder folder n.name)) ≡ true → NoneUnder image (in_folder folder n.name) → NoneAt image folder n
  at_folder n is none q at =
      elim (at_or_under_cases q (in_folder folder n.name) at) [
        | inl e ↦ ap (is_source image) e ∙ folder_none nodes store image v (in_folder folder n.name) is
        | inr under ↦ none q under
      ]

  -- all names in a folder that isn't covered were gone over
  none_in_open : is_covered_in store folder ≡ false → All (NoneAt image folder) names → NoneUnder image folder
  none_in_open uncovered all q under =
      no_source_unless image q (λ s.
      let r = rest_under q folder under in
      let path : is_path_text (in_folder folder r.0) ≡ true = subst (λ t. is_path_text t ≡ true) r.1 (source_parts image q s).path in
      let some : IsSome (reading (nodes (in_folder folder r.0))) = subst (λ t. IsSome (reading (nodes t))) r.1 (file_some (reading (nodes q)) (source_reads nodes store image v q s)) in
      never_both (is_source image (in_folder folder r.0)) (sym (ap (is_source image) r.1) ∙ s) (by r.0 path some (split r.0)))
    where
      by : (rest : Path) → is_path_text (in_folder folder rest) ≡ true → IsSome (reading (nodes (in_folder folder rest))) → (flat rest ≡ true) ⊎ Deeper rest → is_source image (in_folder folder rest) ≡ false
      by rest path some (inl is_flat) =
          let whole : is_path_text (folder ++ 47 ∷ (rest ++ [])) ≡ true = subst (λ t. is_path_text (folder ++ 47 ∷ t) ≡ true) (sym (append-nil rest)) path in
          let name = name_of_part folder rest [] whole (inl refl) is_flat (rest_utf8 folder rest path) in
          let n = named_in names rest (l.all uncovered rest name.0 name.1 some) in
          All-contains (NoneAt image folder) names n.0 all n.1 (in_folder folder rest) (subst (λ t. is_at_or_under (in_folder folder rest) (in_folder folder t) ≡ true) (sym n.2) (at_itself (in_folder folder rest)))
      by rest path some (inr d) =
          let inner = in_folder folder d.part in
          let joined : in_folder folder rest ≡ inner ++ 47 ∷ d.rest = ap (in_folder folder) d.is ∙ sym (append_assoc folder (47 ∷ d.part) (47 ∷ d.rest)) in
          let whole : is_path_text (folder ++ 47 ∷ (d.part ++ 47 ∷ d.rest)) ≡ true = subst (λ t. is_path_text (folder ++ 47 ∷ t) ≡ true) d.is path in
          let utf8 : IsUtf8 d.part = utf8_before d.part d.rest (rest_utf8 folder (d.part ++ 47 ∷ d.rest) whole) in
          let name = name_of_part folder d.part (47 ∷ d.rest) whole (inr (d.rest, refl)) d.is_flat utf8 in
          let inner_path : is_path_text inner ≡ true = text_above inner d.rest (subst (λ t. is_path_text t ≡ true) joined path) in
          let is = v.in_folders inner d.rest inner_path (subst (λ t. IsSome (reading (nodes t))) joined some) in
          let n = named_in names d.part (l.all uncovered d.part name.0 name.1 (folder_some (nodes inner) is)) in
          let under : is_under (in_folder folder rest) inner ≡ true = subst (λ t. is_under t inner ≡ true) (sym joined) (under_folder inner d.rest) in
          All-contains (NoneAt image folder) names n.0 all n.1 (in_folder folder rest)
          (subst (λ t. is_at_or_under (in_folder folder rest) (in_folder folder t) ≡ true) (sym n.2) (at_when_under (in_folder folder rest) inner under))

  -- all names were gone over
  pub none_in : All (NoneAt image folder) names → NoneUnder image folder
  none_in all q under = with_cover (is_covered_in store folder) refl
    where
      with_cover : (b : Bool) → is_covered_in store folder ≡ b → is_source image q ≡ false
      with_cover true h = covered_none image q (covered_under image q folder (sym (v.covered folder) ∙ h) under)
      with_cover false h = none_in_open h all q under
