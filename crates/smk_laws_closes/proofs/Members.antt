-- What stands under a directory output may be recorded just where each name is a path.
use Rattle.std.proofs.Common.{◌≡◌, ℕ, Bool, true, false, ◌&&◌, not, List, [], ◌∷◌, ◌++◌, map, refl, sym, ap, subst, ◌∙◌, inl, inr, Option, None, is_some, bytes_eq, append_assoc}
use Rattle.std.specs.Prelude.{if◌then◌else◌}
use Rattle.std.specs.List.{list_all}
use Rattle.std.specs.List.Sorted.{IsStrictlySortedBy}
use Rattle.std.proofs.lemmas.List.Kept.{IsStrictlySortedBy-filter}
use Rattle.std.specs.Cmp.Lexicographic.{slice_cmp}
use Rattle.std.specs.Ordering.{nat_cmp, ordering_then}
use Rattle.std.specs.declared.cmp.Ordering.{Ordering}
use Rattle.std.proofs.lemmas.Cmp.{nat_cmp_total, tied_itself}
use Rattle.smk_base.specs.Path.{is_at_or_under, is_path, is_under, own_folder}
use Rattle.smk_base.proofs.Apart.{path_outside, outside-own}
use Rattle.smk_base.proofs.Places.{and_second, place_itself}
use Rattle.smk_base.proofs.Under.{at_when_under, both_true, false_unless, never_both, or_first, or_second, rest_under, under_folder, under_further}
use Rattle.smk_world.specs.Calls.{in_folder}
use Rattle.smk_world.specs.Folders.{IsTree}
use Rattle.smk_world.specs.Trees.{Path, Each, IsIn, among, are_members, below}
use Rattle.smk_world.specs.World.{IsFormed, IsRising, World, folders_above, reading, reads_folder}
use Rattle.smk_record.specs.declared.record.Member.{Member}
use Rattle.smk_record.specs.declared.record.Record.{Record}
use Rattle.smk_record.specs.Records.{are_rising, is_less, is_member_folder}
use Rattle.smk_store.specs.Images.{Image, is_directory, is_folder, is_outside, members_under, names_under, seen}
use Rattle.smk_store_members.specs.Members.{AreMembers, IsFound, IsThere, member_places}
use Rattle.smk_store_members.specs.Members.IsFound.{Deeper, Inside}
use Rattle.smk_store_members.proofs.Trees.{some_stands, stands_some, tree_found}
use Rattle.smk_store_members.proofs.Under.{below_in, folder_read, found_stands}
use Rattle.smk_laws_protocol.proofs.Basics.{each_of, filter_in, in_among, in_filter}
use Rattle.smk_laws_protocol.proofs.TextFolders.{folders_are}

-- ## Names

below_under : (p q : Path) → is_under q p ≡ true → in_folder p (below p q) ≡ q
below_under p q under =
    let r = rest_under q p under in
    ap (λ (t : Path). in_folder p (below p t)) r.1 ∙ (ap (in_folder p) (below_in p r.0) ∙ sym r.1)

cmp_same : (a : ℕ) (r : Ordering) → ordering_then (nat_cmp a a) r ≡ r
cmp_same a r = ap (λ x. ordering_then x r) (tied_itself nat_cmp_total a)

cmp_after : (p a b : Path) → slice_cmp nat_cmp (p ++ a) (p ++ b) ≡ slice_cmp nat_cmp a b
cmp_after [] a b = refl
cmp_after (x ∷ p) a b = cmp_same x (slice_cmp nat_cmp (p ++ a) (p ++ b)) ∙ cmp_after p a b

cmp_in : (p a b : Path) → slice_cmp nat_cmp (in_folder p a) (in_folder p b) ≡ slice_cmp nat_cmp a b
cmp_in p a b = cmp_after p (47 ∷ a) (47 ∷ b) ∙ cmp_same 47 (slice_cmp nat_cmp a b)

cmp_below : (p q r : Path) → is_under q p ≡ true → is_under r p ≡ true → slice_cmp nat_cmp q r ≡ slice_cmp nat_cmp (below p q) (below p r)
cmp_below p q r u v = (λ i. slice_cmp nat_cmp (sym (below_under p q u) i) (sym (below_under p r v) i)) ∙ cmp_in p (below p q) (below p r)

-- names that rise do so in the folder
rise_below : (p : Path) (qs : List Path) → Each (λ q. is_under q p ≡ true) qs → IsRising qs → are_rising (map (below p) qs) ≡ true
unfolding IsStrictlySortedBy
rise_below p [] under rise = refl
rise_below p (q ∷ []) under rise = refl
rise_below p (q ∷ (r ∷ qs)) under rise =
    both_true (is_less (slice_cmp nat_cmp (below p q) (below p r))) (are_rising (map (below p) (r ∷ qs)))
    (ap is_less (sym (cmp_below p q r under.0 under.1.0) ∙ rise.0.0)) (rise_below p (r ∷ qs) under.1 rise.1)

member_names : (F : Path → Bool) (p : Path) (qs : List Path) → map (λ (m : Member). m.name) (map (λ q. record { folder = F q; name = below p q }) qs) ≡ map (below p) qs
member_names F p [] = refl
member_names F p (q ∷ qs) = ap (λ ns. below p q ∷ ns) (member_names F p qs)

-- ## A folder in the world

module _ (read : List ℕ → Option Record) (w : World) (formed : IsFormed w) (tree : IsTree w) (p : Path) (path : is_path p ≡ true) where
  abbrev image : Image
  image = seen read w

  abbrev stood : Path → Bool
  stood q = is_outside q && is_some (reading (w.nodes q))

  outside : (q : Path) → is_at_or_under q p ≡ true → is_outside q ≡ true
  outside q at =
      ap not (false_unless (is_at_or_under q own_folder) (λ own. never_both (is_at_or_under q p) at (outside-own p q (path_outside p path) own).at_or_over))

  node_is : (q : Path) → is_at_or_under q p ≡ true → image.node q ≡ reading (w.nodes q)
  node_is q at = ap (λ (b : Bool). if b then reading (w.nodes q) else None) (outside q at)

  -- what is under the folder by name
  record IsInside (q : Path) : Type 0 where
    under : is_under q p ≡ true
    some : is_some (reading (w.nodes q)) ≡ true

  named_inside : (q : Path) → IsIn (names_under image p) q → IsInside q
  named_inside q i =
      let a = in_filter (λ x. is_under x p) image.names q i in
      let b = in_filter stood w.names q a.0 in
      record { under = a.1; some = and_second (is_outside q) (is_some (reading (w.nodes q))) b.1 }

  in_names : (q : Path) → is_some (reading (w.nodes q)) ≡ true → IsIn w.names q
  in_names q some = in_among w.names q (go (among w.names q) refl)
    where
      go : (b : Bool) → among w.names q ≡ b → among w.names q ≡ true
      go true e = e
      go false e = absurd (never_both (is_some (reading (w.nodes q))) some (ap (λ n. is_some n) (formed.complete q e)))

  inside_named : (q : Path) → IsInside q → IsIn (names_under image p) q
  inside_named q h =
      filter_in (λ x. is_under x p) image.names q
      (filter_in stood w.names q (in_names q h.some) (both_true (is_outside q) (is_some (reading (w.nodes q))) (outside q (at_when_under q p h.under)) h.some)) h.under

  names_rise : IsRising (names_under image p)
  names_rise = IsStrictlySortedBy-filter (slice_cmp nat_cmp) (λ x. is_under x p) image.names (IsStrictlySortedBy-filter (slice_cmp nat_cmp) stood w.names formed.rising)

  abbrev member_at : Path → Member
  member_at q = record { folder = is_folder image q; name = below p q }

  -- ## What is listed is there

  there_one : (q : Path) → IsInside q → IsThere w.nodes p (member_at q)
  there_one q h =
      subst (λ (x : Path). IsFound w.nodes p x × (reads_folder (w.nodes x) ≡ is_folder image q)) (sym (below_under p q h.under)) (
        tree_found w tree p q h.under (some_stands (w.nodes q) h.some),
        folder_read (w.nodes q) ∙ sym (ap is_directory (node_is q (at_when_under q p h.under))),
      )

  found_inside : (q : Path) → IsFound w.nodes p q → IsInside q
  found_inside q found = record { under = under q found; some = stands_some (w.nodes q) (found_stands w.nodes p q found) }
    where
      under : (q : Path) → IsFound w.nodes p q → is_under q p ≡ true
      under q (Inside name is st) = under_folder p name
      under q (Deeper folder name before reads is st) = under_further (in_folder folder name) folder p (under_folder folder name) (under folder before)

  there_all : (qs : List Path) → Each IsInside qs → Each (IsThere w.nodes p) (map member_at qs)
  there_all [] h = tt
  there_all (q ∷ qs) h = (there_one q h.0, there_all qs h.1)

  place_in : (q : Path) (qs : List Path) → is_under q p ≡ true → IsIn qs q → IsIn (member_places p (map member_at qs)) q
  place_in q [] under i = absurd i
  place_in q (x ∷ qs) under (inl e) = inl (sym (below_under p q under) ∙ ap (λ (t : Path). in_folder p (below p t)) e)
  place_in q (x ∷ qs) under (inr i) = inr (place_in q qs under i)

  -- ## Folders above

  above_there : (q f : Path) → IsInside q → is_under (below p q) f ≡ true → IsInside (in_folder p f) × (is_folder image (in_folder p f) ≡ true)
  above_there q f h above =
      let r = rest_under (below p q) f above in
      let whole : q ≡ in_folder p f ++ 47 ∷ r.0 = sym (below_under p q h.under) ∙ (ap (in_folder p) r.1 ∙ sym (append_assoc p (47 ∷ f) (47 ∷ r.0))) in
      let under : is_under q (in_folder p f) ≡ true = subst (λ x. is_under x (in_folder p f) ≡ true) (sym whole) (under_folder (in_folder p f) r.0) in
      let reads = (tree q h.some).folders (in_folder p f) under in
      let inside = under_folder p f in (
        record { under = inside; some = ap (λ n. is_some n) reads },
        ap is_directory (node_is (in_folder p f) (at_when_under (in_folder p f) p inside) ∙ reads),
      )

  member_among : (qs : List Path) (f : Path) → IsIn qs (in_folder p f) → is_folder image (in_folder p f) ≡ true → is_member_folder (map member_at qs) f ≡ true
  member_among [] f i folder = absurd i
  member_among (q ∷ qs) f (inl e) folder =
      or_first (is_folder image q && bytes_eq (below p q) f) (is_member_folder (map member_at qs) f)
      (both_true (is_folder image q) (bytes_eq (below p q) f) (ap (is_folder image) (sym e) ∙ folder)
      (ap (λ x. bytes_eq x f) (ap (below p) (sym e) ∙ below_in p f) ∙ place_itself f))
  member_among (q ∷ qs) f (inr i) folder = or_second (is_folder image q && bytes_eq (below p q) f) (is_member_folder (map member_at qs) f) (member_among qs f i folder)

  all_of : (f : Path → Bool) (xs : List Path) → ((x : Path) → among xs x ≡ true → f x ≡ true) → list_all f xs ≡ true
  all_of f [] h = refl
  all_of f (x ∷ xs) h =
      both_true (f x) (list_all f xs) (h x (or_first (bytes_eq x x) (among xs x) (place_itself x))) (all_of f xs (λ y i. h y (or_second (bytes_eq y x) (among xs y) i)))

  all_above : (qs : List Path) → Each IsInside qs → list_all (λ (m : Member). list_all (is_member_folder (members_under image p)) (folders_above m.name)) (map member_at qs) ≡ true
  all_above [] h = refl
  all_above (q ∷ qs) h =
      both_true (list_all (is_member_folder (members_under image p)) (folders_above (below p q)))
      (list_all (λ (m : Member). list_all (is_member_folder (members_under image p)) (folders_above m.name)) (map member_at qs))
      (all_of (is_member_folder (members_under image p)) (folders_above (below p q))
      (λ f i.
      let t = above_there q f h.0 (sym (folders_are (below p q) f) ∙ i) in
      member_among (names_under image p) f (inside_named (in_folder p f) t.0) t.1))
      (all_above qs h.1)

  inside_all : Each IsInside (names_under image p)
  inside_all = each_of IsInside (names_under image p) named_inside

  -- where each name is a path, all that is under the folder are members that a record may have
  pub members_found : are_members p (map (λ (m : Member). m.name) (members_under image p)) ≡ true → AreMembers w.nodes p (members_under image p)
  members_found good =
      record {
        valid =
            both_true (are_members p (map (λ (m : Member). m.name) (members_under image p))) _ good
            (both_true (are_rising (map (λ (m : Member). m.name) (members_under image p))) _
            (ap are_rising (member_names (is_folder image) p (names_under image p))
            ∙ rise_below p (names_under image p) (each_of (λ q. is_under q p ≡ true) (names_under image p) (λ q i. (named_inside q i).under)) names_rise)
            (all_above (names_under image p) inside_all));
        there = there_all (names_under image p) inside_all;
        all = λ q found. let h = found_inside q found in place_in q (names_under image p) h.under (inside_named q h);
      }
