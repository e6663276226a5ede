-- How a walk goes on, and what it comes to.
use Rattle.std.proofs.Common.{◌≡◌, ◌⊎◌, inl, inr, ℕ, zero, suc, ◌+◌, ◌<◌, ◌≤◌, ◌==◌, Bool, true, false, ◌&&◌, ◌||◌, not, List, [], ◌∷◌, ◌++◌, map, length, drop, get_or, refl, sym, ap, subst, ◌∙◌, arith, bytes_eq, length-append, append_assoc, add-one, Some, None}
use Rattle.std.specs.Prelude.{nat_le, All, Contains, IsTrue}
use Rattle.std.specs.List.{list_any, list_all, IsDistinct}
use Rattle.std.specs.Str.{IsUtf8, is_utf8}
use Rattle.std.proofs.lemmas.Bool.{leb-true, le-leb}
use Rattle.std.proofs.lemmas.List.{append-nil}
use Rattle.std.proofs.lemmas.List.Elements.{All-nil, All-cons, All-contains}
use Rattle.std.proofs.lemmas.Str.{IsUtf8-append, IsUtf8-from_ascii, IsUtf8-from_is_utf8, is_utf8-from_IsUtf8}
use Rattle.std.proofs.lemmas.Str.Ascii.{IsAscii-cons, IsAscii-nil}
use Rattle.smk_base.specs.Path.{is_at_or_under, is_path, is_path_byte, are_path_bytes}
use Rattle.smk_base.proofs.Places.{and_first, and_second, same_place, place_itself}
use Rattle.smk_base.proofs.Under.{never_both, false_unless, false_of_not, or_cases, both_true, at_itself}
use Rattle.smk_world.specs.declared.event.Listing.{Listing}
use Rattle.smk_world.specs.declared.event.Name.{Name}
use Rattle.smk_world.specs.declared.event.Node.TheVariants.{Regular, Directory}
use Rattle.smk_world.specs.declared.event.NodeState.{NodeState}
use Rattle.smk_world.specs.declared.event.NodeState.TheVariants.{Owned, Known}
use Rattle.smk_world.specs.World.{World, reads_folder, folders_above}
use Rattle.smk_world.specs.Calls.{in_folder, is_name, IsTextName, Stands, MayStand, Reads, IsListing, ListingIs}
use Rattle.smk_world.specs.Trees.{Path, Each, IsIn, is_path_text, are_members}
use Rattle.smk_record.specs.declared.record.Member.{Member}
use Rattle.smk_record.specs.Records.{is_member_folder, are_rising, are_valid_members}
use Rattle.smk_store.proofs.Walks.{utf8_behind, utf8_before, bytes_behind, path_bytes, path_utf8}
use Rattle.smk_store_members.specs.Members.{Nodes, IsFound, member_places, IsThere, AreMembers, HasNoMembers, IsOpenFolder}
use Rattle.smk_store_members.specs.Members.IsFound.{Inside, Deeper}
use Rattle.smk_store_members.specs.Steps.{member, names_of, is_found, is_member_name, AreInOrder, HasAdded, IsFolderIn, HasPlace, IsDone, IsWalk, IsFront, IsNameIn, HasGoneOn, AreAllFound, Either, AreAdded, IsListedIn}
use Rattle.smk_store_members.proofs.Lists.{each_both, each_more, each_of_all, in_first, in_second, places_append, drop_more, list_all_each, each_list_all, each_map, each_unmap, each_zip, each_at, each_name, folder_in, folder_there, found_at, folder_at, folder_found, found_more, folder_more, place_found, never_in_itself, is_in_places, in_it, in_it_too, front_place, above_none, above_front, few_names, names_len, apart_more}
use Rattle.smk_store_members.proofs.Sets.{found_append, folder_append}

-- ## Places

-- the place of a name in the folder is that of a member
pub front_in : (p : Path) (found : List Member) (front : List ℕ) (g name : Path) → IsFront p found front g → in_folder g name ≡ in_folder p (front ++ name)
front_in p found front g name (inl (none, at)) = ap (λ (x : Path). in_folder x name) at ∙ ap (λ (t : Path). in_folder p (t ++ name)) (sym none)
front_in p found front g name (inr (f, is, at, folder)) =
    ap (λ (x : Path). in_folder x name) at ∙ front_place p f name ∙ ap (λ (t : Path). in_folder p (t ++ name)) (sym is)

pub front_more : (p : Path) (found more : List Member) (front : List ℕ) (g : Path) → IsFront p found front g → IsFront p (found ++ more) front g
front_more p found more front g (inl h) = inl h
front_more p found more front g (inr (f, is, at, folder)) = inr (f, is, at, folder_more found more f folder)

front_under : (p : Path) (found : List Member) (front : List ℕ) (g : Path) → IsFront p found front g → is_at_or_under g p ≡ true
front_under p found front g (inl (none, at)) = subst (λ (x : Path). is_at_or_under x p ≡ true) (sym at) (at_itself p)
front_under p found front g (inr (f, is, at, folder)) = subst (λ (x : Path). is_at_or_under x p ≡ true) (sym at) (in_it p f)

-- ## Names

no_lf : (t : List ℕ) → are_path_bytes t ≡ true → list_any (λ (b : ℕ). b == 10) t ≡ false
no_lf [] h = refl
no_lf (b ∷ t) h =
    let here : is_path_byte b ≡ true = and_first (is_path_byte b) (are_path_bytes t) h in
    ap (λ (v : Bool). v || list_any (λ (x : ℕ). x == 10) t) (false_of_not (b == 10) (and_second (not (b == 0)) (not (b == 10)) here))
    ∙ no_lf t (and_second (is_path_byte b) (are_path_bytes t) h)

slash_text : (f name : Path) → IsUtf8 ((f ++ 47 ∷ []) ++ name) → IsUtf8 name
slash_text f name all =
    let first : IsUtf8 f = utf8_before f name (subst IsUtf8 (append_assoc f (47 ∷ []) name) all) in
    utf8_behind (f ++ 47 ∷ []) name all (IsUtf8-append f (47 ∷ []) first (IsUtf8-from_ascii (47 ∷ []) (IsAscii-cons 47 [] (omega arith) IsAscii-nil)))

-- the last part of a path is text
text_behind : (p : Path) (found : List Member) (front : List ℕ) (g name : Path) → IsFront p found front g → is_path_text (front ++ name) ≡ true → IsTextName name
text_behind p found front g name at path = (utf8 at, no_lf name (bytes_behind front name (path_bytes (front ++ name) path)))
  where
    utf8 : IsFront p found front g → IsUtf8 name
    utf8 (inl (none, e)) = subst (λ (t : Path). IsUtf8 (t ++ name)) none (path_utf8 (front ++ name) path)
    utf8 (inr (f, is, e, folder)) = slash_text f name (subst (λ (t : Path). IsUtf8 (t ++ name)) is (path_utf8 (front ++ name) path))

text_or_not : (name : Path) → IsTextName name ⊎ (¬ (IsTextName name))
text_or_not name = by (is_utf8 name) (list_any (λ (b : ℕ). b == 10) name) refl refl
  where
    by : (u l : Bool) → is_utf8 name ≡ u → list_any (λ (b : ℕ). b == 10) name ≡ l → IsTextName name ⊎ (¬ (IsTextName name))
    by true false e f = inl (IsUtf8-from_is_utf8 name e, f)
    by true true e f = inr (λ h. never_both (list_any (λ (b : ℕ). b == 10) name) f h.1)
    by false l e f = inr (λ h. never_both (is_utf8 name) (is_utf8-from_IsUtf8 name h.0) e)

-- ## What is found stands there

module _ (nodes : Nodes) (p : Path) (found : List Member) (open_at : List Path) (walk : IsWalk nodes p found open_at) where
  name_stands : (q : Path) → is_found found q ≡ true → IsFound nodes p (in_folder p q)
  name_stands q h =
      let m = found_at (IsThere nodes p) found q h walk.there in
      subst (λ (t : Path). IsFound nodes p (in_folder p t)) m.2 m.1.0

  folder_reads : (f : Path) → is_member_folder found f ≡ true → IsFound nodes p (in_folder p f) × (reads_folder (nodes (in_folder p f)) ≡ true)
  folder_reads f h =
      let m = folder_at (IsThere nodes p) found f h walk.there in (
        subst (λ (t : Path). IsFound nodes p (in_folder p t)) m.2 m.1.0,
        ap (λ (t : Path). reads_folder (nodes (in_folder p t))) (sym m.2) ∙ m.1.1 ∙ m.3,
      )

  found_kind : (q : Path) → is_found found q ≡ true → is_member_folder found q ≡ reads_folder (nodes (in_folder p q))
  found_kind q h = by (reads_folder (nodes (in_folder p q))) refl
    where
      by : (r : Bool) → reads_folder (nodes (in_folder p q)) ≡ r → is_member_folder found q ≡ r
      by true e = folder_in (λ (t : Path). reads_folder (nodes (in_folder p t))) found q (each_more (IsThere nodes p) (λ (m : Member). m.folder ≡ reads_folder (nodes (in_folder p m.name))) (λ m t. sym t.1) found walk.there) h e
      by false e = false_unless (is_member_folder found q) (λ k. never_both (reads_folder (nodes (in_folder p q))) (folder_reads q k).1 e)

  front_found : (front : List ℕ) (g name : Path) → IsFront p found front g → is_name name ≡ true → Stands (nodes (in_folder g name)) → IsFound nodes p (in_folder g name)
  front_found front g name (inl (none, at)) is st =
      subst (λ (x : Path). IsFound nodes p (in_folder x name)) (sym at) (Inside name is (subst (λ (x : Path). Stands (nodes (in_folder x name))) at st))
  front_found front g name (inr (f, front_is, at, folder)) is st =
      let r = folder_reads f folder in
      subst (λ (x : Path). IsFound nodes p (in_folder x name)) (sym at) (Deeper (in_folder p f) name r.0 r.1 is (subst (λ (x : Path). Stands (nodes (in_folder x name))) at st))

  front_reads : (front : List ℕ) (g : Path) → IsOpenFolder nodes p → IsFront p found front g → reads_folder (nodes g) ≡ true
  front_reads front g o (inl (none, at)) = ap (λ (x : Path). reads_folder (nodes x)) at ∙ o.folder
  front_reads front g o (inr (f, is, at, folder)) = ap (λ (x : Path). reads_folder (nodes x)) at ∙ (folder_reads f folder).1

  -- what stands there has its name among all members
  among_members : (front : List ℕ) (g name : Path) (members : List Member) → IsFront p found front g → is_name name ≡ true → Stands (nodes (in_folder g name)) → AreMembers nodes p members → is_found members (front ++ name) ≡ true
  among_members front g name members at is st are =
      is_in_places p members (front ++ name)
      (subst (IsIn (member_places p members)) (front_in p found front g name at) (are.all (in_folder g name) (front_found front g name at is st)))

  found_among : (q : Path) (members : List Member) → is_found found q ≡ true → AreMembers nodes p members → is_found members q ≡ true
  found_among q members h are = is_in_places p members q (are.all (in_folder p q) (name_stands q h))

  above_name : (front : List ℕ) (g name : Path) → IsFront p found front g → is_name name ≡ true → Each (λ f. is_member_folder found f ≡ true) (folders_above (front ++ name))
  above_name front g name (inl (none, at)) is =
      subst (Each (λ f. is_member_folder found f ≡ true)) (sym (ap (λ (t : Path). folders_above (t ++ name)) none ∙ above_none name is)) tt
  above_name front g name (inr (f, front_is, at, folder)) is =
      let m = found_at (λ (m : Member). Each (λ f. is_member_folder found f ≡ true) (folders_above m.name)) found f (folder_found found f folder) walk.above in
      subst (Each (λ f. is_member_folder found f ≡ true)) (sym (ap (λ (t : Path). folders_above (t ++ name)) front_is ∙ above_front f name is))
      (each_both (λ f. is_member_folder found f ≡ true) (folders_above f) (f ∷ []) (subst (λ (t : Path). Each (λ x. is_member_folder found x ≡ true) (folders_above t)) m.2 m.1) (folder, tt))

-- ## Valid members

few_valid : (p : Path) (members : List Member) → are_valid_members p members ≡ true → length members ≤ 20000
few_valid p members valid =
    let some = and_first (are_members p (names_of members)) (are_rising (names_of members) && list_all (λ (m : Member). list_all (is_member_folder members) (folders_above m.name)) members) valid in
    subst (λ (n : ℕ). n ≤ 20000) (names_len members)
    (leb-true (length (names_of members)) 20000
    (and_first (nat_le (length (names_of members)) 20000) (list_all (is_member_name p) (names_of members)) some))

name_valid : (p : Path) (members : List Member) (q : Path) → are_valid_members p members ≡ true → is_found members q ≡ true → is_member_name p q ≡ true
name_valid p members q valid h =
    let some = and_first (are_members p (names_of members)) (are_rising (names_of members) && list_all (λ (m : Member). list_all (is_member_folder members) (folders_above m.name)) members) valid in
    let all : list_all (is_member_name p) (names_of members) ≡ true = and_second (nat_le (length (names_of members)) 20000) (list_all (is_member_name p) (names_of members)) some in
    let m = found_at (λ (m : Member). is_member_name p m.name ≡ true) members q h
    (each_unmap (λ (t : Path). is_member_name p t ≡ true) (λ (m : Member). m.name) members (each_list_all (is_member_name p) (names_of members) all)) in
    subst (λ (t : Path). is_member_name p t ≡ true) m.2 m.1

-- ## One name

module _ (nodes : Nodes) (p g : Path) (open_at : List Path) (front : List ℕ) (found : List Member) (n : Name) (walk : IsWalk nodes p found (g ∷ open_at)) (at : IsFront p found front g) (name_in : IsNameIn nodes g n) where
  place_is : in_folder g n.name ≡ in_folder p (front ++ n.name)
  place_is = front_in p found front g n.name at

  is_there : IsThere nodes p (member n.folder (front ++ n.name))
  is_there = (
    subst (IsFound nodes p) place_is (front_found nodes p found (g ∷ open_at) walk front g n.name at name_in.name name_in.stands),
    sym (name_in.kind ∙ ap (λ (q : Path). reads_folder (nodes q)) place_is),
  )

  lifted : (x : Path) → IsIn (g ∷ open_at) x ⊎ IsDone nodes p found x
      → IsIn ((g ∷ open_at) ++ in_folder p (front ++ n.name) ∷ []) x ⊎ IsDone nodes p (found ++ member n.folder (front ++ n.name) ∷ []) x
  lifted x (inl h) = inl (in_first (g ∷ open_at) (in_folder p (front ++ n.name) ∷ []) x h)
  lifted x (inr done) = inr (λ name is st. let h = done name is st in (h.0, h.1, found_more found (member n.folder (front ++ n.name) ∷ []) h.0 h.2))

  one_folder : (f : Path) → is_member_folder (member n.folder (front ++ n.name) ∷ []) f ≡ true → f ≡ front ++ n.name
  one_folder f h =
      elim (or_cases (n.folder && bytes_eq (front ++ n.name) f) false h) [
        | inl e ↦ sym (same_place (front ++ n.name) f (and_second n.folder (bytes_eq (front ++ n.name) f) e))
        | inr e ↦ absurd (never_both false e refl)
      ]

  done_more : (x : Path) → IsFolderIn p (found ++ member n.folder (front ++ n.name) ∷ []) x
      → IsIn ((g ∷ open_at) ++ in_folder p (front ++ n.name) ∷ []) x ⊎ IsDone nodes p (found ++ member n.folder (front ++ n.name) ∷ []) x
  done_more x (inl e) = lifted x (walk.done x (inl e))
  done_more x (inr (f, is, folder)) =
      elim (or_cases (is_member_folder found f) (is_member_folder (member n.folder (front ++ n.name) ∷ []) f) (sym (folder_append f found (member n.folder (front ++ n.name) ∷ [])) ∙ folder)) [
        | inl before ↦ lifted x (walk.done x (inr (f, is, before)))
        | inr now ↦ inl (in_second (g ∷ open_at) (in_folder p (front ++ n.name) ∷ []) x (inl (is ∙ ap (in_folder p) (one_folder f now))))
      ]

  grown : is_found found (front ++ n.name) ≡ false → is_member_name p (front ++ n.name) ≡ true → IsWalk nodes p (found ++ member n.folder (front ++ n.name) ∷ []) ((g ∷ open_at) ++ in_folder p (front ++ n.name) ∷ [])
  grown fresh good =
      let more = member n.folder (front ++ n.name) ∷ [] in
      record {
        there = each_both (IsThere nodes p) found more walk.there (is_there, tt);
        names = each_both (λ (m : Member). is_member_name p m.name ≡ true) found more walk.names (good, tt);
        apart = apart_more found (member n.folder (front ++ n.name)) walk.apart fresh;
        above = each_both (λ (m : Member). Each (λ f. is_member_folder (found ++ more) f ≡ true) (folders_above m.name)) found more
            (each_more (λ (m : Member). Each (λ f. is_member_folder found f ≡ true) (folders_above m.name)) (λ (m : Member). Each (λ f. is_member_folder (found ++ more) f ≡ true) (folders_above m.name))
            (λ m h. each_more (λ f. is_member_folder found f ≡ true) (λ f. is_member_folder (found ++ more) f ≡ true) (λ f. folder_more found more f) (folders_above m.name) h) found walk.above) (
              each_more (λ f. is_member_folder found f ≡ true) (λ f. is_member_folder (found ++ more) f ≡ true) (λ f. folder_more found more f) (folders_above (front ++ n.name))
                  (above_name nodes p found (g ∷ open_at) walk front g n.name at name_in.name),
              tt,
            );
        done = done_more;
      }

  pub added : (new : List Member) → HasAdded p (front ++ n.name) n.folder found new true → HasGoneOn nodes p (g ∷ open_at) found new × (is_found new (front ++ n.name) ≡ true)
  added new (inl (was, same)) = (
    (
      [],
      same ∙ sym (append-nil found),
      subst (λ (fs : List Member). IsWalk nodes p fs ((g ∷ open_at) ++ [])) (sym same) (subst (IsWalk nodes p found) (sym (append-nil (g ∷ open_at))) walk),
    ),
    ap (λ (fs : List Member). is_found fs (front ++ n.name)) same ∙ was,
  )
  added new (inr (fresh, good, is)) =
      let more = member n.folder (front ++ n.name) ∷ [] in (
        (more, is, subst (λ (fs : List Member). IsWalk nodes p fs ((g ∷ open_at) ++ in_folder p (front ++ n.name) ∷ [])) (sym is) (grown fresh good)),
        ap (λ (fs : List Member). is_found fs (front ++ n.name)) is ∙ found_append (front ++ n.name) found more ∙ found_last (is_found found (front ++ n.name)),
      )
    where
      found_last : (b : Bool) → (b || is_found (member n.folder (front ++ n.name) ∷ []) (front ++ n.name)) ≡ true
      found_last true = refl
      found_last false = ap (λ (b : Bool). b || false) (place_itself (front ++ n.name))

  pub refused : (new : List Member) → HasAdded p (front ++ n.name) n.folder found new false → HasNoMembers nodes p
  refused new (inl bad) = λ members are.
      never_both (is_member_name p (front ++ n.name))
      (name_valid p members (front ++ n.name) are.valid (among_members nodes p found (g ∷ open_at) walk front g n.name members at name_in.name name_in.stands are)) bad
  refused new (inr (fresh, full)) = λ members are.
      let more = member n.folder (front ++ n.name) ∷ [] in
      let le : length (found ++ more) ≤ length members =
      few_names (found ++ more) members (apart_more found (member n.folder (front ++ n.name)) walk.apart fresh)
      (λ q h. elim (or_cases (is_found found q) (is_found more q) (sym (found_append q found more) ∙ h)) [
        | inl before ↦ found_among nodes p found (g ∷ open_at) walk q members before are
        | inr now ↦ subst (λ (t : Path). is_found members t ≡ true) (sym (one_name q now)) (among_members nodes p found (g ∷ open_at) walk front g n.name members at name_in.name name_in.stands are)
      ]) in
      absurd (omega (arith, le, full, few_valid p members are.valid, length-append found more))
    where
      one_name : (q : Path) → is_found (member n.folder (front ++ n.name) ∷ []) q ≡ true → q ≡ front ++ n.name
      one_name q h = elim (or_cases (bytes_eq q (front ++ n.name)) false h) [
        | inl e ↦ same_place q (front ++ n.name) e
        | inr e ↦ absurd (never_both false e refl)
      ]

-- ## All names of a folder

pub added_next : (nodes : Nodes) (p g : Path) (open_at : List Path) (front : List ℕ) (old now new : List Member) (before : List Name) (n : Name)
    → IsFront p old front g → IsNameIn nodes g n → HasGoneOn nodes p (g ∷ open_at) old now × AreAllFound now front before → HasAdded p (front ++ n.name) n.folder now new true
    → HasGoneOn nodes p (g ∷ open_at) old new × AreAllFound new front (before ++ n ∷ [])
added_next nodes p g open_at front old now new before n at name_in ((more, is, walk), all) step =
    let h = added nodes p g (open_at ++ member_places p more) front now n walk (subst (λ (fs : List Member). IsFront p fs front g) (sym is) (front_more p old more front g at)) name_in new step in
    let later : List Member = h.0.0 in
    let grows : new ≡ now ++ later = h.0.1 in (
      (
        more ++ later,
        grows ∙ ap (λ (fs : List Member). fs ++ later) is ∙ append_assoc old more later,
        subst (IsWalk nodes p new) (append_assoc (g ∷ open_at) (member_places p more) (member_places p later) ∙ ap (λ (l : List Path). (g ∷ open_at) ++ l) (sym (places_append p more later))) h.0.2,
      ),
      each_both (λ (m : Name). is_found new (front ++ m.name) ≡ true) before (n ∷ [])
          (subst (λ (fs : List Member). AreAllFound fs front before) (sym grows) (each_more (λ (m : Name). is_found now (front ++ m.name) ≡ true) (λ (m : Name). is_found (now ++ later) (front ++ m.name) ≡ true) (λ m k. found_more now later (front ++ m.name) k) before all))
          (h.1, tt),
    )

pub refused_next : (nodes : Nodes) (p g : Path) (open_at : List Path) (front : List ℕ) (old now new : List Member) (before : List Name) (n : Name)
    → IsFront p old front g → IsNameIn nodes g n → HasGoneOn nodes p (g ∷ open_at) old now × AreAllFound now front before → HasAdded p (front ++ n.name) n.folder now new false → HasNoMembers nodes p
refused_next nodes p g open_at front old now new before n at name_in ((more, is, walk), all) step =
    refused nodes p g (open_at ++ member_places p more) front now n walk (subst (λ (fs : List Member). IsFront p fs front g) (sym is) (front_more p old more front g at)) name_in new step

-- ## What a listing tells

folder_listed : (w : World) (g : Path) (listing : Listing) (s : NodeState) → reads_folder s ≡ true → ListingIs w g listing s → IsListing w g listing
folder_listed w g listing Owned h is = absurd (never_both false h refl)
folder_listed w g listing (Known None besides) h is = absurd (never_both false h refl)
folder_listed w g listing (Known (Some (Regular bytes time read_only)) besides) h is = absurd (never_both false h refl)
folder_listed w g listing (Known (Some Directory) besides) h is = is.1

may_stand : (folder : Bool) (s : NodeState) → (s ≡ Owned → ⊥) → MayStand folder s → Stands s × (folder ≡ reads_folder s)
may_stand folder Owned other h = absurd (other refl)
may_stand folder (Known None besides) other h = absurd h
may_stand folder (Known (Some (Regular bytes time read_only)) besides) other h = (tt, sym h)
may_stand folder (Known (Some Directory) besides) other h = (tt, sym h)

not_none : (s : NodeState) → (s ≡ Owned → ⊥) → (¬ (Reads None s)) → Stands s
not_none Owned other h = absurd (other refl)
not_none (Known None besides) other h = absurd (h refl)
not_none (Known (Some node) besides) other h = tt

all_names : (P : Name → Type 0) (names : List Name) → Each P names → All (λ (x : Path). (n : Name) × P n × (n.name ≡ x)) (map (λ (n : Name). n.name) names)
all_names P [] h = All-nil (λ (x : Path). (n : Name) × P n × (n.name ≡ x))
all_names P (n ∷ names) h = All-cons (λ (x : Path). (n : Name) × P n × (n.name ≡ x)) n.name (map (λ (n : Name). n.name) names) (n, h.0, refl) (all_names P names h.1)

named_each : (P : Name → Type 0) (names : List Name) (name : Path) → Contains (map (λ (n : Name). n.name) names) name → Each P names → (n : Name) × P n × (n.name ≡ name)
named_each P names name h each = All-contains (λ (x : Path). (n : Name) × P n × (n.name ≡ x)) (map (λ (n : Name). n.name) names) name (all_names P names each) h

module _ (w : World) (p g : Path) (front : List ℕ) (old : List Member) (listing : Listing) (o : IsOpenFolder w.nodes p) (open_at : List Path) (walk : IsWalk w.nodes p old (g ∷ open_at)) (at : IsFront p old front g)
    (told : ListingIs w g listing (w.nodes g)) where
  listed : IsListing w g listing
  listed = folder_listed w g listing (w.nodes g) (front_reads w.nodes p old (g ∷ open_at) walk front g o at) told

  free : (name : Path) → w.nodes (in_folder g name) ≡ Owned → ⊥
  free name = o.unowned (in_folder g name) (in_it_too p g name (front_under p old front g at))

  names_in : Each (IsNameIn w.nodes g) listing.names
  names_in =
      each_more (λ (n : Name). IsTrue (is_name n.name) × IsTextName n.name × MayStand n.folder (w.nodes (in_folder g n.name))) (IsNameIn w.nodes g)
      (λ n h. let s = may_stand n.folder (w.nodes (in_folder g n.name)) (free n.name) h.2 in record { name = h.0; stands = s.0; kind = s.1 })
      listing.names (each_of_all (λ (n : Name). IsTrue (is_name n.name) × IsTextName n.name × MayStand n.folder (w.nodes (in_folder g n.name))) listing.names listed.stand)

  strange_none : listing.strange ≡ true → HasNoMembers w.nodes p
  strange_none strange =
      let n = listed.not_strange strange in
      λ members are.
      let h : is_found members (front ++ n.0) ≡ true = among_members w.nodes p old (g ∷ open_at) walk front g n.0 members at n.1.0 (not_none (w.nodes (in_folder g n.0)) (free n.0) n.1.2) are in
      n.1.1 (text_behind p old front g n.0 at (and_first (is_path_text (front ++ n.0)) (is_path (in_folder p (front ++ n.0))) (name_valid p members (front ++ n.0) are.valid h)))

  text_of : listing.strange ≡ false → (name : Path) → is_name name ≡ true → Stands (w.nodes (in_folder g name)) → IsTextName name
  text_of plain name is st = elim (text_or_not name) [
    | inl h ↦ h
    | inr h ↦ absurd (never_both listing.strange (listed.strange name is h st) plain)
  ]

  here_done : (new : List Member) → listing.strange ≡ false → AreAllFound new front listing.names → IsDone w.nodes p new g
  here_done new plain all = λ name is st.
      let n = named_each (λ (m : Name). is_found new (front ++ m.name) ≡ true) listing.names name (listed.all name is (text_of plain name is st) st) all in
      (front ++ name, front_in p old front g name at, subst (λ (t : Path). is_found new (front ++ t) ≡ true) n.2 n.1)

  closed : (new more : List Member) → listing.strange ≡ false → AreAllFound new front listing.names → IsWalk w.nodes p new ((g ∷ open_at) ++ member_places p more) → IsWalk w.nodes p new (open_at ++ member_places p more)
  closed new more plain all walk2 =
      record {
        there = walk2.there;
        names = walk2.names;
        apart = walk2.apart;
        above = walk2.above;
        done = λ x inside. elim (walk2.done x inside) [
          | inl h ↦ elim h [
            | inl e ↦ inr (subst (IsDone w.nodes p new) (sym e) (here_done new plain all))
            | inr later ↦ inl later
          ]
          | inr d ↦ inr d
        ];
      }

pub strange_listed : (w : World) (p g : Path) (front : List ℕ) (old new : List Member) (listing : Listing) → IsOpenFolder w.nodes p → ListingIs w g listing (w.nodes g) → listing.strange ≡ true → IsListedIn w.nodes p front g old new false
strange_listed w p g front old new listing o told strange = λ open_at walk at. strange_none w p g front old listing o open_at walk at told strange

pub names_listed : (w : World) (p g : Path) (front : List ℕ) (old new : List Member) (listing : Listing) (good : Bool) → IsOpenFolder w.nodes p → ListingIs w g listing (w.nodes g) → listing.strange ≡ false
    → AreAdded p front listing.names old new good → IsListedIn w.nodes p front g old new good
names_listed w p g front old new listing true o told plain add = λ open_at walk at.
    let h = add w.nodes g open_at walk at (names_in w p g front old listing o open_at walk at told) in
    (h.0.0, h.0.1, closed w p g front old listing o open_at walk at told new h.0.0 plain h.1 h.0.2)
names_listed w p g front old new listing false o told plain add = λ open_at walk at.
    add w.nodes g open_at walk at (names_in w p g front old listing o open_at walk at told)

-- ## Folder by folder

distinct_none : IsDistinct bytes_eq []
unfolding IsDistinct
distinct_none = tt

-- nothing is found yet
pub begun : (nodes : Nodes) (p : Path) (found : List Member) → found ≡ [] → IsWalk nodes p found (p ∷ [])
begun nodes p found none =
    subst (λ (fs : List Member). IsWalk nodes p fs (p ∷ [])) (sym none)
    (record { there = tt; names = tt; apart = distinct_none; above = tt; done = first_done })
  where
    first_done : (x : Path) → IsFolderIn p [] x → IsIn (p ∷ []) x ⊎ IsDone nodes p [] x
    first_done x (inl e) = inl (inl e)
    first_done x (inr (f, is, folder)) = absurd (never_both false folder refl)

pub begun_listed : (nodes : Nodes) (p g : Path) (front : List ℕ) (old new : List Member) (good : Bool) → g ≡ p → front ≡ [] → old ≡ [] → IsListedIn nodes p front g old new good
    → Either good (IsWalk nodes p new (member_places p (drop 0 new))) (HasNoMembers nodes p)
begun_listed nodes p g front old new true at none empty listed =
    let h = listed [] (subst (λ (x : Path). IsWalk nodes p old (x ∷ [])) (sym at) (begun nodes p old empty)) (inl (none, at)) in
    subst (λ (fs : List Member). IsWalk nodes p new (member_places p fs)) (sym (h.1 ∙ ap (λ (fs : List Member). fs ++ h.0) empty)) h.2
begun_listed nodes p g front old new false at none empty listed =
    listed [] (subst (λ (x : Path). IsWalk nodes p old (x ∷ [])) (sym at) (begun nodes p old empty)) (inl (none, at))

module _ (nodes : Nodes) (p : Path) (old : List Member) (i : ℕ) (m : Member) (lt : i < length old) (is : m ≡ get_or old i m) where
  dropped : drop i old ≡ m ∷ drop (i + 1) old
  dropped = drop_at old i m lt ∙ ap (λ (x : Member). x ∷ drop (suc i) old) (sym is) ∙ ap (λ (k : ℕ). m ∷ drop k old) (sym (add-one i))
    where
      drop_at : (xs : List Member) (k : ℕ) (d : Member) → k < length xs → drop k xs ≡ get_or xs k d ∷ drop (suc k) xs
      drop_at [] k d lt2 = absurd (omega arith)
      drop_at (x ∷ xs) zero d lt2 = refl
      drop_at (x ∷ xs) (suc k) d lt2 = drop_at xs k d (omega arith)

  next_open : IsWalk nodes p old (member_places p (drop i old)) → IsWalk nodes p old (in_folder p m.name ∷ member_places p (drop (i + 1) old))
  next_open walk = subst (λ (fs : List Member). IsWalk nodes p old (member_places p fs)) dropped walk

  -- what is no folder isn't open
  pub passed : m.folder ≡ false → IsWalk nodes p old (member_places p (drop i old)) → IsWalk nodes p old (member_places p (drop (i + 1) old))
  passed plain walk =
      let w = next_open walk in
      let there : IsThere nodes p m = subst (IsThere nodes p) (sym is) (each_at (IsThere nodes p) old i m lt walk.there) in
      record {
        there = walk.there;
        names = walk.names;
        apart = walk.apart;
        above = walk.above;
        done = λ x inside. elim (w.done x inside) [
          | inl h ↦ elim h [
            | inl e ↦ absurd (never_folder x e inside there)
            | inr later ↦ inl later
          ]
          | inr d ↦ inr d
        ];
      }
    where
      never_folder : (x : Path) → x ≡ in_folder p m.name → IsFolderIn p old x → IsThere nodes p m → ⊥
      never_folder x e (inl at) there = never_in_itself p m.name (sym e ∙ at)
      never_folder x e (inr (f, at, folder)) there =
          never_both (reads_folder (nodes (in_folder p m.name)))
          (ap (λ (q : Path). reads_folder (nodes q)) (sym e ∙ at) ∙ (folder_reads nodes p old (member_places p (drop i old)) walk f folder).1) (there.1 ∙ plain)

  pub entered : (new : List Member) (front : List ℕ) (g : Path) (good : Bool) → m.folder ≡ true → front ≡ m.name ++ 47 ∷ [] → g ≡ in_folder p m.name → IsListedIn nodes p front g old new good
      → IsWalk nodes p old (member_places p (drop i old)) → Either good (IsWalk nodes p new (member_places p (drop (i + 1) new))) (HasNoMembers nodes p)
  entered new front g good folder front_is at listed walk = by good listed
    where
      is_folder : is_member_folder old m.name ≡ true
      is_folder = subst (λ (x : Member). is_member_folder old x.name ≡ true) (sym is) (folder_there old i m lt (ap (λ (x : Member). x.folder) (sym is) ∙ folder))

      front_at : IsFront p old front g
      front_at = inr (m.name, front_is, at, is_folder)

      open_here : IsWalk nodes p old (g ∷ member_places p (drop (i + 1) old))
      open_here = subst (λ (x : Path). IsWalk nodes p old (x ∷ member_places p (drop (i + 1) old))) (sym at) (next_open walk)

      by : (good : Bool) → IsListedIn nodes p front g old new good → Either good (IsWalk nodes p new (member_places p (drop (i + 1) new))) (HasNoMembers nodes p)
      by true told =
          let h = told (member_places p (drop (i + 1) old)) open_here front_at in
          subst (IsWalk nodes p new)
          (sym (places_append p (drop (i + 1) old) h.0) ∙ ap (member_places p) (sym (drop_more (i + 1) old h.0 (omega (arith, lt))) ∙ ap (drop (i + 1)) (sym h.1)))
          h.2
      by false told = told (member_places p (drop (i + 1) old)) open_here front_at

-- ## The end

module _ (nodes : Nodes) (p : Path) (found members : List Member) (walk : IsWalk nodes p found []) (order : AreInOrder found members) (few : length found ≤ 20000) where
  done_in : (g name : Path) → IsFolderIn p found g → is_name name ≡ true → Stands (nodes (in_folder g name)) → HasPlace p found (in_folder g name)
  done_in g name inside is st = elim (walk.done g inside) [
    | inl h ↦ absurd h
    | inr d ↦ d name is st
  ]

  complete : (q : Path) → IsFound nodes p q → HasPlace p found q
  complete q (Inside name is st) = done_in p name (inl refl) is st
  complete q (Deeper folder name before reads is st) =
      let h = complete folder before in
      done_in folder name
      (inr (h.0, h.1, found_kind nodes p found [] walk h.0 h.2 ∙ ap (λ (x : Path). reads_folder (nodes x)) (sym h.1) ∙ reads)) is st

  in_found : (q : Path) → is_found members q ≡ true → is_found found q ≡ true
  in_found q h = sym (order.same q) ∙ h

  folder_member : (f : Path) → is_member_folder found f ≡ true → is_member_folder members f ≡ true
  folder_member f h = folder_in (is_member_folder found) members f order.kinds (order.same f ∙ folder_found found f h) h

  names_good : Each (λ (m : Member). is_member_name p m.name ≡ true) members
  names_good = each_name (λ (q : Path). is_member_name p q ≡ true) members
      (λ q h. let m = found_at (λ (m : Member). is_member_name p m.name ≡ true) found q (in_found q h) walk.names in subst (λ (t : Path). is_member_name p t ≡ true) m.2 m.1)

  above_good : Each (λ (m : Member). list_all (is_member_folder members) (folders_above m.name) ≡ true) members
  above_good = each_name (λ (q : Path). list_all (is_member_folder members) (folders_above q) ≡ true) members
      (λ q h.
      let m = found_at (λ (m : Member). Each (λ f. is_member_folder found f ≡ true) (folders_above m.name)) found q (in_found q h) walk.above in
      subst (λ (t : Path). list_all (is_member_folder members) (folders_above t) ≡ true) m.2
      (list_all_each (is_member_folder members) (folders_above m.0.name) (each_more (λ f. is_member_folder found f ≡ true) (λ f. is_member_folder members f ≡ true) folder_member (folders_above m.0.name) m.1)))

  are_good : are_members p (names_of members) ≡ true
  are_good =
      both_true (nat_le (length (names_of members)) 20000) (list_all (is_member_name p) (names_of members))
      (le-leb (length (names_of members)) 20000 (omega (arith, names_len members, few, few_names members found order.apart in_found)))
      (list_all_each (is_member_name p) (names_of members) (each_map (λ (t : Path). is_member_name p t ≡ true) (λ (m : Member). m.name) members names_good))

  pub all_members : AreMembers nodes p members
  all_members =
      record {
        valid = both_true (are_members p (names_of members)) (are_rising (names_of members) && list_all (λ (m : Member). list_all (is_member_folder members) (folders_above m.name)) members) are_good
            (both_true (are_rising (names_of members)) (list_all (λ (m : Member). list_all (is_member_folder members) (folders_above m.name)) members) order.rising
            (list_all_each (λ (m : Member). list_all (is_member_folder members) (folders_above m.name)) members above_good));
        there = each_zip (λ (m : Member). m.folder ≡ is_member_folder found m.name) (λ (m : Member). IsFound nodes p (in_folder p m.name) × (is_member_folder found m.name ≡ reads_folder (nodes (in_folder p m.name)))) (IsThere nodes p)
            (λ m kind h. (h.0, sym (kind ∙ h.1))) members order.kinds
            (each_name (λ (q : Path). IsFound nodes p (in_folder p q) × (is_member_folder found q ≡ reads_folder (nodes (in_folder p q)))) members
            (λ q h. (name_stands nodes p found [] walk q (in_found q h), found_kind nodes p found [] walk q (in_found q h))));
        all = λ q f. let h = complete q f in subst (IsIn (member_places p members)) (sym h.1) (place_found p members h.0 (order.same h.0 ∙ h.2));
      }

-- ## The same of what the calls tell

pub added_as : (p text other : Path) (folder : Bool) (old new : List Member) (good is : Bool) → text ≡ other → good ≡ is → HasAdded p text folder old new good → HasAdded p other folder old new is
added_as p text other folder old new good is e f h = subst (λ (b : Bool). HasAdded p other folder old new b) f (subst (λ (t : Path). HasAdded p t folder old new good) e h)

pub name_at : (nodes : Nodes) (g : Path) (names : List Name) (i : ℕ) (n : Name) → i < length names → n ≡ get_or names i n → Each (IsNameIn nodes g) names → IsNameIn nodes g n
name_at nodes g names i n lt is each = subst (IsNameIn nodes g) (sym is) (each_at (IsNameIn nodes g) names i n lt each)

pub listed_good : (w : World) (p g : Path) (front : List ℕ) (old new : List Member) (listing : Listing) (names : List Name) (good : Bool) → IsOpenFolder w.nodes p → ListingIs w g listing (w.nodes g) → listing.strange ≡ false
    → names ≡ listing.names → AreAdded p front names old new good → IsListedIn w.nodes p front g old new good
listed_good w p g front old new listing names good o told plain same add = names_listed w p g front old new listing good o told plain (subst (λ (ns : List Name). AreAdded p front ns old new good) same add)

pub either_as : (good is : Bool) (A B : Type 0) → good ≡ is → Either good A B → Either is A B
either_as good is A B e h = subst (λ (b : Bool). Either b A B) e h

-- the same of a world with the same nodes
pub told_still : (w v : World) (p : Path) (old new : List Member) (was is : List Path) (good : Bool) → v.nodes ≡ w.nodes
    → (IsOpenFolder v.nodes p → IsWalk v.nodes p old was → Either good (IsWalk v.nodes p new is) (HasNoMembers v.nodes p)) → IsOpenFolder w.nodes p → IsWalk w.nodes p old was → Either good (IsWalk w.nodes p new is) (HasNoMembers w.nodes p)
told_still w v p old new was is good same h = subst (λ (ns : Nodes). IsOpenFolder ns p → IsWalk ns p old was → Either good (IsWalk ns p new is) (HasNoMembers ns p)) same h
