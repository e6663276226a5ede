-- What is found under a folder is all that a world has under it.
use Rattle.std.proofs.Common.{◌≡◌, inl, inr, ℕ, suc, ◌+◌, cond, Bool, true, false, ◌&&◌, ◌||◌, not, List, [], ◌∷◌, ◌++◌, map, filter, length, drop, refl, sym, ap, subst, ◌∙◌, arith, bytes_eq, Option, Some, None}
use Rattle.std.specs.Prelude.{is_some, if◌then◌else◌}
use Rattle.std.specs.List.{list_all}
use Rattle.std.specs.List.Sorted.{IsStrictlySortedBy}
use Rattle.std.specs.Cmp.Lexicographic.{slice_cmp}
use Rattle.std.specs.Ordering.{nat_cmp, ordering_then}
use Rattle.std.specs.declared.cmp.Ordering.{Ordering}
use Rattle.std.specs.declared.cmp.Ordering.TheVariants.{Less}
use Rattle.std.proofs.lemmas.Cmp.{nat_cmp_total, tied_itself}
use Rattle.std.proofs.lemmas.List.Kept.{IsStrictlySortedBy-filter}
use Rattle.std.specs.Cmp.{both_ways}
use Rattle.smk_base.specs.Path.{is_path, is_under, is_at_or_under, own_folder}
use Rattle.smk_base.proofs.Apart.{path_outside, outside-own}
use Rattle.smk_base.proofs.Places.{and_first, and_second, same_place, place_itself}
use Rattle.smk_base.proofs.Under.{never_both, false_unless, or_cases, or_first, or_second, both_true, under_folder, at_when_under, at_or_under_further}
use Rattle.smk_world.specs.declared.event.Node.TheVariants.{Regular, Directory}
use Rattle.smk_world.specs.declared.event.NodeState.{NodeState}
use Rattle.smk_world.specs.declared.event.NodeState.TheVariants.{Owned, Known}
use Rattle.smk_world.specs.World.{World, IsFormed, IsRising, reading, reads_folder, folders_above}
use Rattle.smk_world.specs.Calls.{in_folder, Stands}
use Rattle.smk_world.specs.Trees.{Path, Each, IsIn, among, are_members, below}
use Rattle.smk_record.specs.declared.record.Member.{Member}
use Rattle.smk_record.specs.declared.record.Record.{Record}
use Rattle.smk_record.specs.Records.{are_rising, is_member_folder, are_valid_members}
use Rattle.smk_record.proofs.Rising.{Above, less_itself, rising_rest, rising_first, above_among, among_first, same_first, or_apart}
use Rattle.smk_store.specs.Images.{is_outside, is_folder, is_directory, names_under, members_under, seen}
use Rattle.smk_store_members.specs.Members.{Nodes, IsFound, member_places, IsThere, AreMembers, AllIsFound}
use Rattle.smk_store_members.specs.Members.IsFound.{Inside, Deeper}
use Rattle.smk_store_members.specs.Steps.{names_of}

-- ## Rising lists of places with the same places are equal

rising_same : (ps qs : List Path) → IsRising ps → IsRising qs → ((r : Path) → among ps r ≡ among qs r) → ps ≡ qs
unfolding IsStrictlySortedBy
rising_same [] [] h k same = refl
rising_same [] (q ∷ qs) h k same = absurd (never_both (among (q ∷ qs) q) (among_first q qs) (sym (same q)))
rising_same (p ∷ ps) [] h k same = absurd (never_both (among (p ∷ ps) p) (among_first p ps) (same p))
rising_same (p ∷ ps) (q ∷ qs) h k same =
    let e : p ≡ q = same_first p q ps qs h.0 k.0 (sym (same p) ∙ among_first p ps) (same q ∙ among_first q qs) in
    let b : Above p qs = subst (λ x. Above x qs) (sym e) k.0 in
    let rest : (r : Path) → among ps r ≡ among qs r = λ r.
    or_apart (bytes_eq r p) (among ps r) (among qs r)
    (λ is. false_unless (among ps r) (λ m. less_itself p (subst (λ x. slice_cmp nat_cmp p x ≡ Less) (same_place r p is) (above_among p r ps h.0 m))))
    (λ is. false_unless (among qs r) (λ m. less_itself p (subst (λ x. slice_cmp nat_cmp p x ≡ Less) (same_place r p is) (above_among p r qs b m))))
    (same r ∙ ap (λ x. bytes_eq r x || among qs r) (sym e)) in
    λ i. e i ∷ rising_same ps qs h.1 k.1 rest i

-- ## The members' places rise

cmp_same : (a : ℕ) (r : Ordering) → ordering_then (nat_cmp a a) r ≡ r
cmp_same a r = ap (λ x. ordering_then x r) (tied_itself nat_cmp_total a)

cmp_after : (p a b : Path) → slice_cmp nat_cmp (p ++ a) (p ++ b) ≡ slice_cmp nat_cmp a b
cmp_after [] a b = refl
cmp_after (x ∷ p) a b = cmp_same x (slice_cmp nat_cmp (p ++ a) (p ++ b)) ∙ cmp_after p a b

cmp_in : (p a b : Path) → slice_cmp nat_cmp (in_folder p a) (in_folder p b) ≡ slice_cmp nat_cmp a b
cmp_in p a b = cmp_after p (47 ∷ a) (47 ∷ b) ∙ cmp_same 47 (slice_cmp nat_cmp a b)

places_above : (p a : Path) (ms : List Member) → Above a (names_of ms) → Above (in_folder p a) (member_places p ms)
places_above p a [] h = tt
places_above p a (m ∷ ms) h = (cmp_in p a m.name ∙ h.0, places_above p a ms h.1)

places_rise : (p : Path) (ms : List Member) → are_rising (names_of ms) ≡ true → IsRising (member_places p ms)
unfolding IsStrictlySortedBy
places_rise p [] h = tt
places_rise p (m ∷ ms) h = (places_above p m.name ms (rising_first m.name (names_of ms) h), places_rise p ms (rising_rest m.name (names_of ms) h))

-- ## Lists

among_filter : (t : Path → Bool) (xs : List Path) (q : Path) → among (filter t xs) q ≡ (among xs q && t q)
among_filter t [] q = refl
among_filter t (x ∷ xs) q = go (t x) refl (bytes_eq q x) refl (among_filter t xs q)
  where
    never : (a : Bool) → (a && false) ≡ false
    never true = refl
    never false = refl

    go : (b : Bool) → t x ≡ b → (c : Bool) → bytes_eq q x ≡ c → among (filter t xs) q ≡ (among xs q && t q) → among (cond b (x ∷ filter t xs) (filter t xs)) q ≡ ((c || among xs q) && t q)
    go true e true f ih = ap (λ v. v || among (filter t xs) q) f ∙ sym (subst (λ z. t z ≡ true) (sym (same_place q x f)) e)
    go true e false f ih = ap (λ v. v || among (filter t xs) q) f ∙ ih
    go false e true f ih =
        let none = subst (λ z. t z ≡ false) (sym (same_place q x f)) e in
        ih ∙ ap (λ v. among xs q && v) none ∙ never (among xs q) ∙ sym none
    go false e false f ih = ih

among_in : (ps : List Path) (q : Path) → IsIn ps q → among ps q ≡ true
among_in (p ∷ ps) q (inl e) = or_first (bytes_eq q p) (among ps q) (subst (λ x. bytes_eq q x ≡ true) e (place_itself q))
among_in (p ∷ ps) q (inr h) = or_second (bytes_eq q p) (among ps q) (among_in ps q h)
among_in [] q h = absurd h

place_of : (P : Member → Type 0) (p : Path) (ms : List Member) (q : Path) → Each P ms → among (member_places p ms) q ≡ true → (m : Member) × P m × (q ≡ in_folder p m.name)
place_of P p [] q each h = absurd (never_both false h refl)
place_of P p (m ∷ ms) q each h =
    elim (or_cases (bytes_eq q (in_folder p m.name)) (among (member_places p ms) q) h) [
      | inl e ↦ (m, each.0, same_place q (in_folder p m.name) e)
      | inr there ↦ place_of P p ms q each.1 there
    ]

-- ## Places in a folder

pub below_in : (p name : Path) → below p (in_folder p name) ≡ name
below_in [] name = refl
below_in (b ∷ p) name = ap (λ n. drop n (b ∷ p ++ 47 ∷ name)) (more (length p)) ∙ below_in p name
  where
    more : (n : ℕ) → suc n + 1 ≡ suc (n + 1)
    more n = grind arith

outside_under : (p q : Path) → is_path p ≡ true → is_under q p ≡ true → is_outside q ≡ true
outside_under p q path under =
    ap not (false_unless (is_at_or_under q own_folder)
    (λ own. never_both (is_at_or_under q p) (at_when_under q p under) (outside-own p q (path_outside p path) own).at_or_over))

pub found_stands : (nodes : Nodes) (p q : Path) → IsFound nodes p q → Stands (nodes q)
found_stands nodes p q (Inside name is there) = there
found_stands nodes p q (Deeper folder name before reads is there) = there

reads_some : (s : NodeState) → Stands s → is_some (reading s) ≡ true
reads_some Owned h = absurd h
reads_some (Known None besides) h = absurd h
reads_some (Known (Some n) besides) h = refl

some_stands : (s : NodeState) → is_some (reading s) ≡ true → Stands s
some_stands Owned h = absurd (never_both false h refl)
some_stands (Known None besides) h = absurd (never_both false h refl)
some_stands (Known (Some n) besides) h = tt

pub folder_read : (s : NodeState) → reads_folder s ≡ is_directory (reading s)
folder_read Owned = refl
folder_read (Known None besides) = refl
folder_read (Known (Some Directory) besides) = refl
folder_read (Known (Some (Regular bytes time read_only)) besides) = refl

valid_rising : (p : Path) (ms : List Member) → are_valid_members p ms ≡ true → are_rising (names_of ms) ≡ true
valid_rising p ms h =
    and_first (are_rising (names_of ms)) (list_all (λ (m : Member). list_all (is_member_folder ms) (folders_above m.name)) ms)
    (and_second (are_members p (names_of ms)) (are_rising (names_of ms) && list_all (λ (m : Member). list_all (is_member_folder ms) (folders_above m.name)) ms) h)

-- ## What a world has under a folder

module _ (read : List ℕ → Option Record) (w : World) (p : Path) (formed : IsFormed w) (path : is_path p ≡ true) where
  listed : (q : Path) → among (names_under (seen read w) p) q ≡ ((among w.names q && (is_outside q && is_some (reading (w.nodes q)))) && is_under q p)
  listed q =
      among_filter (λ x. is_under x p) (filter (λ x. is_outside x && is_some (reading (w.nodes x))) w.names) q
      ∙ ap (λ b. b && is_under q p) (among_filter (λ x. is_outside x && is_some (reading (w.nodes x))) w.names q)

  named : (q : Path) → is_some (reading (w.nodes q)) ≡ true → among w.names q ≡ true
  named q some = by (among w.names q) refl
    where
      by : (b : Bool) → among w.names q ≡ b → b ≡ true
      by true e = refl
      by false e = absurd (never_both (is_some (reading (w.nodes q))) some (ap (λ n. is_some n) (formed.complete q e)))

  listed_there : (q : Path) → among (names_under (seen read w) p) q ≡ true → (is_under q p ≡ true) × Stands (w.nodes q)
  listed_there q h =
      let both = sym (listed q) ∙ h in
      let one = and_first (among w.names q && (is_outside q && is_some (reading (w.nodes q)))) (is_under q p) both in (
        and_second (among w.names q && (is_outside q && is_some (reading (w.nodes q)))) (is_under q p) both,
        some_stands (w.nodes q) (and_second (is_outside q) (is_some (reading (w.nodes q))) (and_second (among w.names q) (is_outside q && is_some (reading (w.nodes q))) one)),
      )

  there_listed : (q : Path) → is_under q p ≡ true → Stands (w.nodes q) → among (names_under (seen read w) p) q ≡ true
  there_listed q under stands =
      let some = reads_some (w.nodes q) stands in
      listed q
      ∙ both_true (among w.names q && (is_outside q && is_some (reading (w.nodes q)))) (is_under q p)
      (both_true (among w.names q) (is_outside q && is_some (reading (w.nodes q))) (named q some) (both_true (is_outside q) (is_some (reading (w.nodes q))) (outside_under p q path under) some))
      under

  names_rise : IsRising (names_under (seen read w) p)
  names_rise =
      IsStrictlySortedBy-filter (slice_cmp nat_cmp) (λ x. is_under x p) (filter (λ x. is_outside x && is_some (reading (w.nodes x))) w.names)
      (IsStrictlySortedBy-filter (slice_cmp nat_cmp) (λ x. is_outside x && is_some (reading (w.nodes x))) w.names formed.rising)

  abbrev member_at : Path → Member
  member_at q = record { folder = is_folder (seen read w) q; name = below p q }

  as_member : (m : Member) → IsThere w.nodes p m → m ≡ member_at (in_folder p m.name)
  as_member m there =
      let place = in_folder p m.name in
      let kind : m.folder ≡ is_folder (seen read w) place =
      sym there.1 ∙ folder_read (w.nodes place) ∙ ap (λ (b : Bool). is_directory (if b then reading (w.nodes place) else None)) (sym (outside_under p place path (under_folder p m.name))) in
      λ i. record { folder = kind i; name = sym (below_in p m.name) i }

  as_members : (ms : List Member) → Each (IsThere w.nodes p) ms → ms ≡ map member_at (member_places p ms)
  as_members [] each = refl
  as_members (m ∷ ms) each = λ i. as_member m each.0 i ∷ as_members ms each.1 i

  pub places_same : (members : List Member) → AllIsFound w.nodes p → AreMembers w.nodes p members → member_places p members ≡ names_under (seen read w) p
  places_same members all are =
      rising_same (member_places p members) (names_under (seen read w) p)
      (places_rise p members (valid_rising p members are.valid)) names_rise
      (λ q. both_ways (among (member_places p members) q) (among (names_under (seen read w) p) q)
      (λ h.
      let m = place_of (IsThere w.nodes p) p members q are.there h in
      subst (λ x. among (names_under (seen read w) p) x ≡ true) (sym m.2)
      (there_listed (in_folder p m.0.name) (under_folder p m.0.name) (found_stands w.nodes p (in_folder p m.0.name) m.1.0)))
      (λ h. let k = listed_there q h in among_in (member_places p members) q (are.all q (all q k.0 k.1))))

  -- the members that were found are those that the world has
  pub same_members : (members : List Member) → AllIsFound w.nodes p → AreMembers w.nodes p members → members ≡ members_under (seen read w) p
  same_members members all are = as_members members are.there ∙ ap (map member_at) (places_same members all are)

-- ## What is found depends on what reads under the folder alone

-- the same reads in both at and under the folder
abbrev pub IsAlike : Nodes → Nodes → Path → Type 0
IsAlike nodes others p = (q : Path) → is_at_or_under q p ≡ true → reading (others q) ≡ reading (nodes q)

alike_flipped : (nodes others : Nodes) (p : Path) → IsAlike nodes others p → IsAlike others nodes p
alike_flipped nodes others p same q h = sym (same q h)

stands_alike : (s t : NodeState) → reading t ≡ reading s → Stands s → Stands t
stands_alike s t same there = some_stands t (ap (λ n. is_some n) same ∙ reads_some s there)

found_under : (nodes : Nodes) (p q : Path) → IsFound nodes p q → is_at_or_under q p ≡ true
found_under nodes p q (Inside name is there) = at_when_under (in_folder p name) p (under_folder p name)
found_under nodes p q (Deeper folder name before reads is there) =
    at_or_under_further (in_folder folder name) folder p (at_when_under (in_folder folder name) folder (under_folder folder name)) (found_under nodes p folder before)

found_alike : (nodes others : Nodes) (p : Path) → IsAlike nodes others p → (q : Path) → IsFound nodes p q → IsFound others p q
found_alike nodes others p same q (Inside name is there) =
    Inside name is (stands_alike (nodes (in_folder p name)) (others (in_folder p name)) (same (in_folder p name) (at_when_under (in_folder p name) p (under_folder p name))) there)
found_alike nodes others p same q (Deeper folder name before reads is there) =
    let at = found_under nodes p folder before in
    let at' = at_or_under_further (in_folder folder name) folder p (at_when_under (in_folder folder name) folder (under_folder folder name)) at in
    Deeper folder name (found_alike nodes others p same folder before)
    (folder_read (others folder) ∙ ap is_directory (same folder at) ∙ sym (folder_read (nodes folder)) ∙ reads) is
    (stands_alike (nodes (in_folder folder name)) (others (in_folder folder name)) (same (in_folder folder name) at') there)

pub all_alike : (nodes others : Nodes) (p : Path) → IsAlike nodes others p → AllIsFound nodes p → AllIsFound others p
all_alike nodes others p same all q under there =
    found_alike nodes others p same q (all q under (stands_alike (others q) (nodes q) (sym (same q (at_when_under q p under))) there))

pub members_alike : (nodes others : Nodes) (p : Path) → IsAlike nodes others p → (members : List Member) → AreMembers nodes p members → AreMembers others p members
members_alike nodes others p same members are =
    record {
      valid = are.valid;
      there = each_there members are.there;
      all = λ q found. are.all q (found_alike others nodes p (alike_flipped nodes others p same) q found);
    }
  where
    each_there : (ms : List Member) → Each (IsThere nodes p) ms → Each (IsThere others p) ms
    each_there [] h = tt
    each_there (m ∷ ms) h =
        let at = in_folder p m.name in (
          (
            found_alike nodes others p same at h.0.0,
            folder_read (others at) ∙ ap is_directory (same at (at_when_under at p (under_folder p m.name))) ∙ sym (folder_read (nodes at)) ∙ h.0.1,
          ),
          each_there ms h.1,
        )
