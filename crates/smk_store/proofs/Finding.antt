-- What a folder's listing tells, and what is found in the folder name by name.
use Rattle.std.proofs.Common.{◌≡◌, ◌⊎◌, inl, inr, ◌≢◌, ℕ, ◌+◌, ◌<◌, ◌≤◌, ◌==◌, Bool, true, false, ◌||◌, List, [], ◌∷◌, ◌++◌, map, length, take, get_or, refl, sym, ap, subst, ◌∙◌, Option, Some, None, arith, append_assoc, length-append}
use Rattle.std.specs.Prelude.{IsSome, is_some, IsTrue, All, Contains, if◌then◌else◌, nat_le, nat_lt}
use Rattle.std.specs.List.{list_any}
use Rattle.std.specs.Str.{IsUtf8}
use Rattle.std.proofs.lemmas.Bool.{eqb-true, leb-true, lt-ltb, ltb-true}
use Rattle.std.proofs.lemmas.List.{take_more, take_all}
use Rattle.std.proofs.lemmas.List.Elements.{All-get_or, All-head, All-tail, All-weaker, All-map, All-push, All-contains, All-contains_itself}
use Rattle.std.proofs.lemmas.List.Folds.{list_any_at}
use Rattle.smk_base.specs.Path.{is_under}
use Rattle.smk_base.specs.Place.{name_of}
use Rattle.smk_base.proofs.Places.{and_second, same_place, place_itself}
use Rattle.smk_base.proofs.Under.{never_both, or_cases, or_first, or_second, under_folder, under_further, at_when_under}
use Rattle.smk_world.specs.declared.event.Listing.{Listing}
use Rattle.smk_world.specs.declared.event.Name.{Name}
use Rattle.smk_world.specs.declared.event.Node.{Node}
use Rattle.smk_world.specs.declared.event.Node.TheVariants.{Regular, Directory}
use Rattle.smk_world.specs.declared.event.NodeState.{NodeState}
use Rattle.smk_world.specs.declared.event.NodeState.TheVariants.{Owned, Known}
use Rattle.smk_world.specs.World.{World, reading, reads_folder}
use Rattle.smk_world.specs.Folders.{IsTree}
use Rattle.smk_world.specs.Calls.{in_folder, is_name, IsTextName, Stands, MayStand, IsListing, ListingIs}
use Rattle.smk_world.specs.Trees.{Path, is_path_text}
use Rattle.smk_store.specs.Loading.{store_folder}
use Rattle.smk_store.specs.Unowned.{IsUnownedUnder}
use Rattle.smk_store.specs.Walking.{after_sign, is_it, tells_of, all_tell_of, front_in, front_below, StandsIn, Walked, HasAll}
use Rattle.smk_store.proofs.Standing.{tree_folder}
use Rattle.smk_store.proofs.Walks.{flat, name_flat, name_join, split, Deeper, utf8_behind, utf8_before, bytes_behind, bytes_before, path_bytes, path_short, path_utf8, signed_text, signed_name, not_or_second}

-- ## What a listing tells

-- the name is one, and something of its kind stands there
pub record Stood (nodes : Path → NodeState) (folder : Path) (n : Name) : Type 0 where
  pub name : is_name n.name ≡ true
  pub some : IsSome (reading (nodes (in_folder folder n.name)))
  pub kind : n.folder ≡ reads_folder (nodes (in_folder folder n.name))

pub record Listed (nodes : Path → NodeState) (folder : Path) (names : List Name) : Type 0 where
  pub each : All (Stood nodes folder) names
  pub all : (name : Path) → is_name name ≡ true → IsTextName name → IsSome (reading (nodes (in_folder folder name))) → Contains (map (λ (n : Name). n.name) names) name
  pub deeper : (name rest : Path) → IsSome (reading (nodes (in_folder (in_folder folder name) rest))) → reads_folder (nodes (in_folder folder name)) ≡ true
  pub above : (name : Path) → IsSome (reading (nodes (in_folder folder name))) → reads_folder (nodes folder) ≡ true

none_some : (A : Type 0) → IsSome {T = A} None → ⊥
none_some A h = cc

may_stand : (folder : Bool) (s : NodeState) → s ≢ Owned → MayStand folder s → IsSome (reading s) × (folder ≡ reads_folder s)
may_stand folder Owned other h = absurd (other refl)
may_stand folder (Known None besides) other h = absurd h
may_stand folder (Known (Some (Regular bytes time read_only)) besides) other h = (refl, sym h)
may_stand folder (Known (Some Directory) besides) other h = (refl, sym h)

stands : (s : NodeState) → IsSome (reading s) → Stands s
stands Owned h = absurd (none_some Node h)
stands (Known None besides) h = absurd (none_some Node h)
stands (Known (Some node) besides) h = tt

pub under_store : (folder name : Path) → is_under folder store_folder ≡ true → is_under (in_folder folder name) store_folder ≡ true
under_store folder name h = under_further (in_folder folder name) folder store_folder (under_folder folder name) h

none_listed : (w : World) (folder : Path) (names : List Name) → IsTree w → names ≡ [] → reads_folder (w.nodes folder) ≡ false → Listed w.nodes folder names
none_listed w folder names tree none plain =
    record {
      each = subst (All (Stood w.nodes folder)) (sym none) (λ k d lt. absurd (omega arith));
      all = λ name is text some. absurd (never_both (reads_folder (w.nodes folder)) (tree_folder w tree folder name some) plain);
      deeper = λ name rest some. tree_folder w tree (in_folder folder name) rest some;
      above = λ name some. tree_folder w tree folder name some;
    }

all_listed : (w : World) (folder : Path) (listing : Listing) → IsTree w → IsUnownedUnder w.nodes store_folder → is_under folder store_folder ≡ true → IsListing w folder listing → Listed w.nodes folder listing.names
all_listed w folder listing tree free under h =
    record {
      each = All-weaker (λ (n : Name). IsTrue (is_name n.name) × IsTextName n.name × MayStand n.folder (w.nodes (in_folder folder n.name))) (Stood w.nodes folder)
          (λ n p.
          let stood = may_stand n.folder (w.nodes (in_folder folder n.name)) (free (in_folder folder n.name) (at_when_under (in_folder folder n.name) store_folder (under_store folder n.name under))) p.2 in
          record { name = p.0; some = stood.0; kind = stood.1 })
          listing.names h.stand;
      all = λ name is text some. h.all name is text (stands (w.nodes (in_folder folder name)) some);
      deeper = λ name rest some. tree_folder w tree (in_folder folder name) rest some;
      above = λ name some. tree_folder w tree folder name some;
    }

listed_by : (w : World) (folder : Path) (listing : Listing) (s : NodeState) → IsTree w → IsUnownedUnder w.nodes store_folder → is_under folder store_folder ≡ true → w.nodes folder ≡ s → ListingIs w folder listing s → Listed w.nodes folder listing.names
listed_by w folder listing Owned tree free under at h = absurd (free folder (at_when_under folder store_folder under) at)
listed_by w folder listing (Known None besides) tree free under at h = none_listed w folder listing.names tree (ap (λ (l : Listing). l.names) h) (ap reads_folder at)
listed_by w folder listing (Known (Some (Regular bytes time read_only)) besides) tree free under at h = none_listed w folder listing.names tree (ap (λ (l : Listing). l.names) h) (ap reads_folder at)
listed_by w folder listing (Known (Some Directory) besides) tree free under at h = all_listed w folder listing tree free under h.1

pub listed : (w : World) (folder : Path) (listing : Listing) → IsTree w → IsUnownedUnder w.nodes store_folder → is_under folder store_folder ≡ true → ListingIs w folder listing (w.nodes folder) → Listed w.nodes folder listing.names
listed w folder listing tree free under h = listed_by w folder listing (w.nodes folder) tree free under refl h

-- ## Signs

abbrev signed_by : ℕ → ℕ → List ℕ → Bool → Option (List ℕ)
signed_by sign b t same = if same then Some t else None

sign_by : (sign b : ℕ) (t part : List ℕ) (same : Bool) → (b == sign) ≡ same → signed_by sign b t same ≡ Some part → b ∷ t ≡ sign ∷ part
sign_by sign b t part true e h = let s : t ≡ part = cc in λ i. eqb-true b sign e i ∷ s i
sign_by sign b t part false e h = absurd cc

sign_is : (sign : ℕ) (t part : List ℕ) → after_sign sign t ≡ Some part → t ≡ sign ∷ part
sign_is sign [] part h = absurd cc
sign_is sign (b ∷ t) part h = sign_by sign b t part (b == sign) refl h

-- the name is an equals sign and the end of the path
ended_by : (front q : Path) (name : List ℕ) (o : Option (List ℕ)) → after_sign 61 name ≡ o → is_it front q o ≡ true → (part : List ℕ) × (name ≡ 61 ∷ part) × (q ≡ front ++ part)
ended_by front q name None e h = absurd (never_both false h refl)
ended_by front q name (Some part) e h = (part, sign_is 61 name part e, sym (same_place (front ++ part) q h))

short_by : (front : Path) (part : List ℕ) (below : Path) (short : Bool) → nat_lt (length front + length part) 1000 ≡ short → (if short then Some (front ++ (part ++ 47 ∷ [])) else None) ≡ Some below → below ≡ front ++ (part ++ 47 ∷ [])
short_by front part below true e h = cc
short_by front part below false e h = absurd cc

front_is : (front : Path) (o : Option (List ℕ)) (below : Path) → front_in front o ≡ Some below → (part : List ℕ) × (o ≡ Some part) × (below ≡ front ++ (part ++ 47 ∷ []))
front_is front None below h = absurd cc
front_is front (Some part) below h = (part, refl, short_by front part below (nat_lt (length front + length part) 1000) refl h)

below_by : (front : Path) (n : Name) (below : Path) (folder : Bool) → (if folder then front_in front (after_sign 43 n.name) else None) ≡ Some below → (part : List ℕ) × (n.name ≡ 43 ∷ part) × (below ≡ front ++ (part ++ 47 ∷ []))
below_by front n below true h =
    let f = front_is front (after_sign 43 n.name) below h in
    (f.0, sign_is 43 n.name f.0 f.1, f.2)
below_by front n below false h = absurd cc

below_is : (front : Path) (n : Name) (below : Path) → front_below front n ≡ Some below → (part : List ℕ) × (n.name ≡ 43 ∷ part) × (below ≡ front ++ (part ++ 47 ∷ []))
below_is front n below h = below_by front n below n.folder h

short_front : (front : Path) (part : List ℕ) (short : Bool) → short ≡ true → (if short then Some (front ++ (part ++ 47 ∷ [])) else None) ≡ None → ⊥
short_front front part true e h = cc
short_front front part false e h = never_both false e refl

never_none : (front : Path) (n : Name) (part : List ℕ) → n.folder ≡ true → n.name ≡ 43 ∷ part → length front + length part < 1000 → front_below front n ≡ None → ⊥
never_none front n part folder name short h =
    short_front front part (nat_lt (length front + length part) 1000) (lt-ltb (length front + length part) 1000 short)
    (sym (ap (λ (b : Bool). if b then front_in front (after_sign 43 n.name) else None) folder ∙ ap (λ (t : List ℕ). front_in front (after_sign 43 t)) name) ∙ h)

short_len : (front : Path) (part : List ℕ) (below : Path) (short : Bool) → nat_lt (length front + length part) 1000 ≡ short → (if short then Some (front ++ (part ++ 47 ∷ [])) else None) ≡ Some below
    → (length front < length below) × (length below ≤ 1000)
short_len front part below true e h =
    let is : below ≡ front ++ (part ++ 47 ∷ []) = cc in
    let lt : length front + length part < 1000 = ltb-true (length front + length part) 1000 e in
    let len : length below ≡ length front + (length part + 1) = ap length is ∙ length-append front (part ++ 47 ∷ []) ∙ ap (λ n. length front + n) (length-append part (47 ∷ [])) in (
      omega (arith, lt, len),
      omega (arith, lt, len),
    )
short_len front part below false e h = absurd cc

len_by : (front : Path) (o : Option (List ℕ)) (below : Path) → front_in front o ≡ Some below → (length front < length below) × (length below ≤ 1000)
len_by front None below h = absurd cc
len_by front (Some part) below h = short_len front part below (nat_lt (length front + length part) 1000) refl h

len_in : (front : Path) (o : Option (List ℕ)) (below : Path) (folder : Bool) → (if folder then front_in front o else None) ≡ Some below → (length front < length below) × (length below ≤ 1000)
len_in front o below true h = len_by front o below h
len_in front o below false h = absurd cc

-- the front grows, and ends at 1,000 bytes
pub front_grows : (front : Path) (n : Name) (below : Path) → front_below front n ≡ Some below → (length front < length below) × (length below ≤ 1000)
front_grows front n below h = len_in front (after_sign 43 n.name) below n.folder h

-- ## Name by name

-- all that stands in the folder of this name is found
abbrev pub Entered : (Path → NodeState) → Path → Path → (Path → Bool) → Name → Type 0
Entered nodes folder front found n =
    (part rest : Path) → n.name ≡ 43 ∷ part → flat part ≡ true → is_path_text (front ++ (part ++ 47 ∷ rest)) ≡ true → StandsIn nodes folder (part ++ 47 ∷ rest) → found (front ++ (part ++ 47 ∷ rest)) ≡ true

-- so far: the names themselves, and these folders
pub record SoFar (nodes : Path → NodeState) (folder front : Path) (old new : Path → Bool) (done : List Name) : Type 0 where
  pub sound : (q : Path) → new q ≡ true → (old q ≡ true) ⊎ ((rest : Path) × (q ≡ front ++ rest) × StandsIn nodes folder rest)
  pub last : (rest : Path) → flat rest ≡ true → is_path_text (front ++ rest) ≡ true → StandsIn nodes folder rest → new (front ++ rest) ≡ true
  pub keeps : (q : Path) → old q ≡ true → new q ≡ true
  pub entered : All (Entered nodes folder front new) done

any_of : (p : Name → Bool) (P : Name → Type 0) (names : List Name) → list_any p names ≡ true → All P names → (n : Name) × (p n ≡ true) × P n
any_of p P [] h all = absurd (never_both false h refl)
any_of p P (n ∷ names) h all =
    elim (or_cases (p n) (list_any p names) h) [
      | inl here ↦ (n, here, All-head P n names all)
      | inr there ↦ any_of p P names there (All-tail P n names all)
    ]

contained : (names : List Name) (p : Name → Bool) (n : Name) → Contains names n → p n ≡ true → list_any p names ≡ true
contained names p n h e = list_any_at p names h.0 n h.1 (ap p h.2 ∙ e)

-- the name stands among these
named_in : (names : List Name) (name : Path) → Contains (map (λ (n : Name). n.name) names) name → (n : Name) × Contains names n × (n.name ≡ name)
named_in names name h =
    All-contains (λ (x : Path). (n : Name) × Contains names n × (n.name ≡ x)) (map (λ (n : Name). n.name) names) name
    (All-map (λ (x : Path). (n : Name) × Contains names n × (n.name ≡ x)) (λ (n : Name). n.name) names
    (All-weaker (Contains names) (λ (m : Name). (n : Name) × Contains names n × (n.name ≡ m.name)) (λ m c. (m, c, refl)) names (All-contains_itself names))) h

-- the place of the last part, and that of a part that others follow
last_place : (folder part : Path) → flat part ≡ true → in_folder folder (name_of part) ≡ in_folder folder (61 ∷ part)
last_place folder part h = ap (in_folder folder) (name_flat part h)

deeper_place : (folder part rest : Path) → flat part ≡ true → in_folder folder (name_of (part ++ 47 ∷ rest)) ≡ in_folder (in_folder folder (43 ∷ part)) (name_of rest)
deeper_place folder part rest h =
    ap (in_folder folder) (name_join part rest h) ∙ sym (append_assoc folder (47 ∷ (43 ∷ part)) (47 ∷ name_of rest))

further : (front part rest : Path) → (front ++ (part ++ 47 ∷ [])) ++ rest ≡ front ++ (part ++ 47 ∷ rest)
further front part rest = append_assoc front (part ++ 47 ∷ []) rest ∙ ap (λ (t : Path). front ++ t) (append_assoc part (47 ∷ []) rest)

flat_name : (sign : ℕ) (part : Path) → is_name (sign ∷ part) ≡ true → flat part ≡ true
flat_name sign part h = not_or_second (sign == 47) (list_any (λ (b : ℕ). b == 47) part) (and_second (nat_le 1 (length (sign ∷ part))) (flat (sign ∷ part)) h)

some_at : (nodes : Path → NodeState) (a b : Path) → a ≡ b → IsSome (reading (nodes a)) → IsSome (reading (nodes b))
some_at nodes a b e h = subst (λ (q : Path). IsSome (reading (nodes q))) e h

folder_some : (s : NodeState) → reads_folder s ≡ true → IsSome (reading s)
folder_some Owned h = absurd (never_both false h refl)
folder_some (Known None besides) h = absurd (never_both false h refl)
folder_some (Known (Some (Regular bytes time read_only)) besides) h = absurd (never_both false h refl)
folder_some (Known (Some Directory) besides) h = refl

module _ (nodes : Path → NodeState) (folder front : Path) (names : List Name) (l : Listed nodes folder names) (utf8 : IsUtf8 front) where
  -- the names themselves
  pub begun : (old new : Path → Bool) → ((q : Path) → new q ≡ (all_tell_of front names q || old q)) → SoFar nodes folder front old new []
  begun old new is =
      record {
        sound = λ q h.
            elim (or_cases (all_tell_of front names q) (old q) (sym (is q) ∙ h)) [
              | inl told ↦
                  let n = any_of (tells_of front q) (Stood nodes folder) names told l.each in
                  let e = ended_by front q n.0.name (after_sign 61 n.0.name) refl n.1 in
                  let is_flat : flat e.0 ≡ true = flat_name 61 e.0 (subst (λ (t : Path). is_name t ≡ true) e.1 n.2.name) in
                  inr (e.0, e.2, some_at nodes (in_folder folder n.0.name) (in_folder folder (name_of e.0)) (ap (in_folder folder) e.1 ∙ sym (last_place folder e.0 is_flat)) n.2.some)
              | inr before ↦ inl before
            ];
        last = λ rest is_flat path some.
            let text : IsTextName (61 ∷ rest) = signed_text 61 rest (omega arith) refl (utf8_behind front rest (path_utf8 (front ++ rest) path) utf8) (bytes_behind front rest (path_bytes (front ++ rest) path)) in
            let n = named_in names (61 ∷ rest) (l.all (61 ∷ rest) (signed_name 61 rest refl is_flat) text (some_at nodes (in_folder folder (name_of rest)) (in_folder folder (61 ∷ rest)) (last_place folder rest is_flat) some)) in
            is (front ++ rest)
            ∙ or_first (all_tell_of front names (front ++ rest)) (old (front ++ rest))
            (contained names (tells_of front (front ++ rest)) n.0 n.1 (ap (λ (t : Path). is_it front (front ++ rest) (after_sign 61 t)) n.2 ∙ place_itself (front ++ rest)));
        keeps = λ q h. is q ∙ or_second (all_tell_of front names q) (old q) h;
        entered = λ k d lt. absurd (omega arith);
      }

  -- a name that is entered no further
  pub passed : (old new : Path → Bool) (done : List Name) (n : Name) → SoFar nodes folder front old new done → Stood nodes folder n → front_below front n ≡ None → SoFar nodes folder front old new (done ++ n ∷ [])
  passed old new done n s stood none =
      record {
        sound = s.sound;
        last = s.last;
        keeps = s.keeps;
        entered = All-push (Entered nodes folder front new) done n s.entered (λ part rest name is_flat path some.
            absurd (never_none front n part
            (stood.kind ∙ ap (λ (t : Path). reads_folder (nodes (in_folder folder t))) name
            ∙ l.deeper (43 ∷ part) (name_of rest) (some_at nodes (in_folder folder (name_of (part ++ 47 ∷ rest))) (in_folder (in_folder folder (43 ∷ part)) (name_of rest)) (deeper_place folder part rest is_flat) some))
            name (short part rest path) none));
      }
    where
      short : (part rest : Path) → is_path_text (front ++ (part ++ 47 ∷ rest)) ≡ true → length front + length part < 1000
      short part rest path =
          omega (arith, leb-true (length (front ++ (part ++ 47 ∷ rest))) 1000 (path_short (front ++ (part ++ 47 ∷ rest)) path), length-append front (part ++ 47 ∷ rest), length-append part (47 ∷ rest))

  -- a folder that was walked
  pub walked_in : (old now new : Path → Bool) (done : List Name) (n : Name) (below : Path) → SoFar nodes folder front old now done → Stood nodes folder n → front_below front n ≡ Some below → Walked nodes (in_folder folder n.name) below now new
      → SoFar nodes folder front old new (done ++ n ∷ [])
  walked_in old now new done n below s stood is w =
      let b = below_is front n below is in
      let is_flat : flat b.0 ≡ true = flat_name 43 b.0 (subst (λ (t : Path). is_name t ≡ true) b.1 stood.name) in
      record {
        sound = λ q h.
            elim (w.sound q h) [
              | inl before ↦ s.sound q before
              | inr more ↦ inr (
                b.0 ++ 47 ∷ more.0,
                more.1 ∙ ap (λ (t : Path). t ++ more.0) b.2 ∙ further front b.0 more.0,
                some_at nodes (in_folder (in_folder folder n.name) (name_of more.0)) (in_folder folder (name_of (b.0 ++ 47 ∷ more.0)))
                    (ap (λ (t : Path). in_folder (in_folder folder t) (name_of more.0)) b.1 ∙ sym (deeper_place folder b.0 more.0 is_flat)) more.2,
              )
            ];
        last = λ rest flat_rest path some. w.keeps (front ++ rest) (s.last rest flat_rest path some);
        keeps = λ q h. w.keeps q (s.keeps q h);
        entered = All-push (Entered nodes folder front new) done n
            (All-weaker (Entered nodes folder front now) (Entered nodes folder front new) (λ m e part rest name flat_part path some. w.keeps (front ++ (part ++ 47 ∷ rest)) (e part rest name flat_part path some)) done s.entered)
            (λ part rest name flat_part path some.
            let same : b.0 ≡ part = same_tail 43 b.0 part (sym b.1 ∙ name) in
            let joined : below ++ rest ≡ front ++ (part ++ 47 ∷ rest) = ap (λ (t : Path). t ++ rest) b.2 ∙ further front b.0 rest ∙ ap (λ (t : Path). front ++ (t ++ 47 ∷ rest)) same in
            subst (λ (q : Path). new q ≡ true) joined (w.complete rest (subst (λ (q : Path). is_path_text q ≡ true) (sym joined) path)
            (some_at nodes (in_folder folder (name_of (part ++ 47 ∷ rest))) (in_folder (in_folder folder n.name) (name_of rest))
            (deeper_place folder part rest flat_part ∙ ap (λ (t : Path). in_folder (in_folder folder t) (name_of rest)) (sym name)) some)));
      }
    where
      same_tail : (b : ℕ) (x y : Path) → b ∷ x ≡ b ∷ y → x ≡ y
      same_tail b x y e = cc

  -- all names
  pub finished : (old new : Path → Bool) → SoFar nodes folder front old new names → Walked nodes folder front old new
  finished old new s = record { sound = s.sound; complete = λ rest path some. by rest path some (split rest); keeps = s.keeps }
    where
      by : (rest : Path) → is_path_text (front ++ rest) ≡ true → StandsIn nodes folder rest → (flat rest ≡ true) ⊎ Deeper rest → new (front ++ rest) ≡ true
      by rest path some (inl is_flat) = s.last rest is_flat path some
      by rest path some (inr d) =
          let path2 : is_path_text (front ++ (d.part ++ 47 ∷ d.rest)) ≡ true = subst (λ (t : Path). is_path_text (front ++ t) ≡ true) d.is path in
          let some2 : StandsIn nodes folder (d.part ++ 47 ∷ d.rest) = subst (λ (t : Path). StandsIn nodes folder t) d.is some in
          let behind : IsUtf8 (d.part ++ 47 ∷ d.rest) = utf8_behind front (d.part ++ 47 ∷ d.rest) (path_utf8 (front ++ (d.part ++ 47 ∷ d.rest)) path2) utf8 in
          let bytes = bytes_before d.part (47 ∷ d.rest) (bytes_behind front (d.part ++ 47 ∷ d.rest) (path_bytes (front ++ (d.part ++ 47 ∷ d.rest)) path2)) in
          let text : IsTextName (43 ∷ d.part) = signed_text 43 d.part (omega arith) refl (utf8_before d.part d.rest behind) bytes in
          let deep : IsSome (reading (nodes (in_folder (in_folder folder (43 ∷ d.part)) (name_of d.rest)))) =
          some_at nodes (in_folder folder (name_of (d.part ++ 47 ∷ d.rest))) (in_folder (in_folder folder (43 ∷ d.part)) (name_of d.rest)) (deeper_place folder d.part d.rest d.is_flat) some2 in
          let n = named_in names (43 ∷ d.part) (l.all (43 ∷ d.part) (signed_name 43 d.part refl d.is_flat) text (folder_some (nodes (in_folder folder (43 ∷ d.part))) (l.deeper (43 ∷ d.part) (name_of d.rest) deep))) in
          subst (λ (t : Path). new (front ++ t) ≡ true) (sym d.is)
          (All-contains (Entered nodes folder front new) names n.0 s.entered n.1 d.part d.rest n.2 d.is_flat path2 some2)

-- the next name is at hand
pub stood_at : (nodes : Path → NodeState) (folder : Path) (names : List Name) (i : ℕ) (n : Name) → Listed nodes folder names → i < length names → n ≡ get_or names i n → Stood nodes folder n
stood_at nodes folder names i n l lt at = subst (Stood nodes folder) (sym at) (All-get_or (Stood nodes folder) names i n lt l.each)

pub taken_next : (names : List Name) (i : ℕ) (n : Name) → i < length names → n ≡ get_or names i n → take i names ++ n ∷ [] ≡ take (i + 1) names
taken_next names i n lt at = sym (take_more names i n lt ∙ ap (λ (m : Name). take i names ++ m ∷ []) (sym at))

pub all_taken : (names : List Name) (i : ℕ) → length names ≤ i → take i names ≡ names
all_taken names i done = take_all i names done

-- the folder of the name that was walked, and its front
pub walked_at : (nodes other : Path → NodeState) (folder folder2 front front2 : Path) (old new : Path → Bool) → other ≡ nodes → folder2 ≡ folder → front2 ≡ front → Walked other folder2 front2 old new → Walked nodes folder front old new
walked_at nodes other folder folder2 front front2 old new e f h w = subst (λ t. Walked nodes folder t old new) h (subst (λ t. Walked nodes t front2 old new) f (subst (λ t. Walked t folder2 front2 old new) e w))

-- what is found in a folder that is walked where nothing was found before
pub all_by : (w : World) (folder : Path) (old new : Path → Bool) → Walked w.nodes folder [] old new → ((q : Path) → old q ≡ false) → HasAll w folder new
all_by w folder old new walked none p path = by (new p) (is_some (reading (w.nodes (in_folder folder (name_of p))))) refl refl
  where
    by : (a b : Bool) → new p ≡ a → is_some (reading (w.nodes (in_folder folder (name_of p)))) ≡ b → new p ≡ is_some (reading (w.nodes (in_folder folder (name_of p))))
    by true true e f = e ∙ sym f
    by false false e f = e ∙ sym f
    by false true e f = absurd (never_both (new p) (walked.complete p path f) e)
    by true false e f =
        elim (walked.sound p e) [
          | inl before ↦ absurd (never_both (old p) before (none p))
          | inr r ↦ absurd (never_both (is_some (reading (w.nodes (in_folder folder (name_of p))))) (subst (StandsIn w.nodes folder) (sym r.1) r.2) f)
        ]
