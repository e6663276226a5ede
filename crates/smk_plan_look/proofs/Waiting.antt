-- Read-only files under a folder, as it is gone over.
use Rattle.std.proofs.Common.{◌≡◌, ◌⊎◌, inl, inr, ◌≢◌, ℕ, ◌+◌, ◌<◌, ◌≤◌, ◌==◌, Bool, true, false, ◌||◌, not, List, [], ◌∷◌, ◌++◌, map, length, take, get_or, refl, sym, ap, subst, ◌∙◌, arith, append-nil, append_assoc, Option, Some, None}
use Rattle.std.specs.Prelude.{IsSome, IsTrue, All, Contains}
use Rattle.std.specs.List.{list_any}
use Rattle.std.specs.Str.{IsUtf8}
use Rattle.std.proofs.lemmas.List.{take_more, take_all}
use Rattle.std.proofs.lemmas.List.Elements.{All-contains, All-weaker, All-map, All-contains_itself, All-get_or, All-push}
use Rattle.std.proofs.lemmas.List.Folds.{list_any-append}
use Rattle.std.proofs.lemmas.Str.{IsUtf8-append, IsUtf8-from_ascii}
use Rattle.std.proofs.lemmas.Str.Ascii.{IsAscii-cons, IsAscii-nil}
use Rattle.std.proofs.lemmas.Bool.{or_parts}
use Rattle.smk_base.specs.Path.{is_path_byte, are_path_bytes, is_under, is_at_or_under}
use Rattle.smk_base.proofs.Places.{and_first, and_second}
use Rattle.smk_base.proofs.Under.{never_both, false_of_not, both_true, under_folder, rest_under, at_itself, at_when_under, at_or_under_cases, at_or_under_further}
use Rattle.smk_world.specs.declared.event.Listing.{Listing}
use Rattle.smk_world.specs.declared.event.Name.{Name}
use Rattle.smk_world.specs.declared.event.Node.{Node}
use Rattle.smk_world.specs.declared.event.Node.TheVariants.{Regular, Directory}
use Rattle.smk_world.specs.declared.event.NodeState.{NodeState}
use Rattle.smk_world.specs.declared.event.NodeState.TheVariants.{Owned, Known}
use Rattle.smk_world.specs.World.{World, reading, reads_folder}
use Rattle.smk_world.specs.Calls.{in_folder, is_name, stat_of, IsTextName, MayStand, Stands, ListingIs}
use Rattle.smk_world.specs.Folders.{IsTree}
use Rattle.smk_world.specs.Trees.{Path, Each, IsIn, is_path_text, is_text}
use Rattle.smk_record.proofs.Digits.{text_is_utf8, utf8_is_text}
use Rattle.smk_store.specs.Images.{Content, content_of}
use Rattle.smk_store.proofs.Walks.{utf8_before, utf8_behind, path_bytes, path_utf8}
use Rattle.smk_store_members.specs.Members.{Nodes, IsFound}
use Rattle.smk_store_members.specs.Members.IsFound.{Inside, Deeper}
use Rattle.smk_store.specs.Unowned.{IsUnownedUnder}
use Rattle.smk_store_members.specs.Steps.{Either}
use Rattle.smk_store_members.proofs.Lists.{each_both, each_more, in_first, in_second}
use Rattle.smk_store.proofs.Looks.{unowned_still}
use Rattle.smk_store.proofs.Standing.{tree_folder}
use Rattle.smk_store_members.proofs.Trees.{some_stands, tree_found}
use Rattle.smk_plan.specs.States.{test_some}
use Rattle.smk_plan.specs.Sights.{is_tellable}
use Rattle.smk_plan_look.specs.Seeing.{IsGuard, HasGuard, TellsGuard, is_read_only}
use Rattle.smk_plan_look.specs.Guards.{IsToList, IsUnderOne, AreWaiting, IsNoted}

-- ## What looks tell

abbrev pub flag : Option Node → Bool
flag n = test_some (λ (f : Content). f.read_only) (content_of n)

pub read_only_same : (n : Option Node) → is_read_only (stat_of n) ≡ flag n
read_only_same None = refl
read_only_same (Some (Regular bytes time read_only)) = refl
read_only_same (Some Directory) = refl

pub guard_some : (s : NodeState) → flag (reading s) ≡ true → IsSome (reading s)
guard_some Owned h = absurd (never_both false h refl)
guard_some (Known None besides) h = absurd (never_both false h refl)
guard_some (Known (Some (Regular bytes time read_only)) besides) h = refl
guard_some (Known (Some Directory) besides) h = absurd (never_both false h refl)

pub guard_plain : (s : NodeState) → flag (reading s) ≡ true → reads_folder s ≡ true → ⊥
guard_plain Owned h k = never_both false k refl
guard_plain (Known None besides) h k = never_both false k refl
guard_plain (Known (Some (Regular bytes time read_only)) besides) h k = never_both false k refl
guard_plain (Known (Some Directory) besides) h k = never_both false h refl

-- ## Texts

abbrev has_feed : Path → Bool
has_feed t = list_any (λ (b : ℕ). b == 10) t

none_second : (a b : Bool) → (a || b) ≡ false → b ≡ false
none_second true b h = absurd (never_both true refl h)
none_second false b h = h

slash_utf8 : IsUtf8 (47 ∷ [])
slash_utf8 = IsUtf8-from_ascii (47 ∷ []) (IsAscii-cons 47 [] (omega arith) IsAscii-nil)

tellable_utf8 : (q : Path) → is_tellable q ≡ true → IsUtf8 q
tellable_utf8 q h = text_is_utf8 q (and_first (is_text q) (not (has_feed q)) h)

tellable_line : (q : Path) → is_tellable q ≡ true → has_feed q ≡ false
tellable_line q h = false_of_not (has_feed q) (and_second (is_text q) (not (has_feed q)) h)

tellable_of : (q : Path) → IsUtf8 q → has_feed q ≡ false → is_tellable q ≡ true
tellable_of q utf8 line = both_true (is_text q) (not (has_feed q)) (utf8_is_text q utf8) (ap not line)

-- a name in a folder that can be told
tellable_in : (folder name : Path) → is_tellable folder ≡ true → IsTextName name → is_tellable (in_folder folder name) ≡ true
tellable_in folder name h text =
    tellable_of (in_folder folder name)
    (IsUtf8-append folder (47 ∷ name) (tellable_utf8 folder h) (IsUtf8-append (47 ∷ []) name slash_utf8 text.0))
    (list_any-append (λ (b : ℕ). b == 10) folder (47 ∷ name) ∙ ap (λ (v : Bool). v || has_feed (47 ∷ name)) (tellable_line folder h) ∙ text.1)

no_feed : (t : List ℕ) → are_path_bytes t ≡ true → has_feed t ≡ false
no_feed [] h = refl
no_feed (b ∷ t) h =
    let here : is_path_byte b ≡ true = and_first (is_path_byte b) (are_path_bytes t) h in
    ap (λ (v : Bool). v || has_feed t) (false_of_not (b == 10) (and_second (not (b == 0)) (not (b == 10)) here))
    ∙ no_feed t (and_second (is_path_byte b) (are_path_bytes t) h)

pub path_tellable : (p : Path) → is_path_text p ≡ true → is_tellable p ≡ true
path_tellable p path = tellable_of p (path_utf8 p path) (no_feed p (path_bytes p path))

name_text : (folder name : Path) → IsUtf8 (in_folder folder name) → has_feed (in_folder folder name) ≡ false → IsTextName name
name_text folder name utf8 line = (
  utf8_behind (47 ∷ []) name (utf8_behind folder (47 ∷ name) utf8 (utf8_before folder name utf8)) slash_utf8,
  none_second (has_feed folder) (has_feed (47 ∷ name)) (sym (list_any-append (λ (b : ℕ). b == 10) folder (47 ∷ name)) ∙ line),
)

-- the name in a folder above what can be told
text_name_in : (folder name q : Path) → is_tellable q ≡ true → is_at_or_under q (in_folder folder name) ≡ true → IsTextName name
text_name_in folder name q h at =
    elim (at_or_under_cases q (in_folder folder name) at) [
      | inl e ↦ name_text folder name (subst IsUtf8 e (tellable_utf8 q h)) (sym (ap has_feed e) ∙ tellable_line q h)
      | inr under ↦
          let r = rest_under q (in_folder folder name) under in
          name_text folder name
          (utf8_before (in_folder folder name) r.0 (subst IsUtf8 r.1 (tellable_utf8 q h)))
          (or_parts (has_feed (in_folder folder name)) (has_feed (47 ∷ r.0)) (sym (list_any-append (λ (b : ℕ). b == 10) (in_folder folder name) (47 ∷ r.0)) ∙ sym (ap has_feed r.1) ∙ tellable_line q h)).0
    ]

-- ## The names in a folder

pub record IsNameThere (nodes : Nodes) (folder : Path) (n : Name) : Type 0 where
  pub text : IsTextName n.name
  pub kind : n.folder ≡ reads_folder (nodes (in_folder folder n.name))

-- what stands at each of these names, and that there are no more that can be told
pub record ListedIn (nodes : Nodes) (folder : Path) (names : List Name) : Type 0 where
  pub each : All (IsNameThere nodes folder) names
  pub all : (name : Path) → is_name name ≡ true → IsTextName name → Stands (nodes (in_folder folder name)) → Contains (map (λ (n : Name). n.name) names) name

kind_of : (folder : Bool) (s : NodeState) → s ≢ Owned → MayStand folder s → folder ≡ reads_folder s
kind_of folder Owned other h = absurd (other refl)
kind_of folder (Known None besides) other h = absurd h
kind_of folder (Known (Some (Regular bytes time read_only)) besides) other h = sym h
kind_of folder (Known (Some Directory) besides) other h = sym h

listed_by : (w : World) (folder : Path) (listing : Listing) (s : NodeState) → IsUnownedUnder w.nodes folder → reads_folder s ≡ true → ListingIs w folder listing s → ListedIn w.nodes folder listing.names
listed_by w folder listing Owned free reads h = absurd (never_both false reads refl)
listed_by w folder listing (Known None besides) free reads h = absurd (never_both false reads refl)
listed_by w folder listing (Known (Some (Regular bytes time read_only)) besides) free reads h = absurd (never_both false reads refl)
listed_by w folder listing (Known (Some Directory) besides) free reads h =
    record {
      each = All-weaker (λ (n : Name). IsTrue (is_name n.name) × IsTextName n.name × MayStand n.folder (w.nodes (in_folder folder n.name))) (IsNameThere w.nodes folder)
          (λ n p. record { text = p.1; kind = kind_of n.folder (w.nodes (in_folder folder n.name)) (free (in_folder folder n.name) (at_when_under (in_folder folder n.name) folder (under_folder folder n.name))) p.2 }) listing.names h.1.stand;
      all = h.1.all;
    }

pub listed_in : (w : World) (folder : Path) (listing : Listing) (names : List Name) → IsUnownedUnder w.nodes folder → reads_folder (w.nodes folder) ≡ true → names ≡ listing.names → ListingIs w folder listing (w.nodes folder)
    → ListedIn w.nodes folder names
listed_in w folder listing names free reads are h = subst (ListedIn w.nodes folder) (sym are) (listed_by w folder listing (w.nodes folder) free reads h)

named_in : (names : List Name) (name : Path) → Contains (map (λ (n : Name). n.name) names) name → (n : Name) × Contains names n × (n.name ≡ name)
named_in names name h =
    All-contains (λ (x : Path). (n : Name) × Contains names n × (n.name ≡ x)) (map (λ (n : Name). n.name) names) name
    (All-map (λ (x : Path). (n : Name) × Contains names n × (n.name ≡ x)) (λ (n : Name). n.name) names
    (All-weaker (Contains names) (λ (m : Name). (n : Name) × Contains names n × (n.name ≡ m.name)) (λ m c. (m, c, refl)) names (All-contains_itself names))) h

-- what is inside the folder is no child's either
pub unowned_inside : (nodes : Nodes) (p folder : Path) → is_at_or_under folder p ≡ true → IsUnownedUnder nodes p → IsUnownedUnder nodes folder
unowned_inside nodes p folder inside free q at = free q (at_or_under_further q folder p at inside)

-- nor is a name in it, after looks
pub name_free : (a b : Nodes) (folder place name : Path) → b ≡ a → place ≡ in_folder folder name → IsUnownedUnder a folder → b place ≢ Owned
name_free a b folder place name same at free =
    subst (λ (n : Nodes). n place ≢ Owned) (sym same)
    (subst (λ (q : Path). a q ≢ Owned) (sym at) (free (in_folder folder name) (at_when_under (in_folder folder name) folder (under_folder folder name))))

-- ## From name to name

-- each read-only file at or under the name is under one of these folders
abbrev pub IsDoneAt : Nodes → Path → List Path → Name → Type 0
IsDoneAt nodes folder more n = (q : Path) → is_at_or_under q (in_folder folder n.name) ≡ true → IsGuard nodes q → IsUnderOne more q

-- these names were gone over: the folders among them wait now besides
pub record HasGone (nodes : Nodes) (folder : Path) (names : List Name) (old new : List Path) : Type 0 where
  pub more : List Path
  pub is : new ≡ old ++ more
  pub folders : Each (IsToList nodes folder) more
  pub done : All (IsDoneAt nodes folder more) names

pub gone_begun : (nodes : Nodes) (folder : Path) (names : List Name) (old : List Path) → HasGone nodes folder (take 0 names) old old
gone_begun nodes folder names old = record { more = []; is = sym (append-nil old); folders = tt; done = λ k d lt. absurd (omega (arith, lt)) }

one_further : (P : Name → Type 0) (xs : List Name) (i : ℕ) (x : Name) → i < length xs → x ≡ get_or xs i x → All P (take i xs) → P x → All P (take (i + 1) xs)
one_further P xs i x lt at all p = subst (All P) (sym (take_more xs i x lt ∙ ap (λ m. take i xs ++ m ∷ []) (sym at))) (All-push P (take i xs) x all p)

under_more : (more others : List Path) (q : Path) → IsUnderOne more q → IsUnderOne (more ++ others) q
under_more more others q u = (u.0, in_first more others u.0 u.1, u.2)

front_of : {A : Type 0} (P : A → Type 0) (xs : List A) (y : A) → Each P (xs ++ y ∷ []) → Each P xs
front_of P [] y h = tt
front_of P (x ∷ xs) y h = (h.0, front_of P xs y h.1)

pub last_of : {A : Type 0} (P : A → Type 0) (xs : List A) (y : A) → Each P (xs ++ y ∷ []) → P y
last_of P [] y h = h.0
last_of P (x ∷ xs) y h = last_of P xs y h.1

in_cases : (xs : List Path) (y x : Path) → IsIn (xs ++ y ∷ []) x → IsIn xs x ⊎ (x ≡ y)
in_cases [] y x (inl e) = inr e
in_cases [] y x (inr h) = absurd h
in_cases (z ∷ xs) y x (inl e) = inl (inl e)
in_cases (z ∷ xs) y x (inr h) =
    elim (in_cases xs y x h) [
      | inl before ↦ inl (inr before)
      | inr e ↦ inr e
    ]

module _ (w : World) (tree : IsTree w) (folder : Path) (told : is_tellable folder ≡ true) (names : List Name) (l : ListedIn w.nodes folder names) where
  module _ (i : ℕ) (n : Name) (lt : i < length names) (at : n ≡ get_or names i n) where
    there : IsNameThere w.nodes folder n
    there = subst (IsNameThere w.nodes folder) (sym at) (All-get_or (IsNameThere w.nodes folder) names i n lt l.each)

    abbrev here : Path
    here = in_folder folder n.name

    done_folder : (more : List Path) → n.folder ≡ true → IsDoneAt w.nodes folder (more ++ here ∷ []) n
    done_folder more is q inside guard =
        elim (at_or_under_cases q here inside) [
          | inl e ↦ absurd (guard_plain (w.nodes q) guard.read_only (ap (λ (x : Path). reads_folder (w.nodes x)) e ∙ sym there.kind ∙ is))
          | inr under ↦ (here, in_second more (here ∷ []) here (inl refl), under)
        ]

    done_file : (more : List Path) → n.folder ≡ false → is_read_only (stat_of (reading (w.nodes here))) ≡ false → IsDoneAt w.nodes folder more n
    done_file more is plain q inside guard =
        elim (at_or_under_cases q here inside) [
          | inl e ↦ absurd (never_both (flag (reading (w.nodes q))) guard.read_only (ap (λ (x : Path). flag (reading (w.nodes x))) e ∙ sym (read_only_same (reading (w.nodes here))) ∙ plain))
          | inr under ↦
              let r = rest_under q here under in
              absurd (never_both (reads_folder (w.nodes here))
              (tree_folder w tree here r.0 (subst (λ (x : Path). IsSome (reading (w.nodes x))) r.1 (guard_some (w.nodes q) guard.read_only)))
              (sym there.kind ∙ is))
        ]

    next_by : (b : Bool) (old now new : List Path) (found : Bool) → n.folder ≡ b → IsNoted w.nodes here b now new found → found ≡ false → HasGone w.nodes folder (take i names) old now → HasGone w.nodes folder (take (i + 1) names) old new
    next_by true old now new found is noted none g =
        record {
          more = g.more ++ here ∷ [];
          is = noted.1 ∙ ap (λ (ps : List Path). ps ++ here ∷ []) g.is ∙ append_assoc old g.more (here ∷ []);
          folders = each_both (IsToList w.nodes folder) g.more (here ∷ []) g.folders
              (record { inside = at_when_under here folder (under_folder folder n.name); reads = sym there.kind ∙ is; tellable = tellable_in folder n.name told there.text }, tt);
          done = one_further (IsDoneAt w.nodes folder (g.more ++ here ∷ [])) names i n lt at
              (All-weaker (IsDoneAt w.nodes folder g.more) (IsDoneAt w.nodes folder (g.more ++ here ∷ [])) (λ m d q inside guard. under_more g.more (here ∷ []) q (d q inside guard)) (take i names) g.done)
              (done_folder g.more is);
        }
    next_by false old now new found is noted none g =
        record {
          more = g.more;
          is = noted.1 ∙ g.is;
          folders = g.folders;
          done = one_further (IsDoneAt w.nodes folder g.more) names i n lt at g.done (done_file g.more is (sym noted.0 ∙ none));
        }

    pub gone_next : (place : Path) (old now new : List Path) (found : Bool) → place ≡ here → IsNoted w.nodes place n.folder now new found → found ≡ false → HasGone w.nodes folder (take i names) old now
        → HasGone w.nodes folder (take (i + 1) names) old new
    gone_next place old now new found same noted none g = next_by n.folder old now new found refl (subst (λ (x : Path). IsNoted w.nodes x n.folder now new found) same noted) none g

    found_by : (b : Bool) (now new : List Path) (found : Bool) → IsNoted w.nodes here b now new found → found ≡ true → (p : Path) → is_at_or_under folder p ≡ true → HasGuard w.nodes p
    found_by true now new found noted is p inside = absurd (never_both found is noted.0)
    found_by false now new found noted is p inside =
        record {
          place = here;
          inside = at_or_under_further here folder p (at_when_under here folder (under_folder folder n.name)) inside;
          guards = record { tellable = tellable_in folder n.name told there.text; read_only = sym (read_only_same (reading (w.nodes here))) ∙ sym noted.0 ∙ is };
        }

    pub gone_found : (place : Path) (now new : List Path) (found : Bool) → place ≡ here → IsNoted w.nodes place n.folder now new found → found ≡ true → (p : Path) → is_at_or_under folder p ≡ true → HasGuard w.nodes p
    gone_found place now new found same noted is p inside = found_by n.folder now new found (subst (λ (x : Path). IsNoted w.nodes x n.folder now new found) same noted) is p inside

  -- ## All names

  -- where a place is found, the way to it begins with a name in the folder
  record FirstStep (q : Path) : Type 0 where
    name : Path
    is : is_name name ≡ true
    stands : Stands (w.nodes (in_folder folder name))
    inside : is_at_or_under q (in_folder folder name) ≡ true

  first_step : (q : Path) → IsFound w.nodes folder q → FirstStep q
  first_step q (Inside name is st) = record { name = name; is = is; stands = st; inside = at_itself (in_folder folder name) }
  first_step q (Deeper inner name before reads is st) =
      let s = first_step inner before in
      record {
        name = s.name;
        is = s.is;
        stands = s.stands;
        inside = at_or_under_further (in_folder inner name) inner (in_folder folder s.name) (at_when_under (in_folder inner name) inner (under_folder inner name)) s.inside;
      }

  all_under : (more : List Path) → All (IsDoneAt w.nodes folder more) names → (q : Path) → is_under q folder ≡ true → IsGuard w.nodes q → IsUnderOne more q
  all_under more done q under guard =
      let s = first_step q (tree_found w tree folder q under (some_stands (w.nodes q) (guard_some (w.nodes q) guard.read_only))) in
      let n = named_in names s.name (l.all s.name s.is (text_name_in folder s.name q guard.tellable s.inside) s.stands) in
      All-contains (IsDoneAt w.nodes folder more) names n.0 done n.1 q (subst (λ (t : Path). is_at_or_under q (in_folder folder t) ≡ true) (sym n.2) s.inside) guard

  pub gone_all : (i : ℕ) (old new : List Path) → length names ≤ i → HasGone w.nodes folder (take i names) old new → (p : Path) → AreWaiting w.nodes p (old ++ folder ∷ []) → AreWaiting w.nodes p new
  gone_all i old new le g p a =
      record {
        folders = subst (Each (IsToList w.nodes p)) (sym g.is)
            (each_both (IsToList w.nodes p) old g.more (front_of (IsToList w.nodes p) old folder a.folders)
            (each_more (IsToList w.nodes folder) (IsToList w.nodes p)
            (λ x t. record { inside = at_or_under_further x folder p t.inside (last_of (IsToList w.nodes p) old folder a.folders).inside; reads = t.reads; tellable = t.tellable }) g.more g.folders));
        rest = λ q inside guard.
            let u = a.rest q inside guard in
            elim (in_cases old folder u.0 u.1) [
              | inl before ↦ (u.0, subst (λ (ps : List Path). IsIn ps u.0) (sym g.is) (in_first old g.more u.0 before), u.2)
              | inr e ↦
                  let v = all_under g.more (subst (All (IsDoneAt w.nodes folder g.more)) (take_all i names le) g.done) q (subst (λ (x : Path). is_under q x ≡ true) e u.2) guard in
                  (v.0, subst (λ (ps : List Path). IsIn ps v.0) (sym g.is) (in_second old g.more v.0 v.1), v.2)
            ];
      }

-- ## The whole walk

pub walk_begun : (nodes : Nodes) (folder : Path) (waiting : List Path) → reads_folder (nodes folder) ≡ true → is_tellable folder ≡ true → waiting ≡ folder ∷ [] → AreWaiting nodes folder waiting
walk_begun nodes folder waiting reads told is =
    subst (AreWaiting nodes folder) (sym is)
    (record {
      folders = (record { inside = at_itself folder; reads = reads; tellable = told }, tt);
      rest = λ q inside guard.
          elim (at_or_under_cases q folder inside) [
            | inl e ↦ absurd (guard_plain (nodes q) guard.read_only (ap (λ (x : Path). reads_folder (nodes x)) e ∙ reads))
            | inr under ↦ (folder, inl refl, under)
          ];
    })

pub walk_found : (nodes : Nodes) (folder : Path) → HasGuard nodes folder → TellsGuard nodes folder true
walk_found nodes folder h = record { some = λ e. h; none = λ e. absurd (never_both true refl e) }

-- ## One note

pub noted_file : (nodes : Nodes) (place : Path) (folder : Bool) (waiting : List Path) (found : Bool) → folder ≡ false → found ≡ is_read_only (stat_of (reading (nodes place))) → IsNoted nodes place folder waiting waiting found
noted_file nodes place folder waiting found plain h = subst (λ (b : Bool). IsNoted nodes place b waiting waiting found) (sym plain) (h, refl)

pub note_still : (a b : Nodes) (place : Path) (folder : Bool) (old new : List Path) (found : Bool) → a ≡ b → IsNoted a place folder old new found → IsNoted b place folder old new found
note_still a b place folder old new found same h = subst (λ (n : Nodes). IsNoted n place folder old new found) same h

-- ## Folder by folder

pub waiting_still : (a b : Nodes) (p : Path) (waiting : List Path) → a ≡ b → AreWaiting a p waiting → AreWaiting b p waiting
waiting_still a b p waiting same h = subst (λ (n : Nodes). AreWaiting n p waiting) same h

-- the last folder was taken from those that wait
pub waiting_taken : (nodes : Nodes) (p : Path) (old new : List Path) (last : Path) → old ≡ new ++ last ∷ [] → AreWaiting nodes p old → AreWaiting nodes p (new ++ last ∷ [])
waiting_taken nodes p old new last e h = subst (AreWaiting nodes p) e h

pub either_false : (found : Bool) (A B : Type 0) → found ≡ false → Either found A B → B
either_false found A B is h = subst (λ (b : Bool). Either b A B) is h

pub either_is : (found : Bool) (A B : Type 0) → found ≡ true → Either found A B → A
either_is found A B is h = subst (λ (b : Bool). Either b A B) is h

-- what a look in the last folder that waited told
pub look_told : (w v : World) → v.nodes ≡ w.nodes → (p : Path) (old middle new : List Path) (last : Path) (found : Bool) → IsUnownedUnder w.nodes p → old ≡ middle ++ last ∷ [] → AreWaiting w.nodes p old
    → ((q : Path) → IsUnownedUnder v.nodes q → AreWaiting v.nodes q (middle ++ last ∷ []) → Either found (HasGuard v.nodes q) (AreWaiting v.nodes q new)) → Either found (HasGuard w.nodes p) (AreWaiting w.nodes p new)
look_told w v same p old middle new last found free taken waiting told =
    subst (λ (n : Nodes). Either found (HasGuard n p) (AreWaiting n p new)) same
    (told p (unowned_still w.nodes v.nodes p same free) (waiting_still w.nodes v.nodes p (middle ++ last ∷ []) (sym same) (waiting_taken w.nodes p old middle last taken waiting)))
