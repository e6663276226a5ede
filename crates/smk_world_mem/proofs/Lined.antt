-- What the end of a child leaves: where it stands, and the folders with lines among it.
use Rattle.std.proofs.Common.{◌≡◌, ℕ, Bool, true, false, ◌||◌, ◌&&◌, List, [], ◌∷◌, ◌++◌, ◌+◌, map, refl, ap, sym, subst, ◌∙◌, Option, Some, None, bytes_eq}
use Rattle.std.specs.Prelude.{if◌then◌else◌, All}
use Rattle.std.specs.List.{list_any, AllByRecursion}
use Rattle.std.proofs.lemmas.List.Elements.{All-cons, All-nil}
use Rattle.std.proofs.lemmas.Bool.{false≢true, or_parts, or_left, or_right, eq-eqb}
use Rattle.std.proofs.lemmas.Map.Text.{is_eq-slice_cmp}
use Rattle.std.specs.Cmp.Lexicographic.{slice_cmp}
use Rattle.std.specs.Ordering.{nat_cmp, is_eq}
use Rattle.std.specs.declared.cmp.Ordering.{Ordering}
use Rattle.std.specs.declared.cmp.Ordering.TheVariants.{Less, Equal, Greater}
use Rattle.smk_base.specs.declared.tree.TreeEntry.{TreeEntry}
use Rattle.smk_base.proofs.Places.{same_place, place_itself, same_flipped}
use Rattle.smk_base.proofs.Under.{under_folder}
use Rattle.smk_world.specs.declared.event.Node.{Node}
use Rattle.smk_world.specs.declared.event.Node.TheVariants.{Regular, Directory}
use Rattle.smk_world.specs.declared.event.Change.{Change}
use Rattle.smk_world.specs.World.{standing, is_within, is_named, name_placed, add_name, IsRising}
use Rattle.smk_world.specs.Calls.{in_folder}
use Rattle.smk_world.proofs.Folders.{within_under}
use Rattle.smk_world.proofs.Names.{add_rising}
use Rattle.std.specs.List.Sorted.{IsStrictlySortedBy}
use Rattle.smk_world_nodes.proofs.Within.{within_both}
use Rattle.smk_world_mem.specs.Act.{files_at, line_name, line_files, folders_at, line_entries, entry_placed, add_entry, or_then}

-- ## Lists of nodes

pub or_then_none : (n : Option Node) → or_then n None ≡ n
or_then_none None = refl
or_then_none (Some n) = refl

or_then_more : (a b c : Option Node) → or_then (or_then a b) c ≡ or_then a (or_then b c)
or_then_more None b c = refl
or_then_more (Some n) b c = refl

pub standing_both : (xs ys : List Change) (q : List ℕ) → standing (xs ++ ys) q ≡ or_then (standing xs q) (standing ys q)
standing_both [] ys q = refl
standing_both (c ∷ cs) ys q = go (bytes_eq c.place q) (standing_both cs ys q)
  where
    go : (b : Bool) → standing (cs ++ ys) q ≡ or_then (standing cs q) (standing ys q) → (if b then Some c.node else standing (cs ++ ys) q) ≡ or_then (if b then Some c.node else standing cs q) (standing ys q)
    go true ih = refl
    go false ih = ih

-- one node more that is put where nothing is
pub put_more : (q : List ℕ) (c : Change) (more : List Change) (n0 n1 whole : Option Node) → n1 ≡ or_then n0 (standing (c ∷ []) q) → or_then n0 (standing (c ∷ more) q) ≡ whole → or_then n1 (standing more q) ≡ whole
put_more q c more n0 n1 whole put before =
    ap (λ n. or_then n (standing more q)) put ∙ or_then_more n0 (standing (c ∷ []) q) (standing more q) ∙ ap (or_then n0) (sym (standing_both (c ∷ []) more q)) ∙ before

-- what stands within both lists of places is removed
pub removed_both : (q : List ℕ) (outs logs first second : List (List ℕ)) (n0 n1 n2 : Option Node) → first ≡ outs → second ≡ logs
    → n1 ≡ (if is_within q first then None else n0) → n2 ≡ (if is_within q second then None else n1) → n2 ≡ (if is_within q (outs ++ logs) then None else n0)
removed_both q outs logs first second n0 n1 n2 is_outs is_logs one two =
    two ∙ ap (λ n. if is_within q second then None else n) one
    ∙ ap (λ s. if is_within q s then None else (if is_within q first then None else n0)) is_logs ∙ ap (λ s. if is_within q logs then None else (if is_within q s then None else n0)) is_outs
    ∙ go (is_within q outs) (is_within q logs) ∙ ap (λ b. if b then None else n0) (sym (within_both q outs logs))
  where
    go : (o w : Bool) → (if w then None else (if o then None else n0)) ≡ (if o || w then None else n0)
    go true true = refl
    go true false = refl
    go false true = refl
    go false false = refl

-- ## Where it stands

-- each of them stands at or under one of the places
abbrev pub AllInside : List (List ℕ) → List Change → Type 0
AllInside ps [] = Unit {0}
AllInside ps (c ∷ cs) = (is_within c.place ps ≡ true) × AllInside ps cs

pub inside_none : (ps : List (List ℕ)) (cs : List Change) (q : List ℕ) → AllInside ps cs → is_within q ps ≡ false → standing cs q ≡ None
inside_none ps [] q all out = refl
inside_none ps (c ∷ cs) q all out = go (bytes_eq c.place q) refl (inside_none ps cs q all.1 out)
  where
    go : (b : Bool) → bytes_eq c.place q ≡ b → standing cs q ≡ None → (if b then Some c.node else standing cs q) ≡ None
    go true e ih = absurd (false≢true (sym out ∙ ap (λ r. is_within r ps) (sym (same_place c.place q e)) ∙ all.0))
    go false e ih = ih

pub inside_both : (ps : List (List ℕ)) (xs ys : List Change) → AllInside ps xs → AllInside ps ys → AllInside ps (xs ++ ys)
inside_both ps [] ys a b = b
inside_both ps (c ∷ cs) ys a b = (a.0, inside_both ps cs ys a.1 b)

pub inside_files : (ps qs : List (List ℕ)) (bytes : List ℕ) (time : ℕ) → ((q : List ℕ) → is_named q qs ≡ true → is_within q ps ≡ true) → AllInside ps (files_at qs bytes time)
inside_files ps [] bytes time each = tt
inside_files ps (q ∷ qs) bytes time each =
    (each q (or_left (bytes_eq q q) (is_named q qs) (place_itself q)), inside_files ps qs bytes time (λ r h. each r (or_right (bytes_eq r q) (is_named r qs) h)))

inside_lines : (ps : List (List ℕ)) (folder : List ℕ) (number : ℕ) (lines : List (List ℕ)) (now : ℕ) → is_within folder ps ≡ true → AllInside ps (line_files folder number lines now)
inside_lines ps folder number [] now there = tt
inside_lines ps folder number (line ∷ lines) now there =
    (within_under (in_folder folder (line_name number)) folder ps (under_folder folder (line_name number)) there, inside_lines ps folder (number + 1) lines now there)

pub inside_folders : (ps qs : List (List ℕ)) (bytes : List ℕ) (now : ℕ) → ((q : List ℕ) → is_named q qs ≡ true → is_within q ps ≡ true) → AllInside ps (folders_at qs bytes now)
inside_folders ps [] bytes now each = tt
inside_folders ps (q ∷ qs) bytes now each =
    let here : is_within q ps ≡ true = each q (or_left (bytes_eq q q) (is_named q qs) (place_itself q)) in
    (here, inside_both ps _ (folders_at qs bytes now) (inside_lines ps q 1 _ now here) (inside_folders ps qs bytes now (λ r h. each r (or_right (bytes_eq r q) (is_named r qs) h))))

-- the nodes after a child has ended
pub end_nodes : (owned : List (List ℕ)) (left : List Change) (q : List ℕ) (n0 n1 n2 : Option Node) → AllInside owned left
    → n1 ≡ (if is_within q owned then None else n0) → n2 ≡ or_then n1 (standing left q) → n2 ≡ (if is_within q owned then standing left q else n0)
end_nodes owned left q n0 n1 n2 inside removed put = put ∙ ap (λ n. or_then n (standing left q)) removed ∙ go (is_within q owned) refl
  where
    go : (b : Bool) → is_within q owned ≡ b → or_then (if b then None else n0) (standing left q) ≡ (if b then standing left q else n0)
    go true e = refl
    go false e = ap (or_then n0) (inside_none owned left q inside e) ∙ or_then_none n0

-- ## Lines by their names

-- the bytes of the first entry with this name
abbrev pub bytes_named : List ℕ → List TreeEntry → Option (Option (List ℕ))
bytes_named name [] = None
bytes_named name (e ∷ es) = if bytes_eq e.name name then Some e.bytes else bytes_named name es

named_added : (name : List ℕ) (e : TreeEntry) (es : List TreeEntry) → bytes_named name (add_entry e es) ≡ (if bytes_eq e.name name then Some e.bytes else bytes_named name es)
named_added name e [] = refl
named_added name e (f ∷ fs) = placed (slice_cmp nat_cmp e.name f.name) refl (named_added name e fs)
  where
    eq : (o : Ordering) → slice_cmp nat_cmp e.name f.name ≡ o → is_eq o ≡ bytes_eq e.name f.name
    eq o is = ap is_eq (sym is) ∙ is_eq-slice_cmp e.name f.name

    same : (a b : Bool) → (a ≡ false → b ≡ false) → (if a then Some e.bytes else bytes_named name fs) ≡ (if a then Some e.bytes else (if b then Some f.bytes else bytes_named name fs))
    same true b h = refl
    same false b h = ap (λ v. if v then Some f.bytes else bytes_named name fs) (sym (h refl))

    turn : (a b : Bool) → (a ≡ true → b ≡ true → ⊥) → (if b then Some f.bytes else (if a then Some e.bytes else bytes_named name fs)) ≡ (if a then Some e.bytes else (if b then Some f.bytes else bytes_named name fs))
    turn true true h = absurd (h refl refl)
    turn true false h = refl
    turn false b h = refl

    placed : (o : Ordering) → slice_cmp nat_cmp e.name f.name ≡ o → bytes_named name (add_entry e fs) ≡ (if bytes_eq e.name name then Some e.bytes else bytes_named name fs)
        → bytes_named name (entry_placed o e f fs (add_entry e fs)) ≡ (if bytes_eq e.name name then Some e.bytes else (if bytes_eq f.name name then Some f.bytes else bytes_named name fs))
    placed Less is ih = refl
    placed Equal is ih = same (bytes_eq e.name name) (bytes_eq f.name name) (λ h. ap (λ t. bytes_eq t name) (sym (same_place e.name f.name (sym (eq Equal is)))) ∙ h)
    placed Greater is ih =
        ap (λ n. if bytes_eq f.name name then Some f.bytes else n) ih
        ∙ turn (bytes_eq e.name name) (bytes_eq f.name name)
        (λ h k. false≢true (eq Greater is ∙ ap (λ t. bytes_eq t f.name) (same_place e.name name h) ∙ ap (bytes_eq name) (same_place f.name name k) ∙ place_itself name))

-- ### They rise

names_added : (e : TreeEntry) (es : List TreeEntry) → map (λ (x : TreeEntry). x.name) (add_entry e es) ≡ add_name e.name (map (λ (x : TreeEntry). x.name) es)
names_added e [] = refl
names_added e (f ∷ fs) = placed (slice_cmp nat_cmp e.name f.name) refl (names_added e fs)
  where
    placed : (o : Ordering) → slice_cmp nat_cmp e.name f.name ≡ o → map (λ (x : TreeEntry). x.name) (add_entry e fs) ≡ add_name e.name (map (λ (x : TreeEntry). x.name) fs)
        → map (λ (x : TreeEntry). x.name) (entry_placed o e f fs (add_entry e fs)) ≡ name_placed o e.name f.name (map (λ (x : TreeEntry). x.name) fs) (add_name e.name (map (λ (x : TreeEntry). x.name) fs))
    placed Less is ih = refl
    placed Equal is ih = ap (λ t. t ∷ map (λ (x : TreeEntry). x.name) fs) (same_place e.name f.name (sym (is_eq-slice_cmp e.name f.name) ∙ ap is_eq is))
    placed Greater is ih = ap (λ ns. f.name ∷ ns) ih

none_rise : IsRising []
unfolding IsStrictlySortedBy
none_rise = tt

pub lines_rise : (number : ℕ) (lines : List (List ℕ)) → IsRising (map (λ (x : TreeEntry). x.name) (line_entries number lines))
lines_rise number [] = none_rise
lines_rise number (line ∷ lines) =
    subst IsRising (sym (names_added (record { name = line_name number; bytes = Some (line ++ 10 ∷ []) }) (line_entries (number + 1) lines)))
    (add_rising (line_name number) (map (λ (x : TreeEntry). x.name) (line_entries (number + 1) lines)) (lines_rise (number + 1) lines))

-- ### They stand in the folder

-- a file for bytes, a folder for none, nothing for no entry
abbrev pub node_of : ℕ → Option (Option (List ℕ)) → Option Node
node_of now None = None
node_of now (Some None) = Some Directory
node_of now (Some (Some bytes)) = Some (Regular bytes now false)

same_in : (folder a b : List ℕ) → bytes_eq (in_folder folder a) (in_folder folder b) ≡ bytes_eq a b
same_in [] a b = refl
same_in (c ∷ folder) a b = ap (λ v. v && bytes_eq (in_folder folder a) (in_folder folder b)) (eq-eqb c c refl) ∙ same_in folder a b

pub lines_there : (folder : List ℕ) (number : ℕ) (lines : List (List ℕ)) (now : ℕ) (name : List ℕ) → standing (line_files folder number lines now) (in_folder folder name) ≡ node_of now (bytes_named name (line_entries number lines))
lines_there folder number [] now name = refl
lines_there folder number (line ∷ lines) now name =
    let e : TreeEntry = record { name = line_name number; bytes = Some (line ++ 10 ∷ []) } in
    ap (λ b. if b then Some (Regular (line ++ 10 ∷ []) now false) else standing (line_files folder (number + 1) lines now) (in_folder folder name)) (same_in folder (line_name number) name)
    ∙ go (bytes_eq (line_name number) name) (lines_there folder (number + 1) lines now name)
    ∙ ap (node_of now) (sym (named_added name e (line_entries (number + 1) lines)))
  where
    go : (b : Bool) → standing (line_files folder (number + 1) lines now) (in_folder folder name) ≡ node_of now (bytes_named name (line_entries (number + 1) lines))
        → (if b then Some (Regular (line ++ 10 ∷ []) now false) else standing (line_files folder (number + 1) lines now) (in_folder folder name))
        ≡ node_of now (if b then Some (Some (line ++ 10 ∷ [])) else bytes_named name (line_entries (number + 1) lines))
    go true ih = refl
    go false ih = ih

-- ### Each by its name

-- a key below all of these names is none of them
above_other : (k name : List ℕ) (ns : List (List ℕ)) → AllByRecursion (λ y. slice_cmp nat_cmp k y ≡ Less) ns → is_named name ns ≡ true → bytes_eq k name ≡ false
above_other k name [] above h = cc
above_other k name (y ∷ ys) above h = go (bytes_eq name y) refl (above_other k name ys above.1) h
  where
    go : (b : Bool) → bytes_eq name y ≡ b → (is_named name ys ≡ true → bytes_eq k name ≡ false) → (b || is_named name ys) ≡ true → bytes_eq k name ≡ false
    go true e ih there = subst (λ t. bytes_eq k t ≡ false) (sym (same_place name y e)) (sym (is_eq-slice_cmp k y) ∙ ap is_eq above.0)
    go false e ih there = ih there

-- what holds of an entry by what its name has holds of each, where the names rise
by_names : (P : TreeEntry → Type 0) (all es : List TreeEntry) → IsRising (map (λ (x : TreeEntry). x.name) es)
    → ((name : List ℕ) → is_named name (map (λ (x : TreeEntry). x.name) es) ≡ true → bytes_named name all ≡ bytes_named name es)
    → ((e : TreeEntry) → bytes_named e.name all ≡ Some e.bytes → P e) → All P es
unfolding IsStrictlySortedBy
by_names P all [] rising same each = All-nil P
by_names P all (e ∷ es) rising same each =
    let names : List (List ℕ) = map (λ (x : TreeEntry). x.name) es in
    All-cons P e es
    (each e (same e.name (or_left (bytes_eq e.name e.name) (is_named e.name names) (place_itself e.name)) ∙ ap (λ b. if b then Some e.bytes else bytes_named e.name es) (place_itself e.name)))
    (by_names P all es rising.1
    (λ name h. same name (or_right (bytes_eq name e.name) (is_named name names) h) ∙ ap (λ b. if b then Some e.bytes else bytes_named name es) (above_other e.name name names rising.0 h))
    each)

pub entries_named : (P : TreeEntry → Type 0) (es : List TreeEntry) → IsRising (map (λ (x : TreeEntry). x.name) es) → ((e : TreeEntry) → bytes_named e.name es ≡ Some e.bytes → P e) → All P es
entries_named P es rising each = by_names P es es rising (λ name h. refl) each

-- an entry that isn't there has no bytes
pub not_named : (name : List ℕ) (es : List TreeEntry) → is_named name (map (λ (x : TreeEntry). x.name) es) ≡ false → bytes_named name es ≡ None
not_named name [] h = refl
not_named name (e ∷ es) h =
    let both = or_parts (bytes_eq name e.name) _ h in
    ap (λ b. if b then Some e.bytes else bytes_named name es) (same_flipped e.name name ∙ both.0) ∙ not_named name es both.1

pub named_any : (name : List ℕ) (ns : List (List ℕ)) → is_named name ns ≡ list_any (bytes_eq name) ns
named_any name [] = refl
named_any name (n ∷ ns) = ap (λ b. bytes_eq name n || b) (named_any name ns)
