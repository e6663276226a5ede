-- What the end of a child leaves.
use Rattle.std.proofs.Common.{◌≡◌, ℕ, Bool, true, false, ◌||◌, not, List, [], ◌∷◌, ◌++◌, map, refl, ap, sym, subst, ◌∙◌, Option, Some, None, Ok, Err, Result, bytes_eq, ◌⊎◌, inl, inr, true≢false}
use Rattle.std.specs.Prelude.{if◌then◌else◌, IfOk, Contains}
use Rattle.std.specs.List.{AllZip, list_any}
use Rattle.std.proofs.lemmas.Bool.{or_parts, or_left, or_right, not-true}
use Rattle.std.proofs.lemmas.Map.Views.{Contains-from_any}
use Rattle.smk_base.specs.Path.{is_under, is_at_or_under, overlaps}
use Rattle.smk_base.proofs.Places.{place_itself, same_place, same_flipped, and_first, and_second}
use Rattle.smk_base.proofs.Under.{under_folder, never_both, false_unless, at_itself, at_when_under, overlaps_above_both}
use Rattle.smk_base.specs.declared.tree.Tree.{Tree}
use Rattle.smk_base.specs.declared.tree.Tree.TheVariants.{File, Folder}
use Rattle.smk_base.specs.declared.tree.TreeEntry.{TreeEntry}
use Rattle.smk_world.specs.declared.event.Node.{Node}
use Rattle.smk_world.specs.declared.event.Node.TheVariants.{Regular, Directory}
use Rattle.smk_world.specs.declared.event.NodeState.{NodeState}
use Rattle.smk_world.specs.declared.event.NodeState.TheVariants.{Owned, Known}
use Rattle.smk_world.specs.declared.event.Besides.TheVariants.{Anything}
use Rattle.smk_world.specs.declared.event.Call.TheVariants.{Waited}
use Rattle.smk_world.specs.declared.event.Change.{Change}
use Rattle.smk_world.specs.declared.event.Child.{Child}
use Rattle.smk_world.specs.declared.event.Ended.{Ended}
use Rattle.smk_world.specs.declared.recipe.Recipe.{Recipe}
use Rattle.smk_world.specs.World.{World, after, standing, is_within, is_named, out_paths, in_paths, owned_of, owned_by, owned_paths, child_numbered}
use Rattle.smk_world.specs.Calls.{Lets, ContentsAre, OutputsAre, HoldsBytes, Reads, EntryIs, IsFolderOf, MaybeTreeAt, TreeAt, in_folder, are_apart}
use Rattle.smk_world_mem.specs.Act.{mem_act, joined, command_of, command_named, without_log, has_log, status_of, written_of, filled_of, first_of, text_of, lines_of, line_entries, time_with, first_time, bytes_of, joined_at, files_at, line_files, folders_at, logs_of, or_then, left_of, left_by}
use Rattle.smk_world_mem.specs.declared.command.Command.{Command}
use Rattle.smk_world_mem.specs.declared.command.Command.TheVariants.{Cat, Keep, Tee, Echo, Lines, Half, Fail, Killed, Unknown}
use Rattle.smk_world.proofs.Folders.{above_differs}
use Rattle.smk_world_nodes.specs.Nodes.{node_at}
use Rattle.smk_world_nodes.specs.Steps.{seen, AgreesWith}
use Rattle.smk_world_nodes.specs.declared.nodes.Nodes.{Nodes}
use Rattle.smk_world_nodes.proofs.Within.{within_both}
use Rattle.smk_world_mem.proofs.Lined.{or_then_none, standing_both, AllInside, inside_none, inside_both, inside_files, inside_folders, node_of, bytes_named, lines_rise, lines_there, entries_named, not_named, named_any}

pub with_ok : {T E : Type 0} (r : Result T E) (A B G : T → Type 0) → IfOk r A → IfOk r B → ((t : T) → A t → B t → G t) → IfOk r G
with_ok (Ok t) A B G a b f = f t a b
with_ok (Err e) A B G a b f = tt

-- ## The nodes

-- the file at the places that are named
abbrev node_named : List (List ℕ) → List ℕ → ℕ → List ℕ → Option Node
node_named ps bytes time q = if is_named q ps then Some (Regular bytes time false) else None

standing_files : (ps : List (List ℕ)) (bytes : List ℕ) (time : ℕ) (more : List Change) (q : List ℕ)
    → standing (files_at ps bytes time ++ more) q ≡ (if is_named q ps then Some (Regular bytes time false) else standing more q)
standing_files [] bytes time more q = refl
standing_files (p ∷ ps) bytes time more q =
    ap (λ b. if b then Some (Regular bytes time false) else standing (files_at ps bytes time ++ more) q) (same_flipped p q)
    ∙ go (bytes_eq q p) (standing_files ps bytes time more q)
  where
    go : (b : Bool) → standing (files_at ps bytes time ++ more) q ≡ (if is_named q ps then Some (Regular bytes time false) else standing more q)
        → (if b then Some (Regular bytes time false) else standing (files_at ps bytes time ++ more) q) ≡ (if b || is_named q ps then Some (Regular bytes time false) else standing more q)
    go true ih = refl
    go false ih = ih

no_more : (cs : List Change) → cs ++ [] ≡ cs
no_more [] = refl
no_more (c ∷ cs) = ap (λ ds. c ∷ ds) (no_more cs)

standing_logs : (ps : List (List ℕ)) (bytes : List ℕ) (time : ℕ) (q : List ℕ) → standing (files_at ps bytes time) q ≡ node_named ps bytes time q
standing_logs ps bytes time q = ap (λ cs. standing cs q) (sym (no_more (files_at ps bytes time))) ∙ standing_files ps bytes time [] q

pub standing_left : (files logs : List (List ℕ)) (text : List ℕ) (time now : ℕ) (q : List ℕ)
    → standing (files_at files text time ++ files_at logs [] now) q ≡ (if is_named q files then Some (Regular text time false) else node_named logs [] now q)
standing_left files logs text time now q = standing_files files text time (files_at logs [] now) q ∙ ap (λ n. if is_named q files then Some (Regular text time false) else n) (standing_logs logs [] now q)

-- what is named is at one of the places
named_within : (q : List ℕ) (ps : List (List ℕ)) → is_named q ps ≡ true → is_within q ps ≡ true
named_within q [] h = h
named_within q (p ∷ ps) h = go (bytes_eq q p) (named_within q ps) h
  where
    go : (b : Bool) → (is_named q ps ≡ true → is_within q ps ≡ true) → (b || is_named q ps) ≡ true → ((b || is_under q p) || is_within q ps) ≡ true
    go true ih k = refl
    go false ih k = or_right (is_under q p) (is_within q ps) (ih k)

first_named : (q : List ℕ) (ps : List (List ℕ)) → is_named q (first_of ps) ≡ true → is_named q ps ≡ true
first_named q [] h = h
first_named q (p ∷ ps) h = go (bytes_eq q p) h
  where
    go : (b : Bool) → (b || false) ≡ true → (b || is_named q ps) ≡ true
    go true k = refl
    go false k = cc

-- a command writes none but its outputs
pub written_named : (c : Command) (q : List ℕ) (ps : List (List ℕ)) → is_named q (written_of c ps) ≡ true → is_named q ps ≡ true
written_named Cat q ps h = first_named q ps h
written_named Keep q ps h = first_named q ps h
written_named Tee q ps h = h
written_named Echo q ps h = first_named q ps h
written_named Lines q ps h = cc
written_named Half q ps h = first_named q ps h
written_named Fail q ps h = cc
written_named Killed q ps h = first_named q ps h
written_named Unknown q ps h = cc

pub logs_named : (template q : List ℕ) (logs : List (List ℕ)) → is_named q (logs_of template logs) ≡ true → is_named q logs ≡ true
logs_named template q logs h = go (has_log template) h
  where
    go : (b : Bool) → is_named q (if b then logs else []) ≡ true → is_named q logs ≡ true
    go true k = k
    go false k = cc

-- what it makes a folder of is the first of them, and it writes no file then
filled_named : (c : Command) (q : List ℕ) (ps : List (List ℕ)) → is_named q (filled_of c ps) ≡ true → is_named q ps ≡ true
filled_named Cat q ps h = cc
filled_named Keep q ps h = cc
filled_named Tee q ps h = cc
filled_named Echo q ps h = cc
filled_named Lines q ps h = first_named q ps h
filled_named Half q ps h = cc
filled_named Fail q ps h = cc
filled_named Killed q ps h = cc
filled_named Unknown q ps h = cc

-- what a child leaves stands where it owns the places
pub left_inside : (c : Command) (recipe : Recipe) (logs : List (List ℕ)) (bytes : List ℕ) (time now : ℕ) → AllInside (owned_paths recipe logs) (left_of c recipe logs bytes time now)
left_inside c recipe logs bytes time now =
    let outs = out_paths recipe in
    let owned = owned_paths recipe logs in
    let out_within : (q : List ℕ) → is_named q outs ≡ true → is_within q owned ≡ true
    = λ q h. within_both q outs logs ∙ or_left (is_within q outs) (is_within q logs) (named_within q outs h) in
    let log_within : (q : List ℕ) → is_named q logs ≡ true → is_within q owned ≡ true
    = λ q h. within_both q outs logs ∙ or_right (is_within q outs) (is_within q logs) (named_within q logs h) in
    inside_both owned (folders_at (filled_of c outs) bytes now) _
    (inside_folders owned (filled_of c outs) bytes now (λ q h. out_within q (filled_named c q outs h)))
    (inside_both owned (files_at (written_of c outs) (text_of c recipe.params bytes) time) (files_at (logs_of recipe.template logs) [] now)
    (inside_files owned (written_of c outs) (text_of c recipe.params bytes) time (λ q h. out_within q (written_named c q outs h)))
    (inside_files owned (logs_of recipe.template logs) [] now (λ q h. log_within q (logs_named recipe.template q logs h))))

seen_end : (b : Bool) (m new : Option Node) (s : NodeState) (l : Option Node) → new ≡ (if b then l else m) → seen m s ≡ m → seen new (if b then Known l Anything else s) ≡ new
seen_end true m new s l h a = sym h
seen_end false m new s l h a = subst (λ x. seen x s ≡ x) (sym h) a

-- ## The contents

file_bytes : (s : NodeState) (m : Option Node) (bytes : List ℕ) → seen m s ≡ m → HoldsBytes bytes s → bytes ≡ bytes_of m
file_bytes Owned m bytes a h = absurd h
file_bytes (Known None besides) m bytes a h = absurd h
file_bytes (Known (Some (Regular held time read_only)) besides) m bytes a h = sym h ∙ ap bytes_of a
file_bytes (Known (Some Directory) besides) m bytes a h = absurd h

no_bytes : (s : NodeState) (m : Option Node) → seen m s ≡ m → Reads (Some Directory) s → bytes_of m ≡ []
no_bytes Owned m a h = absurd h
no_bytes (Known now besides) m a h = ap bytes_of (sym a ∙ h)

joined_same : (nodes : Nodes) (w : World) (ps : List (List ℕ)) (trees : List Tree) → AgreesWith nodes w → AllZip (λ p tree. TreeAt w p tree) ps trees → joined trees ≡ joined_at nodes ps
joined_same nodes w [] [] agrees z = refl
joined_same nodes w [] (t ∷ ts) agrees z = absurd z
joined_same nodes w (p ∷ ps) [] agrees z = absurd z
joined_same nodes w (p ∷ ps) (File bytes ∷ ts) agrees z =
    ap (λ x. x ++ joined ts) (file_bytes (w.nodes p) (node_at nodes p) bytes (agrees p) z.0) ∙ ap (λ x. bytes_of (node_at nodes p) ++ x) (joined_same nodes w ps ts agrees z.1)
joined_same nodes w (p ∷ ps) (Folder entries ∷ ts) agrees z =
    joined_same nodes w ps ts agrees z.1 ∙ ap (λ x. x ++ joined_at nodes ps) (sym (no_bytes (w.nodes p) (node_at nodes p) (agrees p) z.0.folder))

-- ## The outputs

-- where p is apart from q, what is at or under p isn't q
elsewhere : (p q r : List ℕ) → overlaps p q ≡ false → is_at_or_under r p ≡ true → bytes_eq r q ≡ false
elsewhere p q r h under = go (bytes_eq r q) refl
  where
    go : (b : Bool) → bytes_eq r q ≡ b → b ≡ false
    go true e =
        let both = or_parts (bytes_eq p q) _ h in
        let none : is_at_or_under q p ≡ false = ap (λ b. b || is_under q p) (same_flipped q p ∙ both.0) ∙ (or_parts (is_under p q) _ both.1).1 in
        absurd (true≢false (sym (subst (λ x. is_at_or_under x p ≡ true) (same_place r q e) under) ∙ none))
    go false e = refl

-- where p is apart from all of these, none of them is at or under it
none_named : (p : List ℕ) (qs : List (List ℕ)) (r : List ℕ) → list_any (overlaps p) qs ≡ false → is_at_or_under r p ≡ true → is_named r qs ≡ false
none_named p [] r h under = refl
none_named p (q ∷ qs) r h under =
    let both = or_parts (overlaps p q) _ h in
    ap (λ b. b || is_named r qs) (elsewhere p q r both.0 under) ∙ none_named p qs r both.1 under

any_front : (f : List ℕ → Bool) (ps qs : List (List ℕ)) → list_any f (ps ++ qs) ≡ false → list_any f ps ≡ false
any_front f [] qs h = refl
any_front f (p ∷ ps) qs h =
    let both = or_parts (f p) _ h in
    ap (λ b. b || list_any f ps) both.0 ∙ any_front f ps qs both.1

any_back : (f : List ℕ → Bool) (ps qs : List (List ℕ)) → list_any f (ps ++ qs) ≡ false → list_any f qs ≡ false
any_back f [] qs h = h
any_back f (p ∷ ps) qs h = any_back f ps qs (or_parts (f p) _ h).1

-- each of these is apart from the logs
apart_logs : (ps logs : List (List ℕ)) → are_apart (ps ++ logs) ≡ true → (p : List ℕ) → is_named p ps ≡ true → list_any (overlaps p) logs ≡ false
apart_logs [] logs apart p h = cc
apart_logs (o ∷ ps) logs apart p h = go (bytes_eq p o) refl (apart_logs ps logs (and_second (not (list_any (overlaps o) (ps ++ logs))) _ apart) p) h
  where
    go : (b : Bool) → bytes_eq p o ≡ b → (is_named p ps ≡ true → list_any (overlaps p) logs ≡ false) → (b || is_named p ps) ≡ true → list_any (overlaps p) logs ≡ false
    go true e ih k = any_back (overlaps p) ps logs (subst (λ x. list_any (overlaps x) (ps ++ logs) ≡ false) (sym (same_place p o e)) (not-true _ (and_first (not (list_any (overlaps o) (ps ++ logs))) _ apart)))
    go false e ih k = ih k

-- f holds of none that is named
any_named : (f : List ℕ → Bool) (qs : List (List ℕ)) → list_any f qs ≡ false → (p : List ℕ) → is_named p qs ≡ true → f p ≡ false
any_named f [] h p named = cc
any_named f (q ∷ qs) h p named = go (bytes_eq p q) refl (any_named f qs (or_parts (f q) _ h).1 p) named
  where
    go : (b : Bool) → bytes_eq p q ≡ b → (is_named p qs ≡ true → f p ≡ false) → (b || is_named p qs) ≡ true → f p ≡ false
    go true e ih k = subst (λ x. f x ≡ false) (sym (same_place p q e)) (or_parts (f q) _ h).0
    go false e ih k = ih k

-- what is at or under a place that is named is within the places
under_named : (r p : List ℕ) (ps : List (List ℕ)) → is_named p ps ≡ true → is_at_or_under r p ≡ true → is_within r ps ≡ true
under_named r p [] h under = cc
under_named r p (o ∷ ps) h under = go (bytes_eq p o) refl (under_named r p ps) h
  where
    go : (b : Bool) → bytes_eq p o ≡ b → (is_named p ps ≡ true → is_at_or_under r p ≡ true → is_within r ps ≡ true) → (b || is_named p ps) ≡ true → (is_at_or_under r o || is_within r ps) ≡ true
    go true e ih k = or_left (is_at_or_under r o) (is_within r ps) (subst (λ x. is_at_or_under r x ≡ true) (same_place p o e) under)
    go false e ih k = or_right (is_at_or_under r o) (is_within r ps) (ih k under)

-- either p is written, or nothing that is written is at or under it
abbrev IsClear : List (List ℕ) → List ℕ → Type 0
IsClear files p = (is_named p files ≡ true) ⊎ ((r : List ℕ) → is_at_or_under r p ≡ true → is_named r files ≡ false)

first_clear : (ps logs : List (List ℕ)) → are_apart (ps ++ logs) ≡ true → (p : List ℕ) → is_named p ps ≡ true → IsClear (first_of ps) p
first_clear [] logs apart p h = cc
first_clear (o ∷ ps) logs apart p h = go (bytes_eq p o) refl h
  where
    flip : overlaps o p ≡ false → overlaps p o ≡ false
    flip e =
        let both = or_parts (bytes_eq o p) _ e in
        let under = or_parts (is_under o p) _ both.1 in
        ap (λ b. b || (is_under p o || is_under o p)) (same_flipped p o ∙ both.0) ∙ ap (λ b. b || is_under o p) under.1 ∙ under.0

    go : (b : Bool) → bytes_eq p o ≡ b → (b || is_named p ps) ≡ true → IsClear (o ∷ []) p
    go true e k = inl (ap (λ b. b || false) e)
    go false e k = inr (λ r under. none_named p (o ∷ []) r
        (ap (λ b. b || false) (flip (any_named (overlaps o) ps (any_front (overlaps o) ps logs (not-true _ (and_first (not (list_any (overlaps o) (ps ++ logs))) _ apart))) p k))) under)

written_clear : (c : Command) (ps logs : List (List ℕ)) → are_apart (ps ++ logs) ≡ true → (p : List ℕ) → is_named p ps ≡ true → IsClear (written_of c ps) p
written_clear Cat ps logs apart p h = first_clear ps logs apart p h
written_clear Keep ps logs apart p h = first_clear ps logs apart p h
written_clear Tee ps logs apart p h = inl h
written_clear Echo ps logs apart p h = first_clear ps logs apart p h
written_clear Lines ps logs apart p h = inr (λ r under. refl)
written_clear Half ps logs apart p h = first_clear ps logs apart p h
written_clear Fail ps logs apart p h = inr (λ r under. refl)
written_clear Killed ps logs apart p h = first_clear ps logs apart p h
written_clear Unknown ps logs apart p h = inr (λ r under. refl)

-- the logs that are made, where none is at or under the place
no_logs : (template : List ℕ) (logs : List (List ℕ)) (r : List ℕ) → is_named r logs ≡ false → is_named r (logs_of template logs) ≡ false
no_logs template logs r h = go (has_log template)
  where
    go : (b : Bool) → is_named r (if b then logs else []) ≡ false
    go true = h
    go false = refl

module _ (w2 : World) (files wrote ps logs : List (List ℕ)) (text : List ℕ) (time now : ℕ)
    (state : (r : List ℕ) → is_within r (ps ++ logs) ≡ true → w2.nodes r ≡ Known (if is_named r files then Some (Regular text time false) else node_named wrote [] now r) Anything) where
  one_out : (p : List ℕ) → is_named p ps ≡ true → IsClear files p → ((r : List ℕ) → is_at_or_under r p ≡ true → is_named r wrote ≡ false)
      → MaybeTreeAt w2 p (if is_named p files then Some (File text) else None)
  one_out p named (inl written) clear =
      let here : is_within p (ps ++ logs) ≡ true = within_both p ps logs ∙ or_left (is_within p ps) (is_within p logs) (named_within p ps named) in
      subst (λ b. MaybeTreeAt w2 p (if b then Some (File text) else None)) (sym written)
      (subst (HoldsBytes text) (sym (state p here ∙ ap (λ b. Known (if b then Some (Regular text time false) else node_named wrote [] now p) Anything) written)) refl)
  one_out p named (inr none) clear =
      subst (λ b. MaybeTreeAt w2 p (if b then Some (File text) else None)) (sym (none p (or_left (bytes_eq p p) (is_under p p) (place_itself p))))
      (λ r under.
      let here : is_within r (ps ++ logs) ≡ true = within_both r ps logs ∙ or_left (is_within r ps) (is_within r logs) (under_named r p ps named under) in
      subst (Reads None) (sym (state r here ∙ ap (λ b. Known (if b then Some (Regular text time false) else node_named wrote [] now r) Anything) (none r under)
      ∙ ap (λ b. Known (if b then Some (Regular [] now false) else None) Anything) (clear r under))) refl)

  each_out : (qs : List (List ℕ)) → ((p : List ℕ) → is_named p qs ≡ true → is_named p ps ≡ true) → ((p : List ℕ) → is_named p ps ≡ true → IsClear files p)
      → ((p : List ℕ) → is_named p ps ≡ true → (r : List ℕ) → is_at_or_under r p ≡ true → is_named r wrote ≡ false)
      → AllZip (λ q t. MaybeTreeAt w2 q t) qs (map (λ p. if is_named p files then Some (File text) else None) qs)
  each_out [] among clear apart = tt
  each_out (q ∷ qs) among clear apart =
      let first : is_named q ps ≡ true = among q (or_left (bytes_eq q q) (is_named q qs) (place_itself q)) in
      (one_out q first (clear q first) (apart q first), each_out qs (λ p h. among p (or_right (bytes_eq p q) (is_named p qs) h)) clear apart)

-- what stands at an output, from the files that are written and the folders that are filled
abbrev tree_there : List (List ℕ) → List (List ℕ) → List ℕ → List ℕ → List ℕ → Option Tree
tree_there files filled text bytes p = if is_named p files then Some (File text) else (if is_named p filled then Some (Folder (line_entries 1 (lines_of bytes))) else None)

-- a command makes files alone, or fills the first output alone
files_or_lines : (c : Command) (ps : List (List ℕ)) → (filled_of c ps ≡ []) ⊎ ((written_of c ps ≡ []) × (filled_of c ps ≡ first_of ps))
files_or_lines Cat ps = inl refl
files_or_lines Keep ps = inl refl
files_or_lines Tee ps = inl refl
files_or_lines Echo ps = inl refl
files_or_lines Lines ps = inr (refl, refl)
files_or_lines Half ps = inl refl
files_or_lines Fail ps = inl refl
files_or_lines Killed ps = inl refl
files_or_lines Unknown ps = inl refl

-- ## Folders with lines

-- what is at or under p, which is apart from o, isn't at or under o
outside_first : (o p r : List ℕ) → overlaps o p ≡ false → is_at_or_under r p ≡ true → is_within r (o ∷ []) ≡ false
outside_first o p r apart under = ap (λ b. b || false) (false_unless (is_at_or_under r o) (λ e. never_both (overlaps o p) (overlaps_above_both r o p e under) apart))

module _ (w2 : World) (wrote : List (List ℕ)) (text bytes : List ℕ) (now : ℕ) where
  -- what is left where o is filled
  abbrev left_there : List ℕ → List Change
  left_there o = folders_at (o ∷ []) bytes now ++ files_at wrote [] now

  -- no log stands there
  no_log : (o q : List ℕ) → is_named q wrote ≡ false → standing (left_there o) q ≡ standing (folders_at (o ∷ []) bytes now) q
  no_log o q none =
      standing_both (folders_at (o ∷ []) bytes now) (files_at wrote [] now) q
      ∙ ap (or_then (standing (folders_at (o ∷ []) bytes now) q)) (standing_logs wrote [] now q ∙ ap (λ b. if b then Some (Regular [] now false) else None) none)
      ∙ or_then_none (standing (folders_at (o ∷ []) bytes now) q)

  -- the folder has its lines
  line_left : (o name : List ℕ) → is_named (in_folder o name) wrote ≡ false → standing (left_there o) (in_folder o name) ≡ node_of now (bytes_named name (line_entries 1 (lines_of bytes)))
  line_left o name none =
      no_log o (in_folder o name) none
      ∙ ap (λ b. if b then Some Directory else standing (line_files o 1 (lines_of bytes) now ++ []) (in_folder o name)) (above_differs (in_folder o name) o (under_folder o name))
      ∙ ap (λ cs. standing cs (in_folder o name)) (no_more (line_files o 1 (lines_of bytes) now))
      ∙ lines_there o 1 (lines_of bytes) now name

  entry_is : (s : NodeState) (e : Option (List ℕ)) → s ≡ Known (node_of now (Some e)) Anything → EntryIs e s
  entry_is s (Some held) is = subst (HoldsBytes held) (sym is) refl
  entry_is s None is = subst (Reads (Some Directory)) (sym is) refl

  module _ (o : List ℕ) (ps logs : List (List ℕ)) (apart : are_apart ((o ∷ ps) ++ logs) ≡ true)
      (state : (r : List ℕ) → is_within r ((o ∷ ps) ++ logs) ≡ true → w2.nodes r ≡ Known (standing (left_there o) r) Anything)
      (clear : (p : List ℕ) → is_named p (o ∷ ps) ≡ true → (r : List ℕ) → is_at_or_under r p ≡ true → is_named r wrote ≡ false) where
    here : (p r : List ℕ) → is_named p (o ∷ ps) ≡ true → is_at_or_under r p ≡ true → w2.nodes r ≡ Known (standing (left_there o) r) Anything
    here p r named under = state r (within_both r (o ∷ ps) logs ∙ or_left (is_within r (o ∷ ps)) (is_within r logs) (under_named r p (o ∷ ps) named under))

    o_named : is_named o (o ∷ ps) ≡ true
    o_named = or_left (bytes_eq o o) (is_named o ps) (place_itself o)

    in_o : (name : List ℕ) → w2.nodes (in_folder o name) ≡ Known (node_of now (bytes_named name (line_entries 1 (lines_of bytes)))) Anything
    in_o name =
        let under : is_at_or_under (in_folder o name) o ≡ true = at_when_under (in_folder o name) o (under_folder o name) in
        here o (in_folder o name) o_named under ∙ ap (λ n. Known n Anything) (line_left o name (clear o o_named (in_folder o name) under))

    filled : IsFolderOf w2 o (line_entries 1 (lines_of bytes))
    filled = record {
      folder =
          let at : is_at_or_under o o ≡ true = at_itself o in
          subst (Reads (Some Directory)) (sym (here o o o_named at ∙ ap (λ n. Known n Anything) (no_log o o (clear o o_named o at)
          ∙ ap (λ b. if b then Some Directory else standing (line_files o 1 (lines_of bytes) now ++ []) o) (place_itself o)))) refl;
      sorted = lines_rise 1 (lines_of bytes);
      stand = entries_named (λ e. EntryIs e.bytes (w2.nodes (in_folder o e.name))) (line_entries 1 (lines_of bytes)) (lines_rise 1 (lines_of bytes))
          (λ e is. entry_is (w2.nodes (in_folder o e.name)) e.bytes (in_o e.name ∙ ap (λ n. Known (node_of now n) Anything) is));
      all = λ name stands. there name stands (is_named name (map (λ (e : TreeEntry). e.name) (line_entries 1 (lines_of bytes)))) refl;
    }
      where
        there : (name : List ℕ) → ¬ (Reads None (w2.nodes (in_folder o name))) → (b : Bool) → is_named name (map (λ (e : TreeEntry). e.name) (line_entries 1 (lines_of bytes))) ≡ b
            → Contains (map (λ (e : TreeEntry). e.name) (line_entries 1 (lines_of bytes))) name
        there name stands true e = Contains-from_any same_place name _ (sym (named_any name _) ∙ e)
        there name stands false e = absurd (stands (subst (Reads None) (sym (in_o name ∙ ap (λ n. Known (node_of now n) Anything) (not_named name (line_entries 1 (lines_of bytes)) e))) refl))

    nothing_at : (p : List ℕ) → is_named p (o ∷ ps) ≡ true → overlaps o p ≡ false → MaybeTreeAt w2 p None
    nothing_at p named away = λ r under.
        subst (Reads None) (sym (here p r named under ∙ ap (λ n. Known n Anything) (no_log o r (clear p named r under)
        ∙ inside_none (o ∷ []) (folders_at (o ∷ []) bytes now) r (inside_folders (o ∷ []) (o ∷ []) bytes now (λ q h. named_within q (o ∷ []) h)) (outside_first o p r away under)))) refl

    each_none : (qs : List (List ℕ)) → ((p : List ℕ) → is_named p qs ≡ true → (is_named p (o ∷ ps) ≡ true) × (overlaps o p ≡ false))
        → AllZip (λ q t. MaybeTreeAt w2 q t) qs (map (tree_there [] (o ∷ []) text bytes) qs)
    each_none [] among = tt
    each_none (q ∷ qs) among =
        let first = among q (or_left (bytes_eq q q) (is_named q qs) (place_itself q)) in
        let other : bytes_eq q o ≡ false = same_flipped q o ∙ (or_parts (bytes_eq o q) _ first.1).0 in (
          subst (λ b. MaybeTreeAt w2 q (if b || false then Some (Folder (line_entries 1 (lines_of bytes))) else None)) (sym other) (nothing_at q first.0 first.1),
          each_none qs (λ p h. among p (or_right (bytes_eq p q) (is_named p qs) h)),
        )

    lines_first : AllZip (λ q t. MaybeTreeAt w2 q t) (o ∷ ps) (map (tree_there [] (o ∷ []) text bytes) (o ∷ ps))
    lines_first = (
      subst (λ b. MaybeTreeAt w2 o (if b || false then Some (Folder (line_entries 1 (lines_of bytes))) else None)) (sym (place_itself o)) filled,
      each_none ps (λ p h. (
        or_right (bytes_eq p o) (is_named p ps) h,
        any_named (overlaps o) ps (any_front (overlaps o) ps logs (not-true _ (and_first (not (list_any (overlaps o) (ps ++ logs))) _ apart))) p h,
      )),
    )

  lines_out : (ps logs : List (List ℕ)) → are_apart (ps ++ logs) ≡ true
      → ((r : List ℕ) → is_within r (ps ++ logs) ≡ true → w2.nodes r ≡ Known (standing (folders_at (first_of ps) bytes now ++ files_at wrote [] now) r) Anything)
      → ((p : List ℕ) → is_named p ps ≡ true → (r : List ℕ) → is_at_or_under r p ≡ true → is_named r wrote ≡ false)
      → AllZip (λ q t. MaybeTreeAt w2 q t) ps (map (tree_there [] (first_of ps) text bytes) ps)
  lines_out [] logs apart state clear = tt
  lines_out (o ∷ ps) logs apart state clear = lines_first o ps logs apart state clear

either_out : (w2 : World) (folders files wrote ps logs : List (List ℕ)) (text bytes : List ℕ) (time now : ℕ) → (folders ≡ []) ⊎ ((files ≡ []) × (folders ≡ first_of ps))
    → are_apart (ps ++ logs) ≡ true → ((p : List ℕ) → is_named p ps ≡ true → IsClear files p)
    → ((r : List ℕ) → is_within r (ps ++ logs) ≡ true → w2.nodes r ≡ Known (standing (folders_at folders bytes now ++ (files_at files text time ++ files_at wrote [] now)) r) Anything)
    → ((p : List ℕ) → is_named p ps ≡ true → (r : List ℕ) → is_at_or_under r p ≡ true → is_named r wrote ≡ false)
    → AllZip (λ q t. MaybeTreeAt w2 q t) ps (map (tree_there files folders text bytes) ps)
either_out w2 folders files wrote ps logs text bytes time now (inl none) apart clear state away =
    subst (λ fs. AllZip (λ q t. MaybeTreeAt w2 q t) ps (map (tree_there files fs text bytes) ps)) (sym none)
    (each_out w2 files wrote ps logs text time now
    (λ r h. state r h ∙ ap (λ fs. Known (standing (folders_at fs bytes now ++ (files_at files text time ++ files_at wrote [] now)) r) Anything) none ∙ ap (λ n. Known n Anything) (standing_left files wrote text time now r))
    ps (λ p h. h) clear away)
either_out w2 folders files wrote ps logs text bytes time now (inr is) apart clear state away =
    subst (λ fs. AllZip (λ q t. MaybeTreeAt w2 q t) ps (map (tree_there fs folders text bytes) ps)) (sym is.0)
    (subst (λ fs. AllZip (λ q t. MaybeTreeAt w2 q t) ps (map (tree_there [] fs text bytes) ps)) (sym is.1)
    (lines_out w2 wrote text bytes now ps logs apart
    (λ r h. state r h ∙ ap (λ fs. Known (standing (folders_at folders bytes now ++ (files_at fs text time ++ files_at wrote [] now)) r) Anything) is.0 ∙ ap (λ fs. Known (standing (folders_at fs bytes now ++ files_at wrote [] now) r) Anything) is.1)
    away))

abbrev n137 : ℕ
n137 = 137

not_killed : n137 ≡ 0 → ⊥
not_killed h = cc

module _ (w : World) (c : Child) (ended : Ended) (child_is : child_numbered ended.number w.children ≡ Some c) where
  owned_is : owned_by ended.number w.children ≡ owned_paths c.recipe c.logs
  owned_is = ap owned_of child_is

  pub nodes_waited : (old new : Nodes) (left : List Change) → AgreesWith old w → ((q : List ℕ) → node_at new q ≡ (if is_within q (owned_paths c.recipe c.logs) then standing left q else node_at old q))
      → AgreesWith new (after w (record { call = Waited (Ok ended); left = left }))
  nodes_waited old new left agrees new_is = λ q.
      subst (λ o. seen (node_at new q) (if is_within q o then Known (standing left q) Anything else w.nodes q) ≡ node_at new q) (sym owned_is)
      (seen_end (is_within q (owned_paths c.recipe c.logs)) (node_at old q) (node_at new q) (w.nodes q) (standing left q) (new_is q) (agrees q))

  pub lets_waited : (killed : Bool) (nodes : Nodes) (now : ℕ) (left : List Change) → AgreesWith nodes w → left ≡ left_by killed c.recipe c.logs nodes now → are_apart (owned_paths c.recipe c.logs) ≡ true
      → ended.status ≡ status_of (command_of killed c.recipe.template) → Lets mem_act w (Waited (Ok ended)) left
  lets_waited true nodes now left agrees left_is apart status_is = (c, child_is, λ zero trees contents. absurd (not_killed (sym status_is ∙ zero)))
  lets_waited false nodes now left agrees left_is apart status_is = (c, child_is, λ zero trees contents. (sym status_is ∙ zero, outputs trees contents))
    where
      outputs : (trees : List Tree) → ContentsAre w c.recipe trees → OutputsAre (after w (record { call = Waited (Ok ended); left = left })) c.recipe (mem_act c.recipe trees).outputs
      outputs trees contents =
          let w2 = after w (record { call = Waited (Ok ended); left = left }) in
          let command = command_named (without_log c.recipe.template) in
          let outs = out_paths c.recipe in
          let bytes = joined trees in
          let text = text_of command c.recipe.params bytes in
          let time = time_with command (first_time nodes (in_paths c.recipe)) now in
          let is : left ≡ left_of command c.recipe c.logs bytes time now = left_is ∙ ap (λ x. left_of command c.recipe c.logs x time now) (sym (joined_same nodes w (in_paths c.recipe) trees agrees contents)) in
          either_out w2 (filled_of command outs) (written_of command outs) (logs_of c.recipe.template c.logs) outs c.logs text bytes time now (files_or_lines command outs) apart (written_clear command outs c.logs apart)
          (λ r h. ap (λ b. if b then Known (standing left r) Anything else w.nodes r) (ap (is_within r) owned_is ∙ h) ∙ ap (λ l. Known (standing l r) Anything) is)
          (λ p h r under. no_logs c.recipe.template c.logs r (none_named p c.logs r (apart_logs outs c.logs apart p h) under))
