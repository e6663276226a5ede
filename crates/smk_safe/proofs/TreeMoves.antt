-- Trees and members stay where what reads stays.
use Rattle.std.proofs.Common.{◌≡◌, ℕ, true, List, [], ◌∷◌, refl, ap, sym, subst, ◌∙◌, Option, Some, None}
use Rattle.std.specs.List.{AllZip, AllByRecursion}
use Rattle.std.proofs.lemmas.List.Elements.{recursion_from_All, All-from_recursion}
use Rattle.smk_store_members.proofs.Listings.{in_it}
use Rattle.smk_base.specs.Path.{is_under, is_at_or_under}
use Rattle.smk_base.specs.declared.tree.Tree.{Tree}
use Rattle.smk_base.specs.declared.tree.Tree.TheVariants.{File, Folder}
use Rattle.smk_base.specs.declared.tree.TreeEntry.{TreeEntry}
use Rattle.smk_base.proofs.Under.{at_itself, at_when_under, under_folder, under_further}
use Rattle.smk_world.specs.declared.event.Node.{Node}
use Rattle.smk_world.specs.declared.event.Node.TheVariants.{Regular, Directory}
use Rattle.smk_world.specs.declared.event.NodeState.{NodeState}
use Rattle.smk_world.specs.declared.event.NodeState.TheVariants.{Owned, Known}
use Rattle.smk_world.specs.declared.recipe.Kind.{Kind}
use Rattle.smk_world.specs.declared.recipe.Kind.TheVariants.{Plain, Folder as FolderKind}
use Rattle.smk_world.specs.World.{World, firm, reads_folder}
use Rattle.smk_world.specs.Calls.{Reads, HoldsBytes, Stands, EntryIs, TreeAt, MaybeTreeAt, in_folder}
use Rattle.smk_world.specs.Trees.{Path, Each}
use Rattle.smk_record.specs.declared.record.Member.{Member}
use Rattle.smk_job.specs.Sights.{Nodes, IsFound, IsThere, IsOfKind, reads_file}
use Rattle.smk_store_members.specs.Members.IsFound.{Inside, Deeper}

-- ## One place

-- what reads at the one reads at the other
pub record StaysRead (s t : NodeState) : Type 0 where
  pub reads : (n : Option Node) → Reads n s → Reads n t
  pub holds : (bytes : List ℕ) → HoldsBytes bytes s → HoldsBytes bytes t

pub stays_same : (s t : NodeState) → t ≡ s → StaysRead s t
stays_same s t e = record { reads = λ n h. subst (Reads n) (sym e) h; holds = λ bytes h. subst (HoldsBytes bytes) (sym e) h }

reads_firm : (s : NodeState) (n : Option Node) → Reads n s → Reads n (firm s)
reads_firm Owned n h = absurd h
reads_firm (Known now besides) n h = h

holds_firm : (s : NodeState) (bytes : List ℕ) → HoldsBytes bytes s → HoldsBytes bytes (firm s)
holds_firm Owned bytes h = absurd h
holds_firm (Known None besides) bytes h = absurd h
holds_firm (Known (Some (Regular held time read_only)) besides) bytes h = h
holds_firm (Known (Some Directory) besides) bytes h = absurd h

pub stays_firm : (s t : NodeState) → t ≡ firm s → StaysRead s t
stays_firm s t e = record { reads = λ n h. subst (Reads n) (sym e) (reads_firm s n h); holds = λ bytes h. subst (HoldsBytes bytes) (sym e) (holds_firm s bytes h) }

-- ## Trees

-- what reads at and under the place stays
abbrev pub StaysUnder : World → World → Path → Type 0
StaysUnder w v p = (q : Path) → is_at_or_under q p ≡ true → StaysRead (w.nodes q) (v.nodes q)

entry_moved : (bytes : Option (List ℕ)) (s t : NodeState) → StaysRead s t → EntryIs bytes s → EntryIs bytes t
entry_moved None s t same h = same.reads (Some Directory) h
entry_moved (Some bytes) s t same h = same.holds bytes h

entries_moved : (w v : World) (p : Path) → StaysUnder w v p → (entries : List TreeEntry)
    → AllByRecursion (λ (e : TreeEntry). EntryIs e.bytes (w.nodes (in_folder p e.name))) entries → AllByRecursion (λ (e : TreeEntry). EntryIs e.bytes (v.nodes (in_folder p e.name))) entries
entries_moved w v p same [] h = tt
entries_moved w v p same (e ∷ entries) h = (entry_moved e.bytes (w.nodes (in_folder p e.name)) (v.nodes (in_folder p e.name)) (same (in_folder p e.name) (in_it p e.name)) h.0, entries_moved w v p same entries h.1)

pub tree_moved : (w v : World) (p : Path) (tree : Tree) → StaysUnder w v p → TreeAt w p tree → TreeAt v p tree
tree_moved w v p (File bytes) same h = (same p (at_itself p)).holds bytes h
tree_moved w v p (Folder entries) same h = record {
  folder = (same p (at_itself p)).reads (Some Directory) h.folder;
  sorted = h.sorted;
  stand = All-from_recursion (λ (e : TreeEntry). EntryIs e.bytes (v.nodes (in_folder p e.name))) entries
      (entries_moved w v p same entries (recursion_from_All (λ (e : TreeEntry). EntryIs e.bytes (w.nodes (in_folder p e.name))) entries h.stand));
  all = λ name some. h.all name (λ none. some ((same (in_folder p name) (in_it p name)).reads None none));
}

maybe_moved : (w v : World) (p : Path) (tree : Option Tree) → StaysUnder w v p → MaybeTreeAt w p tree → MaybeTreeAt v p tree
maybe_moved w v p None same h = λ q at. (same q at).reads None (h q at)
maybe_moved w v p (Some tree) same h = tree_moved w v p tree same h

pub contents_moved : (w v : World) (ps : List Path) (trees : List Tree) → Each (StaysUnder w v) ps → AllZip (λ p tree. TreeAt w p tree) ps trees → AllZip (λ p tree. TreeAt v p tree) ps trees
contents_moved w v [] [] same h = tt
contents_moved w v [] (t ∷ trees) same h = absurd h
contents_moved w v (p ∷ ps) [] same h = absurd h
contents_moved w v (p ∷ ps) (t ∷ trees) same h = (tree_moved w v p t same.0 h.0, contents_moved w v ps trees same.1 h.1)

pub outputs_moved : (w v : World) (ps : List Path) (trees : List (Option Tree)) → Each (StaysUnder w v) ps → AllZip (λ p tree. MaybeTreeAt w p tree) ps trees → AllZip (λ p tree. MaybeTreeAt v p tree) ps trees
outputs_moved w v [] [] same h = tt
outputs_moved w v [] (t ∷ trees) same h = absurd h
outputs_moved w v (p ∷ ps) [] same h = absurd h
outputs_moved w v (p ∷ ps) (t ∷ trees) same h = (maybe_moved w v p t same.0 h.0, outputs_moved w v ps trees same.1 h.1)

-- ## Kinds

-- what stands at and under the place is made firm
abbrev pub IsMadeFirm : Nodes → Nodes → Path → Type 0
IsMadeFirm old new p = (q : Path) → is_at_or_under q p ≡ true → new q ≡ firm (old q)

stands_firm : (s t : NodeState) → t ≡ firm s → Stands s → Stands t
stands_firm s t e h = subst Stands (sym e) (go s h)
  where
    go : (x : NodeState) → Stands x → Stands (firm x)
    go Owned k = absurd k
    go (Known None besides) k = absurd k
    go (Known (Some n) besides) k = tt

stood_firm : (s t : NodeState) → t ≡ firm s → Stands t → Stands s
stood_firm s t e h = go s (subst Stands e h)
  where
    go : (x : NodeState) → Stands (firm x) → Stands x
    go Owned k = absurd k
    go (Known None besides) k = absurd k
    go (Known (Some n) besides) k = tt

folder_firm : (s t : NodeState) → t ≡ firm s → reads_folder t ≡ reads_folder s
folder_firm s t e = ap reads_folder e ∙ go s
  where
    go : (x : NodeState) → reads_folder (firm x) ≡ reads_folder x
    go Owned = refl
    go (Known None besides) = refl
    go (Known (Some (Regular bytes time read_only)) besides) = refl
    go (Known (Some Directory) besides) = refl

file_firm : (s t : NodeState) → t ≡ firm s → reads_file t ≡ reads_file s
file_firm s t e = ap reads_file e ∙ go s
  where
    go : (x : NodeState) → reads_file (firm x) ≡ reads_file x
    go Owned = refl
    go (Known None besides) = refl
    go (Known (Some (Regular bytes time read_only)) besides) = refl
    go (Known (Some Directory) besides) = refl

found_under : (nodes : Nodes) (p q : Path) → IsFound nodes p q → is_under q p ≡ true
found_under nodes p q (Inside name is there) = under_folder p name
found_under nodes p q (Deeper folder name found is_folder is there) = under_further (in_folder folder name) folder p (under_folder folder name) (found_under nodes p folder found)

found_now : (old new : Nodes) (p q : Path) → IsMadeFirm old new p → IsFound old p q → IsFound new p q
found_now old new p q same (Inside name is there) = Inside name is (stands_firm (old (in_folder p name)) (new (in_folder p name)) (same (in_folder p name) (in_it p name)) there)
found_now old new p q same (Deeper folder name found is_folder is there) =
    let under = found_under old p folder found in
    let deeper = under_further (in_folder folder name) folder p (under_folder folder name) under in
    Deeper folder name (found_now old new p folder same found) (folder_firm (old folder) (new folder) (same folder (at_when_under folder p under)) ∙ is_folder) is
    (stands_firm (old (in_folder folder name)) (new (in_folder folder name)) (same (in_folder folder name) (at_when_under (in_folder folder name) p deeper)) there)

found_before : (old new : Nodes) (p q : Path) → IsMadeFirm old new p → IsFound new p q → IsFound old p q
found_before old new p q same (Inside name is there) = Inside name is (stood_firm (old (in_folder p name)) (new (in_folder p name)) (same (in_folder p name) (in_it p name)) there)
found_before old new p q same (Deeper folder name found is_folder is there) =
    let under = found_under new p folder found in
    let deeper = under_further (in_folder folder name) folder p (under_folder folder name) under in
    Deeper folder name (found_before old new p folder same found) (sym (folder_firm (old folder) (new folder) (same folder (at_when_under folder p under))) ∙ is_folder) is
    (stood_firm (old (in_folder folder name)) (new (in_folder folder name)) (same (in_folder folder name) (at_when_under (in_folder folder name) p deeper)) there)

there_now : (old new : Nodes) (p : Path) → IsMadeFirm old new p → (ms : List Member) → Each (IsThere old p) ms → Each (IsThere new p) ms
there_now old new p same [] h = tt
there_now old new p same (m ∷ ms) h = (
  (found_now old new p (in_folder p m.name) same h.0.0, folder_firm (old (in_folder p m.name)) (new (in_folder p m.name)) (same (in_folder p m.name) (in_it p m.name)) ∙ h.0.1),
  there_now old new p same ms h.1,
)

pub kind_firm : (old new : Nodes) (p : Path) (kind : Kind) (ms : List Member) → IsMadeFirm old new p → IsOfKind old p kind ms → IsOfKind new p kind ms
kind_firm old new p Plain ms same h = (file_firm (old p) (new p) (same p (at_itself p)) ∙ h.0, h.1)
kind_firm old new p FolderKind ms same h = (
  folder_firm (old p) (new p) (same p (at_itself p)) ∙ h.0,
  record { valid = h.1.valid; there = there_now old new p same ms h.1.there; all = λ q found. h.1.all q (found_before old new p q same found) },
)
