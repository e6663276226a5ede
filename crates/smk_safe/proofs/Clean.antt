-- What was made of clean inputs is clean.
use Rattle.std.proofs.Common.{◌≡◌, inl, inr, ℕ, zero, suc, Bool, true, false, ◌||◌, not, ◌==◌, List, [], ◌∷◌, ◌++◌, refl, ap, sym, subst, ◌∙◌, Option, Some, None, option_map, bytes_eq, true≢false}
use Rattle.std.specs.Prelude.{map, if◌then◌else◌}
use Rattle.std.specs.List.{list_any, AllZip}
use Rattle.std.specs.Option.{option_and_then}
use Rattle.std.proofs.lemmas.Bool.{eq-eqb, and_from, not-true, and_parts, or_parts, or_from}
use Rattle.smk_job.proofs.Lists.{each_in}
use Rattle.smk_base.specs.Path.{is_under, overlaps}
use Rattle.smk_base.specs.declared.tree.Tree.{Tree}
use Rattle.smk_base.specs.declared.tree.Tree.TheVariants.{File, Folder}
use Rattle.smk_base.proofs.Places.{place_itself}
use Rattle.smk_base.proofs.Under.{at_itself}
use Rattle.smk_world.specs.declared.event.Node.TheVariants.{Regular, Directory}
use Rattle.smk_world.specs.declared.event.NodeState.{NodeState}
use Rattle.smk_world.specs.declared.event.NodeState.TheVariants.{Owned, Known}
use Rattle.smk_world.specs.declared.recipe.Kind.{Kind}
use Rattle.smk_world.specs.declared.recipe.Kind.TheVariants.{Plain, Folder as FolderKind}
use Rattle.smk_world.specs.declared.recipe.Out.{Out}
use Rattle.smk_world.specs.declared.recipe.Recipe.{Recipe}
use Rattle.smk_world.specs.World.{World, run, reading, in_paths, out_paths}
use Rattle.smk_world.specs.Calls.{Acted, Reads, HoldsBytes, TreeAt, MaybeTreeAt, are_apart}
use Rattle.smk_world.specs.Trees.{Path, Each, IsIn, all_of, are_good, below, file_in, is_good, outs_of, part_at, tree_among, tree_given, value_at}
use Rattle.smk_flow.specs.declared.job.Job.{Job}
use Rattle.smk_flow.specs.Flows.{Candidate, gathered_folders}
use Rattle.smk_choose.specs.Choose.{Choice, choose, Source, Make, Nothing, Ambiguous}
use Rattle.smk_chain.specs.Derive.{Listings, recipe}
use Rattle.smk_chain.specs.Mean.{Setting, listings_of, is_runnable, mean, source_tree}
use Rattle.smk_record.specs.declared.record.Member.{Member}
use Rattle.smk_job.specs.Sights.{Nodes, IsOfKind, reads_file}
use Rattle.smk_job.proofs.Outs.{paths_same}
use Rattle.smk_run.specs.Turns.{Turn}
use Rattle.smk_safe.specs.Leaving.{IsRecorded}
use Rattle.smk_safe.specs.Running.{IsOrderly, AreArranged, IsMade}
use Rattle.smk_safe.specs.Clean.{IsChained, IsCleanIn, DoneRunIsClean}
use Rattle.smk_safe.proofs.Sparing.{turns_keep_else}
use Rattle.smk_safe.proofs.Running.{done_turns_leave}

-- ## One output

-- a tree that stands where a file stands is that file
pub record IsFileTree (v : World) (p : Path) (tree : Option Tree) : Type 0 where
  pub held : List ℕ
  pub holds : HoldsBytes held (v.nodes p)
  pub is : tree ≡ Some (File held)

file_tree : (v : World) (p : Path) (tree : Option Tree) → reads_file (v.nodes p) ≡ true → MaybeTreeAt v p tree → IsFileTree v p tree
file_tree v p None file none = absurd (not_gone (v.nodes p) (none p (at_itself p)) file)
  where
    not_gone : (s : NodeState) → Reads None s → reads_file s ≡ true → ⊥
    not_gone Owned h k = h
    not_gone (Known None besides) h k = true≢false (sym k)
    not_gone (Known (Some n) besides) h k = cc
file_tree v p (Some (File held)) file holds = record { held = held; holds = holds; is = refl }
file_tree v p (Some (Folder entries)) file folder = absurd (not_folder (v.nodes p) folder.folder file)
  where
    not_folder : (s : NodeState) → Reads (Some Directory) s → reads_file s ≡ true → ⊥
    not_folder Owned h k = h
    not_folder (Known None besides) h k = true≢false (sym k)
    not_folder (Known (Some (Regular there time read_only)) besides) h k = cc
    not_folder (Known (Some Directory) besides) h k = true≢false (sym k)

kind_file : (nodes : Nodes) (p : Path) (kind : Kind) (ms : List Member) → kind ≡ Plain → IsOfKind nodes p kind ms → reads_file (nodes p) ≡ true
kind_file nodes p Plain ms e h = h.0
kind_file nodes p FolderKind ms e h = cc

files_all : (t : Turn) (v : World) (outs : List Out) → Each (λ (out : Out). out.kind ≡ Plain) outs → Each (IsRecorded t v) outs → Each (λ (out : Out). reads_file (v.nodes out.path) ≡ true) outs
files_all t v [] plain h = tt
files_all t v (out ∷ outs) plain h = (kind_file v.nodes out.path out.kind h.0.members plain.0 h.0.kind, files_all t v outs plain.1 h.1)

-- ## All outputs

good_file : (p : Path) (kind : Kind) (held : List ℕ) → kind ≡ Plain → is_good p kind (Some (File held)) ≡ true
good_file p Plain held e = refl
good_file p FolderKind held e = cc

all_good : (v : World) (outs : List Out) (trees : List (Option Tree)) → Each (λ (out : Out). out.kind ≡ Plain) outs → Each (λ (out : Out). reads_file (v.nodes out.path) ≡ true) outs
    → AllZip (λ p tree. MaybeTreeAt v p tree) (map (λ (out : Out). out.path) outs) trees → are_good outs trees ≡ true
all_good v [] [] plain files h = refl
all_good v [] (t ∷ trees) plain files h = absurd h
all_good v (out ∷ outs) [] plain files h = absurd h
all_good v (out ∷ outs) (t ∷ trees) plain files h =
    let f = file_tree v out.path t files.0 h.0 in
    and_from (is_good out.path out.kind t) (are_good outs trees) (ap (is_good out.path out.kind) f.is ∙ good_file out.path out.kind f.held plain.0) (all_good v outs trees plain.1 files.1 h.1)

pub none_in : (p q : Path) (ps : List Path) → list_any (overlaps p) ps ≡ false → IsIn ps q → overlaps p q ≡ false
none_in p q [] h i = absurd i
none_in p q (x ∷ ps) h (inl e) = ap (overlaps p) e ∙ (or_parts (overlaps p x) (list_any (overlaps p) ps) h).0
none_in p q (x ∷ ps) h (inr i) = none_in p q ps (or_parts (overlaps p x) (list_any (overlaps p) ps) h).1 i

-- the tree at the output, of those that the command made
pub record IsAmongMade (outs : List Out) (trees : List (Option Tree)) (v : World) (p : Path) : Type 0 where
  pub held : List ℕ
  pub holds : HoldsBytes held (v.nodes p)
  pub is : tree_among outs trees p ≡ Some (File held)

pub picked : (o p : Path) (t rest : Option Tree) → bytes_eq o p ≡ true → (if bytes_eq o p || is_under p o then option_and_then (part_at o p) t else rest) ≡ t
picked o p None rest h = ap (λ b. if b || is_under p o then None else rest) h
picked o p (Some t) rest h = ap (λ b. if b || is_under p o then (if b then Some t else file_in t (below o p)) else rest) h

pub passed : (o p : Path) (t rest : Option Tree) → overlaps o p ≡ false → (if bytes_eq o p || is_under p o then option_and_then (part_at o p) t else rest) ≡ rest
passed o p t rest h =
    let one = or_parts (bytes_eq o p) (is_under o p || is_under p o) h in
    let two = or_parts (is_under o p) (is_under p o) one.1 in
    ap (λ b. if b then option_and_then (part_at o p) t else rest) (or_from (bytes_eq o p) (is_under p o) one.0 two.1)

among_made : (v : World) (outs : List Out) (trees : List (Option Tree)) (p : Path) → are_apart (map (λ (out : Out). out.path) outs) ≡ true → IsIn (map (λ (out : Out). out.path) outs) p
    → Each (λ (out : Out). reads_file (v.nodes out.path) ≡ true) outs
    → AllZip (λ q tree. MaybeTreeAt v q tree) (map (λ (out : Out). out.path) outs) trees → IsAmongMade outs trees v p
among_made v [] trees p apart i files h = absurd i
among_made v (out ∷ outs) [] p apart i files h = absurd h
among_made v (out ∷ outs) (t ∷ trees) p apart (inl e) files h =
    let f = file_tree v out.path t files.0 h.0 in record {
      held = f.held;
      holds = subst (λ x. HoldsBytes f.held (v.nodes x)) (sym e) f.holds;
      is = picked out.path p t (tree_among outs trees p) (ap (bytes_eq out.path) e ∙ place_itself out.path) ∙ f.is;
    }
among_made v (out ∷ outs) (t ∷ trees) p apart (inr i) files h =
    let ps = map (λ (o : Out). o.path) outs in
    let both = and_parts (not (list_any (overlaps out.path) ps)) (are_apart ps) apart in
    let later = among_made v outs trees p both.1 i files.1 h.1 in record {
      held = later.held;
      holds = later.holds;
      is = passed out.path p t (tree_among outs trees p) (none_in out.path p ps (not-true (list_any (overlaps out.path) ps) both.0) i) ∙ later.is;
    }

pub apart_first : (ps qs : List Path) → are_apart (ps ++ qs) ≡ true → are_apart ps ≡ true
apart_first [] qs h = refl
apart_first (p ∷ ps) qs h =
    let both = and_parts (not (list_any (overlaps p) (ps ++ qs))) (are_apart (ps ++ qs)) h in
    and_from (not (list_any (overlaps p) ps)) (are_apart ps) (ap not (none_first ps (not-true (list_any (overlaps p) (ps ++ qs)) both.0))) (apart_first ps qs both.1)
  where
    none_first : (xs : List Path) → list_any (overlaps p) (xs ++ qs) ≡ false → list_any (overlaps p) xs ≡ false
    none_first [] k = refl
    none_first (x ∷ xs) k = let b = or_parts (overlaps p x) (list_any (overlaps p) (xs ++ qs)) k in or_from (overlaps p x) (list_any (overlaps p) xs) b.0 (none_first xs b.1)

given_by : (outs : List Out) (acted : Acted) (p : Path) (held : List ℕ) → acted.status ≡ 0 → are_good outs acted.outputs ≡ true → tree_among outs acted.outputs p ≡ Some (File held) → tree_given outs acted p ≡ Some (File held)
given_by outs acted p held status good is = ap (λ b. if b then tree_among outs acted.outputs p else None) (and_from (acted.status == 0) (are_good outs acted.outputs) (eq-eqb acted.status 0 status) good) ∙ is

-- ## Inputs

-- The trees of clean files.
pub record AreCleanTrees (S : Setting) (n : ℕ) (v : World) (ps : List Path) : Type 0 where
  pub trees : List Tree
  pub stand : AllZip (λ p tree. TreeAt v p tree) ps trees
  pub clean : all_of (map (mean S n) ps) ≡ Some trees

all_make : (o : Option Tree) (rest : List (Option Tree)) (x : Tree) (ys : List Tree) → o ≡ Some x → all_of rest ≡ Some ys → all_of (o ∷ rest) ≡ Some (x ∷ ys)
all_make o rest x ys h k = rw (h, k) refl

clean_trees : (S : Setting) (n : ℕ) (v : World) (ps : List Path) → Each (IsCleanIn S n v) ps → AreCleanTrees S n v ps
clean_trees S n v [] h = record { trees = []; stand = tt; clean = refl }
clean_trees S n v (p ∷ ps) h =
    let more = clean_trees S n v ps h.1 in record {
      trees = File h.0.held ∷ more.trees;
      stand = (h.0.holds, more.stand);
      clean = all_make (mean S n p) (map (mean S n) ps) (File h.0.held) more.trees h.0.clean more.clean;
    }

-- ## What a path means

module _ (S : Setting) where
  abbrev runs : ℕ → Path → Candidate → Listings → Bool → Option Tree
  runs n p c L b =
      elim b as (λ _. Option Tree) [
        | true ↦ let r = recipe S.flow L c in value_at S.act r p (all_of (map (mean S n) (in_paths r)))
        | false ↦ None
      ]

  abbrev gathers_by : ℕ → Path → Candidate → Option (List Tree) → Option Tree
  gathers_by n p c o =
      elim o as (λ _. Option Tree) [
        | None ↦ None
        | Some trees ↦
            let L = listings_of (gathered_folders S.flow c) trees in
            elim (is_runnable S c L) as (λ _. Option Tree) [
              | true ↦ let r = recipe S.flow L c in value_at S.act r p (all_of (map (mean S n) (in_paths r)))
              | false ↦ None
            ]
      ]

  abbrev mean_by : ℕ → Path → Choice → Option Tree
  mean_by n p ch =
      elim ch as (λ _. Option Tree) [
        | Source ↦ source_tree S p
        | Nothing lack ↦ None
        | Ambiguous a b ↦ None
        | Make c ↦ gathers_by n p c (all_of (map (mean S n) (gathered_folders S.flow c)))
      ]

  mean_source : (n : ℕ) (p : Path) → S.sources.is p ≡ true → mean S n p ≡ source_tree S p
  mean_source zero p h = rw h refl
  mean_source (suc n) p h = ap (mean_by n p) (source_chosen p h)
    where
      source_chosen : (p : Path) → S.sources.is p ≡ true → choose S.flow S.sources p ≡ Source
      source_chosen p h = rw (h, choose) refl

  no_listings : (c : Candidate) → gathered_folders S.flow c ≡ [] → listings_of (gathered_folders S.flow c) [] ≡ []
  no_listings c h = ap (λ fs. listings_of fs []) h

  mean_make : (n : ℕ) (p : Path) (c : Candidate) → choose S.flow S.sources p ≡ Make c → gathered_folders S.flow c ≡ [] → is_runnable S c [] ≡ true
      → mean S (suc n) p ≡ value_at S.act (recipe S.flow [] c) p (all_of (map (mean S n) (in_paths (recipe S.flow [] c))))
  mean_make n p c e none r =
      ap (mean_by n p) e
      ∙ ap (gathers_by n p c) (ap (λ fs. all_of (map (mean S n) fs)) none)
      ∙ ap (runs n p c (listings_of (gathered_folders S.flow c) [])) (ap (is_runnable S c) (no_listings c none) ∙ r)
      ∙ ap (λ L. value_at S.act (recipe S.flow L c) p (all_of (map (mean S n) (in_paths (recipe S.flow L c))))) (no_listings c none)

-- ## One job

-- what is made of clean inputs
clean_made : (S : Setting) (n : ℕ) (v : World) (t : Turn) (c : Candidate) (p : Path) → choose S.flow S.sources p ≡ Make c → gathered_folders S.flow c ≡ [] → is_runnable S c [] ≡ true
    → IsIn (out_paths (recipe S.flow [] c)) p → Each (λ (out : Out). out.kind ≡ Plain) (outs_of (recipe S.flow [] c)) → t.job.recipe ≡ recipe S.flow [] c → IsOrderly t → IsMade S.act v t
    → Each (IsCleanIn S n v) (in_paths (recipe S.flow [] c)) → IsCleanIn S (suc n) v p
clean_made S n v t c p chosen none runnable output plain same orderly made inputs =
    let r = recipe S.flow [] c in
    let ins = clean_trees S n v (in_paths r) inputs in
    let now = made.given ins.trees (subst (λ (x : Recipe). AllZip (λ q tree. TreeAt v q tree) (in_paths x) ins.trees) (sym same) ins.stand) in
    let acted : Acted = S.act r ins.trees in
    let status : acted.status ≡ 0 = subst (λ (x : Recipe). (S.act x ins.trees).status ≡ 0) same now.0 in
    let same_paths = paths_same r.outputs in
    let outputs : AllZip (λ q tree. MaybeTreeAt v q tree) (map (λ (out : Out). out.path) (outs_of r)) acted.outputs =
    subst (λ ps. AllZip (λ q tree. MaybeTreeAt v q tree) ps acted.outputs) (sym same_paths)
    (subst (λ (x : Recipe). AllZip (λ q tree. MaybeTreeAt v q tree) (out_paths x) (S.act x ins.trees).outputs) same now.1) in
    let files = files_all t v (outs_of r) plain (subst (λ (x : Recipe). Each (IsRecorded t v) (outs_of x)) same made.recorded) in
    let apart : are_apart (map (λ (out : Out). out.path) (outs_of r)) ≡ true =
    subst (λ ps. are_apart ps ≡ true) (sym same_paths) (subst (λ (x : Recipe). are_apart (out_paths x) ≡ true) same (apart_first (out_paths t.job.recipe) t.job.logs orderly.apart)) in
    let it = among_made v (outs_of r) acted.outputs p apart (subst (λ ps. IsIn ps p) (sym same_paths) output) files outputs in
    record {
      held = it.held;
      holds = it.holds;
      clean =
          mean_make S n p c chosen none runnable ∙ ap (value_at S.act r p) ins.clean
          ∙ given_by (outs_of r) acted p it.held status (all_good v (outs_of r) acted.outputs plain files outputs) it.is;
    }

-- ## All of them

orderly_in : (ts : List Turn) (t : Turn) → AreArranged ts → IsIn ts t → IsOrderly t
orderly_in [] t h i = absurd i
orderly_in (u ∷ ts) t h (inl e) = subst IsOrderly (sym e) h.0
orderly_in (u ∷ ts) t h (inr i) = orderly_in ts t h.3 i

clean_each : (S : Setting) (ts : List Turn) (n : ℕ) (v : World) → ((p : Path) → IsChained S ts n p → IsCleanIn S n v p) → (ps : List Path) → Each (IsChained S ts n) ps → Each (IsCleanIn S n v) ps
clean_each S ts n v f [] h = tt
clean_each S ts n v f (p ∷ ps) h = (f p h.0, clean_each S ts n v f ps h.1)

-- a file, where its clean value is the source's
source_clean : (S : Setting) (n : ℕ) (v : World) (p : Path) (held : List ℕ) → S.sources.is p ≡ true → S.bytes p ≡ Some held → HoldsBytes held (v.nodes p) → IsCleanIn S n v p
source_clean S n v p held is bytes holds = record { held = held; holds = holds; clean = mean_source S n p is ∙ ap (option_map File) bytes }

pub clean_chained : (S : Setting) (ts : List Turn) (v : World) → AreArranged ts → Each (IsMade S.act v) ts → ((n : ℕ) (p : Path) → S.sources.is p ≡ true → IsCleanIn S n v p)
    → (n : ℕ) (p : Path) → IsChained S ts n p → IsCleanIn S n v p
clean_chained S ts v arranged made sources zero p is = sources zero p is
clean_chained S ts v arranged made sources (suc n) p (inl is) = sources (suc n) p is
clean_chained S ts v arranged made sources (suc n) p (inr h) =
    clean_made S n v h.turn h.by p h.chosen h.gathers_none h.runnable h.output h.plain (ap (λ (j : Job). j.recipe) h.of_job) (orderly_in ts h.turn arranged h.among)
    (each_in (IsMade S.act v) ts h.turn made h.among)
    (clean_each S ts n v (clean_chained S ts v arranged made sources n) (in_paths (recipe S.flow [] h.by)) h.inputs)

pub holds_reading : (held : List ℕ) (s : NodeState) → HoldsBytes held s → (time : ℕ) × (read_only : Bool) × (reading s ≡ Some (Regular held time read_only))
holds_reading held Owned h = absurd h
holds_reading held (Known None besides) h = absurd h
holds_reading held (Known (Some (Regular there time read_only)) besides) h = (time, read_only, ap (λ b. Some (Regular b time read_only)) h)
holds_reading held (Known (Some Directory) besides) h = absurd h

pub reading_holds : (held : List ℕ) (time : ℕ) (read_only : Bool) (s : NodeState) → reading s ≡ Some (Regular held time read_only) → HoldsBytes held s
reading_holds held time read_only Owned h = cc
reading_holds held time read_only (Known None besides) h = cc
reading_holds held time read_only (Known (Some (Regular there t r)) besides) h = cc
reading_holds held time read_only (Known (Some Directory) besides) h = cc

pub done_run_is_clean : DoneRunIsClean
done_run_is_clean S made ts w es none owners arranged sources follows are done =
    let v = run w es in
    let has = done_turns_leave S.act made ts w es none owners arranged follows are done in
    let kept = turns_keep_else made ts w es none are in
    let stand : (n : ℕ) (p : Path) → S.sources.is p ≡ true → IsCleanIn S n v p =
    λ n p is.
    let s = sources p is in
    let file = holds_reading s.held (w.nodes p) s.holds in
    source_clean S n v p s.held is s.bytes (reading_holds s.held file.0 file.1 (v.nodes p) (kept.above p (Regular s.held file.0 file.1) s.outside s.apart file.2)) in
    clean_chained S ts v arranged has.made stand
