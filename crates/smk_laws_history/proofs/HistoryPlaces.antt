-- What two worlds' images have in common, where their nodes are the same.
use Rattle.std.proofs.Common.{◌≡◌, ℕ, Bool, true, false, ◌&&◌, List, map, refl, sym, ap, ◌∙◌, Option, Some, None, true≢false}
use Rattle.std.specs.Prelude.{option_map, if◌then◌else◌, is_some}
use lib.Pointwise.{pointwise}
use Rattle.smk_base.specs.Path.{own_folder, is_under, is_at_or_under}
use Rattle.smk_base.specs.Place.{record_place, mark_place, note_place}
use Rattle.smk_base.specs.declared.tree.Tree.TheVariants.{File, Folder}
use Rattle.smk_base.specs.declared.tree.TreeEntry.{TreeEntry}
use Rattle.smk_base.proofs.Under.{at_itself, at_when_under}
use Rattle.smk_world.specs.declared.event.Node.{Node}
use Rattle.smk_world.specs.declared.event.Node.TheVariants.{Regular, Directory}
use Rattle.smk_world.specs.declared.recipe.Kind.{Kind}
use Rattle.smk_world.specs.declared.recipe.Kind.TheVariants.{Plain, Folder as FolderKind}
use Rattle.smk_world.specs.World.{World, IsFormed, IsRising, reading}
use Rattle.smk_world.specs.Trees.{Path, IsIn, among, is_path_text, below}
use Rattle.smk_record.specs.declared.record.Record.{Record}
use Rattle.smk_record.specs.Records.{members_of, same_member}
use Rattle.smk_store.specs.Images.{seen, is_outside, kept_by, is_folder, is_whole, record_at, names_under, members_under, entry_under, tree_now, content_of, is_directory, bytes_of}
use Rattle.smk_store.specs.declared.store.Kept.TheVariants.{Absent}
use Rattle.smk_laws_plan.proofs.CurrentLists.{filter_in}
use Rattle.smk_laws_history.proofs.CurrentComplete.{seen_is_complete}
use Rattle.smk_laws_protocol.proofs.Chains.{map_same}
use Rattle.smk_laws_protocol.proofs.Sorted.{rising_same, filter_rises, among_filter}

-- a file's tree has no entries
file_tree :
    (n : Option Node) → is_some (content_of n) ≡ true → (es fs : List TreeEntry) →
    (if is_directory n then Some (Folder es) else option_map File (bytes_of n)) ≡ (if is_directory n then Some (Folder fs) else option_map File (bytes_of n))
file_tree None h es fs = absurd (true≢false (sym h))
file_tree (Some Directory) h es fs = absurd (true≢false (sym h))
file_tree (Some (Regular bytes time read_only)) h es fs = refl

module _ (read : List ℕ → Option Record) (v w : World) where
  -- the same reads in both
  abbrev pub IsSameAt : Path → Type 0
  IsSameAt q = reading (w.nodes q) ≡ reading (v.nodes q)

  module _ (own : (q : Path) → is_at_or_under q own_folder ≡ true → IsSameAt q) where
    pub kept_same : (seen read v).kept ≡ (seen read w).kept
    kept_same j p = if is_path_text p then kept_by read p (sym (own (record_place p) refl) j) else Absent

    pub marked_same : (seen read v).marked ≡ (seen read w).marked
    marked_same j p = is_path_text p && is_some (sym (own (mark_place p) refl) j)

    pub noted_same : (seen read v).noted ≡ (seen read w).noted
    noted_same j p = is_path_text p && is_some (sym (own (note_place p) refl) j)

  pub node_same : (q : Path) → IsSameAt q → (seen read w).node q ≡ (seen read v).node q
  node_same q h = ap (λ n. if is_outside q then n else None) h

  module _ (formed : IsFormed v) (formed' : IsFormed w) where
    -- the names under a folder, where as much stands under it
    names_under_same : (d : Path) → ((q : Path) → is_under q d ≡ true → is_some ((seen read w).node q) ≡ is_some ((seen read v).node q)) → names_under (seen read w) d ≡ names_under (seen read v) d
    names_under_same d same =
        rising_same (names_under (seen read w) d) (names_under (seen read v) d) (rises w formed') (rises v formed)
        (λ q. listed w formed' q ∙ both (is_under q d) (same q) ∙ sym (listed v formed q))
      where
        rises : (u : World) → IsFormed u → IsRising (names_under (seen read u) d)
        rises u f = filter_rises (λ q. is_under q d) (seen read u).names (filter_rises (λ q. is_outside q && is_some (reading (u.nodes q))) u.names f.rising)

        listed : (u : World) → IsFormed u → (q : Path) → among (names_under (seen read u) d) q ≡ (is_some ((seen read u).node q) && is_under q d)
        listed u f q = among_filter (λ q. is_under q d) (seen read u).names q ∙ ap (λ b. b && is_under q d) ((seen_is_complete read u f).names q)

        both : (b : Bool) {x y : Bool} → (b ≡ true → x ≡ y) → (x && b) ≡ (y && b)
        both true h = λ j. h refl j && true
        both false {x} {y} h = never x ∙ sym (never y)
          where
            never : (x : Bool) → (x && false) ≡ false
            never true = refl
            never false = refl

    module _ (d : Path) (same : (q : Path) → is_at_or_under q d ≡ true → IsSameAt q) where
      node_here : (q : Path) → is_at_or_under q d ≡ true → (seen read w).node q ≡ (seen read v).node q
      node_here q h = node_same q (same q h)

      names_here : names_under (seen read w) d ≡ names_under (seen read v) d
      names_here = names_under_same d (λ q h. ap is_some (node_here q (at_when_under q d h)))

      under_here : (q : Path) → IsIn (names_under (seen read w) d) q → is_at_or_under q d ≡ true
      under_here q i = at_when_under q d ((filter_in (λ q. is_under q d) (seen read w).names q i).1)

      pub members_same : members_under (seen read w) d ≡ members_under (seen read v) d
      members_same =
          map_same (λ q. record { folder = is_folder (seen read w) q; name = below d q }) (λ q. record { folder = is_folder (seen read v) q; name = below d q }) (names_under (seen read w) d)
          (λ q i j. record { folder = is_directory (node_here q (under_here q i) j); name = below d q })
          ∙ ap (map (λ q. record { folder = is_folder (seen read v) q; name = below d q })) names_here

      entries_same : map (entry_under (seen read w) d) (names_under (seen read w) d) ≡ map (entry_under (seen read v) d) (names_under (seen read v) d)
      entries_same =
          map_same (entry_under (seen read w) d) (entry_under (seen read v) d) (names_under (seen read w) d)
          (λ q i j. record { name = below d q; bytes = bytes_of (node_here q (under_here q i) j) })
          ∙ ap (map (entry_under (seen read v) d)) names_here

      pub tree_same : tree_now (seen read w) d ≡ tree_now (seen read v) d
      tree_same j = if is_directory (node_here d (at_itself d) j) then Some (Folder (entries_same j)) else option_map File (bytes_of (node_here d (at_itself d) j))

      whole_same_by : (kind : Kind) → (seen read v).kept ≡ (seen read w).kept → is_whole (seen read w) d kind ≡ is_whole (seen read v) d kind
      whole_same_by Plain kept = ap (λ n. is_some (content_of n)) (node_here d (at_itself d))
      whole_same_by FolderKind kept =
          λ j. is_directory (node_here d (at_itself d) j) && (is_some (record_at (record (seen read w) { kept = sym kept j }) d) && pointwise same_member (members_same j) (members_of (record_at (record (seen read w) { kept = sym kept j }) d)))

      pub whole_same : (kind : Kind) → (seen read v).kept ≡ (seen read w).kept → is_whole (seen read w) d kind ≡ is_whole (seen read v) d kind
      whole_same kind kept = whole_same_by kind kept

    -- a file that stands alone
    module _ (d : Path) (same : IsSameAt d) where
      pub file_whole_same : is_whole (seen read w) d Plain ≡ is_whole (seen read v) d Plain
      file_whole_same = ap (λ n. is_some (content_of n)) (node_same d same)

      pub file_tree_same : is_whole (seen read w) d Plain ≡ true → tree_now (seen read w) d ≡ tree_now (seen read v) d
      file_tree_same whole =
          file_tree ((seen read w).node d) whole (map (entry_under (seen read w) d) (names_under (seen read w) d)) (map (entry_under (seen read v) d) (names_under (seen read v) d))
          ∙ ap (λ n. if is_directory n then Some (Folder (map (entry_under (seen read v) d) (names_under (seen read v) d))) else option_map File (bytes_of n)) (node_same d same)
