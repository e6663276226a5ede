-- A removal keeps a world sound in which directories are listed, and keeps them so.
use Rattle.std.proofs.Common.{◌≡◌, ◌⊎◌, ◌+◌, ℕ, suc, arith, Bool, true, false, not, ◌&&◌, ◌||◌, List, [], ◌∷◌, ◌++◌, drop, refl, sym, ap, subst, inl, inr, ◌∙◌, Option, Some, None, IsTrue, true≢false}
use Rattle.std.specs.Prelude.{if◌then◌else◌, bytes_eq, is_some, option_map, length}
use Rattle.smk_base.specs.Path.{own_folder, is_under, is_at_or_under, overlaps}
use Rattle.smk_base.proofs.Under.{at_when_under, at_or_under_cases, rest_under, false_unless, never_both, or_cases, or_first, overlaps_above_both, no_slash_under}
use Rattle.smk_world.specs.declared.event.Node.{Node}
use Rattle.smk_world.specs.declared.recipe.Kind.{Kind}
use Rattle.smk_world.specs.declared.recipe.Kind.TheVariants.{Plain, Folder}
use Rattle.smk_world.specs.World.{World, Nodes, IsFormed, Leaves, reading, is_named, firmly, world_of}
use Rattle.smk_world.specs.Trees.{Path, IsIn, below, kind_in, is_folder_kind}
use Rattle.smk_record.specs.declared.record.Member.{Member}
use Rattle.smk_record.specs.declared.record.Record.{Record}
use Rattle.smk_record.specs.Records.{core, members_of, same_member}
use Rattle.smk_store.specs.Images.{Content, content_of, image_of, seen, readable, is_outside, is_folder, is_directory, is_source, source_at, record_at, core_at, is_whole, tree_now, names_under, members_under}
use Rattle.smk_store.specs.Trust.{Versions}
use Rattle.smk_store.specs.Soundness.{Outside, SoundWorld}
use Rattle.smk_store.specs.Safety.{with_sources}
use lib.Pointwise.{pointwise}
use Rattle.smk_laws_history.specs.Histories.{ListsAll, IsListed, removed}
use Rattle.smk_laws_history.proofs.CurrentComplete.{seen_is_complete}
use Rattle.smk_laws_plan.proofs.CurrentLists.{and_left, and_right, clash_of, filter_in, in_filter, map_in, in_map}
use Rattle.smk_laws_plan.proofs.CurrentPaths.{among_in, in_among}
use Rattle.smk_laws_plan.proofs.CurrentTrees.{members_same as same_members}
use Rattle.smk_laws_history.proofs.HistoryPlaces.{node_same, whole_same, tree_same, file_whole_same, file_tree_same}
use Rattle.smk_laws_history.proofs.HistoryChange.{Replaces, IsPair, IsFit, now_pair, image_pair, before, leaves_before, kept_on, marked_on, sound_change}
use Rattle.smk_laws_protocol.proofs.Sorted.{filter_rises, among_filter}

none_some : {A : Type 0} (x : A) → None ≡ Some x → ⊥
none_some x h = cc

some_is : {A : Type 0} (x y : A) → Some x ≡ Some y → x ≡ y
some_is x y h = cc

rest_is : (d rest : Path) → drop (length d + 1) (d ++ 47 ∷ rest) ≡ rest
rest_is [] rest = refl
rest_is (b ∷ d) rest =
    let longer : suc (length d) + 1 ≡ suc (length d + 1) = omega arith in
    ap (λ k. drop k (b ∷ (d ++ 47 ∷ rest))) longer ∙ rest_is d rest

-- what lies under a folder is known by its place in it
below_same : (d q x : Path) → is_under q d ≡ true → is_under x d ≡ true → below d q ≡ below d x → q ≡ x
below_same d q x h k e =
    let a = rest_under q d h in
    let b = rest_under x d k in
    let rests : a.0 ≡ b.0 = sym (rest_is d a.0) ∙ (sym (ap (below d) a.1) ∙ e ∙ ap (below d) b.1) ∙ rest_is d b.0 in
    a.1 ∙ ap (λ r. d ++ 47 ∷ r) rests ∙ sym b.1

core_from : (k : Option Record) (r : Record) → option_map core k ≡ Some r → (s : Record) × (k ≡ Some s) × (core s ≡ r)
core_from None r h = absurd (none_some r h)
core_from (Some s) r h = (s, refl, some_is (core s) r h)

file_stands : (n : Option Node) → is_some (content_of n) ≡ true → is_some n ≡ true
file_stands None h = h
file_stands (Some n) h = refl

folder_stands : (n : Option Node) → is_directory n ≡ true → is_some n ≡ true
folder_stands None h = h
folder_stands (Some n) h = refl

module _ (p : Path) where
  abbrev touched : Path → Bool
  touched q = is_at_or_under q p

  abbrev node : Path → Option Node
  node q = None

  abbrev there : Path → Option Content
  there q = None

  -- what is the engine's isn't touched
  own_untouched : is_at_or_under p own_folder ≡ false → (q : Path) → is_at_or_under q own_folder ≡ true → touched q ≡ false
  own_untouched outside q h = false_unless (touched q) (λ k. own_above (overlaps_above_both q p own_folder k h))
    where
      own_above : overlaps p own_folder ≡ true → ⊥
      own_above h = go (or_cases (bytes_eq p own_folder) _ h)
        where
          under : (is_under p own_folder ≡ true) ⊎ (is_under own_folder p ≡ true) → ⊥
          under (inl u) = never_both (is_at_or_under p own_folder) (at_when_under p own_folder u) outside
          under (inr u) = never_both (is_under own_folder p) u (no_slash_under own_folder p refl)

          go : (bytes_eq p own_folder ≡ true) ⊎ ((is_under p own_folder || is_under own_folder p) ≡ true) → ⊥
          go (inl e) = never_both (is_at_or_under p own_folder) (or_first (bytes_eq p own_folder) _ e) outside
          go (inr u) = under (or_cases (is_under p own_folder) (is_under own_folder p) u)

  pub replaces : (w : World) → IsFormed w → is_at_or_under p own_folder ≡ false → Replaces w (removed w p) touched node
  replaces w formed outside =
      record {
        formed = record {
          rising = filter_rises (λ q. not (is_at_or_under q p)) w.names formed.rising;
          complete = λ q h. gone q (is_at_or_under q p) (λ k. formed.complete q (unnamed q (sym (among_filter (λ x. not (is_at_or_under x p)) w.names q) ∙ h) k));
        };
        children = refl;
        at = λ q h. ap (λ b. if b then firmly None else w.nodes q) h;
        other = λ q h. ap (λ b. if b then firmly None else w.nodes q) h;
        own = own_untouched outside;
      }
    where
      gone : (q : Path) (b : Bool) → (b ≡ false → reading (w.nodes q) ≡ None) → reading (if b then firmly None else w.nodes q) ≡ None
      gone q true h = refl
      gone q false h = h refl

      unnamed : (q : Path) → (is_named q w.names && not (is_at_or_under q p)) ≡ false → is_at_or_under q p ≡ false → is_named q w.names ≡ false
      unnamed q h k = go (is_named q w.names) (sym (ap (λ b. is_named q w.names && not b) k) ∙ h)
        where
          go : (b : Bool) → (b && true) ≡ false → b ≡ false
          go true h = h
          go false h = refl

  module _ (read : List ℕ → Option Record) (v v' : World) (pair : IsPair v v' touched node) (kept : (seen read v).kept ≡ (seen read v').kept)
      (outside : is_at_or_under p own_folder ≡ false) where
    gone_node : (q : Path) → touched q ≡ true → (seen read v').node q ≡ None
    gone_node q h = go (is_outside q) (reading (v'.nodes q)) (pair.at q h)
      where
        go : (b : Bool) (n : Option Node) → n ≡ None → (if b then n else None) ≡ None
        go true n e = e
        go false n e = refl

    sources : (q : Path) → touched q ≡ true → source_at (seen read v') q ≡ None
    sources q h = go (is_source (seen read v') q) ((seen read v').node q) (gone_node q h)
      where
        go : (b : Bool) (n : Option Node) → n ≡ None → (if b then content_of n else None) ≡ None
        go true n e = ap content_of e
        go false n e = refl

    -- where something stands after, nothing is touched
    stays : (q : Path) → is_some ((seen read v').node q) ≡ true → touched q ≡ false
    stays q h = false_unless (touched q) (λ k. clash_of (is_some ((seen read v').node q)) h (ap is_some (gone_node q k)))

    -- the members that stand after stood before
    members_before : (d : Path) (m : Member) → IsIn (members_under (seen read v') d) m → IsIn (members_under (seen read v) d) m
    members_before d m i =
        let x = map_in (λ q. record { folder = is_folder (seen read v') q; name = below d q }) (names_under (seen read v') d) m i in
        let k = filter_in (λ q. is_under q d) (seen read v').names x.0 x.1 in
        let some : is_some ((seen read v').node x.0) ≡ true = sym ((seen_is_complete read v' pair.formed').names x.0) ∙ in_among (seen read v').names x.0 k.0 in
        let same : (seen read v').node x.0 ≡ (seen read v).node x.0 = node_same read v v' x.0 (pair.other x.0 (stays x.0 some)) in
        let named : IsIn (seen read v).names x.0 = among_in (seen read v).names x.0 ((seen_is_complete read v pair.formed).names x.0 ∙ (ap is_some (sym same) ∙ some)) in
        let back : m ≡ record { folder = is_folder (seen read v) x.0; name = below d x.0 } = x.2 ∙ ap (λ n. record { folder = is_directory n; name = below d x.0 }) same in
        subst (λ y. IsIn (members_under (seen read v) d) y) (sym back)
        (in_map (λ q. record { folder = is_folder (seen read v) q; name = below d q }) (names_under (seen read v) d) x.0 (in_filter (λ q. is_under q d) (seen read v).names x.0 named k.1))

    -- a folder that stands after stood before
    folder_before : (d : Path) → is_folder (seen read v') d ≡ true → is_folder (seen read v) d ≡ true
    folder_before d h = ap is_directory (sym (node_same read v v' d (pair.other d (stays d (folder_stands ((seen read v').node d) h))))) ∙ h

    pub listed : (seen read v).marked ≡ (seen read v').marked → ListsAll (seen read v) → ListsAll (seen read v')
    listed marked all d r at unmarked folder stands m i =
        all d r ((λ j. readable (kept j d)) ∙ at) ((λ j. marked j d) ∙ unmarked) folder (folder_before d stands) m (members_before d m i)

    -- where all that is listed stands after, nothing under the folder is touched
    module _ (d : Path) (s : Record) (at : record_at (seen read v) d ≡ Some s) (whole : is_whole (seen read v') d Folder ≡ true)
        (all : (m : Member) → IsIn (members_under (seen read v) d) m → IsIn s.members m) where
      all_there : members_under (seen read v') d ≡ s.members
      all_there =
          same_members (members_under (seen read v') d) s.members
          (subst (λ (k : Option Record). pointwise same_member (members_under (seen read v') d) (members_of k) ≡ true) ((λ j. readable (sym kept j d)) ∙ at)
          (and_right (is_some (record_at (seen read v') d)) _ (and_right (is_folder (seen read v') d) _ whole)))

      stood : (q : Path) → is_under q d ≡ true → is_some ((seen read v).node q) ≡ true → is_some ((seen read v').node q) ≡ true
      stood q h some =
          let named : IsIn (seen read v).names q = among_in (seen read v).names q ((seen_is_complete read v pair.formed).names q ∙ some) in
          let member : IsIn (members_under (seen read v) d) (record { folder = is_folder (seen read v) q; name = below d q })
          = in_map (λ q. record { folder = is_folder (seen read v) q; name = below d q }) (names_under (seen read v) d) q (in_filter (λ q. is_under q d) (seen read v).names q named h) in
          let x = map_in (λ q. record { folder = is_folder (seen read v') q; name = below d q }) (names_under (seen read v') d) _
          (subst (λ ms. IsIn ms (record { folder = is_folder (seen read v) q; name = below d q })) (sym all_there) (all _ member)) in
          let k = filter_in (λ q. is_under q d) (seen read v').names x.0 x.1 in
          subst (λ y. is_some ((seen read v').node y) ≡ true) (sym (below_same d q x.0 h k.1 (ap (λ (m : Member). m.name) x.2)))
          (sym ((seen_is_complete read v' pair.formed').names x.0) ∙ in_among (seen read v').names x.0 k.0)

      same_under : (q : Path) → is_at_or_under q d ≡ true → reading (v'.nodes q) ≡ reading (v.nodes q)
      same_under q h = go (touched q) refl (at_or_under_cases q d h)
        where
          here : touched d ≡ false
          here = stays d (folder_stands ((seen read v').node d) (and_left (is_folder (seen read v') d) _ whole))

          nothing : (b c : Bool) (n : Option Node) → b ≡ true → is_some (if b then n else None) ≡ c → c ≡ false → None ≡ n
          nothing true c None e k f = refl
          nothing true c (Some n) e k f = absurd (true≢false (k ∙ f))
          nothing false c n e k f = absurd (true≢false (sym e))

          is_out : touched q ≡ true → is_outside q ≡ true
          is_out t = ap not (false_unless (is_at_or_under q own_folder) (λ k. never_both (touched q) t (own_untouched outside q k)))

          under : touched q ≡ true → is_under q d ≡ true → is_some ((seen read v).node q) ≡ false
          under t u = false_unless (is_some ((seen read v).node q)) (λ k. never_both (touched q) t (stays q (stood q u k)))

          go : (b : Bool) → touched q ≡ b → (q ≡ d) ⊎ (is_under q d ≡ true) → reading (v'.nodes q) ≡ reading (v.nodes q)
          go false e side = pair.other q e
          go true e (inl side) = absurd (never_both (touched q) e (subst (λ x. touched x ≡ false) (sym side) here))
          go true e (inr u) = pair.at q e ∙ nothing (is_outside q) (is_some ((seen read v).node q)) (reading (v.nodes q)) (is_out e) refl (under e u)

    pub fit : ListsAll (seen read v) → IsFit read v v' touched there
    fit all =
        record {
          sources = sources;
          whole = λ d r at unmarked whole. by_kind d r at unmarked (kind_in r.recipe d) refl whole;
        }
      where
        by_kind : (d : Path) (r : Record) → core_at (seen read v) d ≡ Some r → (seen read v).marked d ≡ false → (kind : Kind) → kind_in r.recipe d ≡ kind → is_whole (seen read v') d kind ≡ true →
            IsTrue (is_whole (seen read v) d kind) × (tree_now (seen read v') d ≡ tree_now (seen read v) d)
        by_kind d r at unmarked Plain e whole =
            let same = pair.other d (stays d (file_stands ((seen read v').node d) whole)) in
            (sym (file_whole_same read v v' pair.formed pair.formed' d same) ∙ whole, file_tree_same read v v' pair.formed pair.formed' d same whole)
        by_kind d r at unmarked Folder e whole =
            let full = core_from (record_at (seen read v) d) r at in
            let is_kind : is_folder_kind (kind_in full.0.recipe d) ≡ true = ap (λ (x : Record). is_folder_kind (kind_in x.recipe d)) full.2 ∙ ap is_folder_kind e in
            let same = same_under d full.0 full.1 whole (all d full.0 full.1 unmarked is_kind (folder_before d (and_left (is_folder (seen read v') d) _ whole))) in
            (sym (whole_same read v v' pair.formed pair.formed' d same Folder kept) ∙ whole, tree_same read v v' pair.formed pair.formed' d same)

module _ (o : Outside) (w : World) (p : Path) (H : Versions) (sound : SoundWorld o w H) (outside : is_at_or_under p own_folder ≡ false) (all : IsListed o w) where
  abbrev after : World
  after = removed w p

  change : Replaces w after (touched p) (node p)
  change = replaces p w sound.formed outside

  pair : IsPair w after (touched p) (node p)
  pair = now_pair o w after H (touched p) (node p) (there p) sound change

  kept_pair : (v v' : World) → IsPair v v' (touched p) (node p) → (seen o.read v).kept ≡ (seen o.read v').kept
  kept_pair v v' pair = kept_on o w after H (touched p) (node p) (there p) sound change v v' pair

  marked_pair : (v v' : World) → IsPair v v' (touched p) (node p) → (seen o.read v).marked ≡ (seen o.read v').marked
  marked_pair v v' pair = marked_on o w after H (touched p) (node p) (there p) sound change v v' pair

  module _ (nodes : Nodes) (leaves : Leaves after nodes) where
    abbrev old : Nodes
    old = before o w after H (touched p) (node p) (there p) sound change nodes leaves

    images : IsPair (world_of old) (world_of nodes) (touched p) (node p)
    images = image_pair o w after H (touched p) (node p) (there p) sound change nodes leaves

    lists_old : ListsAll (image_of o.read old)
    lists_old = all.after_crash old (leaves_before w after (touched p) (node p) sound.formed change nodes leaves)

  pub remove_keeps : SoundWorld o after (with_sources H (seen o.read after))
  remove_keeps =
      sound_change o w after H (touched p) (node p) (there p) sound change
      (fit p o.read w after pair (kept_pair w after pair) outside all.now)
      (λ d r q s f at i when h e. none_some f e)
      (λ nodes leaves.
      fit p o.read (world_of (old nodes leaves)) (world_of nodes) (images nodes leaves) (kept_pair (world_of (old nodes leaves)) (world_of nodes) (images nodes leaves)) outside (lists_old nodes leaves))

  pub remove_lists : IsListed o after
  remove_lists =
      record {
        now = listed p o.read w after pair (kept_pair w after pair) outside (marked_pair w after pair) all.now;
        after_crash = λ nodes leaves.
            listed p o.read (world_of (old nodes leaves)) (world_of nodes) (images nodes leaves) (kept_pair (world_of (old nodes leaves)) (world_of nodes) (images nodes leaves)) outside
            (marked_pair (world_of (old nodes leaves)) (world_of nodes) (images nodes leaves)) (lists_old nodes leaves);
      }
