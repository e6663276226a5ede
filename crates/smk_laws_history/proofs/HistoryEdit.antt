-- An edit of a source keeps a world sound, and directories listed.
use Rattle.std.proofs.Common.{◌≡◌, ◌⊎◌, ◌<◌, ℕ, Bool, true, false, not, ◌||◌, List, ◌∷◌, refl, sym, ap, subst, inl, inr, ◌∙◌, arith, Option, Some, None, IsTrue, true≢false}
use Rattle.std.specs.Prelude.{if◌then◌else◌, bytes_eq, option_map, nat_le, length}
use Rattle.smk_base.specs.Path.{own_folder, is_under, is_at_or_under, are_path_bytes, are_parts, parts, is_path}
use Rattle.smk_base.proofs.Places.{same_place, place_itself}
use Rattle.smk_base.proofs.Under.{at_or_under_further, at_or_under_cases, at_when_under, at_itself, false_unless, never_both, or_cases, or_first}
use Rattle.smk_world.specs.declared.event.Node.{Node}
use Rattle.smk_world.specs.declared.event.Node.TheVariants.{Regular, Directory}
use Rattle.smk_world.specs.declared.event.NodeState.{NodeState}
use Rattle.smk_world.specs.World.{World, IsFormed, reading, is_named, folders_above, firmly, world_of}
use Rattle.smk_world.specs.Trees.{Path, IsIn, kind_in, is_path_text, is_text}
use Rattle.smk_world.proofs.Names.{adds_rising, not_added_any, not_above, or_false}
use Rattle.smk_record.specs.declared.record.Stamp.{Stamp}
use Rattle.smk_record.specs.declared.record.Record.{Record}
use Rattle.smk_record.specs.Records.{source_time, stamped, core}
use Rattle.smk_store.specs.declared.store.Kept.{Kept}
use Rattle.smk_store.specs.declared.store.Kept.TheVariants.{Absent, Unreadable, Held}
use Rattle.smk_store.specs.Images.{Content, content_of, seen, stands, readable, is_outside, is_directory, is_known, is_covered, is_file, is_source, source_at, file_at, record_at, core_at}
use Rattle.smk_store.specs.Trust.{Versions}
use Rattle.smk_store.specs.Soundness.{Outside, SoundWorld, EachImage}
use Rattle.smk_store.specs.Safety.{with_sources}
use Rattle.smk_laws_history.specs.Histories.{ListsAll, IsListed, edited, IsLater}
use Rattle.smk_laws_plan.proofs.CurrentLists.{and_left, and_right, not_true, or_left, or_right, any_none, clash_of}
use Rattle.smk_laws_plan.proofs.CurrentPaths.{among_in}
use Rattle.smk_laws_history.proofs.HistoryPlaces.{node_same, whole_same, tree_same, members_same}
use Rattle.smk_laws_history.proofs.HistoryChange.{Replaces, IsPair, IsFit, now_pair, image_pair, before, leaves_before, kept_on, marked_on, sound_change}
use Rattle.smk_laws_protocol.proofs.TextFolders.{folders_are}

none_some : {A : Type 0} (x : A) → None ≡ Some x → ⊥
none_some x h = cc

some_is : {A : Type 0} (x y : A) → Some x ≡ Some y → x ≡ y
some_is x y h = cc

has_stood : (k : Kept) (r : Record) → readable k ≡ Some r → stands k ≡ true
has_stood Absent r h = absurd (none_some r h)
has_stood Unreadable r h = refl
has_stood (Held s) r h = refl

from_core : (k : Option Record) (r : Record) → option_map core k ≡ Some r → (s : Record) × (k ≡ Some s)
from_core None r h = absurd (none_some r h)
from_core (Some s) r h = (s, refl)

-- a path isn't the engine's
pub path_outside : (p : Path) → is_path_text p ≡ true → is_at_or_under p own_folder ≡ false
path_outside p h =
    not_true (is_at_or_under p own_folder)
    (and_right (are_parts (parts p)) _ (and_right (are_path_bytes p) _ (and_right (nat_le (length p) 1000) _ (and_left (is_path p) (is_text p) h))))

module _ (p : Path) (file : Content) where
  abbrev put : Node
  put = Regular file.bytes file.time file.read_only

  abbrev touched : Path → Bool
  touched q = bytes_eq q p || is_under p q

  abbrev node : Path → Option Node
  node q = if bytes_eq q p then Some put else Some Directory

  abbrev there : Path → Option Content
  there q = if bytes_eq q p then Some file else None

  replaces : (w : World) → IsFormed w → is_at_or_under p own_folder ≡ false → Replaces w (edited w p put) touched node
  replaces w formed outside =
      record {
        formed = record {
          rising = adds_rising (p ∷ folders_above p) w.names formed.rising;
          complete = λ q h.
              let none = not_added_any q (p ∷ folders_above p) w.names h in
              let two = or_false (bytes_eq q p) (is_named q (folders_above p)) none.0 in
              by_tests (bytes_eq q p) (is_under p q) (w.nodes q) two.0 (not_above p q two.1) (formed.complete q none.1);
        };
        children = refl;
        at = λ q h. at_touched (bytes_eq q p) (is_under p q) (w.nodes q) h;
        other = λ q h. at_other (bytes_eq q p) (is_under p q) (w.nodes q) h;
        own = λ q h. false_unless (touched q) (λ k. never_both (is_at_or_under p own_folder) (below_own q h (or_cases (bytes_eq q p) (is_under p q) k)) outside);
      }
    where
      by_tests : (a b : Bool) (s : NodeState) → a ≡ false → b ≡ false → reading s ≡ None → reading (if a then firmly (Some put) else (if b then firmly (Some Directory) else s)) ≡ None
      by_tests true b s h k none = absurd (true≢false h)
      by_tests false true s h k none = absurd (true≢false k)
      by_tests false false s h k none = none

      at_touched : (a b : Bool) (s : NodeState) → (a || b) ≡ true → (if a then firmly (Some put) else (if b then firmly (Some Directory) else s)) ≡ firmly (if a then Some put else Some Directory)
      at_touched true b s h = refl
      at_touched false true s h = refl
      at_touched false false s h = absurd (true≢false (sym h))

      at_other : (a b : Bool) (s : NodeState) → (a || b) ≡ false → (if a then firmly (Some put) else (if b then firmly (Some Directory) else s)) ≡ s
      at_other true b s h = absurd (true≢false h)
      at_other false true s h = absurd (true≢false h)
      at_other false false s h = refl

      below_own : (q : Path) → is_at_or_under q own_folder ≡ true → (bytes_eq q p ≡ true) ⊎ (is_under p q ≡ true) → is_at_or_under p own_folder ≡ true
      below_own q h (inl e) = subst (λ x. is_at_or_under x own_folder ≡ true) (same_place q p e) h
      below_own q h (inr u) = at_or_under_further p q own_folder (at_when_under p q u) h

  module _ (read : List ℕ → Option Record) (v v' : World) (pair : IsPair v v' touched node) (kept : (seen read v).kept ≡ (seen read v').kept) (source : is_source (seen read v') p ≡ true) where
    path : is_path_text p ≡ true
    path = and_left (is_path_text p) _ source

    free : is_covered (seen read v') p ≡ false
    free = not_true (is_covered (seen read v') p) (and_right (is_file (seen read v') p) _ (and_right (is_path_text p) _ source))

    sources : (q : Path) → touched q ≡ true → source_at (seen read v') q ≡ there q
    sources q h = go (bytes_eq q p) refl
      where
        own : is_outside p ≡ true
        own = ap not (path_outside p path)

        here : source_at (seen read v') p ≡ Some file
        here =
            ap (λ b. if b then file_at (seen read v') p else None) source
            ∙ ap (λ b. content_of (if b then reading (v'.nodes p) else None)) own
            ∙ ap content_of (pair.at p (or_first (bytes_eq p p) (is_under p p) (place_itself p)) ∙ ap (λ b. if b then Some put else Some Directory) (place_itself p))

        folder : (a b : Bool) (n : Option Node) → n ≡ Some Directory → (if a then content_of (if b then n else None) else None) ≡ None
        folder true true n e = ap content_of e
        folder true false n e = refl
        folder false b n e = refl

        go : (b : Bool) → bytes_eq q p ≡ b → source_at (seen read v') q ≡ (if b then Some file else None)
        go true e = subst (λ x. source_at (seen read v') x ≡ Some file) (sym (same_place q p e)) here
        go false e = folder (is_source (seen read v') q) (is_outside q) (reading (v'.nodes q)) (pair.at q h ∙ ap (λ b. if b then Some put else Some Directory) e)

    -- nothing is touched at or under a path with a record
    untouched : (d : Path) (r : Record) → record_at (seen read v) d ≡ Some r → (q : Path) → is_at_or_under q d ≡ true → touched q ≡ false
    untouched d r at q h = false_unless (touched q) (λ k. covered (at_or_under_cases p d (over (or_cases (bytes_eq q p) (is_under p q) k))))
      where
        known : is_known (seen read v') d ≡ true
        known = or_first (stands ((seen read v').kept d)) _ ((λ j. stands (sym kept j d)) ∙ has_stood ((seen read v).kept d) r at)

        over : (bytes_eq q p ≡ true) ⊎ (is_under p q ≡ true) → is_at_or_under p d ≡ true
        over (inl e) = subst (λ x. is_at_or_under x d ≡ true) (same_place q p e) h
        over (inr u) = at_or_under_further p q d (at_when_under p q u) h

        covered : (p ≡ d) ⊎ (is_under p d ≡ true) → ⊥
        covered (inl e) = clash_of (is_known (seen read v') d) known (subst (λ x. is_known (seen read v') x ≡ false) e (or_left (is_known (seen read v') p) _ free))
        covered (inr u) =
            clash_of (is_known (seen read v') d) known
            (any_none (is_known (seen read v')) (folders_above p) d (or_right (is_known (seen read v') p) _ free) (among_in (folders_above p) d (folders_are p d ∙ u)))

    fit : IsFit read v v' touched there
    fit =
        record {
          sources = sources;
          whole = λ d r at unmarked whole.
              let same : (q : Path) → is_at_or_under q d ≡ true → reading (v'.nodes q) ≡ reading (v.nodes q)
              = λ q h. pair.other q (untouched d (from_core (record_at (seen read v) d) r at).0 (from_core (record_at (seen read v) d) r at).1 q h) in
              (sym (whole_same read v v' pair.formed pair.formed' d same (kind_in r.recipe d) kept) ∙ whole, tree_same read v v' pair.formed pair.formed' d same);
        }

    listed : (seen read v).marked ≡ (seen read v').marked → ListsAll (seen read v) → ListsAll (seen read v')
    listed marked all d r at unmarked folder stands m i =
        let before = (λ j. readable (kept j d)) ∙ at in
        let same = node_same read v v' d (pair.other d (untouched d r before d (at_itself d))) in
        all d r before ((λ j. marked j d) ∙ unmarked) folder (ap is_directory (sym same) ∙ stands) m
        (subst (λ ms. IsIn ms m) (members_same read v v' pair.formed pair.formed' d (λ q h. pair.other q (untouched d r before q h))) i)

module _ (o : Outside) (w : World) (p : Path) (bytes : List ℕ) (time : ℕ) (read_only : Bool) where
  abbrev file : Content
  file = record { bytes = bytes; time = time; read_only = read_only }

  abbrev after : World
  after = edited w p (Regular bytes time read_only)

  module _ (H : Versions) (sound : SoundWorld o w H) (source : IsTrue (is_source (seen o.read after) p)) (sources : EachImage o.read after (λ i. IsTrue (is_source i p))) where
    change : Replaces w after (touched p file) (node p file)
    change = replaces p file w sound.formed (path_outside p (and_left (is_path_text p) _ source))

    pub edit_keeps : IsLater (seen o.read w) time → SoundWorld o after (with_sources H (seen o.read after))
    edit_keeps later =
        sound_change o w after H (touched p file) (node p file) (there p file) sound change
        (fit p file o.read w after pair (kept_on o w after H (touched p file) (node p file) (there p file) sound change w after pair) source)
        is_later
        (λ nodes leaves.
        let images = image_pair o w after H (touched p file) (node p file) (there p file) sound change nodes leaves in
        fit p file o.read (world_of (before o w after H (touched p file) (node p file) (there p file) sound change nodes leaves)) (world_of nodes) images
        (kept_on o w after H (touched p file) (node p file) (there p file) sound change (world_of (before o w after H (touched p file) (node p file) (there p file) sound change nodes leaves)) (world_of nodes) images)
        (sources nodes leaves))
      where
        pair : IsPair w after (touched p file) (node p file)
        pair = now_pair o w after H (touched p file) (node p file) (there p file) sound change

        never : (t : ℕ) → t < time → time ≡ t → ⊥
        never t h e = omega arith

        time_there : (b : Bool) (f : Content) → (if b then Some file else None) ≡ Some f → time ≡ f.time
        time_there true f h = ap (λ (c : Content). c.time) (some_is file f h)
        time_there false f h = absurd (none_some f h)

        is_later :
            (d : Path) (r : Record) (q : Path) (s : Stamp) (f : Content) → core_at (seen o.read w) d ≡ Some r →
            IsIn (stamped r) (q, s) → source_time s ≡ Some f.time → touched p file q ≡ true → there p file q ≡ Some f → ⊥
        is_later d r q s f at i when h e = never f.time (later.than_records d r q s f.time at i when) (time_there (bytes_eq q p) f e)

    pub edit_lists : IsListed o w → IsListed o after
    edit_lists all =
        record {
          now =
              let pair = now_pair o w after H (touched p file) (node p file) (there p file) sound change in
              listed p file o.read w after pair (kept_on o w after H (touched p file) (node p file) (there p file) sound change w after pair) source
              (marked_on o w after H (touched p file) (node p file) (there p file) sound change w after pair) all.now;
          after_crash = λ nodes leaves.
              let b = before o w after H (touched p file) (node p file) (there p file) sound change nodes leaves in
              let pair = image_pair o w after H (touched p file) (node p file) (there p file) sound change nodes leaves in
              listed p file o.read (world_of b) (world_of nodes) pair
              (kept_on o w after H (touched p file) (node p file) (there p file) sound change (world_of b) (world_of nodes) pair)
              (sources nodes leaves)
              (marked_on o w after H (touched p file) (node p file) (there p file) sound change (world_of b) (world_of nodes) pair)
              (all.after_crash b (leaves_before w after (touched p file) (node p file) sound.formed change nodes leaves));
        }
