-- What holds while a path is being forgotten, of the images and of the world.
use Rattle.std.proofs.Common.{◌≡◌, ◌⊎◌, Bool, true, false, List, [], ◌∷◌, refl, sym, ap, subst, inl, inr, ◌∙◌, Option, Some, None}
use Rattle.std.specs.Prelude.{bytes_eq, is_some, ◌||◌, ◌&&◌, not, if◌then◌else◌, Ok, Result}
use Rattle.std.specs.Option.{option_map}
use Rattle.smk_base.specs.Path.{is_at_or_under, overlaps}
use Rattle.smk_base.specs.Place.{record_place, mark_place, note_place}
use Rattle.smk_base.proofs.Places.{same_place}
use Rattle.smk_base.proofs.Under.{at_when_under, at_itself, overlaps_at, overlaps_above_both}
use Rattle.smk_world.specs.declared.event.Call.TheVariants.{Removed, Settled}
use Rattle.smk_world.specs.declared.event.Change.{Change as LeftNode}
use Rattle.smk_world.specs.declared.event.Failed.{Failed}
use Rattle.smk_world.specs.declared.event.Node.{Node}
use Rattle.smk_world.specs.declared.event.NodeState.TheVariants.{Owned}
use Rattle.smk_world.specs.World.{World, IsFormed, IsRising, MayLeave, after, firmly, folders_above, reading, standing}
use Rattle.smk_world.specs.Trees.{Path, IsIn, is_path_text}
use Rattle.smk_record.specs.declared.record.Stamp.{Stamp}
use Rattle.smk_record.specs.declared.record.Record.{Record}
use Rattle.smk_record.specs.Records.{core, source_time, stamped}
use Rattle.smk_store.specs.Images.{Content, is_outside}
use Rattle.smk_store.specs.Safety.{or_put}
use Rattle.smk_store.specs.Soundness.{Outside}
use Rattle.smk_store.specs.Trust.{Versions, none_eased}
use Rattle.smk_laws_protocol.specs.Protocol.{IsAbsent, AreAmong}
use Rattle.smk_laws_protocol.specs.Forgetting.{IsFirm, IsFirmAround}
use Rattle.smk_laws_protocol.proofs.View.{View, file_of, Sound, is_known, is_covered, is_source, source_at}
use Rattle.smk_laws_protocol.proofs.Views.{Nodes, EachImage, HasNames, Leaves, reads, view_of, read_at}
use Rattle.smk_laws_protocol.proofs.Rows.{now}
use Rattle.smk_laws_protocol.proofs.Between.{SoundWorld, HasSources, HasNoNew, HasKnown, HasNoNested}
use Rattle.smk_laws_protocol.proofs.Alike.{Alike, alike_each}
use Rattle.smk_laws_protocol.proofs.Along.{IsQuiet}
use Rattle.smk_laws_protocol.proofs.Basics.{by_test, clash, none_some}
use Rattle.smk_laws_protocol.proofs.Calls.{event}
use Rattle.smk_laws_protocol.proofs.Events.{same_source}
use Rattle.smk_laws_protocol.proofs.Formed.{formed_after}
use Rattle.smk_laws_protocol.proofs.Keeping.{texts_of}
use Rattle.smk_laws_protocol.proofs.Lessened.{put, Less, SameRecord, Unseen, any_same, record_before, unmarked_before, same_record, same_mark, known_same, same_sources, sources_less, source_kept, less_sound, less_nested}
use Rattle.smk_laws_protocol.proofs.Naming.{IsImage, each_image, of_wide, now_image}
use Rattle.smk_laws_protocol.proofs.Removing.{filled, filled_image}
use Rattle.smk_laws_protocol.proofs.Settled.{within, only_reads}
use Rattle.smk_laws_protocol.proofs.TextFacts.{text_laws}
use Rattle.smk_laws_protocol.proofs.TextFolders.{folders_are, among_by}
use Rattle.smk_laws_protocol.proofs.ViewLaws.{naming_laws}

-- An image beside the world as it reads, while the record, mark and note of p may go: outside of p they agree as in a sound world.
pub record Near (p : Path) (n v : View) : Type 0 where
  pub sources : (q : Path) → is_at_or_under q p ≡ false → source_at v q ≡ source_at n q
  pub new :
      (q : Path) (r : Record) → bytes_eq q p ≡ false → v.record_at q ≡ Some r → v.marked q ≡ false → (n.record_at q ≡ Some r) × (n.listed q ≡ v.listed q)
  pub known : (q : Path) → bytes_eq q p ≡ false → v.has_record q ≡ true → (n.has_record q || n.marked q) ≡ true
  pub around : (q : Path) → bytes_eq q p ≡ false → overlaps q p ≡ true → is_known v q ≡ is_known n q
  pub files : (q : Path) → is_at_or_under q p ≡ true → v.file q ≡ n.file q
  pub unseen : Unseen p v

near_less : (p : Path) (n n' v v' : View) → Less p n n' → Less p v v' → Near p n v → Near p n' v'
near_less p n n' v v' ln lv near =
    record {
      sources = λ q other. same_sources p v v' lv q other ∙ near.sources q other ∙ sym (same_sources p n n' ln q other);
      new = λ q r other at unmarked.
          let rv = same_record p v v' lv q other in
          let rn = same_record p n n' ln q other in
          let h = near.new q r other (sym rv.at ∙ at) (sym (same_mark p v v' lv q other) ∙ unmarked) in
          (rn.at ∙ h.0, rn.list ∙ h.1 ∙ sym rv.list);
      known = λ q other h.
          (λ k. (same_record p n n' ln q other).has k || same_mark p n n' ln q other k) ∙ near.known q other (sym (same_record p v v' lv q other).has ∙ h);
      around = λ q other over. known_same p v v' lv q other ∙ near.around q other over ∙ sym (known_same p n n' ln q other);
      files = λ q under. lv.file q ∙ near.files q under ∙ sym (ln.file q);
      unseen = λ q x r f at unmarked under file named.
          near.unseen q x r f (record_before p v v' lv q r at) (unmarked_before p v v' lv q r at unmarked) under (sym (lv.file x) ∙ file) named;
    }

-- nothing is left of the record and the note
pub record Gone (p : Path) (v : View) : Type 0 where
  pub has : v.has_record p ≡ false
  pub at : v.record_at p ≡ None
  pub note : v.noted p ≡ false

gone_less : (p : Path) (v v' : View) → Less p v v' → Gone p v → Gone p v'
gone_less p v v' less gone = record { has = has (less.records p); at = at (less.records p); note = note (less.notes p) }
  where
    has : SameRecord v v' p ⊎ ((p ≡ p) × (v'.has_record p ≡ false) × (v'.record_at p ≡ None)) → v'.has_record p ≡ false
    has (inl same) = same.has ∙ gone.has
    has (inr h) = h.1

    at : SameRecord v v' p ⊎ ((p ≡ p) × (v'.has_record p ≡ false) × (v'.record_at p ≡ None)) → v'.record_at p ≡ None
    at (inl same) = same.at ∙ gone.at
    at (inr h) = h.2

    note : (v'.noted p ≡ v.noted p) ⊎ ((p ≡ p) × (v'.noted p ≡ false)) → v'.noted p ≡ false
    note (inl same) = same ∙ gone.note
    note (inr h) = h.1

none_if : (b : Bool) (n : Option Node) → n ≡ None → (if b then n else None) ≡ None
none_if true n h = h
none_if false n h = refl

module _ (o : Outside) (entry : World) (H : Versions) where
  -- each source is the entry's, or lies where W says
  abbrev pub SourcesFrom : (Path → Type 0) → View → Type 0
  SourcesFrom W v = (q : Path) → (source_at v q ≡ source_at (now o entry) q) ⊎ (W q × (is_source v q ≡ true))

  pub record Safe (W : Path → Type 0) (v : View) : Type 0 where
    pub sound : Sound o.act (put H v) v none_eased
    pub sources : SourcesFrom W v
    pub nested : HasNoNested o v

  -- between two paths
  pub record Rest (W : Path → Type 0) (w : World) : Type 0 where
    pub world : SoundWorld o w (put H (now o w))
    pub sources : SourcesFrom W (now o w)

  -- what holds throughout
  pub record Open (W : Path → Type 0) (w : World) : Type 0 where
    pub formed : IsFormed w
    pub alone : w.children ≡ []
    pub free : (q : Path) → w.nodes q ≡ Owned → ⊥
    pub safe : EachImage o.read w (Safe W)

  -- while a path's record and note go
  pub record Held (W : Path → Type 0) (p : Path) (w : World) : Type 0 where
    pub throughout : Open W w
    pub near : EachImage o.read w (Near p (now o w))

  -- while its mark goes
  pub record Bare (W : Path → Type 0) (p : Path) (w : World) : Type 0 where
    pub held : Held W p w
    pub gone : EachImage o.read w (Gone p)

  module _ (W V : Path → Type 0) (more : (q : Path) → W q → V q) where
    sources_more : (v : View) → SourcesFrom W v → SourcesFrom V v
    sources_more v from q = go (from q)
      where
        go : (source_at v q ≡ source_at (now o entry) q) ⊎ (W q × (is_source v q ≡ true)) → (source_at v q ≡ source_at (now o entry) q) ⊎ (V q × (is_source v q ≡ true))
        go (inl e) = inl e
        go (inr (h, is)) = inr (more q h, is)

    safe_more : (v : View) → Safe W v → Safe V v
    safe_more v safe = record { sound = safe.sound; sources = sources_more v safe.sources; nested = safe.nested }

    safe_less : (p : Path) (v v' : View) → Less p v v' → Unseen p v → ((q : Path) → is_at_or_under q p ≡ true → V q) → Safe W v → Safe V v'
    safe_less p v v' less unseen here safe =
        record {
          sound = less_sound p v v' less o safe.nested o.act H unseen safe.sound;
          sources = λ q. go q (sources_less p v v' less q);
          nested = less_nested p v v' less o safe.nested;
        }
      where
        old : (q : Path) → source_at v' q ≡ source_at v q → (source_at v q ≡ source_at (now o entry) q) ⊎ (W q × (is_source v q ≡ true)) → (source_at v' q ≡ source_at (now o entry) q) ⊎ (V q × (is_source v' q ≡ true))
        old q same (inl e) = inl (same ∙ e)
        old q same (inr (h, is)) = inr (more q h, source_kept p v v' less q is)

        go : (q : Path) → (source_at v' q ≡ source_at v q) ⊎ ((is_at_or_under q p ≡ true) × (is_source v q ≡ false) × (is_source v' q ≡ true)) → (source_at v' q ≡ source_at (now o entry) q) ⊎ (V q × (is_source v' q ≡ true))
        go q (inl same) = old q same (safe.sources q)
        go q (inr (under, was, is)) = inr (here q under, is)

    -- ---- where the world looks the same

    pub rest_alike : (w w' : World) → Alike o w w' → Rest W w → Rest V w'
    rest_alike w w' alike rest =
        record {
          world = subst (λ n. SoundWorld o w' (put H n)) (sym alike.now_same)
              (record {
                formed = alike.formed;
                now_sound = subst (λ n. Sound o.act (put H (now o w)) n none_eased) (sym alike.now_same) rest.world.now_sound;
                after_crash = each (λ v. Sound o.act (put H (now o w)) v none_eased) rest.world.after_crash;
                same_sources = subst (λ n. EachImage o.read w' (HasSources o n)) (sym alike.now_same) (each (HasSources o (now o w)) rest.world.same_sources);
                no_new_record = subst (λ n. EachImage o.read w' (HasNoNew o n)) (sym alike.now_same) (each (HasNoNew o (now o w)) rest.world.no_new_record);
                no_nested = each (HasNoNested o) rest.world.no_nested;
                known = subst (λ n. EachImage o.read w' (HasKnown o n)) (sym alike.now_same) (each (HasKnown o (now o w)) rest.world.known);
                no_child = alike.quiet.children ∙ rest.world.no_child;
                no_owned = λ q h. rest.world.no_owned q (alike.quiet.owned q h);
              });
          sources = subst (SourcesFrom V) (sym alike.now_same) (sources_more (now o w) rest.sources);
        }
      where
        each : (P : View → Type 0) → EachImage o.read w P → EachImage o.read w' P
        each P h = alike_each o w w' rest.world.formed alike P h

    pub open_alike : (w w' : World) → Alike o w w' → Open W w → Open V w'
    open_alike w w' alike h =
        record {
          formed = alike.formed;
          alone = alike.quiet.children ∙ h.alone;
          free = λ q k. h.free q (alike.quiet.owned q k);
          safe = λ names f rising complete covered leaves. safe_more (view_of o.read names f) (alike_each o w w' h.formed alike (Safe W) h.safe names f rising complete covered leaves);
        }

    pub held_alike : (p : Path) (w w' : World) → Alike o w w' → Held W p w → Held V p w'
    held_alike p w w' alike h =
        record {
          throughout = open_alike w w' alike h.throughout;
          near = subst (λ n. EachImage o.read w' (Near p n)) (sym alike.now_same) (alike_each o w w' h.throughout.formed alike (Near p (now o w)) h.near);
        }

    pub bare_alike : (p : Path) (w w' : World) → Alike o w w' → Bare W p w → Bare V p w'
    bare_alike p w w' alike h = record { held = held_alike p w w' alike h.held; gone = alike_each o w w' h.held.throughout.formed alike (Gone p) h.gone }

    -- ---- where something is removed

    module _
        (p m : Path) (w : World) (r : Result (Unit {0}) Failed) (left : List LeftNode) (here : (q : Path) → is_at_or_under q p ≡ true → V q) (held : Held W p w)
        (left_is : (q : Path) → is_at_or_under q m ≡ true → (standing left q ≡ None) ⊎ (standing left q ≡ reading (w.nodes q)))
        (less : (names : List Path) (g : Nodes) → IsImage w names (filled o w m g) → Less p (view_of o.read names (filled o w m g)) (view_of o.read names g)) where
      abbrev removed : World
      removed = after w (event (Removed m r) left)

      pub open_removed : IsQuiet w removed → Open V removed
      open_removed quiet =
          record {
            formed = formed_after w (event (Removed m r) left) held.throughout.formed;
            alone = quiet.children ∙ held.throughout.alone;
            free = λ q k. held.throughout.free q (quiet.owned q k);
            safe = of_wide o.read (naming_laws o.read) w held.throughout.formed removed (Safe V) (λ names g i.
                let image = filled_image o w m r left left_is names g i in
                safe_less p (view_of o.read names (filled o w m g)) (view_of o.read names g) (less names g image)
                (each_image o.read w (Near p (now o w)) held.near names (filled o w m g) image).unseen here
                (each_image o.read w (Safe W) held.throughout.safe names (filled o w m g) image));
          }

      pub near_removed : Less p (now o w) (now o removed) → EachImage o.read removed (Near p (now o removed))
      near_removed now_less =
          of_wide o.read (naming_laws o.read) w held.throughout.formed removed (Near p (now o removed)) (λ names g i.
          let image = filled_image o w m r left left_is names g i in
          near_less p (now o w) (now o removed) (view_of o.read names (filled o w m g)) (view_of o.read names g) now_less (less names g image)
          (each_image o.read w (Near p (now o w)) held.near names (filled o w m g) image))

      pub gone_removed : EachImage o.read w (Gone p) → EachImage o.read removed (Gone p)
      gone_removed gone =
          of_wide o.read (naming_laws o.read) w held.throughout.formed removed (Gone p) (λ names g i.
          let image = filled_image o w m r left left_is names g i in
          gone_less p (view_of o.read names (filled o w m g)) (view_of o.read names g) (less names g image)
          (each_image o.read w (Gone p) gone names (filled o w m g) image))

  -- at rest all images are safe
  pub open_rest : (W : Path → Type 0) (w : World) → Rest W w → Open W w
  open_rest W w rest =
      record {
        formed = rest.world.formed;
        alone = rest.world.no_child;
        free = rest.world.no_owned;
        safe = λ names f rising complete covered leaves.
            let same = rest.world.same_sources names f rising complete covered leaves in
            let v = view_of o.read names f in
            record {
              sound = subst (λ V. Sound o.act V v none_eased) (λ k p t. or_put (H p t) t (sym (same p) k)) (rest.world.after_crash names f rising complete covered leaves);
              sources = λ q. from v same q (rest.sources q);
              nested = rest.world.no_nested names f rising complete covered leaves;
            };
      }
    where
      from : (v : View) → HasSources o (now o w) v → (q : Path) → (source_at (now o w) q ≡ source_at (now o entry) q) ⊎ (W q × (is_source (now o w) q ≡ true)) → (source_at v q ≡ source_at (now o entry) q) ⊎ (W q × (is_source v q ≡ true))
      from v same q (inl e) = inl (same q ∙ e)
      from v same q (inr (h, is)) = inr (h, same_source v (now o w) same q ∙ is)

  -- ---- a path's turn comes

  pub held_first :
      (W : Path → Type 0) (p : Path) (w : World) →
      ((q x : Path) (r : Record) (f : Content) → (now o w).record_at q ≡ Some r → is_at_or_under x p ≡ true → (now o w).file x ≡ Some f → (s : Stamp) → IsIn (stamped r) (x, s) → source_time s ≡ Some f.time → ⊥) →
      IsFirmAround w p → Rest W w → Held W p w
  held_first W p w unseen firm rest =
      record {
        throughout = open_rest W w rest;
        near = λ names f rising complete covered leaves.
            let none_new = rest.world.no_new_record names f rising complete covered leaves in
            let v = view_of o.read names f in
            let files : (q : Path) → is_at_or_under q p ≡ true → v.file q ≡ (now o w).file q = λ q under. ap (λ n. file_of (if is_outside q then n else None)) (same f leaves q (firm.files q under)) in
            record {
              sources = λ q other. rest.world.same_sources names f rising complete covered leaves q;
              new = λ q r other at unmarked. none_new q r at unmarked;
              known = λ q other h. rest.world.known names f rising complete covered leaves q h;
              around = λ q other over. λ k.
                  is_some (if is_path_text q then same f leaves (record_place q) (firm.records q other over) k else None)
                  || is_some (if is_path_text q then same f leaves (mark_place q) (firm.marks q other over) k else None)
                  || is_some (if is_path_text q then same f leaves (note_place q) (firm.notes q other over) k else None);
              files = files;
              unseen = λ q x r c at unmarked under file named. unseen q x r c (none_new q r at unmarked).0 under (sym (files x under) ∙ file) named;
            };
      }
    where
      only : (n k : Option Node) → MayLeave (firmly k) n → n ≡ k
      only n k (inl e) = e
      only n k (inr h) = absurd h

      same : (f : Nodes) → Leaves w f → (q : Path) → IsFirm w q → f q ≡ reads w q
      same f leaves q firm = only (f q) firm.0 (subst (λ s. MayLeave s (f q)) firm.1 (leaves q)) ∙ sym (ap reading firm.1)

  -- ---- what is settled away is gone

  module _ (W : Path → Type 0) (p : Path) (w : World) (ps : List Path) (left : List LeftNode) (h : Open W w) where
    abbrev settled : World
    settled = after w (event (Settled ps (Ok tt)) left)

    -- nothing is left at a place that was absent
    absent_gone : (x : Path) (places : List Path) → AreAmong ps places → IsIn places x → IsAbsent w x → (f : Nodes) → Leaves settled f → f x ≡ None
    absent_gone x places all i absent f leaves =
        only_reads o (texts_of text_laws o.read) w ps left h.formed x (f x)
        (within o (texts_of text_laws o.read) w ps left h.formed places all x x i (at_itself x)) (h.free x) (leaves x)
        ∙ absent x (at_itself x)

    pub gone_settled : IsAbsent w (record_place p) → IsAbsent w (note_place p) → AreAmong ps (record_place p ∷ note_place p ∷ []) → EachImage o.read settled (Gone p)
    gone_settled record_absent note_absent all names f rising complete covered leaves =
        let no_record = none_if (is_path_text p) (f (record_place p)) (absent_gone (record_place p) (record_place p ∷ note_place p ∷ []) all (inl refl) record_absent f leaves) in
        let no_note = none_if (is_path_text p) (f (note_place p)) (absent_gone (note_place p) (record_place p ∷ note_place p ∷ []) all (inr (inl refl)) note_absent f leaves) in
        record { has = ap (λ (n : Option Node). is_some n) no_record; at = ap (λ n. option_map core (read_at o.read p n)) no_record; note = ap (λ (n : Option Node). is_some n) no_note }

    pub unmarked_settled : IsAbsent w (mark_place p) → AreAmong ps (mark_place p ∷ []) → EachImage o.read settled (λ v. v.marked p ≡ false)
    unmarked_settled absent all names f rising complete covered leaves =
        ap (λ (n : Option Node). is_some n) (none_if (is_path_text p) (f (mark_place p)) (absent_gone (mark_place p) (mark_place p ∷ []) all (inl refl) absent f leaves))

  -- ---- a path is forgotten

  pub rest_again : (W : Path → Type 0) (p : Path) (w : World) → Bare W p w → EachImage o.read w (λ v. v.marked p ≡ false) → Rest W w
  rest_again W p w bare unmarked =
      record {
        world = record {
          formed = formed;
          now_sound = safe_now.sound;
          after_crash = λ names f rising complete covered leaves.
              let same = sources_at names f (image names f rising complete covered leaves) in
              subst (λ V. Sound o.act V (view_of o.read names f) none_eased) (λ k q t. or_put (H q t) t (same q k)) (bare.held.throughout.safe names f rising complete covered leaves).sound;
          same_sources = λ names f rising complete covered leaves. sources_at names f (image names f rising complete covered leaves);
          no_new_record = λ names f rising complete covered leaves q r at free.
              by_test (bytes_eq q p)
              (λ e. none_some ((view_of o.read names f).record_at p) (bare.gone names f rising complete covered leaves).at (subst (λ y. (view_of o.read names f).record_at y ≡ Some r) (same_place q p e) at))
              (λ other. (bare.held.near names f rising complete covered leaves).new q r other at free);
          no_nested = λ names f rising complete covered leaves. (bare.held.throughout.safe names f rising complete covered leaves).nested;
          known = λ names f rising complete covered leaves q h.
              by_test (bytes_eq q p)
              (λ e. clash ((view_of o.read names f).has_record p) (subst (λ y. (view_of o.read names f).has_record y ≡ true) (same_place q p e) h) (bare.gone names f rising complete covered leaves).has)
              (λ other. (bare.held.near names f rising complete covered leaves).known q other h);
          no_child = bare.held.throughout.alone;
          no_owned = bare.held.throughout.free;
        };
        sources = safe_now.sources;
      }
    where
      formed : IsFormed w
      formed = bare.held.throughout.formed

      image : (names : List Path) (f : Nodes) → IsRising names → HasNames names f → HasNames names (reads w) → Leaves w f → IsImage w names f
      image names f rising complete covered leaves = record { rising = rising; complete = complete; covered = covered; leaves = leaves }

      safe_now : Safe W (now o w)
      safe_now = each_image o.read w (Safe W) bare.held.throughout.safe w.names (reads w) (now_image w formed)

      -- nothing is known of it
      unknown : (names : List Path) (f : Nodes) → IsImage w names f → is_known (view_of o.read names f) p ≡ false
      unknown names f i =
          let gone = each_image o.read w (Gone p) bare.gone names f i in
          λ k. gone.has k || each_image o.read w (λ v. v.marked p ≡ false) unmarked names f i k || gone.note k

      known_alike : (names : List Path) (f : Nodes) → IsImage w names f → (x : Path) → overlaps x p ≡ true → is_known (view_of o.read names f) x ≡ is_known (now o w) x
      known_alike names f i x over =
          by_test (bytes_eq x p)
          (λ e. subst (λ y. is_known (view_of o.read names f) y ≡ is_known (now o w) y) (sym (same_place x p e)) (unknown names f i ∙ sym (unknown w.names (reads w) (now_image w formed))))
          (λ other. (each_image o.read w (Near p (now o w)) bare.held.near names f i).around x other over)

      sources_at : (names : List Path) (f : Nodes) → IsImage w names f → (q : Path) → source_at (view_of o.read names f) q ≡ source_at (now o w) q
      sources_at names f i q = by_test (is_at_or_under q p) here (λ other. near.sources q other)
        where
          near : Near p (now o w) (view_of o.read names f)
          near = each_image o.read w (Near p (now o w)) bare.held.near names f i

          here : is_at_or_under q p ≡ true → source_at (view_of o.read names f) q ≡ source_at (now o w) q
          here under =
              let above : (x : Path) → IsIn (folders_above q) x → overlaps x p ≡ true = λ x k. overlaps_above_both q x p (at_when_under q x (sym (folders_are q x) ∙ among_by (folders_above q) x k)) under in
              let covers : is_covered (view_of o.read names f) q ≡ is_covered (now o w) q
              = λ k. known_alike names f i q (overlaps_at q p under) k || any_same (is_known (view_of o.read names f)) (is_known (now o w)) (folders_above q) (λ x h. known_alike names f i x (above x h)) k in
              λ k. if is_path_text q && is_some (near.files q under k) && not (covers k) then near.files q under k else None
