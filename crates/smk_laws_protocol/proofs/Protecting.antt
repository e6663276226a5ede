-- An output is protected: its file has the flag, and maybe hasn't; or, where the call failed, it may be gone.
use Rattle.smk_laws_protocol.proofs.Formed.{all_named}
use Rattle.std.proofs.Common.{◌≡◌, ◌⊎◌, Bool, true, false, List, [], ◌∷◌, map, length, drop, ◌+◌, refl, sym, ap, subst, inl, inr, arith, ◌∙◌, Option, Some, None}
use Rattle.std.specs.Prelude.{bytes_eq, IsTrue, IsSome, is_some, is_none, if◌then◌else◌, ◌&&◌, ◌||◌, not, filter, option_map, Ok, Err, Result}
use Rattle.smk_world.specs.declared.event.Call.TheVariants.{Protected}
use Rattle.smk_world.specs.declared.event.Change.{Change as LeftNode}
use Rattle.smk_world.specs.declared.event.Failed.{Failed}
use Rattle.smk_world.specs.declared.recipe.Kind.{Kind}
use Rattle.smk_world.specs.declared.recipe.Kind.TheVariants.{Plain, Folder as FolderKind}
use Rattle.smk_world.specs.declared.event.Node.{Node}
use Rattle.smk_world.specs.declared.event.NodeState.{NodeState}
use Rattle.smk_world.specs.declared.event.NodeState.TheVariants.{Owned, Known}
use Rattle.smk_record.specs.declared.record.Record.{Record}
use Rattle.smk_record.specs.declared.record.Member.{Member}
use Rattle.smk_base.specs.declared.tree.Tree.TheVariants.{Folder}
use Rattle.smk_world.specs.Trees.{Path, among, Act, is_path_text}
use Rattle.smk_store.specs.Images.{is_outside, Content, is_directory}
use Rattle.smk_base.specs.Path.{is_under, is_at_or_under}
use Rattle.smk_laws_protocol.specs.Protocol.{RunState, eased}
use Rattle.smk_store.specs.Trust.{Versions, Eased}
use Rattle.smk_laws_protocol.proofs.View.{kind_in, View, Sound, is_source, source_at, is_covered, is_whole, file_of}
use Rattle.smk_record.specs.Records.{members_of, core}
use Rattle.smk_laws_protocol.proofs.Views.{Nodes, reads, view_of, path_node, read_at, place_node}
use Rattle.smk_world.specs.World.{World, MayLeave, after, reading, standing, going, with_flag}
use Rattle.smk_base.specs.Place.{mark_place, record_place, note_place}
use Rattle.smk_store.specs.Soundness.{Outside}
use Rattle.smk_laws_protocol.proofs.Rows.{now, IsFree}
use Rattle.smk_laws_protocol.proofs.Between.{Midway, Lets, HasSources}
use Rattle.smk_laws_protocol.proofs.Aside.{aside}
use Rattle.smk_laws_protocol.proofs.Basics.{clash, none_some}
use Rattle.smk_laws_protocol.proofs.Calls.{event}
use Rattle.smk_laws_protocol.proofs.Events.{same_source}
use Rattle.smk_laws_protocol.proofs.Moves.{with_nodes, sound_on, is_covered_by}
use Rattle.smk_laws_protocol.proofs.Naming.{IsWide, each_image, of_wide, now_image}
use Rattle.smk_laws_protocol.proofs.NodeChange.{places_outside, node_change_by}
use Rattle.smk_laws_protocol.proofs.Quiet.{quiet_call}
use Rattle.smk_base.proofs.Places.{place_itself, same_place}
use Rattle.smk_laws_protocol.proofs.Spending.{spent, spent_owner, spent_meets}
use Rattle.smk_laws_protocol.proofs.Shrunk.{shrunk_safe, going_some}
use Rattle.smk_laws_protocol.proofs.Texts.{Texts}
use Rattle.smk_laws_protocol.proofs.Flags.{IsFlagged, flag_leaves, going_flag, may_go, may_be_gone, flag_directory, flag_some, flag_file, flag_bytes, flag_tree}

-- a view with other files at paths that are no sources, where files stand as before
module _ (v : View) (file : Path → Option Content) (some : (q : Path) → is_some (file q) ≡ is_some (v.file q)) (same : (q : Path) → (file q ≡ v.file q) ⊎ (is_source v q ≡ false)) where
  abbrev refiled : View
  refiled = with_nodes v file v.is_folder v.members v.tree

  refiled_is : (q : Path) → is_source refiled q ≡ is_source v q
  refiled_is q k = is_path_text q && some q k && not (is_covered v q)

  refiled_source : (q : Path) → source_at refiled q ≡ source_at v q
  refiled_source q = go (same q)
    where
      none : (b : Bool) (y : Option Content) → b ≡ false → (if b then y else None) ≡ None
      none b y h = rw h refl

      go : (file q ≡ v.file q) ⊎ (is_source v q ≡ false) → source_at refiled q ≡ source_at v q
      go (inl h) = λ k. if refiled_is q k then h k else None
      go (inr h) = none (is_source refiled q) (file q) (refiled_is q ∙ h) ∙ sym (none (is_source v q) (v.file q) h)

  refiled_whole : (q : Path) (k : Kind) → IsTrue (is_whole refiled q k) → IsTrue (is_whole v q k)
  refiled_whole q Plain h = sym (some q) ∙ h
  refiled_whole q FolderKind h = h

  refiled_sound : (act : Act) (H : Versions) (e : Eased) → Sound act H v e → Sound act H refiled e
  refiled_sound act H e sound =
      sound_on act H v refiled e e sound refiled_source
      (λ q h r s. record { no_source = sym (refiled_is q) ∙ s.no_source; holder = s.holder; clear = s.clear })
      (λ q r x s at c k. sound.has_recorded q r x s at c k)
      (λ q r at c chain whole. (at, sound.holds q r at c chain (refiled_whole q (kind_in r q) whole)))

-- at p what might have stood before may stand, with the flag or without, or nothing
pub record Flagged (w w' : World) (p : Path) : Type 0 where
  pub others : (q : Path) → bytes_eq q p ≡ false → w'.nodes q ≡ w.nodes q
  pub here : (m : Option Node) → is_none m ≡ false → MayLeave (w'.nodes p) m → (n : Option Node) × MayLeave (w.nodes p) n × IsFlagged m n

module _
    (o : Outside) (texts : Texts o.read) (entry : World) (H : Versions) (s : RunState) (w w' : World) (m : Midway o entry H s w)
    (p : Path) (x : Record) (free : IsFree o s w p x) (flagged : Flagged w w' p) (names : List Path) (g : Nodes) (i : IsWide w w' names g) where
  -- a world in which p may be gone
  abbrev less : World
  less = record w { nodes = λ q. if bytes_eq q p then going None (w.nodes q) else w.nodes q }

  -- the node as it might have stood before
  pub record Unflagged : Type 0 where
    pub node : Option Node
    pub leaves : MayLeave (going None (w.nodes p)) node
    pub flag : IsFlagged (g p) node

  unflagged : Unflagged
  unflagged = go (is_none (g p)) refl
    where
      none_is : (n : Option Node) → is_none n ≡ true → n ≡ None
      none_is None h = refl
      none_is (Some n) h = clash false h refl

      go : (b : Bool) → is_none (g p) ≡ b → Unflagged
      go true h = record { node = None; leaves = may_be_gone (w.nodes p); flag = inl (none_is (g p) h) }
      go false h = let k = flagged.here (g p) h (i.image.leaves p) in record { node = k.0; leaves = may_go (w.nodes p) k.0 k.1; flag = k.2 }

  abbrev f : Nodes
  f q = if bytes_eq q p then unflagged.node else g q

  f_flag : (q : Path) → IsFlagged (g q) (f q)
  f_flag q = go (bytes_eq q p) refl
    where
      go : (b : Bool) → bytes_eq q p ≡ b → IsFlagged (g q) (if b then unflagged.node else g q)
      go true h = subst (λ y. IsFlagged (g y) unflagged.node) (sym (same_place q p h)) unflagged.flag
      go false h = inl refl

  f_other : (q : Path) → bytes_eq q p ≡ false → f q ≡ g q
  f_other q h = ap (λ (b : Bool). if b then unflagged.node else g q) h

  f_wide : IsWide w less names f
  f_wide =
      record {
        image = record {
          rising = i.image.rising;
          complete = λ q h. i.image.complete q (flag_some (g q) (f q) (f_flag q) ∙ h);
          covered = λ q. covered q (bytes_eq q p);
          leaves = λ q. leaves q (bytes_eq q p) refl;
        };
        before = i.before;
      }
    where
      reads_gone : (t : NodeState) → IsSome (reading (going None t)) → ⊥
      reads_gone Owned h = clash false h refl
      reads_gone (Known n b) h = clash false h refl

      covered : (q : Path) (b : Bool) → IsSome (reading (if b then going None (w.nodes q) else w.nodes q)) → IsTrue (among names q)
      covered q true h = absurd (reads_gone (w.nodes q) h)
      covered q false h = i.before q h

      leaves : (q : Path) (b : Bool) → bytes_eq q p ≡ b → MayLeave (if b then going None (w.nodes q) else w.nodes q) (if b then unflagged.node else g q)
      leaves q true h = subst (λ y. MayLeave (going None (w.nodes y)) unflagged.node) (sym (same_place q p h)) unflagged.leaves
      leaves q false h = subst (λ t. MayLeave t (g q)) (flagged.others q h) (i.image.leaves q)

  under_false : (a b : Bool) → (a || b) ≡ false → a ≡ false
  under_false a b h = grind arith

  before_safe : Sound o.act H (view_of o.read names f) (eased s) × HasSources o (now o entry) (view_of o.read names f)
  before_safe =
      shrunk_safe o texts entry H (eased s) s.top s.steady w less m.images p x free.recorded free.path free.no_more
      (record {
        others = λ q h. ap (λ (b : Bool). if b then going None (w.nodes q) else w.nodes q) (under_false (bytes_eq q p) (is_under q p) h);
        fewer = λ q n under some h. fewer q n some (bytes_eq q p) h;
      })
      names f f_wide
    where
      fewer : (q : Path) (n : Option Node) → is_none n ≡ false → (b : Bool) → MayLeave (if b then going None (w.nodes q) else w.nodes q) n → MayLeave (w.nodes q) n
      fewer q n some true h = going_some (w.nodes q) None n (inl refl) some h
      fewer q n some false h = h

  path_flag : (q : Path) → IsFlagged (path_node g q) (path_node f q)
  path_flag q = go (is_outside q)
    where
      go : (b : Bool) → IsFlagged (if b then g q else None) (if b then f q else None)
      go true = f_flag q
      go false = inl refl

  eq_place : (q : Path) → is_at_or_under q p ≡ false → bytes_eq q p ≡ false
  eq_place q h = under_false (bytes_eq q p) (is_under q p) h

  -- the image is that one but for the flag
  view_is : with_nodes (view_of o.read names f) (view_of o.read names g).file (view_of o.read names f).is_folder (view_of o.read names f).members (view_of o.read names f).tree ≡ view_of o.read names g
  view_is k =
      record {
        file = (view_of o.read names g).file;
        is_folder = λ q. dir q k;
        members = λ y. map (member_at y) (filter (λ q. is_under q y && some q k) names);
        tree = λ y.
            if dir y k
            then Some (Folder (map (λ q. record { name = drop (length y + 1) q; bytes = sym (flag_bytes (path_node g q) (path_node f q) (path_flag q)) k }) (filter (λ q. is_under q y && some q k) names)))
            else sym (flag_tree (path_node g y) (path_node f y) (path_flag y)) k;
        has_record = λ q. is_some (if is_path_text q then f_other (record_place q) (eq_place (record_place q) (texts.outside.record_out p q free.path)) k else None);
        record_at = λ q. option_map core (read_at o.read q (if is_path_text q then f_other (record_place q) (eq_place (record_place q) (texts.outside.record_out p q free.path)) k else None));
        listed = λ q. members_of (read_at o.read q (if is_path_text q then f_other (record_place q) (eq_place (record_place q) (texts.outside.record_out p q free.path)) k else None));
        marked = λ q. is_some (if is_path_text q then f_other (mark_place q) (eq_place (mark_place q) (texts.outside.mark_out p q free.path)) k else None);
        noted = λ q. is_some (if is_path_text q then f_other (note_place q) (eq_place (note_place q) (texts.outside.note_out p q free.path)) k else None);
      }
    where
      dir : (q : Path) → is_directory (path_node f q) ≡ is_directory (path_node g q)
      dir q = sym (flag_directory (path_node g q) (path_node f q) (path_flag q))

      some : (q : Path) → is_some (path_node f q) ≡ is_some (path_node g q)
      some q = sym (flag_some (path_node g q) (path_node f q) (path_flag q))

      member_at : Path → Path → Member
      member_at y q = record { folder = dir q k; name = drop (length y + 1) q }

  -- p is no source
  no_source : is_source (view_of o.read names f) p ≡ false
  no_source =
      same_source (view_of o.read names f) (now o w)
      (λ y. before_safe.1 y ∙ sym (each_image o.read w (HasSources o (now o entry)) m.images.sources w.names (reads w) (now_image w m.images.formed) y)) p
      ∙ not_covered (is_path_text p) (is_some ((now o w).file p)) (is_covered (now o w) p)
      (is_covered_by (now o w) p p (known (place_node (reads w) record_place p) free.recorded) (texts.overlap.covers p p ∙ rw (place_itself p) refl))
    where
      not_covered : (a b c : Bool) → c ≡ true → (a && b && not c) ≡ false
      not_covered a b c h = grind arith

      known : (n : Option Node) → option_map core (read_at o.read p n) ≡ Some x → (is_some n || (now o w).marked p || (now o w).noted p) ≡ true
      known None h = none_some None refl h
      known (Some n) h = refl

  files : (q : Path) → is_some ((view_of o.read names g).file q) ≡ is_some ((view_of o.read names f).file q)
  files q = flag_file (path_node g q) (path_node f q) (path_flag q)

  same_or : (q : Path) → ((view_of o.read names g).file q ≡ (view_of o.read names f).file q) ⊎ (is_source (view_of o.read names f) q ≡ false)
  same_or q = go (bytes_eq q p) refl
    where
      go : (b : Bool) → bytes_eq q p ≡ b → ((view_of o.read names g).file q ≡ (view_of o.read names f).file q) ⊎ (is_source (view_of o.read names f) q ≡ false)
      go true h = inr (subst (λ y. is_source (view_of o.read names f) y ≡ false) (sym (same_place q p h)) no_source)
      go false h = inl (ap (λ n. file_of (if is_outside q then n else None)) (sym (f_other q h)))

  pub flagged_safe : Sound o.act H (view_of o.read names g) (eased s) × HasSources o (now o entry) (view_of o.read names g)
  flagged_safe = (
    subst (λ v. Sound o.act H v (eased s)) view_is (refiled_sound (view_of o.read names f) (view_of o.read names g).file files same_or o.act H (eased s) before_safe.0),
    subst (HasSources o (now o entry)) view_is (λ q. refiled_source (view_of o.read names f) (view_of o.read names g).file files same_or q ∙ before_safe.1 q),
  )

pub protect_keeps :
    (o : Outside) (texts : Texts o.read) (entry : World) (H : Versions) (s : RunState) (w : World) → Midway o entry H s w →
    (p : Path) (r : Result (Unit {0}) Failed) (left : List LeftNode) (x : Record) → Lets o w (event (Protected p r) left) (Protected p r) → IsFree o s w p x →
    Midway o entry H s (after w (event (Protected p r) left))
protect_keeps o texts entry H s w m p r left x lets free =
    aside o texts entry H s w m (spent o texts entry H s w m p x free) (spent_owner o texts entry H s w m p x free) (spent_meets o texts entry H s w m p x free) (after w (event (Protected p r) left))
    (node_change_by o texts entry H (spent o texts entry H s w m p x free) (eased s) (eased s) s.top s.steady w (after w (event (Protected p r) left)) m.images (λ p r h. h) (texts.formed w (event (Protected p r) left) m.images.formed)
    (λ q h. texts.grown w (event (Protected p r) left) q ((all_named _ m.images.formed) q h)) (p ∷ []) (λ q i. i)
    (record { others = λ q h. (flags r lets).others q (under_false (bytes_eq q p) (is_under q p) (no_or (is_at_or_under q p) h)) }) (places_outside o texts (p ∷ []) (λ q i. is_a_path q i))
    (of_wide o.read texts.naming w m.images.formed (after w (event (Protected p r) left)) (λ v. Sound o.act H v (eased s) × HasSources o (now o entry) v)
    (λ names g i. flagged_safe o texts entry H s w (after w (event (Protected p r) left)) m p x free (flags r lets) names g i)))
    (quiet_call w (Protected p r) left tt)
  where
    under_false : (a b : Bool) → (a || b) ≡ false → a ≡ false
    under_false a b h = grind arith

    no_or : (a : Bool) → (a || false) ≡ false → a ≡ false
    no_or a h = grind arith

    is_a_path : (q : Path) → (q ≡ p) ⊎ ⊥ → is_outside q ≡ true
    is_a_path q (inl h) = subst (λ y. is_outside y ≡ true) (sym h) free.path
    is_a_path q (inr h) = absurd h

    flags : (r : Result (Unit {0}) Failed) → Lets o w (event (Protected p r) left) (Protected p r) → Flagged w (after w (event (Protected p r) left)) p
    flags (Ok u) lets =
        record {
          others = λ q h. rw h refl;
          here = λ k some h. flag_leaves (w.nodes p) k (subst (λ t. MayLeave t k) (ap (λ (b : Bool). if b then with_flag (w.nodes p) else w.nodes p) (place_itself p)) h);
        }
    flags (Err e) lets =
        record {
          others = λ q h. rw h refl;
          here = λ k some h. going_flag (w.nodes p) (standing left p) k lets some (subst (λ t. MayLeave t k) (ap (λ (b : Bool). if b then going (standing left p) (with_flag (w.nodes p)) else w.nodes p) (place_itself p)) h);
        }
