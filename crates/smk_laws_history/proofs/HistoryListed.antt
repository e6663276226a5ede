-- Listed directories over views; and of an image after a call, from one before it.
use Rattle.std.proofs.Common.{◌≡◌, ◌⊎◌, ℕ, Bool, true, false, ◌&&◌, List, drop, length, ◌+◌, refl, sym, ap, subst, inl, inr, ◌∙◌, Option, Some, None, IsSome, true≢false}
use Rattle.std.specs.Prelude.{bytes_eq, is_some, option_map, if◌then◌else◌}
use Rattle.smk_base.specs.Path.{is_under, is_at_or_under}
use Rattle.smk_base.specs.Place.{record_place, mark_place}
use Rattle.smk_base.proofs.Places.{same_place, place_itself}
use Rattle.smk_base.proofs.Under.{never_both, at_itself, at_when_under}
use Rattle.smk_world.specs.declared.event.Node.{Node}
use Rattle.smk_world.specs.World.{World, MayLeave}
use Rattle.smk_world.specs.Trees.{Path, IsIn, is_path_text, is_folder_kind}
use Rattle.smk_record.specs.declared.record.Member.{Member}
use Rattle.smk_record.specs.declared.record.Record.{Record}
use Rattle.smk_record.specs.Records.{core, members_of}
use Rattle.smk_store.specs.Images.{Image, is_outside, is_directory, record_at}
use Rattle.smk_laws_history.specs.Histories.{ListsAll}
use Rattle.smk_laws_plan.proofs.CurrentLists.{and_left, and_right}
use Rattle.smk_laws_protocol.proofs.Basics.{in_filter}
use Rattle.smk_laws_protocol.proofs.Calls.{in_map}
use Rattle.smk_laws_protocol.proofs.Crux.{Outside_paths}
use Rattle.smk_laws_protocol.proofs.Marking.{reads_stay}
use Rattle.smk_laws_protocol.proofs.Members.{member, member_in}
use Rattle.smk_laws_protocol.proofs.Naming.{IsImage, IsWide}
use Rattle.smk_laws_protocol.proofs.View.{View, view, kind_in}
use Rattle.smk_laws_protocol.proofs.Views.{Nodes, reads, read_at, view_of, path_node}

-- the same as of images
abbrev pub HasListed : View → Type 0
HasListed v =
    (p : Path) (r : Record) →
    v.record_at p ≡ Some r →
    v.marked p ≡ false → is_folder_kind (kind_in r p) ≡ true → v.is_folder p ≡ true → (m : Member) → IsIn (v.members p) m → IsIn (v.listed p) m

none_some : {A : Type 0} (x : A) → None ≡ Some x → ⊥
none_some x h = cc

some_is : {A : Type 0} (x y : A) → Some x ≡ Some y → x ≡ y
some_is x y h = cc

core_from : (k : Option Record) (r : Record) → option_map core k ≡ Some r → (s : Record) × (k ≡ Some s) × (core s ≡ r)
core_from None r h = absurd (none_some r h)
core_from (Some s) r h = (s, refl, some_is (core s) r h)

pub to_view : (i : Image) → ListsAll i → HasListed (view i)
to_view i all p r at unmarked folder stands m k =
    let s = core_from (record_at i p) r at in
    subst (λ ms. IsIn ms m) (sym (ap members_of s.1)) (all p s.0 s.1 unmarked (ap (λ (x : Record). is_folder_kind (kind_in x p)) s.2 ∙ folder) stands m k)

pub from_view : (i : Image) → HasListed (view i) → ListsAll i
from_view i all p s at unmarked folder stands m k = subst (λ ms. IsIn ms m) (ap members_of at) (all p (core s) (ap (option_map core) at) unmarked folder stands m k)

-- ## An image before

-- What stands at a place before: something that a crash may leave there, at the record of p as after, at the mark of p as given, and at p
-- and under it something of the same kind wherever something is after.
pub record Pick (w : World) (g : Nodes) (p : Path) (mark : Option Node) (q : Path) : Type 0 where
  pub node : Option Node
  pub may : MayLeave (w.nodes q) node
  pub as_record : bytes_eq q (record_place p) ≡ true → node ≡ g q
  pub as_mark : bytes_eq q (mark_place p) ≡ true → node ≡ mark
  pub under : is_at_or_under q p ≡ true → (x : Node) → g q ≡ Some x → IsSome node × (is_directory node ≡ is_directory (Some x))
  pub named : IsSome node → IsSome (g q) ⊎ IsSome (reads w q)

-- something of the same kind may have stood there
pub record MayStand (w : World) (q : Path) (x : Node) : Type 0 where
  pub node : Node
  pub may : MayLeave (w.nodes q) (Some node)
  pub same : is_directory (Some node) ≡ is_directory (Some x)

module _ (read : List ℕ → Option Record) (out : Outside_paths) (w w' : World) (names : List Path) (g : Nodes) (wide : IsWide w w' names g) (p : Path) (outside : is_outside p ≡ true)
    (at_record : MayLeave (w.nodes (record_place p)) (g (record_place p)))
    (mark : Option Node) (at_mark : MayLeave (w.nodes (mark_place p)) mark) (mark_named : IsSome mark → IsSome (g (mark_place p)) ⊎ IsSome (reads w (mark_place p)))
    (stood : (q : Path) → is_at_or_under q p ≡ true → (x : Node) → g q ≡ Some x → MayStand w q x) where
  mark_not_under : (q : Path) → bytes_eq q (mark_place p) ≡ true → is_at_or_under q p ≡ true → ⊥
  mark_not_under q k u = never_both (is_at_or_under (mark_place p) p) (subst (λ z. is_at_or_under z p ≡ true) (same_place q (mark_place p) k) u) (out.mark_out p p outside)

  pick : (q : Path) → Pick w g p mark q
  pick q = by_record (bytes_eq q (record_place p)) refl
    where
      other : bytes_eq q (record_place p) ≡ false → bytes_eq q (mark_place p) ≡ false → (is_at_or_under q p ≡ true → (x : Node) → g q ≡ Some x → ⊥) → Pick w g p mark q
      other e k none =
          record {
            node = reads w q;
            may = reads_stay (w.nodes q);
            as_record = λ h. absurd (never_both (bytes_eq q (record_place p)) h e);
            as_mark = λ h. absurd (never_both (bytes_eq q (mark_place p)) h k);
            under = λ u x h. absurd (none u x h);
            named = λ h. inr h;
          }

      by_node : bytes_eq q (record_place p) ≡ false → bytes_eq q (mark_place p) ≡ false → is_at_or_under q p ≡ true → (n : Option Node) → g q ≡ n → Pick w g p mark q
      by_node e k u None h = other e k (λ v x is. none_some x (sym h ∙ is))
      by_node e k u (Some x) h =
          let before = stood q u x h in
          record {
            node = Some before.node;
            may = before.may;
            as_record = λ l. absurd (never_both (bytes_eq q (record_place p)) l e);
            as_mark = λ l. absurd (never_both (bytes_eq q (mark_place p)) l k);
            under = λ v y is. (refl, before.same ∙ ap is_directory (sym h ∙ is));
            named = λ l. inl (subst (λ (n : Option Node). IsSome n) (sym h) refl);
          }

      by_under : bytes_eq q (record_place p) ≡ false → bytes_eq q (mark_place p) ≡ false → (b : Bool) → is_at_or_under q p ≡ b → Pick w g p mark q
      by_under e k true u = by_node e k u (g q) refl
      by_under e k false u = other e k (λ v x is. never_both (is_at_or_under q p) v u)

      by_mark : bytes_eq q (record_place p) ≡ false → (b : Bool) → bytes_eq q (mark_place p) ≡ b → Pick w g p mark q
      by_mark e true k =
          record {
            node = mark;
            may = subst (λ z. MayLeave (w.nodes z) mark) (sym (same_place q (mark_place p) k)) at_mark;
            as_record = λ h. absurd (never_both (bytes_eq q (record_place p)) h e);
            as_mark = λ h. refl;
            under = λ u. absurd (mark_not_under q k u);
            named = λ h. subst (λ z. IsSome (g z) ⊎ IsSome (reads w z)) (sym (same_place q (mark_place p) k)) (mark_named h);
          }
      by_mark e false k = by_under e k (is_at_or_under q p) refl

      by_record : (b : Bool) → bytes_eq q (record_place p) ≡ b → Pick w g p mark q
      by_record true e =
          record {
            node = g q;
            may = subst (λ z. MayLeave (w.nodes z) (g z)) (sym (same_place q (record_place p) e)) at_record;
            as_record = λ h. refl;
            as_mark = λ h. absurd (true≢false (sym h ∙ ap (λ z. bytes_eq z (mark_place p)) (same_place q (record_place p) e)));
            under = λ u x h. (subst (λ (n : Option Node). IsSome n) (sym h) refl, ap is_directory h);
            named = λ h. inl h;
          }
      by_record false e = by_mark e (bytes_eq q (mark_place p)) refl

  pub before : Nodes
  before q = (pick q).node

  pub before_image : IsImage w names before
  unfolding before
  before_image =
      record {
        rising = wide.image.rising;
        complete = λ q h. elim ((pick q).named h) [ inl k ↦ wide.image.complete q k | inr k ↦ wide.before q k ];
        covered = wide.before;
        leaves = λ q. (pick q).may;
      }

  abbrev there : View
  there = view_of read names before

  record_node : before (record_place p) ≡ g (record_place p)
  unfolding before
  record_node = (pick (record_place p)).as_record (place_itself (record_place p))

  pub same_record : there.record_at p ≡ (view_of read names g).record_at p
  same_record = ap (λ (n : Option Node). option_map core (read_at read p (if is_path_text p then n else None))) record_node

  pub same_listed : there.listed p ≡ (view_of read names g).listed p
  same_listed = ap (λ (n : Option Node). members_of (read_at read p (if is_path_text p then n else None))) record_node

  pub mark_before : mark ≡ None → there.marked p ≡ false
  unfolding before
  mark_before h = none (is_path_text p) (before (mark_place p)) ((pick (mark_place p)).as_mark (place_itself (mark_place p)) ∙ h)
    where
      none : (b : Bool) (n : Option Node) → n ≡ None → is_some (if b then n else None) ≡ false
      none true n e = ap is_some e
      none false n e = refl

  -- a folder there stood before
  pub folder_before : (view_of read names g).is_folder p ≡ true → there.is_folder p ≡ true
  unfolding before
  folder_before h = at (g p) refl (sym (ap (λ b. is_directory (if b then g p else None)) outside) ∙ h)
    where
      at : (n : Option Node) → g p ≡ n → is_directory (g p) ≡ true → is_directory (if is_outside p then before p else None) ≡ true
      at None e k = absurd (true≢false (sym k ∙ ap is_directory e))
      at (Some x) e k =
          ap (λ b. is_directory (if b then before p else None)) outside ∙ ((pick p).under (at_itself p) x e).1 ∙ sym (ap is_directory e) ∙ k

  -- the members that stand after stood before
  pub members_before : (m : Member) → IsIn ((view_of read names g).members p) m → IsIn (there.members p) m
  unfolding before
  members_before m i =
      let x = in_map (member g p) _ m i in
      let k = in_filter (λ q. is_under q p && is_some (path_node g q)) names x.0 x.1 in
      let under = and_left (is_under x.0 p) _ k.1 in
      at x.0 under (path_node g x.0) refl (and_right (is_under x.0 p) _ k.1) x.2
    where
      out_of : (b : Bool) (n : Option Node) (y : Node) → (if b then n else None) ≡ Some y → (b ≡ true) × (n ≡ Some y)
      out_of true n y h = (refl, h)
      out_of false n y h = absurd (none_some y h)

      at : (q : Path) → is_under q p ≡ true → (n : Option Node) → path_node g q ≡ n → is_some n ≡ true → m ≡ member g p q → IsIn (there.members p) m
      at q u None is some h = absurd (true≢false (sym some))
      at q u (Some y) is some h =
          let parts = out_of (is_outside q) (g q) y is in
          let stands = (pick q).under (at_when_under q p u) y parts.1 in
          let same : is_directory (path_node before q) ≡ is_directory (path_node g q) = ap (λ b. is_directory (if b then before q else None)) parts.0 ∙ stands.1 ∙ sym (ap is_directory is) in
          subst (λ z. IsIn (there.members p) z) (ap (λ b. record { folder = b; name = drop (length p + 1) q }) same ∙ sym h)
          (member_in read names before p q before_image.complete u parts.0 stands.0)
