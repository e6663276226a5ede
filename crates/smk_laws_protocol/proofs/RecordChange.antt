-- A record of an open job's output is written or removed, under the job's firm marks.
use Rattle.std.proofs.Common.{◌≡◌, ◌⊎◌, ℕ, Bool, true, false, List, refl, sym, ap, subst, inl, inr, arith, ◌∙◌, Option, Some, None}
use Rattle.std.specs.Prelude.{bytes_eq, is_some, option_map, if◌then◌else◌, ◌||◌}
use Rattle.smk_record.specs.declared.record.Record.{Record}
use Rattle.smk_record.specs.declared.record.Member.{Member}
use Rattle.smk_world.specs.declared.event.Node.{Node}
use Rattle.smk_world.specs.Trees.{Path, IsIn, is_path_text}
use Rattle.smk_base.specs.Path.{overlaps, is_at_or_under}
use Rattle.smk_store.specs.Trust.{Versions, Eased, none_eased}
use Rattle.smk_record.specs.Records.{members_of, core}
use Rattle.smk_laws_protocol.proofs.View.{View, Clear, Sound}
use Rattle.smk_laws_protocol.proofs.Views.{Nodes, EachImage, HasNames, reads, view_of, read_at, place_node}
use Rattle.smk_world.specs.World.{World, IsFormed}
use Rattle.smk_base.specs.Place.{mark_place, record_place, note_place}
use Rattle.smk_store.specs.Soundness.{Outside}
use Rattle.smk_laws_protocol.specs.Protocol.{OpenJob, own, outputs}
use Rattle.smk_laws_protocol.proofs.Rows.{now}
use Rattle.smk_laws_protocol.proofs.Between.{Fits, Images, HasNoNew, HasNoClash, HasSources}
use Rattle.smk_laws_protocol.proofs.Apart.{apart_same}
use Rattle.smk_laws_protocol.proofs.Basics.{any_by, by_test, clash}
use Rattle.smk_laws_protocol.proofs.Change.{Change, Differs}
use Rattle.smk_laws_protocol.proofs.Guarded.{IsGuarded}
use Rattle.smk_laws_protocol.proofs.Holders.{HasBefore, holder_stays}
use Rattle.smk_laws_protocol.proofs.Like.{IsLike, like_self}
use Rattle.smk_laws_protocol.proofs.Moves.{with_record, Counted}
use Rattle.smk_laws_protocol.proofs.Naming.{IsWide, each_image, of_wide, now_image}
use Rattle.smk_laws_protocol.proofs.Places.{over}
use Rattle.smk_laws_protocol.proofs.Records.{after_view, after_is, place_same, record_safe}
use Rattle.smk_base.proofs.Places.{same_place, place_itself}
use Rattle.smk_laws_protocol.proofs.Stays.{in_left}
use Rattle.smk_laws_protocol.proofs.Texts.{Texts}
use Rattle.smk_laws_protocol.proofs.Turns.{Turn, turn_within, Pair, each_pair_change, of_pair}

-- where what counts is beside another record at a marked path, what vouches for the same counted before
pub record_counts :
    (H : Versions) (v : View) (p : Path) (has : Path → Bool) (at : Path → Option Record) (listed : Path → List Member) (e e' : Eased) →
    v.marked p ≡ true → ((q : Path) → bytes_eq q p ≡ false → at q ≡ v.record_at q) →
    ((q : Path) (r : Record) → e' q r → e q r) → ((r : Record) → e' p r → (s : Record) × (v.record_at p ≡ Some s) × e p s × IsLike H r s) →
    (q : Path) (r : Record) → Clear (with_record v has at listed) e' q r → Counted H v e q r
record_counts H v p has at listed e e' marked at_same fewer kept q r c = by_test (bytes_eq q p) (here c.1) (λ k. (r, (sym (at_same q k) ∙ c.0, other c.1), like_self H r))
  where
    other : (v.marked q ≡ false) ⊎ e' q r → (v.marked q ≡ false) ⊎ e q r
    other (inl k) = inl k
    other (inr k) = inr (fewer q r k)

    at_p : (s : Record) × (v.record_at p ≡ Some s) × e p s × IsLike H r s → Counted H v e p r
    at_p k = (k.0, (k.1, inr k.2), k.3)

    here : (v.marked q ≡ false) ⊎ e' q r → bytes_eq q p ≡ true → Counted H v e q r
    here (inl k) h = clash (v.marked q) (subst (λ x. v.marked x ≡ true) (sym (same_place q p h)) marked) k
    here (inr k) h = subst (λ x. Counted H v e x r) (sym (same_place q p h)) (at_p (kept r (subst (λ x. e' x r) (same_place q p h) k)))

module _
    (o : Outside) (texts : Texts o.read) (entry : World) (H : Versions) (j : OpenJob) (e e' : Eased) (top : ℕ) (steady : Bool) (w w' : World)
    (m : Images o entry H e top steady w) (fits : Fits o entry e top w j) (fewer : (p : Path) (r : Record) → e' p r → e p r)
    (formed : IsFormed w') (covered : HasNames w'.names (reads w))
    (guarded : EachImage o.read w (IsGuarded j)) (p : Path) (i : IsIn (outputs j) p)
    (kept_now : (r : Record) → e' p r → (s : Record) × ((now o w).record_at p ≡ Some s) × e p s × IsLike H r s)
    (others : (q : Path) → is_at_or_under q (record_place p) ≡ false → w'.nodes q ≡ w.nodes q) where
  abbrev turn : Turn w w'
  turn = turn_within w w' formed covered (λ q. is_at_or_under q (record_place p)) others

  abbrev seen : List Path → Nodes → View
  seen names g = after_view o texts.records entry H e e' w w' p others names g

  view_is : (names : List Path) (g : Nodes) → seen names g ≡ view_of o.read names g
  view_is names g = after_is o texts.records entry H e e' w w' p others names g

  same_node : (g : Nodes) (q : Path) → bytes_eq q p ≡ false → place_node g record_place q ≡ place_node (turn.before g) record_place q
  same_node g q h = place_same o texts.records entry H e e' w w' p others g q h

  at_same : (names : List Path) (g : Nodes) (q : Path) → bytes_eq q p ≡ false → (seen names g).record_at q ≡ (view_of o.read names (turn.before g)).record_at q
  at_same names g q h = ap (λ n. option_map core (read_at o.read q n)) (same_node g q h)

  guard : (names : List Path) (g : Nodes) → IsWide w w' names g → IsGuarded j (view_of o.read names (turn.before g))
  guard names g k = each_image o.read w (IsGuarded j) guarded names (turn.before g) (turn.image names g k)

  at_self : (x : Path) → is_at_or_under x x ≡ true
  at_self x = rw (place_itself x) refl

  kept_before : (names : List Path) (g : Nodes) (r : Record) → e' p r → (s : Record) × ((view_of o.read names (turn.before g)).record_at p ≡ Some s) × e p s × IsLike H r s
  kept_before names g r h =
      let k = kept_now r h in
      (k.0, ap (λ n. option_map core (read_at o.read p (if is_path_text p then n else None))) here ∙ k.1, k.2, k.3)
    where
      here : turn.before g (record_place p) ≡ reads w (record_place p)
      here = ap (λ (b : Bool). if b then reads w (record_place p) else g (record_place p)) (at_self (record_place p))

  counts : (names : List Path) (g : Nodes) → IsWide w w' names g → (q : Path) (r : Record) → Clear (seen names g) e' q r → Counted H (view_of o.read names (turn.before g)) e q r
  counts names g k =
      record_counts H (view_of o.read names (turn.before g)) p (seen names g).has_record (seen names g).record_at (seen names g).listed e e'
      ((guard names g k).marks p i) (at_same names g) fewer (kept_before names g)

  none_counts : (names : List Path) (g : Nodes) → IsWide w w' names g → (q : Path) (r : Record) → Clear (seen names g) none_eased q r → Counted H (view_of o.read names (turn.before g)) none_eased q r
  none_counts names g k =
      record_counts H (view_of o.read names (turn.before g)) p (seen names g).has_record (seen names g).record_at (seen names g).listed none_eased none_eased
      ((guard names g k).marks p i) (at_same names g) (λ q r h. h) (λ r h. absurd h)

  other : (x : Path) → (IsIn (outputs j) x → ⊥) → bytes_eq x p ≡ false
  other x f = by_test (bytes_eq x p) (λ h. absurd (f (subst (λ y. IsIn (outputs j) y) (sym (same_place x p h)) i))) (λ h. h)

  seen_differs : (names : List Path) (g : Nodes) → Differs j (view_of o.read names (turn.before g)) (seen names g)
  seen_differs names g =
      record {
        nodes = λ x f. record { file = refl; folder = refl; members = refl; tree = refl };
        records = λ x f. record {
          has = ap (λ (n : Option Node). is_some n) (same_node g x (other x f));
          at = at_same names g x (other x f);
          listed = ap (λ n. members_of (read_at o.read x n)) (same_node g x (other x f));
        };
        marks = λ x f. refl;
      }

  pair : (names : List Path) (g : Nodes) → IsWide w w' names g → Pair H j e e' (view_of o.read names (turn.before g)) (view_of o.read names g)
  pair names g k =
      subst (Pair H j e e' (view_of o.read names (turn.before g))) (view_is names g)
      (record { differs = seen_differs names g; counts = λ q r c. inl (counts names g k q r c); none_counts = λ q r c. inl (none_counts names g k q r c) })

  -- no other record that counts overlaps the output's
  alone : (names : List Path) (g : Nodes) → IsWide w w' names g → (h : Path) (r : Record) → Clear (seen names g) e' h r → overlaps h p ≡ true → (h ≡ p) × HasBefore (view_of o.read names (turn.before g)) p r
  alone names g k h r c over =
      let before = counts names g k h r c in
      let p_own = in_left (outputs j) j.logs p i in
      let h_out = each_image o.read w (HasNoClash o e j) fits.no_clash names (turn.before g) (turn.image names g k) h before.0 before.1 (any_by (overlaps h) (own j) p p_own over) in
      let same = apart_same texts.overlap (own j) h p fits.apart (in_left (outputs j) j.logs h h_out) p_own over in
      (same, (before.0, subst (λ x. (view_of o.read names (turn.before g)).record_at x ≡ Some before.0) same before.1.0, sym before.2.recipe))

  safe : EachImage o.read w' (λ v. Sound o.act H v e' × HasSources o (now o entry) v)
  safe =
      of_wide o.read texts.naming w m.formed w' (λ v. Sound o.act H v e' × HasSources o (now o entry) v)
      (λ names g k. record_safe o texts.records entry H e e' w w' p others m.sound m.sources
      (λ names f rising complete covered leaves. (guarded names f rising complete covered leaves).marks p i)
      fewer kept_before names g k.image.rising k.image.complete k.before k.image.leaves
      (holder_stays texts.holders (view_of o.read names (turn.before g)) p (seen names g).has_record (seen names g).record_at (seen names g).listed e' (at_same names g) (alone names g k)))

  abbrev SameNew : View → View → Type 0
  SameNew v v' = (q : Path) → bytes_eq q p ≡ false → (v'.record_at q ≡ v.record_at q) × (v'.listed q ≡ v.listed q)

  new_pair : (names : List Path) (g : Nodes) → SameNew (view_of o.read names (turn.before g)) (view_of o.read names g)
  new_pair names g =
      subst (SameNew (view_of o.read names (turn.before g))) (view_is names g)
      (λ q h. (at_same names g q h, ap (λ n. members_of (read_at o.read q n)) (same_node g q h)))

  pub same_new : SameNew (now o w) (now o w')
  same_new = of_pair o texts.naming w w' m.formed turn SameNew (λ names g k. new_pair names g)

  marks_pair : (names : List Path) (g : Nodes) (q : Path) → (view_of o.read names g).marked q ≡ (view_of o.read names (turn.before g)).marked q
  marks_pair names g q = sym (ap (λ (v : View). v.marked q) (view_is names g))

  new_on : (names : List Path) (g : Nodes) → IsWide w w' names g → HasNoNew o (now o w) (view_of o.read names (turn.before g)) → HasNoNew o (now o w') (view_of o.read names g)
  new_on names g k h q r at unmarked =
      by_test (bytes_eq q p)
      (λ s. clash ((view_of o.read names (turn.before g)).marked q) (subst (λ x. (view_of o.read names (turn.before g)).marked x ≡ true) (sym (same_place q p s)) ((guard names g k).marks p i)) (sym (marks_pair names g q) ∙ unmarked))
      (λ s.
      let b = new_pair names g q s in
      let n = same_new q s in
      let c = h q r (sym b.0 ∙ at) (sym (marks_pair names g q) ∙ unmarked) in
      (n.0 ∙ c.0, n.1 ∙ c.1 ∙ sym b.1))

  or_right : (a b : Bool) → b ≡ true → (a || b) ≡ true
  or_right a b h = grind arith

  pub record_change : Change o entry H j e e' w w'
  record_change =
      each_pair_change o texts.naming entry H j e e' w w' m.formed turn pair
      (λ names g k q own_q is. or_right ((now o w').has_record q) ((now o w').marked q)
      (of_pair o texts.naming w w' m.formed turn (λ v v'. v'.marked q ≡ v.marked q) (λ names g k. marks_pair names g q)
      ∙ (each_image o.read w (IsGuarded j) guarded w.names (reads w) (now_image w m.formed)).marks q own_q))
      (of_wide o.read texts.naming w m.formed w' (HasNoNew o (now o w'))
      (λ names g k. new_on names g k (each_image o.read w (HasNoNew o (now o w)) m.no_new names (turn.before g) (turn.image names g k))))
      (λ names g rising complete covered leaves. (safe names g rising complete covered leaves).0)
      (λ names g rising complete covered leaves. (safe names g rising complete covered leaves).1)
      (λ x f. others (mark_place x) (texts.records.record_mark p x))
      (λ x f. others (note_place x) (texts.records.record_note p x))
