-- The image before an image: with what reads before at the places that the event touches.
use Rattle.smk_laws_protocol.proofs.Formed.{all_named}
use Rattle.std.proofs.Common.{◌≡◌, ◌⊎◌, inl, inr, ℕ, Bool, true, false, List, refl, sym, ap, subst, ◌∙◌, Option}
use Rattle.std.specs.Prelude.{IsTrue, IsSome, if◌then◌else◌, ◌||◌}
use Rattle.smk_record.specs.declared.record.Record.{Record}
use Rattle.smk_world.specs.declared.event.Node.{Node}
use Rattle.smk_world.specs.Trees.{Path, among, IsIn}
use Rattle.smk_store.specs.Trust.{Versions, Eased, none_eased}
use Rattle.smk_laws_protocol.proofs.View.{View, Sound}
use Rattle.smk_laws_protocol.proofs.Views.{Nodes, EachImage, HasNames, reads, view_of}
use Rattle.smk_world.specs.World.{World, IsFormed, MayLeave, reading, firmly}
use Rattle.smk_base.specs.Place.{mark_place, note_place}
use Rattle.smk_store.specs.Soundness.{Outside}
use Rattle.smk_laws_protocol.specs.Protocol.{OpenJob, own, outputs}
use Rattle.smk_laws_protocol.proofs.Rows.{now}
use Rattle.smk_laws_protocol.proofs.Between.{Images, HasNoNew, HasKnown, HasSources}
use Rattle.smk_laws_protocol.proofs.Change.{Change, Counts, Differs}
use Rattle.smk_laws_protocol.proofs.Moves.{SameAt}
use Rattle.smk_laws_protocol.proofs.Law.{sound_less}
use Rattle.smk_laws_protocol.proofs.Like.{like_self}
use Rattle.smk_laws_protocol.proofs.Marking.{reads_stay}
use Rattle.smk_laws_protocol.proofs.Naming.{NamesLaws, IsImage, IsWide, each_image, of_wide, now_image}

-- each image after has one before
pub record Turn (w w' : World) : Type 0 where
  pub formed : IsFormed w'
  pub covered : HasNames w'.names (reads w)
  pub before : Nodes → Nodes
  pub image : (names : List Path) (g : Nodes) → IsWide w w' names g → IsImage w names (before g)
  pub back : (q : Path) → before (reads w') q ≡ reads w q

abbrev pub turn_within : (w w' : World) → IsFormed w' → HasNames w'.names (reads w) → (D : Path → Bool) → ((q : Path) → D q ≡ false → w'.nodes q ≡ w.nodes q) → Turn w w'
turn_within w w' formed covered D others =
    record {
      formed = formed;
      covered = covered;
      before = λ g q. if D q then reads w q else g q;
      image = λ names g i.
          record {
            rising = i.image.rising;
            complete = λ q. complete names g i q (D q);
            covered = i.before;
            leaves = λ q. leaves names g i q (D q) refl;
          };
      back = λ q. back q (D q) refl;
    }
  where
    complete : (names : List Path) (g : Nodes) → IsWide w w' names g → (q : Path) (b : Bool) → IsSome (if b then reads w q else g q) → IsTrue (among names q)
    complete names g i q true h = i.before q h
    complete names g i q false h = i.image.complete q h

    leaves : (names : List Path) (g : Nodes) → IsWide w w' names g → (q : Path) (b : Bool) → D q ≡ b → MayLeave (w.nodes q) (if b then reads w q else g q)
    leaves names g i q true e = reads_stay (w.nodes q)
    leaves names g i q false e = subst (λ s. MayLeave s (g q)) (others q e) (i.image.leaves q)

    back : (q : Path) (b : Bool) → D q ≡ b → (if b then reads w q else reads w' q) ≡ reads w q
    back q true e = refl
    back q false e = ap reading (others q e)

module _ (o : Outside) (naming : NamesLaws o.read) (w w' : World) (formed : IsFormed w) (turn : Turn w w') where
  -- the world itself is seen as the image before the one that reads after
  pub now_before : view_of o.read w'.names (turn.before (reads w')) ≡ now o w
  now_before =
      ap (view_of o.read w'.names) (λ i q. turn.back q i)
      ∙ naming.same w'.names w.names (reads w) turn.formed.rising formed.rising turn.covered (all_named _ formed)

  pub wide_now : IsWide w w' w'.names (reads w')
  wide_now = record { image = now_image w' turn.formed; before = turn.covered }

  pub of_pair : (P : View → View → Type 0) → ((names : List Path) (g : Nodes) → IsWide w w' names g → P (view_of o.read names (turn.before g)) (view_of o.read names g)) → P (now o w) (now o w')
  of_pair P each = subst (λ v. P v (now o w')) now_before (each w'.names (reads w') wide_now)

-- what is asked of a pair of images
pub record Pair (H : Versions) (j : OpenJob) (e e' : Eased) (v v' : View) : Type 0 where
  pub differs : Differs j v v'
  pub counts : Counts H j v e v' e'
  pub none_counts : Counts H j v none_eased v' none_eased

pub pair_change :
    (o : Outside) (naming : NamesLaws o.read) (entry : World) (H : Versions) (j : OpenJob) (e e' : Eased) (w w' : World) (formed : IsFormed w) (turn : Turn w w') →
    ((names : List Path) (g : Nodes) → IsWide w w' names g → Pair H j e e' (view_of o.read names (turn.before g)) (view_of o.read names g)) →
    ((names : List Path) (g : Nodes) → IsWide w w' names g → (q : Path) → IsIn (outputs j) q → (view_of o.read names g).has_record q ≡ true → ((now o w').has_record q || (now o w').marked q) ≡ true) →
    EachImage o.read w' (HasNoNew o (now o w')) → EachImage o.read w' (λ v. Sound o.act H v e') → EachImage o.read w' (HasSources o (now o entry)) →
    ((x : Path) → (IsIn (outputs j) x → ⊥) → (n : Option Node) → w.nodes (mark_place x) ≡ firmly n → w'.nodes (mark_place x) ≡ firmly n) →
    ((x : Path) → (IsIn (own j) x → ⊥) → (n : Option Node) → w.nodes (note_place x) ≡ firmly n → w'.nodes (note_place x) ≡ firmly n) → Change o entry H j e e' w w'
pair_change o naming entry H j e e' w w' formed turn pairs known_own no_new sound sources marks notes =
    record {
      formed = turn.formed;
      before = turn.before;
      image = turn.image;
      differs = λ names g i. (pairs names g i).differs;
      counts = λ names g i. (pairs names g i).counts;
      differs_now = of_pair o naming w w' formed turn (Differs j) (λ names g i. (pairs names g i).differs);
      counts_now = of_pair o naming w w' formed turn (λ v v'. Counts H j v none_eased v' none_eased) (λ names g i. (pairs names g i).none_counts);
      known_own = known_own;
      no_new = no_new;
      sound = sound;
      sources = sources;
      mark_places = λ x f n k. marks x f n k;
      note_places = λ x f n k. notes x f n k;
    }

pub each_pair_change :
    (o : Outside) (naming : NamesLaws o.read) (entry : World) (H : Versions) (j : OpenJob) (e e' : Eased) (w w' : World) (formed : IsFormed w) (turn : Turn w w') →
    ((names : List Path) (g : Nodes) → IsWide w w' names g → Pair H j e e' (view_of o.read names (turn.before g)) (view_of o.read names g)) →
    ((names : List Path) (g : Nodes) → IsWide w w' names g → (q : Path) → IsIn (outputs j) q → (view_of o.read names g).has_record q ≡ true → ((now o w').has_record q || (now o w').marked q) ≡ true) →
    EachImage o.read w' (HasNoNew o (now o w')) → EachImage o.read w' (λ v. Sound o.act H v e') → EachImage o.read w' (HasSources o (now o entry)) →
    ((x : Path) → (IsIn (outputs j) x → ⊥) → w'.nodes (mark_place x) ≡ w.nodes (mark_place x)) →
    ((x : Path) → (IsIn (own j) x → ⊥) → w'.nodes (note_place x) ≡ w.nodes (note_place x)) → Change o entry H j e e' w w'
each_pair_change o naming entry H j e e' w w' formed turn pairs known_own no_new sound sources marks notes =
    pair_change o naming entry H j e e' w w' formed turn pairs known_own no_new sound sources (λ x f n k. marks x f ∙ k) (λ x f n k. notes x f ∙ k)

-- where the records are the same, and what was marked is marked still
pub known_by :
    (o : Outside) (naming : NamesLaws o.read) (entry : World) (H : Versions) (e : Eased) (top : ℕ) (steady : Bool) (w w' : World) (turn : Turn w w') → (m : Images o entry H e top steady w) →
    ((names : List Path) (g : Nodes) → IsWide w w' names g → (q : Path) → (view_of o.read names g).has_record q ≡ (view_of o.read names (turn.before g)).has_record q) →
    ((names : List Path) (g : Nodes) → IsWide w w' names g → (q : Path) → (view_of o.read names (turn.before g)).marked q ≡ true → (view_of o.read names g).marked q ≡ true) →
    (names : List Path) (g : Nodes) → IsWide w w' names g → (q : Path) → (view_of o.read names g).has_record q ≡ true → ((now o w').has_record q || (now o w').marked q) ≡ true
known_by o naming entry H e top steady w w' turn m same marked names g i q is =
    either ((now o w).has_record q) ((now o w).marked q) ((now o w').has_record q) ((now o w').marked q)
    (of_pair o naming w w' m.formed turn (λ v v'. v'.has_record q ≡ v.has_record q) (λ names g i. same names g i q))
    (of_pair o naming w w' m.formed turn (λ v v'. v.marked q ≡ true → v'.marked q ≡ true) (λ names g i. marked names g i q))
    (each_image o.read w (HasKnown o (now o w)) m.known names (turn.before g) (turn.image names g i) q (sym (same names g i q) ∙ is))
  where
    either : (a b c d : Bool) → c ≡ a → (b ≡ true → d ≡ true) → (a || b) ≡ true → (c || d) ≡ true
    either true b c d h f k = rw h refl
    either false b c d h f k = rw (h, f k) refl

-- ---- the same images

pub same_at : (v : View) (x : Path) → SameAt v v x
same_at v x = record { file = refl; folder = refl; members = refl; tree = refl }

pub same_differs : (j : OpenJob) (v : View) → Differs j v v
same_differs j v = record { nodes = λ x f. same_at v x; records = λ x f. record { has = refl; at = refl; listed = refl }; marks = λ x f. refl }

pub fewer_counts : (H : Versions) (j : OpenJob) (v : View) (e e' : Eased) → ((p : Path) (r : Record) → e' p r → e p r) → Counts H j v e v e'
fewer_counts H j v e e' fewer q r c = inl (r, (c.0, go c.1), like_self H r)
  where
    go : (v.marked q ≡ false) ⊎ e' q r → (v.marked q ≡ false) ⊎ e q r
    go (inl m) = inl m
    go (inr m) = inr (fewer q r m)

pub same_pair : (H : Versions) (j : OpenJob) (e e' : Eased) (v v' : View) → ((p : Path) (r : Record) → e' p r → e p r) → v ≡ v' → Pair H j e e' v v'
same_pair H j e e' v v' fewer is =
    subst (Pair H j e e' v) is (record { differs = same_differs j v; counts = fewer_counts H j v e e' fewer; none_counts = fewer_counts H j v none_eased none_eased (λ p r h. h) })

-- an event that leaves all views as they were
pub same_change :
    (o : Outside) (naming : NamesLaws o.read) (entry : World) (H : Versions) (j : OpenJob) (e e' : Eased) (top : ℕ) (steady : Bool) (w w' : World) (turn : Turn w w') →
    Images o entry H e top steady w → ((p : Path) (r : Record) → e' p r → e p r) →
    ((names : List Path) (g : Nodes) → IsWide w w' names g → view_of o.read names (turn.before g) ≡ view_of o.read names g) →
    ((x : Path) (n : Option Node) → w.nodes (mark_place x) ≡ firmly n → w'.nodes (mark_place x) ≡ firmly n) → ((x : Path) (n : Option Node) → w.nodes (note_place x) ≡ firmly n → w'.nodes (note_place x) ≡ firmly n) → Change o entry H j e e' w w'
same_change o naming entry H j e e' top steady w w' turn m fewer same marks notes =
    pair_change o naming entry H j e e' w w' m.formed turn
    (λ names g i. same_pair H j e e' (view_of o.read names (turn.before g)) (view_of o.read names g) fewer (same names g i))
    (λ names g i q k is. subst (λ n. (n.has_record q || n.marked q) ≡ true) same_now (each_image o.read w (HasKnown o (now o w)) m.known names (turn.before g) (turn.image names g i) q (ap (λ (v : View). v.has_record q) (same names g i) ∙ is)))
    (subst (λ n. EachImage o.read w' (HasNoNew o n)) same_now (on (HasNoNew o (now o w)) m.no_new))
    (on (λ v. Sound o.act H v e') (λ names f rising complete covered leaves. sound_less o.act H (view_of o.read names f) e e' fewer (m.sound names f rising complete covered leaves)))
    (on (HasSources o (now o entry)) m.sources)
    (λ x f. marks x) (λ x f. notes x)
  where
    same_now : now o w ≡ now o w'
    same_now = of_pair o naming w w' m.formed turn (λ v v'. v ≡ v') same

    on : (P : View → Type 0) → EachImage o.read w P → EachImage o.read w' P
    on P each = of_wide o.read naming w m.formed w' P (λ names g i. subst P (same names g i) (each_image o.read w P each names (turn.before g) (turn.image names g i)))
