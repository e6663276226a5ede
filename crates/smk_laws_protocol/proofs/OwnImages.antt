-- What a job knows of its own outputs and records in each image, along a call that doesn't touch them.
use Rattle.smk_laws_protocol.proofs.Formed.{all_named}
use Rattle.std.proofs.Common.{◌≡◌, Bool, true, false, List, refl, sym, ap, ◌∙◌, Option, None}
use Rattle.std.specs.Prelude.{IsTrue, IsSome, is_some, option_map, if◌then◌else◌}
use Rattle.smk_world.specs.declared.event.Node.{Node}
use Rattle.smk_world.specs.Trees.{Path, among, value_at, all_of, IsIn, Each, is_path_text}
use Rattle.smk_store.specs.Images.{is_outside}
use Rattle.smk_world.specs.World.{in_paths, World, IsFormed, MayLeave}
use Rattle.smk_record.specs.Records.{members_of, core}
use Rattle.smk_laws_protocol.proofs.View.{View, file_of}
use Rattle.smk_laws_protocol.proofs.Views.{Nodes, EachImage, reads, view_of, read_at, place_node}
use Rattle.smk_base.specs.Path.{is_at_or_under}
use Rattle.smk_base.specs.Place.{record_place}
use Rattle.smk_store.specs.Soundness.{Outside}
use Rattle.smk_laws_protocol.specs.Protocol.{OpenJob, own, outputs, listed_of}
use Rattle.smk_laws_protocol.proofs.Rows.{now}
use Rattle.smk_world.specs.Calls.{any_overlap}
use Rattle.smk_laws_protocol.proofs.Between.{HoldsGiven, given, IsKnown, IsGone, AreGone}
use Rattle.smk_laws_protocol.proofs.Apart.{free_to}
use Rattle.smk_laws_protocol.proofs.Basics.{each_in, each_of}
use Rattle.smk_laws_protocol.proofs.Chains.{map_same}
use Rattle.smk_laws_protocol.proofs.Change.{Differs}
use Rattle.smk_laws_protocol.proofs.Marking.{reads_stay}
use Rattle.smk_laws_protocol.proofs.Naming.{IsImage, IsWide, each_image, of_wide}
use Rattle.smk_laws_protocol.proofs.Texts.{Texts}

module _
    (o : Outside) (texts : Texts o.read) (j : OpenJob) (inputs_apart : any_overlap (own j) (in_paths j.recipe) ≡ false) (w w' : World) (formed : IsFormed w) (formed' : IsFormed w')
    (differs : Differs j (now o w) (now o w'))
    -- the places that the call touches; elsewhere no other image comes, and all reads the same
    (D : Path → Bool) (fewer : (q : Path) → D q ≡ false → (n : Option Node) → MayLeave (w'.nodes q) n → MayLeave (w.nodes q) n)
    (reads_same : (q : Path) → D q ≡ false → reads w' q ≡ reads w q)
    (free : (p q : Path) → IsIn (outputs j) p → is_at_or_under q p ≡ true → D q ≡ false) where
  abbrev before : Nodes → Nodes
  before g q = if D q then reads w q else g q

  before_same : (g : Nodes) (q : Path) → D q ≡ false → before g q ≡ g q
  before_same g q h = ap (λ (b : Bool). if b then reads w q else g q) h

  image : (names : List Path) (g : Nodes) → IsWide w w' names g → IsImage w names (before g)
  image names g i =
      record { rising = i.image.rising; complete = λ q. complete q (D q); covered = i.before; leaves = λ q. leaves q (D q) refl }
    where
      complete : (q : Path) (b : Bool) → IsSome (if b then reads w q else g q) → IsTrue (among names q)
      complete q true h = i.before q h
      complete q false h = i.image.complete q h

      leaves : (q : Path) (b : Bool) → D q ≡ b → MayLeave (w.nodes q) (if b then reads w q else g q)
      leaves q true e = reads_stay (w.nodes q)
      leaves q false e = fewer q e (g q) (i.image.leaves q)

  given_same : (p : Path) → given o (now o w') j p ≡ given o (now o w) j p
  given_same p =
      ap (λ ts. value_at o.act j.recipe p (all_of ts))
      (map_same (now o w').tree (now o w).tree (in_paths j.recipe) (λ q i. (differs.nodes q (free_to texts.overlap (own j) (in_paths j.recipe) q inputs_apart i)).tree))

  tree_same : (names : List Path) (g : Nodes) → IsWide w w' names g → (p : Path) → IsIn (outputs j) p → (view_of o.read names g).tree p ≡ (view_of o.read names (before g)).tree p
  tree_same names g i p k =
      (texts.folders names names g (before g) p i.image.rising i.image.rising i.image.complete (image names g i).complete (λ q u n. sym (before_same g q (free p q k u)))).1

  each_to : (P Q : View → Path → Type 0) → ((names : List Path) (g : Nodes) → IsWide w w' names g → (p : Path) → IsIn (outputs j) p → P (view_of o.read names (before g)) p → Q (view_of o.read names g) p) →
      EachImage o.read w (λ v. Each (P v) (outputs j)) → EachImage o.read w' (λ v. Each (Q v) (outputs j))
  each_to P Q on each =
      of_wide o.read texts.naming w formed w' (λ v. Each (Q v) (outputs j))
      (λ names g i. each_of (Q (view_of o.read names g)) (outputs j)
      (λ p k. on names g i p k (each_in (P (view_of o.read names (before g))) (outputs j) p (each_image o.read w (λ v. Each (P v) (outputs j)) each names (before g) (image names g i)) k)))

  pub made_on : EachImage o.read w (λ v. Each (HoldsGiven o (now o w) j v) (outputs j)) → EachImage o.read w' (λ v. Each (HoldsGiven o (now o w') j v) (outputs j))
  made_on = each_to (λ v. HoldsGiven o (now o w) j v) (λ v. HoldsGiven o (now o w') j v) (λ names g i p k h. (h.0, given_same p ∙ h.1, tree_same names g i p k ∙ h.2))

  module _ (records : (p : Path) → IsIn (outputs j) p → D (record_place p) ≡ false) where
    place : (g : Nodes) (p : Path) → IsIn (outputs j) p → place_node g record_place p ≡ place_node (before g) record_place p
    place g p k = ap (λ n. if is_path_text p then n else None) (sym (before_same g (record_place p) (records p k)))

    members_same : (p : Path) → IsIn (outputs j) p → (now o w').members p ≡ (now o w).members p
    members_same p k = (texts.folders w'.names w.names (reads w') (reads w) p formed'.rising formed.rising (all_named _ formed') (all_named _ formed) (λ q u n. reads_same q (free p q k u))).0

    pub known_on : EachImage o.read w (λ v. Each (IsKnown o (now o w) j v) (outputs j)) → EachImage o.read w' (λ v. Each (IsKnown o (now o w') j v) (outputs j))
    known_on = each_to (λ v. IsKnown o (now o w) j v) (λ v. IsKnown o (now o w') j v) (λ names g i p k h.
        record {
          stands = ap (λ (n : Option Node). is_some n) (place g p k) ∙ h.stands;
          reads = ap (λ n. option_map core (read_at o.read p n)) (place g p k) ∙ h.reads;
          lists = ap (λ n. members_of (read_at o.read p n)) (place g p k) ∙ h.lists ∙ ap (listed_of j p) (sym (members_same p k));
        })

    pub gone_on : EachImage o.read w (AreGone o j) → EachImage o.read w' (AreGone o j)
    gone_on = each_to (λ v. IsGone o v) (λ v. IsGone o v) (λ names g i p k h.
        record {
          no_record = ap (λ n. option_map core (read_at o.read p n)) (place g p k) ∙ h.no_record;
          no_bytes = ap (λ (n : Option Node). is_some n) (place g p k) ∙ h.no_bytes;
          nothing = λ q c. ap (λ n. file_of (if is_outside q then n else None)) (sym (before_same g q (free p q k (sym (texts.overlap.covers p q) ∙ c)))) ∙ h.nothing q c;
        })
