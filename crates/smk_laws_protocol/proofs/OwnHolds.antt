-- Between two events: an output of an open job whose record is the job's, and which is what act gives, holds what the record vouches for.
use Rattle.smk_record.specs.declared.record.Stamp.{Stamp}
use Rattle.smk_laws_protocol.proofs.Formed.{all_named}
use Rattle.std.proofs.Common.{◌≡◌, ◌⊎◌, ℕ, Bool, true, false, List, ◌∷◌, ◌++◌, refl, sym, subst, inl, inr, arith, ◌∙◌, Option, Some, None, ◌<◌, [], zip, ap, length}
use Rattle.std.specs.Prelude.{IsTrue, IsSome, is_some, option_map, if◌then◌else◌, ◌&&◌, reverse, nat_lt, nat_le, ◌==◌}
use Rattle.std.proofs.lemmas.Bool.{ltb-true}
use Rattle.smk_laws_protocol.proofs.Valid.{of_node}
use Rattle.std.specs.List.{list_any, list_all}
use Rattle.std.specs.Option.{option_and_then}
use lib.Pointwise.{pointwise}
use Rattle.smk_record.specs.declared.record.Record.{Record}
use Rattle.smk_world.specs.declared.event.Node.{Node}
use Rattle.smk_base.specs.declared.tree.Tree.{Tree}
use Rattle.smk_world.specs.declared.recipe.Kind.TheVariants.{Plain, Folder as FolderKind}
use Rattle.smk_record.specs.declared.record.Stamp.TheVariants.{Time, Sum, Made}
use Rattle.smk_world.specs.Trees.{Path, among, folders_of, part_at, IsIn}
use Rattle.smk_base.specs.Path.{overlaps}
use Rattle.smk_world.specs.World.{folders_above, in_paths, World, out_paths}
use Rattle.smk_store.specs.Trust.{Versions, HasVersion, is_folder_record, Eased, none_eased}
use Rattle.smk_record.specs.Records.{stamped, same_member, core, is_earlier, is_valid}
use Rattle.smk_laws_protocol.proofs.View.{kind_in, View, Sound, Chain, Holds, Speaks, Clear, holder, is_whole}
use Rattle.smk_laws_protocol.proofs.Views.{Nodes, reads, view_of, read_at, place_node}
use Rattle.smk_base.specs.Place.{record_place}
use Rattle.smk_store.specs.Soundness.{Outside}
use Rattle.smk_laws_protocol.specs.Protocol.{OpenJob, RunState, own, outputs, begun_with, record_of, eased_by}
use Rattle.smk_laws_protocol.proofs.Rows.{now, IsAtHand}
use Rattle.smk_laws_protocol.proofs.Hand.{hand_recorded}
use Rattle.smk_laws_protocol.proofs.Between.{Midway, Fits, InPhase, VouchesLike, HasNoNew, HasNoNested, HoldsGiven}
use Rattle.smk_laws_protocol.proofs.Apart.{free_of, free_to}
use Rattle.smk_laws_protocol.proofs.Basics.{each_in, in_split, in_here, any_by, clash, none_some, some_same}
use Rattle.smk_laws_protocol.proofs.Crux.{own_holds}
use Rattle.smk_laws_protocol.proofs.Holders.{is_some_of, one_holder, holder_over, found_test, IsOver, own_holder, far_holder, by_option}
use Rattle.smk_laws_protocol.proofs.Jobs.{pair_apart}
use Rattle.smk_laws_protocol.proofs.Like.{IsLike, like_of, like_swap, like_then}
use Rattle.smk_laws_protocol.proofs.Naming.{IsImage, each_image, now_image}
use Rattle.smk_laws_protocol.proofs.Own.{Falls}
use Rattle.smk_base.proofs.Places.{place_itself}
use Rattle.smk_laws_protocol.proofs.Stays.{in_left, in_zip}
use Rattle.smk_laws_protocol.proofs.Texts.{Texts, OverlapLaws}

and_left : (a b : Bool) → (a && b) ≡ true → a ≡ true
and_left a b h = grind arith

and_right : (a b : Bool) → (a && b) ≡ true → b ≡ true
and_right a b h = grind arith

each_earlier : (made : ℕ) (ps : List Path) (ss : List Stamp) (q : Path) (m : ℕ) → list_all (is_earlier made) ss ≡ true → IsIn (zip ps ss) (q, Made m) → m < made
each_earlier made [] ss q m h i = absurd i
each_earlier made (p ∷ ps) [] q m h i = absurd i
each_earlier made (p ∷ ps) (s ∷ ss) q m h (inl e) = below s (ap (λ (x : Path × Stamp). x.1) e) (and_left (is_earlier made s) (list_all (is_earlier made) ss) h)
  where
    less : (a b : ℕ) → nat_lt a b ≡ true → a < b
    less a b k = ltb-true a b k

    below : (s : Stamp) → Made m ≡ s → is_earlier made s ≡ true → m < made
    below (Time t) e k = absurd (no m t e)
      where
        no : (m t : ℕ) → Made m ≡ Time t → ⊥
        no m t e = cc
    below (Sum t d) e k = absurd (no e)
      where
        no : Made m ≡ Sum t d → ⊥
        no e = cc
    below (Made n) e k = subst (λ x. x < made) (same n m e) (less n made k)
      where
        same : (n m : ℕ) → Made m ≡ Made n → n ≡ m
        same n m e = cc
each_earlier made (p ∷ ps) (s ∷ ss) q m h (inr i) = each_earlier made ps ss q m (and_right (is_earlier made s) (list_all (is_earlier made) ss) h) i

valid_falls : (r : Record) → is_valid r ≡ true → Falls (core r)
valid_falls r h q m i =
    each_earlier r.made (in_paths r.recipe) r.stamps q m
    (and_left (list_all (is_earlier r.made) r.stamps) _ (and_right (nat_le 1 r.made) _ (and_right (among (out_paths r.recipe) r.path) _ (and_right (length r.stamps == length (in_paths r.recipe)) _ h))))
    i

-- what reads is a record of which the serials fall
pub reads_fall : (o : Outside) → (p : Path) (n : Option Node) (r : Record) → option_map core (read_at o.read p n) ≡ Some r → Falls r
reads_fall o p n r h = of_kept (read_at o.read p n) refl h
  where
    of_kept : (x : Option Record) → read_at o.read p n ≡ x → option_map core x ≡ Some r → Falls r
    of_kept None e h = none_some None refl h
    of_kept (Some s) e h = subst Falls (some_same h) (valid_falls s (of_node o.read p n s e).1)

-- the job has an input under h, where h is over that input
pub over_overlaps : (laws : OverlapLaws) (q h : Path) → IsOver q h → overlaps q h ≡ true
over_overlaps laws q h (inl e) = subst (λ x. overlaps q x ≡ true) (sym e) (laws.self q)
over_overlaps laws q h (inr f) = laws.swap q h ∙ laws.above h q (laws.folder q h f)

-- what is under a holder is under a directory
pub under_directory : (v : View) (q h : Path) (r : Record) → holder v q ≡ Some h → v.record_at h ≡ Some r → IsTrue (is_whole v h (kind_in r h)) → (q ≡ h) ⊎ (IsIn (reverse (folders_above q)) h × (v.is_folder h ≡ true))
under_directory v q h r is at whole =
    by_option (v.record_at q)
    (λ s k. inl (some_same (sym (own_holder v q s k) ∙ is)))
    (λ k.
    let found = sym (far_holder v q k) ∙ is in
    inr (above (holder_over v q h is) k, folder (found_test (λ f. is_folder_record f (v.record_at f)) (reverse (folders_above q)) h found)))
  where
    above : IsOver q h → v.record_at q ≡ None → IsIn (reverse (folders_above q)) h
    above (inl e) k = none_some (v.record_at q) k (subst (λ x. v.record_at x ≡ Some r) e at)
    above (inr f) k = f

    first : (a b : Bool) → (a && b) ≡ true → a ≡ true
    first a b h = grind arith

    by_kind : (b : Bool) → b ≡ true → IsTrue (is_whole v h (if b then FolderKind else Plain)) → v.is_folder h ≡ true
    by_kind true e k = first (v.is_folder h) (pointwise same_member (v.members h) (v.listed h)) k
    by_kind false e k = clash false e refl

    folder : is_folder_record h (v.record_at h) ≡ true → v.is_folder h ≡ true
    folder k = by_kind (among (folders_of r.recipe) h) (subst (λ x. is_folder_record h x ≡ true) at k) whole

module _
    (o : Outside) (texts : Texts o.read) (entry : World) (H : Versions) (s : RunState) (js ks : List OpenJob) (j : OpenJob) (w : World)
    (m : Midway o entry H (record s { jobs = js ++ j ∷ ks }) w) where
  abbrev e : Eased
  e = eased_by (js ++ j ∷ ks)

  fits : Fits o entry e s.top w j
  fits = each_in (Fits o entry e s.top w) (js ++ j ∷ ks) j m.fits (in_here js ks j)

  -- where an open Restore found a record, one that vouches for the same reads now
  pub eased_now : (h : Path) (r : Record) → e h r → (s : Record) × ((now o w).record_at h ≡ Some s) × e h s × IsLike H r s
  eased_now h r k = go ((each_in (InPhase o w) (js ++ j ∷ ks) k.0 m.phases k.1).kept k.2 h k.3.found k.3.kept)
    where
      like : IsLike H k.3.found (record_of k.0 h)
      like = (each_in (VouchesLike o H) (js ++ j ∷ ks) k.0 m.like k.1 h k.3.found k.3.kept).like

      to_found : (r ≡ k.3.found) ⊎ (r ≡ record_of k.0 h) → IsLike H r k.3.found
      to_found (inl is) = like_of H r k.3.found is
      to_found (inr is) = like_then H r (record_of k.0 h) k.3.found (like_of H r (record_of k.0 h) is) (like_swap H k.3.found (record_of k.0 h) like)

      eased : (s : Record) → (s ≡ k.3.found) ⊎ (s ≡ record_of k.0 h) → e h s
      eased s is = (k.0, k.1, k.2, record { found = k.3.found; kept = k.3.kept; is = is })

      go :
          ((now o w).record_at h ≡ Some k.3.found) ⊎ ((now o w).record_at h ≡ Some (record_of k.0 h)) →
          (s : Record) × ((now o w).record_at h ≡ Some s) × e h s × IsLike H r s
      go (inl at) = (k.3.found, at, eased k.3.found (inl refl), to_found k.3.is)
      go (inr at) = (record_of k.0 h, at, eased (record_of k.0 h) (inr refl), like_then H r k.3.found (record_of k.0 h) (to_found k.3.is) like)

  input_free : (x : OpenJob) → (x ≡ j) ⊎ IsIn (js ++ ks) x → (q : Path) → IsIn (in_paths j.recipe) q → list_any (overlaps q) (own x) ≡ false
  input_free x (inl k) q i = subst (λ y. list_any (overlaps q) (own y) ≡ false) (sym k) (free_to texts.overlap (own j) (in_paths j.recipe) q fits.from_inputs i)
  input_free x (inr k) q i = free_of (in_paths j.recipe) (own x) q ((pair_apart o texts.overlap js ks j x m.apart k).0.2) i

  in_inputs : (q : Path) (n : ℕ) → IsIn (begun_with j) (q, Made n) → IsIn (in_paths j.recipe) q
  in_inputs q n i = in_zip (in_paths j.recipe) j.stamps q (Made n) i

  not_eased : (q h : Path) (n : ℕ) (r : Record) → IsIn (begun_with j) (q, Made n) → holder (now o w) q ≡ Some h → e h r → ⊥
  not_eased q h n r i is k =
      let out = ((each_in (Fits o entry e s.top w) (js ++ j ∷ ks) k.0 m.fits k.1).kept_own h k.3.found k.3.kept).0 in
      clash (list_any (overlaps q) (own k.0))
      (any_by (overlaps q) (own k.0) h (in_left (outputs k.0) k.0.logs h out) (over_overlaps texts.overlap q h (holder_over (now o w) q h is)))
      (input_free k.0 (in_split js ks j k.0 k.1) q (in_inputs q n i))

  part_now : (q h : Path) (r : Record) → holder (now o w) q ≡ Some h → (now o w).record_at h ≡ Some r → IsTrue (is_whole (now o w) h (kind_in r h)) → (q ≡ h) ⊎ IsTrue (is_some ((now o w).file q)) → option_and_then (part_at h q) ((now o w).tree h) ≡ (now o w).tree q
  part_now q h r is at whole filed = go filed (under_directory (now o w) q h r is at whole)
    where
      self : (t : Option Tree) → option_and_then (part_at h h) t ≡ t
      self None = refl
      self (Some t) = rw (place_itself h) refl

      go : (q ≡ h) ⊎ IsTrue (is_some ((now o w).file q)) → (q ≡ h) ⊎ (IsIn (reverse (folders_above q)) h × ((now o w).is_folder h ≡ true)) → option_and_then (part_at h q) ((now o w).tree h) ≡ (now o w).tree q
      go (inl k) d = subst (λ x. option_and_then (part_at h x) ((now o w).tree h) ≡ (now o w).tree x) (sym k) (self ((now o w).tree h))
      go (inr k) (inl d) = subst (λ x. option_and_then (part_at h x) ((now o w).tree h) ≡ (now o w).tree x) (sym d) (self ((now o w).tree h))
      go (inr k) (inr d) = texts.parts w.names (reads w) h q m.images.formed.rising (all_named _ m.images.formed) d.1 (texts.overlap.folder q h d.0) k

  module _ (names : List Path) (f : Nodes) (i : IsImage w names f) where
    abbrev here : View
    here = view_of o.read names f

    there : (q h : Path) (r : Record) → Clear here e h r → IsSome ((now o w).record_at h)
    there q h r c = go c.1
      where
        go : (here.marked h ≡ false) ⊎ e h r → IsSome ((now o w).record_at h)
        go (inl k) = is_some_of r ((now o w).record_at h) (each_image o.read w (HasNoNew o (now o w)) m.images.no_new names f i h r c.0 k).0
        go (inr k) = let s = eased_now h r k in is_some_of s.0 ((now o w).record_at h) s.1

    one : (q h h0 : Path) (r r0 : Record) → Speaks here e q h r → Speaks (now o w) none_eased q h0 r0 → h ≡ h0
    one q h h0 r r0 a b = one_holder o texts.holders (now o w) here e (each_image o.read w (HasNoNested o) m.images.no_nested w.names (reads w) (now_image w m.images.formed)) q h h0 r r0 a (there q h r a.clear) b

    pub own_at :
        (p : Path) → here.record_at p ≡ Some (record_of j p) → Chain here e (record_of j p) → HoldsGiven o (now o w) j here p → Holds here o.act H p (record_of j p)
    own_at p at chain given =
        own_holds o texts.outside texts.folders entry H e s.top s.steady w m.images j fits part_now not_eased names f i.rising i.complete i.covered i.leaves
        (λ h r is. reads_fall o h (place_node f record_place h) r is) one p at chain fits.at_hand given

  -- the sources that the job was made of are in H
  now_sound : Sound o.act H (now o w) e
  now_sound = each_image o.read w (λ v. Sound o.act H v e) m.images.sound w.names (reads w) (now_image w m.images.formed)

  pub recorded : (p x : Path) (s : Stamp) → IsIn (stamped (record_of j p)) (x, s) → HasVersion H x s
  recorded p x s i = hand_recorded o H (now o w) now_sound.has_sources x s (each_in (IsAtHand o (now o w)) (begun_with j) (x, s) fits.at_hand i)
