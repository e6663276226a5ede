-- Each row of the automaton that leads a job from phase to phase, but for the start and the end of its child.
use Rattle.smk_store.specs.declared.store.Kept.{Kept}
use Rattle.smk_laws_protocol.proofs.Formed.{all_named}
use Rattle.std.proofs.Common.{◌≡◌, ◌⊎◌, ℕ, suc, Bool, true, false, List, [], ◌∷◌, ◌++◌, map, zip, length, refl, sym, ap, subst, inl, inr, arith, ◌∙◌, Option, Some, None}
use Rattle.std.specs.Prelude.{bytes_eq, IsTrue, is_some, option_map, if◌then◌else◌, ◌||◌, Ok}
use Rattle.smk_world.specs.declared.event.Call.{Call}
use Rattle.smk_world.specs.declared.event.Call.TheVariants.{Written, Created, Removed, MadeParents, Settled}
use Rattle.smk_world.specs.declared.event.Change.{Change as LeftNode}
use Rattle.smk_world.specs.declared.event.Node.{Node}
use Rattle.smk_world.specs.declared.event.Node.TheVariants.{Regular}
use Rattle.smk_world.specs.declared.event.NodeState.{NodeState}
use Rattle.smk_world.specs.declared.event.NodeState.TheVariants.{Owned, Known}
use Rattle.smk_world.specs.declared.recipe.Out.{Out}
use Rattle.smk_world.specs.declared.recipe.Kind.{Kind}
use Rattle.smk_base.specs.declared.tree.Tree.{Tree}
use Rattle.smk_world.specs.Trees.{Path, outs_of, is_good, IsIn, Each, is_path_text}
use Rattle.smk_store.specs.Images.{is_outside, readable}
use Rattle.smk_base.specs.Path.{is_under, overlaps, is_at_or_under}
use Rattle.smk_world.specs.World.{in_paths, World, IsFormed, MayLeave, after, owned_by, reading, loose, standing}
use Rattle.smk_store.specs.Trust.{Versions, Eased}
use Rattle.smk_laws_protocol.proofs.View.{View}
use Rattle.smk_record.specs.declared.record.Record.{Record}
use Rattle.smk_record.specs.Records.{core}
use Rattle.smk_laws_protocol.proofs.Views.{EachImage, HasNames, reads, view_of, read_at}
use Rattle.smk_base.specs.Place.{mark_place, record_place, note_place}
use Rattle.smk_store.specs.Soundness.{Outside}
use Rattle.smk_laws_protocol.specs.Protocol.{OpenJob, Phase, Marking, Marked, Running, Ended, Firm, Recorded, Dropping, Dropped, RunState, own, outputs, mark_places, record_places, record_of, listed_of, keeps, is_running, eased_by, begun_with, AreAmong, IsThere, IsRecordOf}
use Rattle.smk_laws_protocol.proofs.Rows.{now, IsAtHand, IsGood, Moves, MakeFolders, Mark, AllMarked, MakeRoom, Start, Wait, AllMade, Write, AllWritten, Drop, AllDropped, Unmark}
use Rattle.smk_laws_protocol.proofs.Between.{Midway, Fits, InPhase, Lets, HoldsGiven, given, IsKnown, AreGone, IsKept, IsFirmly, has_firm_marks, is_marking, is_made}
use Rattle.smk_laws_protocol.proofs.Acted.{given_is, hand_has_tree, outs_are}
use Rattle.smk_laws_protocol.proofs.Along.{Left, moved_quietly}
use Rattle.smk_laws_protocol.proofs.Basics.{each_in, each_of, in_here, in_rest, in_split, by_test, clash}
use Rattle.smk_laws_protocol.proofs.Calls.{event, Allows, call_change, in_map, owned_own}
use Rattle.smk_laws_protocol.proofs.Change.{Change, Differs}
use Rattle.smk_laws_protocol.proofs.Guarded.{in_either}
use Rattle.smk_laws_protocol.proofs.Jobs.{at_phase, pairs_rest, pairs_with, pair_apart, apart_phase, eased_phase}
use Rattle.smk_laws_protocol.proofs.OwnImages.{made_on, known_on, gone_on}
use Rattle.smk_laws_protocol.proofs.OwnPhase.{MarksFirm, NotesFirm, in_marking, in_marked, in_firm, in_recorded, in_dropping, in_dropped}
use Rattle.smk_laws_protocol.proofs.Phases.{each_with}
use Rattle.smk_laws_protocol.proofs.Quiet.{IsQuietCall, quiet_call, own_free, record_free}
use Rattle.smk_base.proofs.Places.{same_place, place_itself}
use Rattle.smk_laws_protocol.proofs.Settled.{all_firm, all_made, all_known, all_gone, map_in}
use Rattle.smk_laws_protocol.proofs.Settling.{firm_leaves, either}
use Rattle.smk_laws_protocol.proofs.Stays.{in_left, in_right}
use Rattle.smk_laws_protocol.proofs.Texts.{Texts}
use Rattle.smk_laws_protocol.proofs.Untouched.{HasNoRecords, untouched_same, mark_untouched, note_untouched, record_untouched, record_same}

-- the states of the phases that a row leads from, and to
pub left_of : (js ks : List OpenJob) (j : OpenJob) (phase : Phase) → Left js ks (js ++ at_phase j phase ∷ ks) j phase
left_of js ks j phase = record { each = λ k i. turn k (in_split js ks (at_phase j phase) k i); running = λ k i r. in_rest js ks (at_phase j phase) k i }
  where
    turn : (k : OpenJob) → (k ≡ at_phase j phase) ⊎ IsIn (js ++ ks) k → IsIn (js ++ ks) k ⊎ (k ≡ at_phase j phase)
    turn k (inl e) = inr e
    turn k (inr i) = inl i

zip_of : {A B : Type 0} (xs : List A) (ys : List B) (x : A) → length ys ≡ length xs → IsIn xs x → (y : B) × IsIn (zip xs ys) (x, y)
zip_of [] ys x h i = absurd i
zip_of (z ∷ xs) [] x h i = absurd (no (length xs) h)
  where
    no : (n : ℕ) → 0 ≡ suc n → ⊥
    no n h = grind arith
zip_of (z ∷ xs) (t ∷ ys) x h (inl e) = (t, inl (λ k. (e k, t)))
zip_of (z ∷ xs) (t ∷ ys) x h (inr i) = let r = zip_of xs ys x (down (length ys) (length xs) h) i in (r.0, inr r.1)
  where
    down : (a b : ℕ) → suc a ≡ suc b → a ≡ b
    down a b h = grind arith

good_some : (p : Path) (k : Kind) (t : Option Tree) → is_good p k t ≡ true → is_some t ≡ true
good_some p k None h = clash false h refl
good_some p k (Some t) h = refl

module _
    (o : Outside) (texts : Texts o.read) (entry : World) (H : Versions) (s : RunState) (js ks : List OpenJob) (j : OpenJob) (w : World)
    (m : Midway o entry H (record s { jobs = js ++ j ∷ ks }) w) (left : List LeftNode) where
  abbrev e : Eased
  e = eased_by (js ++ j ∷ ks)

  abbrev then_ : Call → World
  then_ c = after w (event c left)

  pub fits : Fits o entry e s.top w j
  fits = each_in (Fits o entry e s.top w) (js ++ j ∷ ks) j m.fits (in_here js ks j)

  pub phase : InPhase o w j
  phase = each_in (InPhase o w) (js ++ j ∷ ks) j m.phases (in_here js ks j)

  pub owned : (n : ℕ) (p : Path) → j.phase ≡ Running n → IsIn (owned_by n w.children) p → IsIn (own j) p
  owned n p runs i = owned_own o texts entry H s js ks j w m e (λ p r h. h) left n runs p i

  -- ---- what stays

  pub marks_on : (c : Call) → Allows o j c → has_firm_marks o j.phase ≡ true → MarksFirm o (then_ c) j
  marks_on c a h =
      each_with (λ p. IsFirmly o w (mark_place p)) (λ p. IsFirmly o (then_ c) (mark_place p)) (outputs j)
      (λ x i f. (f.0, (untouched_same w (mark_place x) c left (mark_untouched o texts w j fits.paths owned c a h x)).firm_same (Some f.0) f.1)) (phase.marks h)

  pub notes_on : (c : Call) → Allows o j c → is_marking o j.phase ≡ false → NotesFirm o (then_ c) j
  notes_on c a h =
      each_with (λ p. IsFirmly o w (note_place p)) (λ p. IsFirmly o (then_ c) (note_place p)) j.logs
      (λ x i f. (f.0, (untouched_same w (note_place x) c left (note_untouched o texts w j fits.paths owned c a h x)).firm_same (Some f.0) f.1)) (phase.notes h)

  record_stays : (c : Call) → Allows o j c → HasNoRecords o texts w j fits.paths owned c → (x : Path) → (now o (then_ c)).record_at x ≡ (now o w).record_at x
  record_stays c a none x = record_same o w (then_ c) x (untouched_same w (record_place x) c left (record_untouched o texts w j fits.paths owned c a none x)).reads_same

  kept_by :
      (v : View) (p : Path) (r : Record) → v.record_at p ≡ (now o w).record_at p →
      ((now o w).record_at p ≡ Some r) ⊎ ((now o w).record_at p ≡ Some (record_of j p)) → (v.record_at p ≡ Some r) ⊎ (v.record_at p ≡ Some (record_of j p))
  kept_by v p r same (inl is) = inl (same ∙ is)
  kept_by v p r same (inr is) = inr (same ∙ is)

  pub kept_on : (c : Call) → Allows o j c → HasNoRecords o texts w j fits.paths owned c → keeps j.phase ≡ true → IsKept o (now o (then_ c)) j
  kept_on c a none h p r at = kept_by (now o (then_ c)) p r (record_stays c a none p) (phase.kept h p r at)

  -- ---- a row

  abbrev Goal : Call → Phase → Type 0
  Goal c to = Midway o entry H (record s { jobs = js ++ at_phase j to ∷ ks }) (then_ c)

  pub change : (c : Call) (to : Phase) → Lets o w (event c left) c → Allows o j c → (keeps to ≡ true → keeps j.phase ≡ true) → Change o entry H j e (eased_by (js ++ at_phase j to ∷ ks)) w (then_ c)
  change c to lets a less =
      call_change o texts entry H s js ks j w m (eased_by (js ++ at_phase j to ∷ ks))
      (eased_phase js ks j to less (λ k i. in_rest js ks j k i) (in_here js ks j)) left c lets a

  row :
      (c : Call) (to : Phase) → Lets o w (event c left) c → Allows o j c → (keeps to ≡ true → keeps j.phase ≡ true) → is_running j.phase ≡ false → ((n : ℕ) → to ≡ Running n → ⊥) → IsQuietCall c →
      InPhase o (then_ c) (at_phase j to) → Goal c to
  row c to lets a less still no_run quiet in_phase =
      moved_quietly o texts.overlap texts.naming entry H s js ks (js ++ at_phase j to ∷ ks) j to w (then_ c) m (change c to lets a less) s.faulted still
      (quiet_call w c left quiet) (left_of js ks j to)
      (pairs_with o texts.overlap js ks (at_phase j to) (pairs_rest o texts.overlap js ks j m.apart)
      (λ k i. apart_phase o texts.overlap j k to (λ n h r. no_run n h) (pair_apart o texts.overlap js ks j k m.apart i)))
      (λ i. in_phase)

  from_phase : (P : Phase → Type 0) (a : Phase) → j.phase ≡ a → P a → P j.phase
  from_phase P a h p = subst P (sym h) p

  -- ---- marks

  settled_stays : (ps : List Path) (q : Path) (n : Option Node) → MayLeave ((then_ (Settled ps (Ok tt))).nodes q) n → MayLeave (w.nodes q) n
  settled_stays ps q n = either (λ t. MayLeave t n → MayLeave (w.nodes q) n) _ (w.nodes q) (firm_leaves (w.nodes q) n) (λ h. h)

  settled_reads : (ps : List Path) (q : Path) → reads (then_ (Settled ps (Ok tt))) q ≡ reads w q
  settled_reads ps q = (untouched_same w q (Settled ps (Ok tt)) left tt).reads_same

  formed : (c : Call) → IsFormed (then_ c)
  formed c = texts.formed w (event c left) m.images.formed

  all_marked : (ps : List Path) → j.phase ≡ Marking → Each (IsThere w) (mark_places j) → AreAmong ps (mark_places j) → InPhase o (then_ (Settled ps (Ok tt))) (at_phase j Marked)
  all_marked ps h standing all =
      in_marked o (then_ (Settled ps (Ok tt))) j
      (each_of (λ p. IsFirmly o (then_ (Settled ps (Ok tt))) (mark_place p)) (outputs j) (λ p i. firm (mark_place p) (in_left (map mark_place (outputs j)) (map note_place j.logs) (mark_place p) (map_in mark_place (outputs j) p i))))
      (each_of (λ p. IsFirmly o (then_ (Settled ps (Ok tt))) (note_place p)) j.logs (λ p i. firm (note_place p) (in_right (map mark_place (outputs j)) (map note_place j.logs) (note_place p) (map_in note_place j.logs p i))))
      (kept_on (Settled ps (Ok tt)) tt tt (ap keeps h))
    where
      firm : (q : Path) → IsIn (mark_places j) q → IsFirmly o (then_ (Settled ps (Ok tt))) q
      firm q i = all_firm o texts w ps left m.images.formed (mark_places j) all q i (each_in (IsThere w) (mark_places j) q standing i)

  -- ---- outputs

  settled_now : (ps : List Path) → now o (then_ (Settled ps (Ok tt))) ≡ now o w
  settled_now ps =
      texts.naming.same (then_ (Settled ps (Ok tt))).names w.names (reads (then_ (Settled ps (Ok tt)))) (formed (Settled ps (Ok tt))).rising m.images.formed.rising (all_named _ (formed (Settled ps (Ok tt))))
      (subst (HasNames w.names) (sym reads_eq) (all_named _ m.images.formed))
      ∙ ap (view_of o.read w.names) reads_eq
    where
      reads_eq : reads (then_ (Settled ps (Ok tt))) ≡ reads w
      reads_eq i q = settled_reads ps q i

  inputs_have : (q : Path) → IsIn (in_paths j.recipe) q → is_some ((now o w).tree q) ≡ true
  inputs_have q i = let s = zip_of (in_paths j.recipe) j.stamps q fits.each_stamped i in hand_has_tree o w q s.0 (each_in (IsAtHand o (now o w)) (begun_with j) (q, s.0) fits.at_hand s.1)

  -- the outputs as they must be
  made_now : (ps : List Path) → j.phase ≡ Ended 0 → Each (IsGood o w) (outs_of j.recipe) → AreAmong ps (outputs j) → EachImage o.read (then_ (Settled ps (Ok tt))) (λ v. Each (HoldsGiven o (now o (then_ (Settled ps (Ok tt)))) j v) (outputs j))
  made_now ps h good all =
      all_made o texts w ps left m.images.formed j (formed (Settled ps (Ok tt))) (λ p q i u. own_free o texts entry H s js ks j w m (ap is_running h) p q (in_left (outputs j) j.logs p i) u) all
      (λ p i. ap (λ n. given o n j p) (settled_now ps) ∙ given_is o texts.overlap w j fits.apart inputs_have (phase.ended h) (λ x k. each_in (IsGood o w) (outs_of j.recipe) x good k) p i)
      (λ p i.
      let x = in_map (λ (x : Out). x.path) (outs_of j.recipe) p (subst (λ ps. IsIn ps p) (outs_are j.recipe) i) in
      subst (λ y. is_some ((now o w).tree y) ≡ true) (sym x.2) (good_some x.0.path x.0.kind ((now o w).tree x.0.path) (each_in (IsGood o w) (outs_of j.recipe) x.0 good x.1)))

  differs : (c : Call) → Lets o w (event c left) c → Allows o j c → Differs j (now o w) (now o (then_ c))
  differs c lets a = (call_change o texts entry H s js ks j w m e (λ p r h. h) left c lets a).differs_now

  is_a_path : (p : Path) → IsIn (outputs j) p → is_outside p ≡ true
  is_a_path p i = each_in (λ x. IsTrue (is_outside x)) (own j) p fits.paths (in_left (outputs j) j.logs p i)

  made_settled : (ps : List Path) → Lets o w (event (Settled ps (Ok tt)) left) (Settled ps (Ok tt)) → is_made o j.phase ≡ true → EachImage o.read (then_ (Settled ps (Ok tt))) (λ v. Each (HoldsGiven o (now o (then_ (Settled ps (Ok tt)))) j v) (outputs j))
  made_settled ps lets h =
      made_on o texts j fits.from_inputs w (then_ (Settled ps (Ok tt))) m.images.formed (formed (Settled ps (Ok tt))) (differs (Settled ps (Ok tt)) lets tt)
      (λ q. false) (λ q f n. settled_stays ps q n) (λ q f. settled_reads ps q) (λ p q i u. refl) (phase.made h)

  at_self : (x : Path) → is_at_or_under x x ≡ true
  at_self x = rw (place_itself x) refl

  under_false : (a b : Bool) → (a || b) ≡ false → a ≡ false
  under_false a b h = grind arith

  eq_false : (q p : Path) → is_at_or_under q p ≡ false → bytes_eq q p ≡ false
  eq_false q p h = under_false (bytes_eq q p) (is_under q p) h

  -- ---- a record is written

  module _ (p : Path) (bytes : List ℕ) (i : IsIn (outputs j) p) (reads_so : IsRecordOf o p bytes (record (record_of j p) { members = listed_of j p ((now o w).members p) }))
      (lets : Lets o w (event (Written (record_place p) bytes (Ok tt)) left) (Written (record_place p) bytes (Ok tt))) where
    abbrev writing : Call
    writing = Written (record_place p) bytes (Ok tt)

    node_same : (q : Path) → is_at_or_under q (record_place p) ≡ false → (then_ writing).nodes q ≡ w.nodes q
    node_same q h = rw (eq_false q (record_place p) h) refl

    loose_reads : (n : Option Node) (t : NodeState) → (t ≡ Owned → ⊥) → reading (loose n t) ≡ n
    loose_reads n Owned h = absurd (h refl)
    loose_reads n (Known k b) h = refl

    pick : {A : Type 0} (b : Bool) (x y : A) → b ≡ true → (if b then x else y) ≡ x
    pick b x y h = rw h refl

    new_node : reads (then_ writing) (record_place p) ≡ Some (Regular bytes lets.0 lets.1)
    new_node =
        ap reading (pick (bytes_eq (record_place p) (record_place p)) (loose (standing left (record_place p)) (w.nodes (record_place p))) (w.nodes (record_place p)) (place_itself (record_place p)))
        ∙ loose_reads (standing left (record_place p)) (w.nodes (record_place p)) (record_free o texts entry H s js ks j w m p)
        ∙ ap (λ l. standing l (record_place p)) lets.2
        ∙ pick (bytes_eq (record_place p) (record_place p)) (Some (Regular bytes lets.0 lets.1)) None (place_itself (record_place p))

    new_reads : (now o (then_ writing)).record_at p ≡ Some (record_of j p)
    new_reads =
        ap (λ n. option_map core (read_at o.read p n)) (ap (λ t. if t then reads (then_ writing) (record_place p) else None) (each_in (λ x. IsTrue (is_path_text x)) (own j) p fits.texts (in_left (outputs j) j.logs p i)) ∙ new_node)
        ∙ ap (λ (k : Kept). option_map core (readable k)) (reads_so lets.0 lets.1)

    kept_written : keeps j.phase ≡ true → IsKept o (now o (then_ writing)) j
    kept_written h x r at =
        by_test (bytes_eq x p)
        (λ k. inr (subst (λ y. (now o (then_ writing)).record_at y ≡ Some (record_of j y)) (sym (same_place x p k)) new_reads))
        (λ k. kept_by (now o (then_ writing)) x r (record_same o w (then_ writing) x (ap reading (node_same (record_place x) (texts.records.record_record p x k)))) (phase.kept h x r at))

    made_written : Allows o j writing → is_made o j.phase ≡ true → EachImage o.read (then_ writing) (λ v. Each (HoldsGiven o (now o (then_ writing)) j v) (outputs j))
    made_written a h =
        made_on o texts j fits.from_inputs w (then_ writing) m.images.formed (formed writing) (differs writing lets a)
        (λ q. is_at_or_under q (record_place p)) (λ q f n k. subst (λ t. MayLeave t n) (node_same q f) k) (λ q f. ap reading (node_same q f))
        (λ x q k u. texts.far.record_far x q p (is_a_path x k) u) (phase.made h)

  -- ---- folders_above are made above a record

  module _ (p : Path) (i : IsIn (record_places j) p) (lets : Lets o w (event (MadeParents p (Ok tt)) left) (MadeParents p (Ok tt))) where
    unfolder : (q : Path) → is_under p q ≡ false → (then_ (MadeParents p (Ok tt))).nodes q ≡ w.nodes q
    unfolder q h = rw h refl

    made_under : is_made o j.phase ≡ true → EachImage o.read (then_ (MadeParents p (Ok tt))) (λ v. Each (HoldsGiven o (now o (then_ (MadeParents p (Ok tt)))) j v) (outputs j))
    made_under h =
        made_on o texts j fits.from_inputs w (then_ (MadeParents p (Ok tt))) m.images.formed (formed (MadeParents p (Ok tt))) (differs (MadeParents p (Ok tt)) lets (inl (inr i)))
        (λ q. is_under p q) (λ q f n k. subst (λ t. MayLeave t n) (unfolder q f) k) (λ q f. ap reading (unfolder q f)) far (phase.made h)
      where
        far : (x q : Path) → IsIn (outputs j) x → is_at_or_under q x ≡ true → is_under p q ≡ false
        far x q k u =
            let y = in_map record_place (outputs j) p i in
            by_test (is_under p q)
            (λ t. clash (overlaps x p) (texts.overlap.down x q p u (texts.overlap.above q p t)) (subst (λ z. overlaps x z ≡ false) (sym y.2) (texts.far.record_apart x y.0 (is_a_path x k))))
            (λ t. t)

  -- ---- a mark is removed

  module _ (p : Path) (i : IsIn (outputs j) p) (lets : Lets o w (event (Removed (mark_place p) (Ok tt)) left) (Removed (mark_place p) (Ok tt))) (a : Allows o j (Removed (mark_place p) (Ok tt))) where
    abbrev unmarking : Call
    unmarking = Removed (mark_place p) (Ok tt)

    other_same : (q : Path) → is_at_or_under q (mark_place p) ≡ false → (then_ unmarking).nodes q ≡ w.nodes q
    other_same q h = rw h refl

    made_unmarked : is_made o j.phase ≡ true → EachImage o.read (then_ unmarking) (λ v. Each (HoldsGiven o (now o (then_ unmarking)) j v) (outputs j))
    made_unmarked h =
        made_on o texts j fits.from_inputs w (then_ unmarking) m.images.formed (formed unmarking) (differs unmarking lets a)
        (λ q. is_at_or_under q (mark_place p)) (λ q f n k. subst (λ t. MayLeave t n) (other_same q f) k) (λ q f. ap reading (other_same q f))
        (λ x q k u. texts.far.mark_far x q p (is_a_path x k) u) (phase.made h)

    known_unmarked : j.phase ≡ Recorded → EachImage o.read (then_ unmarking) (λ v. Each (IsKnown o (now o (then_ unmarking)) j v) (outputs j))
    known_unmarked h =
        known_on o texts j fits.from_inputs w (then_ unmarking) m.images.formed (formed unmarking) (differs unmarking lets a)
        (λ q. is_at_or_under q (mark_place p)) (λ q f n k. subst (λ t. MayLeave t n) (other_same q f) k) (λ q f. ap reading (other_same q f))
        (λ x q k u. texts.far.mark_far x q p (is_a_path x k) u) (λ x k. texts.marks.mark_record p x) (phase.known h)

    gone_unmarked : j.phase ≡ Dropped → EachImage o.read (then_ unmarking) (AreGone o j)
    gone_unmarked h =
        gone_on o texts j fits.from_inputs w (then_ unmarking) m.images.formed (formed unmarking) (differs unmarking lets a)
        (λ q. is_at_or_under q (mark_place p)) (λ q f n k. subst (λ t. MayLeave t n) (other_same q f) k) (λ q f. ap reading (other_same q f))
        (λ x q k u. texts.far.mark_far x q p (is_a_path x k) u) (λ x k. texts.marks.mark_record p x) (phase.gone h)

    no_record_there : IsIn (record_places j) (mark_place p) → ⊥
    no_record_there k =
        let y = in_map record_place (outputs j) (mark_place p) k in
        clash (is_at_or_under (record_place y.0) (mark_place p)) (subst (λ z. is_at_or_under z (mark_place p) ≡ true) y.2 (at_self (mark_place p))) (texts.marks.mark_record p y.0)

  no_record : (p : Path) → IsIn (outputs j) p → IsIn (record_places j) p → ⊥
  no_record p i k =
      let y = in_map record_place (outputs j) p k in
      clash (is_at_or_under (record_place y.0) p) (subst (λ z. is_at_or_under z p ≡ true) y.2 (at_self p)) (texts.outside.record_out p y.0 (is_a_path p i))

  never : {A : Type 0} → false ≡ true → A
  never h = clash false h refl

  pub go : (c : Call) (to : Phase) → Lets o w (event c left) c → Moves o w j c to → ((n : ℕ) → to ≡ Running n → ⊥) → is_running j.phase ≡ false → Goal c to
  go c to lets (MakeFolders p (inl (h, i))) no_run still =
      let c = MadeParents p (Ok tt) in
      row c j.phase lets (inl (inl i)) (λ k. k) still no_run tt
      (from_phase (λ x. InPhase o (then_ c) (at_phase j x)) Marking h (in_marking o (then_ c) j (kept_on c (inl (inl i)) tt (ap keeps h))))
  go c to lets (MakeFolders p (inr (inr (h, i)))) no_run still =
      let c = MadeParents p (Ok tt) in
      let a : Allows o j (MadeParents p (Ok tt)) = inl (inr i) in
      row c j.phase lets a (λ k. k) still no_run tt
      (from_phase (λ x. InPhase o (then_ c) (at_phase j x)) Firm h
      (in_firm o (then_ c) j (marks_on c a (ap (has_firm_marks o) h)) (notes_on c a (ap (is_marking o) h)) (kept_on c a tt (ap keeps h)) (made_under p i lets (ap (is_made o) h))))
  go c to lets (MakeFolders p (inr (inl (h, i)))) no_run still =
      let c = MadeParents p (Ok tt) in
      let a : Allows o j (MadeParents p (Ok tt)) = inr (ap (has_firm_marks o) h, ap (is_marking o) h, i) in
      row c j.phase lets a (λ k. k) still no_run tt
      (from_phase (λ x. InPhase o (then_ c) (at_phase j x)) Marked h
      (in_marked o (then_ c) j (marks_on c a (ap (has_firm_marks o) h)) (notes_on c a (ap (is_marking o) h)) (kept_on c a tt (ap keeps h))))
  go c to lets (Mark p made h i) no_run still =
      let c = Created p (Ok made) in
      row c Marking lets (h, i) (λ k. ap keeps h) still no_run tt (in_marking o (then_ c) j (kept_on c (h, i) tt (ap keeps h)))
  go c to lets (AllMarked ps h standing all) no_run still = row (Settled ps (Ok tt)) Marked lets tt (λ k. ap keeps h) still no_run tt (all_marked ps h standing all)
  go c to lets (MakeRoom p h i) no_run still =
      let c = Removed p (Ok tt) in
      let a : Allows o j (Removed p (Ok tt)) = inl (ap (has_firm_marks o) h, ap (is_marking o) h, inl i) in
      row c Marked lets a (λ k. ap keeps h) still no_run tt
      (in_marked o (then_ c) j (marks_on c a (ap (has_firm_marks o) h)) (notes_on c a (ap (is_marking o) h)) (kept_on c a (no_record p i) (ap keeps h)))
  go c to lets (Start command n h) no_run still = absurd (no_run n refl)
  go c to lets (Wait n status h) no_run still = clash (is_running j.phase) (ap is_running h) still
  go c to lets (AllMade ps h good all) no_run still =
      let c = Settled ps (Ok tt) in
      row c Firm lets tt (λ k. ap keeps h) still no_run tt
      (in_firm o (then_ c) j (marks_on c tt (ap (has_firm_marks o) h)) (notes_on c tt (ap (is_marking o) h)) (kept_on c tt tt (ap keeps h)) (made_now ps h good all))
  go c to lets (Write p bytes h i reads_so) no_run still =
      let c = Written (record_place p) bytes (Ok tt) in
      let a : Allows o j c = (ap (has_firm_marks o) h, ap (is_marking o) h, map_in record_place (outputs j) p i) in
      row c Firm lets a (λ k. ap keeps h) still no_run tt
      (in_firm o (then_ c) j (marks_on c a (ap (has_firm_marks o) h)) (notes_on c a (ap (is_marking o) h)) (kept_written p bytes i reads_so lets (ap keeps h))
      (made_written p bytes i reads_so lets a (ap (is_made o) h)))
  go c to lets (AllWritten ps h written all) no_run still =
      let c = Settled ps (Ok tt) in
      row c Recorded lets tt (λ k. ap keeps h) still no_run tt
      (in_recorded o (then_ c) j (notes_on c tt (ap (is_marking o) h)) (kept_on c tt tt (ap keeps h)) (made_settled ps lets (ap (is_made o) h))
      (all_known o texts w ps left m.images.formed j (formed c) (λ p q i u. own_free o texts entry H s js ks j w m still p q (in_left (outputs j) j.logs p i) u) all written
      (λ p i. ap (λ (v : View). v.members p) (settled_now ps))))
  go c to lets (Drop p (inl (n, h)) i) no_run still =
      let c = Removed p (Ok tt) in
      let a : Allows o j (Removed p (Ok tt)) = inl (ap (has_firm_marks o) h, ap (is_marking o) h, in_either (outputs j) (record_places j) p i) in
      row c Dropping lets a never still no_run tt (in_dropping o (then_ c) j (marks_on c a (ap (has_firm_marks o) h)) (notes_on c a (ap (is_marking o) h)))
  go c to lets (Drop p (inr h) i) no_run still =
      let c = Removed p (Ok tt) in
      let a : Allows o j (Removed p (Ok tt)) = inl (ap (has_firm_marks o) h, ap (is_marking o) h, in_either (outputs j) (record_places j) p i) in
      row c Dropping lets a never still no_run tt (in_dropping o (then_ c) j (marks_on c a (ap (has_firm_marks o) h)) (notes_on c a (ap (is_marking o) h)))
  go c to lets (AllDropped ps h absent all) no_run still =
      let c = Settled ps (Ok tt) in
      row c Dropped lets tt never still no_run tt
      (in_dropped o (then_ c) j (notes_on c tt (ap (is_marking o) h))
      (all_gone o texts w ps left m.images.formed j (formed c) (λ p q i u. own_free o texts entry H s js ks j w m still p q (in_left (outputs j) j.logs p i) u) all absent
      (λ p i. record_free o texts entry H s js ks j w m p)))
  go c to lets (Unmark p (inl h) i) no_run still =
      let c = Removed (mark_place p) (Ok tt) in
      let a : Allows o j (Removed (mark_place p) (Ok tt)) = inr (inl h, map_in mark_place (outputs j) p i) in
      row c j.phase lets a (λ k. k) still no_run tt
      (from_phase (λ x. InPhase o (then_ c) (at_phase j x)) Recorded h
      (in_recorded o (then_ c) j (notes_on c a (ap (is_marking o) h)) (kept_on c a (no_record_there p i lets a) (ap keeps h)) (made_unmarked p i lets a (ap (is_made o) h)) (known_unmarked p i lets a h)))
  go c to lets (Unmark p (inr h) i) no_run still =
      let c = Removed (mark_place p) (Ok tt) in
      let a : Allows o j (Removed (mark_place p) (Ok tt)) = inr (inr h, map_in mark_place (outputs j) p i) in
      row c j.phase lets a (λ k. k) still no_run tt
      (from_phase (λ x. InPhase o (then_ c) (at_phase j x)) Dropped h
      (in_dropped o (then_ c) j (notes_on c a (ap (is_marking o) h)) (gone_unmarked p i lets a h)))
