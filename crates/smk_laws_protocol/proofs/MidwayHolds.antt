-- What holds between two events, of images: by what holds over views.
use Rattle.std.proofs.Common.{◌≡◌, ◌⊎◌, false, List, [], ◌∷◌, refl, sym, ap, subst, inl, inr, ◌∙◌, Option, Some, None, Contains}
use Rattle.std.specs.Prelude.{IsTrue, is_some}
use Rattle.smk_world.specs.declared.event.Child.{Child}
use Rattle.smk_world.specs.declared.event.Node.{Node}
use Rattle.smk_world.specs.declared.event.Node.TheVariants.{Regular, Directory}
use Rattle.smk_world.specs.World.{World, run}
use Rattle.smk_world.specs.Calls.{started_numbers}
use Rattle.smk_world.specs.Trees.{Path, IsIn, Each, kind_in}
use Rattle.smk_world.proofs.Owners.{AreNumbered, numbered_run}
use Rattle.smk_record.specs.declared.record.Stamp.{Stamp}
use Rattle.smk_record.specs.declared.record.Stamp.TheVariants.{Time, Sum, Made}
use Rattle.smk_record.specs.declared.record.Record.{Record}
use Rattle.smk_record.specs.Records.{stamped}
use Rattle.smk_store.specs.Images.{Image, Content, content_of, image_of, is_file, seen, source_at as image_source_at}
use Rattle.smk_store.specs.Soundness.{Outside}
use Rattle.smk_store.specs.Trust.{Versions, HasVersion, content_stamp}
use Rattle.smk_laws_protocol.specs.Protocol.{OpenJob, Phase, Marking, Marked, Running, Ended, Firm, Recorded, Dropping, Dropped, RunState, outputs, begun_with, record_of, eased, IsAtHand as ImageAtHand}
use Rattle.smk_laws_protocol.specs.Midway.{HoldsMidway, IsTop as ImageTop, Images as ImageImages, Fits as ImageFits, InPhase as ImageInPhase, Midway as ImageMidway, AllStrangers, AreStrangers, IsKnown as ImageKnown, IsGone as ImageGone, has_firm_marks, is_marking, is_made}
use Rattle.smk_laws_protocol.proofs.View.{View, view, file_of, is_source, Sound}
use Rattle.smk_laws_protocol.proofs.Rows.{now, IsAtHand}
use Rattle.smk_laws_protocol.proofs.Between as views
use Rattle.smk_laws_protocol.proofs.Between.{Midway, Fits, InPhase, AreApart, Pairwise, HasSources, HasNoNew, HasKnown, HasNoNested, HasNoClash, HasNoRecordClash, IsUnnamed, IsUnused, IsBounded, IsKept, IsActed, HoldsGiven, IsKnown, IsGone, AreGone, VouchesLike}
use Rattle.smk_laws_protocol.proofs.Basics.{each_in, each_on, each_of}
use Rattle.smk_laws_protocol.proofs.EveryImage.{to_lists}
use Rattle.smk_laws_protocol.proofs.Answers.{has_number}
use Rattle.smk_laws_protocol.proofs.Like.{AreLike}
use Rattle.smk_laws_protocol.proofs.ProtocolHolds.{reached, numbered_alone}
use Rattle.smk_laws_protocol.proofs.SoundViews.{HasEased, sound_from, source_is, source_at_is, flagless_some, some_file, whole_to, itself}
use Rattle.smk_laws_protocol.proofs.SoundWorlds.{now_is, now_seen, no_new_from, sources_from}
use Rattle.smk_laws_protocol.proofs.TextFacts.{text_laws}

-- ---- words on phases

firm_same : (o : Outside) (phase : Phase) → has_firm_marks phase ≡ views.has_firm_marks o phase
firm_same o Marking = refl
firm_same o Marked = refl
firm_same o (Running n) = refl
firm_same o (Ended n) = refl
firm_same o Firm = refl
firm_same o Recorded = refl
firm_same o Dropping = refl
firm_same o Dropped = refl

marking_same : (o : Outside) (phase : Phase) → is_marking phase ≡ views.is_marking o phase
marking_same o Marking = refl
marking_same o Marked = refl
marking_same o (Running n) = refl
marking_same o (Ended n) = refl
marking_same o Firm = refl
marking_same o Recorded = refl
marking_same o Dropping = refl
marking_same o Dropped = refl

made_same : (o : Outside) (phase : Phase) → is_made phase ≡ views.is_made o phase
made_same o Marking = refl
made_same o Marked = refl
made_same o (Running n) = refl
made_same o (Ended n) = refl
made_same o Firm = refl
made_same o Recorded = refl
made_same o Dropping = refl
made_same o Dropped = refl

-- ---- inputs and outputs

at_hand_from : (o : Outside) (i : Image) (x : Path × Stamp) → IsAtHand o (view i) x → ImageAtHand o i x
at_hand_from o i (q, Time t) h =
    let c = flagless_some (image_source_at i q) h.0 (source_at_is i q ∙ h.1) in
    inl (record { source = c.0; stands = c.1; same = sym (ap content_stamp c.2 ∙ h.2) })
at_hand_from o i (q, Sum t d) h =
    let c = flagless_some (image_source_at i q) h.0 (source_at_is i q ∙ h.1) in
    inl (record { source = c.0; stands = c.1; same = sym (ap content_stamp c.2 ∙ h.2) })
at_hand_from o i (q, Made m) h =
    inr (record {
      speaker = h.0;
      by = h.1;
      speaks = record { no_source = source_is i q ∙ h.2.0.no_source; holder = h.2.0.holder; clear = h.2.0.clear };
      same = itself h.1.made m h.2.1;
      whole = whole_to i h.0 h.1 (kind_in h.1.recipe h.0) h.2.0.clear.0 h.2.2;
      part = part h.2.3;
    })
  where
    part : (q ≡ h.0) ⊎ IsTrue (is_some ((view i).file q)) → (q ≡ h.0) ⊎ IsTrue (is_file i q)
    part (inl e) = inl e
    part (inr f) = inr (some_file (i.node q) ∙ f)

no_content : (n : Option Node) → file_of n ≡ None → content_of n ≡ None
no_content None h = refl
no_content (Some Directory) h = refl
no_content (Some (Regular bytes time read_only)) h = absurd (no h)
  where
    no : {c : Content} → Some c ≡ None → ⊥
    no h = cc

gone_from : (o : Outside) (i : Image) (p : Path) → IsGone o (view i) p → ImageGone i p
gone_from o i p h = record { no_record = h.no_bytes; nothing = λ q under. no_content (i.node q) (h.nothing q (text_laws.overlap.covers p q ∙ under)) }

strangers : (o : Outside) (j k : OpenJob) → AreApart o j k → AreStrangers j k
strangers o j k h = (record { own_apart = h.0.0; not_read = h.0.1; reads_not = h.0.2 }, h.1, h.2, h.3)

all_strangers : (o : Outside) (js : List OpenJob) → Pairwise o js → AllStrangers js
all_strangers o [] h = tt
all_strangers o (j ∷ js) h = (each_on (AreApart o j) (AreStrangers j) (strangers o j) js h.0, all_strangers o js h.1)

module _ (o : Outside) (entry : World) (H : Versions) (s : RunState) (w : World) (m : Midway o entry H s w) where
  images_from : ImageImages o entry H (eased s) s.top s.steady w
  images_from =
      record {
        formed = m.images.formed;
        sound = λ nodes leaves.
            sound_from (image_of o.read nodes) o.act H (eased s) (to_lists o.read w m.images.formed (λ v. Sound o.act H v (eased s)) m.images.sound nodes leaves) has_eased
            (to_lists o.read w m.images.formed (HasNoNested o) m.images.no_nested nodes leaves);
        sources = λ nodes leaves.
            sources_from o (seen o.read entry) (image_of o.read nodes)
            (now_seen o entry H (HasSources o) (image_of o.read nodes) (to_lists o.read w m.images.formed (HasSources o (now o entry)) m.images.sources nodes leaves));
        no_new = λ nodes leaves.
            no_new_from o (seen o.read w) (image_of o.read nodes)
            (now_seen o w H (HasNoNew o) (image_of o.read nodes) (to_lists o.read w m.images.formed (HasNoNew o (now o w)) m.images.no_new nodes leaves));
        known = λ nodes leaves. now_seen o w H (HasKnown o) (image_of o.read nodes) (to_lists o.read w m.images.formed (HasKnown o (now o w)) m.images.known nodes leaves);
        bounded = λ h. to_lists o.read w m.images.formed (IsBounded o (eased s) s.top) (m.images.bounded h);
        unsteady = λ h. top_from (m.images.unsteady h);
      }
    where
      top_from : views.IsTop o w s.top → ImageTop o w s.top
      top_from is p r n (at, inl unmarked) i = is p r n (subst (λ (v : View). v.record_at p ≡ Some r) (now_is o w H) at) (subst (λ (v : View). v.marked p ≡ false) (now_is o w H) unmarked) i
      top_from is p r n (at, inr never) i = absurd never

      -- a Restore has looked at the record that it found, and has at hand what it writes in its place
      has_eased : HasEased H (eased s)
      has_eased p r q x e i = go e.3.is
        where
          alike : AreLike H e.3.found (record_of e.0 p)
          alike = each_in (VouchesLike o H) s.jobs e.0 m.like e.1 p e.3.found e.3.kept

          go : (r ≡ e.3.found) ⊎ (r ≡ record_of e.0 p) → HasVersion H q x
          go (inl is) = alike.had q x (subst (λ (y : Record). IsIn (stamped y) (q, x)) is i)
          go (inr is) = alike.has q x (subst (λ (y : Record). IsIn (stamped y) (q, x)) is i)

  fits_from : (j : OpenJob) → Fits o entry (eased s) s.top w j → ImageFits o entry (eased s) s.top w j
  fits_from j f =
      record {
        paths = f.texts;
        apart = f.apart;
        from_inputs = f.from_inputs;
        no_source = λ q is. f.no_source q (ap (λ v. is_source v q) (sym (now_is o entry H)) ∙ sym (source_is (seen o.read entry) q) ∙ is);
        each_stamped = f.each_stamped;
        kept_own = f.kept_own;
        kept_all = f.kept_all;
        no_record_clash = to_lists o.read w m.images.formed (HasNoRecordClash o j) f.no_record_clash;
        no_clash = to_lists o.read w m.images.formed (HasNoClash o (eased s) j) f.no_clash;
        unnamed = λ h. to_lists o.read w m.images.formed (IsUnnamed o (eased s) j) (f.unnamed h);
        unused = λ h. to_lists o.read w m.images.formed (IsUnused o (eased s) j) (f.unused h);
        numbered = f.numbered;
        names_other = f.names_other;
        at_hand = each_on (IsAtHand o (now o w)) (ImageAtHand o (seen o.read w)) (λ x h. at_hand_from o (seen o.read w) x (subst (λ v. IsAtHand o v x) (sym (now_is o w H)) h)) (begun_with j) f.at_hand;
      }

  phase_from : (j : OpenJob) → InPhase o w j → ImageInPhase o w j
  phase_from j f =
      record {
        marks = λ h. f.marks (sym (firm_same o j.phase) ∙ h);
        notes = λ h. f.notes (sym (marking_same o j.phase) ∙ h);
        kept = λ h. subst (λ v. IsKept o v j) (sym (now_is o w H)) (f.kept h);
        child = f.child;
        ended = λ h. subst (λ v. IsActed o v j) (sym (now_is o w H)) (f.ended h);
        made = λ h nodes leaves.
            subst (λ n. Each (HoldsGiven o n j (view (image_of o.read nodes))) (outputs j)) (sym (now_is o w H))
            (to_lists o.read w m.images.formed (λ v. Each (HoldsGiven o (now o w) j v) (outputs j)) (f.made (sym (made_same o j.phase) ∙ h)) nodes leaves);
        known = λ h nodes leaves.
            each_on (IsKnown o (now o w) j (view (image_of o.read nodes))) (ImageKnown (seen o.read w) j (image_of o.read nodes)) (known_from (image_of o.read nodes)) (outputs j)
            (to_lists o.read w m.images.formed (λ v. Each (IsKnown o (now o w) j v) (outputs j)) (f.known h) nodes leaves);
        gone = λ h nodes leaves.
            each_on (IsGone o (view (image_of o.read nodes))) (ImageGone (image_of o.read nodes)) (gone_from o (image_of o.read nodes)) (outputs j)
            (to_lists o.read w m.images.formed (AreGone o j) (f.gone h) nodes leaves);
      }
    where
      known_from : (i : Image) (p : Path) → IsKnown o (now o w) j (view i) p → ImageKnown (seen o.read w) j i p
      known_from i p h = let k = subst (λ n. IsKnown o n j (view i) p) (sym (now_is o w H)) h in record { reads = k.reads; lists = k.lists }

  pub midway_from : AreNumbered w → ImageMidway o entry H s w
  midway_from numbered =
      record {
        images = images_from;
        fits = each_on (Fits o entry (eased s) s.top w) (ImageFits o entry (eased s) s.top w) fits_from s.jobs m.fits;
        phases = each_on (InPhase o w) (ImageInPhase o w) phase_from s.jobs m.phases;
        apart = all_strangers o s.jobs m.apart;
        children = m.children;
        running = m.owned;
        started = each_of (λ (c : Child). Contains (started_numbers w.log) c.number) w.children (λ c i. numbered.started c.number (has_number w c c.number i refl));
      }

pub holds_midway : HoldsMidway
holds_midway o entry H top es s differ sound is follows runs =
    midway_from o entry H s (run entry es) (reached o entry H differ sound top es s is follows runs) (numbered_run o.act entry es follows (numbered_alone entry sound.no_child))
