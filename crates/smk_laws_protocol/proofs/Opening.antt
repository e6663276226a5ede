-- A job begins: in the same world, with its serial and the records that it has found, what holds between events holds of it too.
use Rattle.std.proofs.Common.{◌≡◌, ◌⊎◌, ◌≤◌, ℕ, suc, Bool, true, false, List, [], ◌∷◌, refl, sym, ap, subst, inl, inr, ◌∙◌, Some}
use Rattle.std.specs.Prelude.{is_some, IsSome, if◌then◌else◌}
use Rattle.std.specs.List.{list_any}
use Rattle.smk_record.specs.declared.record.Record.{Record}
use Rattle.smk_record.specs.declared.record.Stamp.TheVariants.{Made}
use Rattle.smk_record.specs.Records.{stamped}
use Rattle.smk_world.specs.Trees.{Path, IsIn, Each}
use Rattle.smk_base.specs.Path.{overlaps}
use Rattle.smk_laws_protocol.specs.Protocol.{kept_at, IsAgain, IsEased, OpenJob, Marking, RunState, own, outputs, record_of, begun_with, is_running, eased_by}
use Rattle.smk_world.specs.World.{in_paths, World}
use Rattle.smk_store.specs.Trust.{Versions, SumsDiffer, Eased, none_eased}
use Rattle.smk_laws_protocol.proofs.View.{Clear, Sound, is_source}
use Rattle.smk_laws_protocol.proofs.Views.{Nodes, EachImage, reads, view_of, place_node}
use Rattle.smk_base.specs.Place.{mark_place, record_place}
use Rattle.smk_store.specs.Soundness.{Outside}
use Rattle.smk_laws_protocol.proofs.Rows.{IsApart, now, IsAtHand, IsKept, HasSerial, MayBegin}
use Rattle.smk_laws_protocol.proofs.Between.{IsKept as KeptNow, VouchesLike, Midway, Fits, InPhase, AreApart, IsOfJob, HasSources, HasNoNew, HasNoClash, HasNoRecordClash, HasKnown, IsBounded, IsUnnamed, IsUnused}
use Rattle.smk_laws_protocol.proofs.Apart.{free_of}
use Rattle.smk_laws_protocol.proofs.Basics.{each_in, each_of, each_on, any_by, clash, none_some, some_same}
use Rattle.smk_laws_protocol.proofs.Easing.{ease_sound}
use Rattle.smk_laws_protocol.proofs.Events.{same_source}
use Rattle.smk_laws_protocol.proofs.Holders.{holder_over}
use Rattle.smk_laws_protocol.proofs.Jobs.{at_phase}
use Rattle.smk_laws_protocol.proofs.Naming.{IsImage, each_image, of_images, now_image}
use Rattle.smk_laws_protocol.proofs.Like.{AreLike, HasVersions, like_again}
use Rattle.smk_laws_protocol.proofs.Numbers.{numbered_in}
use Rattle.smk_laws_protocol.proofs.OwnHolds.{over_overlaps}
use Rattle.smk_laws_protocol.proofs.OwnPhase.{in_marking}
use Rattle.smk_base.proofs.Places.{place_itself}
use Rattle.smk_laws_protocol.proofs.Stays.{in_left, in_zip}
use Rattle.smk_laws_protocol.proofs.Texts.{Texts}
use Rattle.smk_laws_protocol.proofs.Hand.{hand_recorded}
use Rattle.smk_laws_protocol.proofs.MarksNow.{Looked, has_by_record, some_by, above_top, up, at_most, marked_now, now_image_marks, now_view, now_marked, now_kept}

module _
    (o : Outside) (texts : Texts o.read) (entry : World) (H : Versions) (s : RunState) (w : World) (j : OpenJob) (top : ℕ)
    (m : Midway o entry H s w) (steady : s.steady ≡ true) (may : MayBegin o s w j) (serial : HasSerial o s w j top) (begins : j.phase ≡ Marking)
    (differ : SumsDiffer H) where
  abbrev e : Eased
  e = eased_by s.jobs

  abbrev e' : Eased
  e' = eased_by (j ∷ s.jobs)

  here : IsImage w w.names (reads w)
  here = now_image w m.images.formed

  -- ---- the image to look at

  look : (names : List Path) (f : Nodes) → IsImage w names f → Looked o w j e e' names f
  look names f i = by_serial serial
    where
      by_serial : HasSerial o s w j top → Looked o w j e e' names f
      by_serial (inl (none, a, b)) =
          record { nodes = f; image = i; marks = (view_of o.read names f).marked; is = refl; fewer = λ q h. h; eased = λ q r h. go q r h h.1 }
        where
          go : (q : Path) (r : Record) → (h : e' q r) → (h.0 ≡ j) ⊎ IsIn s.jobs h.0 → e q r ⊎ ((view_of o.read names f).marked q ≡ false)
          go q r h (inl is) = let a = subst (λ x. IsEased x q r) is h.3 in none_some (kept_at [] q) refl (subst (λ l. kept_at l q ≡ Some a.found) none a.kept)
          go q r h (inr k) = inl (h.0, k, h.2, h.3)
      by_serial (inr (some, kept, b)) =
          record {
            nodes = marked_now o texts w (outputs j) names f i;
            image = now_image_marks o texts w (outputs j) names f i;
            marks = λ q. is_some (place_node (marked_now o texts w (outputs j) names f i) mark_place q);
            is = now_view o texts w (outputs j) names f i;
            fewer = λ q h. now_kept o texts w (outputs j) names f i q (λ q k. (each_in (IsKept o w j) (outputs j) q kept k).unmarked) h;
            eased = λ q r h. go q r h h.1;
          }
        where
          go : (q : Path) (r : Record) → (h : e' q r) → (h.0 ≡ j) ⊎ IsIn s.jobs h.0 → e q r ⊎ (is_some (place_node (marked_now o texts w (outputs j) names f i) mark_place q) ≡ false)
          go q r h (inl is) =
              let a = subst (λ x. IsEased x q r) is h.3 in
              let k = may.kept_own q a.found a.kept in
              inr (now_marked o texts w (outputs j) names f i q k ∙ (each_in (IsKept o w j) (outputs j) q kept k).unmarked)
          go q r h (inr k) = inl (h.0, k, h.2, h.3)

  -- what counts counted there
  clear_there : (names : List Path) (f : Nodes) (i : IsImage w names f) (q : Path) (r : Record) → Clear (view_of o.read names f) e' q r → Clear (view_of o.read names (look names f i).nodes) e q r
  clear_there names f i q r c =
      subst (λ v. Clear v e q r) (look names f i).is (c.0, go c.1)
    where
      go : ((view_of o.read names f).marked q ≡ false) ⊎ e' q r → ((look names f i).marks q ≡ false) ⊎ e q r
      go (inl k) = inl ((look names f i).fewer q k)
      go (inr k) = turn ((look names f i).eased q r k)
        where
          turn : e q r ⊎ ((look names f i).marks q ≡ false) → ((look names f i).marks q ≡ false) ⊎ e q r
          turn (inl a) = inr a
          turn (inr a) = inl a

  sources_same : (names : List Path) (f : Nodes) (i : IsImage w names f) (q : Path) → is_source (view_of o.read names f) q ≡ is_source (record (view_of o.read names f) { marked = (look names f i).marks }) q
  sources_same names f i q =
      same_source (view_of o.read names f) (record (view_of o.read names f) { marked = (look names f i).marks })
      (λ x. each_image o.read w (HasSources o (now o entry)) m.images.sources names f i x
      ∙ sym (subst (HasSources o (now o entry)) (sym (look names f i).is) (each_image o.read w (HasSources o (now o entry)) m.images.sources names (look names f i).nodes (look names f i).image) x)) q

  sound_there : (names : List Path) (f : Nodes) (i : IsImage w names f) → Sound o.act H (view_of o.read names f) e'
  sound_there names f i =
      ease_sound o.act H (view_of o.read names f) (look names f i).marks e e' (sources_same names f i) (look names f i).fewer (look names f i).eased
      (subst (λ v. Sound o.act H v e) (sym (look names f i).is) (each_image o.read w (λ v. Sound o.act H v e) m.images.sound names (look names f i).nodes (look names f i).image))

  -- ---- serials

  bounded_there : (names : List Path) (f : Nodes) (i : IsImage w names f) → IsBounded o e s.top (view_of o.read names (look names f i).nodes)
  bounded_there names f i = each_image o.read w (IsBounded o e s.top) (m.images.bounded steady) names (look names f i).nodes (look names f i).image

  raised : (top ≡ s.top) ⊎ (top ≡ suc s.top)
  raised = go serial
    where
      go : HasSerial o s w j top → (top ≡ s.top) ⊎ (top ≡ suc s.top)
      go (inl k) = inr k.2
      go (inr k) = inl k.2

  low : (n : ℕ) → n ≤ s.top → n ≤ top
  low n h = up n s.top top h raised

  -- a fresh job's serial is the next one
  fresh : j.kept ≡ [] → (n : ℕ) → n ≤ s.top → n ≡ j.serial → ⊥
  fresh none n h same = go serial
    where
      go : HasSerial o s w j top → ⊥
      go (inl k) = above_top n s.top h (same ∙ k.1)
      go (inr k) = k.0 none

  first_kept : (kept : List (Path × Record)) → (kept ≡ [] → ⊥) → (p : Path) × ((r : Record) × (kept_at kept p ≡ Some r))
  first_kept [] some = absurd (some refl)
  first_kept (x ∷ xs) some = (x.0, (x.1, ap (λ (b : Bool). if b then Some x.1 else kept_at xs x.0) (place_itself x.0)))

  -- a Restore's is that of a record that reads and has no mark
  restored : (j.kept ≡ [] → ⊥) → Each (IsKept o w j) (outputs j) → (p : Path) × IsIn (outputs j) p × IsKept o w j p
  restored some kept =
      let k = first_kept j.kept some in
      let i = may.kept_own k.0 k.1.0 k.1.1 in
      (k.0, i, each_in (IsKept o w j) (outputs j) k.0 kept i)

  bounded_now : IsBounded o e s.top (now o w)
  bounded_now = each_image o.read w (IsBounded o e s.top) (m.images.bounded steady) w.names (reads w) here

  unease : (q : Path) (r : Record) → Clear (now o w) none_eased q r → Clear (now o w) e q r
  unease q r c = (c.0, go c.1)
    where
      go : ((now o w).marked q ≡ false) ⊎ ⊥ → ((now o w).marked q ≡ false) ⊎ e q r
      go (inl k) = inl k
      go (inr k) = absurd k

  -- the serials of what counts are at most top
  made_low : (q : Path) (r : Record) → Clear (now o w) none_eased q r → r.made ≤ s.top
  made_low q r c = bounded_now q r r.made (unease q r c) (inl refl)

  hand_low : (q : Path) (n : ℕ) → IsIn (begun_with j) (q, Made n) → n ≤ s.top
  hand_low q n i =
      let h = each_in (IsAtHand o (now o w)) (begun_with j) (q, Made n) may.at_hand i in
      subst (λ x. x ≤ s.top) h.2.1 (made_low h.0 h.1 h.2.0.clear)

  serial_low : j.serial ≤ top
  serial_low = go serial
    where
      go : HasSerial o s w j top → j.serial ≤ top
      go (inl k) = at_most j.serial top (k.1 ∙ sym k.2)
      go (inr k) = let r = restored k.0 k.1 in low j.serial (subst (λ n. n ≤ s.top) r.2.again.made (made_low r.0 r.2.found (r.2.stands, inl r.2.unmarked)))

  -- ---- the other jobs

  fits_other : (k : OpenJob) → Fits o entry e s.top w k → Fits o entry e' top w k
  fits_other k fits =
      record {
        paths = fits.paths;
        texts = fits.texts;
        apart = fits.apart;
        from_inputs = fits.from_inputs;
        no_source = fits.no_source;
        each_stamped = fits.each_stamped;
        kept_own = fits.kept_own;
        kept_all = fits.kept_all;
        no_record_clash = fits.no_record_clash;
        no_clash = of_images o.read w (HasNoClash o e' k) (λ names f i q r c over.
            each_image o.read w (HasNoClash o e k) fits.no_clash names (look names f i).nodes (look names f i).image q r (clear_there names f i q r c) over);
        unnamed = λ h. of_images o.read w (IsUnnamed o e' k) (λ names f i q x r c named.
            each_image o.read w (IsUnnamed o e k) (fits.unnamed h) names (look names f i).nodes (look names f i).image q x r (clear_there names f i q r c) named);
        unused = λ h. of_images o.read w (IsUnused o e' k) (λ names f i q r c same.
            each_image o.read w (IsUnused o e k) (fits.unused h) names (look names f i).nodes (look names f i).image q r (clear_there names f i q r c) same);
        numbered = (low k.serial fits.numbered.0, λ q n i. low n (fits.numbered.1 q n i));
        names_other = fits.names_other;
        at_hand = fits.at_hand;
      }

  -- ---- the job itself

  -- where a record counts in an image one reads now
  reads_now : (names : List Path) (f : Nodes) → IsImage w names f → (q : Path) (r : Record) → Clear (view_of o.read names f) e q r → IsSome ((now o w).record_at q)
  reads_now names f i q r c = go c.1
    where
      either : (a b : Record) → ((now o w).record_at q ≡ Some a) ⊎ ((now o w).record_at q ≡ Some b) → IsSome ((now o w).record_at q)
      either a b (inl is) = some_by ((now o w).record_at q) a is
      either a b (inr is) = some_by ((now o w).record_at q) b is

      go : ((view_of o.read names f).marked q ≡ false) ⊎ e q r → IsSome ((now o w).record_at q)
      go (inl k) = some_by ((now o w).record_at q) r (each_image o.read w (HasNoNew o (now o w)) m.images.no_new names f i q r c.0 k).0
      go (inr k) = either k.3.found (record_of k.0 q) ((each_in (InPhase o w) s.jobs k.0 m.phases k.1).kept k.2 q k.3.found k.3.kept)

  record_clash : EachImage o.read w (HasNoRecordClash o j)
  record_clash =
      of_images o.read w (HasNoRecordClash o j)
      (λ names f i q is over. may.no_clash q (each_image o.read w (HasKnown o (now o w)) m.images.known names f i q (has_by_record o.read q (place_node f record_place q) is)) over)

  -- what a Restore has found at an output
  found_at : (p : Path) (r : Record) → kept_at j.kept p ≡ Some r → (k : IsKept o w j p) × (k.found ≡ r)
  found_at p r at = go serial
    where
      there : (k : IsKept o w j p) → (k : IsKept o w j p) × (k.found ≡ r)
      there k = (k, some_same (sym k.kept ∙ at))

      go : HasSerial o s w j top → (k : IsKept o w j p) × (k.found ≡ r)
      go (inl k) = none_some (kept_at [] p) refl (subst (λ l. kept_at l p ≡ Some r) k.0 at)
      go (inr k) = there (each_in (IsKept o w j) (outputs j) p k.1 (may.kept_own p r at))

  kept_record : (p : Path) (r : Record) → kept_at j.kept p ≡ Some r → IsIn (outputs j) p × IsAgain r (record_of j p)
  kept_record p r at = let k = found_at p r at in (may.kept_own p r at, subst (λ x. IsAgain x (record_of j p)) k.1 k.0.again)

  now_sound : Sound o.act H (now o w) e
  now_sound = each_image o.read w (λ v. Sound o.act H v e) m.images.sound w.names (reads w) here

  -- it vouches for the same as what is written in its place, and the versions have the sources of both
  kept_like : VouchesLike o H j
  kept_like p r at =
      let k = found_at p r at in
      subst (λ x. AreLike H x (record_of j p)) k.1
      (record {
        like = like_again H differ k.0.found (record_of j p) k.0.again (had p k.0) has;
        had = had p k.0;
        has = has;
      })
    where
      had : (p : Path) (k : IsKept o w j p) → HasVersions H (stamped k.found)
      had p k q s i = now_sound.has_recorded p k.found q s k.stands k.unmarked i

      has : HasVersions H (begun_with j)
      has q s i = hand_recorded o H (now o w) now_sound.has_sources q s (each_in (IsAtHand o (now o w)) (begun_with j) (q, s) may.at_hand i)

  fits_own : Fits o entry e' top w j
  fits_own =
      record {
        paths = may.paths;
        texts = may.texts;
        apart = may.apart;
        from_inputs = may.from_inputs;
        no_source = λ q h. may.no_source q (same_source (now o w) (now o entry) (each_image o.read w (HasSources o (now o entry)) m.images.sources w.names (reads w) here) q ∙ h);
        each_stamped = may.each_stamped;
        kept_own = kept_record;
        kept_all = λ some p i. kept_all some p i serial;
        no_record_clash = record_clash;
        no_clash = of_images o.read w (HasNoClash o e' j) (λ names f i q r c over.
            each_image o.read w (HasNoRecordClash o j) record_clash w.names (reads w) here q (reads_now names (look names f i).nodes (look names f i).image q r (clear_there names f i q r c)) over);
        unnamed = λ none. of_images o.read w (IsUnnamed o e' j) (λ names f i q x r c named.
            fresh none j.serial (bounded_there names f i q r j.serial (clear_there names f i q r c) (inr (numbered_in (in_paths r.recipe) r.stamps x j.serial named))) refl);
        unused = λ none. of_images o.read w (IsUnused o e' j) (λ names f i q r c same.
            absurd (fresh none r.made (bounded_there names f i q r r.made (clear_there names f i q r c) (inl refl)) same));
        numbered = (serial_low, λ q n i. low n (hand_low q n i));
        names_other = λ none q i. fresh none j.serial (hand_low q j.serial i) refl;
        at_hand = may.at_hand;
      }
    where
      kept_all : (j.kept ≡ [] → ⊥) → (p : Path) → IsIn (outputs j) p → HasSerial o s w j top → IsSome (kept_at j.kept p)
      kept_all some p i (inl k) = absurd (some k.0)
      kept_all some p i (inr k) = let x = each_in (IsKept o w j) (outputs j) p k.1 i in some_by (kept_at j.kept p) x.found x.kept

  kept_now : KeptNow o (now o w) j
  kept_now p r at = let k = found_at p r at in inl (k.0.stands ∙ ap (λ x. Some x) k.1)

  phase_own : InPhase o w j
  phase_own = subst (λ x. InPhase o w (at_phase j x)) (sym begins) (in_marking o w j kept_now)

  -- ---- apart

  unused_now : (k : OpenJob) → Fits o entry e s.top w k → k.kept ≡ [] → IsUnused o e k (now o w)
  unused_now k fits none = each_image o.read w (IsUnused o e k) (fits.unused none) w.names (reads w) here

  not_both : (k : OpenJob) → IsApart j k → (p : Path) → IsIn (outputs j) p → IsIn (outputs k) p → ⊥
  not_both k apart p i h =
      clash (list_any (overlaps p) (own k)) (any_by (overlaps p) (own k) p (in_left (outputs k) k.logs p h) (texts.overlap.self p)) (free_of (own j) (own k) p apart.0 (in_left (outputs j) j.logs p i))

  apart_from : (k : OpenJob) → IsIn s.jobs k → AreApart o j k
  apart_from k i =
      let apart = each_in (IsApart j) s.jobs k may.from_open i in
      let fits = each_in (Fits o entry e s.top w) s.jobs k m.fits i in (
        apart,
        (λ none. (λ same. serials fits apart none same serial, λ q named. hand_clash fits apart none q named)),
        (λ none. (λ same. fresh none k.serial fits.numbered.0 same, λ q named. fresh none j.serial (fits.numbered.1 q j.serial named) refl)),
        (λ n a b. clash false (ap is_running (sym begins ∙ a)) refl),
      )
    where
      serials : Fits o entry e s.top w k → IsApart j k → k.kept ≡ [] → j.serial ≡ k.serial → HasSerial o s w j top → ⊥
      serials fits apart none same (inl h) = above_top k.serial s.top fits.numbered.0 (sym same ∙ h.1)
      serials fits apart none same (inr h) =
          let r = restored h.0 h.1 in
          not_both k apart r.0 r.1 (unused_now k fits none r.0 r.2.found (r.2.stands, inl r.2.unmarked) (r.2.again.made ∙ same))

      hand_clash : Fits o entry e s.top w k → IsApart j k → k.kept ≡ [] → (q : Path) → IsIn (begun_with j) (q, Made k.serial) → ⊥
      hand_clash fits apart none q named =
          let h = each_in (IsAtHand o (now o w)) (begun_with j) (q, Made k.serial) may.at_hand named in
          let out = unused_now k fits none h.0 h.1 (unease h.0 h.1 h.2.0.clear) h.2.1 in
          clash (list_any (overlaps q) (own k))
          (any_by (overlaps q) (own k) h.0 (in_left (outputs k) k.logs h.0 out) (over_overlaps texts.overlap q h.0 (holder_over (now o w) q h.0 h.2.0.holder)))
          (free_of (in_paths j.recipe) (own k) q apart.2 (in_zip (in_paths j.recipe) j.stamps q (Made k.serial) named))

  pub opened : Midway o entry H (record s { jobs = j ∷ s.jobs; top = top }) w
  opened =
      record {
        images = record {
          formed = m.images.formed;
          sound = of_images o.read w (λ v. Sound o.act H v e') sound_there;
          sources = m.images.sources;
          no_new = m.images.no_new;
          bounded = λ h. of_images o.read w (IsBounded o e' top) (λ names f i p r n c k. low n (bounded_there names f i p r n (clear_there names f i p r c) k));
          no_nested = m.images.no_nested;
          known = m.images.known;
          unsteady = λ h. clash s.steady steady h;
        };
        fits = (fits_own, each_on (Fits o entry e s.top w) (Fits o entry e' top w) fits_other s.jobs m.fits);
        phases = (phase_own, m.phases);
        like = (kept_like, m.like);
        apart = (each_of (AreApart o j) s.jobs apart_from, m.apart);
        children = each_on (IsOfJob o s.jobs) (IsOfJob o (j ∷ s.jobs)) (λ c k. (k.0, inr k.1, k.2, k.3, k.4)) w.children m.children;
        owned = λ q h. let k = m.owned q h in (k.0, inr k.1, k.2, k.3);
      }
