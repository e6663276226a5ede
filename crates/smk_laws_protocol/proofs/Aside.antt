-- Calls of no job: looks, the lock, settling; and the jobs that run are kept after a failure.
use Rattle.smk_laws_protocol.proofs.Formed.{all_named}
use Rattle.std.proofs.Common.{◌≡◌, ◌⊎◌, ◌≤◌, ℕ, Bool, true, false, List, [], refl, sym, ap, subst, inl, inr, arith, ◌∙◌, None}
use Rattle.std.specs.Prelude.{bytes_eq, is_some, filter, if◌then◌else◌, ◌&&◌, ◌||◌, Ok, Err, Result}
use Rattle.smk_world.specs.declared.event.Call.{Call}
use Rattle.smk_world.specs.declared.event.Call.TheVariants.{Looked, ReadFile, ReadFolder, Written, Created, Removed, MadeParents, Settled, Protected, Started, Waited}
use Rattle.smk_world.specs.declared.event.Change.{Change as LeftNode}
use Rattle.smk_world.specs.declared.event.Child.{Child}
use Rattle.smk_world.specs.declared.event.Failed.{Failed}
use Rattle.smk_record.specs.declared.record.Record.{Record}
use Rattle.smk_world.specs.Trees.{Path, IsIn, Each, is_path_text}
use Rattle.smk_store.specs.Images.{is_outside}
use Rattle.smk_base.specs.Path.{is_under, is_at_or_under}
use Rattle.smk_store.specs.Trust.{Versions, Eased}
use Rattle.smk_laws_protocol.proofs.View.{View, Clear, Sound}
use Rattle.smk_laws_protocol.proofs.Views.{Nodes, HasNames, reads, view_of, view_by, path_node}
use Rattle.smk_world.specs.World.{World, IsFormed, MayLeave, after, reading, reads_nothing, standing, firm, firmly, is_within, is_above, reads_folder, with_folder}
use Rattle.smk_base.specs.Place.{mark_place, record_place, note_place, lock_place}
use Rattle.smk_store.specs.Soundness.{Outside}
use Rattle.smk_laws_protocol.specs.Protocol.{OpenJob, Phase, Marking, RunState, eased, eased_by, runs, is_running, IsLook, IsLock}
use Rattle.smk_laws_protocol.proofs.Between.{Midway, Fits, InPhase, VouchesLike, IsOfJob, HasNoClash, IsUnnamed, IsUnused, IsBounded}
use Rattle.smk_laws_protocol.proofs.Along.{IsQuiet}
use Rattle.smk_laws_protocol.proofs.Basics.{each_in, each_of, each_on, in_filter, filter_in, by_test, clash, pick_none}
use Rattle.smk_laws_protocol.proofs.Calls.{event}
use Rattle.smk_laws_protocol.proofs.Change.{Change, IsOwner}
use Rattle.smk_laws_protocol.proofs.FolderChange.{MakesFolders, own_folders_change}
use Rattle.smk_laws_protocol.proofs.ImagesOn.{images_change}
use Rattle.smk_laws_protocol.proofs.Jobs.{eased_fewer, pairs_filter}
use Rattle.smk_laws_protocol.proofs.Law.{sound_less}
use Rattle.smk_laws_protocol.proofs.Naming.{each_image, of_images}
use Rattle.smk_laws_protocol.proofs.Phases.{IsOther, phase_change}
use Rattle.smk_laws_protocol.proofs.Quiet.{IsQuietCall, quiet_call}
use Rattle.smk_laws_protocol.proofs.Settling.{firm_leaves, firm_reads, either}
use Rattle.smk_laws_protocol.proofs.Stays.{Meets, fits_change}
use Rattle.smk_laws_protocol.proofs.Still.{fewer_change, still_change}
use Rattle.smk_laws_protocol.proofs.Texts.{Texts, OverlapLaws, IsFree}
use Rattle.smk_laws_protocol.proofs.Turns.{Turn, turn_within, same_change}

-- fewer marks are left out
clear_less : (v : View) (e e' : Eased) → ((p : Path) (r : Record) → e' p r → e p r) → (q : Path) (r : Record) → Clear v e' q r → Clear v e q r
clear_less v e e' fewer q r c = (c.0, go c.1)
  where
    go : (v.marked q ≡ false) ⊎ e' q r → (v.marked q ≡ false) ⊎ e q r
    go (inl k) = inl k
    go (inr k) = inr (fewer q r k)

pub fits_less : (o : Outside) (entry : World) (e e' : Eased) (top : ℕ) (w : World) (j : OpenJob) → ((p : Path) (r : Record) → e' p r → e p r) → Fits o entry e top w j → Fits o entry e' top w j
fits_less o entry e e' top w j fewer fits =
    record {
      paths = fits.paths;
      texts = fits.texts;
      apart = fits.apart;
      from_inputs = fits.from_inputs;
      no_source = fits.no_source;
      each_stamped = fits.each_stamped;
      kept_own = fits.kept_own;
      kept_all = fits.kept_all;
      no_record_clash = fits.no_record_clash;
      no_clash = of_images o.read w (HasNoClash o e' j) (λ names f i q r c over. each_image o.read w (HasNoClash o e j) fits.no_clash names f i q r (clear_less (view_of o.read names f) e e' fewer q r c) over);
      unnamed = λ h. of_images o.read w (IsUnnamed o e' j) (λ names f i q x r c named. each_image o.read w (IsUnnamed o e j) (fits.unnamed h) names f i q x r (clear_less (view_of o.read names f) e e' fewer q r c) named);
      unused = λ h. of_images o.read w (IsUnused o e' j) (λ names f i q r c same. each_image o.read w (IsUnused o e j) (fits.unused h) names f i q r (clear_less (view_of o.read names f) e e' fewer q r c) same);
      numbered = fits.numbered;
      names_other = fits.names_other;
      at_hand = fits.at_hand;
    }

-- only the jobs that run are kept
pub idle : (o : Outside) (laws : OverlapLaws) (entry : World) (H : Versions) (s : RunState) (w : World) → Midway o entry H s w → Midway o entry H (record s { jobs = filter (runs o) s.jobs; faulted = true }) w
idle o laws entry H s w m =
    record {
      images = record {
        formed = m.images.formed;
        sound = of_images o.read w (λ v. Sound o.act H v (eased_by (filter (runs o) s.jobs))) (λ names f i.
            sound_less o.act H (view_of o.read names f) (eased s) (eased_by (filter (runs o) s.jobs)) fewer (each_image o.read w (λ v. Sound o.act H v (eased s)) m.images.sound names f i));
        sources = m.images.sources;
        no_new = m.images.no_new;
        bounded = λ h. of_images o.read w (IsBounded o (eased_by (filter (runs o) s.jobs)) s.top) (λ names f i p r n c k.
            each_image o.read w (IsBounded o (eased s) s.top) (m.images.bounded h) names f i p r n (clear_less (view_of o.read names f) (eased s) (eased_by (filter (runs o) s.jobs)) fewer p r c) k);
        no_nested = m.images.no_nested;
        known = m.images.known;
        unsteady = m.images.unsteady;
      };
      fits = each_of (Fits o entry (eased_by (filter (runs o) s.jobs)) s.top w) (filter (runs o) s.jobs) (λ k i.
          fits_less o entry (eased s) (eased_by (filter (runs o) s.jobs)) s.top w k fewer (each_in (Fits o entry (eased s) s.top w) s.jobs k m.fits (in_filter (runs o) s.jobs k i).0));
      phases = each_of (InPhase o w) (filter (runs o) s.jobs) (λ k i. each_in (InPhase o w) s.jobs k m.phases (in_filter (runs o) s.jobs k i).0);
      like = each_of (VouchesLike o H) (filter (runs o) s.jobs) (λ k i. each_in (VouchesLike o H) s.jobs k m.like (in_filter (runs o) s.jobs k i).0);
      apart = pairs_filter o laws (runs o) s.jobs m.apart;
      children = each_on (IsOfJob o s.jobs) (IsOfJob o (filter (runs o) s.jobs)) of_job w.children m.children;
      owned = λ q h. let k = m.owned q h in (k.0, filter_in (runs o) s.jobs k.0 k.1 k.2, k.2, k.3);
    }
  where
    fewer : (p : Path) (r : Record) → eased_by (filter (runs o) s.jobs) p r → eased s p r
    fewer = eased_fewer (filter (runs o) s.jobs) s.jobs (λ k i. (in_filter (runs o) s.jobs k i).0)

    of_job : (c : Child) → IsOfJob o s.jobs c → IsOfJob o (filter (runs o) s.jobs) c
    of_job c k = (k.0, filter_in (runs o) s.jobs k.0 k.1 (subst (λ (x : Phase). is_running x ≡ true) (sym k.2) refl), k.2, k.3, k.4)

module _ (o : Outside) (texts : Texts o.read) (entry : World) (H : Versions) (s : RunState) (w : World) (m : Midway o entry H s w) where
  -- along a change at paths that no open job owns or reads
  pub aside :
      (d : OpenJob) → IsOwner o s.top w d → ((k : OpenJob) → IsIn s.jobs k → Meets d k × IsOther d k) → (w' : World) → Change o entry H d (eased s) (eased s) w w' → IsQuiet w w' → Midway o entry H s w'
  aside d owner others w' change quiet =
      record {
        images = images_change o texts.overlap texts.naming entry H d (eased s) (eased s) s.top s.steady w w' m.images.formed owner change m.images;
        fits = each_of (Fits o entry (eased s) s.top w') s.jobs (λ k i.
            fits_change o texts.overlap texts.naming entry H d (eased s) (eased s) s.top w w' m.images.formed m.images.sources owner change k (others k i).0 (each_in (Fits o entry (eased s) s.top w) s.jobs k m.fits i));
        phases = each_of (InPhase o w') s.jobs (λ k i.
            let p = each_in (InPhase o w) s.jobs k m.phases i in
            phase_change o texts.overlap texts.naming entry H d k (eased s) (eased s) w w' m.images.formed change (others k i).1
            (λ p r at. ((each_in (Fits o entry (eased s) s.top w) s.jobs k m.fits i).kept_own p r at).0)
            (λ n h. subst (λ cs. (c : Child) × IsIn cs c × (c.number ≡ n)) (sym quiet.children) (p.child n h)) p);
        like = m.like;
        apart = m.apart;
        children = subst (λ cs. Each (IsOfJob o s.jobs) cs) (sym quiet.children) m.children;
        owned = λ q h. m.owned q (quiet.owned q h);
      }

  -- ---- changes at no path

  abbrev nobody : OpenJob
  nobody = record { recipe = record { template = []; wildcards = []; params = []; inputs = []; outputs = [] }; logs = []; stamps = []; serial = 0; kept = []; phase = Marking }

  zero_low : (n top : ℕ) → n ≡ 0 → n ≤ top
  zero_low n top h = omega arith

  nobody_owner : IsOwner o s.top w nobody
  nobody_owner = record { no_record_clash = λ names f rising complete covered leaves q is over. clash false over refl; apart = refl; numbers_low = λ p n i. low n i }
    where
      low : (n : ℕ) → (n ≡ 0) ⊎ ⊥ → n ≤ s.top
      low n (inl e) = zero_low n s.top e
      low n (inr e) = absurd e

  nobody_meets : (k : OpenJob) → IsIn s.jobs k → Meets nobody k × IsOther nobody k
  nobody_meets k i =
      (record { clash = λ q i over. absurd i; unnamed = λ h x i. i; unused = λ h same q i. absurd i; inputs = λ q i. refl }, record { own_free = λ q i. refl; inputs_free = λ q i. refl })

  formed : (c : Call) (left : List LeftNode) → IsFormed (after w (event c left))
  formed c left = texts.formed w (event c left) m.images.formed

  covered : (c : Call) (left : List LeftNode) → HasNames (after w (event c left)).names (reads w)
  covered c left q h = texts.grown w (event c left) q ((all_named _ m.images.formed) q h)

  same : (p : Path) (r : Record) → eased s p r → eased s p r
  same p r h = h

  pub still : (c : Call) (left : List LeftNode) → IsQuietCall c → ((q : Path) → (after w (event c left)).nodes q ≡ w.nodes q) → Midway o entry H s (after w (event c left))
  still c left quiet nodes =
      aside nobody nobody_owner nobody_meets (after w (event c left))
      (still_change o texts.naming entry H nobody (eased s) (eased s) s.top s.steady w (after w (event c left)) m.images same (formed c left) (covered c left) nodes)
      (quiet_call w c left quiet)

  pub look_keeps : (c : Call) (left : List LeftNode) → IsLook o c → Midway o entry H s (after w (event c left))
  look_keeps (Looked p r) left is = still (Looked p r) left tt (λ q. refl)
  look_keeps (ReadFile p limit r) left is = still (ReadFile p limit r) left tt (λ q. refl)
  look_keeps (ReadFolder p r) left is = still (ReadFolder p r) left tt (λ q. refl)
  look_keeps (Written p bytes r) left is = absurd is
  look_keeps (Created p r) left is = absurd is
  look_keeps (Removed p r) left is = absurd is
  look_keeps (MadeParents p r) left is = absurd is
  look_keeps (Settled ps r) left is = absurd is
  look_keeps (Protected p r) left is = absurd is
  look_keeps (Started recipe logs command r) left is = absurd is
  look_keeps (Waited r) left is = absurd is

  pub settle_keeps : (ps : List Path) (r : Result (Unit {0}) Failed) (left : List LeftNode) → Midway o entry H s (after w (event (Settled ps r) left))
  settle_keeps ps (Ok u) left =
      aside nobody nobody_owner nobody_meets (after w (event (Settled ps (Ok u)) left))
      (fewer_change o texts.naming entry H nobody (eased s) (eased s) s.top s.steady w (after w (event (Settled ps (Ok u)) left)) m.images same (formed (Settled ps (Ok u)) left) (covered (Settled ps (Ok u)) left)
      (λ q n. either (λ t. MayLeave t n → MayLeave (w.nodes q) n) (is_within q ps || is_above q ps && reads_folder (w.nodes q)) (w.nodes q) (firm_leaves (w.nodes q) n) (λ h. h))
      (λ q. either (λ t. reading t ≡ reading (w.nodes q)) (is_within q ps || is_above q ps && reads_folder (w.nodes q)) (w.nodes q) (firm_reads (w.nodes q)) refl)
      (λ q n h. either (λ t. t ≡ firmly n) (is_within q ps || is_above q ps && reads_folder (w.nodes q)) (w.nodes q) (ap firm h) h))
      (quiet_call w (Settled ps (Ok u)) left tt)
  settle_keeps ps (Err x) left = still (Settled ps (Err x)) left tt (λ q. refl)

  -- ---- at the lock

  module _ (c : Call) (left : List LeftNode) (others : (q : Path) → is_at_or_under q lock_place ≡ false → (after w (event c left)).nodes q ≡ w.nodes q) where
    abbrev turn : Turn w (after w (event c left))
    turn = turn_within w (after w (event c left)) (formed c left) (covered c left) (λ q. is_at_or_under q lock_place) others

    other : (g : Nodes) (q : Path) → is_at_or_under q lock_place ≡ false → turn.before g q ≡ g q
    other g q h = ap (λ (b : Bool). if b then reads w q else g q) h

    path : (g : Nodes) (q : Path) → path_node (turn.before g) q ≡ path_node g q
    path g q = go (is_outside q) refl
      where
        go : (b : Bool) → is_outside q ≡ b → (if b then turn.before g q else None) ≡ (if b then g q else None)
        go true h = other g q (texts.lock.lock_path q h)
        go false h = refl

  at_lock : (c : Call) (left : List LeftNode) → IsQuietCall c → ((q : Path) → is_at_or_under q lock_place ≡ false → (after w (event c left)).nodes q ≡ w.nodes q) → Midway o entry H s (after w (event c left))
  at_lock c left quiet others =
      aside nobody nobody_owner nobody_meets (after w (event c left))
      (same_change o texts.naming entry H nobody (eased s) (eased s) s.top s.steady w (after w (event c left)) (turn c left others) m.images same
      (λ names g i k. view_by o.read names (λ q. path c left others g q k) (λ q. if is_path_text q then other c left others g (record_place q) (texts.lock.lock_record q) k else None)
      (λ q. if is_path_text q then other c left others g (mark_place q) (texts.lock.lock_mark q) k else None) (λ q. if is_path_text q then other c left others g (note_place q) (texts.lock.lock_note q) k else None))
      (λ x n h. others (mark_place x) (texts.lock.lock_mark x) ∙ h) (λ x n h. others (note_place x) (texts.lock.lock_note x) ∙ h))
      (quiet_call w c left quiet)

  eq_false : (p q : Path) → is_at_or_under q p ≡ false → bytes_eq q p ≡ false
  eq_false p q h = left (bytes_eq q p) (is_under q p) h
    where
      left : (a b : Bool) → (a || b) ≡ false → a ≡ false
      left a b h = grind arith

  and_false : (a b : Bool) → b ≡ false → (a && b) ≡ false
  and_false a b h = grind arith

  makes : (p : Path) (r : Result (Unit {0}) Failed) (left : List LeftNode) → MakesFolders w (after w (event (MadeParents p r) left)) p
  makes p (Ok u) left = record { others = λ q h. rw h refl; above = λ q h. inr (rw h refl) }
  makes p (Err x) left =
      record {
        others = λ q h. pick_none (is_some (standing left q)) (is_under p q) (with_folder (w.nodes q)) (w.nodes q) h;
        above = λ q h. by_test (is_some (standing left q) && is_under p q) (λ k. inr (rw k refl)) (λ k. inl (rw k refl));
      }

  pub lock_keeps : (c : Call) (left : List LeftNode) → IsLock o c → Midway o entry H s (after w (event c left))
  lock_keeps (Created p (Ok made)) left is = at_lock (Created p (Ok made)) left tt (λ q h. rw (and_false made (bytes_eq q p) (eq_false p q (subst (λ y. is_at_or_under q y ≡ false) (sym is) h))) refl)
  lock_keeps (Created p (Err x)) left is = at_lock (Created p (Err x)) left tt (λ q h. rw (and_false (reads_nothing (w.nodes q)) (bytes_eq q p) (eq_false p q (subst (λ y. is_at_or_under q y ≡ false) (sym is) h))) refl)
  lock_keeps (Removed p r) left is = at_lock (Removed p r) left tt (λ q h. rw (subst (λ y. is_at_or_under q y ≡ false) (sym is) h) refl)
  lock_keeps (MadeParents p r) left is =
      aside nobody nobody_owner nobody_meets (after w (event (MadeParents p r) left))
      (own_folders_change o texts entry H nobody (eased s) (eased s) s.top s.steady w (after w (event (MadeParents p r) left)) m.images same (formed (MadeParents p r) left) (covered (MadeParents p r) left)
      p (subst IsFree (sym is) texts.above.lock_free) (λ q h. subst (λ y. is_under y q ≡ false) (sym is) (texts.above.lock_above q h)) (makes p r left))
      (quiet_call w (MadeParents p r) left tt)
  lock_keeps (Looked p r) left is = absurd is
  lock_keeps (ReadFile p limit r) left is = absurd is
  lock_keeps (ReadFolder p r) left is = absurd is
  lock_keeps (Written p bytes r) left is = absurd is
  lock_keeps (Settled ps r) left is = absurd is
  lock_keeps (Protected p r) left is = absurd is
  lock_keeps (Started recipe logs command r) left is = absurd is
  lock_keeps (Waited r) left is = absurd is
