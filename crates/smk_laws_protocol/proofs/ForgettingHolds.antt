-- A run that forgets paths keeps what a call has to keep.
use Rattle.std.proofs.Common.{◌≡◌, ◌⊎◌, ℕ, Bool, true, false, List, [], ◌∷◌, ◌++◌, refl, sym, ap, subst, inl, inr, ◌∙◌, Option, Some, None, append_assoc, eqb-true, arith}
use Rattle.std.specs.Prelude.{IsTrue, bytes_eq, ◌||◌, ◌&&◌, ◌==◌, if◌then◌else◌, Ok, Err, Result}
use Rattle.std.specs.List.{list_any}
use Rattle.std.specs.Option.{option_map}
use Rattle.std.proofs.lemmas.List.{append-nil}
use Rattle.smk_base.specs.Path.{is_at_or_under, own_folder}
use Rattle.smk_base.specs.Place.{record_place, mark_place, note_place}
use Rattle.smk_base.proofs.Places.{place_itself}
use Rattle.smk_world.specs.declared.event.Call.{Call}
use Rattle.smk_world.specs.declared.event.Call.TheVariants.{Looked, ReadFile, ReadFolder, Written, Created, Removed, MadeParents, Settled, Protected, Started, Waited}
use Rattle.smk_world.specs.declared.event.Change.{Change as LeftNode}
use Rattle.smk_world.specs.declared.event.Event.{Event}
use Rattle.smk_world.specs.declared.event.Failed.{Failed}
use Rattle.smk_world.specs.declared.event.NodeState.TheVariants.{Owned}
use Rattle.smk_world.specs.World.{World, after, run, reading, standing, is_within, is_above, reads_folder, firm}
use Rattle.smk_world.specs.Calls.{Lets as WorldLets}
use Rattle.smk_world.specs.Runs.{Follows as WorldFollows}
use Rattle.smk_world.specs.Trees.{Path, IsIn, among}
use Rattle.smk_record.specs.declared.record.Stamp.{Stamp}
use Rattle.smk_record.specs.declared.record.Record.{Record}
use Rattle.smk_record.specs.Records.{core, source_time, stamped}
use Rattle.smk_store.specs.Images.{Image, Content, image_of, seen, file_at, source_at as image_source_at}
use Rattle.smk_store.specs.Safety.{or_put, with_sources, forgets, forgotten_so_far, SourcesOf}
use Rattle.smk_store.specs.Soundness.{Outside, told, Sound as ImageSound, SoundWorld as ImageSoundWorld}
use Rattle.smk_store.specs.Trust.{Versions, none_eased}
use Rattle.smk_laws_protocol.specs.Protocol.{IsLook, IsLock, as_ok, now as image_now}
use Rattle.smk_laws_protocol.specs.Forgetting.{IsFirm, IsFirmAround, SettlingIsEnough, Stage, Resting, Unrecording, Unmarking, Stopped, is_resting, IsUnseen, Forgets, Look, Lock, Settle, Hold, Unrecord, Unnote, Unrecorded, Unmark, Unmarked, Fail, ForgetsAll, Done, Next, ForgettingKeepsSound}
use Rattle.smk_laws_protocol.proofs.View.{View, view, Sound, is_source, source_at}
use Rattle.smk_laws_protocol.proofs.Views.{Nodes, EachImage, reads, view_of, read_at}
use Rattle.smk_laws_protocol.proofs.Rows.{now}
use Rattle.smk_laws_protocol.proofs.Between.{SoundWorld}
use Rattle.smk_laws_protocol.proofs.Alike.{Alike, look_alike, lock_alike, settled_alike}
use Rattle.smk_laws_protocol.proofs.Answers.{remains}
use Rattle.smk_laws_protocol.proofs.Basics.{by_test, clash, in_among, in_filter, filter_in, some_of, any_by, in_here}
use Rattle.smk_laws_protocol.proofs.Calls.{event}
use Rattle.smk_laws_protocol.proofs.EveryImage.{to_lists}
use Rattle.smk_laws_protocol.proofs.Forgotten.{Safe, Rest, Open, Held, Bare, Gone, rest_alike, open_alike, held_alike, bare_alike, open_removed, near_removed, gone_removed, open_rest, held_first, gone_settled, unmarked_settled, rest_again}
use Rattle.smk_laws_protocol.proofs.Lessened.{put, Less}
use Rattle.smk_laws_protocol.proofs.Naming.{IsImage, each_image, now_image}
use Rattle.smk_laws_protocol.proofs.Quiet.{quiet_call}
use Rattle.smk_laws_protocol.proofs.Removing.{filled, now_filled, place_other, record_less, note_less, mark_less}
use Rattle.smk_laws_protocol.proofs.SoundViews.{sound_from, has_none, source_is, source_at_is, flagless, flagless_some, file_is}
use Rattle.smk_laws_protocol.proofs.SoundWorlds.{world_to, world_from, source_from, now_is}
use Rattle.smk_laws_protocol.proofs.Settled.{firm_is}
use Rattle.smk_laws_protocol.proofs.Stays.{in_left}
use Rattle.smk_laws_protocol.proofs.TextFacts.{text_laws}
use Rattle.smk_laws_protocol.proofs.Unowned.{within_some}

-- ---- what is forgotten so far

within_of : (q : Path) (ps : List Path) (p : Path) → IsIn ps p → is_at_or_under q p ≡ true → is_within q ps ≡ true
within_of q [] p i h = absurd i
within_of q (x ∷ ps) p (inl e) h = first (is_at_or_under q x) (is_within q ps) (subst (λ y. is_at_or_under q y ≡ true) e h)
  where
    first : (a b : Bool) → a ≡ true → (a || b) ≡ true
    first a b h = grind arith
within_of q (x ∷ ps) p (inr i) h = second (is_at_or_under q x) (is_within q ps) (within_of q ps p i h)
  where
    second : (a b : Bool) → b ≡ true → (a || b) ≡ true
    second a b h = grind arith

-- a removal of one of these is told of the path
abbrev told_by : Path → List Event → Bool
told_by p es = list_any (λ (e : Event). forgets p e.call) es

abbrev IsForgotten : List Path → List Event → Path → Type 0
IsForgotten paths es q = IsTrue (is_within q (forgotten_so_far paths es))

forgotten_by : (paths : List Path) (es : List Event) (p q : Path) → IsIn paths p → told_by p es ≡ true → is_at_or_under q p ≡ true → IsForgotten paths es q
forgotten_by paths es p q i told under = within_of q (forgotten_so_far paths es) p (filter_in (λ x. told_by x es) paths p i told) under

forgotten_more : (paths : List Path) (es : List Event) (e : Event) (q : Path) → IsForgotten paths es q → IsForgotten paths (es ++ e ∷ []) q
forgotten_more paths es e q h =
    let x = within_some q (forgotten_so_far paths es) h in
    let k = in_filter (λ x. told_by x es) paths x.0 x.1 in
    let y = some_of (λ (e : Event). forgets x.0 e.call) es k.1 in
    forgotten_by paths (es ++ e ∷ []) x.0 q k.0 (any_by (λ (e : Event). forgets x.0 e.call) (es ++ e ∷ []) y.0 (in_left es (e ∷ []) y.0 y.1) y.2) x.2

forgotten_now : (paths : List Path) (es : List Event) (e : Event) (p q : Path) → IsIn paths p → forgets p e.call ≡ true → is_at_or_under q p ≡ true → IsForgotten paths (es ++ e ∷ []) q
forgotten_now paths es e p q i told under = forgotten_by paths (es ++ e ∷ []) p q i (any_by (λ (e : Event). forgets p e.call) (es ++ e ∷ []) e (in_here es [] e) told) under

forgets_record : (p m : Path) → m ≡ record_place p → (bytes_eq m (record_place p) || (bytes_eq m (mark_place p) || bytes_eq m (note_place p))) ≡ true
forgets_record p m is = first (bytes_eq m (record_place p)) (bytes_eq m (mark_place p)) (bytes_eq m (note_place p)) (subst (λ y. bytes_eq y (record_place p) ≡ true) (sym is) (place_itself (record_place p)))
  where
    first : (a b c : Bool) → a ≡ true → (a || (b || c)) ≡ true
    first a b c h = grind arith

forgets_mark : (p m : Path) → m ≡ mark_place p → (bytes_eq m (record_place p) || (bytes_eq m (mark_place p) || bytes_eq m (note_place p))) ≡ true
forgets_mark p m is = second (bytes_eq m (record_place p)) (bytes_eq m (mark_place p)) (bytes_eq m (note_place p)) (subst (λ y. bytes_eq y (mark_place p) ≡ true) (sym is) (place_itself (mark_place p)))
  where
    second : (a b c : Bool) → b ≡ true → (a || (b || c)) ≡ true
    second a b c h = grind arith

forgets_note : (p m : Path) → m ≡ note_place p → (bytes_eq m (record_place p) || (bytes_eq m (mark_place p) || bytes_eq m (note_place p))) ≡ true
forgets_note p m is = third (bytes_eq m (record_place p)) (bytes_eq m (mark_place p)) (bytes_eq m (note_place p)) (subst (λ y. bytes_eq y (note_place p) ≡ true) (sym is) (place_itself (note_place p)))
  where
    third : (a b c : Bool) → c ≡ true → (a || (b || c)) ≡ true
    third a b c h = grind arith

-- ---- calls, whatever they are answered

abbrev IsSettling : Call → Type 0
IsSettling (Settled ps r) = Unit {0}
IsSettling c = ⊥

abbrev RemovesAt : Stage → Path → Type 0
RemovesAt (Unrecording p) m = (m ≡ record_place p) ⊎ (m ≡ note_place p)
RemovesAt (Unmarking p) m = m ≡ mark_place p
RemovesAt s m = ⊥

abbrev Removes : Stage → Call → Type 0
Removes s (Removed m r) = RemovesAt s m
Removes s c = ⊥

abbrev MayCall : Outside → Stage → Call → Type 0
MayCall o s c = (IsLook o c ⊎ IsLock o c) ⊎ (IsSettling c ⊎ Removes s c)

may_call_failed : (o : Outside) (s : Stage) (c : Call) → MayCall o s (as_ok c) → MayCall o s c
may_call_failed o s (Looked p r) h = h
may_call_failed o s (ReadFile p limit r) h = h
may_call_failed o s (ReadFolder p r) h = h
may_call_failed o s (Written p bytes r) h = h
may_call_failed o s (Created p r) h = h
may_call_failed o s (Removed p r) h = h
may_call_failed o s (MadeParents p r) h = h
may_call_failed o s (Settled ps r) h = h
may_call_failed o s (Protected p r) h = h
may_call_failed o s (Started recipe logs command r) h = h
may_call_failed o s (Waited r) h = h

settles : (o : Outside) (s : Stage) (c : Call) (ps : List Path) → c ≡ Settled ps (Ok tt) → MayCall o s c
settles o s c ps is = inr (inl (subst IsSettling (sym is) tt))

may_call : (o : Outside) (paths : List Path) (w : World) (s s' : Stage) (e : Event) → Forgets o paths w s e s' → MayCall o s e.call
may_call o paths w s s' e (Look _ _ is) = inl (inl is)
may_call o paths w s s' e (Lock _ is) = inl (inr is)
may_call o paths w s s' e (Settle _ ps is) = settles o s e.call ps is
may_call o paths w s s' e (Hold _ p ps i text unseen is firm) = settles o s e.call ps is
may_call o paths w s s' e (Unrecord _ p is) = inr (inr (subst (Removes (Unrecording p)) (sym is) (inl refl)))
may_call o paths w s s' e (Unnote _ p is) = inr (inr (subst (Removes (Unrecording p)) (sym is) (inr refl)))
may_call o paths w s s' e (Unrecorded _ p ps is a b all) = settles o s e.call ps is
may_call o paths w s s' e (Unmark _ p is) = inr (inr (subst (Removes (Unmarking p)) (sym is) refl))
may_call o paths w s s' e (Unmarked _ p ps is a all) = settles o s e.call ps is
may_call o paths w s s' e (Fail _ s2 _ f step) = may_call_failed o s e.call (may_call o paths w s s2 (record e { call = as_ok e.call }) step)

-- a removal leaves what was there, or nothing
left_of :
    (o : Outside) (w : World) (m : Path) (r : Result (Unit {0}) Failed) (left : List LeftNode) →
    ((q : Path) → w.nodes q ≡ Owned → ⊥) → WorldLets o.act w (Removed m r) left →
    (q : Path) → is_at_or_under q m ≡ true → (standing left q ≡ None) ⊎ (standing left q ≡ reading (w.nodes q))
left_of o w m (Ok u) left free lets q under = inl (ap (λ l. standing l q) lets)
left_of o w m (Err x) left free lets q under = remains (w.nodes q) (standing left q) (free q) (lets q under)

module _ (o : Outside) (entry : World) (H : Versions) (paths : List Path) where
  -- what holds at each stage
  abbrev Holds : Stage → (Path → Type 0) → World → Type 0
  Holds Resting W w = Rest o entry H W w
  Holds (Unrecording p) W w = Held o entry H W p w × IsIn paths p
  Holds (Unmarking p) W w = Bare o entry H W p w × IsIn paths p
  Holds Stopped W w = Open o entry H W w

  open_of : (s : Stage) (W : Path → Type 0) (w : World) → Holds s W w → Open o entry H W w
  open_of Resting W w h = open_rest o entry H W w h
  open_of (Unrecording p) W w h = h.0.throughout
  open_of (Unmarking p) W w h = h.0.held.throughout
  open_of Stopped W w h = h

  module _ (W V : Path → Type 0) (more : (q : Path) → W q → V q) (w : World) (left : List LeftNode) where
    alike : (s : Stage) (w' : World) → Alike o w w' → Holds s W w → Holds s V w'
    alike Resting w' a h = rest_alike o entry H W V more w w' a h
    alike (Unrecording p) w' a h = (held_alike o entry H W V more p w w' a h.0, h.1)
    alike (Unmarking p) w' a h = (bare_alike o entry H W V more p w w' a h.0, h.1)
    alike Stopped w' a h = open_alike o entry H W V more w w' a h

    abbrev then_ : Call → World
    then_ c = after w (event c left)

    -- ---- removals

    record_lessens : (p : Path) (names : List Path) (g : Nodes) → IsImage w names (filled o w (record_place p) g) → Less p (view_of o.read names (filled o w (record_place p) g)) (view_of o.read names g)
    record_lessens p names g i = record_less o w p names g

    note_lessens : (p : Path) (names : List Path) (g : Nodes) → IsImage w names (filled o w (note_place p) g) → Less p (view_of o.read names (filled o w (note_place p) g)) (view_of o.read names g)
    note_lessens p names g i = note_less o w p names g

    mark_lessens : (p : Path) → EachImage o.read w (Gone p) → (names : List Path) (g : Nodes) → IsImage w names (filled o w (mark_place p) g) → Less p (view_of o.read names (filled o w (mark_place p) g)) (view_of o.read names g)
    mark_lessens p gone names g i =
        mark_less o w p names g
        (ap (λ n. option_map core (read_at o.read p n)) (place_other o w (mark_place p) g record_place p (text_laws.marks.mark_record p p))
        ∙ (each_image o.read w (Gone p) gone names (filled o w (mark_place p) g) i).at)

    module _ (m : Path) (r : Result (Unit {0}) Failed) (lets : WorldLets o.act w (Removed m r) left) where
      at_record : (p : Path) → m ≡ record_place p → ((q : Path) → is_at_or_under q p ≡ true → V q) → Held o entry H W p w → Open o entry H V (then_ (Removed m r))
      at_record p is here held =
          open_removed o entry H W V more p m w r left here held (left_of o w m r left held.throughout.free lets)
          (subst (λ x. (names : List Path) (g : Nodes) → IsImage w names (filled o w x g) → Less p (view_of o.read names (filled o w x g)) (view_of o.read names g)) (sym is) (record_lessens p)) (quiet_call w (Removed m r) left tt)

      at_note : (p : Path) → m ≡ note_place p → ((q : Path) → is_at_or_under q p ≡ true → V q) → Held o entry H W p w → Open o entry H V (then_ (Removed m r))
      at_note p is here held =
          open_removed o entry H W V more p m w r left here held (left_of o w m r left held.throughout.free lets)
          (subst (λ x. (names : List Path) (g : Nodes) → IsImage w names (filled o w x g) → Less p (view_of o.read names (filled o w x g)) (view_of o.read names g)) (sym is) (note_lessens p)) (quiet_call w (Removed m r) left tt)

      at_mark : (p : Path) → m ≡ mark_place p → ((q : Path) → is_at_or_under q p ≡ true → V q) → Bare o entry H W p w → Open o entry H V (then_ (Removed m r))
      at_mark p is here bare =
          open_removed o entry H W V more p m w r left here bare.held (left_of o w m r left bare.held.throughout.free lets)
          (subst (λ x. (names : List Path) (g : Nodes) → IsImage w names (filled o w x g) → Less p (view_of o.read names (filled o w x g)) (view_of o.read names g)) (sym is) (mark_lessens p bare.gone)) (quiet_call w (Removed m r) left tt)

    -- ---- whatever is answered, the images stay safe

    abbrev Here : Call → Type 0
    Here c = (p : Path) → IsIn paths p → forgets p c ≡ true → (q : Path) → is_at_or_under q p ≡ true → V q

    removal_open : (s : Stage) (m : Path) (r : Result (Unit {0}) Failed) → Here (Removed m r) → WorldLets o.act w (Removed m r) left → Holds s W w → RemovesAt s m → Open o entry H V (then_ (Removed m r))
    removal_open (Unrecording p) m r here lets h (inl is) = at_record m r lets p is (here p h.1 (forgets_record p m is)) h.0
    removal_open (Unrecording p) m r here lets h (inr is) = at_note m r lets p is (here p h.1 (forgets_note p m is)) h.0
    removal_open (Unmarking p) m r here lets h is = at_mark m r lets p is (here p h.1 (forgets_mark p m is)) h.0
    removal_open Resting m r here lets h is = absurd is
    removal_open Stopped m r here lets h is = absurd is

    settling_open : (c : Call) → IsSettling c → Open o entry H W w → Open o entry H V (then_ c)
    settling_open (Settled ps r) is h = open_alike o entry H W V more w (then_ (Settled ps r)) (settled_alike o w h.formed ps r left) h
    settling_open (Looked p r) is h = absurd is
    settling_open (ReadFile p limit r) is h = absurd is
    settling_open (ReadFolder p r) is h = absurd is
    settling_open (Written p bytes r) is h = absurd is
    settling_open (Created p r) is h = absurd is
    settling_open (Removed p r) is h = absurd is
    settling_open (MadeParents p r) is h = absurd is
    settling_open (Protected p r) is h = absurd is
    settling_open (Started recipe logs command r) is h = absurd is
    settling_open (Waited r) is h = absurd is

    removes_open : (s : Stage) (c : Call) → Here c → WorldLets o.act w c left → Holds s W w → Removes s c → Open o entry H V (then_ c)
    removes_open s (Removed m r) here lets h is = removal_open s m r here lets h is
    removes_open s (Looked p r) here lets h is = absurd is
    removes_open s (ReadFile p limit r) here lets h is = absurd is
    removes_open s (ReadFolder p r) here lets h is = absurd is
    removes_open s (Written p bytes r) here lets h is = absurd is
    removes_open s (Created p r) here lets h is = absurd is
    removes_open s (MadeParents p r) here lets h is = absurd is
    removes_open s (Settled ps r) here lets h is = absurd is
    removes_open s (Protected p r) here lets h is = absurd is
    removes_open s (Started recipe logs command r) here lets h is = absurd is
    removes_open s (Waited r) here lets h is = absurd is

    call_open : (s : Stage) (c : Call) → Here c → WorldLets o.act w c left → Holds s W w → MayCall o s c → Open o entry H V (then_ c)
    call_open s c here lets h (inl (inl is)) = let k = open_of s W w h in open_alike o entry H W V more w (then_ c) (look_alike o w k.formed c left is) k
    call_open s c here lets h (inl (inr is)) = let k = open_of s W w h in open_alike o entry H W V more w (then_ c) (lock_alike o w k.formed c left is) k
    call_open s c here lets h (inr (inl is)) = settling_open c is (open_of s W w h)
    call_open s c here lets h (inr (inr is)) = removes_open s c here lets h is

  -- ---- one event

  -- the world as it reads loses what is removed
  now_less : (w : World) (p m : Path) → ((names : List Path) (g : Nodes) → IsImage w names (filled o w m g) → Less p (view_of o.read names (filled o w m g)) (view_of o.read names g)) → IsImage w w.names (reads w) → Less p (now o w) (now o (after w (event (Removed m (Ok tt)) [])))
  now_less w p m less i =
      let g = reads (after w (event (Removed m (Ok tt)) [])) in
      subst (λ f. Less p (view_of o.read w.names f) (view_of o.read w.names g)) (now_filled o w m)
      (less w.names g (subst (λ f. IsImage w w.names f) (sym (now_filled o w m)) i))

  -- no record that reads names a file there by its time, of the view
  unseen_view : (w : World) (p : Path) → IsUnseen (image_now o w) p → (q x : Path) (r : Record) (f : Content) → (now o w).record_at q ≡ Some r → is_at_or_under x p ≡ true → (now o w).file x ≡ Some f → (s : Stamp) → IsIn (stamped r) (x, s) → source_time s ≡ Some f.time → ⊥
  unseen_view w p unseen q x r f at under file s named time =
      let i = image_now o w in
      let c = flagless_some (file_at i x) f (file_is (i.node x) ∙ subst (λ (v : View). v.file x ≡ Some f) (sym (now_is o w H)) file) in
      unseen q x r c.0 (subst (λ (v : View). v.record_at q ≡ Some r) (sym (now_is o w H)) at) under c.1
      s named (time ∙ ap (λ (y : Content). Some y.time) (sym c.2))

  module _ (W V : Path → Type 0) (more : (q : Path) → W q → V q) (w : World) where
    removed_step :
        (s : Stage) (c : Call) (left : List LeftNode) (m : Path) → c ≡ Removed m (Ok tt) → WorldLets o.act w c left → (Here W V more w left c → Holds s V (after w (event (Removed m (Ok tt)) []))) → Here W V more w left c → Holds s V (after w (event c left))
    removed_step s c left m is lets on here =
        subst (λ x. Holds s V (after w (event x left))) (sym is)
        (subst (λ l. Holds s V (after w (event (Removed m (Ok tt)) l))) (sym (subst (λ x. WorldLets o.act w x left) is lets)) (on here))

    -- a removal that succeeds, of the record or the note
    unrecord_step : (p m : Path) → ((names : List Path) (g : Nodes) → IsImage w names (filled o w m g) → Less p (view_of o.read names (filled o w m g)) (view_of o.read names g)) → ((q : Path) → is_at_or_under q p ≡ true → V q) → Held o entry H W p w → Held o entry H V p (after w (event (Removed m (Ok tt)) []))
    unrecord_step p m less here held =
        record {
          throughout = open_removed o entry H W V more p m w (Ok tt) [] here held (λ q u. inl refl) less (quiet_call w (Removed m (Ok tt)) [] tt);
          near = near_removed o entry H W V more p m w (Ok tt) [] here held (λ q u. inl refl) less (now_less w p m less (now_image w held.throughout.formed));
        }

    unmark_step : (p : Path) → ((q : Path) → is_at_or_under q p ≡ true → V q) → Bare o entry H W p w → Bare o entry H V p (after w (event (Removed (mark_place p) (Ok tt)) []))
    unmark_step p here bare =
        let less = mark_lessens W V more w [] p bare.gone in
        record {
          held = unrecord_step p (mark_place p) less here bare.held;
          gone = gone_removed o entry H W V more p (mark_place p) w (Ok tt) [] here bare.held (λ q u. inl refl) less bare.gone;
        }

    at_call : (s : Stage) (e : Event) (c : Call) → e.call ≡ c → Holds s V (after w (event c e.left)) → Holds s V (after w e)
    at_call s e c is h = subst (λ x. Holds s V (after w (event x e.left))) (sym is) h

    step : (s s' : Stage) (e : Event) → ((p : Path) → IsIn paths p → forgets p e.call ≡ true → (q : Path) → is_at_or_under q p ≡ true → V q) → WorldLets o.act w e.call e.left → Holds s W w → Forgets o paths w s e s' → Holds s' V (after w e)
    step s s' e here lets h (Look _ _ is) = alike W V more w e.left s (after w e) (look_alike o w (open_of s W w h).formed e.call e.left is) h
    step s s' e here lets h (Lock _ is) = rest_alike o entry H W V more w (after w e) (lock_alike o w h.world.formed e.call e.left is) h
    step s s' e here lets h (Settle _ ps is) =
        at_call Resting e (Settled ps (Ok tt)) is (rest_alike o entry H W V more w (after w (event (Settled ps (Ok tt)) e.left)) (settled_alike o w h.world.formed ps (Ok tt) e.left) h)
    step s s' e here lets h (Hold _ p ps i text unseen is firm) =
        at_call (Unrecording p) e (Settled ps (Ok tt)) is
        (let w' = after w (event (Settled ps (Ok tt)) e.left) in
        let a = settled_alike o w h.world.formed ps (Ok tt) e.left in (
          held_first o entry H V p w'
              (subst (λ (n : View). (q x : Path) (r : Record) (f : Content) → n.record_at q ≡ Some r → is_at_or_under x p ≡ true → n.file x ≡ Some f → (s : Stamp) → IsIn (stamped r) (x, s) → source_time s ≡ Some f.time → ⊥) (sym a.now_same) (unseen_view w p unseen))
              (subst (λ x. IsFirmAround (after w (event x e.left)) p) is firm) (rest_alike o entry H W V more w w' a h),
          i,
        ))
    step s s' e here lets h (Unrecord _ p is) =
        removed_step (Unrecording p) e.call e.left (record_place p) is lets
        (λ here. (unrecord_step p (record_place p) (record_lessens W V more w e.left p) (here p h.1 (ap (forgets p) is ∙ forgets_record p (record_place p) refl)) h.0, h.1)) here
    step s s' e here lets h (Unnote _ p is) =
        removed_step (Unrecording p) e.call e.left (note_place p) is lets
        (λ here. (unrecord_step p (note_place p) (note_lessens W V more w e.left p) (here p h.1 (ap (forgets p) is ∙ forgets_note p (note_place p) refl)) h.0, h.1)) here
    step s s' e here lets h (Unrecorded _ p ps is a b all) =
        at_call (Unmarking p) e (Settled ps (Ok tt)) is (
          record {
            held = held_alike o entry H W V more p w (after w (event (Settled ps (Ok tt)) e.left)) (settled_alike o w h.0.throughout.formed ps (Ok tt) e.left) h.0;
            gone = gone_settled o entry H W p w ps e.left h.0.throughout a b all;
          },
          h.1,
        )
    step s s' e here lets h (Unmark _ p is) =
        removed_step (Unmarking p) e.call e.left (mark_place p) is lets (λ here. (unmark_step p (here p h.1 (ap (forgets p) is ∙ forgets_mark p (mark_place p) refl)) h.0, h.1)) here
    step s s' e here lets h (Unmarked _ p ps is a all) =
        at_call Resting e (Settled ps (Ok tt)) is
        (rest_again o entry H V p (after w (event (Settled ps (Ok tt)) e.left)) (bare_alike o entry H W V more p w (after w (event (Settled ps (Ok tt)) e.left)) (settled_alike o w h.0.held.throughout.formed ps (Ok tt) e.left) h.0)
        (unmarked_settled o entry H W p w ps e.left h.0.held.throughout a all))
    step s s' e here lets h (Fail _ s2 _ f inner) = call_open W V more w e.left s e.call here lets h (may_call o paths w s Stopped e (Fail s s2 e f inner))

  -- ---- all of them

  along : (s end : Stage) (w : World) (before es : List Event) → Holds s (IsForgotten paths before) w → WorldFollows o.act w es → ForgetsAll o paths s w es end → Holds end (IsForgotten paths (before ++ es)) (run w es)
  along s end w before [] h follows (Done _ _) = subst (λ l. Holds s (IsForgotten paths l) w) (sym (append-nil before)) h
  along s end w before (e ∷ es) h follows (Next _ mid _ _ _ _ first rest) =
      subst (λ l. Holds end (IsForgotten paths l) (run (after w e) es)) (append_assoc before (e ∷ []) es)
      (along mid end (after w e) (before ++ e ∷ []) es
      (step (IsForgotten paths before) (IsForgotten paths (before ++ e ∷ [])) (forgotten_more paths before e) w s mid e (λ p i told q u. forgotten_now paths before e p q i told u) follows.0.lets h first) follows.1 rest)

  -- a sound image's sources are already versions
  put_same : (v : View) → Sound o.act H v none_eased → put H v ≡ H
  put_same v sound k p t = at (source_at v p) (sound.has_sources p) k
    where
      at : (x : Option Content) → ((f : Content) → x ≡ Some f → H p f.time ≡ Some f.bytes) → or_put (H p t) t x ≡ H p t
      at None has = refl
      at (Some f) has = by_test (f.time == t)
          (λ e. ap (λ (b : Bool). if b then Some f.bytes else H p t) e ∙ sym (has f refl) ∙ ap (H p) (eqb-true f.time t e))
          (λ e. ap (λ (b : Bool). if b then Some f.bytes else H p t) e)

  reached : ImageSoundWorld o entry H → (es : List Event) (s : Stage) → WorldFollows o.act entry es → ForgetsAll o paths Resting entry es s → Holds s (IsForgotten paths es) (run entry es)
  reached sound es s follows all =
      let first = world_to o entry H sound in
      along Resting s entry [] es
      (record { world = subst (SoundWorld o entry) (sym (put_same (now o entry) first.now_sound)) first; sources = λ q. inl refl }) follows all

  -- ---- of images

  flagless_put : (had : Option (List ℕ)) (t : ℕ) (x : Option Content) → or_put had t (option_map flagless x) ≡ or_put had t x
  flagless_put had t None = refl
  flagless_put had t (Some f) = refl

  put_view : (i : Image) → put H (view i) ≡ with_sources H i
  put_view i k p t = (ap (or_put (H p t) t) (sym (source_at_is i p)) ∙ flagless_put (H p t) t (image_source_at i p)) k

  safe_image : (es : List Event) (i : Image) → Safe o entry H (IsForgotten paths es) (view i) → ImageSound o.act (with_sources H i) i none_eased × SourcesOf (seen o.read entry) (forgotten_so_far paths es) i
  safe_image es i safe =
      (sound_from i o.act (with_sources H i) none_eased (subst (λ V. Sound o.act V (view i) none_eased) (put_view i) safe.sound) (has_none (with_sources H i)) safe.nested, λ p. go p (safe.sources p))
    where
      go : (p : Path) → (source_at (view i) p ≡ source_at (now o entry) p) ⊎ (IsForgotten paths es p × (is_source (view i) p ≡ true)) → (option_map told (image_source_at i p) ≡ option_map told (image_source_at (seen o.read entry) p)) ⊎ (IsTrue (is_within p (forgotten_so_far paths es)) × (image_source_at i p ≡ file_at i p))
      go p (inl e) = inl (source_from (seen o.read entry) i p (e ∙ ap (λ v. source_at v p) (sym (now_is o entry H))))
      go p (inr (h, is)) = inr (h, ap (λ (b : Bool). if b then file_at i p else None) (source_is i p ∙ is))

  at_exit : (s : Stage) (W : Path → Type 0) (w : World) → IsTrue (is_resting s) → Holds s W w → ImageSoundWorld o w (with_sources H (seen o.read w))
  at_exit Resting W w resting h = subst (ImageSoundWorld o w) (ap (put H) (sym (now_is o w H)) ∙ put_view (seen o.read w)) (world_from o w (put H (now o w)) h.world)
  at_exit (Unrecording p) W w resting h = clash false resting refl
  at_exit (Unmarking p) W w resting h = clash false resting refl
  at_exit Stopped W w resting h = clash false resting refl

-- ---- what a settling makes firm

module _ (w : World) (ps : List Path) (left : List LeftNode) (free : (q : Path) → w.nodes q ≡ Owned → ⊥) where
  firm_within : (q : Path) → is_within q ps ≡ true → IsFirm (after w (event (Settled ps (Ok tt)) left)) q
  firm_within q h =
      (reading (w.nodes q), ap (λ (b : Bool). if b || is_above q ps && reads_folder (w.nodes q) then firm (w.nodes q) else w.nodes q) h ∙ firm_is (w.nodes q) (free q))

  firm_at : (x q : Path) → IsTrue (among ps x) → is_at_or_under q x ≡ true → IsFirm (after w (event (Settled ps (Ok tt)) left)) q
  firm_at x q i under = firm_within q (within_of q ps x (in_among ps x i) under)

pub settling_is_enough : SettlingIsEnough
settling_is_enough w p ps left free at_path at_own =
    record {
      files = λ q under. firm_at w ps left free p q at_path under;
      records = λ q other over. firm_at w ps left free own_folder (record_place q) at_own refl;
      marks = λ q other over. firm_at w ps left free own_folder (mark_place q) at_own refl;
      notes = λ q other over. firm_at w ps left free own_folder (note_place q) at_own refl;
    }

-- a part from its front
front : (o : Outside) (paths : List Path) (s end : Stage) (w : World) (es rest : List Event) → ForgetsAll o paths s w (es ++ rest) end → (mid : Stage) × ForgetsAll o paths s w es mid
front o paths s end w [] rest all = (s, Done s w)
front o paths s end w (e ∷ es) rest (Next _ mid _ _ _ _ step all) = let f = front o paths mid end (after w e) es rest all in (f.0, Next s mid f.0 w e es step f.1)

front_follows : (o : Outside) (w : World) (es rest : List Event) → WorldFollows o.act w (es ++ rest) → WorldFollows o.act w es
front_follows o w [] rest follows = tt
front_follows o w (e ∷ es) rest follows = (follows.0, front_follows o (after w e) es rest follows.1)

pub forgetting_keeps_sound : ForgettingKeepsSound
forgetting_keeps_sound o entry paths log s follows all =
    record {
      safe = λ H differ sound events rest split nodes leaves.
          let part = front o paths Resting s entry events rest (subst (λ es. ForgetsAll o paths Resting entry es s) split all) in
          let h = reached o entry H paths sound events part.0 (front_follows o entry events rest (subst (WorldFollows o.act entry) split follows)) part.1 in
          let k = open_of o entry H paths part.0 (IsForgotten paths events) (run entry events) h in
          safe_image o entry H paths events (image_of o.read nodes) (to_lists o.read (run entry events) k.formed (Safe o entry H (IsForgotten paths events)) k.safe nodes leaves);
      sound_at_exit = λ H differ sound resting alone. at_exit o entry H paths s (IsForgotten paths log) (run entry log) resting (reached o entry H paths sound log s follows all);
    }
