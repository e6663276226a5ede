-- A call that forgets paths keeps directories listed; so it is a call that stands in a history.
use Rattle.std.proofs.Common.{◌≡◌, ◌⊎◌, Bool, true, false, ◌||◌, List, [], ◌∷◌, ◌++◌, refl, sym, ap, subst, inl, inr, ◌∙◌, Some, None, Ok, Err, true≢false}
use Rattle.std.specs.Prelude.{bytes_eq, nat_eq, Result, Contains, if◌then◌else◌, ◌&&◌}
use Rattle.std.specs.List.{IsDistinct}
use Rattle.smk_base.specs.Path.{is_under, is_at_or_under}
use Rattle.smk_base.specs.Place.{record_place, mark_place, lock_place}
use Rattle.smk_base.proofs.Places.{place_itself}
use Rattle.smk_base.proofs.Under.{never_both, at_itself}
use Rattle.smk_world.specs.declared.event.NodeState.{NodeState}
use Rattle.smk_world.specs.declared.event.NodeState.TheVariants.{Owned, Known}
use Rattle.smk_world.specs.declared.event.Call.{Call}
use Rattle.smk_world.specs.declared.event.Call.TheVariants.{Looked, ReadFile, ReadFolder, Written, Created, Removed, MadeParents, Settled, Protected, Started, Waited}
use Rattle.smk_world.specs.declared.event.Change.{Change as LeftNode}
use Rattle.smk_world.specs.declared.event.Child.{Child}
use Rattle.smk_world.specs.declared.event.Event.{Event}
use Rattle.smk_world.specs.declared.event.Failed.{Failed}
use Rattle.smk_world.specs.World.{World, IsFormed, after, run, reading, reads_nothing, reads_folder, firm, firmly, going, standing, is_within, is_above, numbers, children_after}
use Rattle.smk_world.specs.Calls.{Lets as WorldLets, MayRead, Reads, HasOwners, owned_now}
use Rattle.smk_world.specs.Runs.{Follows}
use Rattle.smk_world.specs.Trees.{Path, Each, among}
use Rattle.smk_world.proofs.Names.{formed_after}
use Rattle.smk_world.proofs.Owners.{AreNumbered, numbered_after, numbered_image, owned_after}
use Rattle.smk_store.specs.Images.{image_of, seen}
use Rattle.smk_store.specs.Trust.{Versions}
use Rattle.smk_store.specs.Soundness.{Outside, SoundWorld}
use Rattle.smk_laws_protocol.specs.Protocol.{RunState, IsLook, IsLock, IsAbsent, as_ok}
use Rattle.smk_laws_protocol.specs.Forgetting.{Stage, Resting, Unrecording, Unmarking, Stopped, Forgets, Look, Lock, Settle, Hold, Unrecord, Unnote, Unrecorded, Unmark, Unmarked, Fail, ForgetsAll, Done, Next}
use Rattle.smk_laws_protocol.proofs.Answers.{remains}
use Rattle.smk_laws_protocol.proofs.Between.{Lets, IsOfJob}
use Rattle.smk_laws_protocol.proofs.Calls.{event}
use Rattle.smk_laws_protocol.proofs.EveryImage.{to_lists, from_lists}
use Rattle.smk_laws_protocol.proofs.ForgettingHolds.{forgetting_keeps_sound}
use Rattle.smk_laws_protocol.proofs.Keeping.{texts_of}
use Rattle.smk_laws_protocol.proofs.Naming.{each_image, now_image}
use Rattle.smk_laws_protocol.proofs.Reading.{in_of}
use Rattle.smk_laws_protocol.proofs.SoundWorlds.{now_is}
use Rattle.smk_laws_protocol.proofs.TextFacts.{text_laws}
use Rattle.smk_laws_protocol.proofs.Texts.{Texts}
use Rattle.smk_laws_protocol.proofs.Views.{EachImage, reads}
use Rattle.smk_laws_history.specs.Histories.{IsListed, ForgettingIsCall}
use Rattle.smk_laws_history.proofs.HistoryListed.{HasListed, to_view, from_view}
use Rattle.smk_laws_history.proofs.HistoryListedCalls.{HasOpen, listed_after, removed_after, unmarked_after}

-- ## Which calls come

-- a look, a settling, a call at the lock, or a removal: of no mark, or of the mark of a path whose record is gone for good
abbrev Turn : World → Call → Type 0
Turn w (Looked p r) = Unit {0}
Turn w (ReadFile p limit r) = Unit {0}
Turn w (ReadFolder p r) = Unit {0}
Turn w (Created p r) = p ≡ lock_place
Turn w (MadeParents p r) = p ≡ lock_place
Turn w (Removed x r) = ((p : Path) → is_at_or_under (mark_place p) x ≡ false) ⊎ ((y : Path) × (x ≡ mark_place y) × (w.nodes (record_place y) ≡ firmly None))
Turn w (Settled ps r) = Unit {0}
Turn w (Written p bytes r) = ⊥
Turn w (Protected p r) = ⊥
Turn w (Started recipe logs command r) = ⊥
Turn w (Waited r) = ⊥

turn_failed : (w : World) (c : Call) → Turn w (as_ok c) → Turn w c
turn_failed w (Looked p r) a = a
turn_failed w (ReadFile p limit r) a = a
turn_failed w (ReadFolder p r) a = a
turn_failed w (Created p r) a = a
turn_failed w (MadeParents p r) a = a
turn_failed w (Removed p r) a = a
turn_failed w (Settled ps r) a = a
turn_failed w (Protected p r) a = a
turn_failed w (Written p bytes r) a = a
turn_failed w (Started recipe logs command r) a = a
turn_failed w (Waited r) a = a

look_turn : (o : Outside) (w : World) (c : Call) → IsLook o c → Turn w c
look_turn o w (Looked p r) is = tt
look_turn o w (ReadFile p limit r) is = tt
look_turn o w (ReadFolder p r) is = tt
look_turn o w (Created p r) is = absurd is
look_turn o w (MadeParents p r) is = absurd is
look_turn o w (Removed p r) is = absurd is
look_turn o w (Settled ps r) is = tt
look_turn o w (Protected p r) is = absurd is
look_turn o w (Written p bytes r) is = absurd is
look_turn o w (Started recipe logs command r) is = absurd is
look_turn o w (Waited r) is = absurd is

look_same : (o : Outside) (w : World) (c : Call) (left : List LeftNode) (q : Path) → IsLook o c → (after w (event c left)).nodes q ≡ w.nodes q
look_same o w (Looked p r) left q is = refl
look_same o w (ReadFile p limit r) left q is = refl
look_same o w (ReadFolder p r) left q is = refl
look_same o w (Created p r) left q is = absurd is
look_same o w (MadeParents p r) left q is = absurd is
look_same o w (Removed p r) left q is = absurd is
look_same o w (Settled ps r) left q is = absurd is
look_same o w (Protected p r) left q is = absurd is
look_same o w (Written p bytes r) left q is = absurd is
look_same o w (Started recipe logs command r) left q is = absurd is
look_same o w (Waited r) left q is = absurd is

children_same : (w : World) (c : Call) (cs : List Child) → Turn w c → children_after c cs ≡ cs
children_same w (Looked p r) cs a = refl
children_same w (ReadFile p limit r) cs a = refl
children_same w (ReadFolder p r) cs a = refl
children_same w (Created p r) cs a = refl
children_same w (MadeParents p r) cs a = refl
children_same w (Removed p r) cs a = refl
children_same w (Settled ps r) cs a = refl
children_same w (Protected p r) cs a = absurd a
children_same w (Written p bytes r) cs a = absurd a
children_same w (Started recipe logs command r) cs a = absurd a
children_same w (Waited r) cs a = absurd a

-- ## States of one place

nothing : (s : NodeState) → (s ≡ Owned → ⊥) → MayRead None s → reads_nothing s ≡ true
nothing Owned free h = absurd (free refl)
nothing (Known None b) free h = refl
nothing (Known (Some n) b) free h = cc

something : (s : NodeState) → (Reads None s → ⊥) → reads_nothing s ≡ false
something Owned h = refl
something (Known None b) h = absurd (h refl)
something (Known (Some n) b) h = refl

firm_is : (s : NodeState) → (s ≡ Owned → ⊥) → firm s ≡ firmly (reading s)
firm_is Owned free = absurd (free refl)
firm_is (Known n b) free = refl

within_among : (ps : List Path) (x : Path) → among ps x ≡ true → is_within x ps ≡ true
within_among [] x h = absurd (true≢false (sym h))
within_among (y ∷ ys) x h = go (bytes_eq x y) (is_under x y) h (λ k. within_among ys x k)
  where
    go : (a b : Bool) → (a || among ys x) ≡ true → (among ys x ≡ true → is_within x ys ≡ true) → ((a || b) || is_within x ys) ≡ true
    go true b k ih = refl
    go false true k ih = refl
    go false false k ih = ih k

-- ## Along the log

idle : RunState
idle = record { jobs = []; top = 0; steady = false; faulted = false }

abbrev IsGoneIn : Stage → World → Type 0
IsGoneIn Resting w = Unit {0}
IsGoneIn (Unrecording p) w = Unit {0}
IsGoneIn (Unmarking p) w = w.nodes (record_place p) ≡ firmly None
IsGoneIn Stopped w = Unit {0}

module _ (o : Outside) where
  abbrev texts : Texts o.read
  texts = texts_of text_laws o.read

  record Kept (s : Stage) (w : World) : Type 0 where
    formed : IsFormed w
    owners : HasOwners w
    numbered : AreNumbered w
    alone : w.children ≡ []
    listed : EachImage o.read w HasListed
    gone : IsGoneIn s w

  module _ (s : Stage) (w : World) (kept : Kept s w) where
    free : (q : Path) → w.nodes q ≡ Owned → ⊥
    free q h = true≢false (sym (sym (ap (λ cs. is_within q (owned_now cs)) kept.alone) ∙ kept.owners q h))

    open_none : HasOpen o idle w
    unfolding idle
    open_none =
        record {
          formed = kept.formed;
          paths = λ k i. absurd i;
          clash = λ k i. absurd i;
          marks = λ k i. absurd i;
          known = λ k i. absurd i;
          made = λ k i. absurd i;
          gone = λ k i. absurd i;
          children = subst (λ cs. Each (IsOfJob o []) cs) (sym kept.alone) tt;
        }

    removed : (x : Path) (r : Result (Unit {0}) Failed) (left : List LeftNode) → Lets o w (event (Removed x r) left) (Removed x r) → Turn w (Removed x r) → EachImage o.read (after w (event (Removed x r) left)) HasListed
    removed x r left lets (inl far) = removed_after o texts idle w open_none kept.listed x r left lets far
    removed x r left lets (inr (y, is, gone)) =
        (subst (λ x. Lets o w (event (Removed x r) left) (Removed x r) → EachImage o.read (after w (event (Removed x r) left)) HasListed) (sym is)
        (λ lets. unmarked_after o texts idle w open_none kept.listed y r left lets gone)) lets

    lists : (c : Call) (left : List LeftNode) → WorldLets o.act w c left → Turn w c → EachImage o.read (after w (event c left)) HasListed
    lists (Looked p r) left lets a = listed_after o texts idle w open_none kept.listed (Looked p r) left tt (inl tt)
    lists (ReadFile p limit r) left lets a = listed_after o texts idle w open_none kept.listed (ReadFile p limit r) left tt (inl tt)
    lists (ReadFolder p r) left lets a = listed_after o texts idle w open_none kept.listed (ReadFolder p r) left tt (inl tt)
    lists (Settled ps r) left lets a = listed_after o texts idle w open_none kept.listed (Settled ps r) left tt (inl tt)
    lists (MadeParents p r) left lets a = listed_after o texts idle w open_none kept.listed (MadeParents p r) left tt (inl a)
    lists (Created p (Ok true)) left lets a = listed_after o texts idle w open_none kept.listed (Created p (Ok true)) left (nothing (w.nodes p) (free p) lets.0, lets.1) (inl a)
    lists (Created p (Ok false)) left lets a = listed_after o texts idle w open_none kept.listed (Created p (Ok false)) left (something (w.nodes p) lets.0, lets.1) (inl a)
    lists (Created p (Err x)) left lets a =
        listed_after o texts idle w open_none kept.listed (Created p (Err x)) left
        (λ q h. lets q (λ e. never_both (bytes_eq q p) (subst (λ y. bytes_eq q y ≡ true) e (place_itself q)) h)) (inl a)
    lists (Removed x (Ok u)) left lets a = removed x (Ok u) left lets a
    lists (Removed x (Err f)) left lets a = removed x (Err f) left (λ q h. remains (w.nodes q) (standing left q) (free q) (lets q h)) a
    lists (Written p bytes r) left lets a = absurd a
    lists (Protected p r) left lets a = absurd a
    lists (Started recipe logs command r) left lets a = absurd a
    lists (Waited r) left lets a = absurd a

    lock_turn : (c : Call) → IsLock o c → Turn w c
    lock_turn (Created p r) is = is
    lock_turn (MadeParents p r) is = is
    lock_turn (Removed p r) is = inl (λ q. ap (is_at_or_under (mark_place q)) is ∙ texts.lock.lock_mark q)
    lock_turn (Looked p r) is = absurd is
    lock_turn (ReadFile p limit r) is = absurd is
    lock_turn (ReadFolder p r) is = absurd is
    lock_turn (Settled ps r) is = tt
    lock_turn (Protected p r) is = absurd is
    lock_turn (Written p bytes r) is = absurd is
    lock_turn (Started recipe logs command r) is = absurd is
    lock_turn (Waited r) is = absurd is

  turn_of : (paths : List Path) (w : World) (s : Stage) → Kept s w → (e : Event) (mid : Stage) → Forgets o paths w s e mid → Turn w e.call
  turn_of paths w s kept e mid (Look _ _ is) = look_turn o w e.call is
  turn_of paths w s kept e mid (Lock _ is) = lock_turn s w kept e.call is
  turn_of paths w s kept e mid (Settle _ ps is) = subst (Turn w) (sym is) tt
  turn_of paths w s kept e mid (Hold _ p ps i path unseen is around) = subst (Turn w) (sym is) tt
  turn_of paths w s kept e mid (Unrecord _ p is) = subst (Turn w) (sym is) (inl (λ q. texts.records.record_mark p q))
  turn_of paths w s kept e mid (Unnote _ p is) = subst (Turn w) (sym is) (inl (λ q. texts.notes.note_mark p q))
  turn_of paths w s kept e mid (Unrecorded _ p ps is record_gone note_gone all) = subst (Turn w) (sym is) tt
  turn_of paths w s kept e mid (Unmark _ p is) = subst (Turn w) (sym is) (inr (p, refl, kept.gone))
  turn_of paths w s kept e mid (Unmarked _ p ps is gone all) = subst (Turn w) (sym is) tt
  turn_of paths w s kept e mid (Fail _ s2 _ f step) = turn_failed w e.call (turn_of paths w s kept (record e { call = as_ok e.call }) s2 step)

  -- ## Where a record is gone

  look_gone : (s : Stage) (w : World) (e : Event) → IsLook o e.call → IsGoneIn s w → IsGoneIn s (after w e)
  look_gone Resting w e is gone = tt
  look_gone (Unrecording p) w e is gone = tt
  look_gone (Unmarking p) w e is gone = look_same o w e.call e.left (record_place p) is ∙ gone
  look_gone Stopped w e is gone = tt

  settled_gone : (w : World) (p : Path) (ps : List Path) (left : List LeftNode) → ((q : Path) → w.nodes q ≡ Owned → ⊥) → IsAbsent w (record_place p) → among ps (record_place p) ≡ true → (after w (event (Settled ps (Ok tt)) left)).nodes (record_place p) ≡ firmly None
  settled_gone w p ps left free absent among =
      ap (λ b. if b || (is_above (record_place p) ps && reads_folder (w.nodes (record_place p))) then firm (w.nodes (record_place p)) else w.nodes (record_place p)) (within_among ps (record_place p) among)
      ∙ firm_is (w.nodes (record_place p)) (free (record_place p)) ∙ ap firmly (absent (record_place p) (at_itself (record_place p)))

  gone_after : (s : Stage) (w : World) → Kept s w → (paths : List Path) (e : Event) (mid : Stage) → Forgets o paths w s e mid → IsGoneIn mid (after w e)
  gone_after s w kept paths e mid (Look _ _ is) = look_gone s w e is kept.gone
  gone_after s w kept paths e mid (Lock _ is) = tt
  gone_after s w kept paths e mid (Settle _ ps is) = tt
  gone_after s w kept paths e mid (Hold _ p ps i path unseen is around) = tt
  gone_after s w kept paths e mid (Unrecord _ p is) = tt
  gone_after s w kept paths e mid (Unnote _ p is) = tt
  gone_after s w kept paths e mid (Unrecorded _ p ps is record_gone note_gone all) =
      subst (λ c. (after w (event c e.left)).nodes (record_place p) ≡ firmly None) (sym is) (settled_gone w p ps e.left (free s w kept) record_gone all.0)
  gone_after s w kept paths e mid (Unmark _ p is) =
      subst (λ c. (after w (event c e.left)).nodes (record_place p) ≡ firmly None) (sym is)
      (ap (λ b. if b then going (standing e.left (record_place p)) (w.nodes (record_place p)) else w.nodes (record_place p)) (texts.marks.mark_record p p) ∙ kept.gone)
  gone_after s w kept paths e mid (Unmarked _ p ps is gone all) = tt
  gone_after s w kept paths e mid (Fail _ s2 _ f step) = tt

  along : (paths : List Path) (s end : Stage) (w : World) (es : List Event) → Kept s w → Follows o.act w es → ForgetsAll o paths s w es end → Kept end (run w es)
  along paths s end w [] kept follows (Done _ _) = kept
  along paths s end w (e ∷ es) kept follows (Next _ mid _ _ _ _ step rest) =
      let turn = turn_of paths w s kept e mid step in
      along paths mid end (after w e) es
      (record {
        formed = formed_after w e kept.formed;
        owners = owned_after w e kept.numbered kept.owners;
        numbered = numbered_after o.act w e follows.0.lets kept.numbered;
        alone = children_same w e.call w.children turn ∙ kept.alone;
        listed = lists s w kept e.call e.left follows.0.lets turn;
        gone = gone_after s w kept paths e mid step;
      })
      follows.1 rest

  lists_after : (entry : World) (H : Versions) (paths : List Path) (es : List Event) (s : Stage) → SoundWorld o entry H → IsListed o entry → Follows o.act entry es → ForgetsAll o paths Resting entry es s → IsListed o (run entry es)
  lists_after entry H paths es s sound listed follows all =
      let kept = along paths Resting s entry es
      (record {
        formed = sound.formed;
        owners = sound.owners;
        numbered = record { distinct = subst (λ cs. IsDistinct nat_eq (numbers cs)) (sym sound.no_child) (numbered_image []).distinct; started = λ n h. absurd (in_of (numbers []) n (subst (λ cs. Contains (numbers cs) n) sound.no_child h)) };
        alone = sound.no_child;
        listed = from_lists o.read entry HasListed (λ nodes leaves. to_view (image_of o.read nodes) (listed.after_crash nodes leaves));
        gone = tt;
      }) follows all in
      record {
        now = from_view (seen o.read (run entry es)) (subst HasListed (sym (now_is o (run entry es) H)) (each_image o.read (run entry es) HasListed kept.listed (run entry es).names (reads (run entry es)) (now_image (run entry es) kept.formed)));
        after_crash = λ nodes leaves. from_view (image_of o.read nodes) (to_lists o.read (run entry es) kept.formed HasListed kept.listed nodes leaves);
      }

-- ## As a call keeps it

-- a part from its front
front : (o : Outside) (paths : List Path) (s end : Stage) (w : World) (es rest : List Event) → ForgetsAll o paths s w (es ++ rest) end → (mid : Stage) × ForgetsAll o paths s w es mid
front o paths s end w [] rest all = (s, Done s w)
front o paths s end w (e ∷ es) rest (Next _ mid _ _ _ _ step all) = let f = front o paths mid end (after w e) es rest all in (f.0, Next s mid f.0 w e es step f.1)

front_follows : (o : Outside) (w : World) (es rest : List Event) → Follows o.act w (es ++ rest) → Follows o.act w es
front_follows o w [] rest follows = tt
front_follows o w (e ∷ es) rest follows = (follows.0, front_follows o (after w e) es rest follows.1)

pub forgetting_is_call : ForgettingIsCall
forgetting_is_call o entry paths log s follows all =
    record {
      follows = follows;
      sound = forgetting_keeps_sound o entry paths log s follows all;
      listed = record {
        throughout = λ H differ sound listed events rest split.
            let part = front o paths Resting s entry events rest (subst (λ es. ForgetsAll o paths Resting entry es s) split all) in
            (lists_after o entry H paths events part.0 sound listed (front_follows o entry events rest (subst (Follows o.act entry) split follows)) part.1).after_crash;
        at_exit = λ H differ sound listed resting alone. (lists_after o entry H paths log s sound listed follows all).now;
      };
    }
