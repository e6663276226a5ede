-- The turn of a path, by a store that was loaded before or anew.
use Rattle.std.proofs.Common.{◌≡◌, ◌⊎◌, inl, inr, Bool, true, false, ◌||◌, List, [], ◌∷◌, ◌++◌, map, refl, sym, ap, subst, ◌∙◌, bytes_eq, append_assoc, Result, Ok, Err, true≢false}
use Rattle.std.specs.Prelude.{IfOk, is_some}
use Rattle.smk_base.proofs.Under.{or_cases, or_first, or_second}
use Rattle.smk_world.specs.declared.event.Event.{Event}
use Rattle.smk_world.specs.declared.event.NodeState.{NodeState}
use Rattle.smk_world.specs.Devices.{Device, WhereTold, HasActed, HasLooked, AreLooks}
use Rattle.smk_world.specs.Requests.{HasDone, IsCutShort}
use Rattle.smk_world.specs.Runs.{Follows}
use Rattle.smk_world.specs.Trees.{Path, Act, among}
use Rattle.smk_world.specs.World.{World, run, reading}
use Rattle.smk_world.proofs.Devices.{acted_as, acted_then, looks_append, looks_nodes}
use Rattle.smk_world.proofs.Runs.{run_append}
use Rattle.smk_record.specs.Records.{are_rising}
use Rattle.smk_record.proofs.Lists.{named_append}
use Rattle.smk_store.specs.declared.fault.StoreFault.{StoreFault}
use Rattle.smk_store.specs.declared.fault.StoreFault.TheVariants.{StampSeen, Device as DeviceFault, OutOfMemory}
use Rattle.smk_store.specs.Faults.{store_failed}
use Rattle.smk_store.specs.Forgetting.{AreUnseen, IsSeen, IsFirstSeen, HasForgotten, LooksThen, forget_requests, forget_if}
use Rattle.smk_store.specs.Images.{is_known, content_of}
use Rattle.smk_store.specs.Loading.{IsStoreOf, entry_in}
use Rattle.smk_store.specs.Stores.{Known, entry_of}
use Rattle.smk_keep_lock.proofs.Acting.{acted_more}
use Rattle.smk_keep_forget.specs.Answers.{is_stamp}
use Rattle.smk_keep_forget.specs.Seen.{seen}
use Rattle.smk_keep_forget.specs.Steps.{HasTurned, TurnsBy}
use Rattle.smk_keep_forget.specs.Turns.{IsStoreBut, without}
use Rattle.smk_keep_forget.proofs.Forgetting.{forgotten_now}
use Rattle.smk_keep_forget.proofs.Stores.{entry_there, inputs_left, known_by_store, store_of, store_without, without_none}

-- ## Worlds with the same nodes

abbrev with_nodes : World → (Path → NodeState) → World
with_nodes v ns = record v { nodes = ns }

pub known_same : (v w : World) → v.nodes ≡ w.nodes → (q : Path) → is_known (seen v) q ≡ is_known (seen w) q
known_same v w same q = ap (λ (ns : Path → NodeState). is_known (seen (with_nodes v ns)) q) same

pub store_same : (v w : World) (ks : List Known) → v.nodes ≡ w.nodes → IsStoreOf (seen v) ks → IsStoreOf (seen w) ks
store_same v w ks same h =
    store_of (seen w) ks (λ q. h.entries q ∙ ap (λ (ns : Path → NodeState). entry_in (seen (with_nodes v ns)) q) same)

pub but_same : (done : List Path) (v w : World) (ks : List Known) → v.nodes ≡ w.nodes → IsStoreBut done v ks → IsStoreBut done w ks
but_same done v w ks same h =
    record { gone = h.gone; forgotten = h.forgotten; is_store = store_same v w (without h.gone ks) same h.is_store }

seen_same : (ks : List Known) (v w : World) (p q : Path) → v.nodes ≡ w.nodes → IsSeen ks w p q → IsSeen ks v p q
seen_same ks v w p q same h =
    record {
      under = h.under;
      file = h.file;
      stands = ap (λ (ns : Path → NodeState). content_of (reading (ns q))) same ∙ h.stands;
      stamp = h.stamp;
      held = h.held;
      same = h.same;
    }

unseen_same : (ks : List Known) (v w : World) (p : Path) → v.nodes ≡ w.nodes → AreUnseen ks v p → AreUnseen ks w p
unseen_same ks v w p same h = λ q k. h q (seen_same ks v w p q same k)

first_same : (ks : List Known) (v w : World) (p q : Path) → v.nodes ≡ w.nodes → IsFirstSeen ks v p q → IsFirstSeen ks w p q
first_same ks v w p q same h = record {
  seen = seen_same ks w v p q (sym same) h.seen;
  first = λ x k. h.first x (seen_same ks v w p x same k);
}

-- ## Looks before

looks_longer : (P : List Event → Type 0) (es fs : List Event) → AreLooks false es → LooksThen P fs → LooksThen P (es ++ fs)
looks_longer P es fs h (looks, calls, split, look, p) =
    (es ++ looks, calls, ap (λ l. es ++ l) split ∙ sym (append_assoc es looks calls), looks_append false es looks h look, p)

looks_before : (ks : List Known) (p : Path) (r : Result Bool StoreFault) (w : World) (es fs : List Event) → AreLooks false es → HasForgotten ks p r (run w es) fs → HasForgotten ks p r w (es ++ fs)
looks_before ks p (Ok k) w es fs h (unseen, later) =
    (unseen_same ks (run w es) w p (looks_nodes false w es h) unseen, looks_longer (λ calls. HasDone (forget_if k p) calls) es fs h later)
looks_before ks p (Err (StampSeen q)) w es fs h (first, look) = (first_same ks (run w es) w p q (looks_nodes false w es h) first, looks_append false es fs h look)
looks_before ks p (Err DeviceFault) w es fs h (inl look) = inl (looks_append true es fs h look)
looks_before ks p (Err DeviceFault) w es fs h (inr (unseen, later)) =
    inr (unseen_same ks (run w es) w p (looks_nodes false w es h) unseen, looks_longer (λ calls. IsCutShort (forget_requests p) calls) es fs h later)
looks_before ks p (Err OutOfMemory) w es fs h look = looks_append false es fs h look

but_at : (done : List Path) (r : Result Bool StoreFault) (v w : World) (ks : List Known) → v ≡ w → IfOk r (λ k. IsStoreBut done v ks) → IfOk r (λ k. IsStoreBut done w ks)
but_at done r v w ks e h = subst (λ x. IfOk r (λ k. IsStoreBut done x ks)) e h

turned_before : (done : List Path) (p : Path) (left : List Known) (r : Result Bool StoreFault) (w : World) (es fs : List Event) → AreLooks false es → HasTurned done p left r (run w es) fs → HasTurned done p left r w (es ++ fs)
turned_before done p left r w es fs h t =
    let same = looks_nodes false w es h in
    record {
      turn = record {
        store = t.turn.store;
        is_store = store_same (run w es) w t.turn.store same t.turn.is_store;
        did = looks_before t.turn.store p r w es fs h t.turn.did;
        known = λ k e. t.turn.known k e ∙ known_same (run w es) w same p;
        rising = t.turn.rising;
      };
      but = but_at (done ++ p ∷ []) r (run (run w es) fs) (run w (es ++ fs)) left (sym (run_append w es fs)) t.but;
    }

-- ## A store that is left

module _ (act : Act) (w : World) (p : Path) (es : List Event) (follows : Follows act w es) where
  -- once it is forgotten, one more path may be gone
  but_next : (done gone : List Path) (ks : List Known) (r : Result Bool StoreFault) → ((q : Path) → among gone q ≡ true → among done q ≡ true) → IsStoreOf (seen w) (without gone ks)
      → HasForgotten (without gone ks) p r w es → ((k : Bool) → r ≡ Ok k → k ≡ is_known (seen w) p) → IfOk r (λ k. IsStoreBut (done ++ p ∷ []) (run w es) ks)
  but_next done gone ks (Ok k) sub store did known = record {
    gone = p ∷ gone;
    forgotten = λ q h. named_append q done (p ∷ []) ∙ by q (or_cases (bytes_eq q p) (among gone q) h);
    is_store = store_without p (seen w) (seen (run w es)) gone ks (forgotten_now w p act k es follows (known k refl) did.1) store;
  }
    where
      by : (q : Path) → (bytes_eq q p ≡ true) ⊎ (among gone q ≡ true) → (among done q || (bytes_eq q p || false)) ≡ true
      by q (inl e) = or_second (among done q) (bytes_eq q p || false) (or_first (bytes_eq q p) false e)
      by q (inr h) = or_first (among done q) (bytes_eq q p || false) (sub q h)
  but_next done gone ks (Err f) sub store did known = tt

  known_ok : (ks : List Known) (r : Result Bool StoreFault) → IsStoreOf (seen w) ks → IfOk r (λ k. k ≡ is_some (entry_of ks p)) → (k : Bool) → r ≡ Ok k → k ≡ is_known (seen w) p
  known_ok ks r store h k e = subst (λ x. IfOk x (λ j. j ≡ is_some (entry_of ks p))) e h ∙ known_by_store (seen w) ks store p

  -- by a store that has just what stands
  turned_fresh : (done : List Path) (ks : List Known) (r : Result Bool StoreFault) → IsStoreOf (seen w) ks → HasForgotten ks p r w es → IfOk r (λ k. k ≡ is_some (entry_of ks p)) → are_rising (map (λ (k : Known). k.path) ks) ≡ true → HasTurned done p ks r w es
  turned_fresh done ks r store did known rising =
      let all : without [] ks ≡ ks = without_none ks in
      record {
        turn = record { store = ks; is_store = store; did = did; known = known_ok ks r store known; rising = λ q e. rising };
        but = but_next done [] ks r (λ q h. absurd (true≢false (sym h))) (subst (IsStoreOf (seen w)) (sym all) store) (subst (λ l. HasForgotten l p r w es) (sym all) did)
            (known_ok ks r store known);
      }

  unseen_less : (gone : List Path) (ks : List Known) → AreUnseen ks w p → AreUnseen (without gone ks) w p
  unseen_less gone ks h = λ q k. h q (record { under = k.under; file = k.file; stands = k.stands; stamp = k.stamp; held = inputs_left gone ks _ k.held; same = k.same })

  forgotten_less : (gone : List Path) (ks : List Known) (r : Result Bool StoreFault) → is_stamp r ≡ false → HasForgotten ks p r w es → HasForgotten (without gone ks) p r w es
  forgotten_less gone ks (Ok k) h (unseen, later) = (unseen_less gone ks unseen, later)
  forgotten_less gone ks (Err (StampSeen q)) h did = absurd (true≢false h)
  forgotten_less gone ks (Err DeviceFault) h (inl look) = inl look
  forgotten_less gone ks (Err DeviceFault) h (inr (unseen, later)) = inr (unseen_less gone ks unseen, later)
  forgotten_less gone ks (Err OutOfMemory) h look = look

  known_less : (gone : List Path) (ks : List Known) (r : Result Bool StoreFault) → among gone p ≡ false → IfOk r (λ k. k ≡ is_some (entry_of ks p)) → IfOk r (λ k. k ≡ is_some (entry_of (without gone ks) p))
  known_less gone ks (Ok k) off h = h ∙ sym (ap is_some (entry_there gone ks p off))
  known_less gone ks (Err f) off h = tt

  not_gone : (done gone : List Path) → ((q : Path) → among gone q ≡ true → among done q ≡ true) → among done p ≡ false → among gone p ≡ false
  not_gone done gone sub off = by (among gone p) refl
    where
      by : (b : Bool) → among gone p ≡ b → b ≡ false
      by true h = absurd (true≢false (sym (sub p h) ∙ off))
      by false h = refl

  -- by one of which some paths may be gone
  turned_stale : (done : List Path) (ks : List Known) (r : Result Bool StoreFault) → among done p ≡ false → is_stamp r ≡ false → HasForgotten ks p r w es → IfOk r (λ k. k ≡ is_some (entry_of ks p))
      → IsStoreBut done w ks → HasTurned done p ks r w es
  turned_stale done ks r off plain did known but =
      let left = without but.gone ks in
      let less = forgotten_less but.gone ks r plain did in
      let tells = known_ok left r but.is_store (known_less but.gone ks r (not_gone done but.gone but.forgotten off) known) in
      record {
        turn = record { store = left; is_store = but.is_store; did = less; known = tells; rising = λ q e. absurd (true≢false (sym (ap is_stamp e) ∙ plain)) };
        but = but_next done but.gone ks r but.forgotten but.is_store less tells;
      }

-- where the store couldn't be loaded
turned_unloaded : (done : List Path) (w : World) (p : Path) (es : List Event) (ks new : List Known) (f : StoreFault) → ((q : Path) → f ≡ StampSeen q → ⊥) → AreLooks (store_failed {T = Bool} (Err f)) es → IsStoreBut done w ks
    → HasTurned done p new (Err f) w es
turned_unloaded done w p es ks new f plain look but =
    record { turn = record { store = without but.gone ks; is_store = but.is_store; did = by f plain look; known = λ k e. absurd cc; rising = λ q e. absurd (plain q (same_fault q e)) }; but = tt }
  where
    same_fault : (q : Path) → ◌≡◌ {A = Result Bool StoreFault} (Err f) (Err (StampSeen q)) → f ≡ StampSeen q
    same_fault q e = cc

    by : (f : StoreFault) → ((q : Path) → f ≡ StampSeen q → ⊥) → AreLooks (store_failed {T = Bool} (Err f)) es → HasForgotten (without but.gone ks) p (Err f) w es
    by (StampSeen q) plain look = absurd (plain q refl)
    by DeviceFault plain look = inl look
    by OutOfMemory plain look = look

-- ## What the functions did

-- looks, and then events that are in P by the world after these
abbrev pub AfterLooks : (World → List Event → Type 0) → World → List Event → Type 0
AfterLooks P w log = (es : List Event) × (fs : List Event) × (log ≡ es ++ fs) × AreLooks false es × P (run w es) fs

pub after_looks : (act : Act) (P : World → List Event → Type 0) (a b c : Device) (f : Bool) → HasLooked act a b false → HasActed act P b c f → HasActed act (AfterLooks P) a c f
after_looks act P a b c f looked h =
    acted_then act (λ w es. AreLooks false es) P (AfterLooks P) a b c f (λ w es fs follows looks follows2 k. (es, fs, refl, looks, k)) looked.acted h

pub acted_anew : (act : Act) (a b c : Device) (old ks : List Known) (p : Path) (r : Result Bool StoreFault) → HasLooked act a b false → WhereTold a (λ w. IsStoreOf (seen w) ks)
    → HasActed act (HasForgotten ks p r) b c (store_failed r) → IfOk r (λ k. k ≡ is_some (entry_of ks p)) → are_rising (map (λ (k : Known). k.path) ks) ≡ true → HasActed act (TurnsBy old p ks r) a c (store_failed r)
acted_anew act a b c old ks p r looked told h known rising =
    acted_more act (AfterLooks (HasForgotten ks p r)) (TurnsBy old p ks r) a c (store_failed r) (store_failed r) refl
    (λ w at log follows (es, fs, split, looks, did) done but.
    turned_fresh act w p log follows done ks r (told w at) (subst (HasForgotten ks p r w) (sym split) (looks_before ks p r w es fs looks did)) known rising)
    (after_looks act (HasForgotten ks p r) a b c (store_failed r) looked h)

pub acted_unloaded : (act : Act) (a b : Device) (old new : List Known) (p : Path) (f : StoreFault) → ((q : Path) → f ≡ StampSeen q → ⊥) → HasLooked act a b (store_failed {T = List Known} (Err f))
    → HasActed act (TurnsBy old p new (Err f)) a b (store_failed {T = Bool} (Err f))
acted_unloaded act a b old new p f plain looked =
    acted_as act (λ w es. AreLooks (store_failed {T = List Known} (Err f)) es) (TurnsBy old p new (Err f)) a b _ _ (same_type f)
    (λ w es look done but. turned_unloaded done w p es old new f plain (subst (λ b. AreLooks b es) (same_type f) look) but) looked.acted
  where
    same_type : (f : StoreFault) → store_failed {T = List Known} (Err f) ≡ store_failed {T = Bool} (Err f)
    same_type (StampSeen q) = refl
    same_type DeviceFault = refl
    same_type OutOfMemory = refl

-- the store may tell of what is gone: it was loaded anew
pub acted_again : (act : Act) (a b c : Device) (done : List Path) (old new : List Known) (p : Path) (s r : Result Bool StoreFault) → is_stamp s ≡ true → HasActed act (HasForgotten old p s) a b (store_failed s)
    → HasActed act (TurnsBy old p new r) b c (store_failed r) → HasActed act (λ w es. IsStoreBut done w old → HasTurned done p new r w es) a c (store_failed r)
acted_again act a b c done old new p (Ok k) r h did more = absurd (true≢false (sym h))
acted_again act a b c done old new p (Err (StampSeen q)) r h did more =
    acted_then act (HasForgotten old p (Err (StampSeen q))) (TurnsBy old p new r) (λ w es. IsStoreBut done w old → HasTurned done p new r w es) a b c (store_failed r)
    (λ w es fs follows first follows2 turns but.
    turned_before done p new r w es fs first.1 (turns done (but_same done w (run w es) old (sym (looks_nodes false w es first.1)) but)))
    did more
acted_again act a b c done old new p (Err DeviceFault) r h did more = absurd (true≢false (sym h))
acted_again act a b c done old new p (Err OutOfMemory) r h did more = absurd (true≢false (sym h))

pub acted_stale : (act : Act) (a b : Device) (done : List Path) (ks : List Known) (p : Path) (r : Result Bool StoreFault) → among done p ≡ false → is_stamp r ≡ false → HasActed act (HasForgotten ks p r) a b (store_failed r)
    → IfOk r (λ k. k ≡ is_some (entry_of ks p)) → HasActed act (λ w es. IsStoreBut done w ks → HasTurned done p ks r w es) a b (store_failed r)
acted_stale act a b done ks p r off plain did known =
    acted_more act (HasForgotten ks p r) (λ w es. IsStoreBut done w ks → HasTurned done p ks r w es) a b (store_failed r) (store_failed r) refl
    (λ w at es follows forgotten but. turned_stale act w p es follows done ks r off plain forgotten known but) did
