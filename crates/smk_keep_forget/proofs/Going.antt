-- Paths that are forgotten, one after another.
use Rattle.std.proofs.Common.{◌≡◌, inl, inr, Bool, true, false, ◌&&◌, ◌||◌, not, List, [], ◌∷◌, ◌++◌, refl, sym, ap, subst, ◌∙◌, bytes_eq, append_assoc, append-nil, Option, Some, None, Result, Ok, Err}
use Rattle.std.specs.Prelude.{IsErrAnd, IsSome, is_some}
use Rattle.std.proofs.lemmas.Option.{same_Some}
use Rattle.std.proofs.Math.Bool.{and-true, and-false, or-false}
use Rattle.smk_base.proofs.Places.{same_place}
use Rattle.smk_base.proofs.Under.{or_first, or_second}
use Rattle.smk_world.specs.declared.event.Event.{Event}
use Rattle.smk_world.specs.Devices.{Device, Sunk, WhereTold, HasActed, HasLooked, AreLooks}
use Rattle.smk_world.specs.Runs.{Follows}
use Rattle.smk_world.specs.Trees.{Path, Act, among}
use Rattle.smk_world.specs.World.{World, after, run}
use Rattle.smk_world.proofs.Devices.{acted_as, acted_nothing, acted_then, looks_append, looks_nodes}
use Rattle.smk_world.proofs.Runs.{run_append}
use Rattle.smk_record.proofs.Lists.{named_append}
use Rattle.smk_store.specs.declared.fault.StoreFault.{StoreFault}
use Rattle.smk_store.specs.declared.fault.StoreFault.TheVariants as store
use Rattle.smk_store.specs.Faults.{store_failed}
use Rattle.smk_store.specs.Images.{is_known}
use Rattle.smk_store.specs.Loading.{IsStoreOf}
use Rattle.smk_store.specs.Stores.{Known}
use Rattle.smk_report.specs.Lines.{Text}
use Rattle.smk_keep_lock.specs.Putting.{Put}
use Rattle.smk_keep_lock.proofs.Acting.{acted_more}
use Rattle.smk_keep_lock.proofs.Telling.{put_nothing}
use Rattle.smk_keep_forget.specs.declared.fault.ForgetFault.{ForgetFault}
use Rattle.smk_keep_forget.specs.declared.fault.ForgetFault.TheVariants.{Locked, StampSeen, Device as DeviceFault, Output, OutOfMemory}
use Rattle.smk_keep_forget.specs.Answers.{is_device, of_store}
use Rattle.smk_keep_forget.specs.Seen.{seen}
use Rattle.smk_keep_forget.specs.Steps.{HasStepped, HasTurned, IsForgotten, IsLineFor, IsOfPut}
use Rattle.smk_keep_forget.specs.Turns.{IsStoreBut, IsTurn, HaveTurned, Looked, Turned, EndsSo, HasGone}
use Rattle.smk_keep_forget.proofs.Forgetting.{forgotten_now, follows_rest}
use Rattle.smk_keep_forget.proofs.Stores.{IsWithout, known_other, without_none}
use Rattle.smk_keep_forget.proofs.Turns.{AfterLooks, after_looks, known_same, store_same}

-- ## Where the world is told

some_of : {A : Type 0} (o : Option A) → IsSome o → (x : A) × (o ≡ Some x)
some_of None h = absurd cc
some_of (Some x) h = (x, refl)

-- the events that led on, where nothing failed
pub acted_at : (act : Act) (P : World → List Event → Type 0) (a b : Device) (w : World) → HasActed act P a b false → a.world ≡ Some w → (es : List Event) × Follows act w es × P w es × (b.world ≡ Some (run w es))
acted_at act P a b w h at =
    let v = some_of b.world (h.stays refl (ap is_some at)) in
    let d = h.did v.0 v.1 in
    let same : d.0 ≡ w = same_Some d.0 w (sym d.1 ∙ at) in (
      d.2.0,
      subst (λ u. Follows act u d.2.0) same d.2.1,
      subst (λ u. P u d.2.0) same d.2.2,
      v.1 ∙ ap Some (d.2.3 ∙ ap (λ u. run u d.2.0) same),
    )

pub follows_first : (act : Act) (es fs : List Event) (w : World) → Follows act w (es ++ fs) → Follows act w es
follows_first act [] fs w h = tt
follows_first act (e ∷ es) fs w h = (h.0, follows_first act es fs (after w e) h.1)

-- ## What is known then

module _ (act : Act) (w : World) where
  -- all that was known, but for the paths that are forgotten
  pub known_now : (done : List Path) (es : List Event) → Follows act w es → HaveTurned w done es → (q : Path) → is_known (seen (run w es)) q ≡ (is_known (seen w) q && not (among done q))
  known_now done es follows (Looked looks h) q = known_same (run w es) w (looks_nodes false w es h) q ∙ sym (and-true (is_known (seen w) q))
  known_now all log follows (Turned done _ p es fs _ k turned turn all_is log_is) q =
      let both : Follows act w (es ++ fs) = subst (Follows act w) log_is follows in
      let v = run w es in
      let gone : IsWithout p (seen v) (seen (run v fs)) = forgotten_now v p act k fs (follows_rest act es fs w both) (turn.known k refl) turn.did.1 in
      ap (λ l. is_known (seen (run w l)) q) log_is
      ∙ ap (λ x. is_known (seen x) q) (run_append w es fs)
      ∙ by v fs done p gone (known_now done es (follows_first act es fs w both) turned q) (bytes_eq q p) refl
      ∙ sym (ap (λ a. is_known (seen w) q && not (among a q)) all_is)
    where
      by : (v : World) (fs : List Event) (done : List Path) (p : Path) → IsWithout p (seen v) (seen (run v fs)) → is_known (seen v) q ≡ (is_known (seen w) q && not (among done q)) → (b : Bool) → bytes_eq q p ≡ b
          → is_known (seen (run v fs)) q ≡ (is_known (seen w) q && not (among (done ++ p ∷ []) q))
      by v fs done p gone before true is =
          ap (is_known (seen (run v fs))) (same_place q p is)
          ∙ gone.none
          ∙ sym (and-false (is_known (seen w) q))
          ∙ sym (ap (λ b. is_known (seen w) q && not b) (named_append q done (p ∷ []) ∙ or_second (among done q) (bytes_eq q p || false) (or_first (bytes_eq q p) false is)))
      by v fs done p gone before false is =
          known_other p (seen v) (seen (run v fs)) gone q is
          ∙ before
          ∙ sym (ap (λ b. is_known (seen w) q && not b) (named_append q done (p ∷ []) ∙ ap (λ b. among done q || (b || false)) is ∙ or-false (among done q)))

-- ## One turn

-- the path was forgotten, and what its line's put answered
stepped_put : (done : List Path) (p : Path) (left : List Known) (k : Bool) (r : Result (Unit {0}) ForgetFault) (w : World) (es : List Event) → IsOfPut r → HasTurned done p left (Ok k) w es → HasStepped done p left r w es
stepped_put done p left k (Ok u) w es h t = ((k, t.turn), t.but)
stepped_put done p left k (Err Locked) w es h t = h
stepped_put done p left k (Err (StampSeen q)) w es h t = absurd h
stepped_put done p left k (Err DeviceFault) w es h t = absurd h
stepped_put done p left k (Err Output) w es h t = (k, t.turn)
stepped_put done p left k (Err OutOfMemory) w es h t = inr (k, t.turn)

put_fine : (r : Result (Unit {0}) ForgetFault) → IsOfPut r → false ≡ is_device r
put_fine (Ok u) h = refl
put_fine (Err Locked) h = absurd h
put_fine (Err (StampSeen q)) h = absurd h
put_fine (Err DeviceFault) h = absurd h
put_fine (Err Output) h = refl
put_fine (Err OutOfMemory) h = refl

stepped_fault : (done : List Path) (p : Path) (left : List Known) (f : StoreFault) (w : World) (es : List Event) → HasTurned done p left (Err f) w es → HasStepped done p left (Err (of_store f)) w es
stepped_fault done p left (store.StampSeen q) w es t = t.turn
stepped_fault done p left store.Device w es t = t.turn
stepped_fault done p left store.OutOfMemory w es t = inl t.turn

same_failure : (f : StoreFault) → store_failed {T = Bool} (Err f) ≡ is_device {T = Unit {0}} (Err (of_store f))
same_failure (store.StampSeen q) = refl
same_failure store.Device = refl
same_failure store.OutOfMemory = refl

abbrev Steps : List Path → List Known → Path → List Known → Result (Unit {0}) ForgetFault → World → List Event → Type 0
Steps done old p new r w es = IsStoreBut done w old → HasStepped done p new r w es

abbrev Turns : List Path → List Known → Path → List Known → Result Bool StoreFault → World → List Event → Type 0
Turns done old p new r w es = IsStoreBut done w old → HasTurned done p new r w es

module _ (act : Act) (a b : Device) (done : List Path) (old new : List Known) (p : Path) where
  pub acted_put : (k : Bool) (r : Result (Unit {0}) ForgetFault) → IsOfPut r → HasActed act (Turns done old p new (Ok k)) a b false → HasActed act (Steps done old p new r) a b (is_device r)
  acted_put k r of_put h =
      acted_as act (Turns done old p new (Ok k)) (Steps done old p new r) a b false (is_device r) (put_fine r of_put)
      (λ w es turns but. stepped_put done p new k r w es of_put (turns but)) h

  pub acted_fault : (f : StoreFault) (x : ForgetFault) → x ≡ of_store f → HasActed act (Turns done old p new (Err f)) a b (store_failed {T = Bool} (Err f)) → HasActed act (Steps done old p new (Err x)) a b (is_device {T = Unit {0}} (Err x))
  acted_fault f x is h =
      subst (λ y. HasActed act (Steps done old p new (Err y)) a b (is_device {T = Unit {0}} (Err y))) (sym is)
      (acted_as act (Turns done old p new (Err f)) (Steps done old p new (Err (of_store f))) a b _ _ (same_failure f) (λ w es turns but. stepped_fault done p new f w es (turns but)) h)

  -- what is told of the path is what was known
  pub known_told : (k : Bool) → HasActed act (Turns done old p new (Ok k)) a b false → WhereTold a (λ w. IsStoreBut done w old → k ≡ is_known (seen w) p)
  known_told k h w at but = let t = (acted_at act (Turns done old p new (Ok k)) a b w h at).2 but in t.turn.known k refl

-- where the store failed nothing is put
pub nothing_for : (f : StoreFault) (x : ForgetFault) → x ≡ of_store f → (a : Sunk) (line : Text) → Put a a (IsLineFor (Err x) line)
nothing_for f x is a line = subst (λ y. Put a a (IsLineFor (Err y) line)) (sym is) (put_nothing a (IsLineFor (Err (of_store f)) line) (by f))
  where
    by : (f : StoreFault) → IsLineFor (Err (of_store f)) line []
    by (store.StampSeen q) = refl
    by store.Device = refl
    by store.OutOfMemory = refl

-- a fault that is handed on
pub handed : (P : Result (Unit {0}) ForgetFault → Type 0) (s : Result (Unit {0}) ForgetFault) (x : ForgetFault) → IsErrAnd s (λ y. y ≡ x) → P (Err x) → P s
handed P (Ok u) x h k = absurd h
handed P (Err y) x h k = subst (λ z. P (Err z)) (sym h) k

-- ## All turns

-- so far
abbrev pub SoFar : List Known → List Path → List Known → World → List Event → Type 0
SoFar old done now w es = IsStoreBut [] w old → HaveTurned w done es × IsStoreBut done (run w es) now

abbrev pub Goes : List Known → List Path → Result (Unit {0}) ForgetFault → World → List Event → Type 0
Goes old paths r w es = IsStoreBut [] w old → HasGone paths r w es

split_after : (paths done later : List Path) (p : Path) → paths ≡ done ++ p ∷ later → paths ≡ (done ++ p ∷ []) ++ later
split_after paths done later p split = split ∙ sym (append_assoc done (p ∷ []) later)

turned_next : (w : World) (done : List Path) (p : Path) (es fs : List Event) → HaveTurned w done es → IsForgotten p (run w es) fs → HaveTurned w (done ++ p ∷ []) (es ++ fs)
turned_next w done p es fs turned (k, turn) = Turned done (done ++ p ∷ []) p es fs (es ++ fs) k turned turn refl refl

module _ (paths done later : List Path) (p : Path) (left : List Known) (w : World) (es fs : List Event) (split : paths ≡ done ++ p ∷ later) (turned : HaveTurned w done es) where
  -- its turn ended early
  gone_in : (r : Result (Unit {0}) ForgetFault) → EndsSo (p ∷ later) r (run w es) fs → HasGone paths r w (es ++ fs)
  gone_in r ends = record { done = done; later = p ∷ later; turns = es; last = fs; split = split; events = refl; turned = turned; ends = ends }

  -- it ended after its turn
  gone_after : (r : Result (Unit {0}) ForgetFault) → IsForgotten p (run w es) fs → EndsSo later r (run w (es ++ fs)) [] → HasGone paths r w (es ++ fs)
  gone_after r turn ends = record {
    done = done ++ p ∷ [];
    later = later;
    turns = es ++ fs;
    last = [];
    split = split_after paths done later p split;
    events = sym (append-nil (es ++ fs));
    turned = turned_next w done p es fs turned turn;
    ends = ends;
  }

  gone_early : (f : ForgetFault) → HasStepped done p left (Err f) (run w es) fs → HasGone paths (Err f) w (es ++ fs)
  gone_early Locked h = absurd h
  gone_early (StampSeen q) h = gone_in (Err (StampSeen q)) (p, later, refl, h)
  gone_early DeviceFault h = gone_in (Err DeviceFault) (inr (p, later, refl, h))
  gone_early Output h = gone_after (Err Output) h refl
  gone_early OutOfMemory (inl h) = gone_in (Err OutOfMemory) h.did
  gone_early OutOfMemory (inr h) = gone_after (Err OutOfMemory) h refl

module _ (act : Act) (a b : Device) (old now : List Known) where
  -- before the first turn
  pub so_far_none : HasActed act (SoFar old [] old) a a false
  so_far_none = acted_nothing act (SoFar old [] old) a (λ w but. (Looked [] refl, but))

  -- one more turn
  pub so_far_next : (c : Device) (done all : List Path) (p : Path) (next : List Known) → all ≡ done ++ p ∷ [] → HasActed act (SoFar old done now) a b false → HasActed act (Steps done now p next (Ok tt)) b c false
      → HasActed act (SoFar old all next) a c false
  so_far_next c done all p next is before step =
      acted_then act (SoFar old done now) (Steps done now p next (Ok tt)) (SoFar old all next) a b c false
      (λ w es fs follows far follows2 steps but.
      let f = far but in
      let s = steps f.1 in
      subst (λ l. HaveTurned w l (es ++ fs) × IsStoreBut l (run w (es ++ fs)) next) (sym is)
      (turned_next w done p es fs f.0 s.0, subst (λ x. IsStoreBut (done ++ p ∷ []) x next) (sym (run_append w es fs)) s.1))
      before step

  -- a turn that ended early
  pub gone_cut : (c : Device) (paths done later : List Path) (p : Path) (next : List Known) (f : ForgetFault) (g : Bool) → paths ≡ done ++ p ∷ later → HasActed act (SoFar old done now) a b false
      → HasActed act (Steps done now p next (Err f)) b c g → HasActed act (Goes old paths (Err f)) a c g
  gone_cut c paths done later p next f g split before step =
      acted_then act (SoFar old done now) (Steps done now p next (Err f)) (Goes old paths (Err f)) a b c g
      (λ w es fs follows far follows2 steps but. let t = far but in gone_early paths done later p next w es fs split t.0 f (steps t.1)) before step

  -- after the last turn
  pub gone_all : (paths done : List Path) → done ≡ paths → HasActed act (SoFar old done now) a b false → HasActed act (Goes old paths (Ok tt)) a b false
  gone_all paths done is h =
      acted_as act (SoFar old done now) (Goes old paths (Ok tt)) a b false false refl
      (λ w es far but.
      let t = far but in
      record { done = done; later = []; turns = es; last = []; split = sym is ∙ sym (append-nil done); events = sym (append-nil es); turned = t.0; ends = (refl, refl) })
      h

-- ## Behind a load

turned_behind : (w : World) (looks : List Event) → AreLooks false looks → (done : List Path) (es : List Event) → HaveTurned (run w looks) done es → HaveTurned w done (looks ++ es)
turned_behind w looks h done es (Looked _ k) = Looked (looks ++ es) (looks_append false looks es h k)
turned_behind w looks h all log (Turned done _ p es fs _ k turned turn all_is log_is) =
    Turned done all p (looks ++ es) fs (looks ++ log) k (turned_behind w looks h done es turned) (subst (λ v. IsTurn v p (Ok k) fs) (sym (run_append w looks es)) turn) all_is
    (ap (λ l. looks ++ l) log_is ∙ sym (append_assoc looks es fs))

gone_behind : (paths : List Path) (r : Result (Unit {0}) ForgetFault) (w : World) (looks log : List Event) → AreLooks false looks → HasGone paths r (run w looks) log → HasGone paths r w (looks ++ log)
gone_behind paths r w looks log h g =
    record {
      done = g.done;
      later = g.later;
      turns = looks ++ g.turns;
      last = g.last;
      split = g.split;
      events = ap (λ l. looks ++ l) g.events ∙ sym (append_assoc looks g.turns g.last);
      turned = turned_behind w looks h g.done g.turns g.turned;
      ends = subst (λ v. EndsSo g.later r v g.last) (sym (run_append w looks g.turns)) g.ends;
    }

-- a store that was just loaded
pub but_none : (w : World) (ks : List Known) → IsStoreOf (seen w) ks → IsStoreBut [] w ks
but_none w ks h = record { gone = []; forgotten = λ p e. e; is_store = subst (IsStoreOf (seen w)) (sym (without_none ks)) h }

pub gone_loaded : (act : Act) (a b c : Device) (ks : List Known) (paths : List Path) (r : Result (Unit {0}) ForgetFault) → HasLooked act a b false → WhereTold a (λ w. IsStoreOf (seen w) ks)
    → HasActed act (Goes ks paths r) b c (is_device r) → HasActed act (HasGone paths r) a c (is_device r)
gone_loaded act a b c ks paths r looked told h =
    acted_more act (AfterLooks (Goes ks paths r)) (HasGone paths r) a c (is_device r) (is_device r) refl
    (λ w at log follows (es, fs, split, looks, goes).
    subst (HasGone paths r w) (sym split)
    (gone_behind paths r w es fs looks (goes (but_none (run w es) ks (store_same w (run w es) ks (sym (looks_nodes false w es looks)) (told w at))))))
    (after_looks act (Goes ks paths r) a b c (is_device r) looked h)

-- the store couldn't be loaded
unloaded : (act : Act) (a b : Device) (paths : List Path) (f : StoreFault) → ((q : Path) → f ≡ store.StampSeen q → ⊥) → HasLooked act a b (store_failed {T = List Known} (Err f))
    → HasActed act (HasGone paths (Err (of_store f))) a b (is_device {T = Unit {0}} (Err (of_store f)))
unloaded act a b paths (store.StampSeen q) plain looked = absurd (plain q refl)
unloaded act a b paths store.Device plain looked =
    acted_as act (λ w es. AreLooks true es) (HasGone paths (Err DeviceFault)) a b true true refl
    (λ w es look. record { done = []; later = paths; turns = []; last = es; split = refl; events = refl; turned = Looked [] refl; ends = inl look }) looked.acted
unloaded act a b paths store.OutOfMemory plain looked =
    acted_as act (λ w es. AreLooks false es) (HasGone paths (Err OutOfMemory)) a b false false refl
    (λ w es look. record { done = []; later = paths; turns = []; last = es; split = refl; events = refl; turned = Looked [] refl; ends = look }) looked.acted

pub gone_unloaded : (act : Act) (a b : Device) (paths : List Path) (f : StoreFault) (x : ForgetFault) → x ≡ of_store f → ((q : Path) → f ≡ store.StampSeen q → ⊥) → HasLooked act a b (store_failed {T = List Known} (Err f))
    → HasActed act (HasGone paths (Err x)) a b (is_device {T = Unit {0}} (Err x))
gone_unloaded act a b paths f x is plain looked =
    subst (λ y. HasActed act (HasGone paths (Err y)) a b (is_device {T = Unit {0}} (Err y))) (sym is) (unloaded act a b paths f plain looked)
