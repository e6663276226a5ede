-- One call after another, and one function after another.
use Rattle.std.proofs.Common.{◌≡◌, inl, inr, ℕ, zero, suc, cond, ◌+◌, ◌<◌, ◌≤◌, Bool, true, false, not, List, [], ◌∷◌, ◌++◌, length, take, drop, get_or, add-one, drop-cons, refl, sym, ap, subst, ◌∙◌, Option, Some, None, Result, Ok, Err, arith}
use Rattle.std.specs.Prelude.{All, Contains, IfOk, IsSome, is_some, IsErrAnd, is_err}
use Rattle.std.specs.List.{flat_map}
use Rattle.std.proofs.lemmas.Bool.{eq-eqb}
use Rattle.std.proofs.lemmas.List.{append-nil, take_more, take_all, take-append-drop}
use Rattle.std.proofs.lemmas.List.Concat.{flat_map-append, flat_map-cons}
use Rattle.smk_world.specs.declared.event.Call.{Call}
use Rattle.smk_world.specs.declared.event.Call.TheVariants.{Looked, ReadFile, ReadFolder, Written, Created, Removed, MadeParents, Settled, Protected, Started, Waited}
use Rattle.smk_world.specs.declared.event.Change.{Change}
use Rattle.smk_world.specs.declared.event.Child.{Child}
use Rattle.smk_world.specs.declared.event.Ended.{Ended}
use Rattle.smk_world.specs.declared.event.Event.{Event}
use Rattle.smk_world.specs.declared.recipe.Recipe.{Recipe}
use Rattle.smk_world.specs.declared.event.Failed.{Failed}
use Rattle.smk_world.specs.declared.event.Found.{Found}
use Rattle.smk_world.specs.declared.event.Listing.{Listing}
use Rattle.smk_world.specs.declared.event.Node.TheVariants.{Regular, Directory}
use Rattle.smk_world.specs.declared.event.NodeState.{NodeState}
use Rattle.smk_world.specs.declared.event.NodeState.TheVariants.{Owned, Known}
use Rattle.smk_world.specs.declared.event.Stat.{Stat}
use Rattle.smk_world.specs.declared.event.WorkFault.{WorkFault}
use Rattle.smk_world.specs.declared.event.WorkFault.TheVariants.{Failed as FailedFault, OutOfMemory as MemoryFault}
use Rattle.smk_world.specs.World.{World, after, run, node_after, children_after, without_number}
use Rattle.smk_world.specs.Calls.{Rose, Happens, Lets, ListingIs, IsListing, IsUnused, any_overlap, used_now, failed, device_failed}
use Rattle.smk_world.specs.Devices.{Device, WhereTold, HasCalled, HasActed, HasEnded, HasLooked, HasCarried, AreLooks, is_look, running_after, keeps_children}
use Rattle.smk_world.specs.Requests.{Request, request, HasDone, IsCutShort, Carries}
use Rattle.smk_world.specs.Runs.{Follows}
use Rattle.smk_world.specs.Trees.{Path, Act}
use Rattle.smk_world.proofs.Runs.{did_nothing, did_both}

never : true ≡ false → ⊥
never e = cc

further : (a b c : ℕ) → a ≤ b → Rose b c → Rose a c
further a b c le (inl lt) = inl (omega (arith, le, lt))
further a b c le (inr e) = inr e

pub still_running : (c : Call) (x : List ℕ) → keeps_children c ≡ true → running_after c x ≡ x
still_running (Looked p r) x h = refl
still_running (ReadFile p limit r) x h = refl
still_running (ReadFolder p r) x h = refl
still_running (Written p bytes r) x h = refl
still_running (Created p r) x h = refl
still_running (Removed p r) x h = refl
still_running (MadeParents p r) x h = refl
still_running (Settled ps r) x h = refl
still_running (Protected p r) x h = refl
still_running (Started recipe logs command r) x h = absurd (never (sym h))
still_running (Waited r) x h = absurd (never (sym h))

pub still_children : (c : Call) (x : List Child) → keeps_children c ≡ true → children_after c x ≡ x
still_children (Looked p r) x h = refl
still_children (ReadFile p limit r) x h = refl
still_children (ReadFolder p r) x h = refl
still_children (Written p bytes r) x h = refl
still_children (Created p r) x h = refl
still_children (Removed p r) x h = refl
still_children (MadeParents p r) x h = refl
still_children (Settled ps r) x h = refl
still_children (Protected p r) x h = refl
still_children (Started recipe logs command r) x h = absurd (never (sym h))
still_children (Waited r) x h = absurd (never (sym h))

-- ## Any events

-- nothing was done
pub acted_nothing : (act : Act) (P : World → List Event → Type 0) (a : Device) → ((w : World) → P w []) → HasActed act P a a false
acted_nothing act P a start =
    record {
      did = did_nothing act P a.world start;
      stays = λ quiet some. some;
      cause = record { later = omega arith; rose = λ failure. absurd (never (sym failure)) };
      running = refl;
      children = λ w1 e. (w1, e, refl);
    }

-- one call
pub acted_call : (act : Act) (P : World → List Event → Type 0) (a b : Device) (call : Call) → keeps_children call ≡ true
    → ((w : World) (left : List Change) → Lets act w call left → P w (record { call = call; left = left } ∷ [])) → HasCalled act a b call → HasActed act P a b (failed call)
acted_call act P a b call same more h =
    record {
      did = λ w1 e. let t = h.world.told w1 e in (t.0, t.1, (record { call = call; left = t.2.0 } ∷ [], (t.2.1, tt), more t.0 t.2.0 t.2.1.lets, t.2.2));
      stays = λ quiet some. h.world.stays some quiet;
      cause = h.cause;
      running = h.running ∙ still_running call a.running same;
      children = λ w1 e. let t = h.world.told w1 e in (t.0, t.1, ap (λ (w : World). w.children) t.2.2 ∙ still_children call t.0.children same);
    }

-- one function after another
pub acted_then : (act : Act) (P Q R : World → List Event → Type 0) (a b c : Device) (f : Bool)
    → ((w : World) (es fs : List Event) → Follows act w es → P w es → Follows act (run w es) fs → Q (run w es) fs → R w (es ++ fs))
    → HasActed act P a b false → HasActed act Q b c f → HasActed act R a c f
acted_then act P Q R a b c f both first second =
    record {
      did = did_both act P Q R a.world b.world c.world first.did second.did both;
      stays = λ quiet some. second.stays quiet (first.stays refl some);
      cause = record {
        later = omega (arith, first.cause.later, second.cause.later);
        rose = λ failure. further a.faults b.faults c.faults first.cause.later (second.cause.rose failure);
      };
      running = second.running ∙ first.running;
      children = λ w2 e. let v = second.children w2 e in let u = first.children v.0 v.1 in (u.0, u.1, v.2 ∙ u.2);
    }

-- what holds of the events as well
pub acted_as : (act : Act) (P Q : World → List Event → Type 0) (a b : Device) (f g : Bool) → f ≡ g → ((w : World) (es : List Event) → P w es → Q w es) → HasActed act P a b f → HasActed act Q a b g
acted_as act P Q a b f g same more h =
    record {
      did = λ w1 e. let d = h.did w1 e in (d.0, d.1, (d.2.0, d.2.1, more d.0 d.2.0 d.2.2, d.2.3));
      stays = λ quiet some. h.stays (same ∙ quiet) some;
      cause = record { later = h.cause.later; rose = λ failure. h.cause.rose (same ∙ failure) };
      running = h.running;
      children = h.children;
    }

-- ## Children

-- no child was started or ended, and none ran
pub ended_acted : {act : Act} {P : World → List Event → Type 0} {a b : Device} {f : Bool} → a.running ≡ [] → HasActed act P a b f → HasEnded act P a b f
ended_acted none h = record { did = h.did; stays = h.stays; cause = h.cause; idle = λ quiet. h.running ∙ none }

-- one function after another
pub ended_then : (act : Act) (P Q R : World → List Event → Type 0) (a b c : Device) (f : Bool)
    → ((w : World) (es fs : List Event) → Follows act w es → P w es → Follows act (run w es) fs → Q (run w es) fs → R w (es ++ fs))
    → HasEnded act P a b false → HasEnded act Q b c f → HasEnded act R a c f
ended_then act P Q R a b c f both first second =
    record {
      did = did_both act P Q R a.world b.world c.world first.did second.did both;
      stays = λ quiet some. second.stays quiet (first.stays refl some);
      cause = record {
        later = omega (arith, first.cause.later, second.cause.later);
        rose = λ failure. further a.faults b.faults c.faults first.cause.later (second.cause.rose failure);
      };
      idle = second.idle;
    }

without_itself : (n m : ℕ) → n ≡ m → without_number m (n ∷ []) ≡ []
without_itself n m same = ap (λ b. cond (not b) (n ∷ []) []) (eq-eqb n m same)

only_one : (n m : ℕ) → Contains (n ∷ []) m → n ≡ m
only_one n m (zero, lt, is) = cc
only_one n m (suc k, lt, is) = absurd (omega (arith, lt))

-- a child was started where none ran, and waited for
pub ended_child : (act : Act) (P : World → List Event → Type 0) (a b c : Device) (recipe : Recipe) (logs : List (List ℕ)) (command : List ℕ) (number : ℕ) (r : Result Ended Failed)
    → ((w : World) (started waited : List Change) → P w (record { call = Started recipe logs command (Ok number); left = started } ∷ record { call = Waited r; left = waited } ∷ []))
    → a.running ≡ [] → HasCalled act a b (Started recipe logs command (Ok number)) → IfOk r (λ ended. Contains b.running ended.number) → HasCalled act b c (Waited r) → HasEnded act P a c (is_err r)
ended_child act P a b c recipe logs command number r is none started ran waited =
    record {
      did = λ w2 e.
          let t = waited.world.told w2 e in
          let s = started.world.told t.0 t.1 in
          (s.0, s.1, (record { call = Started recipe logs command (Ok number); left = s.2.0 } ∷ record { call = Waited r; left = t.2.0 } ∷ [], (s.2.1, (subst (λ v. Happens act v (record { call = Waited r; left = t.2.0 })) s.2.2 t.2.1, tt)), is s.0 s.2.0 t.2.0, t.2.2 ∙ ap (λ v. after v (record { call = Waited r; left = t.2.0 })) s.2.2));
      stays = λ quiet some. waited.world.stays (started.world.stays some refl) quiet;
      cause = record { later = omega (arith, started.cause.later, waited.cause.later); rose = λ failure. further a.faults b.faults c.faults started.cause.later (waited.cause.rose failure) };
      idle = λ quiet. gone r quiet ran waited.running;
    }
  where
    one : b.running ≡ number ∷ []
    one = started.running ∙ ap (λ ns. ns ++ number ∷ []) none

    gone : (r : Result Ended Failed) → is_err r ≡ false → IfOk r (λ ended. Contains b.running ended.number) → c.running ≡ running_after (Waited r) b.running → c.running ≡ []
    gone (Ok ended) quiet ran is = is ∙ ap (without_number ended.number) one ∙ without_itself number ended.number (only_one number ended.number (subst (λ ns. Contains ns ended.number) one ran))
    gone (Err e) quiet ran is = absurd (never quiet)

-- ## Answers

err_and : {T E : Type 0} (s : Result T E) (x : E) → IsErrAnd s (λ y. y ≡ x) → s ≡ Err x
err_and (Ok u) x h = absurd h
err_and (Err y) x h = ap Err h

-- an answer that was handed on
pub handed_on : {T U : Type 0} (r : Result T WorkFault) (s : Result U WorkFault) (x : WorkFault) → r ≡ Err x → IsErrAnd s (λ y. y ≡ x) → device_failed r ≡ device_failed s
handed_on {T} {U} r s x is h = ap device_failed is ∙ same x ∙ sym (ap device_failed (err_and s x h))
  where
    same : (x : WorkFault) → device_failed {T = T} (Err x) ≡ device_failed {T = U} (Err x)
    same FailedFault = refl
    same MemoryFault = refl

-- ## Looks

pub looks_append : (f : Bool) (es fs : List Event) → AreLooks false es → AreLooks f fs → AreLooks f (es ++ fs)
looks_append f [] fs h k = k
looks_append f (e ∷ []) [] h k = (h.0, h.1 ∙ sym k)
looks_append f (e ∷ []) (g ∷ fs) h k = (h.0, h.1, k)
looks_append f (e ∷ (g ∷ es)) fs h k = (h.0, h.1, looks_append f (g ∷ es) fs h.2 k)

look_keeps : (c : Call) → is_look c ≡ true → keeps_children c ≡ true
look_keeps (Looked p r) h = refl
look_keeps (ReadFile p limit r) h = refl
look_keeps (ReadFolder p r) h = refl
look_keeps (Written p bytes r) h = refl
look_keeps (Created p r) h = refl
look_keeps (Removed p r) h = refl
look_keeps (MadeParents p r) h = refl
look_keeps (Settled ps r) h = refl
look_keeps (Protected p r) h = refl
look_keeps (Started recipe logs command r) h = h
look_keeps (Waited r) h = h

pub looked_nothing : (act : Act) (a : Device) → HasLooked act a a false
looked_nothing act a = record { acted = acted_nothing act (λ w es. AreLooks false es) a (λ w. refl) }

pub looked_call : {act : Act} {a b : Device} {call : Call} → is_look call ≡ true → HasCalled act a b call → HasLooked act a b (failed call)
looked_call {act} {a} {b} {call} look h =
    record { acted = acted_call act (λ w es. AreLooks (failed call) es) a b call (look_keeps call look) (λ w left lets. (look, refl)) h }

pub looked_stat : {act : Act} {a b : Device} {p : Path} {r : Result Stat Failed} → HasCalled act a b (Looked p r) → HasLooked act a b (is_err r)
looked_stat h = looked_call refl h

pub looked_read : {act : Act} {a b : Device} {p : Path} {limit : ℕ} {r : Result Found WorkFault} → HasCalled act a b (ReadFile p limit r) → HasLooked act a b (device_failed r)
looked_read h = looked_call refl h

pub looked_list : {act : Act} {a b : Device} {p : Path} {r : Result Listing WorkFault} → HasCalled act a b (ReadFolder p r) → HasLooked act a b (device_failed r)
looked_list h = looked_call refl h

pub looked_then : {act : Act} {a b c : Device} {f : Bool} → HasLooked act a b false → HasLooked act b c f → HasLooked act a c f
looked_then {act} {a} {b} {c} {f} first second =
    record {
      acted = acted_then act (λ w es. AreLooks false es) (λ w es. AreLooks f es) (λ w es. AreLooks f es) a b c f
          (λ w es fs follows looks follows2 looks2. looks_append f es fs looks looks2) first.acted second.acted;
    }

pub looked_as : {act : Act} {a b : Device} {f g : Bool} → f ≡ g → HasLooked act a b f → HasLooked act a b g
looked_as {act} {a} {b} same h = subst (HasLooked act a b) same h

-- a call that answered
pub looked_ok : {act : Act} {a b : Device} {T : Type 0} {r : Result T WorkFault} {t : T} → r ≡ Ok t → HasLooked act a b (device_failed r) → HasLooked act a b false
looked_ok is h = looked_as (ap device_failed is) h

-- the fault of a call is handed on
pub looked_on : {act : Act} {a b : Device} {T U : Type 0} {r : Result T WorkFault} {x : WorkFault} (s : Result U WorkFault) → r ≡ Err x → IsErrAnd s (λ y. y ≡ x)
    → HasLooked act a b (device_failed r) → HasLooked act a b (device_failed s)
looked_on {r = r} {x = x} s is h looked = looked_as (handed_on r s x is h) looked

-- a call that failed
pub looked_failed : {act : Act} {a b : Device} {T U : Type 0} {r : Result T Failed} {x : Failed} (s : Result U WorkFault) → r ≡ Err x → IsErrAnd s (λ y. y ≡ FailedFault)
    → HasLooked act a b (is_err r) → HasLooked act a b (device_failed s)
looked_failed s is h looked = looked_as (ap is_err is ∙ sym (ap device_failed (err_and s FailedFault h))) looked

-- memory was short
pub looked_memory : {act : Act} {a b : Device} {U : Type 0} (s : Result U WorkFault) → IsErrAnd s (λ y. y ≡ MemoryFault) → HasLooked act a b false → HasLooked act a b (device_failed s)
looked_memory s h looked = looked_as (sym (ap device_failed (err_and s MemoryFault h))) looked

-- ### What stands stays

look_nodes : (c : Call) (left : List Change) (cs : List Child) (nodes : Path → NodeState) → is_look c ≡ true → (λ (q : Path). node_after c left cs q (nodes q)) ≡ nodes
look_nodes (Looked p r) left cs nodes h = refl
look_nodes (ReadFile p limit r) left cs nodes h = refl
look_nodes (ReadFolder p r) left cs nodes h = refl
look_nodes (Written p bytes r) left cs nodes h = absurd (never (sym h))
look_nodes (Created p r) left cs nodes h = absurd (never (sym h))
look_nodes (Removed p r) left cs nodes h = absurd (never (sym h))
look_nodes (MadeParents p r) left cs nodes h = absurd (never (sym h))
look_nodes (Settled ps r) left cs nodes h = absurd (never (sym h))
look_nodes (Protected p r) left cs nodes h = absurd (never (sym h))
look_nodes (Started recipe logs command r) left cs nodes h = absurd (never (sym h))
look_nodes (Waited r) left cs nodes h = absurd (never (sym h))

pub looks_nodes : (f : Bool) (w : World) (es : List Event) → AreLooks f es → (run w es).nodes ≡ w.nodes
looks_nodes f w [] h = refl
looks_nodes f w (e ∷ []) h = look_nodes e.call e.left w.children w.nodes h.0
looks_nodes f w (e ∷ (g ∷ es)) h = looks_nodes f (after w e) (g ∷ es) h.2 ∙ look_nodes e.call e.left w.children w.nodes h.0

some_of : {A : Type 0} (o : Option A) → IsSome o → (x : A) × (o ≡ Some x)
some_of None h = absurd (never (sym h))
some_of (Some x) h = (x, refl)

same_some : {A : Type 0} (x y : A) → Some x ≡ Some y → x ≡ y
same_some x y e = cc

-- where nothing failed the world is told on, with the same nodes
pub still : {act : Act} {a b : Device} (w : World) → HasLooked act a b false → a.world ≡ Some w → (v : World) × (b.world ≡ Some v) × (v.nodes ≡ w.nodes)
still {b = b} w h at =
    let v = some_of b.world (h.acted.stays refl (ap is_some at)) in
    let d = h.acted.did v.0 v.1 in
    let same : d.0 ≡ w = same_some d.0 w (sym d.1 ∙ at) in
    (v.0, v.1, ap (λ (u : World). u.nodes) d.2.3 ∙ looks_nodes false d.0 d.2.0 d.2.2 ∙ ap (λ (u : World). u.nodes) same)

-- ## Calls that are carried out

pub done_append : (rs qs : List Request) (es fs : List Event) → HasDone rs es → HasDone qs fs → HasDone (rs ++ qs) (es ++ fs)
done_append [] qs [] fs h k = k
done_append [] qs (e ∷ es) fs h k = absurd h
done_append (r ∷ rs) qs [] fs h k = absurd h
done_append (r ∷ rs) qs (e ∷ es) fs h k = (h.0, h.1, done_append rs qs es fs h.2 k)

cut_more : (r : Request) (rs : List Request) (e : Event) (es : List Event) → request e.call ≡ r → failed e.call ≡ false → IsCutShort rs es → IsCutShort (r ∷ rs) (e ∷ es)
cut_more r [] e es is quiet h = absurd h
cut_more r (q ∷ rs) e [] is quiet h = absurd h
cut_more r (q ∷ rs) e (f ∷ es) is quiet h = (is, quiet, h)

pub cut_append : (rs qs : List Request) (es fs : List Event) → HasDone rs es → IsCutShort qs fs → IsCutShort (rs ++ qs) (es ++ fs)
cut_append [] qs [] fs h k = k
cut_append [] qs (e ∷ es) fs h k = absurd h
cut_append (r ∷ rs) qs [] fs h k = absurd h
cut_append (r ∷ rs) qs (e ∷ es) fs h k = cut_more r (rs ++ qs) e (es ++ fs) h.0 h.1 (cut_append rs qs es fs h.2 k)

pub cut_longer : (rs qs : List Request) (es : List Event) → IsCutShort rs es → IsCutShort (rs ++ qs) es
cut_longer [] qs es h = absurd h
cut_longer (r ∷ rs) qs [] h = absurd h
cut_longer (r ∷ rs) qs (e ∷ []) h = h
cut_longer (r ∷ rs) qs (e ∷ (f ∷ es)) h = (h.0, h.1, cut_longer rs qs (f ∷ es) h.2)

carries_append : (rs qs : List Request) (f : Bool) (es fs : List Event) → HasDone rs es → Carries qs (not f) fs → Carries (rs ++ qs) (not f) (es ++ fs)
carries_append rs qs true es fs h k = cut_append rs qs es fs h k
carries_append rs qs false es fs h k = done_append rs qs es fs h k

carries_one : (f : Bool) (r : Request) (e : Event) → request e.call ≡ r → failed e.call ≡ f → Carries (r ∷ []) (not f) (e ∷ [])
carries_one true r e is same = (is, same)
carries_one false r e is same = (is, same, tt)

pub carried_nothing : (act : Act) (a : Device) → HasCarried act [] a a false
carried_nothing act a = record { acted = acted_nothing act (λ w es. Carries [] true es) a (λ w. tt) }

-- one call
pub carried_call : {act : Act} {a b : Device} {call : Call} (r : Request) → keeps_children call ≡ true → request call ≡ r → HasCalled act a b call → HasCarried act (r ∷ []) a b (failed call)
carried_call {act} {a} {b} {call} r same is h =
    record { acted = acted_call act (λ w es. Carries (r ∷ []) (not (failed call)) es) a b call same (λ w left lets. carries_one (failed call) r (record { call = call; left = left }) is refl) h }

-- one after another
pub carried_then : {act : Act} {rs qs : List Request} {a b c : Device} {f : Bool} → HasCarried act rs a b false → HasCarried act qs b c f → HasCarried act (rs ++ qs) a c f
carried_then {act} {rs} {qs} {a} {b} {c} {f} first second =
    record {
      acted = acted_then act (λ w es. Carries rs true es) (λ w es. Carries qs (not f) es) (λ w es. Carries (rs ++ qs) (not f) es) a b c f
          (λ w es fs follows done follows2 carried. carries_append rs qs f es fs done carried) first.acted second.acted;
    }

-- what follows a call that failed is left
pub carried_cut : {act : Act} {rs : List Request} {a b : Device} (qs : List Request) → HasCarried act rs a b true → HasCarried act (rs ++ qs) a b true
carried_cut {act} {rs} {a} {b} qs h =
    record { acted = acted_as act (λ w es. IsCutShort rs es) (λ w es. IsCutShort (rs ++ qs) es) a b true true refl (λ w es cut. cut_longer rs qs es cut) h.acted }

pub carried_as : {act : Act} {rs qs : List Request} {a b : Device} {f g : Bool} → rs ≡ qs → f ≡ g → HasCarried act rs a b f → HasCarried act qs a b g
carried_as {act} {rs} {qs} {a} {b} {f} {g} same flag h = subst (λ ps. HasCarried act ps a b g) same (subst (λ x. HasCarried act rs a b x) flag h)

-- what no running child uses is used by none
pub unused_still : {act : Act} {P : World → List Event → Type 0} {a b : Device} {f : Bool} (ps : List Path) → HasActed act P a b f → WhereTold a (λ w. All (IsUnused w) ps) → WhereTold b (λ w. All (IsUnused w) ps)
unused_still ps h unused = λ w at.
    let u = h.children w at in
    subst (λ cs. All (λ p. any_overlap (p ∷ []) (used_now cs) ≡ false) ps) (sym u.2) (unused u.0 u.1)

-- ### Over a list

-- the list up to the place, the place and what follows
pub around : {A : Type 0} (xs : List A) (i : ℕ) (x : A) → i < length xs → x ≡ get_or xs i x → xs ≡ take i xs ++ x ∷ drop (i + 1) xs
around xs i x lt e =
    sym (take-append-drop i xs) ∙ ap (λ t. take i xs ++ t) (drop-cons xs i x lt ∙ ap (λ y. y ∷ drop (suc i) xs) (sym e) ∙ ap (λ k. x ∷ drop k xs) (sym (add-one i)))

pub next : {A : Type 0} (xs : List A) (i : ℕ) (x : A) → i < length xs → x ≡ get_or xs i x → take (i + 1) xs ≡ take i xs ++ x ∷ []
next xs i x lt e = take_more xs i x lt ∙ ap (λ y. take i xs ++ y ∷ []) (sym e)

-- all that is done for the next of them
pub each_more : {A : Type 0} {act : Act} {a b c : Device} (f : A → List Request) (xs : List A) (i : ℕ) (x : A) → i < length xs → x ≡ get_or xs i x
    → HasCarried act (flat_map f (take i xs)) a b false → HasCarried act (f x) b c false → HasCarried act (flat_map f (take (i + 1) xs)) a c false
each_more f xs i x lt e before now =
    carried_as (sym (ap (flat_map f) (next xs i x lt e) ∙ flat_map-append f (take i xs) (x ∷ []) ∙ ap (λ t. flat_map f (take i xs) ++ t) (flat_map-cons f x [] ∙ append-nil (f x)))) refl (carried_then before now)

-- it failed for the next of them
pub each_cut : {A : Type 0} {act : Act} {a b c : Device} (f : A → List Request) (xs : List A) (i : ℕ) (x : A) → i < length xs → x ≡ get_or xs i x
    → HasCarried act (flat_map f (take i xs)) a b false → HasCarried act (f x) b c true → HasCarried act (flat_map f xs) a c true
each_cut f xs i x lt e before now =
    carried_as (sym (ap (flat_map f) (around xs i x lt e) ∙ flat_map-append f (take i xs) (x ∷ drop (i + 1) xs) ∙ ap (λ t. flat_map f (take i xs) ++ t) (flat_map-cons f x (drop (i + 1) xs)))) refl
    (carried_then before (carried_cut (flat_map f (drop (i + 1) xs)) now))

pub each_all : {A : Type 0} {act : Act} {a b : Device} (f : A → List Request) (xs : List A) (i : ℕ) → length xs ≤ i → HasCarried act (flat_map f (take i xs)) a b false → HasCarried act (flat_map f xs) a b false
each_all f xs i le h = carried_as (ap (flat_map f) (take_all i xs le)) refl h

-- ## What a call tells

-- what a call that didn't fail tells of the world in which it was made
pub lets_of : {act : Act} {a b : Device} {call : Call} (w : World) → HasCalled act a b call → failed call ≡ false → a.world ≡ Some w → (left : List Change) × Lets act w call left
lets_of {act} {a} {b} {call} w h quiet at =
    let v = some_of b.world (h.world.stays (ap is_some at) quiet) in
    let t = h.world.told v.0 v.1 in
    (t.2.0, subst (λ u. Lets act u call t.2.0) (same_some t.0 w (sym t.1 ∙ at)) t.2.1.lets)

pub listing_told : {act : Act} {a b : Device} {p : Path} {r : Result Listing WorkFault} {listing : Listing} (w : World) → HasCalled act a b (ReadFolder p r) → r ≡ Ok listing → a.world ≡ Some w → ListingIs w p listing (w.nodes p)
listing_told {act} {a} {b} {p} w h is at = (lets_of w (subst (λ x. HasCalled act a b (ReadFolder p x)) is h) refl at).1.1

relisted : (v w : World) (p : Path) (listing : Listing) → v.nodes ≡ w.nodes → IsListing v p listing → IsListing w p listing
relisted v w p listing same h =
    let l : IsListing (record v { nodes = w.nodes }) p listing = subst (λ n. IsListing (record v { nodes = n }) p listing) same h in
    record { sorted = l.sorted; stand = l.stand; all = l.all; strange = l.strange; not_strange = l.not_strange }

-- a listing says the same of a world with the same nodes
pub listing_same : (v w : World) (p : Path) (listing : Listing) → v.nodes ≡ w.nodes → ListingIs v p listing (v.nodes p) → ListingIs w p listing (w.nodes p)
listing_same v w p listing same h = by (w.nodes p) (subst (λ (n : Path → NodeState). ListingIs v p listing (n p)) same h)
  where
    by : (s : NodeState) → ListingIs v p listing s → ListingIs w p listing s
    by Owned l = l
    by (Known None besides) l = l
    by (Known (Some (Regular bytes time read_only)) besides) l = l
    by (Known (Some Directory) besides) l = (l.0, relisted v w p listing same l.1)
