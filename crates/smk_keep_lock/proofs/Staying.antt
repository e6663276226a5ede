-- What calls leave as it was, where they keep to some places.
use Rattle.std.proofs.Common.{◌≡◌, ◌⊎◌, inl, inr, Bool, true, false, ◌&&◌, ◌||◌, List, [], ◌∷◌, refl, sym, ap, subst, ◌∙◌, bytes_eq, Option, Ok, Err, true≢false}
use Rattle.std.specs.Prelude.{if◌then◌else◌, is_some}
use Rattle.std.proofs.lemmas.Bool.{or_parts, and_right}
use Rattle.smk_base.specs.Path.{is_under, is_at_or_under}
use Rattle.smk_world.specs.declared.event.Besides.{Besides}
use Rattle.smk_world.specs.declared.event.Call.{Call}
use Rattle.smk_world.specs.declared.event.Call.TheVariants.{Looked, ReadFile, ReadFolder, Written, Created, Removed, MadeParents, Settled, Protected, Started, Waited}
use Rattle.smk_world.specs.declared.event.Change.{Change}
use Rattle.smk_world.specs.declared.event.Child.{Child}
use Rattle.smk_world.specs.declared.event.Event.{Event}
use Rattle.smk_world.specs.declared.event.Node.{Node}
use Rattle.smk_world.specs.declared.event.NodeState.{NodeState}
use Rattle.smk_world.specs.declared.event.NodeState.TheVariants.{Owned, Known}
use Rattle.smk_world.specs.World.{World, after, run, firm, reads_nothing, reads_folder, standing, node_after, is_within, is_above, IsBeside, IsOneOf}
use Rattle.smk_world.specs.Devices.{AreLooks, is_look}
use Rattle.smk_world.specs.Requests.{Request, request, HasDone, IsCutShort, Carries}
use Rattle.smk_world.specs.Requests.Request.{Look, ReadUpTo, ListFolder, Write, Create, Remove, MakeParents, Settle, Protect, Start, Wait}
use Rattle.smk_world.specs.Trees.{Path, IsIn, Each}
use Rattle.smk_keep_lock.specs.Changing.{Stays, ChangesOnly}

-- ## One place

pub stays_itself : (s : NodeState) → Stays s s
stays_itself s = (refl, λ n h. h)

pub stays_then : (s t u : NodeState) → Stays s t → Stays t u → Stays s u
stays_then s t u h k = (h.0 ∙ k.0, λ n l. h.1 n (k.1 n l))

firm_leaves : (now n : Option Node) (besides : Besides) → (n ≡ now) ⊎ IsOneOf [] n → (n ≡ now) ⊎ IsBeside besides n
firm_leaves now n besides (inl e) = inl e
firm_leaves now n besides (inr k) = absurd k

pub stays_firm : (s : NodeState) → Stays s (firm s)
stays_firm Owned = (refl, λ n h. h)
stays_firm (Known now besides) = (refl, λ n h. firm_leaves now n besides h)

stays_unless : (b : Bool) (s t : NodeState) → b ≡ false → Stays s (if b then t else s)
stays_unless true s t h = absurd (true≢false h)
stays_unless false s t h = stays_itself s

stays_if : (b : Bool) (s t : NodeState) → Stays s t → Stays s (if b then t else s)
stays_if true s t h = h
stays_if false s t h = stays_itself s

-- ## Calls

-- the call changes at most one of some places, or folders above one of others
abbrev pub KeepsTo : List Path → List Path → Request → Type 0
KeepsTo places below (Look p) = Unit {0}
KeepsTo places below (ReadUpTo p limit) = Unit {0}
KeepsTo places below (ListFolder p) = Unit {0}
KeepsTo places below (Write p bytes) = ⊥
KeepsTo places below (Create p) = IsIn places p
KeepsTo places below (Remove p) = IsIn places p
KeepsTo places below (MakeParents p) = IsIn below p
KeepsTo places below (Settle ps) = Unit {0}
KeepsTo places below (Protect p) = ⊥
KeepsTo places below (Start recipe logs command) = ⊥
KeepsTo places below Wait = ⊥

outside_each : (places : List Path) (p q : Path) → IsIn places p → is_within q places ≡ false → is_at_or_under q p ≡ false
outside_each [] p q i h = absurd i
outside_each (x ∷ places) p q (inl e) h = ap (is_at_or_under q) e ∙ (or_parts (is_at_or_under q x) (is_within q places) h).0
outside_each (x ∷ places) p q (inr i) h = outside_each places p q i (or_parts (is_at_or_under q x) (is_within q places) h).1

above_none : (below : List Path) (p q : Path) → IsIn below p → is_above q below ≡ false → is_under p q ≡ false
above_none [] p q i h = absurd i
above_none (x ∷ below) p q (inl e) h = ap (λ y. is_under y q) e ∙ (or_parts (is_under x q) (is_above q below) h).0
above_none (x ∷ below) p q (inr i) h = above_none below p q i (or_parts (is_under x q) (is_above q below) h).1

module _ (places below : List Path) (left : List Change) (cs : List Child) (q : Path) (s : NodeState) (out : is_within q places ≡ false) (off : is_above q below ≡ false) where
  other : (p : Path) → IsIn places p → bytes_eq q p ≡ false
  other p i = (or_parts (bytes_eq q p) (is_under q p) (outside_each places p q i out)).0

  pub call_stays : (call : Call) → KeepsTo places below (request call) → Stays s (node_after call left cs q s)
  call_stays (Looked p r) k = stays_itself s
  call_stays (ReadFile p limit r) k = stays_itself s
  call_stays (ReadFolder p r) k = stays_itself s
  call_stays (Written p bytes r) k = absurd k
  call_stays (Created p (Ok made)) k = stays_unless (made && bytes_eq q p) s _ (and_right made (bytes_eq q p) (other p k))
  call_stays (Created p (Err e)) k = stays_unless (reads_nothing s && bytes_eq q p) s _ (and_right (reads_nothing s) (bytes_eq q p) (other p k))
  call_stays (Removed p r) k = stays_unless (is_at_or_under q p) s _ (outside_each places p q k out)
  call_stays (MadeParents p (Ok u)) k = stays_unless (is_under p q) s _ (above_none below p q k off)
  call_stays (MadeParents p (Err e)) k = stays_unless (is_some (standing left q) && is_under p q) s _ (and_right (is_some (standing left q)) (is_under p q) (above_none below p q k off))
  call_stays (Settled ps (Ok u)) k = stays_if (is_within q ps || (is_above q ps && reads_folder s)) s (firm s) (stays_firm s)
  call_stays (Settled ps (Err e)) k = stays_itself s
  call_stays (Protected p r) k = absurd k
  call_stays (Started recipe logs command r) k = absurd k
  call_stays (Waited r) k = absurd k

-- ## Events

-- each event keeps to these places
abbrev pub AllKeepTo : List Path → List Path → List Event → Type 0
AllKeepTo places below es = Each (λ (e : Event). KeepsTo places below (request e.call)) es

pub changes_only : (places below : List Path) (w : World) (es : List Event) → AllKeepTo places below es → ChangesOnly places below w (run w es)
changes_only places below w [] h q out off = stays_itself (w.nodes q)
changes_only places below w (e ∷ es) h q out off =
    stays_then (w.nodes q) ((after w e).nodes q) ((run (after w e) es).nodes q) (call_stays places below e.left w.children q (w.nodes q) out off e.call h.0)
    (changes_only places below (after w e) es h.1 q out off)

pub carried_keep : (places below : List Path) (rs : List Request) (ok : Bool) (es : List Event) → Each (KeepsTo places below) rs → Carries rs ok es → AllKeepTo places below es
carried_keep places below rs true es h c = done rs es h c
  where
    done : (rs : List Request) (es : List Event) → Each (KeepsTo places below) rs → HasDone rs es → AllKeepTo places below es
    done [] [] h c = tt
    done [] (e ∷ es) h c = absurd c
    done (r ∷ rs) [] h c = absurd c
    done (r ∷ rs) (e ∷ es) h c = (subst (KeepsTo places below) (sym c.0) h.0, done rs es h.1 c.2)
carried_keep places below rs false es h c = cut rs es h c
  where
    cut : (rs : List Request) (es : List Event) → Each (KeepsTo places below) rs → IsCutShort rs es → AllKeepTo places below es
    cut [] es h c = absurd c
    cut (r ∷ rs) [] h c = absurd c
    cut (r ∷ rs) (e ∷ []) h c = (subst (KeepsTo places below) (sym c.0) h.0, tt)
    cut (r ∷ rs) (e ∷ (f ∷ es)) h c = (subst (KeepsTo places below) (sym c.0) h.0, cut rs (f ∷ es) h.1 c.2)

look_keeps : (places below : List Path) (call : Call) → is_look call ≡ true → KeepsTo places below (request call)
look_keeps places below (Looked p r) h = tt
look_keeps places below (ReadFile p limit r) h = tt
look_keeps places below (ReadFolder p r) h = tt
look_keeps places below (Written p bytes r) h = absurd (true≢false (sym h))
look_keeps places below (Created p r) h = absurd (true≢false (sym h))
look_keeps places below (Removed p r) h = absurd (true≢false (sym h))
look_keeps places below (MadeParents p r) h = absurd (true≢false (sym h))
look_keeps places below (Settled ps r) h = tt
look_keeps places below (Protected p r) h = absurd (true≢false (sym h))
look_keeps places below (Started recipe logs command r) h = absurd (true≢false (sym h))
look_keeps places below (Waited r) h = absurd (true≢false (sym h))

pub looks_keep : (places below : List Path) (f : Bool) (es : List Event) → AreLooks f es → AllKeepTo places below es
looks_keep places below f [] h = tt
looks_keep places below f (e ∷ []) h = (look_keeps places below e.call h.0, tt)
looks_keep places below f (e ∷ (g ∷ es)) h = (look_keeps places below e.call h.0, looks_keep places below f (g ∷ es) h.2)
