-- What removals and writes of one job leave.
use Rattle.std.proofs.Common.{◌≡◌, inl, inr, ℕ, Bool, true, false, ◌&&◌, ◌||◌, List, [], ◌∷◌, ◌++◌, map, refl, sym, ap, subst, ◌∙◌, None, Ok, Err, true≢false}
use Rattle.std.specs.Prelude.{if◌then◌else◌}
use Rattle.std.specs.List.{list_any}
use Rattle.smk_base.specs.Path.{is_at_or_under}
use Rattle.smk_base.specs.Place.{record_place}
use Rattle.smk_base.proofs.Under.{or_cases, or_first, or_second}
use Rattle.smk_base.proofs.Apart.{record-record, record_under_record}
use Rattle.smk_world.specs.declared.event.Call.{Call}
use Rattle.smk_world.specs.declared.event.Call.TheVariants.{Looked, ReadFile, ReadFolder, Written, Created}
use Rattle.smk_world.specs.declared.event.Call.TheVariants.{Removed, MadeParents, Settled, Protected, Started, Waited}
use Rattle.smk_world.specs.declared.event.Change.{Change}
use Rattle.smk_world.specs.declared.event.NodeState.{NodeState}
use Rattle.smk_world.specs.declared.event.NodeState.TheVariants.{Owned, Known}
use Rattle.smk_world.specs.Calls.{HoldsBytes, Lets, Reads, failed}
use Rattle.smk_world.specs.Requests.{Request, request}
use Rattle.smk_world.specs.Requests.Request.{Look, ReadUpTo, ListFolder, Write, Create, Remove, MakeParents, Settle, Protect, Start, Wait}
use Rattle.smk_world.specs.Trees.{Act, Each, Path}
use Rattle.smk_world.specs.World.{World, firm, firmly, going, is_above, is_within, node_after, reads_folder, standing}
use Rattle.smk_store.specs.Steps.{remove_each, write_each}
use Rattle.smk_job.proofs.Single.{IsKnown, KeepsOff, Reaches, Stepped, firmly_none, is_start, removed, settled_firm, step_known, written}
use Rattle.smk_job.proofs.Firmly.{reaches_keeps, reaches_split}
use Rattle.smk_safe.proofs.Kept.{AllHold, AreDifferent}

-- ## Nothing comes back

-- it removes, or makes firm
abbrev pub IsRemoval : Request → Type 0
IsRemoval (Look p) = ⊥
IsRemoval (ReadUpTo p limit) = ⊥
IsRemoval (ListFolder p) = ⊥
IsRemoval (Write p bytes) = ⊥
IsRemoval (Create p) = ⊥
IsRemoval (Remove p) = Unit {0}
IsRemoval (MakeParents p) = ⊥
IsRemoval (Settle ps) = Unit {0}
IsRemoval (Protect p) = ⊥
IsRemoval (Start recipe logs command) = ⊥
IsRemoval Wait = ⊥

none_if : (b : Bool) (s t : NodeState) → Reads None s → Reads None t → Reads None (if b then t else s)
none_if true s t h k = k
none_if false s t h k = h

none_going : (s : NodeState) → Reads None s → Reads None (going None s)
none_going Owned h = absurd h
none_going (Known now besides) h = refl

none_firm : (s : NodeState) → Reads None s → Reads None (firm s)
none_firm Owned h = absurd h
none_firm (Known now besides) h = h

call_none :
    (act : Act) (w : World) (call : Call) (left : List Change) (q : Path) → IsRemoval (request call) → failed call ≡ false → Lets act w call left →
    Reads None (w.nodes q) → Reads None (node_after call left w.children q (w.nodes q))
call_none act w (Removed p (Ok u)) left q is quiet lets none =
    none_if (is_at_or_under q p) (w.nodes q) (going (standing left q) (w.nodes q)) none
    (subst (λ (l : List Change). Reads None (going (standing l q) (w.nodes q))) (sym lets) (none_going (w.nodes q) none))
call_none act w (Removed p (Err e)) left q is quiet lets none = absurd (true≢false quiet)
call_none act w (Settled ps (Ok u)) left q is quiet lets none =
    none_if (is_within q ps || (is_above q ps && reads_folder (w.nodes q))) (w.nodes q) (firm (w.nodes q)) none (none_firm (w.nodes q) none)
call_none act w (Settled ps (Err e)) left q is quiet lets none = none
call_none act w (Looked p r) left q is quiet lets none = absurd is
call_none act w (ReadFile p limit r) left q is quiet lets none = absurd is
call_none act w (ReadFolder p r) left q is quiet lets none = absurd is
call_none act w (Written p bytes r) left q is quiet lets none = absurd is
call_none act w (Created p r) left q is quiet lets none = absurd is
call_none act w (MadeParents p r) left q is quiet lets none = absurd is
call_none act w (Protected p r) left q is quiet lets none = absurd is
call_none act w (Started recipe logs command r) left q is quiet lets none = absurd is
call_none act w (Waited r) left q is quiet lets none = absurd is

step_none : (act : Act) (r : Request) (w v : World) (q : Path) → Stepped act r w v → IsRemoval r → Reads None (w.nodes q) → Reads None (v.nodes q)
step_none act r w v q st is none =
    subst (λ (x : World). Reads None (x.nodes q)) (sym st.now)
    (call_none act w st.event.call st.event.left q (subst IsRemoval (sym st.is) is) st.quiet st.lets none)

pub all_none :
    (act : Act) (rs : List Request) (w v : World) (q : Path) → Reaches act rs w v → Each IsRemoval rs → Reads None (w.nodes q) →
    Reads None (v.nodes q)
all_none act [] w v q h are none = subst (λ (x : World). Reads None (x.nodes q)) (sym h) none
all_none act (r ∷ rs) w v q (u, st, more) are none = all_none act rs u v q more are.1 (step_none act r w u q st are.0 none)

-- ## What was removed

removal_starts_none : (r : Request) → IsRemoval r → is_start r ≡ false
removal_starts_none (Look p) h = refl
removal_starts_none (ReadUpTo p limit) h = refl
removal_starts_none (ListFolder p) h = refl
removal_starts_none (Write p bytes) h = refl
removal_starts_none (Create p) h = refl
removal_starts_none (Remove p) h = refl
removal_starts_none (MakeParents p) h = refl
removal_starts_none (Settle ps) h = refl
removal_starts_none (Protect p) h = refl
removal_starts_none (Start recipe logs command) h = absurd h
removal_starts_none Wait h = refl

-- the call removes what is at this place
abbrev pub covers : Path → Request → Bool
covers q (Look p) = false
covers q (ReadUpTo p limit) = false
covers q (ListFolder p) = false
covers q (Write p bytes) = false
covers q (Create p) = false
covers q (Remove p) = is_at_or_under q p
covers q (MakeParents p) = false
covers q (Settle ps) = false
covers q (Protect p) = false
covers q (Start recipe logs command) = false
covers q Wait = false

one_gone : (act : Act) (r : Request) (w v : World) (q : Path) → Stepped act r w v → covers q r ≡ true → IsKnown (w.nodes q) → Reads None (v.nodes q)
one_gone act (Look p) w v q st at known = absurd (true≢false (sym at))
one_gone act (ReadUpTo p limit) w v q st at known = absurd (true≢false (sym at))
one_gone act (ListFolder p) w v q st at known = absurd (true≢false (sym at))
one_gone act (Write p bytes) w v q st at known = absurd (true≢false (sym at))
one_gone act (Create p) w v q st at known = absurd (true≢false (sym at))
one_gone act (Remove p) w v q st at known = removed act p w v q st at known
one_gone act (MakeParents p) w v q st at known = absurd (true≢false (sym at))
one_gone act (Settle ps) w v q st at known = absurd (true≢false (sym at))
one_gone act (Protect p) w v q st at known = absurd (true≢false (sym at))
one_gone act (Start recipe logs command) w v q st at known = absurd (true≢false (sym at))
one_gone act Wait w v q st at known = absurd (true≢false (sym at))

pub all_gone :
    (act : Act) (rs : List Request) (w v : World) (q : Path) → Reaches act rs w v → Each IsRemoval rs → list_any (covers q) rs ≡ true → IsKnown (w.nodes q) →
    Reads None (v.nodes q)
all_gone act [] w v q h are at known = absurd (true≢false (sym at))
all_gone act (r ∷ rs) w v q (u, st, more) are at known = elim (or_cases (covers q r) (list_any (covers q) rs) at) [
  | inl here ↦ all_none act rs u v q more are.1 (one_gone act r w u q st here known)
  | inr later ↦ all_gone act rs u v q more are.1 later (step_known act r w u q st (removal_starts_none r are.0) known)
]

pub covers_removed : (ps : List Path) (q : Path) → is_within q ps ≡ true → list_any (covers q) (remove_each ps) ≡ true
covers_removed [] q within = absurd (true≢false (sym within))
covers_removed (p ∷ ps) q within = elim (or_cases (is_at_or_under q p) (is_within q ps) within) [
  | inl at ↦ or_first (is_at_or_under q p) (list_any (covers q) (remove_each ps)) at
  | inr later ↦ or_second (is_at_or_under q p) (list_any (covers q) (remove_each ps)) (covers_removed ps q later)
]

pub covers_left : (rs qs : List Request) (q : Path) → list_any (covers q) rs ≡ true → list_any (covers q) (rs ++ qs) ≡ true
covers_left [] qs q at = absurd (true≢false (sym at))
covers_left (r ∷ rs) qs q at = elim (or_cases (covers q r) (list_any (covers q) rs) at) [
  | inl here ↦ or_first (covers q r) (list_any (covers q) (rs ++ qs)) here
  | inr later ↦ or_second (covers q r) (list_any (covers q) (rs ++ qs)) (covers_left rs qs q later)
]

pub covers_right : (rs qs : List Request) (q : Path) → list_any (covers q) qs ≡ true → list_any (covers q) (rs ++ qs) ≡ true
covers_right [] qs q at = at
covers_right (r ∷ rs) qs q at = or_second (covers q r) (list_any (covers q) (rs ++ qs)) (covers_right rs qs q at)

pub removals : (ps : List Path) → Each IsRemoval (remove_each ps)
removals [] = tt
removals (p ∷ ps) = (tt, removals ps)

-- what was removed and made firm is gone for good
pub gone_firmly :
    (act : Act) (ps : List Path) (w v : World) (q : Path) → Reaches act (remove_each ps ++ Settle ps ∷ []) w v → is_within q ps ≡ true → IsKnown (w.nodes q) →
    v.nodes q ≡ firmly None
gone_firmly act ps w v q h within known =
    let parts = reaches_split act (remove_each ps) (Settle ps ∷ []) w v h in
    ap (λ (x : World). x.nodes q) parts.2.2
    ∙ (settled_firm act ps parts.0 parts.2.0 q parts.2.1 within
    ∙ firmly_none (parts.0.nodes q) (all_gone act (remove_each ps) w parts.0 q parts.1 (removals ps) (covers_removed ps q within) known))

-- ## What was written

pub known_reached :
    (act : Act) (rs : List Request) (w v : World) (q : Path) → Reaches act rs w v → Each (λ r. is_start r ≡ false) rs → IsKnown (w.nodes q) →
    IsKnown (v.nodes q)
known_reached act [] w v q h are known = subst (λ (x : World). IsKnown (x.nodes q)) (sym h) known
known_reached act (r ∷ rs) w v q (u, st, more) are known = known_reached act rs u v q more are.1 (step_known act r w u q st are.0 known)

-- the places of the records of these are known
abbrev pub AreKnownAt : World → List Path → Type 0
AreKnownAt w ps = Each (λ p. IsKnown (w.nodes (record_place p))) ps

pub known_step : (act : Act) (r : Request) (w v : World) (ps : List Path) → Stepped act r w v → is_start r ≡ false → AreKnownAt w ps → AreKnownAt v ps
known_step act r w v [] st none known = tt
known_step act r w v (p ∷ ps) st none known = (step_known act r w v (record_place p) st none known.0, known_step act r w v ps st none known.1)

write_off : (p : Path) (ps : List Path) (bs : List (List ℕ)) → Each (λ q. p ≡ q → ⊥) ps → KeepsOff (write_each (map record_place ps) bs) (record_place p)
write_off p [] bs h = tt
write_off p (q ∷ ps) [] h = tt
write_off p (q ∷ ps) (b ∷ bs) h = (record_under_record q p, ((record-record p q h.0).differs, write_off p ps bs h.1))

pub all_written :
    (act : Act) (ps : List Path) (bs : List (List ℕ)) (w v : World) → Reaches act (write_each (map record_place ps) bs) w v → AreDifferent ps →
    AreKnownAt w ps →
    AllHold v ps bs
all_written act [] bs w v h differ known = tt
all_written act (p ∷ ps) [] w v h differ known = tt
all_written act (p ∷ ps) (b ∷ bs) w v (x, s1, (y, s2, more)) differ known =
    let known_x = known_step act (MakeParents (record_place p)) w x (p ∷ ps) s1 refl known in
    let known_y = known_step act (Write (record_place p) b) x y (p ∷ ps) s2 refl known_x in (
      subst (HoldsBytes b)
          (sym (reaches_keeps act (write_each (map record_place ps) bs) y v (record_place p) more (write_off p ps bs differ.0)))
          (written act (record_place p) b x y s2 known_x.0),
      all_written act ps bs y v more differ.1 known_y.1,
    )
