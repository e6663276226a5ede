-- What one call, and a list of calls, makes of a node.
use Rattle.std.proofs.Common.{◌≡◌, ℕ, Bool, true, false, ◌&&◌, ◌||◌, List, [], ◌∷◌, refl, ap, sym, subst, ◌∙◌, Option, Some, None, Ok, Err, bytes_eq, true≢false}
use Rattle.std.specs.Prelude.{if◌then◌else◌, is_some}
use Rattle.std.proofs.lemmas.Bool.{and_right}
use Rattle.smk_base.specs.Path.{is_under, is_at_or_under}
use Rattle.smk_base.proofs.Places.{place_itself}
use Rattle.smk_base.specs.declared.tree.Tree.{Tree}
use Rattle.smk_world.specs.declared.event.Node.{Node}
use Rattle.smk_world.specs.declared.event.Node.TheVariants.{Regular}
use Rattle.smk_world.specs.declared.event.NodeState.{NodeState}
use Rattle.smk_world.specs.declared.event.NodeState.TheVariants.{Owned, Known}
use Rattle.smk_world.specs.declared.event.Call.{Call}
use Rattle.smk_world.specs.declared.event.Call.TheVariants.{Looked, ReadFile, ReadFolder, Written, Created, Removed, MadeParents, Settled, Protected, Started, Waited}
use Rattle.smk_world.specs.declared.event.Change.{Change}
use Rattle.smk_world.specs.declared.event.Child.{Child}
use Rattle.smk_world.specs.declared.event.Event.{Event}
use Rattle.smk_world.specs.declared.recipe.Recipe.{Recipe}
use Rattle.smk_world.specs.World.{World, after, run, node_after, is_within, is_above, owned_paths, standing, firm, firmly, loose, going, with_folder, with_flag, reads_folder, reads_nothing}
use Rattle.smk_world.specs.Calls.{Acted, HoldsBytes, Lets, Reads, Stands, failed}
use Rattle.smk_world.specs.Runs.{Follows}
use Rattle.smk_world.specs.Requests.{Request, request, HasDone}
use Rattle.smk_world.specs.Requests.Request.{Look, ReadUpTo, ListFolder, Write, Create, Remove, MakeParents, Settle, Protect, Start, Wait}
use Rattle.smk_base.proofs.Under.{or_first}

-- ## Where a call may change a node

-- the call may change what stands at q
abbrev pub touches : Request → List ℕ → Bool
touches (Look p) q = false
touches (ReadUpTo p limit) q = false
touches (ListFolder p) q = false
touches (Write p bytes) q = bytes_eq q p
touches (Create p) q = bytes_eq q p
touches (Remove p) q = is_at_or_under q p
touches (MakeParents p) q = is_under p q
touches (Settle ps) q = is_within q ps || is_above q ps
touches (Protect p) q = bytes_eq q p
touches (Start recipe logs command) q = is_within q (owned_paths recipe logs)
touches Wait q = true

pub off : (b : Bool) (s t : NodeState) → b ≡ false → (if b then t else s) ≡ s
off true s t h = absurd (true≢false h)
off false s t h = refl

on : (b : Bool) (s t : NodeState) → b ≡ true → (if b then t else s) ≡ t
on true s t h = refl
on false s t h = absurd (true≢false (sym h))

neither : (a b c : Bool) → (a || b) ≡ false → (a || (b && c)) ≡ false
neither true b c h = absurd (true≢false h)
neither false true c h = absurd (true≢false h)
neither false false c h = refl

kept_by : (call : Call) (left : List Change) (cs : List Child) (q : List ℕ) (s : NodeState) → touches (request call) q ≡ false → node_after call left cs q s ≡ s
kept_by (Looked p r) left cs q s h = refl
kept_by (ReadFile p limit r) left cs q s h = refl
kept_by (ReadFolder p r) left cs q s h = refl
kept_by (Written p bytes r) left cs q s h = off (bytes_eq q p) s (loose (standing left q) s) h
kept_by (Created p (Ok made)) left cs q s h = off (made && bytes_eq q p) s (loose (standing left q) s) (and_right made _ h)
kept_by (Created p (Err e)) left cs q s h = off (reads_nothing s && bytes_eq q p) s (loose (standing left q) s) (and_right (reads_nothing s) _ h)
kept_by (Removed p r) left cs q s h = off (is_at_or_under q p) s (going (standing left q) s) h
kept_by (MadeParents p (Ok u)) left cs q s h = off (is_under p q) s (with_folder s) h
kept_by (MadeParents p (Err e)) left cs q s h = off (is_some (standing left q) && is_under p q) s (with_folder s) (and_right (is_some (standing left q)) _ h)
kept_by (Settled ps (Ok u)) left cs q s h = off (is_within q ps || (is_above q ps && reads_folder s)) s (firm s) (neither (is_within q ps) (is_above q ps) (reads_folder s) h)
kept_by (Settled ps (Err e)) left cs q s h = refl
kept_by (Protected p (Ok u)) left cs q s h = off (bytes_eq q p) s (with_flag s) h
kept_by (Protected p (Err e)) left cs q s h = off (bytes_eq q p) s (going (standing left q) (with_flag s)) h
kept_by (Started recipe logs command (Ok number)) left cs q s h = off (is_within q (owned_paths recipe logs)) s Owned h
kept_by (Started recipe logs command (Err e)) left cs q s h = refl
kept_by (Waited (Ok ended)) left cs q s h = absurd (true≢false h)
kept_by (Waited (Err e)) left cs q s h = refl

-- none of the calls touches q
abbrev pub KeepsOff : List Request → List ℕ → Type 0
KeepsOff [] q = Unit {0}
KeepsOff (r ∷ rs) q = (touches r q ≡ false) × KeepsOff rs q

-- ## One call that did not fail

-- r was carried out, from w to v
pub record Stepped (act : Recipe → List Tree → Acted) (r : Request) (w v : World) : Type 0 where
  pub event : Event
  pub lets : Lets act w event.call event.left
  pub is : request event.call ≡ r
  pub quiet : failed event.call ≡ false
  pub now : v ≡ after w event

-- the calls were carried out, from w to v
abbrev pub Reaches : (Recipe → List Tree → Acted) → List Request → World → World → Type 0
Reaches act [] w v = v ≡ w
Reaches act (r ∷ rs) w v = (u : World) × Stepped act r w u × Reaches act rs u v

pub done_reaches : (act : Recipe → List Tree → Acted) (rs : List Request) (w : World) (es : List Event) → Follows act w es → HasDone rs es → Reaches act rs w (run w es)
done_reaches act [] w [] f h = refl
done_reaches act [] w (e ∷ es) f h = absurd h
done_reaches act (r ∷ rs) w [] f h = absurd h
done_reaches act (r ∷ rs) w (e ∷ es) f h = (after w e, record { event = e; lets = f.0.lets; is = h.0; quiet = h.1; now = refl }, done_reaches act rs (after w e) es f.1 h.2)

pub step_keeps : (act : Recipe → List Tree → Acted) (r : Request) (w v : World) (q : List ℕ) → Stepped act r w v → touches r q ≡ false → v.nodes q ≡ w.nodes q
step_keeps act r w v q st h = ap (λ x. x.nodes q) st.now ∙ kept_by st.event.call st.event.left w.children q (w.nodes q) (ap (λ x. touches x q) st.is ∙ h)

-- no child owns the place
abbrev pub IsKnown : NodeState → Type 0
IsKnown Owned = ⊥
IsKnown (Known now besides) = Unit {0}

abbrev pub is_start : Request → Bool
is_start (Start recipe logs command) = true
is_start r = false

known_if : (b : Bool) (s t : NodeState) → IsKnown s → IsKnown t → IsKnown (if b then t else s)
known_if true s t h k = k
known_if false s t h k = h

known_loose : (n : Option Node) (s : NodeState) → IsKnown s → IsKnown (loose n s)
known_loose n Owned h = absurd h
known_loose n (Known now besides) h = tt

known_going : (n : Option Node) (s : NodeState) → IsKnown s → IsKnown (going n s)
known_going n Owned h = absurd h
known_going n (Known now besides) h = tt

known_folder : (s : NodeState) → IsKnown s → IsKnown (with_folder s)
known_folder Owned h = absurd h
known_folder (Known None besides) h = tt
known_folder (Known (Some n) besides) h = tt

known_firm : (s : NodeState) → IsKnown s → IsKnown (firm s)
known_firm Owned h = absurd h
known_firm (Known now besides) h = tt

known_flag : (s : NodeState) → IsKnown s → IsKnown (with_flag s)
known_flag Owned h = absurd h
known_flag (Known now besides) h = tt

known_by : (call : Call) (left : List Change) (cs : List Child) (q : List ℕ) (s : NodeState) → is_start (request call) ≡ false → IsKnown s → IsKnown (node_after call left cs q s)
known_by (Looked p r) left cs q s h k = k
known_by (ReadFile p limit r) left cs q s h k = k
known_by (ReadFolder p r) left cs q s h k = k
known_by (Written p bytes r) left cs q s h k = known_if _ s (loose (standing left q) s) k (known_loose _ s k)
known_by (Created p (Ok made)) left cs q s h k = known_if _ s (loose (standing left q) s) k (known_loose _ s k)
known_by (Created p (Err e)) left cs q s h k = known_if _ s (loose (standing left q) s) k (known_loose _ s k)
known_by (Removed p r) left cs q s h k = known_if _ s (going (standing left q) s) k (known_going _ s k)
known_by (MadeParents p (Ok u)) left cs q s h k = known_if _ s (with_folder s) k (known_folder s k)
known_by (MadeParents p (Err e)) left cs q s h k = known_if _ s (with_folder s) k (known_folder s k)
known_by (Settled ps (Ok u)) left cs q s h k = known_if _ s (firm s) k (known_firm s k)
known_by (Settled ps (Err e)) left cs q s h k = k
known_by (Protected p (Ok u)) left cs q s h k = known_if _ s (with_flag s) k (known_flag s k)
known_by (Protected p (Err e)) left cs q s h k = known_if _ s (going (standing left q) (with_flag s)) k (known_going _ (with_flag s) (known_flag s k))
known_by (Started recipe logs command r) left cs q s h k = absurd (true≢false h)
known_by (Waited (Ok ended)) left cs q s h k = known_if _ s (Known (standing left q) _) k tt
known_by (Waited (Err e)) left cs q s h k = k

pub step_known : (act : Recipe → List Tree → Acted) (r : Request) (w v : World) (q : List ℕ) → Stepped act r w v → is_start r ≡ false → IsKnown (w.nodes q) → IsKnown (v.nodes q)
step_known act r w v q st h k =
    subst (λ x. IsKnown (x.nodes q)) (sym st.now) (known_by st.event.call st.event.left w.children q (w.nodes q) (ap is_start st.is ∙ h) k)

-- ## What single calls leave

remove_by : (call : Call) (left : List Change) (act : Recipe → List Tree → Acted) (w : World) (p q : List ℕ)
    → request call ≡ Remove p → failed call ≡ false → Lets act w call left → is_at_or_under q p ≡ true → IsKnown (w.nodes q) → Reads None (node_after call left w.children q (w.nodes q))
remove_by (Removed x (Ok u)) left act w p q is quiet lets at known =
    let same : x ≡ p = cc in
    let here : is_at_or_under q x ≡ true = ap (is_at_or_under q) same ∙ at in
    subst (Reads None) (sym (on (is_at_or_under q x) (w.nodes q) (going (standing left q) (w.nodes q)) here ∙ ap (λ l. going (standing l q) (w.nodes q)) lets)) (gone (w.nodes q) known)
  where
    gone : (s : NodeState) → IsKnown s → Reads None (going None s)
    gone Owned h = absurd h
    gone (Known now besides) h = refl
remove_by (Removed x (Err e)) left act w p q is quiet lets at known = absurd (true≢false quiet)
remove_by (Looked x r) left act w p q is quiet lets at known = cc
remove_by (ReadFile x limit r) left act w p q is quiet lets at known = cc
remove_by (ReadFolder x r) left act w p q is quiet lets at known = cc
remove_by (Written x bytes r) left act w p q is quiet lets at known = cc
remove_by (Created x r) left act w p q is quiet lets at known = cc
remove_by (MadeParents x r) left act w p q is quiet lets at known = cc
remove_by (Settled xs r) left act w p q is quiet lets at known = cc
remove_by (Protected x r) left act w p q is quiet lets at known = cc
remove_by (Started recipe logs command r) left act w p q is quiet lets at known = cc
remove_by (Waited r) left act w p q is quiet lets at known = cc

-- after a removal nothing reads there
pub removed : (act : Recipe → List Tree → Acted) (p : List ℕ) (w v : World) (q : List ℕ) → Stepped act (Remove p) w v → is_at_or_under q p ≡ true → IsKnown (w.nodes q) → Reads None (v.nodes q)
removed act p w v q st at known = subst (λ x. Reads None (x.nodes q)) (sym st.now) (remove_by st.event.call st.event.left act w p q st.is st.quiet st.lets at known)

settle_by : (call : Call) (left : List Change) (cs : List Child) (ps : List (List ℕ)) (q : List ℕ) (s : NodeState)
    → request call ≡ Settle ps → failed call ≡ false → is_within q ps ≡ true → node_after call left cs q s ≡ firm s
settle_by (Settled xs (Ok u)) left cs ps q s is quiet at =
    let same : xs ≡ ps = cc in
    on (is_within q xs || (is_above q xs && reads_folder s)) s (firm s) (or_first (is_within q xs) _ (ap (is_within q) same ∙ at))
settle_by (Settled xs (Err e)) left cs ps q s is quiet at = absurd (true≢false quiet)
settle_by (Looked x r) left cs ps q s is quiet at = cc
settle_by (ReadFile x limit r) left cs ps q s is quiet at = cc
settle_by (ReadFolder x r) left cs ps q s is quiet at = cc
settle_by (Written x bytes r) left cs ps q s is quiet at = cc
settle_by (Created x r) left cs ps q s is quiet at = cc
settle_by (Removed x r) left cs ps q s is quiet at = cc
settle_by (MadeParents x r) left cs ps q s is quiet at = cc
settle_by (Protected x r) left cs ps q s is quiet at = cc
settle_by (Started recipe logs command r) left cs ps q s is quiet at = cc
settle_by (Waited r) left cs ps q s is quiet at = cc

-- what is settled is firm
pub settled_firm : (act : Recipe → List Tree → Acted) (ps : List (List ℕ)) (w v : World) (q : List ℕ) → Stepped act (Settle ps) w v → is_within q ps ≡ true → v.nodes q ≡ firm (w.nodes q)
settled_firm act ps w v q st at = ap (λ x. x.nodes q) st.now ∙ settle_by st.event.call st.event.left w.children ps q (w.nodes q) st.is st.quiet at

write_by : (call : Call) (left : List Change) (act : Recipe → List Tree → Acted) (w : World) (p bytes : List ℕ)
    → request call ≡ Write p bytes → failed call ≡ false → Lets act w call left → IsKnown (w.nodes p) → HoldsBytes bytes (node_after call left w.children p (w.nodes p))
write_by (Written x held (Ok u)) left act w p bytes is quiet lets known =
    let same : x ≡ p = cc in
    let equal : held ≡ bytes = cc in
    let here : bytes_eq p x ≡ true = ap (bytes_eq p) same ∙ place_itself p in
    let file : Node = Regular held lets.0 lets.1 in
    let there : standing left p ≡ Some file = ap (λ l. standing l p) lets.2 ∙ ap (λ b. if b then Some file else None) (ap (λ y. bytes_eq y p) same ∙ place_itself p) in
    subst (HoldsBytes bytes) (sym (on (bytes_eq p x) (w.nodes p) (loose (standing left p) (w.nodes p)) here ∙ ap (λ n. loose n (w.nodes p)) there)) (holds (w.nodes p) lets.0 lets.1 held equal known)
  where
    holds : (s : NodeState) (time : ℕ) (read_only : Bool) (held : List ℕ) → held ≡ bytes → IsKnown s → HoldsBytes bytes (loose (Some (Regular held time read_only)) s)
    holds Owned time read_only held e h = absurd h
    holds (Known now besides) time read_only held e h = e
write_by (Written x held (Err e)) left act w p bytes is quiet lets known = absurd (true≢false quiet)
write_by (Looked x r) left act w p bytes is quiet lets known = cc
write_by (ReadFile x limit r) left act w p bytes is quiet lets known = cc
write_by (ReadFolder x r) left act w p bytes is quiet lets known = cc
write_by (Created x r) left act w p bytes is quiet lets known = cc
write_by (Removed x r) left act w p bytes is quiet lets known = cc
write_by (MadeParents x r) left act w p bytes is quiet lets known = cc
write_by (Settled xs r) left act w p bytes is quiet lets known = cc
write_by (Protected x r) left act w p bytes is quiet lets known = cc
write_by (Started recipe logs command r) left act w p bytes is quiet lets known = cc
write_by (Waited r) left act w p bytes is quiet lets known = cc

-- what was written reads
pub written : (act : Recipe → List Tree → Acted) (p bytes : List ℕ) (w v : World) → Stepped act (Write p bytes) w v → IsKnown (w.nodes p) → HoldsBytes bytes (v.nodes p)
written act p bytes w v st known = subst (λ x. HoldsBytes bytes (x.nodes p)) (sym st.now) (write_by st.event.call st.event.left act w p bytes st.is st.quiet st.lets known)

create_by : (call : Call) (left : List Change) (act : Recipe → List Tree → Acted) (w : World) (p : List ℕ)
    → request call ≡ Create p → failed call ≡ false → Lets act w call left → IsKnown (w.nodes p) → Stands (node_after call left w.children p (w.nodes p))
create_by (Created x (Ok true)) left act w p is quiet lets known =
    let same : x ≡ p = cc in
    let here : bytes_eq p x ≡ true = ap (bytes_eq p) same ∙ place_itself p in
    let file : Node = Regular [] lets.1.0 false in
    let there : standing left p ≡ Some file = ap (λ l. standing l p) lets.1.1 ∙ ap (λ b. if b then Some file else None) (ap (λ y. bytes_eq y p) same ∙ place_itself p) in
    subst Stands (sym (on (bytes_eq p x) (w.nodes p) (loose (standing left p) (w.nodes p)) here ∙ ap (λ n. loose n (w.nodes p)) there)) (stands (w.nodes p) file known)
  where
    stands : (s : NodeState) (n : Node) → IsKnown s → Stands (loose (Some n) s)
    stands Owned n h = absurd h
    stands (Known now besides) n h = tt
create_by (Created x (Ok false)) left act w p is quiet lets known =
    let same : x ≡ p = cc in
    stood (w.nodes p) (subst (λ y. ¬ (Reads None (w.nodes y))) same lets.0) known
  where
    stood : (s : NodeState) → ¬ (Reads None s) → IsKnown s → Stands s
    stood Owned never h = absurd h
    stood (Known None besides) never h = absurd (never refl)
    stood (Known (Some n) besides) never h = tt
create_by (Created x (Err e)) left act w p is quiet lets known = absurd (true≢false quiet)
create_by (Looked x r) left act w p is quiet lets known = cc
create_by (ReadFile x limit r) left act w p is quiet lets known = cc
create_by (ReadFolder x r) left act w p is quiet lets known = cc
create_by (Written x bytes r) left act w p is quiet lets known = cc
create_by (Removed x r) left act w p is quiet lets known = cc
create_by (MadeParents x r) left act w p is quiet lets known = cc
create_by (Settled xs r) left act w p is quiet lets known = cc
create_by (Protected x r) left act w p is quiet lets known = cc
create_by (Started recipe logs command r) left act w p is quiet lets known = cc
create_by (Waited r) left act w p is quiet lets known = cc

-- what was created, or was there, stands
pub created : (act : Recipe → List Tree → Acted) (p : List ℕ) (w v : World) → Stepped act (Create p) w v → IsKnown (w.nodes p) → Stands (v.nodes p)
created act p w v st known = subst (λ x. Stands (x.nodes p)) (sym st.now) (create_by st.event.call st.event.left act w p st.is st.quiet st.lets known)

-- ## What is firm

pub firmly_none : (s : NodeState) → Reads None s → firm s ≡ firmly None
firmly_none Owned h = absurd h
firmly_none (Known now besides) h = ap firmly h

pub firmly_some : (s : NodeState) → Stands s → (n : Node) × (firm s ≡ firmly (Some n))
firmly_some Owned h = absurd h
firmly_some (Known None besides) h = absurd h
firmly_some (Known (Some n) besides) h = (n, refl)
