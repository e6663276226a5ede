-- A turn leaves alone what isn't at, under or above the outputs and logs of its job.
use Rattle.std.proofs.Common.{◌≡◌, ℕ, Bool, true, false, ◌&&◌, ◌||◌, not, List, [], ◌∷◌, ◌++◌, refl, ap, ◌∙◌, Option, Some, None, Ok, Err, bytes_eq, true≢false}
use Rattle.std.specs.Prelude.{if◌then◌else◌, nat_eq, is_some}
use Rattle.std.specs.List.{filter}
use Rattle.smk_job.proofs.Single.{off}
use Rattle.smk_base.specs.Path.{is_under, is_at_or_under}
use Rattle.smk_world.specs.declared.event.Node.{Node}
use Rattle.smk_world.specs.declared.event.NodeState.{NodeState}
use Rattle.smk_world.specs.declared.event.NodeState.TheVariants.{Owned, Known}
use Rattle.smk_world.specs.declared.event.Besides.TheVariants.{Anything}
use Rattle.smk_world.specs.declared.event.Call.{Call}
use Rattle.smk_world.specs.declared.event.Call.TheVariants.{Looked, ReadFile, ReadFolder, Written, Created, Removed, MadeParents, Settled, Protected, Started, Waited}
use Rattle.smk_world.specs.declared.event.Change.{Change}
use Rattle.smk_world.specs.declared.event.Child.{Child}
use Rattle.smk_world.specs.declared.event.Event.{Event}
use Rattle.smk_world.specs.World.{World, after, run, node_after, children_after, reading, is_within, is_above, owned_paths, owned_of, owned_by, child_numbered, standing, firm, loose, going, with_folder, with_flag, reads_folder, reads_nothing}
use Rattle.smk_world.specs.Requests.{Request, request}
use Rattle.smk_world.specs.Requests.Request.{Look, ReadUpTo, ListFolder, Write, Create, Remove, MakeParents, Settle, Protect, Start, Wait}
use Rattle.smk_world.specs.Trees.{Path, Each}
use Rattle.smk_run.proofs.Calls.{EachCall}

-- ## One call at one place

-- The call may change what stands at q: a node at all where `exactly`, and else what reads there.
abbrev pub bothers : Bool → Request → Path → Bool
bothers exactly (Look p) q = false
bothers exactly (ReadUpTo p limit) q = false
bothers exactly (ListFolder p) q = false
bothers exactly (Write p bytes) q = bytes_eq q p
bothers exactly (Create p) q = bytes_eq q p
bothers exactly (Remove p) q = is_at_or_under q p
bothers exactly (MakeParents p) q = exactly && is_under p q
bothers exactly (Settle ps) q = is_within q ps || (exactly && is_above q ps)
bothers exactly (Protect p) q = bytes_eq q p
bothers exactly (Start recipe logs command) q = is_within q (owned_paths recipe logs)
bothers exactly Wait q = false

-- the node is the same, or what reads there stays
abbrev pub Keeps : Bool → NodeState → NodeState → Type 0
Keeps true s t = t ≡ s
Keeps false s t = (n : Node) → reading s ≡ Some n → reading t ≡ Some n

pub keeps_same : (exactly : Bool) (s t : NodeState) → t ≡ s → Keeps exactly s t
keeps_same true s t h = h
keeps_same false s t h = λ n e. ap reading h ∙ e

pub keeps_then : (exactly : Bool) (s t u : NodeState) → Keeps exactly s t → Keeps exactly t u → Keeps exactly s u
keeps_then true s t u h k = k ∙ h
keeps_then false s t u h k = λ n e. k n (h n e)

off_and : (a b : Bool) (s t : NodeState) → b ≡ false → (if a && b then t else s) ≡ s
off_and true b s t h = off b s t h
off_and false b s t h = refl

folder_reads : (b : Bool) (s : NodeState) (n : Node) → reading s ≡ Some n → reading (if b then with_folder s else s) ≡ Some n
folder_reads true Owned n e = e
folder_reads true (Known None besides) n e = cc
folder_reads true (Known (Some m) besides) n e = e
folder_reads false s n e = e

made_keeps : (exactly b c : Bool) (s : NodeState) → (exactly && c) ≡ false → Keeps exactly s (if b && c then with_folder s else s)
made_keeps true b c s h = off_and b c s (with_folder s) h
made_keeps false b c s h = λ n e. folder_reads (b && c) s n e

made_keeps_all : (exactly c : Bool) (s : NodeState) → (exactly && c) ≡ false → Keeps exactly s (if c then with_folder s else s)
made_keeps_all true c s h = off c s (with_folder s) h
made_keeps_all false c s h = λ n e. folder_reads c s n e

firm_reads : (b : Bool) (s : NodeState) (n : Node) → reading s ≡ Some n → reading (if b then firm s else s) ≡ Some n
firm_reads true Owned n e = e
firm_reads true (Known now besides) n e = e
firm_reads false s n e = e

settled_exactly : (a b c : Bool) (s : NodeState) → (a || b) ≡ false → (if a || (b && c) then firm s else s) ≡ s
settled_exactly true b c s h = absurd (true≢false h)
settled_exactly false true c s h = absurd (true≢false h)
settled_exactly false false c s h = refl

settled_keeps : (exactly a b c : Bool) (s : NodeState) → (a || (exactly && b)) ≡ false → Keeps exactly s (if a || (b && c) then firm s else s)
settled_keeps true a b c s h = settled_exactly a b c s h
settled_keeps false a b c s h = λ n e. firm_reads (a || (b && c)) s n e

-- the children own nothing that q is at or under
abbrev pub AreAside : Path → List Child → Type 0
AreAside q cs = Each (λ (c : Child). is_within q (owned_paths c.recipe c.logs) ≡ false) cs

aside_step : (b : Bool) (q : Path) (c : Child) (rest : Option Child) → is_within q (owned_paths c.recipe c.logs) ≡ false → is_within q (owned_of rest) ≡ false → is_within q (owned_of (if b then Some c else rest)) ≡ false
aside_step true q c rest h k = h
aside_step false q c rest h k = k

aside_by : (q : Path) (number : ℕ) (cs : List Child) → AreAside q cs → is_within q (owned_by number cs) ≡ false
aside_by q number [] h = refl
aside_by q number (c ∷ cs) h = aside_step (nat_eq c.number number) q c (child_numbered number cs) h.0 (aside_by q number cs h.1)

aside_more : (q : Path) (cs : List Child) (c : Child) → AreAside q cs → is_within q (owned_paths c.recipe c.logs) ≡ false → AreAside q (cs ++ c ∷ [])
aside_more q [] c h k = (k, tt)
aside_more q (d ∷ cs) c h k = (h.0, aside_more q cs c h.1 k)

fewer_step : (b : Bool) (q : Path) (c : Child) (cs : List Child) → is_within q (owned_paths c.recipe c.logs) ≡ false → AreAside q cs → AreAside q (if b then c ∷ cs else cs)
fewer_step true q c cs h k = (h, k)
fewer_step false q c cs h k = k

aside_fewer : (q : Path) (test : Child → Bool) (cs : List Child) → AreAside q cs → AreAside q (filter test cs)
aside_fewer q test [] h = tt
aside_fewer q test (c ∷ cs) h = fewer_step (test c) q c (filter test cs) h.0 (aside_fewer q test cs h.1)

aside_after : (q : Path) (call : Call) (cs : List Child) → bothers true (request call) q ≡ false → AreAside q cs → AreAside q (children_after call cs)
aside_after q (Started recipe logs command (Ok number)) cs h k = aside_more q cs (record { number = number; recipe = recipe; logs = logs }) k h
aside_after q (Started recipe logs command (Err e)) cs h k = k
aside_after q (Waited (Ok ended)) cs h k = aside_fewer q (λ c. not (nat_eq c.number ended.number)) cs k
aside_after q (Waited (Err e)) cs h k = k
aside_after q (Looked p r) cs h k = k
aside_after q (ReadFile p limit r) cs h k = k
aside_after q (ReadFolder p r) cs h k = k
aside_after q (Written p bytes r) cs h k = k
aside_after q (Created p r) cs h k = k
aside_after q (Removed p r) cs h k = k
aside_after q (MadeParents p r) cs h k = k
aside_after q (Settled ps r) cs h k = k
aside_after q (Protected p r) cs h k = k

aside_loosely : (q : Path) (call : Call) (cs : List Child) → bothers false (request call) q ≡ false → AreAside q cs → AreAside q (children_after call cs)
aside_loosely q (Started recipe logs command (Ok number)) cs h k = aside_more q cs (record { number = number; recipe = recipe; logs = logs }) k h
aside_loosely q (Started recipe logs command (Err e)) cs h k = k
aside_loosely q (Waited (Ok ended)) cs h k = aside_fewer q (λ c. not (nat_eq c.number ended.number)) cs k
aside_loosely q (Waited (Err e)) cs h k = k
aside_loosely q (Looked p r) cs h k = k
aside_loosely q (ReadFile p limit r) cs h k = k
aside_loosely q (ReadFolder p r) cs h k = k
aside_loosely q (Written p bytes r) cs h k = k
aside_loosely q (Created p r) cs h k = k
aside_loosely q (Removed p r) cs h k = k
aside_loosely q (MadeParents p r) cs h k = k
aside_loosely q (Settled ps r) cs h k = k
aside_loosely q (Protected p r) cs h k = k

aside_next : (exactly : Bool) (q : Path) (call : Call) (cs : List Child) → bothers exactly (request call) q ≡ false → AreAside q cs → AreAside q (children_after call cs)
aside_next true = aside_after
aside_next false = aside_loosely

node_kept : (exactly : Bool) (call : Call) (left : List Change) (cs : List Child) (q : Path) (s : NodeState) → bothers exactly (request call) q ≡ false → AreAside q cs → Keeps exactly s (node_after call left cs q s)
node_kept exactly (Looked p r) left cs q s h k = keeps_same exactly s s refl
node_kept exactly (ReadFile p limit r) left cs q s h k = keeps_same exactly s s refl
node_kept exactly (ReadFolder p r) left cs q s h k = keeps_same exactly s s refl
node_kept exactly (Written p bytes r) left cs q s h k = keeps_same exactly s _ (off (bytes_eq q p) s (loose (standing left q) s) h)
node_kept exactly (Created p (Ok made)) left cs q s h k = keeps_same exactly s _ (off_and made (bytes_eq q p) s (loose (standing left q) s) h)
node_kept exactly (Created p (Err e)) left cs q s h k = keeps_same exactly s _ (off_and (reads_nothing s) (bytes_eq q p) s (loose (standing left q) s) h)
node_kept exactly (Removed p r) left cs q s h k = keeps_same exactly s _ (off (is_at_or_under q p) s (going (standing left q) s) h)
node_kept exactly (MadeParents p (Ok u)) left cs q s h k = made_keeps_all exactly (is_under p q) s h
node_kept exactly (MadeParents p (Err e)) left cs q s h k = made_keeps exactly (is_some (standing left q)) (is_under p q) s h
node_kept exactly (Settled ps (Ok u)) left cs q s h k = settled_keeps exactly (is_within q ps) (is_above q ps) (reads_folder s) s h
node_kept exactly (Settled ps (Err e)) left cs q s h k = keeps_same exactly s s refl
node_kept exactly (Protected p (Ok u)) left cs q s h k = keeps_same exactly s _ (off (bytes_eq q p) s (with_flag s) h)
node_kept exactly (Protected p (Err e)) left cs q s h k = keeps_same exactly s _ (off (bytes_eq q p) s (going (standing left q) (with_flag s)) h)
node_kept exactly (Started recipe logs command (Ok number)) left cs q s h k = keeps_same exactly s _ (off (is_within q (owned_paths recipe logs)) s Owned h)
node_kept exactly (Started recipe logs command (Err e)) left cs q s h k = keeps_same exactly s s refl
node_kept exactly (Waited (Ok ended)) left cs q s h k = keeps_same exactly s _ (off (is_within q (owned_by ended.number cs)) s (Known (standing left q) Anything) (aside_by q ended.number cs k))
node_kept exactly (Waited (Err e)) left cs q s h k = keeps_same exactly s s refl

-- ## Many calls

abbrev pub Spares : Bool → Path → Request → Type 0
Spares exactly q r = bothers exactly r q ≡ false

pub run_kept : (exactly : Bool) (q : Path) (w : World) (es : List Event) → EachCall (Spares exactly q) es → AreAside q w.children → Keeps exactly (w.nodes q) ((run w es).nodes q)
run_kept exactly q w [] h k = keeps_same exactly (w.nodes q) (w.nodes q) refl
run_kept exactly q w (e ∷ es) h k =
    keeps_then exactly (w.nodes q) ((after w e).nodes q) ((run (after w e) es).nodes q)
    (node_kept exactly e.call e.left w.children q (w.nodes q) h.0 k)
    (run_kept exactly q (after w e) es h.1 (aside_next exactly q e.call w.children h.0 k))
