-- What isn't gone for good at a place stays so, unless the place is made firm.
use Rattle.std.proofs.Common.{◌≡◌, Bool, true, false, ◌&&◌, List, refl, Option, Some, None, Ok, Err}
use Rattle.std.specs.Prelude.{bytes_eq, is_some, if◌then◌else◌}
use Rattle.smk_base.specs.Path.{is_at_or_under, is_under}
use Rattle.smk_world.specs.declared.event.Besides.TheVariants.{Anything, OneOf}
use Rattle.smk_world.specs.declared.event.Call.{Call}
use Rattle.smk_world.specs.declared.event.Call.TheVariants.{Looked, ReadFile, ReadFolder, Written, Created, Removed, MadeParents, Settled, Protected, Started, Waited}
use Rattle.smk_world.specs.declared.event.Change.{Change}
use Rattle.smk_world.specs.declared.event.Child.{Child}
use Rattle.smk_world.specs.declared.event.Node.{Node}
use Rattle.smk_world.specs.declared.event.NodeState.{NodeState}
use Rattle.smk_world.specs.declared.event.NodeState.TheVariants.{Owned, Known}
use Rattle.smk_world.specs.World.{going, is_above, is_within, loose, node_after, owned_by, reads_nothing, settled, standing, with_folder}
use Rattle.smk_world.specs.Requests.{Request, request}
use Rattle.smk_world.specs.Requests.Request.{Look, ReadUpTo, ListFolder, Write, Create, Remove, MakeParents, Settle, Protect, Start, Wait}
use Rattle.smk_world.specs.Trees.{Path}
use Rattle.smk_drive.specs.Moments.{is_gone}

-- with a call that asks for this the place isn't made firm, nor owned by a child
abbrev pub Spares : Path → Request → Type 0
Spares q (Look p) = Unit {0}
Spares q (ReadUpTo p limit) = Unit {0}
Spares q (ListFolder p) = Unit {0}
Spares q (Write p bytes) = Unit {0}
Spares q (Create p) = Unit {0}
Spares q (Remove p) = Unit {0}
Spares q (MakeParents p) = Unit {0}
Spares q (Settle ps) = (is_within q ps ≡ false) × (is_above q ps ≡ false)
Spares q (Protect p) = bytes_eq q p ≡ false
Spares q (Start recipe logs command) = ⊥
Spares q Wait = Unit {0}

either : (P : NodeState → Type 0) (b : Bool) (s t : NodeState) → P s → P t → P (if b then s else t)
either P true s t a c = a
either P false s t a c = c

abbrev Stays : NodeState → Type 0
Stays s = is_gone s ≡ false

and_false : (a : Bool) → (a && false) ≡ false
and_false true = refl
and_false false = refl

loose_stays : (n : Option Node) (s : NodeState) → Stays (loose n s)
loose_stays n Owned = refl
loose_stays n (Known now besides) = refl

going_stays : (n : Option Node) (s : NodeState) → Stays s → Stays (going n s)
going_stays n Owned h = refl
going_stays n (Known (Some x) Anything) h = go n
  where
    go : (m : Option Node) → Stays (going m (Known (Some x) Anything))
    go None = refl
    go (Some y) = refl
going_stays None (Known (Some x) (OneOf ns)) h = refl
going_stays (Some y) (Known (Some x) (OneOf ns)) h = refl
going_stays None (Known None Anything) h = refl
going_stays (Some y) (Known None Anything) h = refl
going_stays None (Known None (OneOf ns)) h = h
going_stays (Some y) (Known None (OneOf ns)) h = refl

folder_stays : (s : NodeState) → Stays s → Stays (with_folder s)
folder_stays Owned h = refl
folder_stays (Known (Some x) besides) h = h
folder_stays (Known None Anything) h = refl
folder_stays (Known None (OneOf ns)) h = refl

settled_stays : (q : Path) (ps : List Path) (s : NodeState) → is_within q ps ≡ false → is_above q ps ≡ false → Stays s → Stays (settled ps q s)
settled_stays q ps s within above h = rw (within, above) h

pub sign_stays : (q : Path) (call : Call) (left : List Change) (cs : List Child) (s : NodeState) → Spares q (request call) → is_gone s ≡ false → is_gone (node_after call left cs q s) ≡ false
sign_stays q (Looked p r) left cs s spares h = h
sign_stays q (ReadFile p limit r) left cs s spares h = h
sign_stays q (ReadFolder p r) left cs s spares h = h
sign_stays q (Written p bytes r) left cs s spares h = either Stays (bytes_eq q p) (loose (standing left q) s) s (loose_stays (standing left q) s) h
sign_stays q (Created p (Ok made)) left cs s spares h = either Stays (made && bytes_eq q p) (loose (standing left q) s) s (loose_stays (standing left q) s) h
sign_stays q (Created p (Err e)) left cs s spares h =
    either Stays (reads_nothing s && bytes_eq q p) (loose (standing left q) s) s (loose_stays (standing left q) s) h
sign_stays q (Removed p r) left cs s spares h = either Stays (is_at_or_under q p) (going (standing left q) s) s (going_stays (standing left q) s h) h
sign_stays q (MadeParents p (Ok u)) left cs s spares h = either Stays (is_under p q) (with_folder s) s (folder_stays s h) h
sign_stays q (MadeParents p (Err e)) left cs s spares h = either Stays (is_some (standing left q) && is_under p q) (with_folder s) s (folder_stays s h) h
sign_stays q (Settled ps (Ok u)) left cs s spares h = settled_stays q ps s spares.0 spares.1 h
sign_stays q (Settled ps (Err e)) left cs s spares h = h
sign_stays q (Protected p (Ok u)) left cs s spares h = rw spares h
sign_stays q (Protected p (Err e)) left cs s spares h = rw spares h
sign_stays q (Started recipe logs command r) left cs s spares h = absurd spares
sign_stays q (Waited (Ok ended)) left cs s spares h = either Stays (is_within q (owned_by ended.number cs)) (Known (standing left q) Anything) s refl h
sign_stays q (Waited (Err e)) left cs s spares h = h
