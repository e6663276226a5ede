-- What a call was, by its request, and what it leaves to read.
use Rattle.std.proofs.Common.{◌≡◌, ℕ, Bool, true, false, List, ap, ◌∙◌, Some, None, Ok, Err, true≢false}
use Rattle.std.specs.Prelude.{if◌then◌else◌}
use Rattle.smk_base.specs.Path.{is_under}
use Rattle.smk_world.specs.declared.event.Call.{Call}
use Rattle.smk_world.specs.declared.event.Call.TheVariants.{Looked, ReadFile, ReadFolder, Written, Created, Removed, MadeParents, Settled, Protected, Started, Waited}
use Rattle.smk_world.specs.declared.event.Node.{Node}
use Rattle.smk_world.specs.declared.event.Node.TheVariants.{Regular, Directory}
use Rattle.smk_world.specs.declared.event.NodeState.{NodeState}
use Rattle.smk_world.specs.declared.event.NodeState.TheVariants.{Owned, Known}
use Rattle.smk_world.specs.declared.recipe.Recipe.{Recipe}
use Rattle.smk_world.specs.World.{World, reading, node_after, with_folder}
use Rattle.smk_world.specs.Calls.{HoldsBytes, failed}
use Rattle.smk_world.specs.Requests.{request}
use Rattle.smk_world.specs.Requests.Request.{Create, MakeParents, Write, Remove, Settle, Start}
use Rattle.smk_world.specs.Trees.{Path, Act}
use Rattle.smk_laws_protocol.specs.Protocol.{as_ok}
use Rattle.smk_job.proofs.Single.{Stepped}
use Rattle.smk_laws_job.proofs.Beginning.{parents_call}

-- ## A call as it is when it succeeds

pub as_parents : (call : Call) (p : Path) → request call ≡ MakeParents p → as_ok call ≡ MadeParents p (Ok tt)
as_parents (MadeParents x r) p is = let e : x ≡ p = cc in ap (λ y. MadeParents y (Ok tt)) e
as_parents (Looked x r) p is = cc
as_parents (ReadFile x limit r) p is = cc
as_parents (ReadFolder x r) p is = cc
as_parents (Written x bytes r) p is = cc
as_parents (Created x r) p is = cc
as_parents (Removed x r) p is = cc
as_parents (Settled xs r) p is = cc
as_parents (Protected x r) p is = cc
as_parents (Started recipe logs command r) p is = cc
as_parents (Waited r) p is = cc

pub as_created : (call : Call) (p : Path) → request call ≡ Create p → as_ok call ≡ Created p (Ok true)
as_created (Created x r) p is = let e : x ≡ p = cc in ap (λ y. Created y (Ok true)) e
as_created (Looked x r) p is = cc
as_created (ReadFile x limit r) p is = cc
as_created (ReadFolder x r) p is = cc
as_created (Written x bytes r) p is = cc
as_created (MadeParents x r) p is = cc
as_created (Removed x r) p is = cc
as_created (Settled xs r) p is = cc
as_created (Protected x r) p is = cc
as_created (Started recipe logs command r) p is = cc
as_created (Waited r) p is = cc

pub as_removed : (call : Call) (p : Path) → request call ≡ Remove p → as_ok call ≡ Removed p (Ok tt)
as_removed (Removed x r) p is = let e : x ≡ p = cc in ap (λ y. Removed y (Ok tt)) e
as_removed (Looked x r) p is = cc
as_removed (ReadFile x limit r) p is = cc
as_removed (ReadFolder x r) p is = cc
as_removed (Written x bytes r) p is = cc
as_removed (Created x r) p is = cc
as_removed (MadeParents x r) p is = cc
as_removed (Settled xs r) p is = cc
as_removed (Protected x r) p is = cc
as_removed (Started recipe logs command r) p is = cc
as_removed (Waited r) p is = cc

pub as_settled : (call : Call) (ps : List Path) → request call ≡ Settle ps → as_ok call ≡ Settled ps (Ok tt)
as_settled (Settled xs r) ps is = let e : xs ≡ ps = cc in ap (λ y. Settled y (Ok tt)) e
as_settled (Looked x r) ps is = cc
as_settled (ReadFile x limit r) ps is = cc
as_settled (ReadFolder x r) ps is = cc
as_settled (Written x bytes r) ps is = cc
as_settled (Created x r) ps is = cc
as_settled (Removed x r) ps is = cc
as_settled (MadeParents x r) ps is = cc
as_settled (Protected x r) ps is = cc
as_settled (Started recipe logs command r) ps is = cc
as_settled (Waited r) ps is = cc

pub as_started : (call : Call) (r : Recipe) (ls : List Path) (command : List ℕ) → request call ≡ Start r ls command → as_ok call ≡ Started r ls command (Ok 0)
as_started (Started x xs c y) r ls command is =
    let e : x ≡ r = cc in
    let f : xs ≡ ls = cc in
    let g : c ≡ command = cc in
    λ i. Started (e i) (f i) (g i) (Ok 0)
as_started (Looked x y) r ls command is = cc
as_started (ReadFile x limit y) r ls command is = cc
as_started (ReadFolder x y) r ls command is = cc
as_started (Written x bytes y) r ls command is = cc
as_started (Created x y) r ls command is = cc
as_started (MadeParents x y) r ls command is = cc
as_started (Removed x y) r ls command is = cc
as_started (Settled xs y) r ls command is = cc
as_started (Protected x y) r ls command is = cc
as_started (Waited y) r ls command is = cc

pub as_written : (call : Call) (p : Path) (bytes : List ℕ) → request call ≡ Write p bytes → as_ok call ≡ Written p bytes (Ok tt)
as_written (Written x held r) p bytes is =
    let e : x ≡ p = cc in
    let f : held ≡ bytes = cc in
    λ i. Written (e i) (f i) (Ok tt)
as_written (Looked x r) p bytes is = cc
as_written (ReadFile x limit r) p bytes is = cc
as_written (ReadFolder x r) p bytes is = cc
as_written (Created x r) p bytes is = cc
as_written (MadeParents x r) p bytes is = cc
as_written (Removed x r) p bytes is = cc
as_written (Settled xs r) p bytes is = cc
as_written (Protected x r) p bytes is = cc
as_written (Started recipe logs command r) p bytes is = cc
as_written (Waited r) p bytes is = cc

-- ## A call that was written

pub written_call : (call : Call) (p : Path) (bytes : List ℕ) → request call ≡ Write p bytes → failed call ≡ false → call ≡ Written p bytes (Ok tt)
written_call (Written x held (Ok u)) p bytes is quiet =
    let e : x ≡ p = cc in
    let f : held ≡ bytes = cc in
    λ i. Written (e i) (f i) (Ok tt)
written_call (Written x held (Err e)) p bytes is quiet = absurd (true≢false quiet)
written_call (Looked x r) p bytes is quiet = cc
written_call (ReadFile x limit r) p bytes is quiet = cc
written_call (ReadFolder x r) p bytes is quiet = cc
written_call (Created x r) p bytes is quiet = cc
written_call (MadeParents x r) p bytes is quiet = cc
written_call (Removed x r) p bytes is quiet = cc
written_call (Settled xs r) p bytes is quiet = cc
written_call (Protected x r) p bytes is quiet = cc
written_call (Started recipe logs command r) p bytes is quiet = cc
written_call (Waited r) p bytes is quiet = cc

-- ## What reads

pub holds_reading : (bytes : List ℕ) (st : NodeState) → HoldsBytes bytes st → (time : ℕ) × (read_only : Bool) × (reading st ≡ Some (Regular bytes time read_only))
holds_reading bytes Owned h = absurd h
holds_reading bytes (Known None besides) h = absurd h
holds_reading bytes (Known (Some Directory) besides) h = absurd h
holds_reading bytes (Known (Some (Regular held time read_only)) besides) h = (time, read_only, ap (λ b. Some (Regular b time read_only)) h)

folder_if : (b : Bool) (st : NodeState) (n : Node) → reading st ≡ Some n → reading (if b then with_folder st else st) ≡ Some n
folder_if true Owned n h = cc
folder_if true (Known None besides) n h = cc
folder_if true (Known (Some m) besides) n h = h
folder_if false st n h = h

-- making folders leaves what reads
pub folder_kept : (act : Act) (place : Path) (w v : World) (q : Path) (n : Node) → Stepped act (MakeParents place) w v → reading (w.nodes q) ≡ Some n → reading (v.nodes q) ≡ Some n
folder_kept act place w v q n st h =
    ap (λ (x : World). reading (x.nodes q)) st.now
    ∙ ap (λ c. reading (node_after c st.event.left w.children q (w.nodes q))) (parents_call st.event.call place st.is st.quiet)
    ∙ folder_if (is_under place q) (w.nodes q) n h
