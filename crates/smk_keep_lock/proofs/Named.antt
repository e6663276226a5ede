-- What was called, by what was asked.
use Rattle.std.proofs.Common.{◌≡◌, Bool, false, List, ap, Ok, Err, true≢false}
use Rattle.smk_world.specs.declared.event.Call.{Call}
use Rattle.smk_world.specs.declared.event.Call.TheVariants.{Looked, ReadFile, ReadFolder, Written, Created, Removed, MadeParents, Settled, Protected, Started, Waited}
use Rattle.smk_world.specs.Calls.{failed}
use Rattle.smk_world.specs.Requests.{request}
use Rattle.smk_world.specs.Requests.Request.{Create, Remove, MakeParents, Settle}
use Rattle.smk_world.specs.Trees.{Path}

pub created_call : (call : Call) (p : Path) → request call ≡ Create p → failed call ≡ false → (made : Bool) × (call ≡ Created p (Ok made))
created_call (Created x (Ok made)) p is quiet = (made, (let e : x ≡ p = cc in ap (λ y. Created y (Ok made)) e))
created_call (Created x (Err e)) p is quiet = absurd (true≢false quiet)
created_call (Looked x r) p is quiet = absurd cc
created_call (ReadFile x limit r) p is quiet = absurd cc
created_call (ReadFolder x r) p is quiet = absurd cc
created_call (Written x bytes r) p is quiet = absurd cc
created_call (Removed x r) p is quiet = absurd cc
created_call (MadeParents x r) p is quiet = absurd cc
created_call (Settled xs r) p is quiet = absurd cc
created_call (Protected x r) p is quiet = absurd cc
created_call (Started recipe logs command r) p is quiet = absurd cc
created_call (Waited r) p is quiet = absurd cc

pub removed_call : (call : Call) (p : Path) → request call ≡ Remove p → failed call ≡ false → call ≡ Removed p (Ok tt)
removed_call (Removed x (Ok u)) p is quiet = let e : x ≡ p = cc in ap (λ y. Removed y (Ok tt)) e
removed_call (Removed x (Err e)) p is quiet = absurd (true≢false quiet)
removed_call (Looked x r) p is quiet = absurd cc
removed_call (ReadFile x limit r) p is quiet = absurd cc
removed_call (ReadFolder x r) p is quiet = absurd cc
removed_call (Written x bytes r) p is quiet = absurd cc
removed_call (Created x r) p is quiet = absurd cc
removed_call (MadeParents x r) p is quiet = absurd cc
removed_call (Settled xs r) p is quiet = absurd cc
removed_call (Protected x r) p is quiet = absurd cc
removed_call (Started recipe logs command r) p is quiet = absurd cc
removed_call (Waited r) p is quiet = absurd cc

pub parents_call : (call : Call) (p : Path) → request call ≡ MakeParents p → failed call ≡ false → call ≡ MadeParents p (Ok tt)
parents_call (MadeParents x (Ok u)) p is quiet = let e : x ≡ p = cc in ap (λ y. MadeParents y (Ok tt)) e
parents_call (MadeParents x (Err e)) p is quiet = absurd (true≢false quiet)
parents_call (Looked x r) p is quiet = absurd cc
parents_call (ReadFile x limit r) p is quiet = absurd cc
parents_call (ReadFolder x r) p is quiet = absurd cc
parents_call (Written x bytes r) p is quiet = absurd cc
parents_call (Created x r) p is quiet = absurd cc
parents_call (Removed x r) p is quiet = absurd cc
parents_call (Settled xs r) p is quiet = absurd cc
parents_call (Protected x r) p is quiet = absurd cc
parents_call (Started recipe logs command r) p is quiet = absurd cc
parents_call (Waited r) p is quiet = absurd cc

pub settled_call : (call : Call) (ps : List Path) → request call ≡ Settle ps → failed call ≡ false → call ≡ Settled ps (Ok tt)
settled_call (Settled xs (Ok u)) ps is quiet = let e : xs ≡ ps = cc in ap (λ y. Settled y (Ok tt)) e
settled_call (Settled xs (Err e)) ps is quiet = absurd (true≢false quiet)
settled_call (Looked x r) ps is quiet = absurd cc
settled_call (ReadFile x limit r) ps is quiet = absurd cc
settled_call (ReadFolder x r) ps is quiet = absurd cc
settled_call (Written x bytes r) ps is quiet = absurd cc
settled_call (Created x r) ps is quiet = absurd cc
settled_call (Removed x r) ps is quiet = absurd cc
settled_call (MadeParents x r) ps is quiet = absurd cc
settled_call (Protected x r) ps is quiet = absurd cc
settled_call (Started recipe logs command r) ps is quiet = absurd cc
settled_call (Waited r) ps is quiet = absurd cc
