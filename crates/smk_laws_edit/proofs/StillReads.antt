-- Where a call changes nothing the same reads after it.
use Rattle.std.specs.Prelude.{if◌then◌else◌}
use Rattle.std.proofs.Common.{◌≡◌, Bool, true, false, ◌&&◌, ◌||◌, not, List, refl, sym, ap, inl, inr, bytes_eq, Option, Some, None, Ok, Err, is_some, true≢false}
use Rattle.smk_base.specs.Path.{is_at_or_under, is_under}
use Rattle.smk_world.specs.Calls.{Lets, MayRemain}
use Rattle.smk_world.specs.Trees.{Act, Path}
use Rattle.smk_world.specs.World.{World, firm, going, is_above, is_within, loose, node_after, owned_by, owned_paths, reading, reads_folder, reads_nothing, standing, with_flag, with_folder}
use Rattle.smk_world.specs.declared.event.Call.TheVariants.{Created, Looked, MadeParents, Protected, ReadFile, ReadFolder, Removed, Settled, Started, Waited, Written}
use Rattle.smk_world.specs.declared.event.Call.{Call}
use Rattle.smk_world.specs.declared.event.Change.{Change}
use Rattle.smk_world.specs.declared.event.Node.{Node}
use Rattle.smk_world.specs.declared.event.NodeState.TheVariants.{Known, Owned}
use Rattle.smk_world.specs.declared.event.NodeState.{NodeState}
use Rattle.smk_drive.specs.Moments.{changes_at}
use Rattle.smk_cli_target.proofs.SparedWorlds.{firm_reads}

unless_so : (b : Bool) (s t : NodeState) → b ≡ false → reading (if b then t else s) ≡ reading s
unless_so true s t h = absurd (true≢false h)
unless_so false s t h = refl

settled_so : (b : Bool) (s : NodeState) → reading (if b then firm s else s) ≡ reading s
settled_so true s = firm_reads s
settled_so false s = refl

created_so : (s : NodeState) (b : Bool) (n : Option Node) → (reads_nothing s && (b && is_some n)) ≡ false → reading (if reads_nothing s && b then loose n s else s) ≡ reading s
created_so Owned b n h = refl
created_so (Known (Some m) besides) b n h = refl
created_so (Known None besides) false n h = refl
created_so (Known None besides) true None h = refl
created_so (Known None besides) true (Some m) h = absurd (true≢false h)

removed_so : (s : NodeState) (b : Bool) (n : Option Node) → (b ≡ true → MayRemain n s) → (b && not (reads_nothing s)) ≡ false → reading (if b then going n s else s) ≡ reading s
removed_so s false n may h = refl
removed_so Owned true n may h = absurd (true≢false h)
removed_so (Known (Some m) besides) true n may h = absurd (true≢false h)
removed_so (Known None besides) true n may h = go (may refl)
  where
    go : MayRemain n (Known None besides) → reading (going n (Known None besides)) ≡ None
    go (inl none) = none
    go (inr same) = sym same

made_so : (s : NodeState) (b : Bool) → (b && reads_nothing s) ≡ false → reading (if b then with_folder s else s) ≡ reading s
made_so s false h = refl
made_so Owned true h = refl
made_so (Known (Some m) besides) true h = refl
made_so (Known None besides) true h = absurd (true≢false h)

turned : (some under none : Bool) → (under && (none && some)) ≡ false → ((some && under) && none) ≡ false
turned true true true h = absurd (true≢false h)
turned true true false h = refl
turned true false none h = refl
turned false under none h = refl

pub still_reads :
    (act : Act) (w : World) (left : List Change) (q : Path) (c : Call) → Lets act w c left → changes_at c w left q ≡ false →
    reading (node_after c left w.children q (w.nodes q)) ≡ reading (w.nodes q)
still_reads act w left q (Looked p r) lets h = refl
still_reads act w left q (ReadFile p limit r) lets h = refl
still_reads act w left q (ReadFolder p r) lets h = refl
still_reads act w left q (Written p bytes r) lets h = unless_so (bytes_eq q p) (w.nodes q) (loose (standing left q) (w.nodes q)) h
still_reads act w left q (Created p (Ok made)) lets h = unless_so (made && bytes_eq q p) (w.nodes q) (loose (standing left q) (w.nodes q)) h
still_reads act w left q (Created p (Err e)) lets h = created_so (w.nodes q) (bytes_eq q p) (standing left q) h
still_reads act w left q (Removed p (Ok u)) lets h = removed_so (w.nodes q) (is_at_or_under q p) (standing left q) (λ b. inl (ap (λ l. standing l q) lets)) h
still_reads act w left q (Removed p (Err e)) lets h = removed_so (w.nodes q) (is_at_or_under q p) (standing left q) (λ b. lets q b) h
still_reads act w left q (MadeParents p (Ok u)) lets h = made_so (w.nodes q) (is_under p q) h
still_reads act w left q (MadeParents p (Err e)) lets h =
    made_so (w.nodes q) (is_some (standing left q) && is_under p q) (turned (is_some (standing left q)) (is_under p q) (reads_nothing (w.nodes q)) h)
still_reads act w left q (Settled ps (Ok u)) lets h = settled_so (is_within q ps || (is_above q ps && reads_folder (w.nodes q))) (w.nodes q)
still_reads act w left q (Settled ps (Err e)) lets h = refl
still_reads act w left q (Protected p (Ok u)) lets h = unless_so (bytes_eq q p) (w.nodes q) (with_flag (w.nodes q)) h
still_reads act w left q (Protected p (Err e)) lets h = unless_so (bytes_eq q p) (w.nodes q) (going (standing left q) (with_flag (w.nodes q))) h
still_reads act w left q (Started recipe logs command (Ok n)) lets h = unless_so (is_within q (owned_paths recipe logs)) (w.nodes q) Owned h
still_reads act w left q (Started recipe logs command (Err e)) lets h = refl
still_reads act w left q (Waited (Ok ended)) lets h = unless_so (is_within q (owned_by ended.number w.children)) (w.nodes q) _ h
still_reads act w left q (Waited (Err e)) lets h = refl
