-- Which statuses waits tell.
use Rattle.std.specs.Prelude.{◌≡◌, ◌≢◌, List, [], ◌∷◌, Some, Ok}
use Rattle.smk_base.specs.declared.tree.Tree.{Tree}
use Rattle.smk_world.specs.declared.event.Call.{Call}
use Rattle.smk_world.specs.declared.event.Call.TheVariants.{Waited}
use Rattle.smk_world.specs.declared.event.Child.{Child}
use Rattle.smk_world.specs.declared.event.Event.{Event}
use Rattle.smk_world.specs.World.{World, after, child_numbered}
use Rattle.smk_world.specs.Calls.{ContentsAre, Rose}
use Rattle.smk_world.specs.Devices.{Device}
use Rattle.smk_world.specs.Runs.{Did}
use Rattle.smk_world.specs.Trees.{Act}

-- Where the call is a wait that told of the end of a child, it told the status that the child's command gives on what stood at its inputs; or this
-- holds.
abbrev pub IsGiven : Act → Type 0 → World → Call → Type 0
IsGiven act rose w (Waited (Ok ended)) =
    (c : Child) → child_numbered ended.number w.children ≡ Some c → (trees : List Tree) → ContentsAre w c.recipe trees
    → ended.status ≢ (act c.recipe trees).status → rose
IsGiven act rose w call = Unit {0}

-- so of each of these events
abbrev pub AreGiven : Act → Type 0 → World → List Event → Type 0
AreGiven act rose w [] = Unit {0}
AreGiven act rose w (e ∷ es) = IsGiven act rose w e.call × AreGiven act rose (after w e) es

-- Each status that a wait told meanwhile is the one that the child's command gives, or the count of faults rose.
abbrev pub HasGiven : Act → Device → Device → Type 0
HasGiven act old new = Did act old.world new.world (AreGiven act (Rose old.faults new.faults))
