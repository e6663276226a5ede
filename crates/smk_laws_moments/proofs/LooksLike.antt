-- Looks leave what stands where, and the children that run.
use Rattle.std.proofs.Common.{◌≡◌, ℕ, Bool, true, false, List, [], ◌∷◌, map, refl, sym, ap, ◌∙◌, Ok, Err, true≢false}
use Rattle.smk_world.specs.declared.event.Call.{Call}
use Rattle.smk_world.specs.declared.event.Call.TheVariants.{Looked, ReadFile, ReadFolder, Written, Created, Removed, MadeParents, Settled, Protected, Started, Waited}
use Rattle.smk_world.specs.declared.event.Change.{Change}
use Rattle.smk_world.specs.declared.event.Event.{Event}
use Rattle.smk_world.specs.World.{World, add_names, after, run}
use Rattle.smk_world.specs.Calls.{Lets}
use Rattle.smk_world.specs.Devices.{AreLooks, is_look}
use Rattle.smk_world.specs.Runs.{Follows}
use Rattle.smk_world.specs.Trees.{Act}

-- the same stands where, and the same children run
abbrev pub IsLike : World → World → Type 0
IsLike w v = (w.names ≡ v.names) × (w.nodes ≡ v.nodes) × (w.children ≡ v.children)

pub like_then : (w v u : World) → IsLike w v → IsLike v u → IsLike w u
like_then w v u a b = (a.0 ∙ b.0, a.1 ∙ b.1, a.2 ∙ b.2)

-- a look is let to leave nothing
pub looks_leave_none : (act : Act) (w : World) (call : Call) (left : List Change) → is_look call ≡ true → Lets act w call left → left ≡ []
looks_leave_none act w (Looked p (Ok s)) left look lets = lets.0
looks_leave_none act w (Looked p (Err e)) left look lets = lets
looks_leave_none act w (ReadFile p limit (Ok f)) left look lets = lets.0
looks_leave_none act w (ReadFile p limit (Err e)) left look lets = lets
looks_leave_none act w (ReadFolder p (Ok listing)) left look lets = lets.0
looks_leave_none act w (ReadFolder p (Err e)) left look lets = lets
looks_leave_none act w (Written p bytes r) left look lets = absurd (true≢false (sym look))
looks_leave_none act w (Created p r) left look lets = absurd (true≢false (sym look))
looks_leave_none act w (Removed p r) left look lets = absurd (true≢false (sym look))
looks_leave_none act w (MadeParents p r) left look lets = absurd (true≢false (sym look))
looks_leave_none act w (Settled ps r) left look lets = absurd (true≢false (sym look))
looks_leave_none act w (Protected p r) left look lets = absurd (true≢false (sym look))
looks_leave_none act w (Started recipe logs command r) left look lets = absurd (true≢false (sym look))
looks_leave_none act w (Waited r) left look lets = absurd (true≢false (sym look))

abbrev named : World → List Change → List (List ℕ)
named w left = add_names (map (λ (c : Change). c.place) left) w.names

like_look : (w : World) (call : Call) (left : List Change) → is_look call ≡ true → left ≡ [] → IsLike w (after w (record { call = call; left = left }))
like_look w (Looked p r) left look none = (sym (ap (named w) none), refl, refl)
like_look w (ReadFile p limit r) left look none = (sym (ap (named w) none), refl, refl)
like_look w (ReadFolder p r) left look none = (sym (ap (named w) none), refl, refl)
like_look w (Written p bytes r) left look none = absurd (true≢false (sym look))
like_look w (Created p r) left look none = absurd (true≢false (sym look))
like_look w (Removed p r) left look none = absurd (true≢false (sym look))
like_look w (MadeParents p r) left look none = absurd (true≢false (sym look))
like_look w (Settled ps r) left look none = absurd (true≢false (sym look))
like_look w (Protected p r) left look none = absurd (true≢false (sym look))
like_look w (Started recipe logs command r) left look none = absurd (true≢false (sym look))
like_look w (Waited r) left look none = absurd (true≢false (sym look))

one_look : (act : Act) (w : World) (e : Event) → is_look e.call ≡ true → Lets act w e.call e.left → IsLike w (after w e)
one_look act w e look lets = like_look w e.call e.left look (looks_leave_none act w e.call e.left look lets)

pub like_looks : (act : Act) (failure : Bool) (w : World) (es : List Event) → AreLooks failure es → Follows act w es → IsLike w (run w es)
like_looks act failure w [] are follows = (refl, refl, refl)
like_looks act failure w (e ∷ []) are follows = one_look act w e are.0 follows.0.lets
like_looks act failure w (e ∷ (f ∷ es)) are follows =
    like_then w (after w e) (run (after w e) (f ∷ es)) (one_look act w e are.0 follows.0.lets) (like_looks act failure (after w e) (f ∷ es) are.2 follows.1)
