-- A wrong opening: a mark of an earlier run is left as it is.
use Rattle.std.proofs.Common.{◌≡◌, true, false, List, [], ◌∷◌, ◌++◌, codes, refl, sym, ap, subst, ◌∙◌, Ok, Result, true≢false}
use Rattle.smk_base.specs.Place.{mark_place}
use Rattle.smk_world.specs.declared.event.Call.{Call}
use Rattle.smk_world.specs.declared.event.Call.TheVariants.{Looked, ReadFile, ReadFolder, Written, Created, Removed, MadeParents, Settled, Protected, Started, Waited}
use Rattle.smk_world.specs.declared.event.Event.{Event}
use Rattle.smk_world.specs.declared.event.Node.TheVariants.{Regular}
use Rattle.smk_world.specs.World.{World, Nodes, world_of}
use Rattle.smk_world.specs.Devices.{AreLooks, is_look}
use Rattle.smk_world.specs.Requests.{HasDone, request}
use Rattle.smk_world.specs.Requests.Request.{Settle}
use Rattle.smk_world.specs.Trees.{Path}
use Rattle.smk_keep.specs.declared.fault.KeepFault.{KeepFault}
use Rattle.smk_drive.specs.Moments.{seen}
use Rattle.smk_drive.proofs.Turns.{event}
use Rattle.smk_drive_rows.proofs.Truth.{head_same}
use Rattle.smk_drive_course.specs.Driven.{HasSigns, IsOpening, LacksMemory, LoadingFails, LooksFail, Opens, SettlingFails}
use Rattle.smk_drive_rows.proofs.SideRow.{rules}

-- the folder has a mark of `out.txt`, and nothing else
abbrev marked : Nodes
marked = (mark_place (codes "out.txt"), Regular [] 1000 false) ∷ []

abbrev pub found : World
found = world_of marked

-- nothing is made firm
abbrev nothing : Event
nothing = event (Settled [] (Ok tt)) []

look_settles : (call : Call) (ps : List Path) → is_look call ≡ true → request call ≡ Settle ps → ⊥
look_settles (Looked p r) ps h is = cc
look_settles (ReadFile p limit r) ps h is = cc
look_settles (ReadFolder p r) ps h is = cc
look_settles (Written p bytes r) ps h is = true≢false (sym h)
look_settles (Created p r) ps h is = true≢false (sym h)
look_settles (Removed p r) ps h is = true≢false (sym h)
look_settles (MadeParents p r) ps h is = true≢false (sym h)
look_settles (Settled qs r) ps h is = true≢false (sym h)
look_settles (Protected p r) ps h is = true≢false (sym h)
look_settles (Started recipe logs command r) ps h is = true≢false (sym h)
look_settles (Waited r) ps h is = true≢false (sym h)

first_look : (e : Event) (es : List Event) → AreLooks false (e ∷ es) → is_look e.call ≡ true
first_look e [] h = h.0
first_look e (f ∷ es) h = h.0

same_places : (ps qs : List Path) → Settle ps ≡ Settle qs → ps ≡ qs
same_places ps qs h = cc

-- an opening of one settling makes all marks and notes firm with it
one_settling : (loading settling looks : List Event) (places : List Path) → AreLooks false loading → HasSigns (seen rules found) places → HasDone (Settle places ∷ []) settling
    → nothing ∷ [] ≡ loading ++ (settling ++ looks) → HasSigns (seen rules found) []
one_settling (l ∷ loading) settling looks places loaded signs done h =
    absurd (look_settles l.call [] (first_look l loading loaded) (sym (ap (λ (e : Event). request e.call) (head_same nothing l [] (loading ++ (settling ++ looks)) h))))
one_settling [] [] looks places loaded signs done h = absurd done
one_settling [] (e ∷ settling) looks places loaded signs done h =
    let same = ap (λ (x : Event). request x.call) (head_same nothing e [] (settling ++ looks) h) ∙ done.0 in
    subst (HasSigns (seen rules found)) (sym (same_places [] places same)) signs

opens_so : (answer : Result (Unit {0}) KeepFault) (es : List Event) → IsOpening rules found answer es → answer ≡ Ok tt → es ≡ nothing ∷ [] → HasSigns (seen rules found) []
opens_so answer es (Opens loading settling looks places loaded signs done looked) is h = one_settling loading settling looks places loaded signs done (sym h)
opens_so answer es (LacksMemory loading loaded) is h = cc
opens_so answer es (LoadingFails loading loaded) is h = cc
opens_so answer es (SettlingFails loading settling places loaded signs cut) is h = cc
opens_so answer es (LooksFail loading settling looks places loaded signs done looked) is h = cc

-- So an opening that makes nothing firm there is none.
pub loose_mark : IsOpening rules found (Ok tt) (nothing ∷ []) → ⊥
loose_mark h = true≢false (sym ((opens_so (Ok tt) (nothing ∷ []) h refl refl).marks (codes "out.txt") refl))
