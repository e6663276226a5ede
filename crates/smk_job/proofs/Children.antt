-- Calls that neither start a child nor wait for one leave the children as they are.
use Rattle.std.proofs.Common.{◌≡◌, Bool, true, false, List, [], ◌∷◌, ◌++◌, refl, ap, ◌∙◌, true≢false}
use Rattle.smk_world.specs.declared.event.Call.{Call}
use Rattle.smk_world.specs.declared.event.Call.TheVariants.{Looked, ReadFile, ReadFolder, Written, Created, Removed, MadeParents, Settled, Protected, Started, Waited}
use Rattle.smk_world.specs.declared.event.Child.{Child}
use Rattle.smk_world.specs.declared.event.Event.{Event}
use Rattle.smk_world.specs.World.{World, after, run, children_after}
use Rattle.smk_world.specs.Requests.{Request, request, HasDone}
use Rattle.smk_world.specs.Requests.Request.{Start, Wait, Settle}
use Rattle.smk_world.specs.Trees.{Path, Each}
use Rattle.smk_store.specs.declared.places.JobPlaces.{JobPlaces}
use Rattle.smk_store.specs.Steps.{make_each, remove_each, write_each, mark_requests, drop_requests}
use Rattle.smk_job.specs.Jobs.{parents_each, clear_requests, put_all_requests, drop_all_requests}

abbrev pub is_crew : Request → Bool
is_crew (Start recipe logs command) = true
is_crew Wait = true
is_crew r = false

abbrev pub AreFiles : List Request → Type 0
AreFiles rs = Each (λ (r : Request). is_crew r ≡ false) rs

pub children_by : (call : Call) (cs : List Child) → is_crew (request call) ≡ false → children_after call cs ≡ cs
children_by (Looked p r) cs h = refl
children_by (ReadFile p limit r) cs h = refl
children_by (ReadFolder p r) cs h = refl
children_by (Written p bytes r) cs h = refl
children_by (Created p r) cs h = refl
children_by (Removed p r) cs h = refl
children_by (MadeParents p r) cs h = refl
children_by (Settled ps r) cs h = refl
children_by (Protected p r) cs h = refl
children_by (Started recipe logs command r) cs h = absurd (true≢false h)
children_by (Waited r) cs h = absurd (true≢false h)

pub done_children : (rs : List Request) (w : World) (es : List Event) → AreFiles rs → HasDone rs es → (run w es).children ≡ w.children
done_children [] w [] k h = refl
done_children [] w (e ∷ es) k h = absurd h
done_children (r ∷ rs) w [] k h = absurd h
done_children (r ∷ rs) w (e ∷ es) k h = done_children rs (after w e) es k.1 h.2 ∙ children_by e.call w.children (ap is_crew h.0 ∙ k.0)

-- ## The steps are such calls

pub files_append : (rs qs : List Request) → AreFiles rs → AreFiles qs → AreFiles (rs ++ qs)
files_append [] qs h k = k
files_append (r ∷ rs) qs h k = (h.0, files_append rs qs h.1 k)

pub remove_files : (ps : List Path) → AreFiles (remove_each ps)
remove_files [] = tt
remove_files (p ∷ ps) = (refl, remove_files ps)

pub parents_files : (ps : List Path) → AreFiles (parents_each ps)
parents_files [] = tt
parents_files (p ∷ ps) = (refl, parents_files ps)

pub make_files : (ps : List Path) → AreFiles (make_each ps)
make_files [] = tt
make_files (p ∷ ps) = (refl, (refl, make_files ps))

pub write_files : (ps : List Path) (bs : List Path) → AreFiles (write_each ps bs)
write_files [] bs = tt
write_files (p ∷ ps) [] = tt
write_files (p ∷ ps) (b ∷ bs) = (refl, (refl, write_files ps bs))

pub mark_files : (places : JobPlaces) → AreFiles (mark_requests places)
mark_files places = files_append (make_each places.marking) (Settle places.marking ∷ []) (make_files places.marking) (refl, tt)

pub clear_files : (outputs owned : List Path) → AreFiles (clear_requests outputs owned)
clear_files outputs owned = files_append (remove_each outputs) (parents_each owned) (remove_files outputs) (parents_files owned)

pub put_files : (places : JobPlaces) (bytes : List Path) → AreFiles (put_all_requests places bytes)
put_files places bytes = (refl, files_append (write_each places.records bytes) (Settle places.records ∷ []) (write_files places.records bytes) (refl, tt))

pub drop_files : (places : JobPlaces) → AreFiles (drop_all_requests places)
drop_files places =
    files_append (remove_each places.outputs) (drop_requests places) (remove_files places.outputs)
    (files_append (remove_each places.records) (Settle places.dropping ∷ []) (remove_files places.records) (refl, tt))
