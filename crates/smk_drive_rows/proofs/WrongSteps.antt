-- A wrong course of the same two jobs: a run that waits while one of them may start.
use Rattle.std.proofs.Common.{◌≡◌, ◌≢◌, ◌⊎◌, ℕ, Bool, true, false, List, [], ◌∷◌, ◌++◌, refl, sym, ap, subst, ◌∙◌, inl, inr, IsTrue, true≢false}
use Rattle.smk_world.specs.declared.event.Call.{Call}
use Rattle.smk_world.specs.declared.event.Call.TheVariants.{Looked, ReadFile, ReadFolder, Written, Created, Removed, MadeParents, Settled, Protected, Started, Waited}
use Rattle.smk_world.specs.declared.event.Change.{Change}
use Rattle.smk_world.specs.declared.event.Ended.{Ended}
use Rattle.smk_world.specs.declared.event.Event.{Event}
use Rattle.smk_world.specs.World.{World, run}
use Rattle.smk_world.specs.Devices.{AreLooks, is_look}
use Rattle.smk_world.specs.Requests.{HasDone, IsCutShort, Request, request}
use Rattle.smk_world.specs.Requests.Request.{ListFolder, Look, MakeParents, ReadUpTo, Remove, Settle, Wait}
use Rattle.smk_world.specs.Trees.{Path}
use Rattle.smk_store.specs.Steps.{make_each}
use Rattle.smk_run.specs.Closings.{wait_event}
use Rattle.smk_drive.specs.Moments.{is_spent_now, seen}
use Rattle.smk_drive_rows.proofs.Truth.{head_same, not_empty}
use Rattle.smk_drive_rows.proofs.CopyRow.{entry}
use Rattle.smk_drive_course.specs.Stands.{Stand, IsClear, moment_of}
use Rattle.smk_drive_course.specs.Steps.{AreRemoved, Deed, IsAsListed, NoMore, OneMore, calls_of}
use Rattle.smk_drive_course.specs.Breaks.{Begins, BeginsNot, BreaksOff, Closes, FailsToWait, Halts, Leaves, ReadsNot, Spends, SpendsNot, Step, Waits}
use Rattle.smk_drive_rows.proofs.SideRow.{rules, stand_a, until_a, world_a}

-- a wait is none of these
parents_waits : (p : Path) → Wait ≡ MakeParents p → ⊥
parents_waits p h = cc

settles_waits : (ps : List Path) → Wait ≡ Settle ps → ⊥
settles_waits ps h = cc

removes_waits : (p : Path) → Wait ≡ Remove p → ⊥
removes_waits p h = cc

look_waits : (p : Path) → Wait ≡ Look p → ⊥
look_waits p h = cc

read_waits : (p : Path) (limit : ℕ) → Wait ≡ ReadUpTo p limit → ⊥
read_waits p limit h = cc

list_waits : (p : Path) → Wait ≡ ListFolder p → ⊥
list_waits p h = cc

-- what begins with a mark or a settling doesn't begin with a wait
marks_first : (ms : List Path) (xs ys : List Request) (e : Event) (es : List Event) → Wait ≡ request e.call → HasDone (((make_each ms ++ Settle ms ∷ []) ++ xs) ++ ys) (e ∷ es) → ⊥
marks_first [] xs ys e es w h = settles_waits [] (w ∙ h.0)
marks_first (m ∷ ms) xs ys e es w h = parents_waits m (w ∙ h.0)

marks_cut : (ms : List Path) (xs ys : List Request) (e : Event) (es : List Event) → Wait ≡ request e.call → IsCutShort (((make_each ms ++ Settle ms ∷ []) ++ xs) ++ ys) (e ∷ es) → ⊥
marks_cut [] xs ys e [] w h = settles_waits [] (w ∙ h.0)
marks_cut [] xs ys e (f ∷ es) w h = settles_waits [] (w ∙ h.0)
marks_cut (m ∷ ms) xs ys e [] w h = parents_waits m (w ∙ h.0)
marks_cut (m ∷ ms) xs ys e (f ∷ es) w h = parents_waits m (w ∙ h.0)

abbrev CallsWait : Event → Type 0
CallsWait e = Wait ≡ request e.call

waits_on : (d e : Event) → CallsWait d → d ≡ e → CallsWait e
waits_on d e w same = w ∙ ap (λ (x : Event). request x.call) same

-- nor do looks
looks_wait : (call : Call) → is_look call ≡ true → Wait ≡ request call → ⊥
looks_wait (Looked p r) look h = look_waits p h
looks_wait (ReadFile p limit r) look h = read_waits p limit h
looks_wait (ReadFolder p r) look h = list_waits p h
looks_wait (Written p bytes r) look h = true≢false (sym look)
looks_wait (Created p r) look h = true≢false (sym look)
looks_wait (Removed p r) look h = true≢false (sym look)
looks_wait (MadeParents p r) look h = true≢false (sym look)
looks_wait (Settled ps r) look h = true≢false (sym look)
looks_wait (Protected p r) look h = true≢false (sym look)
looks_wait (Started recipe logs command r) look h = true≢false (sym look)
looks_wait (Waited r) look h = true≢false (sym look)

all_looks : (failure : Bool) (d : Event) (more : List Event) → AreLooks failure (d ∷ more) → CallsWait d → ⊥
all_looks failure d [] looks wait = looks_wait d.call looks.0 wait
all_looks failure d (e ∷ es) looks wait = looks_wait d.call looks.0 wait

looks_first :
    (failure : Bool) (reads rest more : List Event) (d : Event) →
    AreLooks failure reads → CallsWait d → (d ∷ more ≡ rest → ⊥) → d ∷ more ≡ reads ++ rest → ⊥
looks_first failure [] rest more d looks wait other h = other h
looks_first failure (e ∷ es) rest more d looks wait other h = all_looks failure e es looks (waits_on d e wait (head_same d e more (es ++ rest) h))

-- nor does what begins with a removal
removal_first :
    (s t : Stand) (w : World) (before : List Event) (paths : List Path) (removing later more : List Event) (d : Event) →
    AreRemoved rules s w before paths removing t → paths ≢ [] → CallsWait d → d ∷ more ≡ removing ++ later → ⊥
removal_first s t w before paths removing later more d (NoMore s1 w1 before1) some wait h = some refl
removal_first s t w before paths removing later more d (OneMore s1 t1 u1 w1 before1 p ps e es clear spent listed done planned rest) some wait h =
    removes_waits p (waits_on d e wait (head_same d e more (es ++ later) h) ∙ done.0)

failing_first :
    (s t : Stand) (w : World) (before : List Event) (paths : List Path) (removing more : List Event) (d failing : Event) →
    AreRemoved rules s w before paths removing t → CallsWait d → (CallsWait failing → ⊥) → d ∷ more ≡ removing ++ failing ∷ [] → ⊥
failing_first s t w before paths removing more d failing (NoMore s1 w1 before1) wait other h = other (waits_on d failing wait (head_same d failing more [] h))
failing_first s t w before paths removing more d failing (OneMore s1 t1 u1 w1 before1 p ps e es clear spent listed done planned rest) wait other h =
    removes_waits p (waits_on d e wait (head_same d e more (es ++ failing ∷ []) h) ∙ done.0)

removes_or_settles :
    (P Q R : Path → Type 0) (S : Type 0) (paths : List Path) (e : Event) →
    ((p : Path) × (request e.call ≡ Remove p) × P p × Q p × R p) ⊎ ((request e.call ≡ Settle paths) × S) → CallsWait e → ⊥
removes_or_settles P Q R S paths e (inl x) w = removes_waits x.0 (w ∙ x.1)
removes_or_settles P Q R S paths e (inr x) w = settles_waits paths (w ∙ x.0)

-- Where one of the two has begun and the other may start, no step begins with a wait.
pub waits_early :
    (ended : Ended) (left : List Change) (more : List Event) (deeds : List Deed) (t : Stand) →
    Step rules entry stand_a world_a until_a (wait_event ended left ∷ more) deeds t → ⊥
waits_early ended left more deeds t (Begins h) =
    looks_first false h.reads h.beginning more (wait_event ended left) h.only_read refl
    (λ same. marks_first _ _ _ (wait_event ended left) more refl (subst (λ es. HasDone (calls_of rules h.job.0) es) (sym same) h.calls)) h.events
waits_early ended left more deeds t (Closes h) = not_empty _ _ (h.none_left refl refl)
waits_early ended left more deeds t (Spends h) = removal_first stand_a h.last world_a until_a h.paths h.removing h.settling more (wait_event ended left) h.removed h.some refl h.events
waits_early ended left more deeds t (Halts h) = all_looks false (wait_event ended left) more h.only_read refl
waits_early ended left more deeds t (Leaves h) = not_empty _ _ (h.none_left refl refl)
waits_early ended left more deeds t (BreaksOff h) = not_empty _ _ (h.none_left refl refl)
waits_early ended left more deeds t (ReadsNot h) = all_looks true (wait_event ended left) more h.reads refl
waits_early ended left more deeds t (BeginsNot h) =
    looks_first false h.reads h.beginning more (wait_event ended left) h.only_read refl
    (λ same. marks_cut _ _ _ (wait_event ended left) more refl (subst (λ es. IsCutShort (calls_of rules h.job.0) es) (sym same) h.calls)) h.events
waits_early ended left more deeds t (SpendsNot h) =
    failing_first stand_a h.last world_a until_a h.paths h.removing more (wait_event ended left) h.failing h.removed refl (removes_or_settles (λ p. IsClear rules h.last (run world_a h.removing) (until_a ++ h.removing))
    (λ p. IsTrue (is_spent_now rules (moment_of h.last (run world_a h.removing) (until_a ++ h.removing)) p)) (IsAsListed (seen rules (run world_a h.removing))) (h.paths ≢ []) h.paths h.failing h.called) h.events
waits_early ended left more deeds t (Waits h) = true≢false (sym h.broken)
waits_early ended left more deeds t (FailsToWait h) = not_empty _ _ (h.none_left refl refl)
