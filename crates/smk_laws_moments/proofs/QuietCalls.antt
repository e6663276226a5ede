-- Calls that start no child and wait for none leave the children: those that begin and close a job, and those that guard its outputs.
use Rattle.std.proofs.Common.{◌≡◌, ◌≢◌, ℕ, Bool, true, false, List, [], ◌∷◌, ◌++◌, refl, sym, subst, ◌∙◌, Result, true≢false}
use Rattle.smk_world.specs.declared.event.Call.{Call}
use Rattle.smk_world.specs.declared.event.Call.TheVariants.{Looked, ReadFile, ReadFolder, Written, Created, Removed, MadeParents, Settled, Protected, Started as StartedCall, Waited}
use Rattle.smk_world.specs.declared.event.Child.{Child}
use Rattle.smk_world.specs.declared.event.Event.{Event}
use Rattle.smk_world.specs.World.{World, after, children_after, run}
use Rattle.smk_world.specs.Calls.{started_number}
use Rattle.smk_world.specs.Devices.{AreLooks, is_look}
use Rattle.smk_world.specs.Requests.{Request, request}
use Rattle.smk_world.specs.Requests.Request.{Look, ReadUpTo, ListFolder, Write, Create, Remove, MakeParents, Settle, Protect, Start, Wait}
use Rattle.smk_world.specs.Trees.{Each, Path}
use Rattle.smk_record.specs.declared.record.Member.{Member}
use Rattle.smk_store.specs.declared.places.JobPlaces.{JobPlaces}
use Rattle.smk_store.specs.Steps.{drop_requests, make_each, mark_requests, remove_each, unmark_requests, write_each}
use Rattle.smk_job.specs.Jobs.{Underway, abandon_requests, bytes_with, clear_requests, finish_requests, parents_each, places}
use Rattle.smk_keep.specs.Keeping.{protect_each, protect_requests}
use Rattle.smk_keep.specs.declared.fault.KeepFault.{KeepFault}
use Rattle.smk_run.proofs.Calls.{EachCall, OfClosing, cut_each, done_each, each_append}
use Rattle.smk_drive_course.specs.Steps.{GuardingFails, HasGuarded, IsTended, LooksFail, Tended, Unguarded}

-- ## Calls that leave the children

-- it starts no child and waits for none
abbrev pub IsQuiet : Request → Type 0
IsQuiet (Look p) = Unit {0}
IsQuiet (ReadUpTo p limit) = Unit {0}
IsQuiet (ListFolder p) = Unit {0}
IsQuiet (Write p bytes) = Unit {0}
IsQuiet (Create p) = Unit {0}
IsQuiet (Remove p) = Unit {0}
IsQuiet (MakeParents p) = Unit {0}
IsQuiet (Settle ps) = Unit {0}
IsQuiet (Protect p) = Unit {0}
IsQuiet (Start recipe logs command) = ⊥
IsQuiet Wait = ⊥

pub quiet_children : (call : Call) (cs : List Child) → IsQuiet (request call) → children_after call cs ≡ cs
quiet_children (Looked p r) cs h = refl
quiet_children (ReadFile p limit r) cs h = refl
quiet_children (ReadFolder p r) cs h = refl
quiet_children (Written p bytes r) cs h = refl
quiet_children (Created p r) cs h = refl
quiet_children (Removed p r) cs h = refl
quiet_children (MadeParents p r) cs h = refl
quiet_children (Settled ps r) cs h = refl
quiet_children (Protected p r) cs h = refl
quiet_children (StartedCall recipe logs command r) cs h = absurd h
quiet_children (Waited r) cs h = absurd h

pub quiet_number : (call : Call) → IsQuiet (request call) → started_number call ≡ []
quiet_number (Looked p r) h = refl
quiet_number (ReadFile p limit r) h = refl
quiet_number (ReadFolder p r) h = refl
quiet_number (Written p bytes r) h = refl
quiet_number (Created p r) h = refl
quiet_number (Removed p r) h = refl
quiet_number (MadeParents p r) h = refl
quiet_number (Settled ps r) h = refl
quiet_number (Protected p r) h = refl
quiet_number (StartedCall recipe logs command r) h = absurd h
quiet_number (Waited r) h = absurd h

quiet_look : (call : Call) → is_look call ≡ true → IsQuiet (request call)
quiet_look (Looked p r) h = tt
quiet_look (ReadFile p limit r) h = tt
quiet_look (ReadFolder p r) h = tt
quiet_look (Written p bytes r) h = tt
quiet_look (Created p r) h = tt
quiet_look (Removed p r) h = tt
quiet_look (MadeParents p r) h = tt
quiet_look (Settled ps r) h = tt
quiet_look (Protected p r) h = tt
quiet_look (StartedCall recipe logs command r) h = absurd (true≢false (sym h))
quiet_look (Waited r) h = absurd (true≢false (sym h))

pub quiet_run : (w : World) (es : List Event) → EachCall IsQuiet es → (run w es).children ≡ w.children
quiet_run w [] h = refl
quiet_run w (e ∷ es) h = quiet_run (after w e) es h.1 ∙ quiet_children e.call w.children h.0

pub looks_quiet : (failure : Bool) (es : List Event) → AreLooks failure es → EachCall IsQuiet es
looks_quiet failure [] h = tt
looks_quiet failure (e ∷ []) h = (quiet_look e.call h.0, tt)
looks_quiet failure (e ∷ (f ∷ es)) h = (quiet_look e.call h.0, looks_quiet failure (f ∷ es) h.2)

pub calls_more : (es fs : List Event) → EachCall IsQuiet es → EachCall IsQuiet fs → EachCall IsQuiet (es ++ fs)
calls_more es fs a b = each_append (λ (e : Event). IsQuiet (request e.call)) es fs a b

-- ## Lists of requests

pub more : (rs qs : List Request) → Each IsQuiet rs → Each IsQuiet qs → Each IsQuiet (rs ++ qs)
more rs qs a b = each_append IsQuiet rs qs a b

makes_quiet : (ps : List Path) → Each IsQuiet (make_each ps)
makes_quiet [] = tt
makes_quiet (p ∷ ps) = (tt, (tt, makes_quiet ps))

removes_quiet : (ps : List Path) → Each IsQuiet (remove_each ps)
removes_quiet [] = tt
removes_quiet (p ∷ ps) = (tt, removes_quiet ps)

parents_quiet : (ps : List Path) → Each IsQuiet (parents_each ps)
parents_quiet [] = tt
parents_quiet (p ∷ ps) = (tt, parents_quiet ps)

protects_quiet : (ps : List Path) → Each IsQuiet (protect_each ps)
protects_quiet [] = tt
protects_quiet (p ∷ ps) = (tt, protects_quiet ps)

writes_quiet : (ps : List Path) (bytes : List (List ℕ)) → Each IsQuiet (write_each ps bytes)
writes_quiet [] bytes = tt
writes_quiet (p ∷ ps) [] = tt
writes_quiet (p ∷ ps) (b ∷ bytes) = (tt, (tt, writes_quiet ps bytes))

pub marks_quiet : (at : JobPlaces) → Each IsQuiet (mark_requests at)
marks_quiet at = more (make_each at.marking) (Settle at.marking ∷ []) (makes_quiet at.marking) (tt, tt)

pub clears_quiet : (outputs owned : List Path) → Each IsQuiet (clear_requests outputs owned)
clears_quiet outputs owned = more (remove_each outputs) (parents_each owned) (removes_quiet outputs) (parents_quiet owned)

unmarks_quiet : (at : JobPlaces) → Each IsQuiet (unmark_requests at)
unmarks_quiet at = more (remove_each at.marks) (Settle at.marks ∷ []) (removes_quiet at.marks) (tt, tt)

finish_quiet : (j : Underway) (members : List (List Member)) → Each IsQuiet (finish_requests j members)
finish_quiet j members =
    let bytes = bytes_with j _ members in
    more (Settle (places j).outputs ∷ (write_each (places j).records bytes ++ Settle (places j).records ∷ [])) (unmark_requests (places j))
    (tt, more (write_each (places j).records bytes) (Settle (places j).records ∷ []) (writes_quiet (places j).records bytes) (tt, tt)) (unmarks_quiet (places j))

abandon_quiet : (j : Underway) → Each IsQuiet (abandon_requests j)
abandon_quiet j =
    more (remove_each (places j).outputs ++ drop_requests (places j)) (unmark_requests (places j))
    (more (remove_each (places j).outputs) (drop_requests (places j)) (removes_quiet (places j).outputs)
    (more (remove_each (places j).records) (Settle (places j).dropping ∷ []) (removes_quiet (places j).records) (tt, tt))) (unmarks_quiet (places j))

protect_quiet : (ps : List Path) → Each IsQuiet (protect_requests ps)
protect_quiet ps = more (protect_each ps) (Settle ps ∷ []) (protects_quiet ps) (tt, tt)

pub closing_quiet : (j : Underway) → OfClosing IsQuiet j
closing_quiet j =
    record { looks = record { look = λ p. tt; read = λ p limit. tt; listed = λ p. tt }; finish = finish_quiet j; abandon = abandon_quiet j }

guards_quiet : (guards : List Path) (es : List Event) → HasGuarded guards es → EachCall IsQuiet es
guards_quiet [] es h = subst (EachCall IsQuiet) (sym h) tt
guards_quiet (p ∷ guards) es h = done_each IsQuiet (protect_requests (p ∷ guards)) es (protect_quiet (p ∷ guards)) h

pub tended_quiet : (guards : List Path) (answer : Result (Unit {0}) KeepFault) (es : List Event) → IsTended guards answer es → EachCall IsQuiet es
tended_quiet guards answer es (Tended guarding looks guarded looked) = calls_more guarding looks (guards_quiet guards guarding guarded) (looks_quiet false looks looked)
tended_quiet guards answer es Unguarded = tt
tended_quiet guards answer es (GuardingFails guarding cut) = cut_each IsQuiet (protect_requests guards) guarding (protect_quiet guards) cut
tended_quiet guards answer es (LooksFail guarding looks guarded looked) = calls_more guarding looks (guards_quiet guards guarding guarded) (looks_quiet true looks looked)
