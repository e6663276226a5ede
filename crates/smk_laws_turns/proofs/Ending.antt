-- The folder once a child was waited for and its job closed, and once its outputs were made read-only too.
use Rattle.std.proofs.Common.{◌≡◌, inl, inr, Bool, true, false, List, [], ◌∷◌, ◌++◌, None, Result, is_ok, sym, subst, ◌∙◌, true≢false}
use Rattle.smk_base.specs.Path.{is_at_or_under, is_path}
use Rattle.smk_base.specs.Place.{mark_place, record_place}
use Rattle.smk_base.proofs.Apart.{path-mark, path-record}
use Rattle.smk_base.proofs.Under.{or_cases, or_first, or_second}
use Rattle.smk_world.specs.declared.event.Call.{Call}
use Rattle.smk_world.specs.declared.event.Call.TheVariants.{Looked, ReadFile, ReadFolder, Written, Created}
use Rattle.smk_world.specs.declared.event.Call.TheVariants.{Removed, MadeParents, Settled, Protected, Started, Waited}
use Rattle.smk_world.specs.declared.event.Change.{Change}
use Rattle.smk_world.specs.declared.event.Ended.{Ended}
use Rattle.smk_world.specs.declared.event.Event.{Event}
use Rattle.smk_world.specs.Calls.{HasOwners, HoldsBytes, Reads}
use Rattle.smk_world.specs.Devices.{AreLooks, is_look}
use Rattle.smk_world.specs.Requests.{Request, request}
use Rattle.smk_world.specs.Requests.Request.{Look, ReadUpTo, ListFolder, Write, Create, Remove, MakeParents, Settle, Protect, Start, Wait}
use Rattle.smk_world.specs.Runs.{Follows}
use Rattle.smk_world.specs.Trees.{Act, IsIn, Path}
use Rattle.smk_world.specs.World.{World, after, is_within, out_paths, owned_paths, run}
use Rattle.smk_world.proofs.Runs.{run_append}
use Rattle.smk_flow.specs.declared.job.Job.{Job}
use Rattle.smk_record.specs.Spelling.{ReadsRecords}
use Rattle.smk_laws_plan.proofs.CurrentLists.{in_left}
use Rattle.smk_laws_protocol.proofs.Basics.{each_in}
use Rattle.smk_keep.specs.Keeping.{protect_requests}
use Rattle.smk_keep.specs.declared.fault.KeepFault.{KeepFault}
use Rattle.smk_job.specs.Jobs.{Underway, bytes_with}
use Rattle.smk_job.specs.declared.fault.CloseFault.TheVariants as close
use Rattle.smk_job.proofs.Single.{IsKnown}
use Rattle.smk_safe.proofs.Kept.{AreDifferent}
use Rattle.smk_run.specs.declared.ending.Ending.{Ending as End}
use Rattle.smk_run.specs.declared.ending.Ending.TheVariants.{Good, Status, NoOutput, WrongKind, BadMember}
use Rattle.smk_run.specs.Closings.{IsClosedBy, wait_event}
use Rattle.smk_run.proofs.Calls.{EachCall, done_each, each_append}
use Rattle.smk_drive.specs.Moments.{Rules}
use Rattle.smk_drive_course.specs.Stands.{Stand}
use Rattle.smk_drive_course.specs.Steps.{Deed, GuardingFails, HasGuarded, IsTended, IsWaitFor, LooksFail, Tended, Unguarded, guards_of}
use Rattle.smk_laws_turns.specs.Hubs.{IsAt, Parts}
use Rattle.smk_laws_turns.specs.Closed.{IsClosedFor}
use Rattle.smk_laws_turns.proofs.ClosedCalls.{IsOf, all_keep}
use Rattle.smk_laws_turns.proofs.Touched.{AreAmong, closing_of, guards_of_outs, outs_in, touched}
use Rattle.smk_laws_turns.proofs.FolderLeaving.{HasLost, hold_on}
use Rattle.smk_laws_turns.proofs.FolderClosing.{IsKeptSo, Kept, LeavesSo, Lost, abandoned_so, finished_so, wrong_so}
use Rattle.smk_laws_turns.proofs.ClosedFor.{closed_for, differ, going_is, outs, paths}
use Rattle.smk_laws_turns.proofs.FolderWaiting.{known_then, marks_known, records_known}
use Rattle.smk_laws_turns.proofs.Staff.{IsChildOfJob, job_of}

-- ## Calls at more places

of_more : (ps qs : List Path) → AreAmong ps qs → (r : Request) → IsOf ps r → IsOf qs r
of_more ps qs all (Look p) of = tt
of_more ps qs all (ReadUpTo p limit) of = tt
of_more ps qs all (ListFolder p) of = tt
of_more ps qs all (Write p bytes) of = all p of
of_more ps qs all (Create p) of = all p of
of_more ps qs all (Remove p) of = all p of
of_more ps qs all (MakeParents p) of = all p of
of_more ps qs all (Settle rs) of = λ p i. all p (of p i)
of_more ps qs all (Protect p) of = all p of
of_more ps qs all (Start recipe logs command) of = absurd of
of_more ps qs all Wait of = absurd of

pub each_more : (ps qs : List Path) → AreAmong ps qs → (es : List Event) → EachCall (IsOf ps) es → EachCall (IsOf qs) es
each_more ps qs all [] of = tt
each_more ps qs all (e ∷ es) of = (of_more ps qs all (request e.call) of.0, each_more ps qs all es of.1)

look_of : (ps : List Path) (c : Call) → is_look c ≡ true → IsOf ps (request c)
look_of ps (Looked p r) is = tt
look_of ps (ReadFile p limit r) is = tt
look_of ps (ReadFolder p r) is = tt
look_of ps (Written p bytes r) is = absurd (true≢false (sym is))
look_of ps (Created p r) is = absurd (true≢false (sym is))
look_of ps (Removed p r) is = absurd (true≢false (sym is))
look_of ps (MadeParents p r) is = absurd (true≢false (sym is))
look_of ps (Settled qs r) is = absurd (true≢false (sym is))
look_of ps (Protected p r) is = absurd (true≢false (sym is))
look_of ps (Started recipe logs command r) is = absurd (true≢false (sym is))
look_of ps (Waited r) is = absurd (true≢false (sym is))

looks_are : (ps : List Path) (failure : Bool) (es : List Event) → AreLooks failure es → EachCall (IsOf ps) es
looks_are ps failure [] are = tt
looks_are ps failure (e ∷ []) are = (look_of ps e.call are.0, tt)
looks_are ps failure (e ∷ (f ∷ es)) are = (look_of ps e.call are.0, looks_are ps failure (f ∷ es) are.2)

guarding_of : (guards : List Path) (es : List Event) → HasGuarded guards es → EachCall (IsOf guards) es
guarding_of [] es none = subst (EachCall (IsOf [])) (sym none) tt
guarding_of (p ∷ ps) es done = done_each (IsOf (p ∷ ps)) (protect_requests (p ∷ ps)) es (guards_of_outs (p ∷ ps) (p ∷ ps) (λ x i. i)) done

-- tending is at what is guarded alone
pub tending_of :
    (guards : List Path) (answer : Result (Unit {0}) KeepFault) (es : List Event) → IsTended guards answer es → is_ok answer ≡ true →
    EachCall (IsOf guards) es
tending_of guards answer es (Tended guarding looks guard looked) ok =
    each_append (λ (e : Event). IsOf guards (request e.call)) guarding looks (guarding_of guards guarding guard) (looks_are guards false looks looked)
tending_of guards answer es Unguarded ok = absurd (true≢false (sym ok))
tending_of guards answer es (GuardingFails guarding cut) ok = absurd (true≢false (sym ok))
tending_of guards answer es (LooksFail guarding looks guard looked) ok = absurd (true≢false (sym ok))

-- ## What was left stands on

kept_on :
    (going : Underway) (v x : World) → ((p : Path) → x.nodes (record_place p) ≡ v.nodes (record_place p)) →
    ((p : Path) → x.nodes (mark_place p) ≡ v.nodes (mark_place p)) →
    IsKeptSo going v → IsKeptSo going x
kept_on going v x records marks k =
    record {
      members = k.members;
      for = k.for;
      kept =
          record {
            records =
                hold_on v x (out_paths going.recipe) (bytes_with going (out_paths going.recipe) k.members)
                (λ p i bytes h. subst (HoldsBytes bytes) (sym (records p)) h) k.kept.records;
            marks = λ p i. marks p ∙ k.kept.marks p i;
          };
    }

lost_on : (mine : List Path) (v x : World) → ((q : Path) → x.nodes q ≡ v.nodes q) → HasLost mine v → HasLost mine x
lost_on mine v x same l =
    record {
      outputs = λ q within. subst (Reads None) (sym (same q)) (l.outputs q within);
      records = λ p i. subst (Reads None) (sym (same (record_place p))) (l.records p i);
      marks = λ p i. same (mark_place p) ∙ l.marks p i;
    }

within_more : (ps qs : List Path) (q : Path) → is_within q ps ≡ true → is_within q (ps ++ qs) ≡ true
within_more [] qs q within = absurd (true≢false (sym within))
within_more (p ∷ ps) qs q within = elim (or_cases (is_at_or_under q p) (is_within q ps) within) [
  | inl here ↦ or_first (is_at_or_under q p) (is_within q (ps ++ qs)) here
  | inr later ↦ or_second (is_at_or_under q p) (is_within q (ps ++ qs)) (within_more ps qs q later)
]

module _
    (rules : Rules) (entry : World) (h : Parts) (s : Stand) (w : World) (before : List Event) (deeds : List Deed) (act : Act)
    (at : IsAt rules entry h s w before deeds)
    (owners : HasOwners w) (reads : ReadsRecords rules.read) (unbroken : s.broken ≡ false) (going : Underway) (ended : Ended) (left : List Change)
    (waited : IsWaitFor going ended s) where
  abbrev its : IsChildOfJob h.live.base.jobs.jobs s.begun going.recipe going.logs
  its = job_of rules entry h s w before deeds at going waited.ran

  -- once it was waited for
  abbrev since : World
  since = after w (wait_event ended left)

  abbrev made : List Path
  made = out_paths going.recipe

  differ_here : AreDifferent made
  differ_here = subst (λ r. AreDifferent (out_paths r)) its.same_recipe (differ rules entry h s w before deeds at unbroken going ended left waited)

  outs_known : (q : Path) → is_within q made ≡ true → IsKnown (since.nodes q)
  outs_known q within =
      known_then rules entry h s w before deeds at going ended left waited.ran waited.number q (within_more made going.logs q within)

  abbrev known_records : (p : Path) → IsKnown (since.nodes (record_place p))
  known_records = records_known rules entry h s w before deeds at going ended left waited.ran waited.number owners

  abbrev known_marks : (p : Path) → IsKnown (since.nodes (mark_place p))
  known_marks = marks_known rules entry h s w before deeds at going ended left waited.ran waited.number owners

  finished_here : (es : List Event) → IsClosedBy going Good ended.status since es → Follows act since es → IsKeptSo going (run since es)
  finished_here es closed follows = finished_so act going since differ_here outs_known known_records known_marks es closed.1 follows

  -- calls of guarded outputs leave what was kept, and looks what was lost
  tended_so :
      (how : End) (guards : Job) (closing tending : List Event) → AreAmong (guards_of guards how) made →
      IsClosedBy going how ended.status since closing → Follows act since closing →
      EachCall (IsOf (guards_of guards how)) tending → LeavesSo going (run (run since closing) tending)
  tended_so Good k closing tending among_outs closed follows of =
      Kept
      (kept_on going (run since closing) (run (run since closing) tending)
      (λ p. all_keep k.guards (record_place p) (λ g i. path-record g p (user g i)) (run since closing) tending of)
      (λ p. all_keep k.guards (mark_place p) (λ g i. path-mark g p (user g i)) (run since closing) tending of)
      (finished_here closing closed follows))
    where
      user : (p : Path) → IsIn k.guards p → is_path p ≡ true
      user p i =
          each_in (λ q. is_path q ≡ true) (owned_paths its.job.recipe its.job.logs) p
          (paths rules entry h s w before deeds at unbroken going ended left waited)
          (in_left p (out_paths its.job.recipe) its.job.logs (subst (λ r. IsIn (out_paths r) p) (sym its.same_recipe) (among_outs p i)))
  tended_so (Status n) k closing tending among_outs closed follows of =
      Lost
      (lost_on made (run since closing) (run (run since closing) tending) (λ q. all_keep [] q (λ p i. absurd i) (run since closing) tending of)
      (abandoned_so act going since differ_here outs_known known_records known_marks closing closed.2 follows))
  tended_so (NoOutput p) k closing tending among_outs closed follows of =
      Lost
      (lost_on made (run since closing) (run (run since closing) tending) (λ q. all_keep [] q (λ x i. absurd i) (run since closing) tending of)
      (wrong_so act going since differ_here outs_known known_records known_marks (close.NoOutput p) closing closed.1 follows))
  tended_so (WrongKind p) k closing tending among_outs closed follows of =
      Lost
      (lost_on made (run since closing) (run (run since closing) tending) (λ q. all_keep [] q (λ x i. absurd i) (run since closing) tending of)
      (wrong_so act going since differ_here outs_known known_records known_marks (close.WrongKind p) closing closed.1 follows))
  tended_so (BadMember p) k closing tending among_outs closed follows of =
      Lost
      (lost_on made (run since closing) (run (run since closing) tending) (λ q. all_keep [] q (λ x i. absurd i) (run since closing) tending of)
      (wrong_so act going since differ_here outs_known known_records known_marks (close.BadMember p) closing closed.1 follows))

  -- ## Together

  abbrev its_outs : List Path
  its_outs = outs rules entry h s w before deeds at unbroken going ended left waited

  -- the folder once the job was closed, and its outputs were tended
  pub closed_then :
      (how : End) (k : Job) (closing tending : List Event) → AreAmong (guards_of k how) made → IsClosedBy going how ended.status since closing →
      Follows act since closing →
      EachCall (IsOf (guards_of k how)) tending → IsClosedFor rules entry h s w (run since (closing ++ tending)) made
  closed_then how k closing tending among_outs closed follows of =
      let there : run since (closing ++ tending) ≡ run (run since closing) tending = run_append since closing tending in
      let calls : EachCall (IsOf (touched made)) (closing ++ tending) =
      each_append (λ (e : Event). IsOf (touched made) (request e.call)) closing tending (closing_of going how ended.status since closing closed)
      (each_more (guards_of k how) (touched made) (λ p i. outs_in made p (among_outs p i)) tending of)
      in
      let leaves : LeavesSo going (run since (closing ++ tending)) = subst (LeavesSo going) (sym there)
      (tended_so how k closing tending among_outs closed follows of) in
      subst (λ r. IsClosedFor rules entry h s w (run since (closing ++ tending)) (out_paths r)) its.same_recipe
      (closed_for rules entry h s w before deeds at unbroken going ended left waited (closing ++ tending)
      (subst (λ r. EachCall (IsOf (touched (out_paths r))) (closing ++ tending)) (sym its.same_recipe) calls) reads
      (subst (λ (g : Underway). LeavesSo g (run since (closing ++ tending)))
      (going_is rules entry h s w before deeds at unbroken going ended left waited) leaves))
