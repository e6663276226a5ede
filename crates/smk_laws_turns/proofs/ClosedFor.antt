-- Once a child was waited for and its job closed, the folder differs at its outputs alone.
use Rattle.std.proofs.Common.{◌≡◌, inl, true, false, ◌||◌, not, List, ◌∷◌, ◌++◌, sym, ap, subst, ◌∙◌, is_some, nat_eq}
use Rattle.smk_base.specs.Path.{is_path, overlaps}
use Rattle.smk_base.proofs.Under.{at_itself, false_unless, never_both, or_second, overlaps_at}
use Rattle.smk_world.specs.declared.event.Change.{Change}
use Rattle.smk_world.specs.declared.event.Child.{Child}
use Rattle.smk_world.specs.declared.event.Ended.{Ended}
use Rattle.smk_world.specs.declared.event.Event.{Event}
use Rattle.smk_world.specs.declared.event.NodeState.{NodeState}
use Rattle.smk_world.specs.Trees.{Each, IsIn, Path, among}
use Rattle.smk_world.specs.World.{World, IsFormed, after, in_paths, is_within, out_paths, owned_paths, reading, run}
use Rattle.smk_world.proofs.Names.{formed_run}
use Rattle.smk_flow.specs.declared.job.Job.{Job}
use Rattle.smk_record.specs.Spelling.{ReadsRecords}
use Rattle.smk_store.specs.Images.{stands}
use Rattle.smk_laws_plan.proofs.CurrentLists.{in_left, in_right}
use Rattle.smk_laws_plan.proofs.CurrentPaths.{among_in, in_among}
use Rattle.smk_laws_protocol.proofs.Basics.{each_of, in_filter}
use Rattle.smk_job.specs.Jobs.{Underway, underway}
use Rattle.smk_safe.proofs.Kept.{AreDifferent, apart_differ, differ_first}
use Rattle.smk_run.specs.Closings.{wait_event}
use Rattle.smk_run.proofs.Calls.{EachCall}
use Rattle.smk_drive.specs.Moments.{Rules, is_gone, seen}
use Rattle.smk_drive_course.specs.Stands.{Stand}
use Rattle.smk_drive_course.specs.Steps.{Deed, IsWaitFor}
use Rattle.smk_laws_turns.specs.Hubs.{IsAt, IsOurs, IsRecordable, IsSigned, Parts}
use Rattle.smk_laws_turns.proofs.Apart.{own_apart, owned_is_path}
use Rattle.smk_laws_turns.proofs.Overlaps.{apart_at}
use Rattle.smk_laws_turns.proofs.Staff.{IsChildOfJob, complete_entry, job_of}
use Rattle.smk_laws_turns.specs.Differing.{ChangesAt, IsKnownOrGone, LeavesOthers}
use Rattle.smk_laws_turns.proofs.Differing.{differs_of}
use Rattle.smk_laws_turns.proofs.JobPaths.{log_spot, output_spot}
use Rattle.smk_laws_turns.proofs.Ours.{ours_go_on}
use Rattle.smk_laws_turns.specs.Closed.{IsClosedFor}
use Rattle.smk_laws_turns.proofs.ClosedCalls.{IsOf, all_children}
use Rattle.smk_laws_turns.proofs.Touched.{touched}
use Rattle.smk_laws_turns.proofs.FolderClosing.{LeavesSo}
use Rattle.smk_laws_turns.proofs.Aside.{elsewhere, files_still, kept_same, mark_still, marked_same, note_still, noted_same}
use Rattle.smk_laws_turns.proofs.Ended.{known_or_gone, made_recorded, mark_gone, needs_no_more, unmarked}
use Rattle.smk_laws_turns.proofs.FolderWaiting.{others_run, runs_here, stands_still}

module _
    (rules : Rules) (entry : World) (h : Parts) (s : Stand) (w : World) (before : List Event) (deeds : List Deed) (at : IsAt rules entry h s w before deeds)
    (unbroken : s.broken ≡ false) (going : Underway) (ended : Ended) (left : List Change) (waited : IsWaitFor going ended s) where
  abbrev its : IsChildOfJob h.live.base.jobs.jobs s.begun going.recipe going.logs
  its = job_of rules entry h s w before deeds at going waited.ran

  abbrev pub j : Job
  j = its.job

  abbrev pub outs : List Path
  outs = out_paths j.recipe

  abbrev owned : List Path
  owned = owned_paths j.recipe j.logs

  pub going_is : going ≡ underway j.recipe j.logs going.stamps going.made going.number
  going_is =
      λ i. record { recipe = sym its.same_recipe i; logs = sym its.same_logs i; stamps = going.stamps; made = going.made; number = going.number }

  pub paths : Each (λ p. is_path p ≡ true) owned
  paths = each_of (λ p. is_path p ≡ true) owned (λ p i. owned_is_path rules entry h s w before deeds at j p its.of_plan i)

  abbrev pub u : World
  u = after w (wait_event ended left)

  pub still : (q : Path) → is_within q owned ≡ false → u.nodes q ≡ w.nodes q
  still q none =
      stands_still rules entry h s w before deeds at going ended left waited.ran waited.number q
      ((λ i. is_within q (owned_paths (sym its.same_recipe i) (sym its.same_logs i))) ∙ none)

  pub differ : AreDifferent outs
  differ = differ_first outs j.logs (apart_differ owned (own_apart rules entry h s w before deeds at j its.of_plan))

  abbrev ours : IsOurs rules entry h.live.base.jobs.jobs w
  ours = at.ours unbroken

  pub signed_here : IsSigned (seen rules w) j.recipe j.logs
  signed_here =
      let here = ours.signed _ (runs_here rules entry h s w before deeds at going ended left waited.ran waited.number) in
      subst (λ (x : Underway). IsSigned (seen rules w) x.recipe x.logs) going_is here

  module _ (es : List Event) (of : EachCall (IsOf (touched outs)) es) where
    abbrev pub v : World
    v = run u es

    formed_now : IsFormed v
    formed_now = formed_run w (wait_event ended left ∷ es) at.home.formed

    logs_noted : (p : Path) → IsIn j.logs p → (seen rules v).noted p ≡ true
    logs_noted p i = noted_same rules j paths w u still es of p ∙ signed_here.noted p (in_among j.logs p i)

    -- ## The run's own

    module _ (known : (p : Path) → IsIn outs p → IsKnownOrGone (seen rules v) p) where
      changes : ChangesAt (seen rules w) (seen rules v) outs j.logs
      changes =
          record {
            files = files_still rules j paths w u still es of;
            kept = kept_same rules j paths w u still es of;
            marks = marked_same rules j paths w u still es of;
            notes = λ q out. noted_same rules j paths w u still es of q;
            outputs = known;
            logged = λ p i.
                inl
                (or_second (stands ((seen rules v).kept p)) ((seen rules v).marked p || (seen rules v).noted p)
                (or_second ((seen rules v).marked p) ((seen rules v).noted p) (logs_noted p i)));
          }

      others_signed : (c : Child) → IsIn v.children c → IsSigned (seen rules v) c.recipe c.logs
      others_signed c i =
          let there : IsIn u.children c = subst (λ cs. IsIn cs c) (all_children (touched outs) u es of) i in
          let k = others_run rules entry h s w before deeds at going ended left waited.ran waited.number c there in
          let was = ours.signed c (in_filter (λ (x : Child). not (nat_eq x.number ended.number)) w.children c there).0 in
          record {
            marked = λ p out.
                marked_same rules j paths w u still es of p
                (false_unless (among outs p) (λ t.
                never_both (overlaps p p) (overlaps_at p p (at_itself p))
                (apart_at (owned_paths going.recipe going.logs) (in_paths k.0.recipe ++ owned_paths k.0.recipe k.0.logs) p p
                (at.spaced going k.0 waited.ran k.1 k.3)
                (in_left p (out_paths going.recipe) going.logs (subst (λ r. IsIn (out_paths r) p) its.same_recipe (among_in outs p t)))
                (in_right p (in_paths k.0.recipe) (owned_paths k.0.recipe k.0.logs)
                (in_left p (out_paths k.0.recipe) k.0.logs (subst (λ (x : Child). IsIn (out_paths x.recipe) p) k.2 (among_in (out_paths c.recipe) p out)))))))
                ∙ was.marked p out;
            noted = λ p log. noted_same rules j paths w u still es of p ∙ was.noted p log;
          }

      pub ours_now : IsOurs rules entry h.live.base.jobs.jobs v
      ours_now =
          let both =
          ours_go_on rules.flow (seen rules entry) (seen rules w) (seen rules v) h.live.base.jobs.lists rules.settings.targets h.live.base.jobs.jobs outs j.logs
          (complete_entry rules entry h s w before deeds at) at.derived (λ p i. output_spot h.live.base.jobs.jobs j p its.of_plan i)
          (λ p i. log_spot h.live.base.jobs.jobs j p its.of_plan i) changes ours.sources ours.signs ours.gone
          in
          record { sources = both.0; signs = both.1; gone = both.2; signed = others_signed }

    -- ## A job that was closed

    module _ (reads : ReadsRecords rules.read) (leaves : LeavesSo (underway j.recipe j.logs going.stamps going.made going.number) v) where
      recordable : IsRecordable (seen rules entry) (underway j.recipe j.logs going.stamps going.made going.number)
      recordable = subst (IsRecordable (seen rules entry)) going_is (at.underway going waited.ran)

      now : IsOurs rules entry h.live.base.jobs.jobs v
      now = ours_now (known_or_gone rules j going.stamps going.made going.number v recordable.writable leaves)

      others : LeavesOthers rules w v j
      others =
          record {
            elsewhere = elsewhere rules j paths w u still es of;
            files = files_still rules j paths w u still es of;
            notes = λ q i some. ap (λ (x : NodeState). is_some (reading x)) (note_still rules j paths w u still es of q) ∙ some;
            made = made_recorded rules j going.stamps going.made going.number v recordable.writable leaves;
            summed =
                needs_no_more rules j going.stamps going.made going.number v recordable.writable leaves reads (seen rules entry) now.sources recordable.stamped
                (seen rules w);
          }

      pub closed_for : IsClosedFor rules entry h s w v outs
      closed_for =
          record {
            differs = λ unhalted.
                differs_of rules entry w v h.live.base.jobs j (record { formed = at.home.found; derived = at.derived; sourced = at.sourced }) its.of_plan
                at.home.formed formed_now now.sources others;
            unmarked = unmarked rules j going.stamps going.made going.number v recordable.writable leaves;
            gone = λ q i. ap is_gone (mark_gone rules j going.stamps going.made going.number v recordable.writable leaves q i);
            others = mark_still rules j paths w u still es of;
            ours = now;
          }
