-- Which fault comes first in the steps of a run.
use Rattle.std.proofs.Common.{◌≡◌, ◌⊎◌, inl, inr, ℕ, List, [], ◌∷◌, ◌++◌, refl, sym, ap, subst, ◌∙◌, Option, Some, None, append_assoc, append-nil, is_none}
use Rattle.smk_base.specs.Place.{mark_place, note_place, record_place}
use Rattle.smk_base.proofs.Apart.{path-mark, path-note, path-record}
use Rattle.smk_world.specs.declared.event.Event.{Event}
use Rattle.smk_world.specs.World.{World, IsFormed, run}
use Rattle.smk_world.specs.Runs.{Follows}
use Rattle.smk_world.specs.Trees.{Act, Each, IsIn, Path}
use Rattle.smk_world.proofs.Names.{formed_run}
use Rattle.smk_record.specs.Spelling.{ReadsRecords}
use Rattle.smk_store.specs.Soundness.{Outside, SameSources, SoundWorld}
use Rattle.smk_store.specs.Trust.{SumsDiffer, Versions}
use Rattle.smk_chain.specs.Derive.{Derived, derivation}
use Rattle.smk_chain.specs.Mean.{setting_of}
use Rattle.smk_laws_plan.specs.Signs.{HasOwnSigns}
use Rattle.smk_laws_history.proofs.CurrentComplete.{seen_is_complete}
use Rattle.smk_laws_complete.specs.Derived.{AllHaveValues, GathersAlone}
use Rattle.smk_laws_protocol.specs.Midway.{IsTop}
use Rattle.smk_safe.proofs.Done.{follows_split}
use Rattle.smk_run.specs.Closings.{wait_event}
use Rattle.smk_report.specs.declared.fault.Fault.{Fault}
use Rattle.smk_report.specs.declared.fault.Fault.TheVariants as fault
use Rattle.smk_safe.specs.Planned.{IsPlain}
use Rattle.smk_drive.specs.Moments.{Rules, lists_of, progress_of, seen}
use Rattle.smk_drive_course.specs.Stands.{Refuses, Stand, moment_of}
use Rattle.smk_drive_course.specs.Steps.{AreRemoved, Deed, HasBegun, HasClosed, HasSpent, NoMore, OneMore}
use Rattle.smk_drive_course.specs.Breaks.{Begins, BeginsNot, BreaksOff, Closes, Done, FailsToWait, Halts, Leaves, ReadsNot, Spends, SpendsNot, Step, Steps, Then, Waits}
use Rattle.smk_laws_moments.proofs.ChildrenOf.{run_more}
use Rattle.smk_laws_moments.proofs.Fates.{first_fault_stays}
use Rattle.smk_laws_moments.specs.Staying.{derived_by}
use Rattle.smk_laws_moments.proofs.Next.{IsStarting, starting}
use Rattle.smk_laws_turns.proofs.AllStands.{protocol_keeps}
use Rattle.smk_laws_turns.specs.Following.{IsGiven, IsReached}
use Rattle.smk_laws_turns.proofs.Laws.{steps_follow}
use Rattle.smk_laws_driven.specs.Ended.{PlansArePlain}
use Rattle.smk_laws_driven.proofs.Lasting.{unhalted_step}
use Rattle.smk_laws_driven.proofs.Spending.{IsLeft, aside_stays, removed_leave, spent_leaves}
use Rattle.smk_laws_driven.proofs.Unlisted.{HasNoLists, removed_lists, step_lists}
use Rattle.smk_laws_driven.specs.Named.{IsNamed}
use Rattle.smk_laws_driven.proofs.Faulted.{by_device, by_memory, by_sink, answer_named, goes_named, halted_is, none_some, replanned_from, replanned_halted, same_fault}
use Rattle.smk_laws_driven.proofs.Own.{begin_calls, closed_calls, closed_in, closed_job, closing_calls}
use Rattle.smk_laws_driven.proofs.Refused.{its_jobs, moment_named}
use Rattle.smk_laws_driven.proofs.Signed.{signs_kept, signs_stay}

module _ (act : Act) (rules : Rules) (entry : World) (H : Versions) (top : ℕ) (reads : ReadsRecords rules.read) (differ : SumsDiffer H)
    (sound : SoundWorld (record { read = rules.read; act = act }) entry H) (is_top : IsTop (record { read = rules.read; act = act }) entry top)
    (plain : PlansArePlain rules) (alone : GathersAlone rules.flow)
    (values : AllHaveValues (setting_of rules.flow act (λ j. is_none (rules.missing j)) (seen rules entry)) rules.settings.targets)
    (plainly : Each IsPlain (derived_by rules entry []))
    (derives : derivation rules.flow (seen rules entry) [] rules.settings.targets ≡ Derived (derived_by rules entry [])) where
  abbrev o : Outside
  o = record { read = rules.read; act = act }

  abbrev Ours : World → Type 0
  Ours w = HasOwnSigns (seen rules entry) (seen rules w) (derived_by rules entry [])

  given : IsGiven o rules entry H top
  given = record { reader = refl; reads = reads; differ = differ; sound = sound; is_top = is_top }

  -- What holds at a stand at which no fault has come: no listing is known; and signs that the entry didn't have are the run's own.
  pub record IsOurs (before : List Event) (s : Stand) : Type 0 where
    pub at : IsReached o rules entry top before s
    pub lists : HasNoLists s
    pub signs : HasOwnSigns (seen rules entry) (seen rules (run entry before)) (derived_by rules entry [])

  -- the sources stay
  same_sources :
      (before front rest : List Event) (s : Stand) → IsReached o rules entry top before s → before ≡ front ++ rest →
      SameSources (seen rules entry) (seen rules (run entry front))
  same_sources before front rest s at split =
      (protocol_keeps o rules entry H top before at.state refl differ sound is_top at.come.follows at.come.runs).0 front rest split

  -- ## One step

  module _ (before es : List Event) (s t : Stand) (deeds : List Deed) (step : Step rules entry s (run entry before) before es deeds t) (ours : IsOurs before s)
      (follows : Follows act (run entry before) es) (none : s.halted ≡ None) where
    abbrev w : World
    w = run entry before

    formed : IsFormed w
    formed = formed_run entry before sound.formed

    next_reached : IsReached o rules entry top (before ++ es) t
    next_reached =
        subst (λ xs. IsReached o rules entry top (before ++ xs) t) (append-nil es)
        (steps_follow o rules entry H top before (es ++ []) s t (deeds ++ []) ours.at given
        (Then s t t w before es [] deeds [] step (Done t (run w es) (before ++ es))) (subst (Follows act w) (sym (append-nil es)) follows)).0

    -- the world after the first events of the step
    sources_then : (front rest : List Event) → es ≡ front ++ rest → SameSources (seen rules entry) (seen rules (run w front))
    sources_then front rest split =
        subst (λ v. SameSources (seen rules entry) (seen rules v)) (run_more entry before front)
        (same_sources (before ++ es) (before ++ front) rest t next_reached (ap (λ xs. before ++ xs) split ∙ sym (append_assoc before front rest)))

    sources_now : SameSources (seen rules entry) (seen rules w)
    sources_now = sources_then [] es refl

    refusal :
        (u : Stand) (front rest : List Event) (f : Fault) → es ≡ front ++ rest → Ours (run w front) → u.from ≡ [] →
        Refuses rules entry u (run w front) (before ++ front) f →
        IsNamed rules entry f
    refusal u front rest f split signs from refuses =
        moment_named act rules entry plain alone values sound.formed plainly derives (moment_of u (run w front) (before ++ front)) f
        (formed_run w front formed) (sources_then front rest split) signs from refuses

    -- ## A job begins

    module _ (h : HasBegun rules entry s (run entry before) before es deeds t) where
      next : IsStarting rules s w h.job
      next = starting rules s w before h.job h.to_begin.next

      begun_in : IsIn (derived_by rules entry []) h.job.0
      begun_in =
          subst (λ js. IsIn js h.job.0)
          (its_jobs act rules entry plain alone values sound.formed plainly derives w formed sources_now ours.signs (progress_of w s.begun) next.plan
          next.is_plan
          (sym (ap (λ p. lists_of p s.from) next.in_force) ∙ ours.lists.now)) next.planned

      begun_ours : Ours (run w es)
      begun_ours =
          signs_kept rules (seen rules entry) (seen rules entry) [] (derived_by rules entry []) (seen_is_complete rules.read entry sound.formed) derives
          h.job.0 begun_in w es
          (begin_calls rules entry w s t before es deeds h) ours.signs

      begun_named : (f : Fault) → t.halted ≡ Some f → IsNamed rules entry f
      begun_named f came =
          goes_named rules entry (IsNamed rules entry) (λ g b. inr b) h.next t (run w es) (before ++ es) f h.goes_by
          (replanned_halted rules _ h.next (run w es) h.replanned ∙ none) came
          (refusal h.next es [] f (sym (append-nil es)) begun_ours
          (replanned_from rules _ h.next (run w es) h.replanned ours.lists.before ours.lists.now))

    -- ## A job is closed

    module _ (h : HasClosed rules entry s (run entry before) before es deeds t) where
      abbrev closing : List Event
      closing = wait_event h.ended h.left ∷ h.closing

      its : IsIn (derived_by rules entry []) (closed_job act rules entry H top differ sound is_top before s ours.at es deeds t h follows)
      its =
          subst
          (λ L. IsIn (derived_by rules entry L) (closed_job act rules entry H top differ sound is_top before s ours.at es deeds t h follows))
          ours.lists.now (closed_in act rules entry H top differ sound is_top before s ours.at es deeds t h follows)

      ours_then : Ours (run w closing)
      ours_then =
          signs_kept rules (seen rules entry) (seen rules entry) [] (derived_by rules entry []) (seen_is_complete rules.read entry sound.formed) derives
          _ its w closing
          (closing_calls act rules entry H top differ sound is_top before s ours.at es deeds t h follows) ours.signs

      closed_ours : Ours (run w es)
      closed_ours =
          signs_kept rules (seen rules entry) (seen rules entry) [] (derived_by rules entry []) (seen_is_complete rules.read entry sound.formed) derives
          _ its w es
          (closed_calls act rules entry H top differ sound is_top before s ours.at es deeds t h follows) ours.signs

      closed_named : (f : Fault) → t.halted ≡ Some f → IsNamed rules entry f
      closed_named f came =
          answer_named rules entry (IsNamed rules entry) (λ g b. inr b) h.answer h.next t (run w closing) (before ++ closing) f h.goes_by
          (replanned_halted rules _ h.next (run w closing) h.replanned ∙ none) came
          (refusal h.next closing h.tending f h.events ours_then
          (replanned_from rules _ h.next (run w closing) h.replanned ours.lists.before ours.lists.now))

    -- ## Spent outputs are removed

    removed_halted :
        (s1 t1 : Stand) (w1 : World) (before1 : List Event) (paths : List Path) (es1 : List Event) → AreRemoved rules s1 w1 before1 paths es1 t1 →
        t1.halted ≡ s1.halted
    removed_halted s1 t1 w1 before1 paths es1 (NoMore s2 w2 before2) = refl
    removed_halted s1 t1 w1 before1 paths es1 (OneMore s2 t2 u2 w2 before2 p ps e es2 clear spent listed done plans rest) =
        removed_halted t2 u2 _ _ ps es2 rest ∙ replanned_halted rules s2 t2 _ plans

    module _ (h : HasSpent rules entry s (run entry before) before es deeds t) where
      -- where no more has gone than is spent signs stay
      left_ours : (v : World) → IsLeft act rules entry H top differ sound is_top before s ours.at es deeds t h follows v → Ours v
      left_ours v left =
          let stays = aside_stays act rules entry H top differ sound is_top before s ours.at es deeds t h follows v left in
          signs_stay rules (seen rules entry) (derived_by rules entry []) w v (λ q. stays (mark_place q) (λ p path. path-mark p q path))
          (λ q. stays (note_place q) (λ p path. path-note p q path)) (λ q. stays (record_place q) (λ p path. path-record p q path)) ours.signs

      spent_ours : Ours (run w es)
      spent_ours = left_ours (run w es) (spent_leaves act rules entry H top differ sound is_top before s ours.at es deeds t h follows)

      spent_named : (f : Fault) → t.halted ≡ Some f → IsNamed rules entry f
      spent_named f came =
          goes_named rules entry (IsNamed rules entry) (λ g b. inr b) h.last t (run w h.removing) (before ++ h.removing) f h.goes_by
          (removed_halted s h.last w before h.paths h.removing h.removed ∙ none) came
          (refusal h.last h.removing h.settling f h.events
          (left_ours (run w h.removing) (removed_leave act rules entry H top differ sound is_top before s ours.at es deeds t h follows))
          (removed_lists rules plain entry s h.last w before h.paths h.removing h.removed formed ours.lists).before)

    -- ## Any step

    step_named : Step rules entry s (run entry before) before es deeds t → (f : Fault) → t.halted ≡ Some f → IsNamed rules entry f
    step_named (Begins h) f came = begun_named h f came
    step_named (Closes h) f came = closed_named h f came
    step_named (Spends h) f came = spent_named h f came
    step_named (Halts h) f came = go h.cause
      where
        why : h.why ≡ f
        why = halted_is s t h.why f (ap (λ (x : Stand). x.halted) h.leaves) none came

        go : ((s.halted ≡ None) × Refuses rules entry s w before h.why) ⊎ ((h.why ≡ fault.Output) ⊎ (h.why ≡ fault.OutOfMemory)) → IsNamed rules entry f
        go (inl (unhalted, refuses)) =
            moment_named act rules entry plain alone values sound.formed plainly derives (moment_of s w before) f formed sources_now ours.signs
            ours.lists.before (subst (Refuses rules entry s w before) why refuses)
        go (inr (inl e)) = by_sink rules entry (IsNamed rules entry) (λ g b. inr b) f (sym e ∙ why)
        go (inr (inr e)) = by_memory rules entry (IsNamed rules entry) (λ g b. inr b) f (sym e ∙ why)
    step_named (Leaves h) f came =
        by_memory rules entry (IsNamed rules entry) (λ g b. inr b) f
        (halted_is s t fault.OutOfMemory f (ap (λ (x : Stand). x.halted) h.leaves) none came)
    step_named (BreaksOff h) f came =
        by_device rules entry (IsNamed rules entry) (λ g b. inr b) f
        (halted_is s t fault.Device f (ap (λ (x : Stand). x.halted) h.leaves) none came)
    step_named (ReadsNot h) f came =
        by_device rules entry (IsNamed rules entry) (λ g b. inr b) f
        (halted_is s t fault.Device f (ap (λ (x : Stand). x.halted) h.leaves) none came)
    step_named (BeginsNot h) f came =
        by_device rules entry (IsNamed rules entry) (λ g b. inr b) f
        (halted_is s t fault.Device f (ap (λ (x : Stand). x.halted) h.leaves) none came)
    step_named (SpendsNot h) f came =
        by_device rules entry (IsNamed rules entry) (λ g b. inr b) f
        (halted_is h.last t fault.Device f (ap (λ (x : Stand). x.halted) h.leaves)
        (removed_halted s h.last w before h.paths h.removing h.removed ∙ none) came)
    step_named (Waits h) f came = absurd (ours.at.is_state.halted h.broken none)
    step_named (FailsToWait h) f came =
        by_device rules entry (IsNamed rules entry) (λ g b. inr b) f
        (halted_is s t fault.Device f (ap (λ (x : Stand). x.halted) h.leaves) none came)

    next_ours : t.halted ≡ None → IsOurs (before ++ es) t
    next_ours still =
        record {
          at = next_reached;
          lists = step_lists rules plain entry s t w before es deeds step formed ours.lists;
          signs = subst Ours (sym (run_more entry before es)) (elim (unhalted_step act rules entry s t w before es deeds step ours.at.is_state.halted still) [
            | inl h ↦ begun_ours h
            | inr (inl h) ↦ closed_ours h
            | inr (inr h) ↦ spent_ours h
          ]);
        }

  -- ## All steps

  one_of :
      (s1 t1 u1 : Stand) (w1 : World) (before1 es1 fs : List Event) (ds more : List Deed) (f : Fault) → Step rules entry s1 w1 before1 es1 ds t1 →
      Steps rules entry t1 (run w1 es1) (before1 ++ es1) fs more u1 → w1 ≡ run entry before1 → IsOurs before1 s1 → s1.halted ≡ None →
      Follows act w1 (es1 ++ fs) → u1.halted ≡ Some f →
      (run w1 es1 ≡ run entry (before1 ++ es1) → IsOurs (before1 ++ es1) t1 → t1.halted ≡ None → Follows act (run w1 es1) fs → IsNamed rules entry f) →
      IsNamed rules entry f
  one_of s1 t1 u1 w1 before1 es1 fs ds more f step steps world ours none follows came again = go t1.halted refl
    where
      both : Follows act w1 es1 × Follows act (run w1 es1) fs
      both = follows_split act w1 es1 fs follows

      here : Step rules entry s1 (run entry before1) before1 es1 ds t1
      here = subst (λ v. Step rules entry s1 v before1 es1 ds t1) world step

      follows_here : Follows act (run entry before1) es1
      follows_here = subst (λ v. Follows act v es1) world both.0

      go : (x : Option Fault) → t1.halted ≡ x → IsNamed rules entry f
      go None e =
          again (ap (λ v. run v es1) world ∙ sym (run_more entry before1 es1)) (next_ours before1 es1 s1 t1 ds here ours follows_here none e) e both.1
      go (Some g) e =
          subst (IsNamed rules entry)
          (same_fault g f (sym (first_fault_stays rules entry t1 u1 (run w1 es1) (before1 ++ es1) fs more steps g e).0 ∙ came))
          (step_named before1 es1 s1 t1 ds here ours follows_here none here g e)

  pub all_named :
      (s t : Stand) (w : World) (before es : List Event) (deeds : List Deed) (f : Fault) → Steps rules entry s w before es deeds t → w ≡ run entry before →
      IsOurs before s → s.halted ≡ None → Follows act w es → t.halted ≡ Some f → IsNamed rules entry f
  all_named s t w before es deeds f (Done s1 w1 before1) world ours none follows came = absurd (none_some f (sym none ∙ came))
  all_named s t w before es deeds f (Then s1 t1 u1 w1 before1 es1 fs ds more step steps) world ours none follows came =
      one_of s1 t1 u1 w1 before1 es1 fs ds more f step steps world ours none follows came
      (λ there next still rest. all_named t1 u1 (run w1 es1) (before1 ++ es1) fs more f steps there next still rest came)
