-- Calls that meet the contract, one after another, are a history; so the headline holds.
use Rattle.std.proofs.Common.{◌≡◌, ◌⊎◌, ◌≤◌, ℕ, zero, suc, Bool, true, false, List, [], sym, subst, inl, inr, true≢false, arith}
use Rattle.smk_world.specs.declared.event.Call.{Call}
use Rattle.smk_world.specs.declared.event.Call.TheVariants.{Looked, ReadFile, ReadFolder, Written, Created, Removed, MadeParents, Settled, Protected, Started, Waited}
use Rattle.smk_world.specs.declared.event.Event.{Event}
use Rattle.smk_world.specs.World.{World, run, in_paths}
use Rattle.smk_world.specs.Devices.{Device, Sunk}
use Rattle.smk_world.specs.Trees.{Act, Each}
use Rattle.smk_pattern.specs.Shapes.{Text}
use Rattle.smk_store.specs.Trust.{Versions}
use Rattle.smk_laws_history.specs.Histories.{History, IsCall}
use Rattle.smk_laws_history.specs.Histories as histories
use Rattle.smk_laws_history.proofs.HistoryLaw.{every_world_sound, every_world_tree, every_world_listed, fewer_differ, on_left, versions_differ}
use Rattle.smk_drive.specs.Moments.{Rules, Moment}
use Rattle.smk_drive.specs.Lawful.{IsSafeInput}
use Rattle.smk_drive_course.specs.Lawful.{StartsWell}
use Rattle.smk_report.specs.Lines.{target_line}
use Rattle.smk_drive_course.specs.Refusals.{ClashingRunRefuses}
use Rattle.smk_drive_course.specs.RunReports.{HasLine}
use Rattle.smk_cli_target.specs.declared.ending.Outcome.{Outcome}
use Rattle.smk_cli_target.specs.Files.{outside}
use Rattle.smk_cli_target.specs.Ends.{IsGoodEntry, CurrentIsClean}
use Rattle.smk_cli_target.specs.Refusing.{IsNamed}
use Rattle.smk_cli_target.specs.Clauses.{IsSteady, IsDoneUnless}
use Rattle.smk_cli_target.specs.Headline.{Came, Begin, Edit, Remove, Call as CallCame, Crash, HasHeld, SumsDifferIn, CameIsHistory, CameIsGood, Headline, IsMet, IsStopped, StartsOnFinished}

good_in : (act : Act) (w : World) (H : Versions) (past : History (outside act) w H) → histories.SumsDifferIn (outside act) w H past → IsGoodEntry act w
good_in act w H past differ =
    record {
      versions = H;
      differ = versions_differ (outside act) w H past differ;
      sound = every_world_sound (outside act) w H past differ;
      tree = every_world_tree (outside act) w H past;
      listed = every_world_listed (outside act) w H past differ;
    }

-- a call that meets the contract is one of a history
is_call :
    (act : Act) (words : List Text) (outcome : Outcome) (old new : Device) (out_old out_new : Sunk) (w : World) (log : List Event) →
    IsGoodEntry act w →
    (met : IsMet act words outcome old new out_old out_new w log) →
    (to_the_end : Bool) → (to_the_end ≡ true → (met.paths ≡ []) ⊎ IsSteady old.faults new.faults) → IsCall (outside act) w log met.paths to_the_end
is_call act words outcome old new out_old out_new w log good met to_the_end whole =
    let kept = met.has_log.crashes good met.paths to_the_end met.to_forget whole in record { follows = met.follows; sound = kept.0; listed = kept.1 }

-- the history, in which sources had what they had so
past_of :
    (act : Act) (w : World) (H : Versions) (came : Came act w H) → SumsDifferIn act w H came →
    (past : History (outside act) w H) × ((a : List ℕ) → histories.HasHeld (outside act) w H past a → HasHeld act w H came a)
past_of act _ _ (Begin v new) differ = (histories.Begin v new, λ a h. h)
past_of act _ _ (Edit v K p bytes time read_only came can later now left) differ =
    let before = past_of act v K came (λ a b had has same. differ a b (inl had) (inl has) same) in
    (histories.Go v _ K before.0 (histories.Edit p bytes time read_only can later now left), λ a. on_left (before.1 a))
past_of act _ _ (Remove v K p came outer) differ =
    let before = past_of act v K came (λ a b had has same. differ a b (inl had) (inl has) same) in
    (histories.Go v _ K before.0 (histories.Remove p outer), λ a. on_left (before.1 a))
past_of act _ _ (CallCame v K words outcome old new out_old out_new log came met whole alone) differ =
    let earlier : SumsDifferIn act v K came = λ a b had has same. differ a b (inl had) (inl has) same in
    let before = past_of act v K came earlier in
    let good = good_in act v K before.0 (fewer_differ (histories.HasHeld (outside act) v K before.0) (HasHeld act v K came) before.1 earlier) in (
      histories.Go v _ K before.0
          (histories.Call log met.paths (is_call act words outcome old new out_old out_new v log good met true (λ h. whole)) alone),
      λ a. on_left (before.1 a),
    )
past_of act _ _ (Crash v K words outcome old new out_old out_new log events rest nodes came met split left) differ =
    let earlier : SumsDifferIn act v K came = λ a b had has same. differ a b (inl had) (inl has) same in
    let before = past_of act v K came earlier in
    let good = good_in act v K before.0 (fewer_differ (histories.HasHeld (outside act) v K before.0) (HasHeld act v K came) before.1 earlier) in (
      histories.Go v _ K before.0
          (histories.Crash log events rest met.paths false nodes
          (is_call act words outcome old new out_old out_new v log good met false (λ h. absurd (true≢false (sym h)))) split left),
      λ a. on_left (before.1 a),
    )

pub came_is_history : CameIsHistory
came_is_history act w H came differ =
    let h = past_of act w H came differ in (h.0, fewer_differ (histories.HasHeld (outside act) w H h.0) (HasHeld act w H came) h.1 differ)

pub came_is_good : CameIsGood
came_is_good act w H came differ = let h = came_is_history act w H came differ in good_in act w H h.0 h.1

-- ## The headline

one_or_more : (n : ℕ) → (n ≤ 1) ⊎ (2 ≤ n)
one_or_more zero = inl (omega arith)
one_or_more (suc zero) = inl (omega arith)
one_or_more (suc (suc n)) = inr (omega arith)

none_below : (n : ℕ) → n ≡ 0 → n ≤ 1
none_below n h = omega arith

starts_finished : (rules : Rules) (entry : World) (m : Moment) (e : Event) (c : Call) → StartsWell rules entry m e c → StartsOnFinished rules m c
starts_finished rules entry m e (Looked p r) s = tt
starts_finished rules entry m e (ReadFile p limit r) s = tt
starts_finished rules entry m e (ReadFolder p r) s = tt
starts_finished rules entry m e (Written p bytes r) s = tt
starts_finished rules entry m e (Created p r) s = tt
starts_finished rules entry m e (Removed p r) s = tt
starts_finished rules entry m e (MadeParents p r) s = tt
starts_finished rules entry m e (Settled ps r) s = tt
starts_finished rules entry m e (Protected p r) s = tt
starts_finished rules entry m e (Started recipe logs command r) s = subst (λ x. Each (IsSafeInput rules m) (in_paths x)) (sym s.2) s.5.inputs
starts_finished rules entry m e (Waited r) s = tt

pub headline : Headline
headline act w H words outcome old new out_old out_new log text came differ met has asked rules is by =
    record {
      current = current (one_or_more outcome.status);
      finished = λ events e rest m h at.
          starts_finished rules w m e e.call ((met.has_log.of_run good asked rules is by).lawful.each events e rest m h at).starts;
      complete = λ steady clean. complete ((met.has_log.complete steady).of_run good asked rules is by clean);
    }
  where
    good : IsGoodEntry act w
    good = came_is_good act w H came differ

    current : (outcome.status ≤ 1) ⊎ (2 ≤ outcome.status) → CurrentIsClean act rules (run w log) text
    current (inl h) = (has.of_run good h asked rules is by).clean
    current (inr h) = (has.early good h asked rules is by).clean

    complete :
        IsDoneUnless (λ f. IsNamed f ⊎ ClashingRunRefuses rules w log f) outcome →
        Each (λ p. HasLine text (target_line true p)) rules.settings.targets ⊎ IsStopped rules outcome w log
    complete (inl z) = inl ((has.of_run good (none_below outcome.status z) asked rules is by).all_told z)
    complete (inr (inl five)) = inr (inl five)
    complete (inr (inr stopped)) = inr (inr stopped)
