-- A run that is refused by the lock: it meets every clause, whatever the workflow.
use Rattle.std.proofs.Common.{◌≡◌, ℕ, Bool, true, false, List, [], Option, Some, None, refl, ap, subst, ◌∙◌, inl, inr, IsTrue}
use Rattle.std.specs.Prelude.{not, ◌||◌}
use Rattle.smk_world.specs.World.{World}
use Rattle.smk_world.specs.Devices.{Device, Sunk}
use Rattle.smk_world.specs.Trees.{Path, Act}
use Rattle.smk_pattern.specs.Shapes.{Text}
use Rattle.smk_flow.specs.Flows.{Flow}
use Rattle.smk_report.specs.declared.fault.Fault.{Fault}
use Rattle.smk_report.specs.declared.fault.Fault.TheVariants as fault
use Rattle.smk_drive.specs.Moments.{Rules}
use Rattle.smk_drive_rows.proofs.Truth.{not_both}
use Rattle.smk_words_reading.specs.declared.asked.Asked.{Asked}
use Rattle.smk_words_reading.specs.declared.asked.Asked.TheVariants.{Run, Preview, Unlock, Forget, Generate}
use Rattle.smk_words_reading.specs.declared.asked.RunWords.{RunWords}
use Rattle.smk_words_reading.specs.Asks.{IsAsked}
use Rattle.smk_words_reading.proofs.Whole.{none_asked_without_cores, one_asked}
use Rattle.smk_cli_target.specs.Files.{GoesBy, ReadsAs, FailsToRead, bad_target, seen}
use Rattle.smk_cli_target.specs.Refusing.{RefusesAtOnce, WordsRefuse, CoresRefuse, FilesRefuse, TargetRefuses, LockRefusesRun, LockRefusesForgetting, Refuses, AtOnce, StampRefuses, OfRun, OfListing, is_let_in}
use Rattle.smk_cli_target.specs.Clauses.{HasLog, HasText, IsComplete}
use Rattle.smk_cli_target.proofs.OneWorkflow.{no_faulty_workflow, one_workflow}
use Rattle.smk_drive_rows.proofs.Refused.{IsRefusedSo, Three, log_so, text_so}

no_device : Some fault.Locked ≡ Some fault.Device → ⊥
no_device h = cc

no_listing : {v w : RunWords} → Preview v ≡ Run w → ⊥
no_listing h = cc

no_unlock : {w : RunWords} → Unlock ≡ Run w → ⊥
no_unlock h = cc

no_forgetting : {paths : List Path} {nolock : Bool} {w : RunWords} → Forget paths nolock ≡ Run w → ⊥
no_forgetting h = cc

no_generate : {seed size : ℕ} {w : RunWords} → Generate seed size ≡ Run w → ⊥
no_generate h = cc

same_run : (v w : RunWords) → Run v ≡ Run w → v ≡ w
same_run v w h = cc

some_none : (t : Option Text) (word : Text) → t ≡ None → t ≡ Some word → ⊥
some_none t word h k = cc

-- A run that is asked for, and goes by these files, of a folder with a lock that it heeds.
pub record IsLockedOut (words : List Text) (w : World) : Type 0 where
  pub run : RunWords
  pub rules : Rules
  pub asked : IsAsked words (Run run)
  pub goes_by : GoesBy run w rules
  pub heeds : run.nolock ≡ false
  pub locked : IsTrue (seen w).locked

module _ (act : Act) (words : List Text) (w : World) (out : IsLockedOut words w) where
  one : (other : Asked) → IsAsked words other → other ≡ Run out.run
  one other asked = one_asked words other (Run out.run) asked out.asked

  same : (v : RunWords) → IsAsked words (Run v) → v ≡ out.run
  same v asked = same_run v out.run (one (Run v) asked)

  not_listed : {A : Type 0} (v : RunWords) → IsAsked words (Preview v) → A
  not_listed v asked = absurd (no_listing (one (Preview v) asked))

  faulty : {A : Type 0} (v : RunWords) (g : Fault) → IsAsked words (Run v) → FailsToRead v w g → A
  faulty v g asked fails = absurd (no_faulty_workflow out.run w out.goes_by.flow g out.goes_by.reads (subst (λ u. FailsToRead u w g) (same v asked) fails))

  wrong_target : {A : Type 0} (v : RunWords) (flow : Flow) (word : Text) → IsAsked words (Run v) → ReadsAs v w flow → bad_target flow v ≡ Some word → A
  wrong_target v flow word asked reads bad =
      let run = same v asked in
      let flows = one_workflow out.run w flow out.goes_by.flow (subst (λ u. ReadsAs u w flow) run reads) out.goes_by.reads in
      absurd (some_none (bad_target out.goes_by.flow out.run) word out.goes_by.targets
      (subst (λ f. bad_target f out.run ≡ Some word) flows (subst (λ u. bad_target flow u ≡ Some word) run bad)))

  once : (g : Fault) → RefusesAtOnce words w g → g ≡ fault.Locked
  once g (WordsRefuse unread) = absurd (unread.0 (Run out.run) out.asked)
  once g (CoresRefuse lacks) = absurd (none_asked_without_cores words (Run out.run) out.asked lacks)
  once g (FilesRefuse v h (inl asked) fails) = faulty v h asked fails
  once g (FilesRefuse v h (inr asked) fails) = not_listed v asked
  once g (TargetRefuses v flow word (inl asked) reads bad) = wrong_target v flow word asked reads bad
  once g (TargetRefuses v flow word (inr asked) reads bad) = not_listed v asked
  once g (LockRefusesRun v rules asked by heeds locked) = refl
  once g (LockRefusesForgetting paths asked locked) = refl

  not_let_in : (v : RunWords) → IsAsked words (Run v) → IsTrue (is_let_in v.nolock w) → ⊥
  not_let_in v asked free =
      let heeds = ap (λ (u : RunWords). u.nolock) (same v asked) ∙ out.heeds in
      not_both (seen w).locked (subst (λ b. (b || not (seen w).locked) ≡ true) heeds free) out.locked

  ever : (g : Fault) → Refuses words w [] g → g ≡ fault.Locked
  ever g (AtOnce h r) = once h r
  ever g (StampRefuses paths nolock q rest asked free seen_before) = absurd (no_forgetting (one (Forget paths nolock) asked))
  ever g (OfRun v rules h asked by free r) = absurd (not_let_in v asked free)
  ever g (OfListing v rules h asked by r) = not_listed v asked

  complete_so : IsComplete act words (record { status = 3; fault = Some fault.Locked }) w []
  complete_so =
      record {
        of_run = λ good v rules asked by clean. inr (inr (fault.Locked, refl, inl tt));
        of_listing = λ good v rules asked by clean. not_listed v asked;
        of_unlock = λ asked. absurd (no_unlock (one Unlock asked));
        of_forgetting = λ paths nolock asked. absurd (no_forgetting (one (Forget paths nolock) asked));
      }

  so : IsRefusedSo act words w fault.Locked 3
  so =
      record {
        low = Three;
        no_device = no_device;
        met = LockRefusesRun out.run out.rules out.asked out.goes_by out.heeds out.locked;
        early = refl;
        one_at_once = once;
        one = ever;
        no_unlock = λ asked. no_unlock (one Unlock asked);
        no_forgetting = λ paths nolock asked. no_forgetting (one (Forget paths nolock) asked);
        no_generate = λ seed size asked. no_generate (one (Generate seed size) asked);
        no_listing = λ v asked. no_listing (one (Preview v) asked);
        complete = complete_so;
      }

  pub its_log : (a : Device) (p : Sunk) → HasLog act words (record { status = 3; fault = Some fault.Locked }) a a p p w []
  its_log a p = log_so act words w fault.Locked 3 so a p

  pub its_text : HasText act words (record { status = 3; fault = Some fault.Locked }) w [] []
  its_text = text_so act words w fault.Locked 3 so
