-- The line of a start goes on to tell what was done.
use Rattle.std.proofs.Common.{◌≡◌, ℕ, Bool, true, false, ◌&&◌, List, [], ◌∷◌, ◌++◌, refl, sym, ap, subst, ◌∙◌, Option, Some, None, Result, Ok, Err, true≢false}
use Rattle.std.specs.Prelude.{is_ok}
use Rattle.std.proofs.lemmas.List.{append-nil}
use Rattle.std.proofs.lemmas.Grind.{flat_map-append}
use Rattle.smk_flow.specs.declared.job.Job.{Job}
use Rattle.smk_flow.specs.Flows.{Flow}
use Rattle.smk_pick.specs.declared.settings.Settings.{Settings}
use Rattle.smk_report.specs.Lines.{Text, start_line}
use Rattle.smk_report.specs.declared.fault.Fault.{Fault}
use Rattle.smk_report.specs.declared.fault.Fault.TheVariants as fault
use Rattle.smk_drive.specs.Reports.{named_job}
use Rattle.smk_drive_step.specs.declared.children.Child.{Child}
use Rattle.smk_drive_step.specs.declared.halt.Halt.{Halt}
use Rattle.smk_drive_step.specs.Crews.{or_later}
use Rattle.smk_drive_step.specs.Telling.{IsPutIf}
use Rattle.smk_drive_course.specs.Steps.{Deed, Started}
use Rattle.smk_drive_course.specs.Reports.{deed_line, is_device, lines_of, may_lose}
use Rattle.smk_laws_turns.specs.Hubs.{Parts}
use Rattle.smk_laws_turns.specs.Turning.{faulted}
use Rattle.smk_drive_hub.specs.Turned.{IsToldSoFar, TellsOn}
use Rattle.smk_laws_begins.specs.Noting.{HasNoted}

came : {A : Type 0} {f : Fault} → Some f ≡ None → A
came e = absurd (clash e)
  where
    clash : {f : Fault} → Some f ≡ None → ⊥
    clash e = cc

-- where no fault has come lines go to the sink
goes_on : (flow : Flow) (h : Parts) (deeds : List Deed) (text : Text) → h.halt.fault ≡ None → IsToldSoFar flow h deeds text → h.telling ≡ true
goes_on flow h deeds text none told = go h.telling refl
  where
    go : (b : Bool) → h.telling ≡ b → b ≡ true
    go true e = refl
    go false e = let f = told.front e in came (sym f.1 ∙ none)

-- nothing was put, and this fault came
pub tells_halt : (flow : Flow) (h : Parts) (f : Fault) → h.halt.fault ≡ None → TellsOn flow h (faulted f h) [] []
tells_halt flow h f none deeds before told =
    let on = goes_on flow h deeds before none told in
    record {
      all = λ e. append-nil before ∙ (told.all e ∙ ap (lines_of flow) (sym (append-nil deeds)));
      front = λ e. absurd (true≢false (sym on ∙ e));
    }

later_is : (o : Option Fault) (f : Fault) → o ≡ None → Some (or_later o f) ≡ Some f
later_is None f e = refl
later_is (Some g) f e = came e

module _
    (flow : Flow) (settings : Settings) (h k : Parts) (number : ℕ) (draws : Bool) (child : Child) (j : Job) (none : h.halt.fault ≡ None) where
  abbrev line : Text
  line = start_line (named_job flow j)

  lines_more : (deeds : List Deed) → lines_of flow (deeds ++ Started j ∷ []) ≡ lines_of flow deeds ++ line
  lines_more deeds = flat_map-append (deed_line flow) deeds (Started j ∷ []) ∙ ap (λ t. lines_of flow deeds ++ t) (append-nil line)

  -- the line was put
  put_whole : (deeds : List Deed) (before text : Text) → k.telling ≡ true → before ≡ lines_of flow deeds → text ≡ line → IsToldSoFar flow k (deeds ++ Started j ∷ []) (before ++ text)
  put_whole deeds before text telling all is =
      record {
        all = λ e. (λ i. all i ++ is i) ∙ sym (lines_more deeds);
        front = λ e. absurd (true≢false (sym telling ∙ e));
      }

  -- a front of it was put, and this fault came first
  put_part :
      (f : Fault) (deeds : List Deed) (before text rest : Text) → k.telling ≡ false → k.halt.fault ≡ Some f → may_lose f ≡ true → is_device f ≡ false →
      before ≡ lines_of flow deeds → line ≡ text ++ rest → IsToldSoFar flow k (deeds ++ Started j ∷ []) (before ++ text)
  put_part f deeds before text rest telling fault_is loses other all part =
      record {
        all = λ e. absurd (true≢false (sym e ∙ telling));
        front = λ e. (
          f,
          fault_is,
          record {
            before = deeds;
            later = Started j ∷ [];
            more = text;
            rest = rest;
            split = refl;
            text_is = ap (λ t. t ++ text) all;
            is_front = append-nil (line ++ []) ∙ (append-nil line ∙ part);
            has_starts = λ keeps. absurd (true≢false (sym loses ∙ keeps));
            has_all = λ device. absurd (true≢false (sym device ∙ other));
          },
        );
      }

  pub tells_start :
      (told put : Result (Unit {0}) Fault) → HasNoted flow settings h k number draws child told put → (text : Text) → IsPutIf h.telling (is_ok put) line text →
      TellsOn flow h k (Started j ∷ []) text
  tells_start told put noted text is deeds before so_far = go put told noted (subst (λ b. IsPutIf b (is_ok put) line text) on is)
    where
      on : h.telling ≡ true
      on = goes_on flow h deeds before none so_far

      go : (put told : Result (Unit {0}) Fault) → HasNoted flow settings h k number draws child told put → IsPutIf true (is_ok put) line text →
          IsToldSoFar flow k (deeds ++ Started j ∷ []) (before ++ text)
      go (Ok u) told noted put_is = put_whole deeds before text (noted.telling ∙ ap (λ b. b && true) on) (so_far.all on) put_is
      go (Err f) (Ok u) noted (rest, part) =
          put_part fault.Output deeds before text rest (noted.telling ∙ ap (λ b. b && false) on)
          (ap (λ (q : Halt). q.fault) noted.halted ∙ (later_is h.halt.fault f none ∙ ap Some noted.lost)) refl refl (so_far.all on) part
      go (Err f) (Err g) noted (rest, part) =
          put_part fault.OutOfMemory deeds before text rest (noted.telling ∙ ap (λ b. b && false) on)
          (ap (λ (q : Halt). q.fault) noted.halted ∙ later_is h.halt.fault fault.OutOfMemory none) refl refl (so_far.all on) part
