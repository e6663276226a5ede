-- What a run puts that is driven, and that what it calls current is clean.
use Rattle.std.proofs.Common.{◌≡◌, Bool, true, false, List, [], ◌∷◌, ◌++◌, zip, refl, ap, sym, subst, ◌∙◌, append_assoc, append-nil, Option, Some, None, Result, Ok, Err, is_none}
use Rattle.smk_world.specs.World.{World}
use Rattle.smk_world.specs.Devices.{Device, Sunk}
use Rattle.smk_world.specs.Trees.{Path, Each}
use Rattle.smk_record.specs.Spelling.{ReadsRecords}
use Rattle.smk_store.specs.Images.{Image, seen}
use Rattle.smk_store.specs.Soundness.{Outside, SoundWorld}
use Rattle.smk_store.specs.Trust.{Versions, SumsDiffer}
use Rattle.smk_flow.specs.Flows.{Flow}
use Rattle.smk_format.specs.Commands.{missing}
use Rattle.smk_chain.specs.Mean.{setting_of}
use Rattle.smk_laws_plan.specs.Current.{IsClean}
use Rattle.smk_report.specs.declared.fault.Fault.{Fault}
use Rattle.smk_report.specs.Lines.{Text}
use Rattle.smk_run.specs.Reports.{IsFront}
use Rattle.smk_drive.specs.Moments.{Rules}
use Rattle.smk_drive_course.specs.declared.ending.End.{End}
use Rattle.smk_drive_course.specs.Driven.{HasDriven}
use Rattle.smk_drive_course.specs.Reports.{IsReport, closing_lines, deed_line, lines_of}
use Rattle.smk_drive_course.specs.Steps.{Deed}
use Rattle.smk_laws_driven.proofs.Ended.{driven_tells_all}
use Rattle.smk_words_reading.specs.declared.asked.RunWords.{RunWords}
use Rattle.smk_cli_entry.specs.declared.asking.Asked.{Asked}
use Rattle.smk_plan_preview.specs.Previewing.{rules_for}
use Rattle.smk_plan_preview.proofs.LookedAt.{kept, seen_moved}
use Rattle.smk_cli_calls.specs.Serving.{WasDriven, settings_of}
use Rattle.smk_cli_calls.proofs.Driving.{rules_are}
use Rattle.smk_cli_calls.specs.Whole.{AsksFor}
use Rattle.smk_clean.specs.Clean.{setting_in}
use Rattle.smk_clean.proofs.Safe.{Answer, looked_safe}
use Rattle.smk_laws_call.specs.Telling.{HasPutSo, end_lines}

-- ## Fronts

lines_append : (flow : Flow) (xs ys : List Deed) → lines_of flow (xs ++ ys) ≡ lines_of flow xs ++ lines_of flow ys
lines_append flow [] ys = refl
lines_append flow (x ∷ xs) ys =
    ap (λ t. deed_line flow x ++ t) (lines_append flow xs ys) ∙ sym (append_assoc (deed_line flow x) (lines_of flow xs) (lines_of flow ys))

-- what was put is a front of all lines
report_front :
    (rules : Rules) (deeds : List Deed) (told : Option End) (result : Result End Fault) (text : Text) → IsReport rules deeds told result text →
    IsFront text (lines_of rules.flow deeds ++ closing_lines rules told)
report_front rules deeds told (Ok end) text h = ([], sym (append-nil text ∙ h))
report_front rules deeds told (Err f) text h = (
  h.rest,
  ap (λ ds. lines_of rules.flow ds ++ closing_lines rules told) h.split
      ∙ (ap (λ t. t ++ closing_lines rules told) (lines_append rules.flow h.before h.later)
      ∙ (append_assoc (lines_of rules.flow h.before) (lines_of rules.flow h.later) (closing_lines rules told)
      ∙ (ap (λ t. lines_of rules.flow h.before ++ t) h.is_front
      ∙ (sym (append_assoc (lines_of rules.flow h.before) h.more h.rest) ∙ ap (λ t. t ++ h.rest) (sym h.text_is))))),
)

-- ## What is put

-- The text is a front of the lines of what was done and of how the run ended, if it came to tell that; and each target that it calls current there is clean.
pub record DroveTells (o : Outside) (asked : Asked) (w v : World) (text : Text) : Type 0 where
  pub deeds : List Deed
  pub told : Option End
  pub front : IsFront text (lines_of asked.flow deeds ++ end_lines asked.targets told)
  pub targets :
      (end : End) →
      told ≡ Some end →
      Each (λ (x : Path × Bool). x.1 ≡ true → IsClean (setting_in o w asked.flow) (seen o.read v) x.0) (zip asked.targets end.current)

module _ (o : Outside) (H : Versions) (w : World) (differ : SumsDiffer H) (sound : SoundWorld o w H) (reads : ReadsRecords o.read) (words : RunWords)
    (entry : World) (asked : Asked) (asks : AsksFor words entry asked) where
  abbrev rules : Rules
  rules = rules_for o.read asked.flow (settings_of asked words)

  closing_same : (told : Option End) → closing_lines rules told ≡ end_lines asked.targets told
  closing_same None = refl
  closing_same (Some end) = refl

  pub drove_tells :
      (answer : Answer) (v : World) (old new : Device) (p q : Sunk) → old.world ≡ Some w → new.world ≡ Some v →
      WasDriven o.act words answer asked old new p q → HasPutSo p q (DroveTells o asked w v)
  drove_tells answer v old new p q at ends was now there =
      let k = kept w was.looking at in
      let x : World = k.0 in
      let sound_then : SoundWorld o x H = (looked_safe o H w differ sound (Ok tt) x old was.looked false at k.1 was.looking).4 tt refl in
      let h : HasDriven o.act rules was.driven was.looked new p q = was.drove rules (rules_are o.read reads asked.flow (settings_of asked words)) in
      let t = h.text.told now there in (
        t.0,
        t.1,
        (
          t.2.0,
          record {
            deeds = h.deeds;
            told = h.told;
            front = subst (λ c. IsFront t.2.0 (lines_of asked.flow h.deeds ++ c)) (closing_same h.told) (report_front rules h.deeds h.told was.driven t.2.0 t.2.1);
            targets = λ end told_is.
                subst
                (λ (i : Image).
                Each (λ (y : Path × Bool). y.1 ≡ true → IsClean (setting_of asked.flow o.act (λ j. is_none (missing j)) i) (seen o.read v) y.0)
                (zip asked.targets end.current))
                (seen_moved o.read w x k.2)
                (driven_tells_all o rules H was.driven end x v was.looked new p q k.1 ends refl reads differ sound_then h told_is).targets;
          },
          t.2.2,
        ),
      )
