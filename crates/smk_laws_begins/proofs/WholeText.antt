-- The whole text of a run that opened.
use Rattle.std.proofs.Common.{◌≡◌, Bool, true, false, List, [], ◌++◌, refl, sym, ap, subst, ◌∙◌, Option, Some, None, Result}
use Rattle.std.proofs.lemmas.List.{append-nil}
use Rattle.std.proofs.lemmas.Option.{none-some, same_Some}
use Rattle.smk_flow.specs.Flows.{Flow}
use Rattle.smk_report.specs.Lines.{Text}
use Rattle.smk_report.specs.declared.fault.Fault.{Fault}
use Rattle.smk_drive.specs.Moments.{Rules}
use Rattle.smk_drive_course.specs.declared.ending.End.{End}
use Rattle.smk_drive_course.specs.Reports.{IsFrontFor, IsReport, closing_lines, lines_of}
use Rattle.smk_drive_course.specs.Steps.{Deed}
use Rattle.smk_laws_turns.specs.Hubs.{Parts}
use Rattle.smk_drive_hub.specs.Turned.{IsToldSoFar}
use Rattle.smk_laws_begins.specs.Whole.{Faulted, IsClosing, IsConclusion, Told, Unput, Untold, closing_for}

-- all lines of what was done, and then a front of the last ones
all_and_front :
    (flow : Flow) (deeds : List Deed) (f : Fault) (closing text more rest : Text) →
    text ≡ lines_of flow deeds → closing ≡ more ++ rest → IsFrontFor flow deeds f closing (text ++ more)
all_and_front flow deeds f closing text more rest all front =
    record {
      before = deeds;
      later = [];
      more = more;
      rest = rest;
      split = sym (append-nil deeds);
      text_is = ap (λ t. t ++ more) all;
      is_front = front;
      has_starts = λ e. refl;
      has_all = λ e. refl;
    }

module _ (flow : Flow) (k : Parts) (deeds : List Deed) where
  -- where no fault has come all lines were put
  all_told : (text : Text) → IsToldSoFar flow k deeds text → k.halt.fault ≡ None → text ≡ lines_of flow deeds
  all_told text told none = go k.telling refl
    where
      go : (b : Bool) → k.telling ≡ b → text ≡ lines_of flow deeds
      go true is = told.all is
      go false is = let f = told.front is in absurd (none-some f.0 (sym none ∙ f.1))

  faulted_front :
      (f : Fault) (text : Text) → IsToldSoFar flow k deeds text → k.halt.fault ≡ Some f → IsFrontFor flow deeds f [] (text ++ [])
  faulted_front f text told came = go k.telling refl
    where
      go : (b : Bool) → k.telling ≡ b → IsFrontFor flow deeds f [] (text ++ [])
      go true is = all_and_front flow deeds f [] text [] [] (told.all is) refl
      go false is =
          let g = told.front is in
          subst (λ t. IsFrontFor flow deeds f [] t) (sym (append-nil text))
          (subst (λ x. IsFrontFor flow deeds x [] text) (same_Some g.0 f (sym g.1 ∙ came)) g.2)

same_closing : (rules : Rules) (told : Option End) → closing_lines rules told ≡ closing_for rules.settings.targets told
same_closing rules None = refl
same_closing rules (Some end) = refl

-- what was put of what was done, and then at the end
pub whole_text :
    (rules : Rules) (k : Parts) (deeds : List Deed) (told : Option End) (result : Result End Fault) (text last : Text) →
    IsConclusion k told result →
    IsToldSoFar rules.flow k deeds text → IsClosing rules.settings.targets told result last → IsReport rules deeds told result (text ++ last)
whole_text rules k deeds told result text last (Faulted f came) so_far closing =
    subst (λ t. IsFrontFor rules.flow deeds f [] (text ++ t)) (sym closing) (faulted_front rules.flow k deeds f text so_far came)
whole_text rules k deeds told result text last (Untold f none lose) so_far closing =
    subst (λ t. IsFrontFor rules.flow deeds f [] (text ++ t)) (sym closing)
    (all_and_front rules.flow deeds f [] text [] [] (all_told rules.flow k deeds text so_far none) refl)
whole_text rules k deeds told result text last (Unput end f none is made lose) so_far closing =
    all_and_front rules.flow deeds f (closing_lines rules (Some end)) text last closing.0 (all_told rules.flow k deeds text so_far none) closing.1
whole_text rules k deeds told result text last (Told end none is made) so_far closing =
    ap (λ t. t ++ last) (all_told rules.flow k deeds text so_far none) ∙ ap (λ t. lines_of rules.flow deeds ++ t) closing
