-- The line of the end of a job goes on to tell what was done.
use Rattle.std.proofs.Common.{◌≡◌, Bool, true, false, ◌||◌, List, [], ◌∷◌, ◌++◌, refl, sym, ap, subst, ◌∙◌, inl, inr, Option, Some, None, append_assoc, append-nil}
use Rattle.std.specs.List.{list_any}
use Rattle.std.proofs.lemmas.Grind.{flat_map-append}
use Rattle.smk_flow.specs.declared.job.Job.{Job}
use Rattle.smk_flow.specs.Flows.{Flow}
use Rattle.smk_report.specs.Lines.{Text}
use Rattle.smk_report.specs.declared.fault.Fault.{Fault}
use Rattle.smk_run.specs.declared.ending.Ending.{Ending as End}
use Rattle.smk_run.specs.declared.ending.Ending.TheVariants.{BadMember, Good, NoOutput, Status, WrongKind}
use Rattle.smk_run.specs.Reports.{end_line}
use Rattle.smk_drive.specs.Reports.{named_job}
use Rattle.smk_drive_course.specs.Steps.{Closed, Deed}
use Rattle.smk_drive_course.specs.Reports.{IsFrontFor, deed_line, is_device, is_started, lines_of}
use Rattle.smk_laws_turns.specs.Hubs.{Parts}
use Rattle.smk_drive_hub.specs.Turned.{IsSoundHalt, IsToldSoFar, TellsOn}
use Rattle.smk_laws_closes.specs.Endings.{told_end}
use Rattle.smk_laws_closes.specs.Closes.{IsLineFault}
use Rattle.smk_laws_closes.specs.Lines.{IsEndPut}
use Rattle.smk_laws_closes.proofs.Halts.{device_is}

true_false : {A : Type 0} → true ≡ false → A
true_false h = absurd (never h)
  where
    never : true ≡ false → ⊥
    never e = cc

line_is : (flow : Flow) (j : Job) (how : End) → deed_line flow (Closed j (told_end how)) ≡ end_line (named_job flow j) how
line_is flow j Good = refl
line_is flow j (Status n) = refl
line_is flow j (NoOutput p) = refl
line_is flow j (WrongKind p) = refl
line_is flow j (BadMember p) = refl

lines_more : (flow : Flow) (deeds : List Deed) (d : Deed) → lines_of flow (deeds ++ d ∷ []) ≡ lines_of flow deeds ++ deed_line flow d
lines_more flow deeds d = flat_map-append (deed_line flow) deeds (d ∷ []) ∙ ap (λ t. lines_of flow deeds ++ t) (append-nil (deed_line flow d))

none_started : (deeds : List Deed) (d : Deed) → list_any is_started deeds ≡ false → is_started d ≡ false → list_any is_started (deeds ++ d ∷ []) ≡ false
none_started [] d h e = ap (λ b. b || false) e
none_started (x ∷ deeds) d h e = go (is_started x) h (none_started deeds d)
  where
    go : (b : Bool) → (b || list_any is_started deeds) ≡ false → (list_any is_started deeds ≡ false → is_started d ≡ false → list_any is_started (deeds ++ d ∷ []) ≡ false) →
        (b || list_any is_started (deeds ++ d ∷ [])) ≡ false
    go true k rest = true_false k
    go false k rest = rest k e

-- The line was lost for this.
abbrev pub IsLostFor : Parts → Parts → Type 0
IsLostFor h k = h.telling ≡ true → k.telling ≡ false → h.halt.fault ≡ None → (f : Fault) × (k.halt.fault ≡ Some f) × IsLineFault f

module _ (flow : Flow) (h k : Parts) (j : Job) (how : End) (text : Text) (put : IsEndPut h.telling k.telling (end_line (named_job flow j) how) text)
    (stays : (f : Fault) → h.halt.fault ≡ Some f → k.halt.fault ≡ Some f) (lost : IsLostFor h k) (silent : h.telling ≡ false → k.telling ≡ false)
    (sound : IsSoundHalt h.halt) (whole : h.halt.only_waits ≡ false) (deeds : List Deed) (before : Text) (told : IsToldSoFar flow h deeds before) where
  abbrev d : Deed
  d = Closed j (told_end how)

  abbrev line : Text
  line = end_line (named_job flow j) how

  no_line_device : (f : Fault) → IsLineFault f → is_device f ≡ false
  no_line_device f (inl e) = ap is_device e
  no_line_device f (inr e) = ap is_device e

  -- a front of the line was put
  cut : h.telling ≡ true → k.telling ≡ false → (rest : Text) × (line ≡ text ++ rest) → (f : Fault) → k.halt.fault ≡ Some f → (is_device f ≡ true → d ∷ [] ≡ []) → IsFrontFor flow (deeds ++ d ∷ []) f [] (before ++ text)
  cut was is (rest, e) f came device =
      record {
        before = deeds;
        later = d ∷ [];
        more = text;
        rest = rest;
        split = refl;
        text_is = ap (λ t. t ++ text) (told.all was);
        is_front = append-nil (deed_line flow d ++ []) ∙ (append-nil (deed_line flow d) ∙ (line_is flow j how ∙ e));
        has_starts = λ losing. refl;
        has_all = device;
      }

  never_all : (f : Fault) → h.halt.fault ≡ Some f → is_device f ≡ true → d ∷ [] ≡ []
  never_all f e its = true_false (sym (sound.device (e ∙ ap Some (device_is f its))) ∙ whole)

  cut_here : h.telling ≡ true → k.telling ≡ false → (rest : Text) × (line ≡ text ++ rest) →
      (f : Fault) × (k.halt.fault ≡ Some f) × IsFrontFor flow (deeds ++ d ∷ []) f [] (before ++ text)
  cut_here was is front = go h.halt.fault refl
    where
      go : (o : Option Fault) → h.halt.fault ≡ o → (f : Fault) × (k.halt.fault ≡ Some f) × IsFrontFor flow (deeds ++ d ∷ []) f [] (before ++ text)
      go (Some f) e = (f, stays f e, cut was is front f (stays f e) (never_all f e))
      go None e = let x = lost was is e in (x.0, x.1, cut was is front x.0 x.1 (λ its. true_false (sym its ∙ no_line_device x.0 x.2)))

  -- none was put before
  still : h.telling ≡ false → text ≡ [] → (f : Fault) × (k.halt.fault ≡ Some f) × IsFrontFor flow (deeds ++ d ∷ []) f [] (before ++ text)
  still was none =
      let x = told.front was in
      let r = x.2 in (
        x.0,
        stays x.0 x.1,
        record {
          before = r.before;
          later = r.later ++ d ∷ [];
          more = r.more;
          rest = r.rest ++ deed_line flow d;
          split = ap (λ ds. ds ++ d ∷ []) r.split ∙ append_assoc r.before r.later (d ∷ []);
          text_is = ap (λ t. before ++ t) none ∙ (append-nil before ∙ r.text_is);
          is_front =
              append-nil (lines_of flow (r.later ++ d ∷ []))
              ∙ (lines_more flow r.later d
              ∙ (ap (λ t. t ++ deed_line flow d) (sym (append-nil (lines_of flow r.later)) ∙ r.is_front) ∙ append_assoc r.more r.rest (deed_line flow d)));
          has_starts = λ losing. none_started r.later d (r.has_starts losing) refl;
          has_all = λ its. true_false (sym (sound.device (x.1 ∙ ap Some (device_is x.0 its))) ∙ whole);
        },
      )

  tells : IsToldSoFar flow k (deeds ++ d ∷ []) (before ++ text)
  tells = go h.telling refl k.telling refl put
    where
      go : (a : Bool) → h.telling ≡ a → (b : Bool) → k.telling ≡ b → IsEndPut a b line text → IsToldSoFar flow k (deeds ++ d ∷ []) (before ++ text)
      go true was true is whole_line =
          record {
            all = λ x. ap (λ t. t ++ text) (told.all was) ∙ (ap (λ t. lines_of flow deeds ++ t) (whole_line ∙ sym (line_is flow j how)) ∙ sym (lines_more flow deeds d));
            front = λ x. true_false (sym is ∙ x);
          }
      go true was false is front = record { all = λ x. true_false (sym x ∙ is); front = λ x. cut_here was is front }
      go false was true is none = true_false (sym is ∙ silent was)
      go false was false is none = record { all = λ x. true_false (sym x ∙ is); front = λ x. still was none }

pub tells_end :
    (flow : Flow) (h k : Parts) (j : Job) (how : End) (text : Text) → IsEndPut h.telling k.telling (end_line (named_job flow j) how) text →
    ((f : Fault) → h.halt.fault ≡ Some f → k.halt.fault ≡ Some f) → IsLostFor h k → (h.telling ≡ false → k.telling ≡ false) →
    IsSoundHalt h.halt → h.halt.only_waits ≡ false → TellsOn flow h k (Closed j (told_end how) ∷ []) text
tells_end flow h k j how text put stays lost silent sound whole deeds before told = tells flow h k j how text put stays lost silent sound whole deeds before told

-- nothing was put, and nothing done that is told
pub tells_nothing : (flow : Flow) (h k : Parts) → k.telling ≡ h.telling → ((f : Fault) → h.halt.fault ≡ Some f → k.halt.fault ≡ Some f) → TellsOn flow h k [] []
tells_nothing flow h k same stays deeds before told =
    subst (λ t. IsToldSoFar flow k (deeds ++ []) t) (sym (append-nil before))
    (subst (λ ds. IsToldSoFar flow k ds before) (sym (append-nil deeds))
    (record {
      all = λ x. told.all (sym same ∙ x);
      front = λ x. let f = told.front (sym same ∙ x) in (f.0, stays f.0 f.1, f.2);
    }))
