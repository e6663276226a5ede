-- What the jobs are judged by at any moment.
use Rattle.std.proofs.Common.{◌≡◌, Bool, true, List, [], ◌∷◌, map, refl, sym, ap, ap₂, ◌∙◌}
use Rattle.std.specs.List.{AllZip, list_all}
use Rattle.smk_world.specs.Trees.{Each}
use Rattle.smk_flow.specs.declared.job.Job.{Job}
use Rattle.smk_store.specs.Images.{Image}
use Rattle.smk_chain.specs.declared.jobs.Maker.{Maker}
use Rattle.smk_pick.specs.declared.settings.Settings.{Settings}
use Rattle.smk_plan.specs.declared.fault.PlanFault.{PlanFault}
use Rattle.smk_plan.specs.declared.plan.Plan.{Plan as Told}
use Rattle.smk_plan.specs.declared.wholes.Wholes.{Wholes}
use Rattle.smk_plan.specs.Sights.{wholes_of}
use Rattle.smk_plan_facts.specs.Facts.{AreFactsOf, IsMade}
use Rattle.smk_plan_facts.specs.Laws.{FactsAreSo, WholesAreSo}
use Rattle.smk_plan_facts.specs.Telling.{directories_of, has_path_texts, is_told_whole, wholes_in, IsSorted}
use Rattle.smk_plan_states.specs.declared.rows.Rows.{Rows}
use Rattle.smk_plan_states.specs.Judged.{with_states}
use Rattle.smk_plan_states.specs.declared.rows.Own.{Own}
use Rattle.smk_plan_states.specs.Rows.{FitOwn, forced_at, reasons_at}
use Rattle.smk_plan_states.specs.Stays.{told_by}
use Rattle.smk_plan_table.specs.declared.suspects.Suspect.{Suspect}
use Rattle.smk_plan_table.specs.Plans.{Agree, IsGiven, IsRefusedAt}
use Rattle.smk_plan_live.specs.declared.base.Base.{Base}
use Rattle.smk_plan_live.specs.Phases.{begun_in, has_begun}
use Rattle.smk_plan_live.specs.Now.{known_now, seen_now}
use Rattle.smk_plan_live.specs.Kept.{facts_now, forced_now, own_by, own_now, told_by_flags}
use Rattle.smk_plan_live.specs.Lives.{AreLentNow, AreWhole, IsAgreed, IsTold, judging_of, progress_of}
use Rattle.smk_plan_live.proofs.Bridge.{reasons_are, forced_are}
use Rattle.smk_plan_live.proofs.Counted.{as_known, counted_agrees, held_same, made_same, refusal_same, unmarked}
use Rattle.smk_plan_live.proofs.Numbered.{begun_are, running_are}
use Rattle.smk_plan_live.proofs.Tables.{left_now}

-- where it is told rightly of each maker whether its path is whole, these are the flags
whole_flags :
    (jobs : List Job) (test : Maker → Bool) (makers : List Maker) (flags : List Bool) → AllZip (λ m f. IsMade jobs m → f ≡ test m) makers flags →
    Each (IsMade jobs) makers → flags ≡ map test makers
whole_flags jobs test [] [] h made = refl
whole_flags jobs test [] (f ∷ flags) h made = absurd h
whole_flags jobs test (m ∷ makers) [] h made = absurd h
whole_flags jobs test (m ∷ makers) (f ∷ flags) h made = ap₂ (λ g gs. g ∷ gs) (h.0 made.0) (whole_flags jobs test makers flags h.1 made.1)

-- what is lent is told by the rows
pub rows_tell :
    (b : Base) (l : List (List Bool)) (makers forced : List Bool) (rows : Rows) → rows.outputs.now ≡ l → rows.makers.now ≡ makers → rows.running.now ≡ b.began →
    told_by rows (own_by b b.jobs.jobs forced) forced ≡ told_by_flags b l makers forced
rows_tell b l makers forced rows outputs whole running = λ i.
    record { outputs = outputs i; makers = whole i; reasons = own_by b b.jobs.jobs forced; forced = forced; running = running i }

module _ (facts_law : FactsAreSo) (wholes_law : WholesAreSo) (b : Base) (settings : Settings) (image : Image) (agrees : IsAgreed image settings b) where
  -- the folder as it counts now
  abbrev pub counted_now : Image
  counted_now = as_known image (known_now b)

  pub agree_now : Agree counted_now b.jobs (known_now b) (seen_now b) settings.targets
  agree_now = counted_agrees image settings (progress_of b) b.jobs (known_now b) (seen_now b) agrees (left_now b)

  told_wholes : Each (Each (IsSorted (seen_now b))) (map (directories_of (known_now b) (seen_now b)) b.jobs.jobs) × (wholes_in (known_now b) (seen_now b) b.jobs ≡ wholes_of counted_now b.jobs)
  told_wholes = wholes_law counted_now b.jobs (known_now b) (seen_now b) agree_now.stored agree_now.sighted agree_now.named agree_now.recorded agree_now.made

  pub wholes_are : (wholes : Wholes) → AreWhole b wholes → wholes ≡ wholes_of counted_now b.jobs
  wholes_are wholes whole = whole told_wholes.0 ∙ told_wholes.1

  -- what is lent is so in the folder as it counts now
  pub given_now :
      (l : List (List Bool)) (makers : List Bool) (flags : List Own) (suspects : List Suspect) → AreLentNow settings b l makers flags suspects → (rows : Rows) →
      rows.outputs.now ≡ l → rows.makers.now ≡ makers → rows.own.now ≡ flags → rows.running.now ≡ b.began →
      (begun : List Bool) → begun ≡ map has_begun b.phases →
      IsGiven (judging_of counted_now settings b) b.jobs (known_now b) (seen_now b) rows begun suspects
  given_now l makers flags suspects given rows outputs whole own running begun has =
      let are : AllZip (AreFactsOf counted_now settings (begun_in b.jobs.jobs b.phases) (with_states b.jobs [])) b.jobs.jobs (facts_now settings b) =
      facts_law counted_now settings (begun_in b.jobs.jobs b.phases) (with_states b.jobs []) b.jobs (known_now b)
      (seen_now b) agree_now.stored agree_now.sighted agree_now.summed
      agree_now.recorded agree_now.read given.texts
      in let none = unmarked image settings (progress_of b) b.jobs (known_now b) (seen_now b) agrees (left_now b) in
      record {
        right = record {
          outputs = outputs ∙ given.outputs ∙ ap (λ (w : Wholes). w.outputs) told_wholes.1;
          makers = whole
              ∙ whole_flags b.jobs.jobs (is_told_whole (seen_now b) (map (directories_of (known_now b) (seen_now b)) b.jobs.jobs)) b.jobs.makers makers given.whole agree_now.made
              ∙ ap (λ (w : Wholes). w.makers) told_wholes.1;
          own =
              coe 0 1 (i. FitOwn (sym own i) (reasons_are counted_now settings (progress_of b) b.jobs none (facts_now settings b) are i)) given.own;
          running = running ∙ sym (running_are b settings.targets counted_now settings given.sound given.named agrees.served);
        };
        begun = has ∙ sym (begun_are b settings.targets given.sound given.named agrees.served);
        doubted = given.doubted;
      }

  -- the reasons of the definitions are those of the folder as it counts now, and so it is with the jobs that are forced
  pub told_here :
      (texts : list_all has_path_texts b.jobs.jobs ≡ true) →
      (own_now settings b ≡ reasons_at (judging_of counted_now settings b) b.jobs) × (forced_now settings b ≡ forced_at (judging_of counted_now settings b) b.jobs)
  told_here texts =
      let are : AllZip (AreFactsOf counted_now settings (begun_in b.jobs.jobs b.phases) (with_states b.jobs [])) b.jobs.jobs (facts_now settings b) =
      facts_law counted_now settings (begun_in b.jobs.jobs b.phases) (with_states b.jobs []) b.jobs (known_now b)
      (seen_now b) agree_now.stored agree_now.sighted agree_now.summed
      agree_now.recorded agree_now.read texts
      in let none = unmarked image settings (progress_of b) b.jobs (known_now b) (seen_now b) agrees (left_now b) in (
        reasons_are counted_now settings (progress_of b) b.jobs none (facts_now settings b) are,
        forced_are counted_now settings (progress_of b) b.jobs none (facts_now settings b) are,
      )

  -- what is told of the folder as it counts now is told of the folder
  pub told_now : (told : Told) (held : Bool) → IsTold settings b told held counted_now → IsTold settings b told held image
  told_now told held h =
      record {
        made = made_same image settings (progress_of b) b.jobs (known_now b) (seen_now b) agrees (left_now b) told h.made;
        back = h.back ∙ held_same image settings (progress_of b) b.jobs (known_now b) (seen_now b) agrees (left_now b) told.states;
      }

  pub refused_now : (fault : PlanFault) → IsRefusedAt (judging_of counted_now settings b) b.jobs fault → IsRefusedAt (judging_of image settings b) b.jobs fault
  refused_now fault h = refusal_same image settings (progress_of b) b.jobs (known_now b) (seen_now b) agrees (left_now b) fault h
