-- What is lent of a basis tells what is so where the jobs are judged.
use Rattle.std.proofs.Common.{◌≡◌, ◌∙◌, Bool, List, map, ap, subst, sym}
use Rattle.std.specs.List.{AllZip}
use Rattle.smk_store.specs.Stores.{Known}
use Rattle.smk_chain.specs.declared.jobs.Jobs.{Jobs}
use Rattle.smk_plan.specs.declared.seen.Sight.{Sight}
use Rattle.smk_plan.specs.declared.wholes.Wholes.{Wholes}
use Rattle.smk_plan_states.specs.declared.rows.Own.{Own}
use Rattle.smk_plan_states.specs.declared.rows.Rows.{Rows}
use Rattle.smk_plan_states.specs.Judged.{Judging}
use Rattle.smk_plan_states.specs.Rows.{AreRowsAt, FitOwn, lent, own_of, reasons_at}
use Rattle.smk_plan_states.proofs.OwnReasons.{fits_own}
use Rattle.smk_plan_table.specs.declared.judging.Basis.{Basis}
use Rattle.smk_plan_table.specs.declared.suspects.Suspect.{Suspect}
use Rattle.smk_plan_table.specs.Bases.{IsBasisAt}
use Rattle.smk_plan_table.specs.Parts.{IsSuspectOf}
use Rattle.smk_plan_table.specs.Plans.{IsGiven}

module _
    (at : Judging) (jobs : Jobs) (store : List Known) (seen : List Sight) (basis : Basis) (rows : Rows) (so : IsBasisAt at jobs store seen basis)
    (outputs : rows.outputs.now ≡ basis.wholes.outputs) (makers : rows.makers.now ≡ basis.wholes.makers) (own : rows.own.now ≡ map own_of basis.judged.reasons)
    (running : rows.running.now ≡ basis.judged.running) where
  pub rows_right : AreRowsAt at jobs rows
  rows_right =
      record {
        outputs = outputs ∙ ap (λ (w : Wholes). w.outputs) so.wholes;
        makers = makers ∙ ap (λ (w : Wholes). w.makers) so.wholes;
        own =
            subst (λ (flags : List Own). FitOwn flags (reasons_at at jobs)) (sym (own ∙ ap (map own_of) so.judged.reasons)) (fits_own (reasons_at at jobs));
        running = running ∙ so.judged.running;
      }

  pub given_right :
      (begun : List Bool) (suspects : List Suspect) → begun ≡ basis.begun.items → suspects ≡ basis.suspects.items → IsGiven at jobs store seen rows begun suspects
  given_right begun suspects began doubted =
      record {
        right = rows_right;
        begun = began ∙ so.begun;
        doubted = coe 1 0 (i. AllZip (IsSuspectOf store seen at.settings.bounds) jobs.jobs (doubted i)) so.doubted;
      }
