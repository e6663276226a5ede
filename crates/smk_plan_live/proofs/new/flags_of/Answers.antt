use Rattle.std.proofs.Common.{ℕ, List, map, ap, sym, subst, ◌∙◌}
use Rattle.std.specs.List.{AllZip}
use Rattle.smk_plan_facts.specs.Telling.{outputs_in}
use Rattle.smk_plan_table.specs.Parts.{IsSuspectOf}
use Rattle.smk_plan_states.specs.declared.rows.Own.{Own}
use Rattle.smk_plan_states.specs.Rows.{FitOwn}
use Rattle.smk_plan_states.proofs.OwnReasons.{fits_own}
use Rattle.smk_plan_live.specs.Kept.{own_now}
use Rattle.smk_plan_live.specs.Making.{AreMadeBy}
use Rattle.smk_plan_live.specs.Now.{known_now, seen_now}
use Rattle.smk_plan_live.proofs.Settled.{flags_made}
use Rattle.smk_plan_live.proofs.new.flags_of.Goals as goal

pub returns-clause-now : goal.returns-clause-now
returns-clause-now c =
    let b = c.args.base.now in
    record {
      outputs = c.of.ensures ∙ c.in_ok-outputs.ensures ∙ ap (map (outputs_in (known_now b) (seen_now b))) c.as_slice-jobs.ensures;
      makers = flags_made b c.in_ok-makers.makers c.in_ok-makers.ensures;
      suspects =
          coe 1 0 (i. AllZip (IsSuspectOf (known_now b) (seen_now b) c.args.settings.now.bounds) (sym c.as_slice-jobs.ensures i) (c.of-2.ensures i))
          c.in_ok-suspects.ensures;
      own =
          subst (λ (flags : List Own). FitOwn flags (own_now c.args.settings.now b)) (sym (c.of-3.ensures ∙ c.requires.own)) (fits_own (own_now c.args.settings.now b));
      forced = c.of-4.ensures ∙ c.requires.forced;
    }

pub returns-clause-made : goal.returns-clause-made
returns-clause-made c =
    let jobs = c.args.base.now.jobs in
    subst (λ (rows : List (List ℕ)). AreMadeBy jobs.jobs jobs.makers rows) (sym c.of-5.ensures) c.in_ok-made.ensures
