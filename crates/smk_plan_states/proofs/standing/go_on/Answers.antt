use Rattle.std.proofs.Common.{◌∙◌, ◌<◌, Bool, List, Option, Global, length, subst, sym, ap}
use Rattle.std.specs.Prelude.{IfSome, Vec}
use Rattle.smk_trigger.specs.declared.reason.Reason.{Reason}
use Rattle.smk_plan_states.specs.declared.ranks.Rank.{Rank}
use Rattle.smk_plan_states.specs.Ranking.{lacking_at}
use Rattle.smk_plan_states.specs.Rows.{FitOwn}
use Rattle.smk_plan_states.specs.Stays.{AreAfter, told_by}
use Rattle.smk_plan_states.proofs.standing.go_on.Goals as goal

pub returns : goal.returns
returns c =
    record {
      after =
          subst
          (λ (o : Option (Vec Rank Global)).
          IfSome o
          (λ now.
          (reasons : List (List Reason)) (forced : List Bool) → FitOwn c.args.rows.now.own.now reasons →
          AreAfter c.args.lines.now c.args.step.now.origins.now (told_by c.args.rows.now reasons forced) c.args.step.now.used.now c.args.step.now.doubts.now c.args.step.now.plain.now c.args.step.now.job
          c.args.ranks.now now.items))
          c.in-Some.is c.in_ok-first.ensures.after;
      within = subst (λ (o : Option (Vec Rank Global)). IfSome o (λ now. c.args.step.now.job < length c.args.lines.now)) c.in-Some.is c.in_ok-first.ensures.within;
      whole = ap (λ (rs : List Rank). lacking_at rs c.args.rows.now.outputs.now c.args.step.now.job) (sym c.as_slice-2.ensures.value) ∙ sym c.is_lacking_at.ensures
          ∙ c.if-is_lacking_at.false;
      each = ap length (sym c.as_slice.ensures.value) ∙ c.is_for_each.ensures c.if-not-is_for_each.false;
    }
