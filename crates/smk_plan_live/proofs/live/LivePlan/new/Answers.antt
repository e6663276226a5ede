use Rattle.std.proofs.Common.{sym, subst}
use Rattle.std.proofs.lemmas.Result.{IfOk-weaker, IfErr-weaker}
use Rattle.smk_plan_live.specs.Lives.{IsAgreed}
use Rattle.smk_plan_live.specs.Changes.{IsFirst}
use Rattle.smk_plan_live.proofs.First.{agrees_first, first_named, refused_first}
use Rattle.smk_plan_live.proofs.live.LivePlan.new.Goals as goal

pub over-requires : goal.over-requires
over-requires g c = (
  c.type_bounds.sync-Rt,
  (c.in-Ok.ensures.sound, first_named c.in-Ok.base c.args.jobs c.args.store c.args.seen c.in-Ok.ensures.first),
)

pub returns-in-Ok-clause-first : goal.returns-in-Ok-clause-first
returns-in-Ok-clause-first g c =
    IfOk-weaker c.over.result _ _ (λ p same. (
      subst (IsFirst c.args.jobs c.args.store c.args.seen)
          (sym same.0) c.in-Ok.ensures.first,
      same.1,
    )) c.over.ensures.so

pub returns-in-Ok-clause-so : goal.returns-in-Ok-clause-so
returns-in-Ok-clause-so g c =
    IfOk-weaker c.over.result _ _
    (λ p same. λ image agree.
    subst (IsAgreed image c.args.settings) (sym same.0)
    (agrees_first c.in-Ok.base c.args.jobs c.args.store c.args.seen c.in-Ok.ensures.first image c.args.settings agree))
    c.over.ensures.so

pub returns-in-Ok-clause-refused : goal.returns-in-Ok-clause-refused
returns-in-Ok-clause-refused g c =
    IfErr-weaker c.over.result _ _
    (λ fault told. λ other image agree. refused_first c.in-Ok.base c.args.jobs c.args.store c.args.seen c.in-Ok.ensures.first image c.args.settings fault
    (told other) agree)
    c.over.ensures.refused
