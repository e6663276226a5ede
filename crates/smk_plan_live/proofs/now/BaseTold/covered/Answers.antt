use Rattle.std.proofs.Common.{◌∙◌}
use Rattle.std.proofs.lemmas.Result.{IfOk-weaker}
use Rattle.smk_plan_live.proofs.Tables.{covered_is}
use Rattle.smk_plan_live.proofs.now.BaseTold.covered.Goals as goal

pub returns : goal.returns
returns c = IfOk-weaker c.covered_now.result _ _ (λ found told. told ∙ covered_is c.args.self.now c.args.path.now) c.covered_now.ensures
