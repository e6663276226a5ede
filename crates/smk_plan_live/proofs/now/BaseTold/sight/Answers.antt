use Rattle.std.proofs.Common.{sym, ◌∙◌}
use Rattle.smk_plan_live.proofs.Tables.{seen_is}
use Rattle.smk_plan_live.proofs.now.BaseTold.sight.Goals as goal

pub returns : goal.returns
returns c = c.sight_now.ensures ∙ sym (seen_is c.args.self.now c.args.path.now)
