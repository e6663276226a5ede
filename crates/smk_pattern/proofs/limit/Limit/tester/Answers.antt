use Rattle.std.proofs.Common.{IfOk}
use Rattle.smk_pattern.proofs.Meaning.{tester_of}
use Rattle.smk_pattern.specs.Testers.{IsTesterOf}
use Rattle.smk_pattern.proofs.limit.Limit.tester.Goals as goal
use Rattle.std.proofs.lemmas.Result.{IfOk-weaker}

pub returns : goal.returns
returns c =
    IfOk-weaker c.matcher.result _ (IsTesterOf c.args.self.now)
    (λ m e. rw (← c.self.view_is) (tester_of _ c.self.inside.whole m c.self.invariant e))
    c.matcher.ensures.pattern
