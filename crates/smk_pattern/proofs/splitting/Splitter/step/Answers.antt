use Rattle.std.proofs.Common.{arith}
use Rattle.smk_pattern.proofs.Split.{goes_on, takes_other, other_byte}
use Rattle.smk_pattern.proofs.splitting.Splitter.step.Goals as goal

pub returns-clause-step : goal.returns-clause-step
returns-clause-step c =
    let s = c.args.self.now in
    let r = c.requires.read in
    let deep = r.open_braces in
    goes_on s c.args.at c.args.byte s.depth r c.requires.within c.requires.byte
    (takes_other c.args.byte s.depth _ _ (other_byte c.args.byte 123 (λ e. omega (arith, e))) (other_byte c.args.byte 125 (λ e. omega (arith, e)))) (omega arith)
