use Rattle.std.proofs.Common.{◌+◌, ℕ, refl, ap, arith, Bor, List}
use Rattle.smk_pattern.proofs.Split.{goes_on, opens, takes_deeper}
use Rattle.smk_pattern.proofs.splitting.Splitter.open.Goals as goal

pub returns-then-self-gt0-clause-read : goal.returns-then-self-gt0-clause-read
returns-then-self-gt0-clause-read c =
    let s = c.args.self.now in
    let r = c.requires.read in
    let deep = r.open_braces in
    goes_on s c.args.at 123 (s.depth + 1) r c.requires.within c.requires.byte (takes_deeper s.depth _ _ (omega arith)) (omega arith)

pub returns-clause-read : goal.returns-clause-read
returns-clause-read c =
    let s = c.args.self.now in
    let e = c.in_ok-end_text.ensures in
    opens s _ c.args.at c.requires.read c.requires.within c.requires.byte (omega arith) refl (ap (λ (b : Bor (List ℕ)). b.now) e.same.0) refl e.made
