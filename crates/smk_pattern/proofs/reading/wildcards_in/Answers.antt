use Rattle.std.proofs.Common.{ap, ◌∙◌, arith, sym, subst, List, ℕ}
use Rattle.smk_pattern.specs.Pieces.{wildcards_of}
use Rattle.smk_pattern.specs.ByName.{text_at}
use Rattle.smk_pattern.specs.Searching.{now_of}
use Rattle.smk_pattern.specs.Written.{IsFirstBad}
use Rattle.smk_pattern.proofs.Limited.{wildcards_push, limits_more, first_bad}
use Rattle.smk_pattern.proofs.reading.wildcards_in.Goals as goal

pub loop-name-preserved : goal.loop-name-preserved
loop-name-preserved c =
    let limit_of = text_at c.args.limits.now in
    let names = c.args.names.now in
    let i = c.loop-name.name-index in
    record {
      made = ap wildcards_of c.in_ok-push.ensures.ok
          ∙ wildcards_push limit_of c.loop-name.made _ names i _ (omega arith) c.loop-name.invariant.made c.in_ok-of.ensures (c.in_ok-limit.ensures.text ∙ c.text_at.ensures);
      read = limits_more limit_of names i _ (omega arith) c.loop-name.invariant.read (λ text e. c.in_ok-limit.ensures.read text (c.text_at.ensures ∙ e));
    }

pub returns-in_err-limit-clause-bad : goal.returns-in_err-limit-clause-bad
returns-in_err-limit-clause-bad c = λ bad e.
    let limit_of = text_at c.args.limits.now in
    let names = c.args.names.now in
    let r = rw e at c.from_residual.ensures in
    let b = c.in_err-limit.ensures.bad bad (let q = r.1 in cc) in
    subst (λ (n : List ℕ). IsFirstBad limit_of (now_of names) n) (sym b.0)
    (first_bad limit_of names c.loop-name.name-index _ b.1.0 c.loop-name-test.true c.loop-name.invariant.read (sym c.text_at.ensures ∙ b.1.1) b.1.2)
