use Rattle.std.proofs.Common.{◌≡◌, true, false, arith}
use Rattle.std.specs.Prelude.{slice_index_or}
use Rattle.smk_plan_states.specs.declared.lines.Line.{Line}
use Rattle.smk_plan_states.specs.Stays.{IsToldBy, told_by}
use Rattle.smk_plan_states.proofs.Steps.{one_more, all_lines}
use Rattle.smk_plan_states.proofs.after.Step.are_told.Goals as goal

pub loop-number-preserved : goal.loop-number-preserved
loop-number-preserved c = λ reasons forced fits.
    let s = c.args.self.now in
    one_more c.args.lines.now
    (λ n (line : Line). slice_index_or s.doubts.now n false ≡ true →
    IsToldBy s.origins.now (told_by c.args.rows.now reasons forced) s.used.now s.plain.now s.job c.args.ranks.now n line)
    c.loop-number.number c.index-lines-number.result c.loop-number-test.true c.index-lines-number.is (c.in_ok-is_told.ensures c.if-not-branch.false reasons forced fits)
    (λ n line lt e. c.loop-number.invariant reasons forced fits n line lt e)

pub returns : goal.returns
returns c = λ h reasons forced fits.
    let s = c.args.self.now in
    all_lines c.args.lines.now
    (λ n (line : Line). slice_index_or s.doubts.now n false ≡ true →
    IsToldBy s.origins.now (told_by c.args.rows.now reasons forced) s.used.now s.plain.now s.job c.args.ranks.now n line)
    c.loop-number.number (omega (arith, c.loop-number-test.false)) (λ n line lt e. c.loop-number.invariant reasons forced fits n line lt e)
