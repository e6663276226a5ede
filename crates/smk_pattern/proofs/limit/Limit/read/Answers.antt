use Rattle.std.proofs.Common.{◌∙◌}
use Rattle.smk_pattern.specs.Limits.{IsLimit}
use Rattle.smk_pattern.proofs.limit.Limit.read.Goals as goal

pub returns-in_err-compile-clause-no_regex : goal.returns-in_err-compile-clause-no_regex
unfolding IsLimit
returns-in_err-compile-clause-no_regex c = λ e (h : IsLimit c.args.text.now).
    let r = rw e at c.from_residual.ensures in
    c.in_err-compile.ensures.no_regex (let q = r.1 in cc) h.0

pub returns-in_err-whole-2-clause-no_regex : goal.returns-in_err-whole-2-clause-no_regex
unfolding IsLimit
returns-in_err-whole-2-clause-no_regex c = λ e (h : IsLimit c.args.text.now).
    let r = rw e at c.from_residual-in_err-whole-2.ensures in
    c.in_err-whole-2.ensures.no_regex (let q = r.1 in cc) (rw (c.deref.ensures, c.in_ok-whole.ensures) h.1)

pub invariant_of-result : goal.invariant_of-result
unfolding IsLimit
invariant_of-result c =
    let e = c.in_ok-whole-2.ensures in
    let same = c.deref.ensures ∙ c.in_ok-whole.ensures in
    rw c.in_ok-of.ensures (record {
      source = e.source ∙ same;
      config = e.config;
      read = e.read;
      is_limit = (c.in_ok-compile.ensures.is_regex, rw same at e.is_regex);
    })

pub returns-clause-read : goal.returns-clause-read
unfolding IsLimit
returns-clause-read c = (c.in_ok-compile.ensures.is_regex, rw (c.deref.ensures, c.in_ok-whole.ensures) at c.in_ok-whole-2.ensures.is_regex)
