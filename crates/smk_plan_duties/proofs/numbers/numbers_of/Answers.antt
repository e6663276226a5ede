use Rattle.std.proofs.Common.{◌≡◌, ℕ, None, Option, ap, subst, ◌∙◌}
use Rattle.std.specs.BTreeMap.{get_by_text}
use Rattle.std.specs.Option.{option_and_then}
use Rattle.smk_plan_duties.proofs.Numbered.{found_in, found_step, found_is, none_left}
use Rattle.smk_plan_duties.proofs.numbers.numbers_of.Goals as goal

pub numbers-preserved : goal.numbers-preserved
numbers-preserved c = λ q.
    found_step c.numbers.rest.now c.in-Some.before.now c.in-Some.last.now (get_by_text c.numbers.numbers q) (get_by_text c.put.new.numbers q) _ q c.in-Some.ensures.cases.0 (c.in_ok-put.ensures q) (c.numbers.invariant q)

pub returns : goal.returns
returns c = λ q.
    ap (option_and_then (λ (n : Option ℕ). n))
    (subst (λ l. found_in l (get_by_text c.numbers.numbers q) q ≡ found_in c.args.makers.now None q) (none_left c.numbers.rest.now c.in_default.ensures.cases) (c.numbers.invariant q))
    ∙ found_is c.args.makers.now q
