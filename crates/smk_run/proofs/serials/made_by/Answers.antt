use Rattle.std.proofs.Common.{◌≡◌, ℕ, None, Option, ap, subst, ◌∙◌}
use Rattle.std.specs.BTreeMap.{get_by_text}
use Rattle.std.specs.Option.{option_and_then}
use Rattle.smk_run.specs.Duties.{serial_in}
use Rattle.smk_run.proofs.Makers.{found_in, found_step, found_is, none_left}
use Rattle.smk_run.proofs.serials.made_by.Goals as goal

pub makers-preserved : goal.makers-preserved
makers-preserved c = λ q.
    found_step (serial_in c.args.serials.now) c.makers.rest.now c.in-Some.before.now c.in-Some.last.now c.serial_by_maker.result (get_by_text c.makers.made q) (get_by_text c.put.new.made q) _ q
    c.in-Some.ensures.cases.0 c.serial_by_maker.ensures (c.in_ok-put.ensures q) (c.makers.invariant q)

pub returns : goal.returns
returns c = λ q.
    ap (option_and_then (λ (n : Option ℕ). n))
    (subst (λ l. found_in (serial_in c.args.serials.now) l (get_by_text c.makers.made q) q ≡ found_in (serial_in c.args.serials.now) c.args.makers.now None q)
    (none_left c.makers.rest.now c.in_default.ensures.cases) (c.makers.invariant q))
    ∙ found_is (serial_in c.args.serials.now) c.args.makers.now q
