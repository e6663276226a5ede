use Rattle.std.proofs.Common.{◌∙◌, ap, sym}
use Rattle.std.proofs.lemmas.Result.{on_ok_weaker}
use Rattle.smk_choose.specs.Index.{is_last}
use Rattle.smk_choose.proofs.Indexed.{stays, pushed}
use Rattle.smk_choose.proofs.index.add_number.Goals as goal

pub returns-then-is_last : goal.returns-then-is_last
returns-then-is_last c =
    stays c.args.number c.args.numbers.now (ap (is_last c.args.number) (sym c.as_slice.ensures) ∙ sym c.is_last.ensures ∙ c.if-is_last.true)

pub returns : goal.returns
returns c =
    on_ok_weaker c.push.result
    (pushed c.args.number c.args.numbers.now c.push.new.self (ap (is_last c.args.number) (sym c.as_slice.ensures) ∙ sym c.is_last.ensures ∙ c.if-is_last.false))
    c.push.ensures.ok
