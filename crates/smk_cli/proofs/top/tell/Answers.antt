use Rattle.std.proofs.Common.{◌∙◌, subst, sym}
use Rattle.smk_cli_calls.specs.Lines.{HasToldFault}
use Rattle.smk_cli.proofs.Putting.{told_line, told_none}
use Rattle.smk_cli.proofs.top.tell.Goals as goal

pub returns-in-Ok-clause-line : goal.returns-in-Ok-clause-line
returns-in-Ok-clause-line g c = subst (λ f. HasToldFault f (g.O.Sink.sunk c.args.err.now) (g.O.Sink.sunk c.args.err.now)) (sym c.of.ensures.fault) (told_none _)

pub returns-in-Ok-fault_line-clause-line : goal.returns-in-Ok-fault_line-clause-line
returns-in-Ok-fault_line-clause-line g c =
    subst (λ f. HasToldFault f (g.O.Sink.sunk c.args.err.now) (g.O.Sink.sunk c.write_out.new.out)) (sym c.of-in-Ok-fault_line.ensures.fault)
    (told_line c.in-Err.fault c.as_str.result.now _ _ c.write_out.result (c.as_str.ensures ∙ c.in-Ok-fault_line.ensures) c.write_out.ensures)
