use Rattle.smk_format.proofs.Refused.{command_not}
use Rattle.smk_format.proofs.making.command_of.Goals as goal

pub returns-in-Err-clause-not : goal.returns-in-Err-clause-not
returns-in-Err-clause-not c =
    command_not c.args.flow.now c.args.cores c.min.result c.args.job.now c.rule_name-rule.result.now c.command.result c.in-Err.fault c.format_fault.result
    c.rule_name-rule.ensures c.min.ensures c.in-Err.is c.command.ensures.unknown c.command.ensures.too_long c.format_fault.ensures
