use Rattle.std.proofs.Common.{rules}
use Rattle.smk_parse_print.proofs.Back.{given_back}
use Rattle.smk_parse_print.proofs.statements.print.Goals as goal

pub returns-clause-exact : goal.returns-clause-exact
returns-clause-exact c = search rules

pub returns-clause-reads_back : goal.returns-clause-reads_back
returns-clause-reads_back c = given_back c.args.syntax.now c.of.result (returns-clause-exact c)
