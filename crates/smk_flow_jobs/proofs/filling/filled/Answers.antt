use Rattle.smk_flow_jobs.proofs.FilledTexts.{fills}
use Rattle.smk_flow_jobs.proofs.filling.filled.Goals as goal

pub returns-in-Ok : goal.returns-in-Ok
returns-in-Ok c = fills c.in_ok-pattern.pattern c.new.result c.args.text.now c.in-Ok.made c.args.binding.now c.in_ok-pattern.ensures c.in-Ok.ensures.ok
