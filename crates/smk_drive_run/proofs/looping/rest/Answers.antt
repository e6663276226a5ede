use Rattle.std.proofs.Common.{sym, ◌∙◌}
use Rattle.smk_drive_run.proofs.looping.rest.Goals as goal

pub look_again-requires-clause-free : goal.look_again-requires-clause-free
look_again-requires-clause-free g c = λ κs within. sym c.is_idle.ensures ∙ c.if-is_idle.true
