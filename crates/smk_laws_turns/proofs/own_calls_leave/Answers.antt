use Rattle.smk_laws_turns.proofs.Leaving.{own_calls_leave}
use Rattle.smk_laws_turns.proofs.own_calls_leave.Goals as goal

pub returns : goal.returns
returns c = own_calls_leave
