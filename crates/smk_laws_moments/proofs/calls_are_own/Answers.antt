use Rattle.smk_laws_moments.proofs.OwnCalls.{own_calls_begin_none, own_calls_keep_begun}
use Rattle.smk_laws_moments.proofs.calls_are_own.Goals as goal

pub returns : goal.returns
returns c = record { none = own_calls_begin_none; keep = own_calls_keep_begun }
