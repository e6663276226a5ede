use Rattle.smk_record.proofs.Exact.{begin_with_one, none_is_prefix}
use Rattle.smk_record.proofs.spellings_are_apart.Goals as goal

pub returns : goal.returns
returns c = record { one = begin_with_one; prefix = none_is_prefix }
