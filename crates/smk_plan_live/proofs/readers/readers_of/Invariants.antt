use Rattle.std.proofs.Common.{drop}
use Rattle.std.specs.BTreeMap.{get_by_text}
use Rattle.smk_plan_live.proofs.Users.{AreBelow, AreLeft}
use Rattle.smk_plan_live.proofs.readers.readers_of.Given as goal

abbrev pub invariant-loop-number : goal.invariant-loop-number
invariant-loop-number l = AreLeft (get_by_text l.base.sites) l.number (drop l.number l.jobs) l.readers.items l.jobs × AreBelow l.number l.readers.items
