use Rattle.std.proofs.Common.{◌≡◌, ◌-◌}
use Rattle.smk_record.specs.Reading.{each_in, stamped_in, alone}
use Rattle.smk_record.proofs.Loop.{with_both}
use Rattle.smk_record.proofs.inputs.stamped_of.Given as goal

abbrev pub invariant-loop : goal.invariant-loop
invariant-loop l = with_both l.paths l.stamps (each_in alone stamped_in (l.count - l.counter) l.rest) ≡ each_in alone stamped_in l.count l.bytes
