use Rattle.std.proofs.Common.{◌≡◌, ◌-◌}
use Rattle.smk_record.specs.Reading.{each_in, item_in, all}
use Rattle.smk_record.proofs.Loop.{with_both}
use Rattle.smk_record.proofs.inputs.items_of.Given as goal

abbrev pub invariant-loop : goal.invariant-loop
invariant-loop l = with_both l.items l.stamps (each_in all item_in (l.count - l.counter) l.rest) ≡ each_in all item_in l.count l.bytes
