use Rattle.std.proofs.Common.{◌≡◌, ◌-◌}
use Rattle.smk_record.specs.Reading.{some_in}
use Rattle.smk_record.proofs.Loop.{with_front}
use Rattle.smk_record.proofs.spelled.some_of.Given as goal

abbrev pub invariant-loop : goal.invariant-loop
invariant-loop g l = with_front l.values (some_in g.T.Spelled.takes (l.count - l.counter) l.rest) ≡ some_in g.T.Spelled.takes l.count l.bytes
