use Rattle.std.proofs.Common.{rules, []}
use Rattle.smk_world_mem.proofs.calls.make_parents.Goals as goal

pub returns-then-fails-clause-adds : goal.returns-then-fails-clause-adds
returns-then-fails-clause-adds c = record { left = []; steps_are = search rules; lets = λ w agrees. tt; nodes_are = λ w agrees. agrees }
