use Rattle.std.proofs.Common.{◌≡◌, drop}
use Rattle.std.specs.List.{list_any}
use Rattle.smk_plan_facts.specs.Telling.{is_aimed}
use Rattle.smk_plan_facts.proofs.forced.Forcing.aims.Given as goal

abbrev pub invariant-loop-out : goal.invariant-loop-out
invariant-loop-out l = list_any (is_aimed l.self) l.outs ≡ list_any (is_aimed l.self) (drop l.out-index l.outs)
