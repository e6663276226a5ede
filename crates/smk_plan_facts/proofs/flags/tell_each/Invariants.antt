use Rattle.std.proofs.Common.{◌≡◌, drop}
use Rattle.smk_chain.specs.declared.jobs.Maker.{Maker}
use Rattle.smk_plan_facts.specs.Telling.{flags_each, is_made_in}
use Rattle.smk_plan_facts.proofs.flags.tell_each.Given as goal

abbrev pub invariant-loop-at : goal.invariant-loop-at
invariant-loop-at g l =
    flags_each (λ (m : Maker). is_made_in (g.T.Told.seen l.told) m.path l.directories) l.number l.makers (drop l.at-index l.numbers) l.flags.items
    ≡ flags_each (λ (m : Maker). is_made_in (g.T.Told.seen l.told) m.path l.directories) l.number l.makers l.numbers l.initial.flags.items
