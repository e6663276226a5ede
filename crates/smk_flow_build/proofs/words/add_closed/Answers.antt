use Rattle.smk_flow_build.proofs.words.add_closed.Goals as goal

pub behind-name-requires-clause-order : goal.behind-name-requires-clause-order
behind-name-requires-clause-order c = (c.requires.from c.in-Some.brace c.in-Some.is).0

pub behind-name-requires-clause-from : goal.behind-name-requires-clause-from
behind-name-requires-clause-from c = (c.requires.from c.in-Some.brace c.in-Some.is).1
