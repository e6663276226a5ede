use Rattle.std.proofs.Common.{[], get_or}
use Rattle.smk_pattern.proofs.Least.{suit_of}
use Rattle.smk_pattern.proofs.fitting.least_part.Goals as goal

pub returns-in-Some : goal.returns-in-Some
returns-in-Some c = λ values s.
    rw c.in-Wild.is
    (c.least_value.ensures (get_or values c.in-Wild.number []) (suit_of c.args.wildcards.now values c.in-Wild.number c.in-Some.wildcard.now s c.in-Some.ensures.lookup.0 c.in-Some.ensures.lookup.1))
