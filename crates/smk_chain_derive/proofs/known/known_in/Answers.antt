use Rattle.smk_chain_derive.specs.Clashes.{hinders_in, paths_in}
use Rattle.smk_chain_derive.proofs.Firsts.{none_first}
use Rattle.smk_chain_derive.proofs.known.known_in.Goals as goal

pub returns-then-not-branch : goal.returns-then-not-branch
returns-then-not-branch c =
    none_first (hinders_in c.args.store.now c.args.spot.now) (paths_in c.args.store.now)
    (c.in_ok-is_hindered.ensures c.if-not-branch.true)
