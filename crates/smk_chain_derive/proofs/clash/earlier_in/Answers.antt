use Rattle.std.specs.BTreeSet.{contains_text}
use Rattle.smk_chain_derive.specs.Clashes.{spot_paths}
use Rattle.smk_chain_derive.proofs.Firsts.{none_overlaps}
use Rattle.smk_chain_derive.proofs.clash.earlier_in.Goals as goal

pub returns-then-not-branch : goal.returns-then-not-branch
returns-then-not-branch c =
    none_overlaps c.args.path.now (spot_paths c.args.earlier.now) (contains_text c.args.taken.now) c.requires.taken
    (c.in_ok-is_taken.ensures c.if-not-branch.true)
