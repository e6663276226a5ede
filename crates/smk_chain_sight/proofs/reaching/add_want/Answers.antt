use Rattle.std.proofs.Common.{refl}
use Rattle.smk_chain_sight.proofs.Distinct.{nothing_added}
use Rattle.smk_chain_sight.proofs.reaching.add_want.Goals as goal

pub returns-in-NoPath-clause-added : goal.returns-in-NoPath-clause-added
returns-in-NoPath-clause-added c = rw c.in-NoPath.is (nothing_added c.args.found.now.paths.items _ c.requires.each refl)
