use Rattle.std.proofs.Common.{map, ap, ◌∙◌}
use Rattle.smk_store.proofs.Stored.{names_back}
use Rattle.smk_store.proofs.store.Store.paths.Goals as goal

pub returns-clause-value : goal.returns-clause-value
returns-clause-value c = names_back c.self.inside.paths c.self.inside.entries c.self.invariant.each ∙ ap (λ ks. map (λ k. k.path) ks) c.self.view_is

pub returns-clause-rising : goal.returns-clause-rising
returns-clause-rising c = c.self.invariant.rising
