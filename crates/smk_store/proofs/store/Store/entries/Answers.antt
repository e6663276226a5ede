use Rattle.std.proofs.Common.{map, ap, ◌∙◌}
use Rattle.smk_store.proofs.Stored.{entries_back}
use Rattle.smk_store.proofs.store.Store.entries.Goals as goal

pub returns : goal.returns
returns c = entries_back c.self.inside.paths c.self.inside.entries c.self.invariant.each ∙ ap (λ ks. map (λ k. k.entry) ks) c.self.view_is
