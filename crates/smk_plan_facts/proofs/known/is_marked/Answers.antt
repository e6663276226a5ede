use Rattle.std.proofs.Common.{◌∙◌}
use Rattle.smk_store.specs.Stores.{entry_of}
use Rattle.smk_plan_facts.proofs.Entries.{mark_told}
use Rattle.smk_plan_facts.proofs.known.is_marked.Goals as goal

pub returns : goal.returns
returns g c = c.marked.ensures ∙ mark_told (entry_of (g.T.Told.known c.args.told.now) c.args.path.now)
