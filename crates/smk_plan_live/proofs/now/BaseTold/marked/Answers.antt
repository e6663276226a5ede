use Rattle.std.proofs.Common.{sym, ap, ◌∙◌}
use Rattle.smk_store.specs.declared.store.Entry.{Entry}
use Rattle.smk_plan.specs.States.{test_some}
use Rattle.smk_plan_live.proofs.Tables.{known_is}
use Rattle.smk_plan_live.proofs.now.BaseTold.marked.Goals as goal

pub returns : goal.returns
returns c = c.marked_now.ensures ∙ ap (test_some (λ (e : Entry). e.marked)) (sym (known_is c.args.self.now c.args.path.now))
