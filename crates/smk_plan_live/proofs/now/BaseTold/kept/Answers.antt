use Rattle.std.proofs.Common.{option_map, sym, ap, ◌∙◌}
use Rattle.smk_store.specs.declared.store.Entry.{Entry}
use Rattle.smk_plan_live.proofs.Tables.{known_is}
use Rattle.smk_plan_live.proofs.now.BaseTold.kept.Goals as goal

pub returns : goal.returns
returns c = c.kept_now.ensures ∙ ap (option_map (λ (e : Entry). e.kept)) (sym (known_is c.args.self.now c.args.path.now))
