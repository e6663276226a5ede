use Rattle.std.proofs.Common.{◌≡◌, drop}
use Rattle.smk_eval_rules.specs.Logs.{item_of}
use Rattle.smk_eval_rules.proofs.commands.item_of.Given as goal

abbrev pub invariant-loop-item : goal.invariant-loop-item
invariant-loop-item l = item_of (drop l.item-index l.items) l.field ≡ item_of l.items l.field
