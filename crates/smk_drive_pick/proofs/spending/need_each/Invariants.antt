use Rattle.std.proofs.Common.{◌≡◌, drop}
use Rattle.smk_drive_pick.specs.Spending.{need_each}
use Rattle.smk_drive_pick.proofs.spending.need_each.Given as goal

abbrev pub invariant-loop-input : goal.invariant-loop-input
invariant-loop-input l = need_each l.needed.items (drop l.input-index l.inputs) ≡ need_each l.initial.needed.items l.inputs
