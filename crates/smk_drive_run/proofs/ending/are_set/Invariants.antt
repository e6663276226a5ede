use Rattle.std.proofs.Common.{◌≡◌, Bool, drop}
use Rattle.std.specs.List.{list_all}
use Rattle.smk_drive_run.proofs.ending.are_set.Given as goal

abbrev pub invariant-loop-flag : goal.invariant-loop-flag
invariant-loop-flag l = list_all (λ (b : Bool). b) l.flags ≡ list_all (λ (b : Bool). b) (drop l.flag-index l.flags)
