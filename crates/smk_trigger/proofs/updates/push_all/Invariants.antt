use Rattle.std.proofs.Common.{◌≡◌, ◌++◌, drop}
use Rattle.std.specs.BTreeMap.{get_by_text}
use Rattle.std.specs.List.{zip}
use Rattle.smk_trigger.specs.Updates.{updates_in}
use Rattle.smk_trigger.proofs.updates.push_all.Given as goal

abbrev pub invariant-loop-i : goal.invariant-loop-i
invariant-loop-i l =
    l.found ++ updates_in (λ q. get_by_text l.recorded q) (zip (drop l.i l.paths) (drop l.i l.stamps))
    ≡ l.initial.found ++ updates_in (λ q. get_by_text l.initial.recorded q) (zip l.paths l.stamps)
