use Rattle.std.proofs.Common.{◌≡◌, ◌||◌, ℕ, List, drop}
use Rattle.std.specs.BTreeMap.{get_by_text}
use Rattle.std.specs.List.{list_any, zip}
use Rattle.smk_record.specs.declared.record.Stamp.{Stamp}
use Rattle.smk_trigger.specs.Updates.{differs, is_other}
use Rattle.smk_trigger.proofs.updates.recorded_of.Given as goal

abbrev pub invariant-loop-i : goal.invariant-loop-i
invariant-loop-i l = (q : List ℕ) (now : Stamp) →
    (differs (get_by_text l.recorded q) now || list_any (is_other q now) (zip (drop l.i l.paths) (drop l.i l.stamps))) ≡ list_any (is_other q now) (zip l.paths l.stamps)
