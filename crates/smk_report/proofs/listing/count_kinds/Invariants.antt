use Rattle.std.proofs.Common.{◌≡◌, take}
use Rattle.std.specs.List.{count_by}
use Rattle.smk_trigger.specs.JobStates.{is_dirty, is_restore, is_open, is_clean}
use Rattle.smk_report.proofs.listing.count_kinds.Given as goal

abbrev pub invariant-loop-state : goal.invariant-loop-state
invariant-loop-state l = record {
  dirty : l.counts.dirty ≡ count_by is_dirty (take l.state-index l.states);
  restored : l.counts.restored ≡ count_by is_restore (take l.state-index l.states);
  opened : l.counts.opened ≡ count_by is_open (take l.state-index l.states);
  clean : l.counts.clean ≡ count_by is_clean (take l.state-index l.states);
}
