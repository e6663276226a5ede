use Rattle.std.proofs.Common.{◌≡◌, filter}
use Rattle.smk_choose.specs.Told.{told_by}
use Rattle.smk_choose.specs.Readings.{is_apart_by}
use Rattle.smk_choose.proofs.candidates.all_apart.Given as goal

abbrev pub invariant-loop-made : goal.invariant-loop-made
invariant-loop-made l = l.kept.items ≡ filter (is_apart_by (told_by l.sources).holds l.rules) l.yielded
