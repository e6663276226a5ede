use Rattle.std.proofs.Common.{◌≡◌, drop}
use Rattle.std.specs.List.{list_all}
use Rattle.smk_choose.specs.Told.{told_by}
use Rattle.smk_choose.specs.Readings.{is_free}
use Rattle.smk_choose.proofs.candidates.are_free.Given as goal

abbrev pub invariant-loop-pattern : goal.invariant-loop-pattern
invariant-loop-pattern l =
    list_all (is_free (told_by l.sources).holds l.binding) l.patterns ≡ list_all (is_free (told_by l.sources).holds l.binding) (drop l.pattern-index l.patterns)
