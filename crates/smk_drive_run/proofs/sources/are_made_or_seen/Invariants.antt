use Rattle.std.proofs.Common.{◌≡◌, drop}
use Rattle.std.specs.List.{list_all}
use Rattle.smk_laws_begins.specs.Sources.{is_made_or_seen}
use Rattle.smk_drive_run.proofs.sources.are_made_or_seen.Given as goal

abbrev pub invariant-loop-maker : goal.invariant-loop-maker
invariant-loop-maker g l =
    list_all (is_made_or_seen (g.T.Told.known l.told) (g.T.Told.seen l.told)) l.makers
    ≡ list_all (is_made_or_seen (g.T.Told.known l.told) (g.T.Told.seen l.told)) (drop l.maker-index l.makers)
