use Rattle.std.proofs.Common.{◌≡◌, drop}
use Rattle.std.specs.List.{list_all}
use Rattle.smk_laws_turns.specs.Growing.{is_known_in}
use Rattle.smk_drive_more.proofs.holding.are_known.Given as goal

abbrev pub invariant-loop-out : goal.invariant-loop-out
invariant-loop-out g l = list_all (is_known_in (g.T.Told.known l.told)) l.outs ≡ list_all (is_known_in (g.T.Told.known l.told)) (drop l.out-index l.outs)
