use Rattle.std.proofs.Common.{◌≡◌, drop}
use Rattle.std.specs.List.{list_any}
use Rattle.smk_plan_states.specs.declared.lines.Gathered.{Gathered}
use Rattle.smk_drive_pick.specs.Told.{is_missing}
use Rattle.smk_drive_pick.proofs.hands.Hands.lacks_folder.Given as goal

abbrev pub invariant-loop-gathered : goal.invariant-loop-gathered
invariant-loop-gathered l =
    list_any (λ (g : Gathered). is_missing l.self.ranks.now l.self.origins.now l.self.wholes.now g.link) l.gathers
    ≡ list_any (λ (g : Gathered). is_missing l.self.ranks.now l.self.origins.now l.self.wholes.now g.link) (drop l.gathered-index l.gathers)
