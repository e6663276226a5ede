use Rattle.std.proofs.Common.{◌≡◌, drop}
use Rattle.std.specs.List.{list_any}
use Rattle.smk_plan_states.specs.declared.lines.Input.{Input}
use Rattle.smk_drive_pick.specs.Told.{is_missing}
use Rattle.smk_drive_pick.proofs.hands.Hands.lacks_input.Given as goal

abbrev pub invariant-loop-input : goal.invariant-loop-input
invariant-loop-input l =
    list_any (λ (i : Input). is_missing l.self.ranks.now l.self.origins.now l.self.wholes.now i.link) l.inputs
    ≡ list_any (λ (i : Input). is_missing l.self.ranks.now l.self.origins.now l.self.wholes.now i.link) (drop l.input-index l.inputs)
