use Rattle.std.proofs.Common.{◌∙◌, slice_get, ap}
use Rattle.smk_flow.specs.Jobs.{declared_job}
use Rattle.smk_choose.specs.declared.choice.Making.{Making}
use Rattle.smk_choose.proofs.Picked.{chosen_placed}
use Rattle.smk_choose_wants.proofs.Chosen.{is_candidate, rule_there, rule_within, not_memory, no_fault_there}
use Rattle.smk_choose_wants.proofs.job.declared_of.Goals as goal

pub job-requires : goal.job-requires
job-requires c = record { rule = rule_within c.args.flow.now c.args.making.now c.requires.chosen }

pub returns-in-Ok : goal.returns-in-Ok
returns-in-Ok c = λ sources p d e is.
    let flow = c.args.flow.now in
    let m = c.args.making.now in
    let placed = chosen_placed flow sources p d e in
    let at = ap (λ (x : Making). slice_get flow.rules x.rule) is ∙ placed in
    c.in-Ok.ensures.job d.part at ∙ ap (declared_job flow) (is_candidate flow d m d.part placed is at)

pub unreachable-requires : goal.unreachable-requires
unreachable-requires c =
    let flow = c.args.flow.now in
    let m = c.args.making.now in
    let chosen = c.requires.chosen in
    let at = rule_there flow m chosen in
    let fault = c.in-Err-NotPath in
    no_fault_there flow m chosen.candidate.part fault.field-0 chosen at
    (fault.ensures.not_path chosen.candidate.part at (not_memory fault.field-0 fault.field-0-0 fault.field-0-is))
