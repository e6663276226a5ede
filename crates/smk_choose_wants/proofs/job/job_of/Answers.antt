use Rattle.std.proofs.Common.{◌∙◌, map, ap}
use Rattle.smk_flow.specs.Flows.{Candidate}
use Rattle.smk_choose.proofs.Picked.{chosen_placed}
use Rattle.smk_choose_wants.specs.Wants.{item_with}
use Rattle.smk_choose_wants.proofs.Chosen.{is_candidate}
use Rattle.smk_choose_wants.proofs.Composed.{items_are, job_is}
use Rattle.smk_choose_wants.proofs.job.job_of.Goals as goal

pub returns : goal.returns
returns c = λ sources p d e is all.
    let flow = c.args.flow.now in
    let L = c.args.lists.now in
    job_is flow L d c.in_ok-made.made c.in_ok-inputs.inputs (c.in_ok-made.ensures sources p d e is)
    (c.in_ok-inputs.ensures
    ∙ ap (λ (x : Candidate). map (item_with flow L x) x.part.inputs)
    (is_candidate flow d c.args.making.now c.part_of.result.now (chosen_placed flow sources p d e) is c.part_of.ensures)
    ∙ items_are flow L d all)
