use Rattle.std.proofs.Common.{ap, ◌∙◌}
use Rattle.smk_chain.specs.declared.jobs.Jobs.{Jobs}
use Rattle.smk_drive_close.proofs.Moved.{numbers_as}
use Rattle.smk_drive_close.proofs.taking.numbers_of.Goals as goal

pub returns : goal.returns
returns c =
    numbers_as c.new_numbers.result (c.as_slice-2.ensures ∙ ap (λ (js : Jobs). js.jobs) c.jobs.ensures) c.as_slice-3.ensures c.as_slice.ensures c.new_numbers.ensures
