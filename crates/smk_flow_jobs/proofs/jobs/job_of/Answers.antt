use Rattle.std.proofs.Common.{List, ap, sym, ◌∙◌}
use Rattle.std.specs.List.{flat_map}
use Rattle.smk_flow.specs.declared.rule.OutPart.{OutPart}
use Rattle.smk_flow.specs.declared.rule.Flag.TheVariants.{Temp, Protected}
use Rattle.smk_flow.specs.Jobs.{path_fault, flagged}
use Rattle.smk_flow_jobs.proofs.JobParts.{no_flagged}
use Rattle.smk_flow_jobs.proofs.jobs.job_of.Goals as goal

pub returns-in-Err-flagged-clause-not : goal.returns-in-Err-flagged-clause-not
returns-in-Err-flagged-clause-not c = λ known.
    absurd (no_flagged c.args.flow.now c.args.rule c.args.part.now c.args.binding.now Temp c.in-Err-flagged.fault c.in-Ok.ensures.are
    (ap (λ (xs : List OutPart). path_fault (flagged c.args.binding.now Temp (flat_map (λ (i : OutPart). i.outs) xs))) (sym c.as_slice.ensures) ∙ c.in-Err-flagged.ensures.not known))

pub returns-in-Err-flagged-2-clause-not : goal.returns-in-Err-flagged-2-clause-not
returns-in-Err-flagged-2-clause-not c = λ known.
    absurd (no_flagged c.args.flow.now c.args.rule c.args.part.now c.args.binding.now Protected c.in-Err-flagged-2.fault c.in-Ok.ensures.are
    (ap (λ (xs : List OutPart). path_fault (flagged c.args.binding.now Protected (flat_map (λ (i : OutPart). i.outs) xs))) (sym c.as_slice-2.ensures) ∙ c.in-Err-flagged-2.ensures.not known))
