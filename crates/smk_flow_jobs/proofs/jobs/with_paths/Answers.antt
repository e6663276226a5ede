use Rattle.std.proofs.Common.{List, map, ap, sym, ◌∙◌}
use Rattle.std.specs.List.{flat_map}
use Rattle.smk_pattern.specs.Shapes.{Text}
use Rattle.smk_pattern.specs.Reading.{fill}
use Rattle.smk_flow.specs.declared.rule.InPart.{InPart}
use Rattle.smk_flow.specs.declared.rule.OutPart.{OutPart}
use Rattle.smk_flow.specs.declared.rule.FlaggedText.{FlaggedText}
use Rattle.smk_flow.specs.Jobs.{path_fault}
use Rattle.smk_flow_jobs.proofs.JobParts.{at_inputs, at_gathers}
use Rattle.smk_flow_jobs.proofs.jobs.with_paths.Goals as goal

pub returns-in-Err-in_items-clause-not : goal.returns-in-Err-in_items-clause-not
returns-in-Err-in_items-clause-not c = λ known.
    let b = c.args.binding.now in
    at_inputs c.args.flow.now c.args.rule c.args.part.now b c.in-Err-in_items.fault
    (ap (λ (xs : List OutPart). path_fault (flat_map (λ (i : OutPart). map (λ (o : FlaggedText). fill b o.text) i.outs) xs)) (sym c.as_slice.ensures) ∙ c.in-Ok.ensures.are)
    (ap (λ (xs : List Text). path_fault (map (fill b) xs)) (sym c.as_slice-2.ensures) ∙ c.in-Ok-paths_of.ensures.are)
    (ap (λ (xs : List InPart). path_fault (flat_map (λ (i : InPart). map (fill b) i.texts) xs)) (sym c.as_slice-3.ensures) ∙ c.in-Err-in_items.ensures.not known)

pub returns-in-Err-gathers_of-clause-not : goal.returns-in-Err-gathers_of-clause-not
returns-in-Err-gathers_of-clause-not c = λ known.
    let b = c.args.binding.now in
    at_gathers c.args.flow.now c.args.rule c.args.part.now b c.in-Err-gathers_of.fault
    (ap (λ (xs : List OutPart). path_fault (flat_map (λ (i : OutPart). map (λ (o : FlaggedText). fill b o.text) i.outs) xs)) (sym c.as_slice.ensures) ∙ c.in-Ok.ensures.are)
    (ap (λ (xs : List Text). path_fault (map (fill b) xs)) (sym c.as_slice-2.ensures) ∙ c.in-Ok-paths_of.ensures.are)
    (ap (λ (xs : List InPart). path_fault (flat_map (λ (i : InPart). map (fill b) i.texts) xs)) (sym c.as_slice-3.ensures) ∙ c.in-Ok-in_items.ensures.are)
    (c.in-Err-gathers_of.ensures.not known)
