use Rattle.std.proofs.Common.{List, ◌∙◌, ap₂, ◌++◌}
use Rattle.std.specs.Prelude.{zip}
use Rattle.std.specs.List.{flat_map}
use Rattle.smk_flow.specs.declared.job.Job.{Job}
use Rattle.smk_pattern.specs.Shapes.{Text}
use Rattle.smk_trigger.specs.declared.reason.State.{State}
use Rattle.smk_cli_calls.specs.Listing.{job_line}
use Rattle.smk_cli.proofs.Texts.{listing_is}
use Rattle.smk_cli.proofs.listing.listing_text.Goals as goal

pub returns : goal.returns
returns c =
    c.in_ok-push_str.ensures.bytes
    ∙ ap₂ (λ (s t : Text). s ++ t)
    (c.in_ok-push_jobs.ensures
    ∙ ap₂ (λ (s t : Text). s ++ t) c.new-text.ensures.bytes (ap₂ (λ (jobs : List Job) (states : List State). flat_map (job_line c.args.flow.now) (zip jobs states)) c.as_slice.ensures c.as_slice-2.ensures))
    (c.as_str.ensures ∙ c.in_ok-line.ensures)
    ∙ listing_is c.args.flow.now c.args.jobs.now.lists c.args.jobs.now.jobs c.args.states.now c.requires.each
