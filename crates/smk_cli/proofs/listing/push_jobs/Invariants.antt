use Rattle.std.proofs.Common.{◌≡◌, ◌++◌, drop, string_bytes}
use Rattle.std.specs.Prelude.{zip}
use Rattle.std.specs.List.{flat_map}
use Rattle.smk_cli_calls.specs.Listing.{job_line}
use Rattle.smk_cli.proofs.listing.push_jobs.Given as goal

abbrev pub invariant-loop-number : goal.invariant-loop-number
invariant-loop-number l =
    string_bytes l.text ++ flat_map (job_line l.flow) (zip (drop l.number l.jobs) (drop l.number l.states))
    ≡ string_bytes l.initial.text ++ flat_map (job_line l.flow) (zip l.jobs l.states)
