use Rattle.std.proofs.Common.{◌≡◌, ◌++◌, length, option_map, string_bytes}
use Rattle.smk_pattern.specs.Reading.{fill_words}
use Rattle.smk_flow.specs.Begun.{from_brace}
use Rattle.smk_flow_jobs.proofs.fields.with_fields.Given as goal

abbrev pub invariant-braces : goal.invariant-braces
invariant-braces l = string_bytes l.made ++ fill_words l.binding (from_brace (option_map (λ t. t.now) l.rest)) ≡ fill_words l.binding l.text

abbrev pub decreases-braces : goal.decreases-braces
decreases-braces l = length (from_brace (option_map (λ t. t.now) l.rest))
