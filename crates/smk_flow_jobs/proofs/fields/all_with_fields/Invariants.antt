use Rattle.std.proofs.Common.{◌≡◌, take, map}
use Rattle.smk_pattern.specs.Reading.{fill_words}
use Rattle.smk_flow_jobs.proofs.fields.all_with_fields.Given as goal

abbrev pub invariant-loop-text : goal.invariant-loop-text
invariant-loop-text l = l.made ≡ map (fill_words l.binding) (take l.text-index l.texts)
