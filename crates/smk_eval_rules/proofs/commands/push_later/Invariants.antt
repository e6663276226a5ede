use Rattle.std.proofs.Common.{◌≡◌, ◌++◌, ◌-◌, string_bytes}
use Rattle.smk_eval_rules.specs.Logs.{later_places}
use Rattle.smk_eval_rules.proofs.commands.push_later.Given as goal

abbrev pub invariant-loop-place : goal.invariant-loop-place
invariant-loop-place l = string_bytes l.text ++ later_places l.place (l.end - l.place) ≡ string_bytes l.initial.text ++ later_places l.start (l.end - l.start)
