use Rattle.std.proofs.Common.{◌≡◌, ◌++◌, length, string_bytes}
use denote.Shadow.{shadow}
use denote.Text.{Utf8}
use Rattle.smk_eval_rules.specs.Logs.{placed}
use Rattle.smk_eval_rules.proofs.commands.push_command.Given as goal

abbrev pub invariant-reading : goal.invariant-reading
invariant-reading l = record {
  so_far : string_bytes l.text ++ placed l.items l.rest ≡ string_bytes l.initial.text ++ placed l.items l.command;
  utf8 : shadow (Utf8 l.rest);
}

abbrev pub decreases-reading : goal.decreases-reading
decreases-reading l = length l.rest
