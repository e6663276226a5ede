use Rattle.std.proofs.Common.{◌≡◌, ◌++◌, length, string_bytes}
use denote.Shadow.{shadow}
use denote.Text.{Utf8}
use Rattle.smk_template.specs.Templates.{symbols}
use Rattle.smk_format.specs.Commands.{first_missing, filled}
use Rattle.smk_format.proofs.filling.fill.Given as goal

abbrev pub invariant-filling : goal.invariant-filling
invariant-filling l = record {
  so_far : string_bytes l.text ++ filled l.job l.threads (symbols l.rest) ≡ string_bytes l.initial.text ++ filled l.job l.threads (symbols l.template);
  missing : first_missing l.job (symbols l.template) ≡ first_missing l.job (symbols l.rest);
  utf8 : shadow (Utf8 l.rest);
}

abbrev pub decreases-filling : goal.decreases-filling
decreases-filling l = length l.rest
