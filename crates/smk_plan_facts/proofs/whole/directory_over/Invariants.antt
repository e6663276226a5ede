use Rattle.std.proofs.Common.{◌≡◌, drop}
use Rattle.std.specs.List.{find}
use Rattle.smk_base.specs.Path.{is_under}
use Rattle.smk_plan_facts.specs.declared.directories.Directory.{Directory}
use Rattle.smk_plan_facts.proofs.whole.directory_over.Given as goal

abbrev pub invariant-loop-directory : goal.invariant-loop-directory
invariant-loop-directory l = find (λ (d : Directory). is_under l.path d.path) l.directories ≡ find (λ (d : Directory). is_under l.path d.path) (drop l.directory-index l.directories)
