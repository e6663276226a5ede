use Rattle.std.proofs.Common.{◌≡◌, drop, bytes_eq}
use Rattle.std.specs.List.{find}
use Rattle.smk_plan_facts.specs.declared.directories.Directory.{Directory}
use Rattle.smk_plan_facts.proofs.whole.directory_at.Given as goal

abbrev pub invariant-loop-directory : goal.invariant-loop-directory
invariant-loop-directory l = find (λ (d : Directory). bytes_eq d.path l.path) l.directories ≡ find (λ (d : Directory). bytes_eq d.path l.path) (drop l.directory-index l.directories)
