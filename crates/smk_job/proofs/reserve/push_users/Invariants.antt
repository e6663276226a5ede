use Rattle.std.proofs.Common.{◌≡◌, ◌++◌, true, take}
use Rattle.smk_base.specs.Path.{is_path}
use Rattle.smk_world.specs.Trees.{Each}
use Rattle.smk_job.proofs.reserve.push_users.Given as goal

abbrev pub invariant-loop-path : goal.invariant-loop-path
invariant-loop-path l = (l.places ≡ l.initial.places ++ take l.path-index l.paths) × Each (λ p. is_path p ≡ true) (take l.path-index l.paths)
