use Rattle.std.proofs.Common.{◌≡◌, ℕ, drop}
use Rattle.std.specs.BTreeMap.{get_by_text}
use Rattle.std.specs.List.{list_any, slice_get}
use Rattle.smk_plan_live.specs.Readers.{reading, stands_over}
use Rattle.smk_plan_live.proofs.readers.push_paths.Given as goal

abbrev pub invariant-loop-path : goal.invariant-loop-path
invariant-loop-path l = (m : ℕ) →
    reading (list_any (stands_over (get_by_text l.base.sites) m) (drop l.path-index l.paths)) l.reader (slice_get l.readers.items m)
    ≡ reading (list_any (stands_over (get_by_text l.base.sites) m) l.paths) l.reader (slice_get l.initial.readers.items m)
