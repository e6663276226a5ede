use Rattle.std.proofs.Common.{◌≡◌, ℕ, false, List, map, length, Option, take}
use Rattle.smk_world.specs.Devices.{WhereTold, HasLooked}
use Rattle.smk_world.specs.Trees.{Each}
use Rattle.smk_record.specs.declared.record.Record.{Record}
use Rattle.smk_record.specs.Spelling.{ReadsRecords}
use Rattle.smk_store.specs.Loading.{store_folder}
use Rattle.smk_store.specs.Unowned.{IsUnownedUnder}
use Rattle.smk_plan_look.specs.Seeing.{are_paths}
use Rattle.smk_drive_outcome.specs.Outcomes.{TellsUnowned, entry_by}
use Rattle.smk_drive_outcome.proofs.outcome.outcome_at.Given as goal

abbrev pub invariant-loop-path : goal.invariant-loop-path
invariant-loop-path g l = record {
  looked : HasLooked g.W.Files.act (g.W.Files.device l.fn.work) (g.W.Files.device l.work) false;
  paths : are_paths l.found.sights ≡ take l.path-index l.paths;
  each : length l.found.entries ≡ length l.found.sights;
  entries : WhereTold (g.W.Files.device l.fn.work) (λ w. IsUnownedUnder w.nodes store_folder → (read : List ℕ → Option Record) → ReadsRecords read
      → l.found.entries ≡ map (entry_by read w.nodes) (take l.path-index l.paths));
  sights : WhereTold (g.W.Files.device l.fn.work) (λ w. Each (TellsUnowned w.nodes) l.found.sights);
}
