use Rattle.std.proofs.Common.{false, List, ℕ, Option}
use Rattle.smk_world.specs.Devices.{WhereTold, HasLooked}
use Rattle.smk_record.specs.declared.record.Record.{Record}
use Rattle.smk_record.specs.Spelling.{ReadsRecords}
use Rattle.smk_store.specs.Images.{seen}
use Rattle.smk_store.specs.Unowned.{NoneOwned}
use Rattle.smk_drive_first.proofs.Kept.{Reaches}
use Rattle.smk_drive_first.proofs.chaining.chain_by.Given as goal

abbrev pub invariant-loop : goal.invariant-loop
invariant-loop g l = record {
  looked : HasLooked g.W.Files.act (g.W.Files.device l.fn.work) (g.W.Files.device l.work) false;
  told : WhereTold (g.W.Files.device l.fn.work) (λ w. NoneOwned w → (read : List ℕ → Option Record) → ReadsRecords read
      → Reaches read l.ground.flow.now l.ground.settings.now (seen read w) l.lists);
}
