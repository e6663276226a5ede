use Rattle.std.proofs.Common.{◌≡◌, ◌++◌, false, List, Option, ℕ, length, map}
use Rattle.std.specs.BTreeSet.{contains_text}
use Rattle.std.specs.List.{filter}
use Rattle.smk_world.specs.Devices.{WhereTold, HasLooked}
use Rattle.smk_world.specs.Trees.{is_path_text}
use Rattle.smk_record.specs.declared.record.Record.{Record}
use Rattle.smk_record.specs.Spelling.{ReadsRecords}
use Rattle.smk_store.specs.Images.{seen}
use Rattle.smk_store.specs.Unowned.{IsUnownedUnder}
use Rattle.smk_store.specs.Loading.{store_folder, entry_at}
use Rattle.smk_store.specs.Walking.{HasSigns, texts_of}
use Rattle.smk_store.proofs.loading.store_of.Given as goal

abbrev pub invariant-loop-text : goal.invariant-loop-text
invariant-loop-text g l = record {
  looked : HasLooked g.W.Files.act (g.W.Files.device l.fn.work) (g.W.Files.device l.work) false;
  found : l.paths ++ filter is_path_text (texts_of l.text-iterator) ≡ filter is_path_text (texts_of l.initial.text-iterator);
  each : length l.entries ≡ length l.paths;
  told : WhereTold (g.W.Files.device l.fn.work) (λ w. IsUnownedUnder w.nodes store_folder
      → HasSigns w (λ q. contains_text l.signs.records q) (λ q. contains_text l.signs.marks q) (λ q. contains_text l.signs.notes q)
      → (read : List ℕ → Option Record) → ReadsRecords read → l.entries ≡ map (entry_at (seen read w)) l.paths);
}
