use Rattle.std.proofs.Common.{◌≡◌, ◌++◌, false}
use Rattle.std.specs.List.{filter}
use Rattle.smk_world.specs.Devices.{WhereTold, HasLooked}
use Rattle.smk_world.specs.Trees.{Each, is_path_text}
use Rattle.smk_store.specs.Walking.{texts_of}
use Rattle.smk_store.specs.Unowned.{IsUnownedUnder}
use Rattle.smk_plan_look.specs.Seeing.{IsSightOf, are_paths}
use Rattle.smk_plan_look.proofs.looking.sights_of.Given as goal

abbrev pub invariant-loop-text : goal.invariant-loop-text
invariant-loop-text g l = record {
  looked : HasLooked g.W.Files.act (g.W.Files.device l.fn.work) (g.W.Files.device l.work) false;
  found : are_paths l.sights ++ filter is_path_text (texts_of l.text-iterator) ≡ filter is_path_text (texts_of l.initial.text-iterator);
  told : WhereTold (g.W.Files.device l.fn.work) (λ w. Each (λ s. IsUnownedUnder w.nodes s.path → IsSightOf w.nodes s.path s) l.sights);
}
