use Rattle.std.proofs.Common.{◌≡◌, true, false, take}
use Rattle.std.specs.List.{AllByRecursion}
use Rattle.smk_base.specs.Path.{is_path}
use Rattle.smk_world.specs.Devices.{HasLooked}
use Rattle.smk_pattern.specs.Shapes.{Text}
use Rattle.smk_chain_sight.specs.Telling.{HasTold, IsListed}
use Rattle.smk_chain_sight.proofs.telling.tell_texts.Given as goal

abbrev pub invariant-loop-text : goal.invariant-loop-text
invariant-loop-text g l = record {
  looked : HasLooked g.W.Files.act (g.W.Files.device l.fn.work) (g.W.Files.device l.work) false;
  told : HasTold (g.W.Files.device l.fn.work) l.store l.fn.eye l.eye;
  listed : AllByRecursion (λ (t : Text). is_path t ≡ true → IsListed l.eye t) (take l.text-index l.texts);
}
