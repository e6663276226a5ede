use Rattle.std.proofs.Common.{◌≡◌, length, take, true, false, Ok}
use Rattle.std.specs.List.{list_all}
use Rattle.smk_world.specs.Devices.{HasActed}
use Rattle.smk_record.specs.Records.{is_earlier}
use Rattle.smk_run.specs.Stamps.{HasStamped, is_small, number_at}
use Rattle.smk_run.proofs.stamps.stamps_of.Given as goal

abbrev pub invariant-loop-number : goal.invariant-loop-number
invariant-loop-number g l = record {
  acted : HasActed g.W.Files.act (HasStamped (number_at l.serials) (take l.number l.paths) (Ok l.stamps)) (g.W.Files.device l.initial.work) (g.W.Files.device l.work) false;
  each : length l.stamps ≡ l.number;
  earlier : list_all (is_earlier l.made) l.stamps ≡ true;
  small : list_all is_small l.stamps ≡ true;
}
