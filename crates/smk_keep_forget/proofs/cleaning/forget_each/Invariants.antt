use Rattle.std.proofs.Common.{◌≡◌, [], false, take}
use Rattle.smk_world.specs.Devices.{WhereTold, HasActed}
use Rattle.smk_keep_lock.specs.Putting.{Put, HasPutSome}
use Rattle.smk_keep_forget.specs.Seen.{seen, forgotten_lines}
use Rattle.smk_keep_forget.specs.Turns.{IsStoreBut}
use Rattle.smk_keep_forget.proofs.Going.{SoFar}
use Rattle.smk_keep_forget.proofs.cleaning.forget_each.Given as goal

abbrev pub invariant-loop-i : goal.invariant-loop-i
invariant-loop-i g l = record {
  acted : HasActed g.W.Files.act (SoFar l.fn.store (take l.i l.paths) l.store) (g.W.Files.device l.fn.work) (g.W.Files.device l.work) false;
  told : WhereTold (g.W.Files.device l.fn.work) (λ w. IsStoreBut [] w l.fn.store
      → Put (g.O.Sink.sunk l.fn.out) (g.O.Sink.sunk l.out) (λ t. t ≡ forgotten_lines (seen w) [] (take l.i l.paths)));
  put : HasPutSome false (g.O.Sink.sunk l.fn.out) (g.O.Sink.sunk l.out);
}
