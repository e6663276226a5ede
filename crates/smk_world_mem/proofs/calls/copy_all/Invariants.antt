use Rattle.std.proofs.Common.{◌≡◌, take}
use Rattle.smk_world_mem.proofs.calls.copy_all.Given as goal

abbrev pub invariant-loop-place : goal.invariant-loop-place
invariant-loop-place l = l.copy ≡ take l.place-index l.place-items
