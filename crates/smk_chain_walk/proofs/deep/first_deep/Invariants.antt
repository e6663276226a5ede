use Rattle.std.proofs.Common.{◌≡◌, ◌==◌, drop}
use Rattle.std.specs.List.{find}
use Rattle.smk_world.specs.Trees.{Path}
use Rattle.smk_choose.specs.Told.{told_by}
use Rattle.smk_chain.specs.Derive.{height}
use Rattle.smk_chain_walk.specs.Heights.{AreHeights}
use Rattle.smk_chain_walk.proofs.deep.first_deep.Given as goal

abbrev pub invariant-loop-target : goal.invariant-loop-target
invariant-loop-target l = record {
  known : AreHeights l.flow (told_by l.sources) l.lists l.heights;
  rest : find (λ (p : Path). height l.flow (told_by l.sources) l.lists 201 p == 201) l.target-items
      ≡ find (λ (p : Path). height l.flow (told_by l.sources) l.lists 201 p == 201) (drop l.target-index l.target-items);
}
