use Rattle.std.proofs.Common.{◌∙◌}
use Rattle.smk_world_mem.specs.Work.{world_in}
use Rattle.smk_gen.proofs.Placed.{source_more}
use Rattle.smk_gen.proofs.filling.place_sources.Goals as goal

pub loop-before-preserved : goal.loop-before-preserved
loop-before-preserved c = (
  λ w told. source_more c.args.seed c.loop-before.before (world_in c.loop-before.work) w c.loop-before.invariant.0 (c.in_ok-place_source.ensures.put w told),
  c.place_source.ensures.faults ∙ c.loop-before.invariant.1,
  c.place_source.ensures.setup ∙ c.loop-before.invariant.2,
)
