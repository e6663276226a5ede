use Rattle.smk_world_mem.specs.Work.{world_in}
use Rattle.smk_gen.specs.Files.{source_files, snakefile_path, snakefile_node}
use Rattle.smk_gen.proofs.Placed.{put_more, where_ok}
use Rattle.smk_gen.proofs.filling.place_all.Goals as goal

pub returns-clause-put : goal.returns-clause-put
returns-clause-put c =
    where_ok c.place_snakefile.result
    (λ step w told. put_more (source_files c.args.seed c.args.size) snakefile_path (snakefile_node c.args.size) (world_in c.place_sources.new.work) w
    c.in_ok-place_sources.ensures.put (step w told))
    c.place_snakefile.ensures.put
