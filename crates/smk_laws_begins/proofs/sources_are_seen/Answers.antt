use Rattle.smk_laws_begins.proofs.Sources.{seen_are_sources}
use Rattle.smk_laws_begins.proofs.sources_are_seen.Goals as goal

pub returns : goal.returns
returns c = seen_are_sources
