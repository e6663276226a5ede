use Rattle.std.proofs.Common.{◌++◌, ap, sym, ◌∙◌}
use Rattle.smk_store.specs.Sources.{entry_sources}
use Rattle.smk_store.proofs.Greatest.{listed_next}
use Rattle.smk_store.proofs.sources.sources_in.Goals as goal

pub loop-entry-preserved : goal.loop-entry-preserved
loop-entry-preserved c =
    c.in_ok-push_entry.ensures ∙ ap (λ t. t ++ entry_sources c.args.p.now c.entry-item.result) c.loop-entry.invariant
    ∙ sym (listed_next (entry_sources c.args.p.now) c.args.entries.now c.loop-entry.entry-index c.entry-item.result c.loop-entry-test.true c.entry-item.is)
