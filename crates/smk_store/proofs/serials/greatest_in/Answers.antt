use Rattle.std.proofs.Common.{max, ap, ◌∙◌}
use Rattle.std.specs.List.{fold}
use Rattle.smk_store.specs.Serials.{unmarked_serials}
use Rattle.smk_store.proofs.Greatest.{greatest_next}
use Rattle.smk_store.proofs.serials.greatest_in.Goals as goal

pub loop-entry-preserved : goal.loop-entry-preserved
loop-entry-preserved c =
    c.raised_by_entry-greatest.ensures ∙ ap (λ n. fold max n (unmarked_serials c.entry-item.result)) c.loop-entry.invariant
    ∙ greatest_next unmarked_serials 0 c.args.entries.now c.loop-entry.entry-index c.entry-item.result c.loop-entry-test.true c.entry-item.is
