use Rattle.std.proofs.Common.{max, ap, ◌∙◌}
use Rattle.std.specs.List.{fold, flat_map}
use Rattle.smk_store.specs.Serials.{after_serial, unmarked_serials}
use Rattle.smk_store.specs.Stores.{Known}
use Rattle.smk_store.proofs.Greatest.{listed_map}
use Rattle.smk_store.proofs.store.Store.next_serial.Goals as goal

pub returns : goal.returns
returns c =
    c.serial_after.ensures
    ∙ ap after_serial (c.greatest_in.ensures ∙ ap (λ t. fold max 0 (flat_map unmarked_serials t)) (c.as_slice.ensures ∙ c.entries.ensures)
    ∙ ap (fold max 0) (listed_map unmarked_serials (λ (k : Known). k.entry) c.args.self.now))
