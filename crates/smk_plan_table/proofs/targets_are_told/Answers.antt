use Rattle.smk_plan_table.proofs.Linked.{linked_tell_targets}
use Rattle.smk_plan_table.proofs.targets_are_told.Goals as goal

pub returns : goal.returns
returns c = λ flow S L targets made image links same. linked_tell_targets flow S L targets made links image same
