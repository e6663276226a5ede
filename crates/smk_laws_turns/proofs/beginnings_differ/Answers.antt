use Rattle.smk_laws_turns.proofs.FolderBegun.{begin_differs, jobs_are_of_entry}
use Rattle.smk_laws_turns.proofs.Settling.{settling_leaves}
use Rattle.smk_laws_turns.proofs.FolderSpending.{spend_differs}
use Rattle.smk_laws_turns.proofs.beginnings_differ.Goals as goal

pub returns : goal.returns
returns c = record { begins = begin_differs; spends = spend_differs; settles = settling_leaves; kept = jobs_are_of_entry }
