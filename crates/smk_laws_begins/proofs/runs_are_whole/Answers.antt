use Rattle.smk_laws_begins.proofs.Unopened.{unopened_run}
use Rattle.smk_laws_begins.proofs.Whole.{whole_run}
use Rattle.smk_laws_begins.proofs.runs_are_whole.Goals as goal

pub returns : goal.returns
returns c = record { unopened = unopened_run; whole = whole_run }
