use Rattle.std.proofs.Common.{Ok, List, ℕ, subst}
use Rattle.smk_world.specs.Calls.{stat_of}
use Rattle.smk_eval_files.specs.Looks.{at}
use Rattle.smk_cli_entry.specs.Faults.{Answers}
use Rattle.smk_cli_entry.specs.Names as spec
use Rattle.smk_cli_entry.proofs.naming.file_at.Goals as goal

pub returns-clause-told : goal.returns-clause-told
returns-clause-told g c = λ w here.
    subst (λ (q : List ℕ). Answers (Ok (spec.where_file c.args.path (stat_of (at w.nodes q)))) c.file_in.result) c.in-Ok.ensures (c.file_in.ensures.told w here)
