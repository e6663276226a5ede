use Rattle.std.proofs.Common.{Ok, ap, sym, ◌∙◌}
use Rattle.smk_world.specs.Calls.{stat_of}
use Rattle.smk_eval_files.specs.Looks.{at}
use Rattle.smk_cli_entry.specs.Faults.{and_then}
use Rattle.smk_cli_entry.specs.Names as spec
use Rattle.smk_cli_entry.proofs.Stats.{unread}
use Rattle.smk_cli_entry.proofs.naming.file_in.Goals as goal

pub returns-in-Err-clause-told : goal.returns-in-Err-clause-told
returns-in-Err-clause-told g c = λ w here.
    let stat = stat_of (at w.nodes c.args.place.now) in
    unread stat (spec.where_file c.args.path stat) c.in-Err.fault (c.in-Err.ensures.told w here)

pub returns-in-Ok-clause-told : goal.returns-in-Ok-clause-told
returns-in-Ok-clause-told g c = λ w here.
    ap (λ r. and_then r (λ s. Ok (spec.where_file c.args.path s))) (c.in-Ok.ensures.told w here) ∙ ap Ok (sym c.where_file.ensures)
