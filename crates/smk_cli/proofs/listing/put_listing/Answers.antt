use Rattle.std.proofs.Common.{◌∙◌, subst, true, false}
use Rattle.smk_run.specs.Reports.{HasReported, IsReport}
use Rattle.smk_run.proofs.Texts.{reported_put}
use Rattle.smk_cli.proofs.listing.put_listing.Goals as goal

pub returns-clause-told : goal.returns-clause-told
returns-clause-told g c =
    subst (λ text. HasReported (IsReport false text) (g.O.Sink.sunk c.args.out.now) (g.O.Sink.sunk c.write_out.new.out) true)
    (c.as_str.ensures.value ∙ c.in-Ok.ensures) (reported_put _ _ _ _ c.in-Err.ensures)
