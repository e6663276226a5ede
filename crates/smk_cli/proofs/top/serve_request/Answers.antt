use Rattle.std.proofs.Common.{sym, subst}
use Rattle.smk_cli_calls.specs.Whole.{Serves}
use Rattle.smk_cli_calls.specs.Keys.{Keeps, Unlocks, Forgets}
use Rattle.smk_cli.proofs.top.serve_request.Goals as goal

pub returns-in-Run-clause-ended : goal.returns-in-Run-clause-ended
returns-in-Run-clause-ended g c = c.serve_run.ensures.ended.ends

pub returns-in-Run-clause-serves : goal.returns-in-Run-clause-serves
returns-in-Run-clause-serves g c = λ makes w at read reads.
    subst
    (λ r. Serves g.W.Files.act read w c.serve_run.result (g.W.Files.device c.args.work.now) (g.W.Files.device c.serve_run.new.work) (g.O.Sink.sunk c.args.out.now) (g.O.Sink.sunk c.serve_run.new.out) r)
    (sym c.in-Run.is) (c.serve_run.ensures.ran w at read reads)

pub returns-in-Preview-clause-ended : goal.returns-in-Preview-clause-ended
returns-in-Preview-clause-ended g c = c.serve_listing.ensures.ended.ends

pub returns-in-Preview-clause-serves : goal.returns-in-Preview-clause-serves
returns-in-Preview-clause-serves g c = λ makes w at read reads.
    subst
    (λ r. Serves g.W.Files.act read w c.serve_listing.result (g.W.Files.device c.args.work.now) (g.W.Files.device c.serve_listing.new.work) (g.O.Sink.sunk c.args.out.now) (g.O.Sink.sunk c.serve_listing.new.out) r)
    (sym c.in-Preview.is) (c.serve_listing.ensures.looked, c.serve_listing.ensures.listed w at read reads)

pub returns-in-Unlock-clause-keeps : goal.returns-in-Unlock-clause-keeps
returns-in-Unlock-clause-keeps g c = λ built kept w at.
    subst
    (λ r. Keeps g.W.Files.act c.serve_unlock.result (g.W.Files.device c.args.work.now) (g.W.Files.device c.serve_unlock.new.work) (g.O.Sink.sunk c.args.out.now) (g.O.Sink.sunk c.serve_unlock.new.out) w r)
    (sym c.in-Unlock.is) (Unlocks c.serve_unlock.ensures.unlocked)

pub returns-in-Forget-clause-keeps : goal.returns-in-Forget-clause-keeps
returns-in-Forget-clause-keeps g c = λ built kept w at.
    subst
    (λ r. Keeps g.W.Files.act c.serve_forget.result (g.W.Files.device c.args.work.now) (g.W.Files.device c.serve_forget.new.work) (g.O.Sink.sunk c.args.out.now) (g.O.Sink.sunk c.serve_forget.new.out) w r)
    (sym c.in-Forget.is) (Forgets _ _ (c.serve_forget.ensures.forgotten w at))
