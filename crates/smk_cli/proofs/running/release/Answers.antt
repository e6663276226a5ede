use Rattle.smk_cli.proofs.running.release.Goals as goal

pub returns : goal.returns
returns g c = (c.release-released.result, c.release-released.ensures, c.with_release.ensures)
