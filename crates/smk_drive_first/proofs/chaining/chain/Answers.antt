use Rattle.smk_world.proofs.Devices.{looked_nothing}
use Rattle.smk_drive_first.proofs.chaining.chain.Goals as goal

pub returns-in-Err-clause-looked : goal.returns-in-Err-clause-looked
returns-in-Err-clause-looked g c = looked_nothing g.W.Files.act _
