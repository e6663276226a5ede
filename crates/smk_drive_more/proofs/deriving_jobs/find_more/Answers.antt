use Rattle.std.proofs.Common.{sym, true≢false}
use Rattle.smk_world.proofs.Devices.{looked_nothing}
use Rattle.smk_drive_more.proofs.deriving_jobs.find_more.Goals as goal

pub returns-in-Err-clause-looked : goal.returns-in-Err-clause-looked
returns-in-Err-clause-looked g c = looked_nothing g.W.Files.act _

pub returns-in-Err-clause-told : goal.returns-in-Err-clause-told
returns-in-Err-clause-told g c = λ w at read reads beside told. absurd (true≢false (sym told))
