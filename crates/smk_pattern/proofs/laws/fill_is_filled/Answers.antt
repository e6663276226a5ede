use Rattle.smk_pattern.proofs.FillPieces.{fill_is_filled}
use Rattle.smk_pattern.proofs.laws.fill_is_filled.Goals as goal

pub returns : goal.returns
returns c = fill_is_filled
