use Rattle.smk_laws_protocol.proofs.ForgettingHolds.{forgetting_keeps_sound, settling_is_enough}
use Rattle.smk_laws_protocol.proofs.MidwayHolds.{holds_midway}
use Rattle.smk_laws_protocol.proofs.ProtocolHolds.{keeps_sound, protocol_law}
use Rattle.smk_laws_history.proofs.protocol_law.Goals as goal

pub returns : goal.returns
returns c = record { safe = protocol_law; midway = holds_midway; kept = keeps_sound; forgetting = forgetting_keeps_sound; settling = settling_is_enough }
