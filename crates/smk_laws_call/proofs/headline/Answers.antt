use Rattle.smk_laws_call.proofs.Came.{came_is_history, came_is_sound, headline}
use Rattle.smk_laws_call.proofs.headline.Goals as goal

pub returns : goal.returns
returns c = record { history = came_is_history; sound = came_is_sound; run = headline }
