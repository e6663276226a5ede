use Rattle.smk_laws_history.proofs.ChoiceOne.{one_choice}
use Rattle.smk_laws_history.proofs.CurrentChoices.{same_choice, stays_available}
use Rattle.smk_laws_history.proofs.choice_is_settled.Goals as goal

pub returns : goal.returns
returns c = record { deeper = stays_available; same = same_choice; one = one_choice }
