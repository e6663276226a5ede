use Rattle.smk_laws_turns.proofs.Agreeing.{begin_agrees, close_agrees, spend_agrees}
use Rattle.smk_laws_turns.proofs.folder_agrees.Goals as goal

pub returns-clause-begins : goal.returns-clause-begins
returns-clause-begins c = begin_agrees

pub returns-clause-closes : goal.returns-clause-closes
returns-clause-closes c = close_agrees

pub returns-clause-spends : goal.returns-clause-spends
returns-clause-spends c = spend_agrees
