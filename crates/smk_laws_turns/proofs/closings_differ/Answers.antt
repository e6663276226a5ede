use Rattle.smk_laws_turns.proofs.Guards.{guards_are_outputs}
use Rattle.smk_laws_turns.proofs.Left.{close_differs, left_ours, tend_differs}
use Rattle.smk_laws_turns.proofs.closings_differ.Goals as goal

pub returns : goal.returns
returns c = record { closed = close_differs; tended = tend_differs; left = left_ours; guards = guards_are_outputs }
