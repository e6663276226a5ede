-- The folder once an output was removed that is spent by the plan in force.
use Rattle.std.proofs.Common.{List, sym, subst}
use Rattle.smk_world.specs.declared.event.Event.{Event}
use Rattle.smk_world.specs.World.{after}
use Rattle.smk_flow.specs.declared.job.Job.{Job}
use Rattle.smk_drive.specs.Moments.{seen}
use Rattle.smk_laws_turns.specs.Begun.{IsSpentFor, SpendDiffers}
use Rattle.smk_laws_turns.proofs.Settling.{is_removal}
use Rattle.smk_laws_turns.proofs.FolderSpent.{spent_for}
use Rattle.smk_laws_turns.proofs.SpentOutput.{IsOutputOf, spent_output}

pub spend_differs : SpendDiffers
spend_differs act rules entry jobs s w before plan p e from formed ours clear planned same_jobs spent done follows =
    let its : IsOutputOf (seen rules w) jobs.jobs p =
    subst (λ (js : List Job). IsOutputOf (seen rules w) js p) same_jobs (spent_output rules s w before plan p formed clear planned spent)
    in
    subst (λ (d : Event). IsSpentFor rules entry jobs w (after w d) p) (sym (is_removal act w p e.call e.left done.0 done.1 follows.0.lets))
    (spent_for rules entry jobs w p from formed ours its)
