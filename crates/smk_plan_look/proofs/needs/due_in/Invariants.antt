use Rattle.std.proofs.Common.{◌≡◌, ◌||◌, ℕ, List, drop}
use Rattle.std.specs.BTreeSet.{contains_text}
use Rattle.std.specs.List.{list_any}
use Rattle.smk_plan_look.specs.Needs.{job_due}
use Rattle.smk_plan_look.proofs.needs.due_in.Given as goal

abbrev pub invariant-loop-job : goal.invariant-loop-job
invariant-loop-job l = (q : List ℕ) →
    (contains_text l.needed q || list_any (job_due l.store l.seen q) (drop l.job-index l.jobs)) ≡ list_any (job_due l.store l.seen q) l.jobs
