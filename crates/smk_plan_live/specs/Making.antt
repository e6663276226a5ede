-- Which makers name which job.
use Rattle.std.specs.Prelude.{◌<◌, ℕ, List, [], length, slice_index_or}
use Rattle.smk_flow.specs.declared.job.Job.{Job}
use Rattle.smk_chain.specs.declared.jobs.Maker.{Maker}
use Rattle.smk_plan_facts.specs.Telling.{AreNumbersOf}

-- for each of the jobs the numbers of the makers that name it, and maybe more
abbrev pub AreMadeBy : List Job → List Maker → List (List ℕ) → Type 0
AreMadeBy jobs makers made = (n : ℕ) → n < length jobs → AreNumbersOf n makers (slice_index_or made n [])
