-- What no job goes beyond, and what some job makes.
use Rattle.std.specs.Prelude.{◌≡◌, ℕ, Bool, true, not, List, nat_lt, IfSome}
use Rattle.std.specs.List.{list_all, list_any}
use Rattle.smk_flow.specs.declared.job.Job.{Job}
use Rattle.smk_plan_states.specs.Rows.{has_any}
use Rattle.smk_plan_live.specs.declared.limits.Limits.{Limits}

-- the job's priority isn't greater
abbrev pub is_within : ℕ → Job → Bool
is_within top j = not (nat_lt top j.priority)

-- the job asks for no fewer threads
abbrev pub asks_at_least : ℕ → Job → Bool
asks_at_least least j = not (nat_lt j.threads least)

-- an output of the job is temporary
abbrev pub has_temps : Job → Bool
has_temps j = has_any j.temps

-- No job's priority exceeds the one that is told, and none asks for fewer threads, where these are told; and it is told whether some job has a temporary output.
pub record AreLimits (limits : Limits) (jobs : List Job) : Type 0 where
  pub priorities : IfSome limits.top (λ top. list_all (is_within top) jobs ≡ true)
  pub threads : IfSome limits.least (λ least. list_all (asks_at_least least) jobs ≡ true)
  pub temporary : limits.temporary ≡ list_any has_temps jobs
