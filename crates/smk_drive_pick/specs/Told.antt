-- Which jobs may begin, by what is told of paths and jobs by their numbers.
use Rattle.std.specs.Prelude.{◌≡◌, ℕ, suc, Bool, false, ◌&&◌, ◌||◌, not, List, [], ◌∷◌, nat_lt, slice_index_or, if◌then◌else◌, Option, Some, None}
use Rattle.std.specs.List.{list_any, slice_get}
use Rattle.std.specs.Option.{option_and_then}
use Rattle.smk_flow.specs.declared.job.Job.{Job}
use Rattle.smk_plan.specs.States.{test_some}
use Rattle.smk_plan_states.specs.declared.lines.Gathered.{Gathered}
use Rattle.smk_plan_states.specs.declared.lines.Input.{Input}
use Rattle.smk_plan_states.specs.declared.lines.Line.{Line}
use Rattle.smk_plan_states.specs.declared.lines.Origin.{Origin}
use Rattle.smk_plan_states.specs.declared.ranks.Rank.{Rank}
use Rattle.smk_plan_states.specs.Ranks.{is_clean_rank}
use Rattle.smk_drive_pick.specs.declared.next.Best.{Best}

-- ## Paths

-- the flag in the place of the link; off where there is none
abbrev pub has_flag : List Bool → Option ℕ → Bool
has_flag flags link = test_some (λ n. slice_index_or flags n false) link

-- a job makes it that isn't Clean, or it isn't whole
abbrev pub is_lacking : List Rank → Option ℕ → Bool → Bool
is_lacking ranks job whole = test_some (λ (r : Rank). not (is_clean_rank r && whole)) (option_and_then (slice_get ranks) job)

-- so it is of the path of the maker of this number
abbrev pub is_away : List Rank → List Origin → List Bool → ℕ → Bool
is_away ranks origins wholes n = test_some (λ (o : Origin). is_lacking ranks o.job (slice_index_or wholes n false)) (slice_get origins n)

-- and of the path with this link
abbrev pub is_missing : List Rank → List Origin → List Bool → Option ℕ → Bool
is_missing ranks origins wholes link = test_some (is_away ranks origins wholes) link

-- an input, or a directory that is gathered from, passes the test
abbrev pub lacks_some : (Option ℕ → Bool) → Line → Bool
lacks_some missing line = list_any (λ (i : Input). missing i.link) line.inputs || list_any (λ (g : Gathered). missing g.link) line.gathers

-- ## The best

-- the later one, where its priority is greater
abbrev pub better : Option Best → Option Best → Option Best
better None later = later
better (Some best) None = Some best
better (Some best) (Some later) = if nat_lt best.priority later.priority then Some later else Some best

-- there is a best one, and its priority is no less than this one
pub record IsTop (best : Option Best) (top : Option ℕ) : Type 0 where
  pub one : Best
  pub is : best ≡ Some one
  pub most : ℕ
  pub known : top ≡ Some most
  pub no_less : nat_lt one.priority most ≡ false

-- the job of the number, where it passes
abbrev pub if_passes : {A : Type 0} → (Job × A → Bool) → ℕ → Job × A → Option Best
if_passes test n e = if test e then Some (record { number = n; priority = e.0.priority }) else None

-- the best of the jobs that pass, each by its number, from the number on
abbrev pub best_from : {A : Type 0} → (ℕ → Job × A → Bool) → ℕ → Option Best → List (Job × A) → Option Best
best_from test n best [] = best
best_from test n best (e ∷ es) = best_from test (suc n) (better best (if_passes (test n) n e)) es
