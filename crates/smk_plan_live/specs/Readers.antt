-- Which jobs read at or under the outputs of others, by where these stand.
use Rattle.std.specs.Prelude.{ℕ, suc, Bool, false, ◌==◌, ◌-◌, List, [], ◌∷◌, ◌++◌, length, if◌then◌else◌, Option, Some, None, option_map}
use Rattle.std.specs.List.{list_any, slice_get}
use Rattle.smk_world.specs.Trees.{Path}
use Rattle.smk_world.specs.World.{folders_above}
use Rattle.smk_world.specs.declared.recipe.Item.{Item}
use Rattle.smk_flow.specs.declared.job.Job.{Job}
use Rattle.smk_plan.specs.States.{test_some}
use Rattle.smk_plan_live.specs.declared.sites.Site.{Site}

-- ## Rows of numbers

abbrev pub ends_with : List ℕ → ℕ → Bool
ends_with ns k = test_some (λ n. n == k) (slice_get ns (length ns - 1))

-- the numbers with this one at their end, once
abbrev pub with_last : List ℕ → ℕ → List ℕ
with_last ns k = if ends_with ns k then ns else ns ++ k ∷ []

-- the same where the job reads there
abbrev pub reading : Bool → ℕ → Option (List ℕ) → Option (List ℕ)
reading reads k row = if reads then option_map (λ ns. with_last ns k) row else row

-- ## Paths

-- the site is of the job of the number m
abbrev pub is_here : ℕ → Option Site → Bool
is_here m None = false
is_here m (Some s) = s.job == m

module _ (sites : Path → Option Site) (m : ℕ) where
  abbrev pub stands_at : Path → Bool
  stands_at q = is_here m (sites q)

  -- an output of the job of the number m stands at the path, or at a folder above it
  abbrev pub stands_over : Path → Bool
  stands_over q = list_any stands_at (q ∷ folders_above q)

  -- the job reads at or under one of them
  abbrev pub reads_from : Job → Bool
  reads_from k = list_any (λ (item : Item). list_any stands_over item.paths) k.recipe.inputs

  -- the numbers of those that do; the first of the jobs has the number n
  abbrev pub readers_from : ℕ → List Job → List ℕ
  readers_from n [] = []
  readers_from n (k ∷ jobs) = (if reads_from k then n ∷ [] else []) ++ readers_from (suc n) jobs
