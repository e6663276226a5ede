-- Which jobs make what: the numbers of jobs, by their places in plan order.
use Rattle.std.specs.Prelude.{◌≡◌, ◌<◌, ℕ, suc, true, List, [], ◌∷◌, map, bytes_eq, nat_eq, Option, Some, None, option_map, is_some}
use Rattle.std.specs.List.{find, filter_map, flat_map, AllByRecursion}
use Rattle.smk_world.specs.Trees.{Path}
use Rattle.smk_flow.specs.Flows.{Flow, Candidate}
use Rattle.smk_choose.specs.Choose.{Sources, choose, maker}
use Rattle.smk_chain.specs.declared.jobs.Jobs.{Jobs}
use Rattle.smk_chain.specs.declared.jobs.Maker.{Maker}
use Rattle.smk_chain.specs.Derive.{Listings, wants, distinct, chosen, jobs, refused}
use Rattle.smk_chain_walk.specs.Numbers.{number_in}

-- what is told to make the path: a job's number, or none for a source; nothing where the path isn't among them
abbrev pub maker_told : List Maker → Path → Option (Option ℕ)
maker_told makers q = option_map (λ (m : Maker). m.job) (find (λ (m : Maker). bytes_eq m.path q) makers)

-- no path is told of twice
abbrev pub AreOnce : List Maker → Type 0
AreOnce [] = Unit {0}
AreOnce (m ∷ makers) = (maker_told makers m.path ≡ None) × AreOnce makers

-- The numbers in each of these lists, of which the first is that of the job with this number, are below its own.
abbrev pub AreLower : ℕ → List (List ℕ) → Type 0
AreLower n [] = Unit {0}
AreLower n (numbers ∷ rest) = AllByRecursion (λ k. k < n) numbers × AreLower (suc n) rest

module _ (flow : Flow) (sources : Sources) (L : Listings) where
  -- the number, among these jobs, of the one that makes the path; none where none is chosen for it
  abbrev pub number_for : List Candidate → Path → Option ℕ
  number_for cs q = number_in cs (maker (choose flow sources q))

  -- the numbers of the jobs that make what the job wants, each once
  abbrev pub befores_of : List Candidate → Candidate → List ℕ
  befores_of cs c = distinct nat_eq (filter_map (number_for cs) (wants flow L c))

-- The links between the jobs of targets: what makes each path, and which jobs come before each job.
pub record AreLinked (flow : Flow) (sources : Sources) (L : Listings) (targets : List Path) (made : Jobs) : Type 0 where
  -- no path is told of twice
  pub once : AreOnce made.makers
  -- what is told to make a path is the job that is chosen for it, and none for a source
  pub right : (q : Path) (number : Option ℕ) → maker_told made.makers q ≡ Some number → number ≡ number_for flow sources L (chosen flow sources L targets) q
  -- the targets are told of
  pub all_targets : AllByRecursion (λ t. is_some (maker_told made.makers t) ≡ true) targets
  -- all that the jobs want is told of
  pub all_wants : AllByRecursion (λ c. AllByRecursion (λ w. is_some (maker_told made.makers w) ≡ true) (wants flow L c)) (chosen flow sources L targets)
  -- before a job come those that make what it wants
  pub befores : made.befores ≡ map (befores_of flow sources L (chosen flow sources L targets)) (chosen flow sources L targets)
  -- their numbers are below its own
  pub lower : AreLower 0 made.befores

-- The jobs of a walk from the targets: nothing is refused on the way, they are those that the targets call for, in plan order, with the links between them, and
-- they have the listings by which they were derived.
pub record IsWalk (flow : Flow) (sources : Sources) (L : Listings) (targets : List Path) (made : Jobs) : Type 0 where
  pub none : flat_map (refused flow sources L 201) targets ≡ []
  pub called : made.jobs ≡ jobs flow sources L targets
  pub links : AreLinked flow sources L targets made
  pub lists : made.lists ≡ L
