-- How far a walk goes from a path, what it comes to, and what is kept of it on the way.
use Rattle.std.specs.Prelude.{◌≡◌, ℕ, zero, suc, Bool, true, false, List, [], ◌∷◌, map, length, Option, Some, None, option_map, is_some, bytes_eq, String, string_bytes, Result, Ok, Err}
use Rattle.std.specs.List.{list_all, AllByRecursion, IsDistinct}
use Rattle.std.specs.Map.{keys_of}
use Rattle.std.specs.declared.alloc.Global.{Global}
use Rattle.indexmap.specs.IndexMap.{get_by_text}
use Rattle.indexmap.specs.IndexSet.{index_of_by}
use Rattle.smk_base.specs.Path.{is_path}
use Rattle.smk_world.specs.Trees.{Path}
use Rattle.smk_pattern.specs.Shapes.{Text}
use Rattle.smk_flow.specs.Flows.{Flow, Candidate}
use Rattle.smk_choose.specs.declared.choice.Making.{Making}
use Rattle.smk_choose.specs.Choose.{Sources, Make, choose}
use Rattle.smk_choose.specs.Told.{making}
use Rattle.smk_choose_wants.specs.declared.wanted.Want.{Want}
use Rattle.smk_choose_wants.specs.Wants.{want_of}
use Rattle.smk_chain.specs.declared.fault.ChainFault.{ChainFault}
use Rattle.smk_chain.specs.declared.jobs.Maker.{Maker}
use Rattle.smk_chain.specs.Told.{TellsFirst}
use Rattle.smk_chain.specs.Derive.{Listings, Refusal, NoInput, wants, job, walk, refused}
use Rattle.smk_chain_walk.specs.declared.reached.Reached.{Reached}
use Rattle.smk_chain_walk.specs.Numbers.{place_of, has, added, all_added, key, IsSmall}
use Rattle.smk_chain_walk.specs.Links.{number_for, befores_of, AreLower}

-- no chain of more than n jobs leads from the path, each wanting something of the next
abbrev pub Fits : Flow → Sources → Listings → ℕ → Path → Type 0
Fits flow sources L zero p = (c : Candidate) → choose flow sources p ≡ Make c → ⊥
Fits flow sources L (suc n) p =
    (c : Candidate) → choose flow sources p ≡ Make c → AllByRecursion (λ (w : Text). is_path w ≡ true → Fits flow sources L n w) (wants flow L c)

-- what is refused at the path, and then of what its job wants, in order
unfoldable pub refused_for : Flow → Sources → Listings → Path → List Refusal
refused_for flow sources L p = refused flow sources L 201 p

-- the jobs of what the path's job wants, in order, and then that job
unfoldable pub called_for : Flow → Sources → Listings → Path → List Candidate
called_for flow sources L p = walk flow sources L 200 p

-- what is refused of a text that a job of this rule wants, which makes p
abbrev pub asked_by : (Path → List Refusal) → Path → ℕ → Text → List Refusal
asked_by refusals p rule w = elim (is_path w) as (λ _. List Refusal) [ true ↦ refusals w | false ↦ NoInput p rule w ∷ [] ]

abbrev pub asked : Flow → Sources → Listings → Path → ℕ → Text → List Refusal
asked flow sources L = asked_by (refused_for flow sources L)

-- the job that makes a path that is done, by its number; none for a source
abbrev pub done_at : Reached → Path → Option (Option ℕ)
done_at reached q = option_map (λ (m : Maker). m.job) (get_by_text reached.done q)

-- the path has been walked from
abbrev pub is_done : Reached → Path → Bool
is_done reached q = is_some (done_at reached q)

abbrev pub flat : Option (Option ℕ) → Option ℕ
flat None = None
flat (Some number) = number

-- the number of the job that makes a path that is done
abbrev pub number_done : Reached → Path → Option ℕ
number_done reached q = flat (done_at reached q)

-- the number of the job with this text: its place
abbrev pub number_at : Reached → Text → Option ℕ
number_at reached t = index_of_by (λ k. bytes_eq t (string_bytes k)) reached.texts

abbrev pub same_text : String Global → String Global → Bool
same_text a b = bytes_eq (string_bytes a) (string_bytes b)

-- each path is told of once, under its own text
pub record AreTold (done : List (String Global × Maker)) : Type 0 where
  pub own : AllByRecursion (λ (e : String Global × Maker). e.1.path ≡ string_bytes e.0) done
  pub once : IsDistinct same_text (keys_of done)

-- Nothing is refused of the path, all jobs that it calls for are among these, and this is the number of its own.
pub record IsDone (flow : Flow) (sources : Sources) (L : Listings) (cs : List Candidate) (q : Path) (number : Option ℕ) : Type 0 where
  pub calm : refused_for flow sources L q ≡ []
  pub called : AllByRecursion (λ c. has cs c ≡ true) (called_for flow sources L q)
  pub is : number ≡ number_for flow sources L cs q

-- What was reached is these jobs, each once, with their numbers, paths that are done, and the links between the jobs.
pub record Holds (flow : Flow) (sources : Sources) (L : Listings) (reached : Reached) (cs : List Candidate) : Type 0 where
  pub jobs : reached.jobs ≡ map (job flow L) cs
  pub numbers : (m : Making) → IsSmall m → number_at reached (key m) ≡ place_of cs m
  pub many : length reached.texts.keys ≡ length cs
  pub done : (q : Path) (number : Option ℕ) → done_at reached q ≡ Some number → IsDone flow sources L cs q number
  -- all that the jobs want is done
  pub served : AllByRecursion (λ (c : Candidate). AllByRecursion (λ (w : Text). is_done reached w ≡ true) (wants flow L c)) cs
  pub told : AreTold reached.done.entries
  -- before a job come those that make what it wants, and their numbers are below its own
  pub befores : reached.befores ≡ map (befores_of flow sources L cs) cs
  pub lower : AreLower 0 reached.befores

-- The job of this rule and these values is chosen for the path, this is what it wants, and all of that is a path that is done.
pub record IsServed (flow : Flow) (sources : Sources) (L : Listings) (reached : Reached) (p : Path) (m : Making) (ws : List Want) (c : Candidate) : Type 0 where
  pub chosen : choose flow sources p ≡ Make c
  pub is : m ≡ making c
  pub wanted : ws ≡ map want_of (wants flow L c)
  pub paths : list_all is_path (wants flow L c) ≡ true
  pub done : AllByRecursion (λ w. is_done reached w ≡ true) (wants flow L c)

-- What was reached is these jobs; nothing is refused of the path, and once the job is added all jobs that the path calls for are among them.
pub record MayClose (flow : Flow) (sources : Sources) (L : Listings) (reached : Reached) (p : Path) (c : Candidate) (cs : List Candidate) : Type 0 where
  pub calm : refused_for flow sources L p ≡ []
  pub called : AllByRecursion (λ d. has (added cs c) d ≡ true) (called_for flow sources L p)
  pub holds : Holds flow sources L reached cs

-- what was done before is done
abbrev pub Keeps : Reached → Reached → Type 0
Keeps old new = (q : Path) → is_done old q ≡ true → is_done new q ≡ true

-- After a walk from the path with this end: the fault is the first of these refusals; or there are none, these jobs are added to those
-- before, and the path is done, as is what was.
abbrev pub Outcome : Flow → Sources → Listings → Reached → Reached → Path → List Candidate → List Refusal → List Candidate → Result (Unit {0}) ChainFault → Type 0
Outcome flow sources L old new p cs refusals called (Err fault) = TellsFirst flow refusals fault
Outcome flow sources L old new p cs refusals called (Ok u) =
    (refusals ≡ []) × Holds flow sources L new (all_added cs called) × (is_done new p ≡ true) × Keeps old new

-- what a walk from the path did
abbrev pub Walked : Flow → Sources → Listings → Reached → Reached → Path → Result (Unit {0}) ChainFault → Type 0
Walked flow sources L old new p result =
    (cs : List Candidate) → Holds flow sources L old cs → Outcome flow sources L old new p cs (refused_for flow sources L p) (called_for flow sources L p) result
