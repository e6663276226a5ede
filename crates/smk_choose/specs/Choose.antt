-- The choice of a job for a path. It looks at names and at which paths are sources, at no content.
use Rattle.std.specs.Prelude.{ℕ, zero, suc, Bool, true, false, ◌&&◌, ◌||◌, not, List, [], ◌∷◌, ◌++◌, filter, ◌==◌, bytes_eq, Option, Some, None, option_map}
use Rattle.std.specs.List.{list_any, list_all, find, flat_map, filter_map, enumerate_from}
use Rattle.smk_base.specs.declared.tree.Pair.{Pair}
use Rattle.smk_base.specs.Path.{is_path}
use Rattle.smk_world.specs.World.{folders_above}
use Rattle.smk_world.specs.Trees.{Path, among, first}
use Rattle.smk_pattern.specs.Shapes.{Text}
use Rattle.smk_pattern.specs.Bound.{binding_of}
use Rattle.smk_flow.specs.declared.rule.RulePart.{RulePart}
use Rattle.smk_flow.specs.declared.rule.FlaggedText.{FlaggedText}
use Rattle.smk_flow.specs.declared.rule.Clause.{Clause}
use Rattle.smk_flow.specs.Flows.{Flow, Candidate, outs, makes_folder, outputs, logs, first_wants, numbered, has_wildcards_in}

-- which paths are sources, and which hold one: equal it, lie under it or have it under them
pub record Sources : Type 0 where
  pub is : Path → Bool
  pub holds : Path → Bool

-- the rule of the first candidate, and its first want that isn't available
pub record Lack : Type 0 where
  pub rule : ℕ
  pub wanted : Text

pub data Choice : Type 0 where
  Source : Choice
  Make : Candidate → Choice
  Nothing : Option Lack → Choice
  Ambiguous : ℕ → ℕ → Choice

-- ## Candidates

abbrev pub candidate : ℕ × RulePart → List Pair → Candidate
candidate rule binding = record { rule = rule.0; part = rule.1; binding = binding }

-- the binding by the first of these outputs of a rule that fits the path
abbrev pub fit : RulePart → List FlaggedText → Path → Option (List Pair)
fit part texts p = first (filter_map (λ (o : FlaggedText). binding_of part.limits o.text p) texts)

-- the jobs of which the path would be a member: of each checkpoint in the order of the file, by each folder above the path
-- that fits a directory output, the shorter one first
abbrev pub as_member : Flow → Path → List Candidate
as_member flow p =
    flat_map
    (λ (r : ℕ × RulePart). filter_map (λ (f : Path). option_map (candidate r) (fit r.1 (filter makes_folder (outs r.1)) f)) (folders_above p))
    (filter (λ (r : ℕ × RulePart). r.1.checkpoint) (numbered flow))

-- the jobs of which the path would be an output, by the first output of each rule that fits it
abbrev pub as_output : Flow → Path → List Candidate
as_output flow p = filter_map (λ (r : ℕ × RulePart). option_map (candidate r) (fit r.1 (outs r.1) p)) (numbered flow)

abbrev pub or_else : List Candidate → List Candidate → List Candidate
or_else [] cs = cs
or_else (c ∷ rest) cs = c ∷ rest

module _ (flow : Flow) (sources : Sources) where
  -- its outputs and logs are paths that hold no source
  abbrev pub is_apart : Candidate → Bool
  is_apart c = list_all (λ q. is_path q && not (sources.holds q)) (outputs flow c ++ logs flow c)

  -- a member's candidates are the jobs of its directories, any other path's those that have it as an output
  abbrev pub candidates : Path → List Candidate
  candidates p = filter is_apart (or_else (as_member flow p) (as_output flow p))

-- A text is available at depth n: it is a source, or at depth 1 or more some candidate has all that it wants available one
-- level less deep.
abbrev pub avail : Flow → Sources → ℕ → Text → Bool
avail flow sources zero p = is_path p && sources.is p
avail flow sources (suc n) p =
    elim (is_path p) as (λ _. Bool) [
      | false ↦ false
      | true ↦ elim (sources.is p) as (λ _. Bool) [
        | true ↦ true
        | false ↦ list_any (λ c. list_all (avail flow sources n) (first_wants flow c)) (candidates flow sources p)
      ]
    ]

-- ## Preference

-- the names have a before b
abbrev pub has_before : Text → Text → List Text → Bool
has_before a b [] = false
has_before a b (name ∷ names) = (bytes_eq a name && among names b) || has_before a b names

abbrev pub orders : Text → Text → Clause → Bool
orders a b clause = has_before a b clause.names

-- Some clause has a before b; or no clause has both, and only b has wildcards. Clauses aren't chained.
abbrev pub precedes : Flow → RulePart → RulePart → Bool
precedes flow a b =
    list_any (orders a.name b.name) flow.orders
    || (not (list_any (orders b.name a.name) flow.orders) && (not (has_wildcards_in a) && has_wildcards_in b))

module _ (flow : Flow) (sources : Sources) where
  -- all that it wants whatever the listings are is available at depth 199
  abbrev pub is_viable : Candidate → Bool
  is_viable c = list_all (avail flow sources 199) (first_wants flow c)

  abbrev pub viable : Path → List Candidate
  viable p = filter is_viable (candidates flow sources p)

  abbrev pub lack : Candidate → Option Lack
  lack c = option_map (λ t. record { rule = c.rule; wanted = t }) (find (λ t. not (avail flow sources 199 t)) (first_wants flow c))

  abbrev pub lack_of_first : List Candidate → Option Lack
  lack_of_first [] = None
  lack_of_first (c ∷ rest) = lack c

-- the one of these that precedes each other one
abbrev pub leader : Flow → List (ℕ × Candidate) → Option (ℕ × Candidate)
leader flow all =
    find (λ (c : ℕ × Candidate). list_all (λ (d : ℕ × Candidate). c.0 == d.0 || precedes flow c.1.part d.1.part) all) all

-- by the leader of the viable candidates, these, and what is lacking where there is none
abbrev pub choice : Option (ℕ × Candidate) → List Candidate → Option Lack → Choice
choice (Some c) viable lack = Make c.1
choice None (a ∷ b ∷ rest) lack = Ambiguous a.rule b.rule
choice None (a ∷ []) lack = Make a
choice None [] lack = Nothing lack

-- A source is one. Otherwise the viable candidate that precedes each other one is made; where there is none, the path is
-- ambiguous between the first two viable ones, or nothing makes it, and the first candidate lacks something, if there is one.
abbrev pub choose : Flow → Sources → Path → Choice
choose flow sources p =
    elim (sources.is p) as (λ _. Choice) [
      | true ↦ Source
      | false ↦
          let vs = viable flow sources p in
          choice (leader flow (enumerate_from 0 vs)) vs (lack_of_first flow sources (candidates flow sources p))
    ]

-- the job that makes the path
abbrev pub maker : Choice → Option Candidate
maker Source = None
maker (Make c) = Some c
maker (Nothing lack) = None
maker (Ambiguous a b) = None
