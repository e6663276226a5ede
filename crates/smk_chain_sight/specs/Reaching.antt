-- How a reach grows.
use Rattle.std.specs.Prelude.{◌≡◌, ◌≤◌, ◌<◌, ℕ, zero, suc, List, [], ◌∷◌, ◌++◌, filter, length, take, bytes_eq, Option, Some, None, slice_get}
use Rattle.std.specs.BTreeSet.{contains_text}
use Rattle.std.specs.List.{AllByRecursion, flat_map}
use Rattle.smk_base.specs.Path.{is_path}
use Rattle.smk_world.specs.Trees.{Path, among}
use Rattle.smk_flow.specs.declared.rule.RulePart.{RulePart}
use Rattle.smk_flow.specs.Flows.{Flow, Candidate}
use Rattle.smk_choose.specs.declared.choice.Making.{Making}
use Rattle.smk_choose.specs.Choose.{Sources}
use Rattle.smk_chain.specs.Derive.{Listings, wants, distinct, next}
use Rattle.smk_choose_wants.specs.declared.wanted.Want.{Want}
use Rattle.smk_choose_wants.specs.declared.wanted.Want.TheVariants as want
use Rattle.smk_chain_sight.specs.declared.telling.Eye.{Eye}
use Rattle.smk_chain_sight.specs.declared.reaching.Paths.{Paths}
use Rattle.smk_chain_sight.specs.Telling.{IsListedAround, Says}

-- each path stands once, and is kept
pub record AreKept (found : Paths) : Type 0 where
  pub is : (q : Path) → contains_text found.known q ≡ among found.paths.items q
  pub each : distinct bytes_eq found.paths.items ≡ found.paths.items

abbrev pub path_of : Want → List Path
path_of (want.Path p) = p ∷ []
path_of (want.NoPath t) = []

-- the paths that the job of a rule wants
abbrev pub paths_in : Flow → Listings → Making → Option RulePart → List Path
paths_in flow L m None = []
paths_in flow L m (Some part) =
    let c : Candidate = record { rule = m.rule; part = part; binding = m.binding } in
    filter is_path (wants flow L c)

abbrev pub paths_by : Flow → Listings → Making → List Path
paths_by flow L m = paths_in flow L m (slice_get flow.rules m.rule)

-- there is a rule of this number
abbrev pub IsPlaced : Flow → Making → Type 0
IsPlaced flow m = (part : RulePart) × (slice_get flow.rules m.rule ≡ Some part)

module _ (flow : Flow) (S : Sources) (L : Listings) where
  -- what the paths' candidates want was added
  abbrev pub with_next : List Path → List Path → List Path
  with_next xs ys = distinct bytes_eq (xs ++ flat_map (next flow S L) ys)

  -- so many times for all paths
  abbrev pub grown : ℕ → List Path → List Path
  grown zero xs = xs
  grown (suc n) xs = with_next (grown n xs) (grown n xs)

  -- for the first of them it was
  abbrev pub Closed : ℕ → List Path → Type 0
  Closed from xs = with_next xs (take from xs) ≡ xs

-- It was for the first of these fresh paths, or for all of them, of which then all is told.
pub record Advanced (flow : Flow) (L : Listings) (eye : Eye) (fresh old new : List Path) : Type 0 where
  pub some : (S : Sources) → Says eye S → (n : ℕ) × (new ≡ with_next flow S L old (take n fresh)) × (length new ≤ 100000 → length fresh ≤ n)
  pub listed : length new ≤ 100000 → AllByRecursion (IsListedAround flow eye) fresh

-- So far: each path stands once; of the first of them all is told, and what their candidates want was added.
pub record IsSpread (flow : Flow) (L : Listings) (eye : Eye) (from : ℕ) (found : Paths) : Type 0 where
  pub kept : AreKept found
  pub within : from ≤ length found.paths.items
  pub listed : AllByRecursion (IsListedAround flow eye) (take from found.paths.items)
  pub closed : (S : Sources) → Says eye S → Closed flow S L from found.paths.items

-- What the candidates of all paths want was added so many times, and all is told of all of them; or there are too many.
pub record HasSpread (flow : Flow) (L : Listings) (levels : ℕ) (eye : Eye) (old new : List Path) : Type 0 where
  pub listed : length new ≤ 100000 → AllByRecursion (IsListedAround flow eye) new
  pub whole : (S : Sources) → Says eye S → length new ≤ 100000 → new ≡ grown flow S L levels old
  pub many : (S : Sources) → Says eye S → 100000 < length new → 100000 < length (grown flow S L levels old)
