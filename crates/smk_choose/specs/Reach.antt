-- Paths by their numbers, with what may make them and what that wants, so many levels deep.
use Rattle.std.specs.Prelude.{◌≡◌, ℕ, zero, suc, ◌<◌, ◌++◌, true, false, List, [], ◌∷◌, length, get_or, map, slice_get, Option, Some, None}
use Rattle.std.specs.List.{AllByRecursion}
use Rattle.std.specs.BTreeMap.{get_by_text}
use Rattle.smk_base.specs.Path.{is_path}
use Rattle.smk_world.specs.Trees.{Path}
use Rattle.smk_pattern.specs.Shapes.{Text, Shape}
use Rattle.smk_flow.specs.Flows.{Flow, Candidate, first_wants}
use Rattle.smk_choose.specs.declared.nodes.Want.{Want}
use Rattle.smk_choose.specs.declared.nodes.Want.TheVariants as want
use Rattle.smk_choose.specs.declared.nodes.Way.{Way}
use Rattle.smk_choose.specs.declared.nodes.Node.{Node}
use Rattle.smk_choose.specs.declared.reach.Reach.{Reach}
use Rattle.smk_choose.specs.Choose.{Sources, candidates}
use Rattle.smk_choose.specs.declared.choice.Making.{Making}
use Rattle.smk_choose.specs.declared.readings.Reading.{Reading}
use Rattle.smk_choose.specs.Readings.{filled_by}
use Rattle.smk_choose.specs.Told.{making}
use Rattle.smk_choose.specs.Heights.{node_at}

-- the path of this number
abbrev pub path_at : List Path → ℕ → Path
path_at paths n = get_or paths n []

-- what is wanted is this text: a path by its number, or a text that is no path
abbrev pub IsWant : List Path → Want → Text → Type 0
IsWant paths (want.Path n) t = (n < length paths) × (path_at paths n ≡ t)
IsWant paths (want.NoPath s) t = (s ≡ t) × (is_path t ≡ false)

abbrev pub AreWants : List Path → List Want → List Text → Type 0
AreWants paths [] [] = Unit {0}
AreWants paths [] (t ∷ ts) = ⊥
AreWants paths (w ∷ ws) [] = ⊥
AreWants paths (w ∷ ws) (t ∷ ts) = IsWant paths w t × AreWants paths ws ts

abbrev pub shapes_in : Option Reading → List Shape
shapes_in None = []
shapes_in (Some r) = r.wants

-- what a job wants, by what is read of its rule
abbrev pub wants_by : List Reading → Making → List Text
wants_by readings m = map (filled_by m.binding) (shapes_in (slice_get readings m.rule))

-- the way to make a path is this job
abbrev pub IsMade : List Reading → List Path → Way → Making → Type 0
IsMade readings paths way m = (way.making ≡ m) × AreWants paths way.wants (wants_by readings m)

abbrev pub AreMade : List Reading → List Path → List Way → List Making → Type 0
AreMade readings paths [] [] = Unit {0}
AreMade readings paths [] (m ∷ ms) = ⊥
AreMade readings paths (w ∷ ws) [] = ⊥
AreMade readings paths (w ∷ ws) (m ∷ ms) = IsMade readings paths w m × AreMade readings paths ws ms

-- the way to make a path is this candidate
abbrev pub IsWay : Flow → List Path → Way → Candidate → Type 0
IsWay flow paths way c = (way.making ≡ making c) × AreWants paths way.wants (first_wants flow c)

abbrev pub AreWays : Flow → List Path → List Way → List Candidate → Type 0
AreWays flow paths [] [] = Unit {0}
AreWays flow paths [] (c ∷ cs) = ⊥
AreWays flow paths (w ∷ ws) [] = ⊥
AreWays flow paths (w ∷ ws) (c ∷ cs) = IsWay flow paths w c × AreWays flow paths ws cs

-- it is known whether the path is a source, and, if it is none, what its candidates are
abbrev pub IsNode : Flow → Sources → List Path → Node → Path → Type 0
IsNode flow sources paths node p =
    (node.source ≡ sources.is p) × (sources.is p ≡ false → AreWays flow paths node.ways (candidates flow sources p))

-- each number stands for a path, and is kept under it
pub record AreNumbered (r : Reach) : Type 0 where
  pub are : (n : ℕ) → n < length r.paths.items → is_path (path_at r.paths.items n) ≡ true
  pub at : (p : Path) (n : ℕ) → get_by_text r.numbers p ≡ Some n → (n < length r.paths.items) × (path_at r.paths.items n ≡ p)

-- paths and nodes are added, and the numbers stay
pub record Grows (old new : Reach) : Type 0 where
  pub added : List Path
  pub paths : new.paths.items ≡ old.paths.items ++ added
  pub more : List Node
  pub nodes : new.nodes.items ≡ old.nodes.items ++ more
  pub numbers : (p : Path) (n : ℕ) → get_by_text old.numbers p ≡ Some n → get_by_text new.numbers p ≡ Some n

-- what is known of the first paths is known with all that their candidates want
abbrev pub AreNodes : Flow → Sources → Reach → Type 0
AreNodes flow sources r = (n : ℕ) → n < length r.nodes.items → IsNode flow sources r.paths.items (node_at r.nodes.items n) (path_at r.paths.items n)

-- each number stands for a path, and what is known of the first paths is so
pub record IsReach (flow : Flow) (sources : Sources) (r : Reach) : Type 0 where
  pub numbered : AreNumbered r
  pub nodes : AreNodes flow sources r

-- paths and nodes were added, and each number stands for a path
pub record HasGrown (old new : Reach) : Type 0 where
  pub numbered : AreNumbered new
  pub grows : Grows old new

-- the paths among these wants
abbrev pub AllPaths : (ℕ → Type 0) → List Want → Type 0
AllPaths P [] = Unit {0}
AllPaths P (want.Path n ∷ ws) = P n × AllPaths P ws
AllPaths P (want.NoPath t ∷ ws) = AllPaths P ws

-- It is known whether the path is a source, and, so many levels deep, what its candidates are, and this of what they want.
abbrev pub Spans : Flow → Sources → Reach → ℕ → ℕ → Type 0
Spans flow sources r zero n = (n < length r.paths.items) × ((node_at r.nodes.items n).source ≡ sources.is (path_at r.paths.items n))
Spans flow sources r (suc k) n =
    (n < length r.paths.items)
    × (IsNode flow sources r.paths.items (node_at r.nodes.items n) (path_at r.paths.items n)
    × (sources.is (path_at r.paths.items n) ≡ false → AllByRecursion (λ (w : Way). AllPaths (Spans flow sources r k) w.wants) (node_at r.nodes.items n).ways))

-- of the first paths it is known whether they are sources
abbrev pub AreFlagged : Sources → Reach → Type 0
AreFlagged sources r = (n : ℕ) → n < length r.nodes.items → (node_at r.nodes.items n).source ≡ sources.is (path_at r.paths.items n)

-- one of these paths is this one
abbrev pub HasNumber : List Path → Path → Type 0
HasNumber paths p = (n : ℕ) × (n < length paths) × (path_at paths n ≡ p)

-- The number is one of the first, and, where its path is no source, so are those of what its candidates want, and so on, so many
-- levels deep.
abbrev pub Within : Sources → Reach → ℕ → ℕ → ℕ → Type 0
Within sources r end zero n = n < end
Within sources r end (suc k) n =
    (n < end)
    × (sources.is (path_at r.paths.items n) ≡ false → AllByRecursion (λ (w : Way). AllPaths (Within sources r end k) w.wants) (node_at r.nodes.items n).ways)
