-- Which rules have to be tried for a path.
use Rattle.std.specs.Prelude.{◌≡◌, ℕ, ◌+◌, ◌-◌, ◌<◌, ◌≤◌, ◌==◌, Bool, true, false, ◌||◌, List, [], ◌∷◌, map, length, bytes_eq, slice_get, Option, Some, None}
use Rattle.std.specs.BTreeMap.{get_by_text}
use Rattle.std.specs.List.{list_any}
use Rattle.smk_world.specs.Trees.{Path}
use Rattle.smk_pattern.specs.Shapes.{Text, Part, Wildcard, Shape}
use Rattle.smk_pattern.specs.Fitting.{filled}
use Rattle.smk_flow.specs.declared.workflow.Rule.{Rule}
use Rattle.smk_flow.specs.Flows.{Flow}
use Rattle.smk_flow.specs.PatternsOf.{rule_of}
use Rattle.smk_choose.specs.declared.readings.Reading.{Reading}
use Rattle.smk_choose.specs.declared.index.Index.{Index}
use Rattle.smk_choose.specs.declared.index.Readings.{Readings}
use Rattle.smk_choose.specs.Readings.{reading_of, by_folder}

-- ## Numbers

-- each is above the one before, and none is below the first
abbrev pub Rises : ℕ → List ℕ → Type 0
Rises from [] = Unit {0}
Rises from (n ∷ ns) = (from ≤ n) × Rises (n + 1) ns

abbrev pub AreBelow : ℕ → List ℕ → Type 0
AreBelow end [] = Unit {0}
AreBelow end (n ∷ ns) = (n < end) × AreBelow end ns

abbrev pub has_number : ℕ → List ℕ → Bool
has_number n [] = false
has_number n (m ∷ ns) = n == m || has_number n ns

abbrev pub is_number : ℕ → Option ℕ → Bool
is_number n None = false
is_number n (Some m) = m == n

-- it stands at the end
abbrev pub is_last : ℕ → List ℕ → Bool
is_last n ns = is_number n (slice_get ns (length ns - 1))

-- The number came to those before, which it isn't below: they rise as they did, and it is among them.
pub record HasAdded (n : ℕ) (old new : List ℕ) : Type 0 where
  pub rises : AreBelow (n + 1) old → Rises 0 old → Rises 0 new
  pub below : AreBelow (n + 1) old → AreBelow (n + 1) new
  pub has : (m : ℕ) → has_number m new ≡ (m == n || has_number m old)

-- it came, or all are as they were
abbrev pub HasAddedWhere : Bool → ℕ → List ℕ → List ℕ → Type 0
HasAddedWhere true n old new = HasAdded n old new
HasAddedWhere false n old new = new ≡ old

-- The first of two lists that rise from the same number, and what is left: the least of all their numbers.
pub record IsLeast (n : ℕ) (one other ones others : List ℕ) : Type 0 where
  pub rises : (from : ℕ) → Rises from one → Rises from other → (from ≤ n) × Rises n ones × Rises n others
  pub has : (m : ℕ) → (has_number m one || has_number m other) ≡ (m == n || (has_number m ones || has_number m others))
  pub fewer : length ones + length others < length one + length other

-- ## Patterns

-- the text of a pattern without wildcards, the only path that fits it
abbrev pub own_in : List Part → List Wildcard → Option Text
own_in parts [] = Some (filled parts [])
own_in parts (w ∷ ws) = None

abbrev pub own_text : Shape → Option Text
own_text s = own_in s.parts s.wildcards

-- the path is this text, where there is one
abbrev pub may_be : Option Text → Path → Bool
may_be None p = true
may_be (Some t) p = bytes_eq t p

-- the path may fit one of these patterns
abbrev pub may_fit : List Shape → Path → Bool
may_fit shapes p = list_any (λ (s : Shape). may_be (own_text s) p) shapes

-- ## Rules

abbrev pub or_no : Option (List ℕ) → List ℕ
or_no None = []
or_no (Some ns) = ns

-- those kept for a text
abbrev pub numbers_at : Index → Text → List ℕ
numbers_at index t = or_no (get_by_text index.texts t)

-- the rule is tried for the path
abbrev pub tries : Index → Path → ℕ → Bool
tries index p n = has_number n (numbers_at index p) || has_number n index.wild

pub record AreOrdered (index : Index) : Type 0 where
  pub texts : (t : Text) → Rises 0 (numbers_at index t)
  pub wild : Rises 0 index.wild

pub record AllBelow (end : ℕ) (index : Index) : Type 0 where
  pub texts : (t : Text) → AreBelow end (numbers_at index t)
  pub wild : AreBelow end index.wild

-- The rule is tried from now on for the paths of which this is true, and all others as before.
pub record HasTaken (n : ℕ) (may : Path → Bool) (old new : Index) : Type 0 where
  pub ordered : AllBelow (n + 1) old → AreOrdered old → AreOrdered new
  pub below : AllBelow (n + 1) old → AllBelow (n + 1) new
  pub keeps : (p : Path) (m : ℕ) → tries old p m ≡ true → tries new p m ≡ true
  pub adds : (p : Path) → may p ≡ true → tries new p n ≡ true

-- the patterns of the outputs of the rule with this number, and of its directories
abbrev pub outputs_in : Option Rule → List Shape
outputs_in None = []
outputs_in (Some r) = r.outputs

abbrev pub outputs_at : List Rule → ℕ → List Shape
outputs_at rules n = outputs_in (slice_get rules n)

abbrev pub directories_in : Option Reading → List Shape
directories_in None = []
directories_in (Some r) = r.folders

abbrev pub directories_at : List Reading → ℕ → List Shape
directories_at readings n = directories_in (slice_get readings n)

abbrev pub has_any : List Shape → Bool
has_any [] = false
has_any (s ∷ shapes) = true

-- Each rule with an output that the path may fit is tried.
pub record AreIndexed (rules : List Rule) (index : Index) : Type 0 where
  pub ordered : AreOrdered index
  pub finds : (p : Path) (n : ℕ) → may_fit (outputs_at rules n) p ≡ true → tries index p n ≡ true

-- The rules are tried in order, and one that isn't has no output that the path fits.
pub record IsIndex (rules : List Rule) (index : Index) : Type 0 where
  pub ordered : AreOrdered index
  pub misses : (p : Path) (n : ℕ) → tries index p n ≡ false → by_folder n (outputs_at rules n) p ≡ []

-- The numbers of the rules that have directories, in order.
pub record AreFolders (readings : List Reading) (numbers : List ℕ) : Type 0 where
  pub rises : Rises 0 numbers
  pub misses : (n : ℕ) → has_number n numbers ≡ false → directories_at readings n ≡ []

-- What is read of the rules, and which of them are tried.
pub record AreReadings (flow : Flow) (readings : Readings) : Type 0 where
  pub rules : readings.rules.items ≡ map (reading_of flow) flow.rules
  pub folders : AreFolders readings.rules.items readings.folders
  pub outputs : IsIndex (map rule_of flow.rules) readings.index
