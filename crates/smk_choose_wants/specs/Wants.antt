-- What a chosen job wants, as it is told, and where listings stand.
use Rattle.std.specs.Prelude.{◌≡◌, ℕ, true, false, List, [], ◌∷◌, ◌++◌, filter, Option, Some, None, option_map, slice_get, bytes_eq}
use Rattle.std.specs.BTreeMap.{get_by_text}
use Rattle.std.specs.List.{find}
use Rattle.smk_base.specs.declared.tree.Pair.{Pair}
use Rattle.smk_base.specs.Path.{is_path}
use Rattle.smk_world.specs.declared.recipe.Item.{Item}
use Rattle.smk_world.specs.Trees.{Path}
use Rattle.smk_pattern.specs.Shapes.{Text, Shape}
use Rattle.smk_pattern.specs.Bound.{binding_of}
use Rattle.smk_pattern.specs.Reading.{fill}
use Rattle.smk_flow.specs.declared.rule.GatherPart.{GatherPart}
use Rattle.smk_flow.specs.declared.rule.InPart.{InPart}
use Rattle.smk_flow.specs.declared.rule.RulePart.{RulePart}
use Rattle.smk_flow.specs.Flows.{Flow, Candidate, folder_from}
use Rattle.smk_choose.specs.declared.choice.Making.{Making}
use Rattle.smk_choose.specs.Choose.{Sources, Make, choose}
use Rattle.smk_choose.specs.Readings.{bound_by, filled_by}
use Rattle.smk_choose.specs.Told.{making}
use Rattle.smk_chain.specs.declared.jobs.Known.{Known}
use Rattle.smk_chain.specs.Derive.{Listings, item_paths}
use Rattle.smk_choose_wants.specs.declared.places.Places.{Places}
use Rattle.smk_choose_wants.specs.declared.wanted.Want.{Want}
use Rattle.smk_choose_wants.specs.declared.wanted.Want.TheVariants as want

-- ## What is wanted

-- a wanted text: a path, or none
abbrev pub want_of : Text → Want
want_of t = elim (is_path t) as (λ _. Want) [ true ↦ want.Path t | false ↦ want.NoPath t ]

-- The rule and the values are those of the job that is chosen for some path.
pub record IsChosen (flow : Flow) (m : Making) : Type 0 where
  pub sources : Sources
  pub path : Path
  pub candidate : Candidate
  pub chosen : choose flow sources path ≡ Make candidate
  pub is : m ≡ making candidate

-- ## Listings

-- the listing at this place
abbrev pub placed_in : Listings → Option ℕ → Option Known
placed_in L None = None
placed_in L (Some n) = slice_get L n

-- The places lead from each directory to its listing, the first one for it, where it has one.
abbrev pub ArePlaces : Listings → Places → Type 0
ArePlaces L places = (q : Path) → placed_in L (get_by_text places.numbers q) ≡ find (λ (k : Known). bytes_eq k.folder q) L

-- ## Jobs of rules

-- the job of this rule with these values
abbrev pub candidate_of : Making → RulePart → Candidate
candidate_of m part = record { rule = m.rule; part = part; binding = m.binding }

-- the binding of a listed file by name, and the text that is wanted for it, where it fits
abbrev pub gathered_one : Candidate → GatherPart → Path → Option Text
gathered_one c g file = option_map (λ b. fill (b ++ c.binding) g.wanted) (binding_of c.part.limits g.listed file)

-- the same by patterns
abbrev pub wanted_by : List Pair → Shape → Shape → Path → Option Text
wanted_by binding listed wanted file = option_map (λ b. filled_by (b ++ binding) wanted) (bound_by file listed)

-- the directory that an item gathers from
abbrev pub folder_in : Flow → Candidate → Option GatherPart → List Text
folder_in flow c None = []
folder_in flow c (Some g) = folder_from flow c.binding g.checkpoint ∷ []

-- the item with those of its texts that are paths
abbrev pub item_with : Flow → Listings → Candidate → InPart → Item
item_with flow L c i = record { name = i.name; paths = filter is_path (item_paths flow L c i.texts i.gather) }
