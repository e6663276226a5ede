-- What is told of paths, and what a table of choices tells.
use Rattle.std.specs.Prelude.{◌≡◌, ℕ, zero, suc, Bool, true, false, List, Option, Some, None, option_map}
use Rattle.std.specs.BTreeMap.{get_by_text}
use Rattle.std.specs.List.{AllByRecursion}
use Rattle.smk_base.specs.Path.{is_path}
use Rattle.smk_world.specs.Trees.{Path}
use Rattle.smk_pattern.specs.Shapes.{Text}
use Rattle.smk_flow.specs.Flows.{Flow, Candidate, first_wants}
use Rattle.smk_choose.specs.declared.sources.Sources as kept
use Rattle.smk_choose.specs.declared.sources.Standing.{Standing}
use Rattle.smk_choose.specs.declared.choice.Lack as lacking
use Rattle.smk_choose.specs.declared.choice.Chosen.{Chosen}
use Rattle.smk_choose.specs.declared.choice.Chosen.TheVariants as told
use Rattle.smk_choose.specs.declared.choice.Making.{Making}
use Rattle.smk_choose.specs.declared.table.Choices.{Choices}
use Rattle.smk_choose.specs.Choose.{Sources, Choice, Lack, Source, Make, Nothing, Ambiguous, candidates, choose}

-- ## Sources

-- what is told of a path
abbrev pub standing_of : kept.Sources → Path → Option Standing
standing_of s p = get_by_text s.standings p

abbrev pub is_told : (Standing → Bool) → Option Standing → Bool
is_told test None = false
is_told test (Some s) = test s

-- what is told of paths; one of which nothing is told is no source and holds none
abbrev pub told_by : kept.Sources → Sources
told_by s =
    record {
      is = λ p. is_told (λ (t : Standing). t.source) (standing_of s p);
      holds = λ p. is_told (λ (t : Standing). t.holds) (standing_of s p);
    }

-- ## Choices

abbrev pub making : Candidate → Making
making c = record { rule = c.rule; binding = c.binding }

abbrev pub lack_told : Lack → lacking.Lack
lack_told l = record { rule = l.rule; wanted = l.wanted }

-- a choice as it is told
abbrev pub told_choice : Choice → Chosen
told_choice Source = told.Source
told_choice (Make c) = told.Make (making c)
told_choice (Nothing lack) = told.Nothing (option_map lack_told lack)
told_choice (Ambiguous a b) = told.Ambiguous a b

-- the choice that the table has for a path
abbrev pub choice_of : Choices → Path → Option Chosen
choice_of table p = get_by_text table.chosen p

-- The table has the choice for a path, and, where that is no source, for each path that its candidates want, and so on: so many
-- levels in all.
abbrev pub Covers : Flow → Sources → Choices → ℕ → Path → Type 0
Covers flow sources table zero p = Unit {0}
Covers flow sources table (suc n) p =
    (choice_of table p ≡ Some (told_choice (choose flow sources p)))
    × (sources.is p ≡ false →
    AllByRecursion
    (λ (c : Candidate). AllByRecursion (λ (w : Text). is_path w ≡ true → Covers flow sources table n w) (first_wants flow c))
    (candidates flow sources p))

abbrev pub CoversAll : Flow → Sources → Choices → ℕ → List Path → Type 0
CoversAll flow sources table n = AllByRecursion (Covers flow sources table n)
