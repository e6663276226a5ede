-- The numbers of rules: their places, which are those of their names.
use Rattle.std.specs.Prelude.{◌≡◌, ◌<◌, ℕ, List, length, map, String, string_bytes, Option, option_map, bytes_eq}
use Rattle.std.specs.List.{find, enumerate_from}
use Rattle.std.specs.declared.alloc.Global.{Global}
use Rattle.smk_pattern.specs.Shapes.{Text}
use Rattle.smk_flow.specs.declared.rule.RulePart.{RulePart}
use Rattle.smk_flow.specs.declared.workflow.Rule.{Rule}

-- the number of the first of these rules with this name, where the first has this number
abbrev pub number_from : ℕ → List RulePart → Text → Option ℕ
number_from n parts name = option_map (λ (e : ℕ × RulePart). e.0) (find (λ (e : ℕ × RulePart). bytes_eq e.1.name name) (enumerate_from n parts))

abbrev pub parts_of : List Rule → List RulePart
parts_of = map (λ (r : Rule). r.part)

-- the names of these rules, in order
abbrev pub rule_names : List Rule → List Text
rule_names = map (λ (r : Rule). r.part.name)

-- these are the names of the rules, in order, and there are fewer rules than numbers
pub record AreNames (rules : List Rule) (names : List (String Global)) : Type 0 where
  pub are : map string_bytes names ≡ rule_names rules
  pub few : length rules < 4294967296
