-- Rules by their names.
use Rattle.std.specs.Prelude.{Option, option_map}
use Rattle.std.specs.Borrow.{Bor}
use Rattle.std.specs.BTreeMap.{BTreeMap, get_by}
use Rattle.std.specs.Cmp.Lexicographic.{slice_cmp}
use Rattle.std.specs.Ordering.{nat_cmp}
use Rattle.smk_pattern.specs.Shapes.{Text}
use Rattle.smk_flow.specs.declared.rule.RulePart.{RulePart}

-- the rule that is kept under a name
abbrev pub rule_at : BTreeMap (Bor Text) (Bor RulePart) → Text → Option RulePart
rule_at rules name = option_map (λ (r : Bor RulePart). r.now) (get_by (λ k. slice_cmp nat_cmp name k.now) rules)
