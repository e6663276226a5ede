-- What `rules.X.output` stands for.
use Rattle.std.specs.Prelude.{ℕ, List, map, bytes_eq, Option, Some, None, Ok, Err, slice_get}
use Rattle.std.specs.List.{find}
use Rattle.std.specs.Fmt.{decimal}
use Rattle.smk_parse_tree.specs.declared.syntax.OutputPick.{OutputPick}
use Rattle.smk_parse_tree.specs.declared.syntax.OutputPick.TheVariants.{All, Named, At}
use Rattle.smk_eval_values.specs.declared.value.Value.TheVariants.{Word, Many}
use Rattle.smk_eval_values.specs.declared.fault.ValueFault.TheVariants.{UnknownName}
use Rattle.smk_eval_values.specs.Expressions.{Valued}
use Rattle.smk_pattern.specs.Bare.{without_limits}
use Rattle.smk_flow.specs.declared.rule.RulePart.{RulePart}
use Rattle.smk_flow.specs.declared.rule.OutPart.{OutPart}
use Rattle.smk_flow.specs.declared.rule.FlaggedText.{FlaggedText}
use Rattle.smk_flow.specs.Checks.{out_texts}

abbrev pub item : List ℕ → Option OutPart → Valued
item name (Some o) = Ok (Many (map (λ (f : FlaggedText). without_limits f.text) o.outs))
item name None = Err (UnknownName name)

abbrev pub place : ℕ → Option (List ℕ) → Valued
place n (Some t) = Ok (Word (without_limits t))
place n None = Err (UnknownName (decimal n))

-- The outputs of a rule as patterns, without flags and constraints: all as a list; those of the item of a name as a list; or the one at
-- a place, from 0, as a text. A name or a place that the rule doesn't have is told.
abbrev pub outputs_of : RulePart → OutputPick → Valued
outputs_of part All = Ok (Many (map without_limits (out_texts part)))
outputs_of part (Named name) = item name (find (λ (o : OutPart). bytes_eq o.name name) part.outputs)
outputs_of part (At n) = place n (slice_get (out_texts part) n)
