use Rattle.std.proofs.Common.{◌≡◌, drop}
use Rattle.std.specs.List.{list_any}
use Rattle.smk_eval.specs.Statements.{is_default}
use Rattle.smk_eval.proofs.state.has_default.Given as goal

abbrev pub invariant-loop-part : goal.invariant-loop-part
invariant-loop-part l = list_any is_default (drop l.part-index l.parts) ≡ list_any is_default l.parts
