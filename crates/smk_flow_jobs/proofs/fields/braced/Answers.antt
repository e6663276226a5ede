use Rattle.std.proofs.Common.{List, ℕ, arith, ◌++◌, ap, sym, ◌∙◌}
use Rattle.std.proofs.lemmas.Str.Pattern.{split_parts}
use Rattle.smk_flow_jobs.proofs.FieldTexts.{free, itself, no_name, a_name}
use Rattle.smk_flow_jobs.proofs.fields.braced.Goals as goal

pub returns-then-is_name : goal.returns-then-is_name
returns-then-is_name c =
    let parts = rw c.in-Some.is at (split_parts 125 c.args.segment.now c.split_once.result c.split_once.ensures.cases (omega arith)) in
    let name = c.in-Some.name.now in
    ap (λ (u : List ℕ). u ++ c.in-Some.behind.now) c.value_of.ensures
    ∙ a_name c.args.binding.now c.args.segment.now name c.in-Some.behind.now parts.0 c.requires (free 125 name parts.1) (sym c.is_name.ensures ∙ c.if-is_name.true)

pub returns-else-is_name : goal.returns-else-is_name
returns-else-is_name c =
    let parts = rw c.in-Some.is at (split_parts 125 c.args.segment.now c.split_once.result c.split_once.ensures.cases (omega arith)) in
    let name = c.in-Some.name.now in
    no_name c.args.binding.now c.args.segment.now name c.in-Some.behind.now parts.0 c.requires (free 125 name parts.1) (sym c.is_name.ensures ∙ c.if-is_name.false)

pub returns-in-None : goal.returns-in-None
returns-in-None c =
    itself c.args.binding.now c.args.segment.now c.requires
    (free 125 c.args.segment.now (rw c.in-None.is at (split_parts 125 c.args.segment.now c.split_once.result c.split_once.ensures.cases (omega arith))))
