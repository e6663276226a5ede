use Rattle.std.proofs.Common.{◌∙◌, List, [], map, sym, ap, arith}
use Rattle.std.specs.BTreeMap.{get_by_text}
use Rattle.std.proofs.lemmas.List.{get_or_read}
use Rattle.smk_world.specs.Trees.{Path}
use Rattle.smk_flow.specs.declared.workflow.Rule.{Rule}
use Rattle.smk_flow.specs.PatternsOf.{rule_of}
use Rattle.smk_choose.specs.Heights.{no_node}
use Rattle.smk_choose.specs.Decided.{is_deep_enough, chosen_by}
use Rattle.smk_choose.proofs.Covering.{put_step}
use Rattle.smk_choose.proofs.table.first_choices.Goals as goal

pub loop-number-preserved : goal.loop-number-preserved
loop-number-preserved c = λ right each.
    let flow = c.args.flow.now in
    let reach = c.args.reach.now in
    let these = is_deep_enough c.args.heights.now in
    let n = c.loop-number.number in
    let lt = c.loop-number-test.true in
    let rules = c.as_slice-rules.ensures ∙ c.rules.ensures.rules in
    let node = get_or_read reach.nodes.items n c.index.result.now (omega (arith, lt, c.requires.nodes)) c.index.ensures no_node in
    let path = get_or_read reach.paths.items n c.index-in-loop-number.result.now (omega (arith, lt, c.requires.paths)) c.index-in-loop-number.ensures [] in
    put_step reach.paths.items right (get_by_text c.loop-number.kept) (get_by_text c.put.new.kept) n c.index-in-loop-number.result.now c.in_ok-choice.choice path
    (c.in_ok-choice.ensures
    ∙ ap (λ (rs : List Rule). chosen_by flow rs c.deref.result.now these c.index.result.now) rules
    ∙ ap (λ (ps : List Path). chosen_by flow (map rule_of flow.rules) ps these c.index.result.now) c.deref.ensures.value
    ∙ ap (chosen_by flow (map rule_of flow.rules) reach.paths.items these) node
    ∙ each n lt
    ∙ ap right (sym path))
    c.in_ok-put.ensures (c.loop-number.invariant right each)

pub returns : goal.returns
returns c = λ right each n lt. c.loop-number.invariant right each n (omega (arith, lt, c.loop-number-test.false))
