use Rattle.std.proofs.Common.{◌≡◌, ◌∷◌, ◌+◌, ◌∙◌, List, drop, ap, sym}
use Rattle.std.specs.List.{flat_map}
use Rattle.std.proofs.lemmas.List.{at_drop_more}
use Rattle.smk_flow.specs.declared.rule.OutPart.{OutPart}
use Rattle.smk_flow.specs.Jobs.{flagged}
use Rattle.smk_flow_jobs.proofs.MadeParts.{flagged_more, flagged_goes_on, flagged_stops}
use Rattle.smk_flow_jobs.proofs.recipe.flagged.Goals as goal

pub returns-in-Err-clause-not : goal.returns-in-Err-clause-not
returns-in-Err-clause-not c = λ known.
    let items = c.args.items.now in
    let i = c.loop-item.item-index in
    let item = c.item-item.result in
    let later = drop (i + 1) items in
    let e : drop i items ≡ item ∷ later =
    at_drop_more (λ (xs : List OutPart). xs) items i item c.loop-item-test.true ∙ ap (λ (x : OutPart). x ∷ later) (sym c.item-item.is) in
    let b = c.args.binding.now in
    let flag = c.args.flag in
    flagged_stops b flag (drop i items) later item (flagged b flag (flat_map (λ (i : OutPart). i.outs) items)) c.in-Err.fault e c.loop-item.invariant.rest (c.in-Err.ensures.not known)

pub loop-item-preserved : goal.loop-item-preserved
loop-item-preserved c =
    let items = c.args.items.now in
    let i = c.loop-item.item-index in
    let item = c.item-item.result in
    let later = drop (i + 1) items in
    let e : drop i items ≡ item ∷ later =
    at_drop_more (λ (xs : List OutPart). xs) items i item c.loop-item-test.true ∙ ap (λ (x : OutPart). x ∷ later) (sym c.item-item.is) in
    let b = c.args.binding.now in
    let flag = c.args.flag in
    let whole = flagged b flag (flat_map (λ (i : OutPart). i.outs) items) in
    record {
      paths = flagged_more b flag (drop i items) later item c.loop-item.made c.add_flagged.new.made whole e c.loop-item.invariant.paths c.in-Ok.ensures.paths;
      rest = flagged_goes_on b flag (drop i items) later item whole e c.loop-item.invariant.rest c.in-Ok.ensures.are;
    }
