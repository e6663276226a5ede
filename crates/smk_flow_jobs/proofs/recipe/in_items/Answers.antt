use Rattle.std.proofs.Common.{◌≡◌, ◌∷◌, ◌+◌, ◌∙◌, List, drop, map, ap, sym}
use Rattle.std.specs.List.{flat_map}
use Rattle.std.proofs.lemmas.List.{at_drop_more}
use Rattle.smk_pattern.specs.Reading.{fill}
use Rattle.smk_flow.specs.declared.rule.InPart.{InPart}
use Rattle.smk_flow.specs.Jobs.{declared_item}
use Rattle.smk_flow_jobs.proofs.MadeParts.{one_made, goes_on, stops}
use Rattle.smk_flow_jobs.proofs.recipe.in_items.Goals as goal

pub returns-in-Err-clause-not : goal.returns-in-Err-clause-not
returns-in-Err-clause-not c = λ known.
    let items = c.args.items.now in
    let i = c.loop-item.item-index in
    let item = c.item-item.result in
    let later = drop (i + 1) items in
    let e : drop i items ≡ item ∷ later =
    at_drop_more (λ (xs : List InPart). xs) items i item c.loop-item-test.true ∙ ap (λ (x : InPart). x ∷ later) (sym c.item-item.is) in
    stops (λ (i : InPart). map (fill c.args.binding.now) i.texts) (drop i items) later item (flat_map (λ (i : InPart). map (fill c.args.binding.now) i.texts) items) c.in-Err.fault e c.loop-item.invariant.rest (c.in-Err.ensures.not known)

pub loop-item-preserved : goal.loop-item-preserved
loop-item-preserved c =
    let items = c.args.items.now in
    let i = c.loop-item.item-index in
    let item = c.item-item.result in
    let later = drop (i + 1) items in
    let e : drop i items ≡ item ∷ later =
    at_drop_more (λ (xs : List InPart). xs) items i item c.loop-item-test.true ∙ ap (λ (x : InPart). x ∷ later) (sym c.item-item.is) in
    record {
      items = one_made (declared_item c.args.binding.now) items i item c.loop-item.made c.push.new.self c.in-Ok.item c.loop-item-test.true c.item-item.is c.loop-item.invariant.items c.in-Ok.ensures.item
          c.in_ok-push-in-Ok.ensures.ok;
      rest = goes_on (λ (i : InPart). map (fill c.args.binding.now) i.texts) (drop i items) later item (flat_map (λ (i : InPart). map (fill c.args.binding.now) i.texts) items) e c.loop-item.invariant.rest c.in-Ok.ensures.are;
    }
