use Rattle.std.proofs.Common.{◌≡◌, ◌∷◌, ◌+◌, ◌∙◌, List, drop, ap, sym}
use Rattle.std.proofs.lemmas.List.{at_drop_more}
use Rattle.smk_flow.specs.declared.rule.InPart.{InPart}
use Rattle.smk_flow_build.proofs.TextsRead.{read_more, unread_here, unread_more}
use Rattle.smk_flow_build.proofs.reading.read_inputs.Goals as goal

pub loop-item-preserved : goal.loop-item-preserved
loop-item-preserved c =
    let inputs = c.args.inputs.now in
    let i = c.loop-item.item-index in
    let item = c.item-item.result in
    let e : drop i inputs ≡ item ∷ drop (i + 1) inputs =
    at_drop_more (λ (xs : List InPart). xs) inputs i item c.loop-item-test.true ∙ ap (λ (x : InPart). x ∷ drop (i + 1) inputs) (sym c.item-item.is) in
    record {
      read = λ h. c.loop-item.invariant.read (read_more c.args.part.now.limits (drop i inputs) (drop (i + 1) inputs) item e c.in-Ok.ensures.read h);
      unread = λ f h. c.loop-item.invariant.unread f (unread_more c.args.part.now f (drop i inputs) (drop (i + 1) inputs) item e c.in-Ok.ensures.read h);
    }

pub returns-in-Err-clause-unread : goal.returns-in-Err-clause-unread
returns-in-Err-clause-unread c = λ known.
    let inputs = c.args.inputs.now in
    let i = c.loop-item.item-index in
    let item = c.item-item.result in
    let e : drop i inputs ≡ item ∷ drop (i + 1) inputs =
    at_drop_more (λ (xs : List InPart). xs) inputs i item c.loop-item-test.true ∙ ap (λ (x : InPart). x ∷ drop (i + 1) inputs) (sym c.item-item.is) in
    c.loop-item.invariant.unread c.in-Err.fault (unread_here c.args.part.now c.in-Err.fault (drop i inputs) (drop (i + 1) inputs) item e (c.in-Err.ensures.unread known))
