use Rattle.std.proofs.Common.{◌∙◌, ◌<◌, ℕ, List, sym, ap, length, get_or, arith}
use Rattle.std.proofs.lemmas.List.{get_or_default}
use Rattle.smk_choose.proofs.Above.{above_step, above_none}
use Rattle.smk_choose.proofs.candidates.folders_above.Goals as goal

pub loop-at-init : goal.loop-at-init
loop-at-init c = above_none c.as_str-text.result.now c.new-folders.result.items c.new-folders.ensures.items

pub loop-at-preserved : goal.loop-at-preserved
loop-at-preserved c =
    let text = c.as_str-text.result.now in
    let bytes = c.as_bytes-byte-items.result.now in
    let same = c.as_bytes-byte-items.ensures.value in
    let lt : c.loop-at.at < length text = omega (arith, c.loop-at-test.true, ap length same) in
    above_step text c.loop-at.folders.items c.add_folder.new.folders.items c.loop-at.at (get_or bytes c.loop-at.at 0) lt
    (get_or_default text c.loop-at.at _ 0 lt ∙ ap (λ (xs : List ℕ). get_or xs c.loop-at.at 0) (sym same))
    c.loop-at.invariant c.in_ok-add_folder.ensures
