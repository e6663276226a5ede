use Rattle.std.proofs.Common.{◌≡◌, ◌∙◌, ap, sym, ◌||◌, drop, ◌+◌, true, false}
use Rattle.std.specs.List.{flat_map}
use Rattle.smk_world.specs.World.{is_named}
use Rattle.smk_record.proofs.Directories.{directories, directory_step}
use Rattle.smk_record.proofs.valid.has_directory.Goals as goal

pub returns-then-is_directory : goal.returns-then-is_directory
returns-then-is_directory c =
    let q = c.args.path.now in
    let x = c.item-item.result in
    let rest = is_named q (directories (flat_map (λ item. item.outs) (drop (c.loop-item.item-index + 1) c.args.outputs.now))) in
    let step = directory_step q c.args.outputs.now c.loop-item.item-index x c.loop-item-test.true c.item-item.is in
    let here : is_named q (directories x.outs) ≡ true = ap (λ outs. is_named q (directories outs)) (sym c.as_slice.ensures) ∙ sym c.if-is_directory.ensures in
    ap (λ b. b || rest) (sym here) ∙ sym step ∙ c.loop-item.invariant

pub loop-item-preserved : goal.loop-item-preserved
loop-item-preserved c =
    let q = c.args.path.now in
    let x = c.item-item.result in
    let rest = is_named q (directories (flat_map (λ item. item.outs) (drop (c.loop-item.item-index + 1) c.args.outputs.now))) in
    let step = directory_step q c.args.outputs.now c.loop-item.item-index x c.loop-item-test.true c.item-item.is in
    let here : is_named q (directories x.outs) ≡ false = ap (λ outs. is_named q (directories outs)) (sym c.as_slice.ensures) ∙ sym c.if-is_directory.ensures in
    ap (λ b. b || rest) (sym here) ∙ sym step ∙ c.loop-item.invariant
