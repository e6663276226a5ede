use Rattle.std.proofs.Common.{take, ap, sym, ◌∙◌, ◌++◌, ◌∷◌, [], ◌+◌, ◌||◌}
use Rattle.std.proofs.Math.Bool.{or-false}
use Rattle.std.proofs.lemmas.List.{take_more}
use Rattle.smk_world.specs.World.{is_named}
use Rattle.smk_world_crash.proofs.Gathered.{names_more}
use Rattle.smk_world_crash.proofs.reaches.names_of.Goals as goal

pub loop-step-init : goal.loop-step-init
loop-step-init c = λ q. c.in_ok-add_places.ensures q ∙ ap (λ ns. is_named q ns || is_named q c.args.places.now) c.new-names.ensures ∙ sym (or-false (is_named q c.args.places.now))

pub loop-step-preserved : goal.loop-step-preserved
loop-step-preserved c = λ q.
    let steps = c.args.steps.now in
    let i = c.loop-step.step-index in
    let x = c.step-item.result in
    names_more q x (take i steps) (take (i + 1) steps) (is_named q c.args.places.now) (is_named q c.loop-step.names) _
    (take_more steps i x c.loop-step-test.true ∙ ap (λ y. take i steps ++ y ∷ []) (sym c.step-item.is)) (c.loop-step.invariant q) (c.in_ok-add_step.ensures q)
