use Rattle.std.proofs.Common.{◌∙◌, ℕ, List, Option, ap, subst, arith}
use Rattle.std.specs.List.{AllByRecursion}
use Rattle.smk_world.specs.Trees.{Path}
use Rattle.smk_choose.specs.Choose.{choose}
use Rattle.smk_choose.specs.Told.{told_by, told_choice}
use Rattle.smk_choose.specs.Heights.{is_within, height_at}
use Rattle.smk_choose.specs.Reach.{HasNumber}
use Rattle.smk_choose.specs.Decided.{is_deep_enough}
use Rattle.smk_choose.proofs.Deciding.{right_choice}
use Rattle.smk_choose.proofs.Covering.{all_covered}
use Rattle.smk_choose.proofs.table.Choices.of.Goals as goal

pub returns : goal.returns
returns c =
    let flow = c.args.flow.now in
    let sources = told_by c.args.sources.now in
    let first = c.in_ok-reach.reach in
    let reach = c.deepen.new.reach in
    let end = c.in_ok-end.end in
    let one = c.in_ok-end.ensures in
    let these = is_deep_enough c.deref.result.now in
    all_covered flow sources reach end (record { chosen = c.in_ok-chosen.chosen }) one.spans
    (c.in_ok-chosen.ensures (λ p. told_choice (choose flow sources p))
    (λ n lt. right_choice flow sources reach these n (one.spans n lt)
    (λ j s. ap (λ (hs : List (Option ℕ)). is_within 199 (height_at hs j)) c.deref.ensures.value ∙ c.in_ok-heights.ensures flow sources 199 199 j (omega arith) (omega arith) s)))
    first one.grown.grows 200 one.within c.args.paths.now
    (subst (λ (ps : List Path). AllByRecursion (HasNumber first.paths.items) ps) c.as_slice.ensures c.in_ok-reach.ensures.are)
