use Rattle.std.proofs.Common.{◌<◌, List, length, get_or, subst, sym, arith}
use Rattle.std.proofs.lemmas.Option.{slice_get-get_or}
use Rattle.smk_core.specs.declared.phase.Phase.{Phase}
use Rattle.smk_core.specs.declared.phase.Phase.TheVariants.{Waiting}
use Rattle.smk_core.proofs.Carried.{IsCarrying, none_carried, one_carried, all_carried}
use Rattle.smk_core.proofs.carry.carried.Goals as goal

pub loop-job-init : goal.loop-job-init
loop-job-init c =
    subst (λ (made : List Phase). IsCarrying c.args.moved.now c.args.count c.args.phases.now 0 made) (sym c.in_ok-made.ensures) (none_carried c.args.moved.now c.args.count c.args.phases.now)

pub loop-job-preserved : goal.loop-job-preserved
loop-job-preserved c =
    let i = c.loop-job.job in
    let moved = c.args.moved.now in
    let phases = c.args.phases.now in
    let within : i < length phases = omega arith in
    one_carried moved c.args.count phases i (get_or moved i 0) (get_or phases i Waiting) c.loop-job.made.items c.requires.numbers c.loop-job.invariant
    (slice_get-get_or moved i 0 c.loop-job-test.true) (slice_get-get_or phases i Waiting within)

pub returns : goal.returns
returns c = all_carried c.args.moved.now c.args.count c.args.phases.now c.loop-job.job c.loop-job.made.items c.loop-job-test.false c.loop-job.invariant
