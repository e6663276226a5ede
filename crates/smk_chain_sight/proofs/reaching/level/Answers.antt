use Rattle.std.proofs.Common.{◌+◌, take}
use Rattle.smk_world.proofs.Devices.{looked_then, looked_on, looked_nothing}
use Rattle.smk_chain.specs.Derive.{next}
use Rattle.smk_chain_sight.specs.Telling.{IsListedAround}
use Rattle.smk_chain_sight.proofs.Eyes.{told_nothing, told_then, arounds_on, says_before}
use Rattle.smk_chain_sight.proofs.Taken.{all_taken, all_done}
use Rattle.smk_chain_sight.proofs.Spreading.{loop_begun, loop_step, too_many, never_few}
use Rattle.smk_chain_sight.proofs.reaching.level.Goals as goal

pub loop-path-init : goal.loop-path-init
loop-path-init g c =
    record {
      looked = looked_nothing g.W.Files.act _;
      told = told_nothing _ _ _;
      kept = c.requires.kept;
      added = λ S says. loop_begun (next c.args.ground.now.flow.now S c.args.ground.now.lists.now) c.args.fresh.now c.args.found.now.paths.items c.requires.kept.each;
      listed = tt;
    }

pub step-requires-clause-kept : goal.step-requires-clause-kept
step-requires-clause-kept g c = c.loop-path.invariant.kept

pub returns-in_err-step-clause-looked : goal.returns-in_err-step-clause-looked
returns-in_err-step-clause-looked g c =
    looked_then c.loop-path.invariant.looked (looked_on _ c.in_err-step.was c.from_residual.ensures.1 c.step.ensures.looked)

pub returns-then-is_over-clause-looked : goal.returns-then-is_over-clause-looked
returns-then-is_over-clause-looked g c =
    looked_then c.loop-path.invariant.looked c.in_ok-step.ensures.looked

pub returns-then-is_over-clause-told : goal.returns-then-is_over-clause-told
returns-then-is_over-clause-told g c =
    told_then c.loop-path.invariant.looked c.loop-path.invariant.told c.in_ok-step.ensures.told

pub returns-then-is_over-clause-advanced : goal.returns-then-is_over-clause-advanced
returns-then-is_over-clause-advanced g c =
    let v = c.loop-path.invariant in
    let many = too_many c.step.new.found.paths.items c.is_over.result c.if-is_over.true c.is_over.ensures in
    record {
      some = λ S says. (
        c.loop-path.path-index + 1,
        loop_step (next c.args.ground.now.flow.now S c.args.ground.now.lists.now) c.args.fresh.now c.loop-path.path-index c.path-item.result c.args.found.now.paths.items c.loop-path.found.paths.items c.step.new.found.paths.items
            c.loop-path-test.true c.path-item.is (v.added S (says_before c.loop-path.eye c.step.new.eye S c.in_ok-step.ensures.told.keeps says)) (c.in_ok-step.ensures.added S says),
        λ few. absurd (never_few c.step.new.found.paths.items many few),
      );
      listed = λ few. absurd (never_few c.step.new.found.paths.items many few);
    }

pub loop-path-preserved : goal.loop-path-preserved
loop-path-preserved g c =
    let v = c.loop-path.invariant in
    record {
      looked = looked_then v.looked c.in_ok-step.ensures.looked;
      told = told_then v.looked v.told c.in_ok-step.ensures.told;
      kept = c.in_ok-step.ensures.kept;
      added = λ S says.
          loop_step (next c.args.ground.now.flow.now S c.args.ground.now.lists.now) c.args.fresh.now c.loop-path.path-index c.path-item.result c.args.found.now.paths.items c.loop-path.found.paths.items c.step.new.found.paths.items
          c.loop-path-test.true c.path-item.is (v.added S (says_before c.loop-path.eye c.step.new.eye S c.in_ok-step.ensures.told.keeps says)) (c.in_ok-step.ensures.added S says);
      listed = all_taken (IsListedAround c.args.ground.now.flow.now c.step.new.eye) c.args.fresh.now c.loop-path.path-index c.path-item.result c.loop-path-test.true c.path-item.is
          (arounds_on c.args.ground.now.flow.now c.loop-path.eye c.step.new.eye (take c.loop-path.path-index c.args.fresh.now) c.in_ok-step.ensures.told.keeps v.listed)
          c.in_ok-step.ensures.listed;
    }

pub returns-clause-looked : goal.returns-clause-looked
returns-clause-looked g c = c.loop-path.invariant.looked

pub returns-clause-told : goal.returns-clause-told
returns-clause-told g c = c.loop-path.invariant.told

pub returns-clause-advanced : goal.returns-clause-advanced
returns-clause-advanced g c =
    let v = c.loop-path.invariant in
    record {
      some = λ S says. (c.loop-path.path-index, v.added S says, λ few. c.loop-path-test.false);
      listed = λ few. all_done (IsListedAround c.args.ground.now.flow.now c.loop-path.eye) c.args.fresh.now c.loop-path.path-index c.loop-path-test.false v.listed;
    }
