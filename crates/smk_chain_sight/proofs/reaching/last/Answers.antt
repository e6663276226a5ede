use Rattle.std.proofs.Common.{take}
use Rattle.smk_world.proofs.Devices.{looked_then, looked_on, looked_nothing}
use Rattle.smk_chain_sight.specs.Telling.{IsListedAround}
use Rattle.smk_chain_sight.proofs.Eyes.{told_nothing, told_then, arounds_on}
use Rattle.smk_chain_sight.proofs.Taken.{all_taken, all_done}
use Rattle.smk_chain_sight.proofs.reaching.last.Goals as goal

pub loop-path-init : goal.loop-path-init
loop-path-init g c = record { looked = looked_nothing g.W.Files.act _; told = told_nothing _ _ _; listed = tt }

pub returns-in_err-tell_around-clause-looked : goal.returns-in_err-tell_around-clause-looked
returns-in_err-tell_around-clause-looked g c =
    looked_then c.loop-path.invariant.looked (looked_on _ c.in_err-tell_around.was c.from_residual.ensures.1 c.tell_around.ensures.looked)

pub loop-path-preserved : goal.loop-path-preserved
loop-path-preserved g c =
    let v = c.loop-path.invariant in
    record {
      looked = looked_then v.looked c.in_ok-tell_around.ensures.looked;
      told = told_then v.looked v.told c.in_ok-tell_around.ensures.told;
      listed = all_taken (IsListedAround c.args.flow.now c.tell_around.new.eye) c.args.fresh.now c.loop-path.path-index c.path-item.result c.loop-path-test.true c.path-item.is
          (arounds_on c.args.flow.now c.loop-path.eye c.tell_around.new.eye (take c.loop-path.path-index c.args.fresh.now) c.in_ok-tell_around.ensures.told.keeps v.listed)
          c.in_ok-tell_around.ensures.listed;
    }

pub returns-clause-looked : goal.returns-clause-looked
returns-clause-looked g c = c.loop-path.invariant.looked

pub returns-clause-told : goal.returns-clause-told
returns-clause-told g c = c.loop-path.invariant.told

pub returns-clause-listed : goal.returns-clause-listed
returns-clause-listed g c = all_done (IsListedAround c.args.flow.now c.loop-path.eye) c.args.fresh.now c.loop-path.path-index c.loop-path-test.false c.loop-path.invariant.listed
