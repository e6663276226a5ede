use Rattle.std.proofs.Common.{arith}
use Rattle.smk_world.proofs.Devices.{looked_on}
use Rattle.smk_chain.specs.Derive.{sources_of}
use Rattle.smk_chain_sight.proofs.Eyes.{says_true}
use Rattle.smk_chain_sight.proofs.Spreading.{reach_told, nothing_next}
use Rattle.smk_chain_sight.proofs.looking.look_around.Goals as goal

pub spread-requires-clause-so_far : goal.spread-requires-clause-so_far
spread-requires-clause-so_far g c =
    record {
      kept = c.in_ok-found.ensures.kept;
      within = omega arith;
      listed = tt;
      closed = λ S says. nothing_next c.args.flow.now S c.args.lists.now c.in_ok-found.found.paths.items c.in_ok-found.ensures.kept.each;
    }

pub returns-in_err-spread-clause-looked : goal.returns-in_err-spread-clause-looked
returns-in_err-spread-clause-looked g c =
    looked_on _ c.in_err-spread.was c.from_residual-in_err-spread.ensures.1 c.spread.ensures.looked

pub returns-clause-looked : goal.returns-clause-looked
returns-clause-looked g c =
    c.in_ok-spread.ensures.looked

pub returns-clause-told : goal.returns-clause-told
returns-clause-told g c = λ w at image v.
    let S = sources_of image in
    let t = c.in_ok-spread.ensures.told.stays w at image v (c.no_eye-eye.ensures image) in
    let says = says_true image c.spread.new.eye t in
    reach_told c.args.flow.now c.args.lists.now c.spread.new.eye S c.args.targets.now c.in_ok-found.found.paths.items c.spread.new.found.paths.items c.count.result says c.in_ok-found.ensures.are c.count.ensures
    c.in_ok-spread.ensures.reached.listed (c.in_ok-spread.ensures.reached.whole S says) (c.in_ok-spread.ensures.reached.many S says)
