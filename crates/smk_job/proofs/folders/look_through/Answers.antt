use Rattle.std.proofs.Common.{[], sym, ap, ◌∙◌, map, ◌≡◌, true, false, Ok}
use Rattle.smk_record.specs.Records.{record_of, is_valid}
use Rattle.smk_world.specs.Calls.{device_failed}
use Rattle.smk_job.specs.Jobs.{underway}
use Rattle.smk_job.specs.declared.folders.View.TheVariants.{Wrongly, Records}
use Rattle.smk_job.specs.Views.{core}
use Rattle.smk_job.proofs.Finishing.{at_outputs}
use Rattle.smk_job.proofs.Looking.{place_at}
use Rattle.smk_job.proofs.Viewing.{within_places, folder_among, valid_at, outs_as, one_longer, good_more, viewed_all, viewed_wrong, viewed_failed, viewed_short}
use Rattle.smk_job.proofs.folders.look_through.Goals as goal

pub bounds-places-i : goal.bounds-places-i
bounds-places-i g c =
    let r = c.args.ready.now in
    within_places c.as_slice-outs.result.now c.as_slice-places.result.now c.loop-i.i
    (c.as_slice-places.ensures ∙ at_outputs (underway r.recipe r.logs r.stamps r.made 0) r.outs r.places r.records c.requires.ready ∙ ap (map (λ out. out.path)) (sym c.as_slice-outs.ensures)) c.loop-i-test.true

pub look_one-requires-clause-at : goal.look_one-requires-clause-at
look_one-requires-clause-at g c =
    let r = c.args.ready.now in
    place_at c.as_slice-outs.result.now c.as_slice-places.result.now c.loop-i.i c.index-outs-i.result c.index-places-i.result
    (c.as_slice-places.ensures ∙ at_outputs (underway r.recipe r.logs r.stamps r.made 0) r.outs r.places r.records c.requires.ready ∙ ap (map (λ out. out.path)) (sym c.as_slice-outs.ensures)) c.loop-i-test.true c.index-outs-i.is c.index-places-i.is

pub look_one-requires-clause-folder : goal.look_one-requires-clause-folder
look_one-requires-clause-folder g c =
    folder_among c.args.ready.now.recipe c.as_slice-outs.result.now c.loop-i.i c.index-outs-i.result (c.as_slice-outs.ensures ∙ c.requires.ready.outputs) c.loop-i-test.true c.index-outs-i.is

pub look_one-requires-clause-valid : goal.look_one-requires-clause-valid
look_one-requires-clause-valid g c =
    let r = c.args.ready.now in
    valid_at (λ p. is_valid (record_of p r.made r.recipe r.stamps []) ≡ true) r.recipe c.as_slice-outs.result.now c.loop-i.i c.index-outs-i.result (c.as_slice-outs.ensures ∙ c.requires.ready.outputs) c.loop-i-test.true c.index-outs-i.is c.requires.ready.valid

pub returns-in_err-bytes-clause-looked : goal.returns-in_err-bytes-clause-looked
returns-in_err-bytes-clause-looked g c =
    let r = c.args.ready.now in
    let k = core r.recipe r.stamps r.made in
    let act = g.W.Files.act in
    outs_as act _ _ k c.as_slice-outs.result.now r.outs c.from_residual.result (device_failed c.from_residual.result) c.as_slice-outs.ensures
    (viewed_failed act k c.as_slice-outs.result.now c.loop-i.i c.index-outs-i.result c.loop-i-test.true c.index-outs-i.is _ _ _ c.loop-i.records _ c.from_residual.result
    c.from_residual.ensures.1 c.loop-i.invariant.looked c.in_err-bytes.ensures)

pub returns-in_err-push-in-Good-clause-looked : goal.returns-in_err-push-in-Good-clause-looked
returns-in_err-push-in-Good-clause-looked g c =
    let r = c.args.ready.now in
    let k = core r.recipe r.stamps r.made in
    let act = g.W.Files.act in
    outs_as act _ _ k c.as_slice-outs.result.now r.outs c.from_residual-in_err-push-in-Good.result (device_failed c.from_residual-in_err-push-in-Good.result) c.as_slice-outs.ensures
    (viewed_short act k c.as_slice-outs.result.now c.loop-i.i c.index-outs-i.result c.loop-i-test.true c.index-outs-i.is _ _ _ c.loop-i.records _ c.from_residual-in_err-push-in-Good.result c.in-Good.bytes
    c.in-Good.is c.from_residual-in_err-push-in-Good.ensures.1 c.loop-i.invariant.looked c.in_ok-bytes.ensures)

pub returns-in-Bad-clause-looked : goal.returns-in-Bad-clause-looked
returns-in-Bad-clause-looked g c =
    let r = c.args.ready.now in
    let k = core r.recipe r.stamps r.made in
    let act = g.W.Files.act in
    outs_as act _ _ k c.as_slice-outs.result.now r.outs (Ok (Wrongly c.loop-i.i c.in-Bad.wrong)) false c.as_slice-outs.ensures
    (viewed_wrong act k c.as_slice-outs.result.now c.loop-i.i c.index-outs-i.result c.loop-i-test.true c.index-outs-i.is _ _ _ c.loop-i.records _ c.in-Bad.wrong c.in-Bad.is c.loop-i.invariant.looked c.in_ok-bytes.ensures)

pub loop-i-preserved : goal.loop-i-preserved
loop-i-preserved g c =
    let r = c.args.ready.now in
    record {
      looked = good_more g.W.Files.act (core r.recipe r.stamps r.made) c.as_slice-outs.result.now c.loop-i.i c.index-outs-i.result c.loop-i-test.true c.index-outs-i.is _ _ _ c.loop-i.records c.push.new.self _ c.in-Good.bytes
          c.in-Good.is c.in_ok-push-in-Good.ensures.ok c.loop-i.invariant.looked c.in_ok-bytes.ensures;
      sizes = one_longer c.loop-i.records c.push.new.self c.in-Good.bytes c.loop-i.i c.loop-i.invariant.sizes c.in_ok-push-in-Good.ensures.ok;
    }

pub returns-clause-looked : goal.returns-clause-looked
returns-clause-looked g c =
    let r = c.args.ready.now in
    let k = core r.recipe r.stamps r.made in
    outs_as g.W.Files.act _ _ k c.as_slice-outs.result.now r.outs (Ok (Records c.loop-i.records)) false c.as_slice-outs.ensures
    (viewed_all g.W.Files.act k c.as_slice-outs.result.now c.loop-i.i c.loop-i.records _ _ c.loop-i-test.false c.loop-i.invariant.looked)
