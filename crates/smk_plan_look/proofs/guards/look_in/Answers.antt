use Rattle.std.proofs.Common.{ap, ◌∙◌}
use Rattle.smk_world.specs.Calls.{in_folder}
use Rattle.smk_world.proofs.Devices.{looked_list, looked_on, looked_memory, looked_then, still, listing_told}
use Rattle.smk_plan_look.specs.Guards.{IsToList}
use Rattle.smk_plan_look.proofs.Waiting.{listed_in, gone_begun, gone_next, gone_found, gone_all, last_of, note_still, unowned_inside, name_free}
use Rattle.smk_plan_look.proofs.guards.look_in.Goals as goal

pub returns-in_err-listing-clause-looked : goal.returns-in_err-listing-clause-looked
returns-in_err-listing-clause-looked g c = looked_on _ c.in_err-listing.was c.from_residual.ensures.1 (looked_list c.list.ensures)

pub loop-name-init : goal.loop-name-init
loop-name-init g c =
    record {
      looked = looked_list c.in_ok-listing.ensures;
      told = λ w at free told reads. gone_begun w.nodes c.args.folder.now c.as_slice-name-items.result.now c.args.waiting.now;
    }

pub returns-in_err-place-clause-looked : goal.returns-in_err-place-clause-looked
returns-in_err-place-clause-looked g c = looked_memory _ c.from_residual-in_err-place.ensures.1 c.loop-name.invariant.looked

pub returns-in_err-found-clause-looked : goal.returns-in_err-found-clause-looked
returns-in_err-found-clause-looked g c =
    looked_then c.loop-name.invariant.looked (looked_on _ c.in_err-found.was c.from_residual-in_err-found.ensures.1 c.note.ensures.looked)

pub returns-then-found-clause-looked : goal.returns-then-found-clause-looked
returns-then-found-clause-looked g c = looked_then c.loop-name.invariant.looked c.in_ok-found.ensures.looked

pub returns-then-found-clause-told : goal.returns-then-found-clause-told
returns-then-found-clause-told g c = λ w at p free waiting.
    let names = c.as_slice-name-items.result.now in
    let folder = c.args.folder.now in
    let last = last_of (IsToList w.nodes p) c.args.waiting.now folder waiting.folders in
    let here = unowned_inside w.nodes p folder last.inside free in
    let l = listed_in w folder c.in_ok-listing.listing names here last.reads c.as_slice-name-items.ensures
    (listing_told w c.list.ensures c.in_ok-listing.was at) in
    let u = still w c.loop-name.invariant.looked at in
    let same = c.in_ok-place.ensures ∙ ap (in_folder folder) c.as_str.ensures in
    gone_found w ((g.met.W.Files.sound c.args.work.now).tree w at) folder last.tellable names l c.loop-name.name-index c.name-item.result c.loop-name-test.true c.name-item.is _ c.loop-name.waiting _ _ same
    (note_still u.0.nodes w.nodes _ _ c.loop-name.waiting _ _ u.2 (c.in_ok-found.ensures.told u.0 u.1 (name_free w.nodes u.0.nodes folder _ c.name-item.result.name u.2 same here))) c.if-found.true p last.inside

pub loop-name-preserved : goal.loop-name-preserved
loop-name-preserved g c =
    record {
      looked = looked_then c.loop-name.invariant.looked c.in_ok-found.ensures.looked;
      told = λ w at free told reads.
          let names = c.as_slice-name-items.result.now in
          let folder = c.args.folder.now in
          let l = listed_in w folder c.in_ok-listing.listing names free reads c.as_slice-name-items.ensures
          (listing_told w c.list.ensures c.in_ok-listing.was at) in
          let u = still w c.loop-name.invariant.looked at in
          let same = c.in_ok-place.ensures ∙ ap (in_folder folder) c.as_str.ensures in
          gone_next w ((g.met.W.Files.sound c.args.work.now).tree w at) folder told names l c.loop-name.name-index c.name-item.result c.loop-name-test.true c.name-item.is _ c.args.waiting.now c.loop-name.waiting _ _ same
          (note_still u.0.nodes w.nodes _ _ c.loop-name.waiting _ _ u.2 (c.in_ok-found.ensures.told u.0 u.1 (name_free w.nodes u.0.nodes folder _ c.name-item.result.name u.2 same free))) c.if-found.false (c.loop-name.invariant.told w at free told reads);
    }

pub returns-clause-told : goal.returns-clause-told
returns-clause-told g c = λ w at p free waiting.
    let names = c.as_slice-name-items.result.now in
    let folder = c.args.folder.now in
    let last = last_of (IsToList w.nodes p) c.args.waiting.now folder waiting.folders in
    let here = unowned_inside w.nodes p folder last.inside free in
    let l = listed_in w folder c.in_ok-listing.listing names here last.reads c.as_slice-name-items.ensures
    (listing_told w c.list.ensures c.in_ok-listing.was at) in
    gone_all w ((g.met.W.Files.sound c.args.work.now).tree w at) folder last.tellable names l c.loop-name.name-index c.args.waiting.now c.loop-name.waiting c.loop-name-test.false (c.loop-name.invariant.told w at here last.tellable last.reads) p waiting
