use Rattle.std.proofs.Common.{◌≡◌, ◌++◌, [], ap, sym, subst, ◌∙◌}
use Rattle.std.proofs.lemmas.Bool.{both_ways}
use Rattle.smk_world.proofs.Devices.{looked_nothing, looked_as, looked_then}
use Rattle.smk_store.specs.Images.{seen}
use Rattle.smk_laws_history.proofs.CurrentComplete.{seen_is_complete}
use Rattle.smk_plan_preview.proofs.LookedAt.{failed_on, kept, seen_moved, sink_as, memory_quiet, none_still}
use Rattle.smk_drive_first.specs.Keeping.{HasKept}
use Rattle.smk_drive_first.proofs.Kept.{handed_on, kept_last, memory_last, memory_no_sink, reaches_begun, reaches_next}
use Rattle.smk_drive_first.proofs.chaining.chain_by.Goals as goal

pub loop-init : goal.loop-init
loop-init g c = record { looked = looked_nothing g.W.Files.act _; told = λ w at none read reads. reaches_begun read c.args.ground.now.flow.now c.args.ground.now.settings.now (seen read w) _ c.new-lists.ensures }

pub returns-in_err-found-clause-looked : goal.returns-in_err-found-clause-looked
returns-in_err-found-clause-looked g c =
    looked_then c.loop.invariant.looked (looked_as (failed_on c.make_round.result c.from_residual.result _ c.in_err-found.was c.from_residual.ensures.1) c.make_round.ensures.looked)

pub returns-in_err-found-clause-no_sink : goal.returns-in_err-found-clause-no_sink
returns-in_err-found-clause-no_sink g c = sink_as c.make_round.result c.from_residual.result _ c.in_err-found.was c.from_residual.ensures.1 c.make_round.ensures.no_sink

pub returns-in_err-found-clause-told : goal.returns-in_err-found-clause-told
returns-in_err-found-clause-told g c = λ w at none read reads.
    let u = kept w c.loop.invariant.looked at in
    let image = seen_moved read w u.0 u.2 in
    handed_on read c.args.ground.now.flow.now c.args.ground.now.settings.now (seen read w) c.loop.lists c.make_round.result c.from_residual.result _ c.in_err-found.was c.from_residual.ensures.1
    (subst (λ i. HasKept read c.args.ground.now.flow.now c.args.ground.now.settings.now i c.loop.lists c.make_round.result) image
    (c.make_round.ensures.told u.0 u.1 (none_still w u.0 u.2.nodes none) read reads))
    (c.loop.invariant.told w at none read reads)

pub returns-then-is_empty-clause-looked : goal.returns-then-is_empty-clause-looked
returns-then-is_empty-clause-looked g c =
    looked_then c.loop.invariant.looked c.in_ok-found.ensures.looked

pub returns-then-is_empty-clause-told : goal.returns-then-is_empty-clause-told
returns-then-is_empty-clause-told g c = λ w at none read reads.
    let u = kept w c.loop.invariant.looked at in
    let image = seen_moved read w u.0 u.2 in
    kept_last read c.args.ground.now.flow.now c.args.ground.now.settings.now (seen read w) c.loop.lists c.make_round.result c.in_ok-found.found
    (seen_is_complete read w ((g.met.W.Files.sound _).formed w at)) c.in_ok-found.was c.in_ok-found.ensures.lists
    (sym c.known-known.ensures ∙ c.is_empty.ensures.0 c.if-is_empty.true)
    (subst (λ i. HasKept read c.args.ground.now.flow.now c.args.ground.now.settings.now i c.loop.lists c.make_round.result) image
    (c.make_round.ensures.told u.0 u.1 (none_still w u.0 u.2.nodes none) read reads))
    (c.loop.invariant.told w at none read reads)

pub loop-preserved : goal.loop-preserved
loop-preserved g c =
    record {
      looked = looked_then c.loop.invariant.looked c.in_ok-found.ensures.looked;
      told = λ w at none read reads.
          let u = kept w c.loop.invariant.looked at in
          let image = seen_moved read w u.0 u.2 in
          reaches_next read c.args.ground.now.flow.now c.args.ground.now.settings.now (seen read w) c.loop.lists _ c.make_round.result c.in_ok-found.found
          (seen_is_complete read w ((g.met.W.Files.sound _).formed w at)) c.in_ok-found.was c.in_ok-found.ensures.lists
          (c.in_ok-add_listings.ensures.ok ∙ ap (λ known. c.loop.lists ++ known) c.known-known.ensures)
          (λ none_known. both_ways c.is_empty.result c.if-is_empty.false (c.is_empty.ensures.1 (c.known-known.ensures ∙ none_known)))
          (subst (λ i. HasKept read c.args.ground.now.flow.now c.args.ground.now.settings.now i c.loop.lists c.make_round.result) image
          (c.make_round.ensures.told u.0 u.1 (none_still w u.0 u.2.nodes none) read reads))
          (c.loop.invariant.told w at none read reads);
    }

pub returns-in_err-add_listings-clause-looked : goal.returns-in_err-add_listings-clause-looked
returns-in_err-add_listings-clause-looked g c =
    looked_as (sym (memory_quiet c.add_listings.result c.from_residual-in_err-add_listings.result _ c.in_err-add_listings.was c.from_residual-in_err-add_listings.ensures.1 c.add_listings.ensures.fault))
    (looked_then c.loop.invariant.looked c.in_ok-found.ensures.looked)

pub returns-in_err-add_listings-clause-no_sink : goal.returns-in_err-add_listings-clause-no_sink
returns-in_err-add_listings-clause-no_sink g c =
    memory_no_sink c.add_listings.result c.from_residual-in_err-add_listings.result _ c.in_err-add_listings.was c.from_residual-in_err-add_listings.ensures.1
    c.add_listings.ensures.fault

pub returns-in_err-add_listings-clause-told : goal.returns-in_err-add_listings-clause-told
returns-in_err-add_listings-clause-told g c = λ w at none read reads.
    memory_last read c.args.ground.now.flow.now c.args.ground.now.settings.now (seen read w) c.add_listings.result
    c.from_residual-in_err-add_listings.result _ c.in_err-add_listings.was c.from_residual-in_err-add_listings.ensures.1 c.add_listings.ensures.fault
