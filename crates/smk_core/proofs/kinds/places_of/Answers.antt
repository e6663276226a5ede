use Rattle.std.proofs.Common.{◌≡◌, List, [], Some, length, refl, sym, ap, ◌∙◌, subst}
use Rattle.std.specs.List.{slice_get}
use Rattle.std.proofs.lemmas.Option.{slice_get_read, slice_get_within}
use Rattle.smk_core.specs.declared.place.Kind.{Kind}
use Rattle.smk_core.specs.declared.place.Place.{Place}
use Rattle.smk_core.specs.Lines.{ArePlaced}
use Rattle.smk_core.proofs.Placing.{none_placed, opened_placed, added_placed, added_many}
use Rattle.smk_core.proofs.kinds.places_of.Goals as goal

pub loop-job-init : goal.loop-job-init
loop-job-init c = (
  subst (λ (ps : List Place). ArePlaced c.args.asks.now c.new-kinds.result.items ps) (sym c.new-places.ensures.items)
      (subst (λ (ks : List Kind). ArePlaced c.args.asks.now ks []) (sym c.new-kinds.ensures.items) (none_placed c.args.asks.now)),
  ap length c.new-places.ensures.items,
)

pub add-requires : goal.add-requires
add-requires c =
    let line = c.in_ok-line.ensures.1 in
    slice_get_within c.line_of.new.kinds.items c.in_ok-line.line line.0 line.1

pub loop-job-preserved : goal.loop-job-preserved
loop-job-preserved c =
    let asks = c.args.asks.now in
    let kinds = c.line_of.new.kinds.items in
    let places = c.loop-job.places.items in
    let now = c.add.new.kinds.items in
    let there = c.add.new.places.items in
    let line = c.in_ok-line.line in
    let ask = c.index-asks-job.result in
    let next : slice_get asks (length places) ≡ Some ask =
    ap (slice_get asks) c.loop-job.invariant.1 ∙ slice_get_read asks (length asks) c.loop-job.job ask refl c.loop-job-test.true c.index-asks-job.is in (
      added_placed asks kinds now places there line c.in_ok-add.ensures (opened_placed asks c.loop-job.kinds.items kinds places c.in_ok-line.ensures.0 c.loop-job.invariant.0) ask next c.in_ok-line.ensures.1,
      added_many kinds now places there line c.loop-job.job c.in_ok-add.ensures c.loop-job.invariant.1,
    )
