use Rattle.std.proofs.Common.{◌≡◌, ◌++◌, ◌∙◌, ℕ, suc, take, drop, length, sym, ap, add-one}
use Rattle.smk_choose.specs.Heights.{IsComplete}
use Rattle.smk_choose.proofs.Sweeps.{written_back, exact, complete_still}
use Rattle.smk_choose.proofs.heights.least_heights.Goals as goal

pub returns-then-not-sweep : goal.returns-then-not-sweep
returns-then-not-sweep c =
    let nodes = c.args.nodes.now in
    let old = c.loop-round.heights.items in
    let new = c.sweep.new.heights in
    let before = c.deref_mut.ensures.value in
    let still : new ≡ old = c.sweep.ensures.same c.if-not-sweep.true ∙ before in
    let len : length old ≡ c.loop-round.heights.len = sym c.loop-round.heights.ok.0 in
    let back : take c.loop-round.heights.len (new ++ drop (length new) old) ≡ old = written_back old new _ len (ap length still ∙ len) ∙ still in
    let more : (m : ℕ) → IsComplete nodes m old → IsComplete nodes (suc m) old =
    λ m. rw before at (rw (sym before) at (rw still at (rw before at (c.sweep.ensures.complete m)))) in
    rw back (exact nodes old c.loop-round.invariant.sound (complete_still nodes old more 201))

pub loop-round-preserved : goal.loop-round-preserved
loop-round-preserved c =
    let nodes = c.args.nodes.now in
    let old = c.loop-round.heights.items in
    let new = c.sweep.new.heights in
    let before = c.deref_mut.ensures.value in
    let len : length old ≡ c.loop-round.heights.len = sym c.loop-round.heights.ok.0 in
    let same : length new ≡ length old = c.sweep.auto.heights ∙ ap length before in
    let back : take c.loop-round.heights.len (new ++ drop (length new) old) ≡ new = written_back old new _ len (same ∙ len) in
    rw (back, add-one) (record {
      len = same ∙ c.loop-round.invariant.len;
      sound = c.sweep.ensures.sound (rw before c.loop-round.invariant.sound);
      complete = c.sweep.ensures.complete c.loop-round._round (rw before c.loop-round.invariant.complete);
    })
