use Rattle.std.proofs.Common.{◌∙◌, sym, refl}
use Rattle.smk_chain_derive.proofs.Spots.{told, passed, one_taken}
use Rattle.smk_chain_derive.proofs.clash.clash_in.Goals as goal

pub returns-in-Some : goal.returns-in-Some
returns-in-Some c =
    let spot = c.index-spots-number.result in
    told c.args.store.now c.args.spots.now c.loop-number.number spot c.in_ok-copy-in-Some.field-0 c.in-Some.other c.loop-number-test.true c.index-spots-number.is
    c.in_ok-copy-in-Some.ensures c.loop-number.invariant.left (sym c.in-Some.is ∙ c.in_ok-other.ensures)

pub loop-number-preserved : goal.loop-number-preserved
loop-number-preserved c =
    let spot = c.index-spots-number.result in
    record {
      taken = λ q. one_taken _ _ q spot.0 c.args.spots.now c.loop-number.number spot c.loop-number-test.true c.index-spots-number.is refl (c.in_ok-put-in-None.ensures q) (c.loop-number.invariant.taken q);
      left = passed c.args.store.now c.args.spots.now c.loop-number.number spot c.loop-number-test.true c.index-spots-number.is c.loop-number.invariant.left (sym c.in-None.is ∙ c.in_ok-other.ensures);
    }
