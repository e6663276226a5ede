use Rattle.std.proofs.Common.{◌≡◌, get_or, take, false}
use Rattle.std.specs.BTreeSet.{contains_text}
use Rattle.smk_chain_derive.proofs.Lookups.{none_over, one_more}
use Rattle.smk_chain_derive.proofs.lookup.has_above.Goals as goal

pub loop-i-preserved : goal.loop-i-preserved
loop-i-preserved c =
    one_more (λ k. get_or c.as_str-text.result.now k 0 ≡ 47 → contains_text c.args.set.now (take k c.as_str-text.result.now) ≡ false) c.loop-i.i c.loop-i.invariant
    (c.has_front.ensures c.if-has_front.false)

pub returns : goal.returns
returns c = λ _ q under.
    none_over (contains_text c.args.set.now) c.as_str-text.result.now c.args.path.now q c.loop-i.i c.as_str-text.ensures.text c.loop-i-test.false c.loop-i.invariant under
