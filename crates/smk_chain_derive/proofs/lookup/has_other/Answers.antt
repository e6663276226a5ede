use Rattle.std.specs.BTreeSet.{contains_text}
use Rattle.smk_chain_derive.proofs.Lookups.{none_around}
use Rattle.smk_chain_derive.proofs.lookup.has_other.Goals as goal

pub returns : goal.returns
returns c = λ none q over other.
    none_around (contains_text c.args.set.now) c.in_ok-has_under.field-0 c.args.path.now c.if-branch.false c.in_ok-has_under.ensures (c.has_above.ensures none) q over other
