use Rattle.std.proofs.Common.{◌∙◌, sym}
use Rattle.std.specs.BTreeSet.{contains_text}
use Rattle.smk_chain_derive.proofs.Stored.{free}
use Rattle.smk_chain_derive.proofs.known.is_hindered.Goals as goal

pub returns : goal.returns
returns c = λ none q known.
    free c.args.store.now c.args.spot.now.0 c.args.spot.now.1 (contains_text c.args.known.now) c.requires.known (sym c.hinders.ensures ∙ c.if-hinders.false)
    (c.in_ok-other.ensures none) q known
