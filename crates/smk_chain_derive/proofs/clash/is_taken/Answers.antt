use Rattle.std.proofs.Common.{◌≡◌, ◌∙◌, sym, ap, false}
use Rattle.std.specs.BTreeSet.{contains_text}
use Rattle.smk_chain_derive.proofs.Lookups.{none_at_all}
use Rattle.smk_chain_derive.proofs.clash.is_taken.Goals as goal

pub returns : goal.returns
returns c = λ none q over.
    let here : contains_text c.args.taken.now c.args.path.now ≡ false =
    sym (c.contains.ensures ∙ ap (contains_text c.args.taken.now) c.as_str.ensures.text) ∙ c.if-contains.false in
    none_at_all (contains_text c.args.taken.now) c.args.path.now here (c.in_ok-other.ensures none) q over
