use Rattle.std.proofs.Common.{◌≡◌, ◌∙◌, sym, true, rules}
use Rattle.std.specs.Prelude.{is_some}
use Rattle.smk_store.proofs.Covering.{covered_yes, covered_by_itself, some_as}
use Rattle.smk_store.proofs.store.Store.covered.Goals as goal

pub returns-then-is_some : goal.returns-then-is_some
returns-then-is_some c =
    let same = c.as_bytes-bytes.ensures.value ∙ c.as_str.ensures.text in
    let t : is_some c.at.result ≡ true = search rules in
    covered_yes c.args.self.now c.args.p.now c.as_bytes-bytes.result.now c.loop-i.i same c.loop-i-test.true c.if-b-eq47.true (sym (some_as _ c.at.result _ c.at.ensures) ∙ t)

pub returns : goal.returns
returns c =
    let same = c.as_bytes-bytes.ensures.value ∙ c.as_str.ensures.text in
    let t : c.is_some-2.result ≡ is_some c.at-2.result = search rules in
    covered_by_itself c.args.self.now c.args.p.now c.as_bytes-bytes.result.now c.loop-i.i c.is_some-2.result same c.loop-i.invariant c.loop-i-test.false (t ∙ some_as _ c.at-2.result _ c.at-2.ensures)
