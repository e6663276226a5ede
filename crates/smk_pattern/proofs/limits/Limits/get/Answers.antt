use Rattle.std.proofs.Common.{Some, string_bytes, sym, subst, ◌∙◌}
use Rattle.std.proofs.lemmas.Map.Text.{btree_map_updates_text}
use Rattle.smk_pattern.specs.Limits.{IsLimit}
use Rattle.smk_pattern.proofs.Shared.{one_more, none_more}
use Rattle.smk_pattern.proofs.limits.Limits.get.Goals as goal

pub returns-in-Some-clause-read : goal.returns-in-Some-clause-read
returns-in-Some-clause-read c = (c.self.invariant.is c.args.text.now c.in-Some.limit.now (sym c.in-Some.ensures.value)).1

pub returns-in-Some-clause-text : goal.returns-in-Some-clause-text
returns-in-Some-clause-text c =
    let same = (c.self.invariant.is c.args.text.now c.in-Some.limit.now (sym c.in-Some.ensures.value)).0 in
    c.in_ok-clone.ensures.cases ∙ same

pub invariant_of-self-in_err-insert : goal.invariant_of-self-in_err-insert
invariant_of-self-in_err-insert c = none_more c.self.inside.by_text c.insert.new.self c.self.invariant c.in_err-insert.ensures.err

pub invariant_of-self-2 : goal.invariant_of-self-2
invariant_of-self-2 c =
    let text = c.in_ok-text.ensures.ok in
    one_more c.self.inside.by_text c.insert.new.self (string_bytes c.in_ok-text.text) c.in_ok-clone-2.field-0 c.self.invariant
    (c.in_ok-clone-2.ensures.cases ∙ c.in_ok-limit.ensures.ok ∙ c.in_ok-read.ensures.text ∙ sym text)
    (subst IsLimit (sym text) c.in_ok-read.ensures.read)
    (λ q. btree_map_updates_text (string_bytes c.in_ok-text.text) c.self.inside.by_text c.insert.new.self (Some c.in_ok-clone-2.field-0) c.in_ok-insert.ensures.updates q)
