use Rattle.std.proofs.Common.{◌∙◌, Some, ap, rules}
use Rattle.std.specs.Cmp.Lexicographic.{slice_cmp}
use Rattle.std.specs.Ordering.{nat_cmp}
use Rattle.std.proofs.lemmas.Fn.{always_returns_same}
use Rattle.smk_record.specs.declared.record.Member.{Member}
use Rattle.smk_plan.proofs.Sought.{found_by, missed_by}
use Rattle.smk_plan_facts.proofs.whole.member_named.Goals as goal

pub returns-in-Ok : goal.returns-in-Ok
returns-in-Ok c = λ rising.
    let p = c.args.name.now in
    let i = c.in-Ok.i in
    let m = c.index-members-i.result in
    let found = c.in-Ok.ensures.position (λ (x : Member). slice_cmp nat_cmp x.name p) (always_returns_same _ _ _ (λ a r q k. search rules)) in
    ap Some c.index-members-i.is ∙ found_by (λ (x : Member). x.name) p c.args.members.now i m rising c.in-Ok.ensures.bound found

pub returns-in-Err : goal.returns-in-Err
returns-in-Err c = λ rising.
    let p = c.args.name.now in
    let found = c.in-Err.ensures.position (λ (x : Member). slice_cmp nat_cmp x.name p) (always_returns_same _ _ _ (λ a r q k. search rules)) in
    missed_by (λ (x : Member). x.name) p c.args.members.now c.in-Err.field-0 rising found
