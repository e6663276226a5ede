use Rattle.std.proofs.Common.{◌∙◌, Option, Global, false, length, subst, refl, ap}
use Rattle.std.specs.Prelude.{IfSome, Vec}
use Rattle.smk_plan_states.specs.declared.ranks.Rank.{Rank}
use Rattle.smk_plan_states.specs.Standing.{HasGone}
use Rattle.smk_plan_states.specs.Stays.{told_by}
use Rattle.smk_plan_states.proofs.Kept.{stands_after}
use Rattle.smk_plan_states.proofs.standing.rank_after.Goals as goal

pub returns-in_ok-plain-in-Some-clause-standing : goal.returns-in_ok-plain-in-Some-clause-standing
returns-in_ok-plain-in-Some-clause-standing c = λ reasons forced fits.
    let went =
    subst
    (λ (o : Option (Vec Rank Global)).
    IfSome o
    (λ now.
    HasGone c.args.lines.now c.args.origins.now c.args.rows.now c.as_slice-3.result.now c.as_slice-4.result.now c.as_slice-5.result.now c.args.last.job c.as_slice-6.result.now now.items))
    c.in-Some.is c.in_ok-go_on.ensures in
    stands_after c.args.lines.now c.args.origins.now (told_by c.args.rows.now reasons forced) c.args.watchers.now c.args.last.job c.args.last.readers.now c.as_slice.result.now c.as_slice-2.result.now
    c.as_slice-3.result.now c.in_ok-doubts.doubts.items c.as_slice-4.result.now c.as_slice-5.result.now c.as_slice-6.result.now c.in-Some.first.items c.args.last.ranking.now
    (record { first = c.in-Some.first; last = c.in_ok-again-in-Some.again; used = c.args.used; lacking = false; plain = c.in_ok-plain-in-Some.plain })
    c.as_slice.ensures.value c.as_slice-2.ensures.value c.as_slice-3.ensures.value c.as_slice-4.ensures.value c.as_slice-5.ensures.value
    (c.in_ok-plain-in-Some.ensures.items ∙ c.as_slice-in-Some-2.ensures.value) c.as_slice-6.ensures.value refl
    (c.in_ok-again-in-Some.ensures.items ∙ c.as_slice-in-Some.ensures.value) c.in_ok-doubts.ensures (went.after reasons forced fits) went.whole c.if-ranking.false

pub returns-in_ok-plain-in-Some-clause-kept : goal.returns-in_ok-plain-in-Some-clause-kept
returns-in_ok-plain-in-Some-clause-kept c =
    let went =
    subst
    (λ (o : Option (Vec Rank Global)).
    IfSome o
    (λ now.
    HasGone c.args.lines.now c.args.origins.now c.args.rows.now c.as_slice-3.result.now c.as_slice-4.result.now c.as_slice-5.result.now c.args.last.job c.as_slice-6.result.now now.items))
    c.in-Some.is c.in_ok-go_on.ensures in
    (refl, refl, ap length (c.in_ok-again-in-Some.ensures.items ∙ c.as_slice-in-Some.ensures.value) ∙ went.each, went.within)
