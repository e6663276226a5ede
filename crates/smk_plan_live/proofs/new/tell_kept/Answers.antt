use Rattle.std.proofs.Common.{◌≡◌, List, sym, subst}
use Rattle.std.proofs.lemmas.Result.{IfOk-weaker, IfErr-weaker}
use Rattle.smk_plan_states.specs.declared.rows.Own.{Own}
use Rattle.smk_plan_states.specs.Rows.{FitOwn}
use Rattle.smk_plan_states.specs.Standing.{StandsBy}
use Rattle.smk_plan_states.specs.Stays.{Told}
use Rattle.smk_plan_table.specs.Plans.{plan_by}
use Rattle.smk_plan_live.specs.Kept.{own_now, told_by_flags}
use Rattle.smk_plan_live.specs.Lives.{AreLentNow, AreRanked, IsNow}
use Rattle.smk_plan_live.proofs.new.tell_kept.Goals as goal

pub returns-clause-now : goal.returns-clause-now
returns-clause-now c =
    let k = c.requires.kept in
    let kept = c.args.kept.now in
    let b = c.args.base.now in
    let is : told_by_flags b c.as_slice-outputs.result.now c.as_slice-makers.result.now c.as_slice-forced.result.now ≡ told_by_flags b kept.flags.outputs kept.flags.makers kept.flags.forced =
    λ i. told_by_flags b (c.as_slice-outputs.ensures i) (c.as_slice-makers.ensures i) (c.as_slice-forced.ensures i) in
    let given : AreLentNow c.args.settings.now b c.as_slice-outputs.result.now c.as_slice-makers.result.now c.as_slice-own.result.now c.as_slice-suspects.result.now =
    coe 1 0
    (i. AreLentNow c.args.settings.now b (c.as_slice-outputs.ensures i) (c.as_slice-makers.ensures i) (c.as_slice-own.ensures i) (c.as_slice-suspects.ensures i))
    (record {
      sound = c.requires.sound;
      named = c.requires.named;
      texts = k.texts;
      outputs = k.flags.outputs;
      whole = k.flags.makers;
      own = k.flags.own;
      doubted = k.flags.suspects;
    }) in
    IfOk-weaker c.tell_known.result _ _
    (λ made told.
    subst (λ (rows : Told). IsNow c.args.settings.now b (plan_by kept.table rows made.ranked) made.held) is (told (λ served. given)))
    c.tell_known.ensures.now

pub returns-clause-ranked : goal.returns-clause-ranked
returns-clause-ranked c =
    let k = c.requires.kept in
    let kept = c.args.kept.now in
    let b = c.args.base.now in
    let is : told_by_flags b c.as_slice-outputs.result.now c.as_slice-makers.result.now c.as_slice-forced.result.now ≡ told_by_flags b kept.flags.outputs kept.flags.makers kept.flags.forced =
    λ i. told_by_flags b (c.as_slice-outputs.ensures i) (c.as_slice-makers.ensures i) (c.as_slice-forced.ensures i) in
    let given : AreLentNow c.args.settings.now b c.as_slice-outputs.result.now c.as_slice-makers.result.now c.as_slice-own.result.now c.as_slice-suspects.result.now =
    coe 1 0
    (i. AreLentNow c.args.settings.now b (c.as_slice-outputs.ensures i) (c.as_slice-makers.ensures i) (c.as_slice-own.ensures i) (c.as_slice-suspects.ensures i))
    (record {
      sound = c.requires.sound;
      named = c.requires.named;
      texts = k.texts;
      outputs = k.flags.outputs;
      whole = k.flags.makers;
      own = k.flags.own;
      doubted = k.flags.suspects;
    }) in
    IfOk-weaker c.tell_known.result _ _
    (λ made told.
    subst (λ (rows : Told). AreRanked c.args.settings.now b made.ranked.ranking (plan_by kept.table rows made.ranked)) is (told (λ served. given)))
    c.tell_known.ensures.ranked

pub returns-clause-standing : goal.returns-clause-standing
returns-clause-standing c =
    let k = c.requires.kept in
    let kept = c.args.kept.now in
    let b = c.args.base.now in
    let is : told_by_flags b c.as_slice-outputs.result.now c.as_slice-makers.result.now c.as_slice-forced.result.now ≡ told_by_flags b kept.flags.outputs kept.flags.makers kept.flags.forced =
    λ i. told_by_flags b (c.as_slice-outputs.ensures i) (c.as_slice-makers.ensures i) (c.as_slice-forced.ensures i) in
    IfOk-weaker c.tell_known.result _ _
    (λ made told. λ served.
    subst (λ (rows : Told). StandsBy kept.table rows made.ranked.ranking) is
    (told served (subst (λ (flags : List Own). FitOwn flags (own_now c.args.settings.now b)) (sym c.as_slice-own.ensures) k.flags.own)))
    c.tell_known.ensures.standing

pub returns-clause-refused : goal.returns-clause-refused
returns-clause-refused c =
    let k = c.requires.kept in
    let kept = c.args.kept.now in
    let b = c.args.base.now in
    let given : AreLentNow c.args.settings.now b c.as_slice-outputs.result.now c.as_slice-makers.result.now c.as_slice-own.result.now c.as_slice-suspects.result.now =
    coe 1 0
    (i. AreLentNow c.args.settings.now b (c.as_slice-outputs.ensures i) (c.as_slice-makers.ensures i) (c.as_slice-own.ensures i) (c.as_slice-suspects.ensures i))
    (record {
      sound = c.requires.sound;
      named = c.requires.named;
      texts = k.texts;
      outputs = k.flags.outputs;
      whole = k.flags.makers;
      own = k.flags.own;
      doubted = k.flags.suspects;
    }) in
    IfErr-weaker c.tell_known.result _ _ (λ fault told. λ other. told other (λ served. given)) c.tell_known.ensures.refused
