-- After an edit of one source the last plan has nothing to do but what lies downstream of it.
use Rattle.std.proofs.Common.{◌≡◌, [], subst}
use Rattle.smk_world.specs.declared.event.Node.TheVariants.{Regular}
use Rattle.smk_world.specs.World.{World}
use Rattle.smk_world.specs.Trees.{Path}
use Rattle.smk_store.specs.Images.{seen}
use Rattle.smk_store.specs.Soundness.{Outside}
use Rattle.smk_store.specs.Trust.{Versions}
use Rattle.smk_plan.specs.States.{LastPlan, Plan, nothing_done}
use Rattle.smk_laws_history.specs.Histories.{edited}
use Rattle.smk_words_reading.specs.declared.asked.RunWords.{RunWords}
use Rattle.smk_cli_entry.specs.declared.asking.Asked.{Asked}
use Rattle.smk_cli_calls.specs.Serving.{settings_of}
use Rattle.smk_laws_edit.specs.Edited.{PlansDownstream}
use Rattle.smk_laws_edit.proofs.EditedWorlds.{edited_downstream}
use Rattle.smk_clean.specs.Again.{CallLeavesNone, HasNoneLeft}
use Rattle.smk_clean.specs.Safe.{CallIsSafe}
use Rattle.smk_clean.proofs.Asking.{asked_same}
use Rattle.smk_laws_call.specs.Thrift.{EditedCallPlansDownstream, HasRunWell, IsLeftEdited, IsPlanIn}
use Rattle.smk_laws_call.proofs.Done.{left, one_plan, sound, tree, was_done}

module _ (none_left : CallLeavesNone) (safe : CallIsSafe) (o : Outside) (H : Versions) (words : RunWords) (w v x : World) (p : Path)
    (ran : HasRunWell o H words w v) (is : IsLeftEdited o words w v x p) where
  abbrev was_left : HasNoneLeft o words w v
  was_left = left none_left safe o H words w v ran

  abbrev after : World
  after = edited v p (Regular is.bytes is.time is.read_only)

  -- a last plan there is one for what was asked
  last_there : (now : Plan) → IsPlanIn o words x x now → LastPlan was_left.asked.flow (seen o.read after) (settings_of was_left.asked words) nothing_done [] now
  last_there now is_now =
      let same : is_now.asked ≡ was_left.asked = asked_same words x.nodes is_now.asked was_left.asked is_now.is_asked (is.same was_left.asked was_left.is_asked) in
      subst (λ (a : Asked). LastPlan a.flow (seen o.read after) (settings_of a words) nothing_done [] now) same
      (subst (λ (z : World). LastPlan is_now.asked.flow (seen o.read z) (settings_of is_now.asked words) nothing_done [] now) is.is is_now.last)

  pub downstream : (now : Plan) → IsPlanIn o words x x now → PlansDownstream p was_left.plan now
  downstream now is_now =
      let was = was_done none_left safe o H words w v ran p in
      edited_downstream o.read v p is.bytes is.time is.read_only (sound none_left safe o H words w v ran).formed (tree none_left safe o H words w v ran) is.source was_left.asked.flow
      (settings_of was_left.asked words) was_left.plan was.is_plan was now (last_there now is_now)

pub edited_plans_downstream : CallLeavesNone → CallIsSafe → EditedCallPlansDownstream
edited_plans_downstream none_left safe o H words w v x p before now ran is is_before is_now =
    subst (λ (plan : Plan). PlansDownstream p plan now) (one_plan none_left safe o H words w v ran before is_before)
    (downstream none_left safe o H words w v x p ran is now is_now)
