-- Where all jobs of a last plan are Clean they are so by the last plan of the chain from no listing.
use Rattle.std.proofs.Common.{◌≡◌, [], ◌++◌, sym, subst, IsTrue}
use Rattle.smk_world.specs.Trees.{Each}
use Rattle.smk_flow.specs.Flows.{Flow}
use Rattle.smk_store.specs.Images.{Image}
use Rattle.smk_chain.specs.Derive.{Listings}
use Rattle.smk_trigger.specs.JobStates.{is_clean}
use Rattle.smk_trigger.specs.declared.reason.State.{State}
use Rattle.smk_pick.specs.declared.settings.Settings.{Settings}
use Rattle.smk_plan.specs.States.{IsPlan, Last, LastPlan, Plan, Then, new_listings, nothing_done}
use Rattle.smk_laws_edit.proofs.EditedChain as beside
use Rattle.smk_laws_edit.specs.Leaving.{DoneStaysDone}
use Rattle.smk_laws_edit.proofs.Chained.{each_clean, has_last}
use Rattle.smk_laws_edit.proofs.Resting.{all_clean, current_now}
use Rattle.smk_laws_edit.proofs.Trimmed.{trimmed, trimmed_is, trimmed_listed, trimmed_none}

last_parts :
    (flow : Flow) (image : Image) (settings : Settings) (L : Listings) (plan : Plan) → LastPlan flow image settings nothing_done L plan →
    IsPlan flow image settings nothing_done plan × (new_listings image settings nothing_done plan ≡ [])
last_parts flow image settings _ _ (Last plan is none) = (is, none)
last_parts flow image settings _ _ (Then plan last is more rest) =
    last_parts flow image settings (plan.lists ++ new_listings image settings nothing_done plan) last rest

pub done_stays_done : DoneStaysDone
done_stays_done flow image settings L plan complete free done =
    let was = last_parts flow image settings L plan done.last in
    let calm : Each (λ (s : State). IsTrue (is_clean s)) plan.states =
    subst (Each (λ (s : State). IsTrue (is_clean s))) (sym done.clean) (each_clean plan.jobs) in
    let before : Plan = trimmed flow image settings plan complete was.0 calm in
    let rested : beside.WasDone flow settings image before [] =
    record {
      complete = complete;
      unforced = free;
      is_plan = trimmed_is flow image settings plan complete was.0 calm;
      none_new = trimmed_none flow image settings plan complete was.0 calm was.1;
      listed = trimmed_listed flow image settings plan complete was.0 calm done.listed;
      clean = calm;
    } in
    let next = has_last flow settings image before rested in
    let now = last_parts flow image settings [] next.0 next.1 in
    record {
      next = next.0;
      last = next.1;
      clean = all_clean flow settings image before rested next.0 now.0 next.2 now.1;
      current = current_now flow settings image before rested next.0 now.0 next.2 now.1;
    }
