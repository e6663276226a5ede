-- Calls of one job between two rests leave what stands are moments.
use Rattle.std.proofs.Common.{◌≡◌, true, false, List, [], ◌∷◌, ◌++◌, map, refl, sym, ap, subst, ◌∙◌, Some, append_assoc, append-nil, true≢false}
use Rattle.std.specs.Prelude.{bytes_eq}
use Rattle.std.specs.List.{list_any}
use Rattle.smk_world.specs.declared.event.Call.{Call}
use Rattle.smk_world.specs.declared.event.Call.TheVariants.{Looked, ReadFile, ReadFolder, Written, Created, Removed, MadeParents, Settled, Protected, Started, Waited}
use Rattle.smk_world.specs.declared.event.Event.{Event}
use Rattle.smk_world.specs.World.{World, IsFormed, after, run}
use Rattle.smk_world.specs.Trees.{IsIn}
use Rattle.smk_flow.specs.declared.job.Job.{Job}
use Rattle.smk_store.specs.Images.{Image}
use Rattle.smk_plan.specs.States.{IsPlan, Plan, Progress, job_path}
use Rattle.smk_laws_plan.specs.Current.{IsComplete}
use Rattle.smk_drive.specs.Moments.{Begun, IsMoment, Moment, Rules, begun_after, is_rest, with_end}
use Rattle.smk_drive.specs.Lawful.{is_wait}
use Rattle.smk_drive_course.proofs.OneMoment.{one_moment}
use Rattle.smk_drive_course.proofs.HasMoment.{has_moment}
use Rattle.smk_drive_course.specs.Stands.{Between, Stand}
use Rattle.smk_laws_moments.specs.Owning.{IsOwnCall}
use Rattle.smk_laws_moments.specs.Standing.{IsStandOf}
use Rattle.smk_laws_moments.specs.Between.{AreBetweenRests, BetweenRestsIsMoment}
use Rattle.smk_laws_moments.proofs.ChildrenOf.{run_more}
use Rattle.smk_laws_moments.proofs.StandsOf.{world_is}
use Rattle.smk_laws_moments.proofs.ReplanningOf.{replanning_is_moment}
use Rattle.smk_laws_moments.proofs.OwnCalls.{own_calls_keep_begun}

-- only a wait tells how a child ended
no_end : (rules : Rules) (w v : World) (call : Call) → is_wait call ≡ false → (b : Begun) → with_end rules w v call b ≡ b
no_end rules w v (Looked p r) h b = refl
no_end rules w v (ReadFile p limit r) h b = refl
no_end rules w v (ReadFolder p r) h b = refl
no_end rules w v (Written p bytes r) h b = refl
no_end rules w v (Created p r) h b = refl
no_end rules w v (Removed p r) h b = refl
no_end rules w v (MadeParents p r) h b = refl
no_end rules w v (Settled ps r) h b = refl
no_end rules w v (Protected p r) h b = refl
no_end rules w v (Started recipe logs command r) h b = refl
no_end rules w v (Waited r) h b = absurd (true≢false h)

all_kept : (f : Begun → Begun) → ((b : Begun) → f b ≡ b) → (bs : List Begun) → map f bs ≡ bs
all_kept f same [] = refl
all_kept f same (b ∷ bs) = let rest = all_kept f same bs in λ i. same b i ∷ rest i

module _ (rules : Rules) (image : Image) (progress : Progress) (plan : Plan) (entry : World) (s : Stand) (j : Job) (formed : IsFormed entry) (complete : IsComplete image) (is_plan : IsPlan rules.flow image rules.settings progress plan) (in_force : s.plan ≡ Some plan) (planned : IsIn plan.jobs j) (begun : list_any (λ (b : Begun). bytes_eq (job_path b.job) (job_path j)) s.begun ≡ true) where
  -- with one call
  begun_same : (before : List Event) (e : Event) (m : Moment) → IsOwnCall j (run entry before) e.call → is_wait e.call ≡ false → IsMoment rules entry before m → IsStandOf s m → begun_after rules entry m e ≡ s.begun
  begun_same before e m own waits is of =
      own_calls_keep_begun rules image progress plan entry m e j complete is_plan (of.plan ∙ in_force) planned
      (ap (λ (bs : List Begun). list_any (λ (b : Begun). bytes_eq (job_path b.job) (job_path j)) bs) of.begun ∙ begun)
      (subst (λ (w : World). IsOwnCall j w e.call) (sym (world_is rules entry before m is)) own)
      ∙ (all_kept (with_end rules m.world (after m.world e) e.call) (no_end rules m.world (after m.world e) e.call waits) m.begun ∙ of.begun)

  one_call :
      (before : List Event) (e : Event) (m k : Moment) → IsOwnCall j (run entry before) e.call → is_wait e.call ≡ false → is_rest (after (run entry before) e) s.begun ≡ false →
      IsMoment rules entry before m → IsStandOf s m → IsMoment rules entry (before ++ e ∷ []) k → IsStandOf s k
  one_call before e m k own waits unrested is of isk =
      replanning_is_moment rules entry before e s s s m k formed is of
      (record { begun = begun_same before e m own waits is of; plan = refl; since = refl; listed = refl })
      (Between (ap (λ (w : World). is_rest (after w e) s.begun) (world_is rules entry before m is) ∙ unrested)) isk

  all_calls : (before es : List Event) (m n : Moment) → AreBetweenRests j s.begun (run entry before) es → IsMoment rules entry before m → IsStandOf s m → IsMoment rules entry (before ++ es) n → IsStandOf s n
  all_calls before [] m n are is of isn = subst (IsStandOf s) (one_moment rules entry before m n formed is (subst (λ xs. IsMoment rules entry xs n) (append-nil before) isn)) of
  all_calls before (e ∷ es) m n are is of isn =
      let k = has_moment rules entry (before ++ e ∷ []) formed in
      all_calls (before ++ e ∷ []) es k.0 n (subst (λ (w : World). AreBetweenRests j s.begun w es) (sym (run_more entry before (e ∷ []))) are.3) k.1
      (one_call before e m k.0 are.0 are.1 are.2 is of k.1) (subst (λ xs. IsMoment rules entry xs n) (sym (append_assoc before (e ∷ []) es)) isn)

pub between_rests_is_moment : BetweenRestsIsMoment
between_rests_is_moment rules image progress plan entry s before es j m n formed complete is_plan in_force planned begun are is of isn =
    all_calls rules image progress plan entry s j formed complete is_plan in_force planned begun before es m n are is of isn
