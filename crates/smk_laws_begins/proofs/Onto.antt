-- What a run keeps where no fault has come, once an output was removed.
use Rattle.std.proofs.Common.{◌≡◌, ◌≤◌, ◌+◌, ◌^◌, not, List, [], map, filter, length, sym, ap, subst, ◌∙◌, nat_eq, Some}
use Rattle.std.specs.List.{list_any, slice_get}
use Rattle.std.specs.List.Sorted.{IsPermutation}
use Rattle.smk_world.specs.declared.event.Event.{Event}
use Rattle.smk_world.specs.World.{World}
use Rattle.smk_flow.specs.declared.job.Job.{Job}
use Rattle.smk_plan_live.specs.declared.base.Base.{Base}
use Rattle.smk_plan_live.specs.Live.{LivePlan}
use Rattle.smk_plan_live.specs.declared.phase.Phase.{Phase}
use Rattle.smk_plan_live.specs.Lives.{IsAgreed}
use Rattle.smk_plan_live.specs.Lives as lives
use Rattle.smk_drive.specs.Lawful.{ask_of, is_good_end}
use Rattle.smk_drive.specs.Moments.{Begun, Rules, draws, greatest, progress_of, runs, seen}
use Rattle.smk_drive_pick.specs.Picking.{AreAlike}
use Rattle.smk_drive_course.specs.Stands.{IsClear, Stand}
use Rattle.smk_laws_turns.specs.Hubs.{AreOnce, AreOpen, IsKept, Parts, asks_in, if_fits, plan_of}
use Rattle.smk_laws_turns.specs.Resting.{IsSameRun}
use Rattle.smk_laws_begins.specs.Sweeping.{with_live}
use Rattle.smk_laws_begins.proofs.Firmly.{runs_same}
use Rattle.smk_laws_begins.proofs.Kept.{running_same}

-- what is kept of the jobs that have begun
record IsAsBegun (rules : Rules) (entry : World) (k : Parts) (v : World) (base : Base) (begun : List Begun) : Type 0 where
  serial : k.next ≡ if_fits (greatest rules (seen rules entry) + (1 + length (filter (draws rules) begun)))
  reach : greatest rules (seen rules entry) + (1 + length (filter (draws rules) begun)) ≤ 2 ^ 64
  once : AreOnce begun
  open_still : AreOpen v begun
  asks : IsPermutation (asks_in k.places) (map ask_of (map (λ (b : Begun). b.job) (filter (λ (b : Begun). runs v b.job) begun)))
  failing : list_any (λ (b : Begun). not (is_good_end b.ended)) begun ≡ not (nat_eq k.tally.failed 0)
  progressed : AreAlike (progress_of v begun) (lives.progress_of base)

-- The plan that is kept now is in force, and agrees with the folder.
pub record IsPlanNow (rules : Rules) (t : Stand) (v : World) (now : List Event) (later : LivePlan) : Type 0 where
  pub plan : t.plan ≡ Some (plan_of later)
  pub agrees : IsAgreed (seen rules v) rules.settings later.base
  pub known : later.plan.known ≡ []
  pub clear : IsClear rules t v now

module _ (rules : Rules) (entry : World) (k : Parts) (u t : Stand) (w v : World) (before now : List Event) (later : LivePlan) where
  pub kept_then :
      IsKept rules entry k u w before → IsSameRun u t → v.children ≡ w.children → IsPlanNow rules t v now later →
      AreAlike (progress_of v u.begun) (lives.progress_of later.base) → later.base.phases ≡ k.live.base.phases → IsKept rules entry (with_live later k) t v now
  kept_then kept same children plan progressed phases =
      let begun : IsAsBegun rules entry k v later.base t.begun =
      subst (IsAsBegun rules entry k v later.base) (sym same.begun)
      (record {
        serial = kept.serial;
        reach = kept.reach;
        once = kept.once;
        open_still = λ b i r. kept.open_still b i (sym (runs_same w v children b.job) ∙ r);
        asks = subst (λ (js : List Job). IsPermutation (asks_in k.places) (map ask_of js)) (sym (running_same u w v before now children)) kept.asks;
        failing = kept.failing;
        progressed = progressed;
      }) in
      record {
        agrees = plan.agrees;
        progressed = begun.progressed;
        plan = plan.plan;
        none_known = plan.known;
        serial = begun.serial;
        reach = begun.reach;
        running = λ c i. ap (λ (ps : List Phase). slice_get ps c.job) phases ∙ kept.running c i;
        room = kept.room;
        asks = begun.asks;
        once = begun.once;
        open_still = begun.open_still;
        failing = begun.failing;
        clear = plan.clear;
      }
