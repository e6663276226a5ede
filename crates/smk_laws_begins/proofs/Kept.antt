-- What a run keeps where no fault has come, once removals were made firm.
use Rattle.std.proofs.Common.{◌≡◌, List, map, filter, sym, ap, subst, ◌∙◌}
use Rattle.std.specs.List.Sorted.{IsPermutation}
use Rattle.smk_world.specs.declared.event.Child.{Child as WorldChild}
use Rattle.smk_world.specs.declared.event.Event.{Event}
use Rattle.smk_world.specs.Trees.{IsIn}
use Rattle.smk_world.specs.World.{World}
use Rattle.smk_flow.specs.declared.job.Job.{Job}
use Rattle.smk_store.specs.Soundness.{SameSources}
use Rattle.smk_plan_live.specs.Lives.{IsAgreed, progress_of}
use Rattle.smk_drive.specs.Lawful.{ask_of, running_jobs}
use Rattle.smk_drive.specs.Moments.{Begun, Rules, runs, seen}
use Rattle.smk_drive_pick.specs.Picking.{AreAlike}
use Rattle.smk_drive_course.specs.Stands.{Stand, moment_of}
use Rattle.smk_laws_plan.specs.Signs.{HasOwnSigns}
use Rattle.smk_laws_turns.specs.Hubs.{IsKept, IsOurs, IsSigned, Parts, asks_in}
use Rattle.smk_laws_begins.proofs.Firmly.{ReadsAlike, clear_on, progress_same, runs_same}

-- the jobs whose children run go by the children alone
pub running_same :
    (t : Stand) (w v : World) (before after : List Event) → v.children ≡ w.children → running_jobs (moment_of t v after) ≡ running_jobs (moment_of t w before)
running_same t w v before after same =
    ap (λ (cs : List WorldChild). map (λ (b : Begun). b.job) (filter (λ (b : Begun). runs (record w { children = cs }) b.job) t.begun)) same

module _ (rules : Rules) (entry : World) (l : Parts) (t : Stand) (w v : World) (before after : List Event) (alike : ReadsAlike rules w v) where
  pub kept_on : IsKept rules entry l t w before → IsKept rules entry l t v after
  kept_on kept =
      record {
        agrees = subst (λ x. IsAgreed x rules.settings l.live.base) (sym alike.image) kept.agrees;
        progressed = subst (λ x. AreAlike x (progress_of l.live.base)) (sym (progress_same w v t.begun alike.children)) kept.progressed;
        plan = kept.plan;
        none_known = kept.none_known;
        serial = kept.serial;
        reach = kept.reach;
        running = kept.running;
        room = kept.room;
        asks = subst (λ (js : List Job). IsPermutation (asks_in l.places) (map ask_of js)) (sym (running_same t w v before after alike.children)) kept.asks;
        once = kept.once;
        open_still = λ b i r. kept.open_still b i (sym (runs_same w v alike.children b.job) ∙ r);
        failing = kept.failing;
        clear = clear_on rules w v alike t before after kept.clear;
      }

-- what the run has made of its folder is there still
pub ours_on : (rules : Rules) (entry w v : World) (jobs : List Job) → ReadsAlike rules w v → IsOurs rules entry jobs w → IsOurs rules entry jobs v
ours_on rules entry w v jobs alike ours =
    record {
      sources = subst (SameSources (seen rules entry)) (sym alike.image) ours.sources;
      signs = subst (λ x. HasOwnSigns (seen rules entry) x jobs) (sym alike.image) ours.signs;
      gone = subst (λ x. HasOwnSigns x (seen rules entry) jobs) (sym alike.image) ours.gone;
      signed = λ c i.
          subst (λ x. IsSigned x c.recipe c.logs) (sym alike.image) (ours.signed c (subst (λ cs. IsIn cs c) alike.children i));
    }
