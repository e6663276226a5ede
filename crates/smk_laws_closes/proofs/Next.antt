-- What is kept once the plan has grown is so at the stand that comes.
use Rattle.std.proofs.Common.{◌≡◌, ◌≤◌, ◌+◌, ◌^◌, false, not, List, [], ◌∷◌, ◌++◌, map, filter, length, sym, ap, subst, ◌∙◌, nat_eq, Some, None}
use Rattle.std.specs.List.{list_any}
use Rattle.std.specs.List.Sorted.{IsPermutation}
use Rattle.smk_world.specs.declared.event.Event.{Event}
use Rattle.smk_world.specs.Devices.{AreLooks}
use Rattle.smk_world.specs.Runs.{Follows}
use Rattle.smk_world.specs.World.{World}
use Rattle.smk_pick.specs.Shares.{Holds}
use Rattle.smk_plan_live.specs.Lives.{progress_of}
use Rattle.smk_drive.specs.Lawful.{ask_of, is_good_end, running_jobs}
use Rattle.smk_drive.specs.Moments.{Begun, draws, greatest, seen}
use Rattle.smk_drive.specs.Moments as moments
use Rattle.smk_drive_pick.specs.Picking.{AreAlike}
use Rattle.smk_drive_course.specs.Stands.{IsClear, Stand, moment_of}
use Rattle.smk_drive_course.specs.Steps.{HasGuarded, guards_of}
use Rattle.smk_laws_turns.specs.Hubs.{AreOnce, AreOpen, IsKept, Parts, asks_in, if_fits, plan_of}
use Rattle.smk_laws_turns.specs.Onward.{IsOnward}
use Rattle.smk_laws_closes.specs.Endings.{told_end}
use Rattle.smk_laws_closes.specs.Closes.{counted_end}
use Rattle.smk_laws_closes.proofs.Around.{IsSplit}
use Rattle.smk_laws_closes.proofs.Basis.{Closing, its, its_begun, wait, without}
use Rattle.smk_laws_closes.proofs.Counting.{asks_are, asks_were, failing_more}
use Rattle.smk_laws_closes.proofs.Fates.{asks_left, fails_with, still_once, still_open}
use Rattle.smk_laws_closes.proofs.Laws.{Laws}
use Rattle.smk_laws_closes.proofs.Progress.{same_draws}
use Rattle.smk_laws_closes.proofs.Tended.{split, tended_world}

module _ (l : Laws) (x : Closing) (guarding looks : List Event) (guards : HasGuarded (guards_of x.job x.how) guarding) (quiet : AreLooks false looks)
    (follows : Follows x.act x.w ((wait x ∷ x.closing) ++ (guarding ++ looks))) (unhalted : x.s.halted ≡ None) where
  abbrev now : World
  now = tended_world l x guarding looks guards quiet follows

  abbrev pub events_now : List Event
  events_now = x.before ++ ((wait x ∷ x.closing) ++ (guarding ++ looks))

  abbrev kept : IsKept x.rules x.entry x.h x.s x.w x.before
  kept = x.at.kept unhalted

  abbrev here : IsSplit x.w now x.s.begun (without x).begun (its_begun x) (told_end x.how)
  here = split l x guarding looks guards quiet follows unhalted

  -- What is kept now, with the end of the job noted, at the stand that has come.
  pub record IsNotedNow (k : Parts) (to : Stand) : Type 0 where
    pub onward : IsOnward x.rules x.entry now (without x) k
    pub next : k.next ≡ x.h.next
    pub asks : asks_in k.places ≡ asks_in x.places
    pub room : Holds x.rules.settings.cores x.rules.settings.bounds k.room (asks_in x.places)
    pub tally : k.tally ≡ counted_end x.rules.flow x.job x.how x.h.tally
    pub begun : to.begun ≡ (without x).begun
    pub plan : to.plan ≡ Some (plan_of k.live)
    pub known : k.live.plan.known ≡ []
    pub clear : IsClear x.rules to now events_now

  module _ (k : Parts) (to : Stand) (noted : IsNotedNow k to) where
    drawn : length (filter (draws x.rules) to.begun) ≡ length (filter (draws x.rules) x.s.begun)
    drawn =
        ap (λ bs. length (filter (draws x.rules) bs)) (noted.begun ∙ here.are)
        ∙ (same_draws x.rules here.front here.back (its_begun x) (told_end x.how) ∙ ap (λ bs. length (filter (draws x.rules) bs)) (sym here.were))

    begun_ask : x.c.ask ≡ ask_of (its_begun x).job
    begun_ask = (its x).ask ∙ ap ask_of (sym (its x).is_job)

    asks_now : IsPermutation (asks_in k.places) (map ask_of (running_jobs (moment_of to now events_now)))
    asks_now =
        let were : IsPermutation (asks_in x.put.before ++ ask_of (its_begun x).job ∷ asks_in x.put.after) (map ask_of (running_jobs (moment_of x.s x.w x.before))) =
        subst (λ a. IsPermutation (asks_in x.put.before ++ a ∷ asks_in x.put.after) (map ask_of (running_jobs (moment_of x.s x.w x.before)))) begun_ask
        (subst (λ xs. IsPermutation xs (map ask_of (running_jobs (moment_of x.s x.w x.before)))) (asks_were x.c x.h.places x.places x.put) kept.asks) in
        subst (λ bs. IsPermutation (asks_in k.places) (map ask_of (map (λ (b : Begun). b.job) (filter (λ (b : Begun). moments.runs now b.job) bs)))) (sym noted.begun)
        (subst (λ xs. IsPermutation xs (map ask_of (map (λ (b : Begun). b.job) (filter (λ (b : Begun). moments.runs now b.job) (without x).begun))))
        (sym (noted.asks ∙ asks_are x.c x.h.places x.places x.put))
        (asks_left x.w now x.s.begun (without x).begun (its_begun x) (told_end x.how) here (asks_in x.put.before) (asks_in x.put.after) were))

    failing_now : list_any (λ (b : Begun). not (is_good_end b.ended)) to.begun ≡ not (nat_eq k.tally.failed 0)
    failing_now =
        ap (list_any (λ (b : Begun). not (is_good_end b.ended))) noted.begun
        ∙ (fails_with x.w now x.s.begun (without x).begun (its_begun x) (told_end x.how) here (kept.open_still (its_begun x) (its x).has_begun here.ran)
        ∙ (failing_more x.rules.flow x.job x.how x.h.tally (list_any (λ (b : Begun). not (is_good_end b.ended)) x.s.begun) kept.failing
        ∙ ap (λ t. not (nat_eq t.failed 0)) (sym noted.tally)))

    pub kept_now : IsKept x.rules x.entry k to now events_now
    kept_now =
        record {
          agrees = noted.onward.agrees;
          progressed = subst (λ bs. AreAlike (moments.progress_of now bs) (progress_of k.live.base)) (sym noted.begun) noted.onward.progressed;
          plan = noted.plan;
          none_known = noted.known;
          serial = noted.next ∙ (kept.serial ∙ ap (λ n. if_fits (greatest x.rules (seen x.rules x.entry) + (1 + n))) (sym drawn));
          reach = subst (λ n. greatest x.rules (seen x.rules x.entry) + (1 + n) ≤ 2 ^ 64) (sym drawn) kept.reach;
          running = noted.onward.running;
          room = subst (Holds x.rules.settings.cores x.rules.settings.bounds k.room) (sym noted.asks) noted.room;
          asks = asks_now;
          once =
              subst AreOnce (sym noted.begun)
              (still_once x.w now x.s.begun (without x).begun (its_begun x) (told_end x.how) here kept.once);
          open_still =
              subst (AreOpen now) (sym noted.begun)
              (still_open x.w now x.s.begun (without x).begun (its_begun x) (told_end x.how) here kept.open_still);
          failing = failing_now;
          clear = noted.clear;
        }
