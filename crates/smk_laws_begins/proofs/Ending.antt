-- What a sweep leads to, once removals were made firm, or a call failed.
use Rattle.std.proofs.Common.{◌≡◌, true, false, List, [], ◌∷◌, ◌++◌, refl, sym, ap, subst, ◌∙◌, inl, inr, Option, Some, None, Ok, Err}
use Rattle.std.proofs.Math.Bool.{or-true}
use Rattle.std.proofs.lemmas.List.{append-nil}
use Rattle.smk_world.specs.declared.event.Event.{Event}
use Rattle.smk_world.specs.Requests.{HasDone}
use Rattle.smk_world.specs.Requests.Request.{Settle}
use Rattle.smk_world.specs.Runs.{Follows}
use Rattle.smk_world.specs.Trees.{Act, Path}
use Rattle.smk_world.specs.World.{World, after, run}
use Rattle.smk_plan_live.specs.Live.{LivePlan}
use Rattle.smk_plan_live.specs.Lives.{IsLive}
use Rattle.smk_report.specs.declared.fault.Fault.{Fault}
use Rattle.smk_report.specs.declared.fault.Fault.TheVariants as fault
use Rattle.smk_drive.specs.Moments.{Rules}
use Rattle.smk_drive_step.specs.Crews.{or_later}
use Rattle.smk_drive_course.specs.Stands.{GoesOn, Stand, broken_by_device, first_fault}
use Rattle.smk_drive_course.specs.Steps.{Deed}
use Rattle.smk_drive_course.specs.Breaks.{Spends, SpendsNot, Step}
use Rattle.smk_laws_moments.proofs.ChildrenOf.{run_more}
use Rattle.smk_laws_moments.proofs.Fates.{goes_kept}
use Rattle.smk_laws_turns.proofs.Homes.{home_stays}
use Rattle.smk_laws_turns.specs.Hubs.{IsAt, Parts}
use Rattle.smk_laws_turns.specs.Turning.{HasLed, faulted}
use Rattle.smk_laws_turns.proofs.Turning.{halt_leads}
use Rattle.smk_laws_turns.proofs.Settling.{settling_leaves}
use Rattle.smk_laws_begins.specs.Sweeping.{BrokenSweepLeads, LackingSweepLeads, ShortSweepLeads, SweepLeads, UnsettledLeads, with_live}
use Rattle.smk_laws_begins.proofs.Firmly.{ReadsAlike, children_kept, gone_settled}
use Rattle.smk_laws_begins.proofs.Kept.{kept_on, ours_on}
use Rattle.smk_laws_begins.proofs.Staying.{at_on}

pub some_none : {A : Type 0} (f : Fault) → Some f ≡ None → A
some_none f h = absurd (go h)
  where
    go : Some f ≡ None → ⊥
    go h = cc

-- a fault came first, or this one
pub has_fault : {A : Type 0} (o : Option Fault) (f : Fault) → first_fault o f ≡ None → A
has_fault None f h = some_none f h
has_fault (Some g) f h = some_none g h

-- the first fault, where none came before at either
pub first_both : (a b : Option Fault) (f : Fault) → a ≡ None → b ≡ None → Some (or_later a f) ≡ first_fault b f
first_both a b f h k = ap (λ o. Some (or_later o f)) h ∙ sym (ap (λ o. first_fault o f) k)

module _ (rules : Rules) (entry : World) (h : Parts) (s : Stand) (w : World) (before : List Event) (deeds : List Deed) where
  -- the run stands there after all of these events
  led_to :
      (k : Parts) (t : Stand) (es fs : List Event) → Step rules entry s w before (es ++ fs) [] t →
      IsAt rules entry k t (run (run w es) fs) (before ++ (es ++ fs)) deeds → HasLed rules entry k s w before (es ++ fs) deeds []
  led_to k t es fs step at =
      record {
        stand = t;
        step = step;
        at =
            subst (IsAt rules entry k t (run w (es ++ fs)) (before ++ (es ++ fs))) (sym (append-nil deeds))
            (subst (λ v. IsAt rules entry k t v (before ++ (es ++ fs)) deeds) (sym (run_more w es fs)) at);
      }

  -- once removals were made firm
  alike_settled :
      (act : Act) (v : World) (paths : List Path) (settling : List Event) → HasDone (Settle paths ∷ []) settling → Follows act v settling →
      ReadsAlike rules v (run v settling)
  alike_settled act v paths settling done follows =
      let same = settling_leaves act rules v paths settling done follows in
      record { image = same.0; children = same.1; gone = gone_settled act v paths settling done follows }

  pub sweep_leads : SweepLeads rules entry h s w before deeds
  sweep_leads act live paths es settling swept some late done follows =
      let k = with_live live h in
      let v = run w es in
      let alike = alike_settled act v paths settling done follows in
      let kept = swept.at.kept swept.unhalted in
      led_to k swept.stand es settling
      (Spends (record {
        paths = paths;
        removing = es;
        settling = settling;
        last = swept.stand;
        some = some;
        late = late;
        removed = swept.removed;
        settled = done;
        events = refl;
        deeds_are = refl;
        goes_by = GoesOn kept.clear;
      }))
      (at_on rules entry k k swept.stand swept.stand v (run v settling) (before ++ es) (before ++ (es ++ settling)) deeds swept.at
      (record {
        alive = swept.at.live;
        settings = refl;
        jobs = refl;
        places = refl;
        begun = refl;
        runs = refl;
        children = alike.children;
        halted = swept.at.halted;
        waits = swept.at.waits;
        faulted = swept.at.faulted;
      })
      (home_stays act entry v settling follows swept.at.home)
      (λ whole. ours_on rules entry v (run v settling) live.base.jobs.jobs alike (swept.at.ours whole))
      swept.at.counted
      (λ none. kept_on rules entry k swept.stand v (run v settling) (before ++ es) (before ++ (es ++ settling)) alike (swept.at.kept none)))

  pub short_sweep_leads : ShortSweepLeads rules entry h s w before deeds
  short_sweep_leads act live paths es settling f swept some late done follows =
      let k = with_live live (faulted f h) in
      let v = run w es in
      let alike = alike_settled act v paths settling done follows in
      led_to k swept.to es settling
      (Spends (record {
        paths = paths;
        removing = es;
        settling = settling;
        last = swept.last;
        some = some;
        late = late;
        removed = swept.removed;
        settled = done;
        events = refl;
        deeds_are = refl;
        goes_by = swept.goes_by;
      }))
      (at_on rules entry k k swept.to swept.to v (run v settling) (before ++ es) (before ++ (es ++ settling)) deeds swept.at
      (record {
        alive = swept.at.live;
        settings = refl;
        jobs = refl;
        places = refl;
        begun = refl;
        runs = refl;
        children = alike.children;
        halted = swept.at.halted;
        waits = swept.at.waits;
        faulted = swept.at.faulted;
      })
      (home_stays act entry v settling follows swept.at.home)
      (λ whole. ours_on rules entry v (run v settling) live.base.jobs.jobs alike (swept.at.ours whole))
      (λ none. some_none f (sym swept.halted ∙ none))
      (λ none. some_none f (sym swept.halted ∙ none)))

  -- ## A call failed

  -- a call failed that starts and ends no child, once these were removed
  broken_at :
      (act : Act) (k : Parts) (last t : Stand) (live : LivePlan) (es : List Event) (e : Event) →
      IsAt rules entry k t (run w es) (before ++ es) deeds →
      k.live ≡ live → k.places ≡ h.places → last.begun ≡ t.begun → last.runs ≡ t.runs → last.halted ≡ None → h.halt.fault ≡ None →
      (after (run w es) e).children ≡ (run w es).children → Follows act (run w es) (e ∷ []) →
      IsAt rules entry (with_live live (faulted fault.Device h)) (broken_by_device last) (run (run w es) (e ∷ [])) (before ++ (es ++ e ∷ [])) deeds
  broken_at act k last t live es e at same places begun runs unhalted unfaulted children follows =
      at_on rules entry k (with_live live (faulted fault.Device h)) t (broken_by_device last) (run w es) (after (run w es) e) (before ++ es) (before ++ (es ++ e ∷ [])) deeds at
      (record {
        alive = subst IsLive same at.live;
        settings = ap (λ (x : LivePlan). x.settings) (sym same);
        jobs = ap (λ (x : LivePlan). x.base.jobs) (sym same);
        places = sym places;
        begun = begun;
        runs = runs;
        children = children;
        halted = first_both h.halt.fault last.halted fault.Device unfaulted unhalted;
        waits = or-true h.halt.only_waits;
        faulted = λ b none. has_fault last.halted fault.Device none;
      })
      (home_stays act entry (run w es) (e ∷ []) follows at.home)
      (λ whole. absurd (true_false whole))
      (λ none. has_fault last.halted fault.Device none)
      (λ none. has_fault last.halted fault.Device none)
    where
      true_false : true ≡ false → ⊥
      true_false x = cc

  pub unsettled_leads : UnsettledLeads rules entry h s w before deeds
  unsettled_leads act live paths es e (Ok u) swept some late called fails follows =
      led_to (with_live live (faulted fault.Device h)) (broken_by_device swept.stand) es (e ∷ [])
      (SpendsNot (record {
        paths = paths;
        removing = es;
        failing = e;
        last = swept.stand;
        late = late;
        removed = swept.removed;
        events = refl;
        fails = fails;
        called = inr (called, some);
        deeds_are = refl;
        leaves = refl;
      }))
      (broken_at act (with_live live h) swept.stand swept.stand live es e swept.at refl refl refl refl swept.unhalted (swept.at.halted ∙ swept.unhalted)
      (children_kept e.call (Settle paths) (run w es).children called refl) follows)
  unsettled_leads act live paths es e (Err f) swept some late called fails follows =
      let same = goes_kept rules entry swept.last swept.to (run w es) (before ++ es) swept.goes_by in
      led_to (with_live live (faulted fault.Device h)) (broken_by_device swept.last) es (e ∷ [])
      (SpendsNot (record {
        paths = paths;
        removing = es;
        failing = e;
        last = swept.last;
        late = late;
        removed = swept.removed;
        events = refl;
        fails = fails;
        called = inr (called, some);
        deeds_are = refl;
        leaves = refl;
      }))
      (broken_at act (with_live live (faulted f h)) swept.last swept.to live es e swept.at refl refl (sym same.begun) (sym same.runs) swept.unhalted swept.unfaulted
      (children_kept e.call (Settle paths) (run w es).children called refl) follows)

  pub broken_sweep_leads : BrokenSweepLeads rules entry h s w before deeds
  broken_sweep_leads live es swept late =
      record {
        stand = broken_by_device swept.last;
        step =
            SpendsNot (record {
              paths = swept.paths;
              removing = swept.removing;
              failing = swept.failing;
              last = swept.last;
              late = late;
              removed = swept.removed;
              events = swept.events;
              fails = swept.fails;
              called = inl (swept.path, swept.called, swept.clear, swept.is_spent, swept.listed);
              deeds_are = refl;
              leaves = refl;
            });
        at = subst (IsAt rules entry (with_live live (faulted fault.Device h)) (broken_by_device swept.last) (run w es) (before ++ es)) (sym (append-nil deeds)) swept.at;
      }

  -- ## Want of memory

  pub lacking_sweep_leads : LackingSweepLeads rules entry h s w before deeds
  lacking_sweep_leads live f at unhalted swept =
      subst (λ x. HasLed rules entry (with_live x (faulted f h)) s w before [] deeds []) (sym (swept.still refl))
      (halt_leads rules entry h s w before deeds [] f at (inr (inr (swept.lacking refl))) swept.quiet refl (λ b. refl) at.home at.ours)
