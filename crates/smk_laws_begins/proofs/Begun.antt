-- A run that has opened stands where its course begins.
use Rattle.std.proofs.Common.{◌≡◌, ◌≤◌, ◌<◌, ◌+◌, ◌^◌, ℕ, true, false, List, [], ◌∷◌, refl, sym, ap, subst, ◌∙◌, inl, arith, Some, Ok}
use Rattle.std.specs.Prelude.{Contains, not, nat_eq}
use Rattle.std.specs.List.Sorted.{IsPermutation}
use Rattle.std.proofs.lemmas.List.Sorted.{IsPermutation-refl}
use Rattle.smk_world.specs.declared.event.Event.{Event}
use Rattle.smk_world.specs.declared.event.Child.{Child as WorldChild}
use Rattle.smk_world.specs.Folders.{IsTree}
use Rattle.smk_world.specs.Runs.{Follows}
use Rattle.smk_world.specs.Trees.{Act, IsIn}
use Rattle.smk_world.specs.World.{World, IsFormed, numbers, run}
use Rattle.smk_flow.specs.Flows.{Flow}
use Rattle.smk_store.specs.Images.{Image}
use Rattle.smk_store.specs.Soundness.{SameSources}
use Rattle.smk_chain_derive.proofs.Seen.{seen_lists_known}
use Rattle.smk_pick.specs.declared.settings.Settings.{Settings}
use Rattle.smk_pick.specs.Shares.{Holds}
use Rattle.smk_plan.specs.States.{IsPlan, LastPlan, Progress, new_listings, nothing_done}
use Rattle.smk_job.specs.Jobs.{Underway}
use Rattle.smk_run.specs.declared.tally.Tally.{Tally}
use Rattle.smk_plan_live.specs.Live.{LivePlan}
use Rattle.smk_plan_live.specs.Lives.{IsAgreed, progress_of}
use Rattle.smk_drive.specs.Moments.{Rules, greatest, seen}
use Rattle.smk_drive.specs.Moments as moments
use Rattle.smk_drive.specs.Refusals.{ChainRefuses}
use Rattle.smk_drive_pick.specs.Picking.{AreAlike}
use Rattle.smk_drive_step.specs.Crews.{goings}
use Rattle.smk_drive_course.specs.Stands.{IsClear, first_stand}
use Rattle.smk_drive_course.specs.Driven.{IsOpening}
use Rattle.smk_drive_first.specs.declared.opening.Opened.{Opened}
use Rattle.smk_drive_first.specs.Keeping.{IsFresh}
use Rattle.smk_drive_first.specs.Opening.{AreRules, IsOpened}
use Rattle.smk_laws_turns.specs.Hubs.{AreApart, IsAt, IsCrew, IsHome, IsKept, IsOurs, Parts, if_fits, plan_of}
use Rattle.smk_laws_plan.specs.Signs.{HasOwnSigns}
use Rattle.smk_laws_turns.proofs.Homes.{home_stays}
use Rattle.smk_drive_hub.specs.Keeping.{IsAtStart}
use Rattle.smk_laws_begins.specs.Opened.{AreSourcesAt, OpenedIsAt}
use Rattle.smk_laws_begins.proofs.Opened.{fits_same, last_is, no_asks, no_goings, none_in, opened_same}
use Rattle.smk_laws_begins.proofs.Reach.{greatest_below}
use Rattle.smk_laws_begins.proofs.GreatestSerial.{greatest_same}

no_number : {A : Type 0} (n : ℕ) → Contains (numbers []) n → A
no_number n c = absurd (omega (arith, c.1))

alike_at_start : (w : World) (b : Progress) → b ≡ nothing_done → AreAlike (moments.progress_of w []) b
alike_at_start w b e = subst (AreAlike (moments.progress_of w [])) (sym e) (record { begun = λ name. refl; running = λ name. refl })

apart_none : (gs : List Underway) → gs ≡ [] → AreApart gs
apart_none gs e = subst AreApart (sym e) tt

module _
    (act : Act) (flow : Flow) (settings : Settings) (rules : Rules) (entry : World) (opening : List Event) (o : Opened)
    (h : Parts) (formed : IsFormed entry) (tree : IsTree entry) (none : entry.children ≡ []) (are : AreRules flow settings rules)
    (opens : IsOpening rules entry (Ok tt) opening) (follows : Follows act entry opening) (opened : IsOpened rules entry o)
    (sourced : AreSourcesAt rules entry o.live) (start : IsAtStart settings o.live o.next h) where
  abbrev w : World
  w = run entry opening

  same : (seen rules w ≡ seen rules entry) × (w.children ≡ entry.children)
  same = opened_same act rules entry opening opens follows

  childless : w.children ≡ []
  childless = same.1 ∙ none

  fresh : IsFresh rules.settings h.live
  fresh = subst (IsFresh rules.settings) (sym start.live_is) opened.fresh

  agreed_first : IsAgreed (seen rules entry) rules.settings h.live.base
  agreed_first = subst (λ (l : LivePlan). IsAgreed (seen rules entry) rules.settings l.base) (sym start.live_is) opened.agrees

  clear_first : IsClear rules (first_stand (Some (plan_of h.live))) entry []
  clear_first = subst (λ (l : LivePlan). IsClear rules (first_stand (Some (plan_of l))) entry []) (sym start.live_is) opened.clear

  last : LastPlan rules.flow (seen rules entry) rules.settings nothing_done [] (plan_of h.live)
  last = clear_first.planned

  planned : IsPlan rules.flow (seen rules entry) rules.settings nothing_done (plan_of h.live) × (new_listings (seen rules entry) rules.settings nothing_done (plan_of h.live) ≡ [])
  planned = last_is rules.flow (seen rules entry) rules.settings nothing_done [] (plan_of h.live) last

  none_known : h.live.plan.known ≡ []
  none_known =
      (fresh.live.now (seen rules entry) (subst (λ (s : Settings). IsAgreed (seen rules entry) s h.live.base) (sym fresh.settings_are) agreed_first)).made.known
      ∙ ((λ i. new_listings (seen rules entry) (fresh.settings_are i) (fresh.progress i) (plan_of h.live)) ∙ planned.1)

  -- the serial that is drawn first is the one after the greatest of the entry
  serial : h.next ≡ if_fits (greatest rules (seen rules entry) + (1 + 0))
  serial =
      start.next_is
      ∙ (opened.next.by.is
      ∙ (fits_same _
      ∙ ap (λ g. if_fits (g + (1 + 0)))
      (sym (greatest_same rules (seen rules entry) opened.next.store opened.next.stored (seen_lists_known entry formed rules.read) opened.next.by.rising))))

  reach : greatest rules (seen rules entry) + (1 + 0) ≤ 2 ^ 64
  reach = go (greatest rules (seen rules entry)) (greatest_below rules entry are.reads)
    where
      go : (g : ℕ) → g < 2 ^ 64 → g + (1 + 0) ≤ 2 ^ 64
      go g low = omega (arith, low)

  clear : IsClear rules (first_stand (Some (plan_of h.live))) w opening
  clear =
      record {
        unhalted = refl;
        at_rest = refl;
        planned = subst (λ (i : Image). LastPlan rules.flow i rules.settings nothing_done [] (plan_of h.live)) (sym same.0) last;
        unrefused = λ f refused. clear_first.unrefused f (subst (λ (i : Image). ChainRefuses rules i nothing_done [] f) same.0 refused);
      }

  kept : IsKept rules entry h (first_stand (Some (plan_of h.live))) w opening
  kept =
      record {
        agrees = subst (λ (i : Image). IsAgreed i rules.settings h.live.base) (sym same.0) agreed_first;
        progressed = alike_at_start w (progress_of h.live.base) fresh.progress;
        plan = refl;
        none_known = none_known;
        serial = serial;
        reach = reach;
        running = λ c i. absurd (none_in h.places start.places c i);
        room =
            subst (λ asks. Holds rules.settings.cores rules.settings.bounds h.room asks) (sym (no_asks h.places start.places))
            (subst (λ (s : Settings). Holds s.cores s.bounds h.room []) (sym are.settings_are) start.room);
        asks = subst (λ asks. IsPermutation asks []) (sym (no_asks h.places start.places)) (IsPermutation-refl []);
        once = tt;
        open_still = λ b i. absurd i;
        failing = sym (ap (λ (t : Tally). not (nat_eq t.failed 0)) start.tally);
        clear = clear;
      }

  home : IsHome entry w
  home =
      home_stays act entry entry opening follows
      (record {
        found = formed;
        formed = formed;
        tree = tree;
        numbered = λ n c. no_number n (subst (λ (cs : List WorldChild). Contains (numbers cs) n) none c);
      })

  ours : IsOurs rules entry h.live.base.jobs.jobs w
  ours =
      record {
        sources = subst (λ (i : Image). SameSources (seen rules entry) i) (sym same.0) (λ p. refl);
        signs = subst (λ (i : Image). HasOwnSigns (seen rules entry) i h.live.base.jobs.jobs) (sym same.0) (record { notes = λ q k. inl k; signs = λ q k. inl k });
        gone = subst (λ (i : Image). HasOwnSigns i (seen rules entry) h.live.base.jobs.jobs) (sym same.0) (record { notes = λ q k. inl k; signs = λ q k. inl k });
        signed = λ c i. absurd (subst (λ cs. IsIn cs c) childless i);
      }

  crew : IsCrew h.places []
  crew =
      record {
        run = λ g i. subst (λ gs. IsIn gs g) (no_goings h.places start.places) i;
        placed = λ g i. absurd i;
        apart = apart_none (goings h.places) (no_goings h.places start.places);
      }

  at : IsAt rules entry h (first_stand (Some (plan_of h.live))) w opening []
  at =
      record {
        live = fresh.live;
        settings = fresh.settings_are;
        derived = planned.0.derived;
        home = home;
        ours = λ whole. ours;
        sourced = subst (λ (l : LivePlan). AreSourcesAt rules entry l) (sym start.live_is) sourced;
        planned = λ b i. absurd i;
        listed = λ b i. absurd i;
        crew = crew;
        spaced = λ g k i j other. absurd i;
        underway = λ g i. absurd i;
        children = childless;
        theirs = λ c i. absurd (none_in h.places start.places c i);
        halted = start.unhalted;
        waits = start.unbroken;
        starts = refl;
        counted = λ calm.
            record {
              started = ap (λ (t : Tally). t.started) start.tally;
              done = ap (λ (t : Tally). t.done) start.tally;
              failed = ap (λ (t : Tally). t.failed) start.tally;
              first_one = ap (λ (t : Tally). t.first) start.tally;
            };
        faulted = λ broken. absurd (wrong broken);
        kept = λ calm. kept;
      }
    where
      wrong : false ≡ true → ⊥
      wrong e = cc

pub opened_is_at : OpenedIsAt
opened_is_at act flow settings rules entry opening o h formed tree none are opens follows opened sourced start =
    subst (λ (l : LivePlan). IsAt rules entry h (first_stand (Some (plan_of l))) (run entry opening) opening []) start.live_is
    (at act flow settings rules entry opening o h formed tree none are opens follows opened sourced start)
