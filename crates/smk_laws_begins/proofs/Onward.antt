-- A sweep begins, and goes on by one output more.
use Rattle.std.proofs.Common.{◌≡◌, false, ◌||◌, List, [], ◌∷◌, ◌++◌, refl, sym, ap, subst, ◌∙◌, Some, None, Ok, Err, true≢false, append-nil}
use Rattle.std.proofs.Math.Bool.{or-false, or-true}
use Rattle.smk_world.specs.declared.event.Event.{Event}
use Rattle.smk_world.specs.Requests.{HasDone}
use Rattle.smk_world.specs.Requests.Request.{Remove}
use Rattle.smk_world.specs.Runs.{Follows}
use Rattle.smk_world.specs.Trees.{Act, Path}
use Rattle.smk_world.specs.World.{World, after, run}
use Rattle.smk_flow.specs.Flows.{Flow}
use Rattle.smk_pick.specs.declared.settings.Settings.{Settings}
use Rattle.smk_plan_live.specs.declared.base.Base.{Base}
use Rattle.smk_plan_live.specs.Live.{LivePlan}
use Rattle.smk_plan_live.specs.Carried.{spent}
use Rattle.smk_plan_live.specs.Lives.{IsAgreed, IsLive}
use Rattle.smk_plan_live.specs.Lives as lives
use Rattle.smk_report.specs.declared.fault.Fault.{Fault}
use Rattle.smk_report.specs.declared.fault.Fault.TheVariants as fault
use Rattle.smk_drive.specs.Moments.{Rules, progress_of, seen}
use Rattle.smk_drive_pick.specs.Picking.{AreAlike}
use Rattle.smk_drive_step.specs.Crews.{is_device, or_later}
use Rattle.smk_drive_course.specs.Stands.{AtRest, Between, GoesBy, GoesOn, IsRefused, IsReplanned, LacksMemory, Stand, WasHalted, broken_by_device, first_fault}
use Rattle.smk_drive_course.specs.Stands as stands
use Rattle.smk_drive_course.specs.Steps.{AreRemoved, Deed, NoMore}
use Rattle.smk_drive_first.specs.Opening.{AreRules}
use Rattle.smk_laws_moments.proofs.ChildrenOf.{run_more}
use Rattle.smk_laws_turns.specs.Hubs.{IsAt, IsHome, IsKept, IsOurs, Parts}
use Rattle.smk_laws_turns.specs.Turning.{faulted}
use Rattle.smk_laws_turns.proofs.Homes.{home_stays}
use Rattle.smk_laws_turns.proofs.RoomToSpend.{room_to_spend}
use Rattle.smk_laws_turns.specs.Resting.{IsAnswerOf, IsResting, IsSameRun}
use Rattle.smk_laws_begins.specs.Sweeping.{IsFirstSpent, IsLaterPlan, IsSweptShort, IsSweptTo, SweepBegins, SweepBreaks, SweepGoesOn, SweepLacks, SweepMayGoOn, with_live}
use Rattle.smk_laws_begins.proofs.Ending.{first_both, has_fault, some_none}
use Rattle.smk_laws_begins.proofs.Firmly.{children_kept}
use Rattle.smk_laws_begins.proofs.Onto.{kept_then}
use Rattle.smk_laws_begins.proofs.Removing.{children_stay, gone_by, home_then, listed, picked, resting, spent_for}
use Rattle.smk_laws_begins.proofs.Spending.{clear_at, phases_spent, removed_more}
use Rattle.smk_laws_begins.proofs.Staying.{IsFollowed, at_on}

-- where no fault has come, the run goes on from the stand itself
same_stand : (rules : Rules) (entry : World) (s t : Stand) (w : World) (events : List Event) → GoesBy rules entry s w events t → t.halted ≡ None → t ≡ s
same_stand rules entry s t w events (GoesOn clear) none = refl
same_stand rules entry s t w events (IsRefused f unhalted refused) none = has_fault s.halted f none
same_stand rules entry s t w events LacksMemory none = has_fault s.halted fault.OutOfMemory none
same_stand rules entry s t w events (WasHalted was) none = refl

-- a plan that is made anew leaves the faults
faults_stay : (rules : Rules) (s t : Stand) (w : World) → IsReplanned rules s w t → t.halted ≡ s.halted
faults_stay rules s t w (AtRest plan rest force) = refl
faults_stay rules s t w (Between unrested) = refl

nil_more : {A : Type 0} (xs : List A) (x : A) → xs ++ x ∷ [] ≡ [] → ⊥
nil_more [] x h = go h
  where
    go : x ∷ [] ≡ [] → ⊥
    go e = cc
nil_more (y ∷ ys) x h = go h
  where
    go : y ∷ (ys ++ x ∷ []) ≡ [] → ⊥
    go e = cc

module _ (rules : Rules) (entry : World) (h : Parts) (s : Stand) (w : World) (before : List Event) (deeds : List Deed) where
  pub sweep_begins : SweepBegins rules entry h s w before deeds
  sweep_begins at unhalted =
      record {
        stand = s;
        removed = NoMore s w before;
        unhalted = unhalted;
        still = λ none. refl;
        at = subst (λ b. IsAt rules entry h s w b deeds) (sym (append-nil before)) at;
      }

  pub sweep_may_go_on : SweepMayGoOn rules entry h s w before deeds
  sweep_may_go_on live paths es p swept found =
      room_to_spend rules entry (with_live live h) swept.stand (run w es) (before ++ es) deeds p swept.at swept.unhalted
      (picked rules entry (with_live live h) swept.stand (run w es) (before ++ es) deeds swept.at swept.unhalted p found).is_spent

  -- the run stands there after one event more
  stands_there :
      (k : Parts) (t : Stand) (es : List Event) (e : Event) → IsAt rules entry k t (after (run w es) e) (before ++ (es ++ e ∷ [])) deeds →
      IsAt rules entry k t (run w (es ++ e ∷ [])) (before ++ (es ++ e ∷ [])) deeds
  stands_there k t es e at = subst (λ v. IsAt rules entry k t v (before ++ (es ++ e ∷ [])) deeds) (sym (run_more w es (e ∷ []))) at

  -- the stand at which a fault has come keeps what is so of each
  halted_at :
      (k l : Parts) (u t : Stand) (v x : World) (now then_ : List Event) → IsAt rules entry k u v now deeds → IsHome entry x →
      (t.broken ≡ false → IsOurs rules entry k.live.base.jobs.jobs x) → IsFollowed k l u t v x → (f : Fault) → t.halted ≡ Some f →
      IsAt rules entry l t x then_ deeds
  halted_at k l u t v x now then_ at home ours followed f halted =
      at_on rules entry k l u t v x now then_ deeds at followed home ours (λ none. some_none f (sym halted ∙ none)) (λ none. some_none f (sym halted ∙ none))

  pub sweep_lacks : SweepLacks rules entry h s w before deeds
  sweep_lacks live paths es swept =
      let k = with_live live h in
      let unfaulted : h.halt.fault ≡ None = swept.at.halted ∙ swept.unhalted in
      let halted : first_fault swept.stand.halted fault.OutOfMemory ≡ Some fault.OutOfMemory = ap (λ o. first_fault o fault.OutOfMemory) swept.unhalted in
      record {
        last = swept.stand;
        to = stands.halted_by fault.OutOfMemory swept.stand;
        removed = swept.removed;
        goes_by = LacksMemory;
        unhalted = swept.unhalted;
        halted = halted;
        quiet = refl;
        lacking = λ none. refl;
        still = swept.still;
        unfaulted = unfaulted;
        at =
            halted_at k (with_live live (faulted fault.OutOfMemory h)) swept.stand (stands.halted_by fault.OutOfMemory swept.stand) (run w es) (run w es)
            (before ++ es) (before ++ es) swept.at swept.at.home swept.at.ours
            (record {
              alive = swept.at.live;
              settings = refl;
              jobs = refl;
              places = refl;
              begun = refl;
              runs = refl;
              children = refl;
              halted = first_both h.halt.fault swept.stand.halted fault.OutOfMemory unfaulted swept.unhalted;
              waits = or-false h.halt.only_waits ∙ swept.at.waits;
              faulted = λ b none. some_none fault.OutOfMemory (sym halted ∙ none);
            })
            fault.OutOfMemory halted;
      }

  pub sweep_breaks : SweepBreaks rules entry h s w before deeds
  sweep_breaks act live paths es p e swept found called fails follows =
      let k = with_live live h in
      let v = run w es in
      let pick = picked rules entry k swept.stand v (before ++ es) deeds swept.at swept.unhalted p found in
      let unfaulted : h.halt.fault ≡ None = swept.at.halted ∙ swept.unhalted in
      let halted : first_fault swept.stand.halted fault.Device ≡ Some fault.Device = ap (λ o. first_fault o fault.Device) swept.unhalted in
      record {
        paths = paths;
        removing = es;
        failing = e;
        last = swept.stand;
        removed = swept.removed;
        events = refl;
        fails = fails;
        path = p;
        called = called;
        clear = (swept.at.kept swept.unhalted).clear;
        is_spent = pick.is_spent;
        listed = listed rules entry k swept.stand v (before ++ es) deeds swept.at swept.unhalted p found;
        at =
            stands_there (with_live live (faulted fault.Device h)) (broken_by_device swept.stand) es e
            (halted_at k (with_live live (faulted fault.Device h)) swept.stand (broken_by_device swept.stand) v (after v e)
            (before ++ es) (before ++ (es ++ e ∷ [])) swept.at (home_stays act entry v (e ∷ []) follows swept.at.home) (λ whole. absurd (true≢false whole))
            (record {
              alive = swept.at.live;
              settings = refl;
              jobs = refl;
              places = refl;
              begun = refl;
              runs = refl;
              children = children_kept e.call (Remove p) v.children called refl;
              halted = first_both h.halt.fault swept.stand.halted fault.Device unfaulted swept.unhalted;
              waits = or-true h.halt.only_waits;
              faulted = λ b none. some_none fault.Device (sym halted ∙ none);
            })
            fault.Device halted);
      }

  -- ## One is removed

  module _
      (act : Act) (flow : Flow) (settings : Settings) (live later : LivePlan) (paths : List Path) (es : List Event) (p : Path)
      (e : Event) (are : AreRules flow settings rules) (swept : IsSweptTo rules entry h s w before deeds live paths es)
      (found : IsFirstSpent live (Some p)) (done : HasDone (Remove p ∷ []) (e ∷ [])) (follows : Follows act (run w es) (e ∷ []))
      (on : IsLaterPlan live later) where
    abbrev k : Parts
    k = with_live live h

    abbrev v : World
    v = run w es

    abbrev now : List Event
    now = before ++ (es ++ e ∷ [])

    abbrev kept : IsKept rules entry k swept.stand v (before ++ es)
    kept = swept.at.kept swept.unhalted

    abbrev at_rest : IsResting rules (after v e) swept.stand (spent p live.base)
    at_rest = resting rules entry k swept.stand v (before ++ es) deeds swept.at swept.unhalted act p e found done follows

    unfaulted : h.halt.fault ≡ None
    unfaulted = swept.at.halted ∙ swept.unhalted

    home : IsHome entry (after v e)
    home = home_then rules entry k swept.stand v (before ++ es) deeds swept.at swept.unhalted act p e found done follows

    ours : IsOurs rules entry live.base.jobs.jobs (after v e)
    ours = (spent_for rules entry k swept.stand v (before ++ es) deeds swept.at swept.unhalted act p e found done follows).ours

    stays : (after v e).children ≡ v.children
    stays = children_stay rules entry k swept.stand v (before ++ es) deeds swept.at swept.unhalted act p e found done follows

    -- the plan was made anew after the removal
    removed_to : (next : Stand) → IsReplanned rules swept.stand (after v e) next → AreRemoved rules s w before (paths ++ p ∷ []) (es ++ e ∷ []) next
    removed_to next replanned =
        removed_more rules s swept.stand next w before paths es p e swept.removed
        (record {
          clear = clear_at rules swept.stand v (before ++ es) [] kept.clear;
          is_spent = (picked rules entry k swept.stand v (before ++ es) deeds swept.at swept.unhalted p found).is_spent;
          listed = listed rules entry k swept.stand v (before ++ es) deeds swept.at swept.unhalted p found;
          done = done;
          replanned = replanned;
        })

    -- what follows at a stand that has come about
    followed :
        (l : Parts) (t : Stand) → l.live ≡ later → l.places ≡ h.places → IsSameRun swept.stand t → l.halt.fault ≡ t.halted → l.halt.only_waits ≡ t.broken →
        IsFollowed k l swept.stand t v (after v e)
    followed l t is places same halted waits =
        record {
          alive = subst IsLive (sym is) on.alive;
          settings = ap (λ (x : LivePlan). x.settings) is ∙ on.settings;
          jobs = ap (λ (x : LivePlan). x.base.jobs) is ∙ on.jobs;
          places = places;
          begun = same.begun;
          runs = same.runs;
          children = stays;
          halted = halted;
          waits = waits;
          faulted = λ broken none. swept.at.faulted (sym same.broken ∙ broken) swept.unhalted;
        }

    went_on : IsAnswerOf flow settings (spent p live.base) later (Ok tt) → IsSweptTo rules entry h s w before deeds later (paths ++ p ∷ []) (es ++ e ∷ [])
    went_on is_answer =
        let gone = gone_by rules entry k swept.stand v (before ++ es) deeds swept.at swept.unhalted act p e found done follows flow settings later (Ok tt) now are is_answer in
        let told = is_answer.0 in
        let is_next = same_stand rules entry gone.next gone.to (after v e) now gone.goes_by gone.halted in
        record {
          stand = gone.to;
          removed = subst (AreRemoved rules s w before (paths ++ p ∷ []) (es ++ e ∷ [])) (sym is_next) (removed_to gone.next gone.replanned);
          unhalted = gone.halted;
          still = λ none. absurd (nil_more paths p none);
          at =
              stands_there (with_live later h) gone.to es e
              (at_on rules entry k (with_live later h) swept.stand gone.to v (after v e) (before ++ es) now deeds swept.at
              (followed (with_live later h) gone.to refl refl gone.same (unfaulted ∙ sym gone.halted) (swept.at.waits ∙ sym gone.same.broken)) home
              (λ whole. ours) (λ none. swept.at.counted swept.unhalted)
              (λ none.
              kept_then rules entry k swept.stand gone.to v (after v e) (before ++ es) now later kept gone.same stays
              (record {
                plan = gone.plan refl;
                agrees = subst (λ b. IsAgreed (seen rules (after v e)) rules.settings b) (sym told.base_is) at_rest.agrees;
                known = is_answer.2;
                clear = gone.clear refl;
              })
              (subst (λ b. AreAlike (progress_of (after v e) swept.stand.begun) (lives.progress_of b)) (sym told.base_is) at_rest.progressed)
              (ap (λ (b : Base). b.phases) told.base_is ∙ phases_spent p live.base)));
        }

    fell_short :
        (f : Fault) → IsAnswerOf flow settings (spent p live.base) later (Err f) → is_device f ≡ false →
        IsSweptShort rules entry h s w before deeds later (paths ++ p ∷ []) (es ++ e ∷ []) f
    fell_short f is_answer quiet =
        let gone = gone_by rules entry k swept.stand v (before ++ es) deeds swept.at swept.unhalted act p e found done follows flow settings later (Err f) now are is_answer in
        record {
          last = gone.next;
          to = gone.to;
          removed = removed_to gone.next gone.replanned;
          goes_by = subst (λ x. GoesBy rules entry gone.next x now gone.to) (sym (run_more w es (e ∷ []))) gone.goes_by;
          unhalted = faults_stay rules swept.stand gone.next (after v e) gone.replanned ∙ swept.unhalted;
          halted = gone.halted;
          quiet = quiet;
          lacking = λ none. absurd (nil_more paths p none);
          still = λ none. absurd (nil_more paths p none);
          unfaulted = unfaulted;
          at =
              stands_there (with_live later (faulted f h)) gone.to es e
              (halted_at k (with_live later (faulted f h)) swept.stand gone.to v (after v e) (before ++ es) now swept.at home (λ whole. ours)
              (followed (with_live later (faulted f h)) gone.to refl refl gone.same (ap (λ o. Some (or_later o f)) unfaulted ∙ sym gone.halted)
              (ap (λ b. h.halt.only_waits || b) quiet ∙ or-false h.halt.only_waits ∙ swept.at.waits ∙ sym gone.same.broken))
              f gone.halted);
        }

  pub sweep_goes_on : SweepGoesOn rules entry h s w before deeds
  sweep_goes_on act flow settings live later paths es p e (Ok u) are swept found done follows on is_answer quiet =
      went_on act flow settings live later paths es p e are swept found done follows on is_answer
  sweep_goes_on act flow settings live later paths es p e (Err f) are swept found done follows on is_answer quiet =
      fell_short act flow settings live later paths es p e are swept found done follows on f is_answer (quiet f refl)
