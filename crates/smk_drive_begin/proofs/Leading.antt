-- What a sweep leads to.
use Rattle.std.proofs.Common.{◌≡◌, true, false, List, [], ◌∷◌, ◌++◌, refl, sym, subst, None, Result, Ok, Err, append-nil}
use Rattle.smk_world.specs.declared.event.Event.{Event}
use Rattle.smk_world.specs.Requests.{HasDone, IsCutShort}
use Rattle.smk_world.specs.Runs.{Follows}
use Rattle.smk_world.specs.Trees.{Act, Path}
use Rattle.smk_world.specs.World.{World, run}
use Rattle.smk_plan_live.specs.Live.{LivePlan}
use Rattle.smk_report.specs.declared.fault.Fault.{Fault}
use Rattle.smk_report.specs.declared.fault.Fault.TheVariants as fault
use Rattle.smk_drive.specs.Moments.{Rules}
use Rattle.smk_drive_course.specs.Stands.{Stand}
use Rattle.smk_drive_course.specs.Steps.{Deed, MaySpend}
use Rattle.smk_laws_turns.specs.Going.{HasGoneTo}
use Rattle.smk_laws_turns.specs.Hubs.{IsAt, Parts}
use Rattle.smk_laws_turns.specs.Turning.{HasLed, faulted}
use Rattle.smk_laws_turns.proofs.Going.{goes_on_from, rests_there}
use Rattle.smk_laws_begins.specs.Sweeping.{IsSwept, IsSweptShort, IsSweptTo, with_live}
use Rattle.smk_laws_begins.proofs.Ending.{broken_sweep_leads, lacking_sweep_leads, short_sweep_leads, sweep_leads, unsettled_leads}
use Rattle.smk_laws_begins.proofs.Spending.{none_removed}
use Rattle.smk_drive_hub.specs.Keeping.{heeded}
use Rattle.smk_drive_begin.specs.declared.rounds.Round.{Round}
use Rattle.smk_drive_begin.specs.declared.rounds.Round.TheVariants.{Removed, Done, Halted, Broken}
use Rattle.smk_drive_begin.specs.Rounds.{IsRoundOf, answer_by, is_broken, settle_requests}

some_path : (p : Path) (ps : List Path) → p ∷ ps ≡ [] → ⊥
some_path p ps h = cc

no_event : (fs : List Event) → HasDone [] fs → fs ≡ []
no_event [] done = refl
no_event (e ∷ fs) done = absurd done

true_false : true ≡ false → ⊥
true_false h = cc

module _ (rules : Rules) (entry : World) (s : Stand) (w : World) (before : List Event) (deeds : List Deed) where
  -- one step alone
  gone_once : (k : Parts) (es : List Event) → HasLed rules entry k s w before es deeds [] → HasGoneTo rules entry k s w before es deeds []
  gone_once k es led =
      subst (λ xs. HasGoneTo rules entry k s w before xs deeds []) (append-nil es)
      (goes_on_from rules entry k k s w before es [] deeds [] [] led (rests_there rules entry k led.stand (run w es) (before ++ es) (deeds ++ []) led.at))

  -- without any event
  at_none :
      (k : Parts) (es fs : List Event) → es ≡ [] → fs ≡ [] → HasGoneTo rules entry k s w before [] deeds [] → HasGoneTo rules entry k s w before (es ++ fs) deeds []
  at_none k es fs none none_more gone =
      subst (λ xs. HasGoneTo rules entry k s w before (xs ++ fs) deeds []) (sym none) (subst (λ xs. HasGoneTo rules entry k s w before xs deeds []) (sym none_more) gone)

  module _ (act : Act) (h : Parts) (live : LivePlan) (es fs : List Event) (at : IsAt rules entry h s w before deeds) (unhalted : s.halted ≡ None)
      (late : MaySpend rules s w before) (follows : Follows act (run w es) fs) where
    swept_led : (paths : List Path) → IsSweptTo rules entry h s w before deeds live paths es → HasDone (settle_requests paths) fs →
        HasGoneTo rules entry (with_live live h) s w before (es ++ fs) deeds []
    swept_led [] swept done =
        at_none (with_live live h) es fs (none_removed rules s swept.stand w before [] es swept.removed refl) (no_event fs done)
        (subst (λ x. HasGoneTo rules entry (with_live x h) s w before [] deeds []) (sym (swept.still refl)) (rests_there rules entry h s w before deeds at))
    swept_led (p ∷ paths) swept done =
        gone_once (with_live live h) (es ++ fs) (sweep_leads rules entry h s w before deeds act live (p ∷ paths) es fs swept (some_path p paths) late done follows)

    short_led : (paths : List Path) (f : Fault) → IsSweptShort rules entry h s w before deeds live paths es f → HasDone (settle_requests paths) fs →
        HasGoneTo rules entry (with_live live (faulted f h)) s w before (es ++ fs) deeds []
    short_led [] f swept done =
        let none = none_removed rules s swept.last w before [] es swept.removed refl in
        at_none (with_live live (faulted f h)) es fs none (no_event fs done)
        (gone_once (with_live live (faulted f h)) []
        (lacking_sweep_leads rules entry h s w before deeds live f at unhalted
        (subst (λ xs. IsSweptShort rules entry h s w before deeds live [] xs f) none swept)))
    short_led (p ∷ paths) f swept done =
        gone_once (with_live live (faulted f h)) (es ++ fs)
        (short_sweep_leads rules entry h s w before deeds act live (p ∷ paths) es fs f swept (some_path p paths) late done follows)

    unsettled_led :
        (paths : List Path) (answer : Result (Unit {0}) Fault) → IsSwept rules entry h s w before deeds live paths es answer →
        (gs : List Event) → gs ≡ fs → IsCutShort (settle_requests paths) gs →
        HasGoneTo rules entry (with_live live (faulted fault.Device h)) s w before (es ++ gs) deeds []
    unsettled_led [] answer swept gs same cut = absurd cut
    unsettled_led (p ∷ paths) answer swept [] same cut = absurd cut
    unsettled_led (p ∷ paths) answer swept (e ∷ []) same cut =
        gone_once (with_live live (faulted fault.Device h)) (es ++ e ∷ [])
        (unsettled_leads rules entry h s w before deeds act live (p ∷ paths) es e answer swept (some_path p paths) late cut.0 cut.1
        (subst (Follows act (run w es)) (sym same) follows))
    unsettled_led (p ∷ paths) answer swept (e ∷ (f ∷ gs)) same cut = absurd cut.2

    -- removals were made firm
    pub firm_leads :
        (paths : List Path) (round : Round) → is_broken round ≡ false → IsRoundOf rules entry h s w before deeds live paths round es →
        HasDone (settle_requests paths) fs → HasGoneTo rules entry (heeded (answer_by round) (with_live live h)) s w before (es ++ fs) deeds []
    firm_leads paths Removed whole swept done = swept_led paths swept done
    firm_leads paths Done whole swept done = swept_led paths swept done
    firm_leads paths (Halted f) whole swept done = short_led paths f swept done
    firm_leads paths Broken whole swept done = absurd (true_false whole)

    -- the call failed that was to make them so
    pub unfirm_leads :
        (paths : List Path) (round : Round) → is_broken round ≡ false → IsRoundOf rules entry h s w before deeds live paths round es →
        IsCutShort (settle_requests paths) fs → HasGoneTo rules entry (heeded (Err fault.Device) (with_live live h)) s w before (es ++ fs) deeds []
    unfirm_leads paths Removed whole swept cut = unsettled_led paths (Ok tt) swept fs refl cut
    unfirm_leads paths Done whole swept cut = unsettled_led paths (Ok tt) swept fs refl cut
    unfirm_leads paths (Halted f) whole swept cut = unsettled_led paths (Err f) swept fs refl cut
    unfirm_leads paths Broken whole swept cut = absurd (true_false whole)

  -- a call had failed before
  pub broken_leads :
      (h : Parts) (live : LivePlan) (es : List Event) (paths : List Path) (round : Round) → MaySpend rules s w before → is_broken round ≡ true →
      IsRoundOf rules entry h s w before deeds live paths round es → HasGoneTo rules entry (heeded (Err fault.Device) (with_live live h)) s w before es deeds []
  broken_leads h live es paths Removed late broken swept = absurd (true_false (sym broken))
  broken_leads h live es paths Done late broken swept = absurd (true_false (sym broken))
  broken_leads h live es paths (Halted f) late broken swept = absurd (true_false (sym broken))
  broken_leads h live es paths Broken late broken swept =
      gone_once (with_live live (faulted fault.Device h)) es (broken_sweep_leads rules entry h s w before deeds live es swept late)
