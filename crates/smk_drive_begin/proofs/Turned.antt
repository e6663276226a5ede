-- A sweep is a turn of the run.
use Rattle.std.proofs.Common.{◌≡◌, Bool, true, false, List, [], sym, subst, ◌∙◌, None, Err}
use Rattle.smk_world.specs.declared.event.Event.{Event}
use Rattle.smk_world.specs.Devices.{Device, HasActed, HasCarried, WhereTold}
use Rattle.smk_world.specs.Requests.{Carries}
use Rattle.smk_world.specs.Trees.{Act, Path}
use Rattle.smk_world.specs.World.{World}
use Rattle.smk_world.proofs.Devices.{acted_as, acted_then}
use Rattle.smk_flow.specs.Flows.{Flow}
use Rattle.smk_pick.specs.declared.settings.Settings.{Settings}
use Rattle.smk_plan_live.specs.Live.{LivePlan}
use Rattle.smk_report.specs.declared.fault.Fault.TheVariants as fault
use Rattle.smk_drive.specs.Moments.{Rules}
use Rattle.smk_drive_course.specs.Stands.{Stand}
use Rattle.smk_drive_course.specs.Steps.{Deed, MaySpend}
use Rattle.smk_laws_turns.specs.Hubs.{IsAt, Parts}
use Rattle.smk_laws_begins.specs.Sweeping.{with_live}
use Rattle.smk_drive_hub.specs.Keeping.{heeded}
use Rattle.smk_drive_hub.specs.Turned.{LeadOn, WhereUnhalted}
use Rattle.smk_drive_begin.specs.declared.rounds.Round.{Round}
use Rattle.smk_drive_begin.specs.Rounds.{SweepsOn, answer_by, is_broken, settle_requests}
use Rattle.smk_drive_begin.proofs.Leading.{broken_leads, firm_leads, unfirm_leads}

-- ## What holds where the world is told

-- with what is so of the world before
acted_told :
    (act : Act) (P : World → List Event → Type 0) (T : World → Type 0) (a b : Device) (f : Bool) → HasActed act P a b f → WhereTold a T → HasActed act (λ w es. P w es × T w) a b f
acted_told act P T a b f h t =
    record {
      did = λ w1 e. let d = h.did w1 e in (d.0, d.1, (d.2.0, d.2.1, (d.2.2, t d.0 d.1), d.2.3));
      stays = h.stays;
      cause = h.cause;
      running = h.running;
      children = h.children;
    }

module _ (act : Act) (flow : Flow) (settings : Settings) (h : Parts) (unhalted : h.halt.fault ≡ None) where
  -- where outputs may be spent
  abbrev pub Late : World → Type 0
  Late w = WhereUnhalted MaySpend flow settings h w

  abbrev pub Leads : Parts → World → List Event → Type 0
  Leads k w es = LeadOn flow settings h k [] w es

  none_came : (rules : Rules) (entry : World) (s : Stand) (w : World) (before : List Event) (deeds : List Deed) → IsAt rules entry h s w before deeds → s.halted ≡ None
  none_came rules entry s w before deeds at = sym at.halted ∙ unhalted

  module _ (live : LivePlan) (paths : List Path) (round : Round) (a b : Device)
      (acted : HasActed act (SweepsOn flow settings h live paths round) a b (is_broken round)) (late : WhereTold a Late) where
    whole_acted : is_broken round ≡ false → HasActed act (λ w es. SweepsOn flow settings h live paths round w es × Late w) a b false
    whole_acted whole = subst (HasActed act (λ w es. SweepsOn flow settings h live paths round w es × Late w) a b) whole
        (acted_told act (SweepsOn flow settings h live paths round) Late a b (is_broken round) acted late)

    pub firm_acted : (c : Device) → is_broken round ≡ false → HasCarried act (settle_requests paths) b c false →
        HasActed act (Leads (heeded (answer_by round) (with_live live h))) a c false
    firm_acted c whole carried =
        acted_then act (λ w es. SweepsOn flow settings h live paths round w es × Late w) (λ w es. Carries (settle_requests paths) true es)
        (Leads (heeded (answer_by round) (with_live live h))) a b c false
        (λ w es fs follows x more done. λ rules entry s before deeds are at.
        let none = none_came rules entry s w before deeds at in
        firm_leads rules entry s w before deeds act h live es fs at none (x.1 rules entry s before deeds are at none) more paths round whole
        (x.0 rules entry s before deeds are at none) done)
        (whole_acted whole) carried.acted

    pub unfirm_acted : (c : Device) → is_broken round ≡ false → HasCarried act (settle_requests paths) b c true →
        HasActed act (Leads (heeded (Err fault.Device) (with_live live h))) a c true
    unfirm_acted c whole carried =
        acted_then act (λ w es. SweepsOn flow settings h live paths round w es × Late w) (λ w es. Carries (settle_requests paths) false es)
        (Leads (heeded (Err fault.Device) (with_live live h))) a b c true
        (λ w es fs follows x more cut. λ rules entry s before deeds are at.
        let none = none_came rules entry s w before deeds at in
        unfirm_leads rules entry s w before deeds act h live es fs at none (x.1 rules entry s before deeds are at none) more paths round whole
        (x.0 rules entry s before deeds are at none) cut)
        (whole_acted whole) carried.acted

    pub broken_acted : is_broken round ≡ true → HasActed act (Leads (heeded (Err fault.Device) (with_live live h))) a b true
    broken_acted broken =
        acted_as act (λ w es. SweepsOn flow settings h live paths round w es × Late w) (Leads (heeded (Err fault.Device) (with_live live h))) a b (is_broken round) true
        broken
        (λ w es x. λ rules entry s before deeds are at.
        let none = none_came rules entry s w before deeds at in
        broken_leads rules entry s w before deeds h live es paths round (x.1 rules entry s before deeds are at none) broken (x.0 rules entry s before deeds are at none))
        (acted_told act (SweepsOn flow settings h live paths round) Late a b (is_broken round) acted late)
