-- Where each target has a clean value no job fails in a run that comes to its end.
use Rattle.std.proofs.Common.{◌≡◌, inl, inr, ℕ, List, [], ◌∷◌, ◌++◌, refl, sym, ap, subst, ◌∙◌, Option, None, Ok, append_assoc, append-nil, is_none}
use Rattle.std.proofs.lemmas.Option.{same_Some}
use Rattle.smk_world.specs.declared.event.Event.{Event}
use Rattle.smk_world.specs.World.{World, after, run}
use Rattle.smk_world.specs.Calls.{Rose}
use Rattle.smk_world.specs.Runs.{Follows}
use Rattle.smk_world.specs.Trees.{Act, IsIn, first}
use Rattle.smk_world.proofs.Names.{formed_run}
use Rattle.smk_flow.specs.Flows.{Flow}
use Rattle.smk_record.specs.declared.record.Record.{Record}
use Rattle.smk_record.specs.Spelling.{ReadsRecords}
use Rattle.smk_store.specs.Images as images
use Rattle.smk_store.specs.Soundness.{Outside, SoundWorld}
use Rattle.smk_store.specs.Trust.{SumsDiffer, Versions}
use Rattle.smk_chain.specs.Mean.{setting_of}
use Rattle.smk_laws_complete.specs.Derived.{AllHaveValues, GathersAlone}
use Rattle.smk_laws_protocol.specs.Midway.{IsTop}
use Rattle.smk_safe.proofs.Done.{follows_split}
use Rattle.smk_run.specs.Statuses.{AreGiven}
use Rattle.smk_drive.specs.Moments.{Rules, seen}
use Rattle.smk_drive_course.specs.declared.ending.End.{End}
use Rattle.smk_drive_course.specs.Reports.{deed_faults, failures}
use Rattle.smk_drive_course.specs.Stands.{Stand, first_stand}
use Rattle.smk_drive_course.specs.Steps.{Deed}
use Rattle.smk_drive_course.specs.Breaks.{Done, Step, Steps, Then}
use Rattle.smk_drive_course.specs.Driven.{HasEndedWell, IsRun}
use Rattle.smk_laws_moments.specs.Courses.{IsHaltedIfBroken}
use Rattle.smk_laws_moments.proofs.ChildrenOf.{run_more}
use Rattle.smk_laws_moments.proofs.Fates.{IsKept}
use Rattle.smk_laws_turns.specs.Following.{IsReached}
use Rattle.smk_laws_driven.specs.Succeeding.{DrivenSucceeds}
use Rattle.smk_laws_driven.proofs.Lasting.{WasClear, answer_broken, start_clear, step_broken, step_clear, unhalted_step}
use Rattle.smk_laws_driven.proofs.Listed.{IsListedWell, next_well, start_well}
use Rattle.smk_laws_driven.proofs.Reaching as reaching
use Rattle.smk_laws_driven.proofs.Reaching.{unhalted_before}
use Rattle.smk_laws_driven.proofs.Safe.{led}
use Rattle.smk_laws_driven.proofs.Stepping as stepping

-- ## Lists of events and deeds

given_split :
    (act : Act) (rose : Type 0) (w : World) (es fs : List Event) → AreGiven act rose w (es ++ fs) → AreGiven act rose w es × AreGiven act rose (run w es) fs
given_split act rose w [] fs h = (tt, h)
given_split act rose w (e ∷ es) fs h = let more = given_split act rose (after w e) es fs h.1 in ((h.0, more.0), more.1)

failures_more : (flow : Flow) (ds more : List Deed) → failures flow (ds ++ more) ≡ failures flow ds ++ failures flow more
failures_more flow [] more = refl
failures_more flow (d ∷ ds) more =
    ap (λ fs. deed_faults flow d ++ fs) (failures_more flow ds more) ∙ sym (append_assoc (deed_faults flow d) (failures flow ds) (failures flow more))

run_log : (w : World) (es : List Event) → (run w es).log ≡ w.log ++ es
run_log w [] = sym (append-nil w.log)
run_log w (e ∷ es) = run_log (after w e) es ∙ append_assoc w.log (e ∷ []) es

cancel : (xs ys zs : List Event) → xs ++ ys ≡ xs ++ zs → ys ≡ zs
cancel [] ys zs h = h
cancel (x ∷ xs) ys zs h = cancel xs ys zs (tail_of x (xs ++ ys) (xs ++ zs) h)
  where
    tail_of : (x : Event) (a b : List Event) → x ∷ a ≡ x ∷ b → a ≡ b
    tail_of x a b e = cc

same_events : (w : World) (es fs : List Event) → run w es ≡ run w fs → es ≡ fs
same_events w es fs h = cancel w.log es fs (sym (run_log w es) ∙ (ap (λ (v : World). v.log) h ∙ run_log w fs))

none_in : {A : Type 0} (xs : List A) (x : A) → xs ≡ [] → IsIn xs x → ⊥
none_in xs x none i = subst (λ ys. IsIn ys x) none i

module _ (act : Act) (rules : Rules) (entry : World) (H : Versions) (reads : ReadsRecords rules.read) (differ : SumsDiffer H)
    (sound : SoundWorld (record { read = rules.read; act = act }) entry H) (alone : GathersAlone rules.flow)
    (values : AllHaveValues (setting_of rules.flow act (λ j. is_none (rules.missing j)) (seen rules entry)) rules.settings.targets) (rose : Type 0) (never : ¬ rose) where
  abbrev o : Outside
  o = record { read = rules.read; act = act }

  abbrev top : ℕ
  top = reaching.top act rules entry H reads differ sound

  is_top : IsTop o entry top
  is_top = reaching.is_top act rules entry H reads differ sound

  abbrev Fed : Stand → World → Type 0
  Fed s w = stepping.IsFed act rules entry H reads differ sound alone values rose never s w

  -- ## One step

  module _ (before es : List Event) (s t : Stand) (deeds : List Deed) (step : Step rules entry s (run entry before) before es deeds t)
      (at : IsReached o rules entry top before s) (fed : Fed s (run entry before)) (follows : Follows act (run entry before) es)
      (given : AreGiven act rose (run entry before) es) (was : IsHaltedIfBroken s) (none : t.halted ≡ None) where
    abbrev w : World
    w = run entry before

    well_next : IsListedWell act rules entry H reads differ sound t (run w es)
    well_next = next_well act rules entry H reads differ sound before es s t deeds step at fed.well fed.clear follows was none

    clear_next : WasClear act rules entry t (run w es)
    clear_next = step_clear act rules entry s t w before es deeds step (formed_run entry before sound.formed) follows was none

    next_fed : Fed t (run w es) × (failures rules.flow deeds ≡ [])
    next_fed = elim (unhalted_step act rules entry s t w before es deeds step was none) [
      | inl h ↦ (
        stepping.begun_fed act rules entry H reads differ sound alone values rose never before s at fed es deeds t h well_next clear_next,
        stepping.begun_faults act rules entry H reads differ sound alone values rose never before s at fed es deeds t h,
      )
      | inr (inl h) ↦ (
        stepping.closed_fed act rules entry H reads differ sound alone values rose never before s at fed es deeds t h follows given well_next clear_next,
        stepping.closed_faults act rules entry H reads differ sound alone values rose never before s at fed es deeds t h follows given,
      )
      | inr (inr h) ↦ (
        stepping.spent_fed act rules entry H reads differ sound alone values rose never before s at fed es deeds t h follows well_next clear_next,
        stepping.spent_faults act rules entry H reads differ sound alone values rose never before s at fed es deeds t h follows,
      )
    ]

  -- ## All steps

  all_well :
      (s t : Stand) (w : World) (before es : List Event) (deeds : List Deed) → Steps rules entry s w before es deeds t → w ≡ run entry before →
      IsReached o rules entry top before s → Fed s w → Follows act w es → AreGiven act rose w es → IsHaltedIfBroken s → t.halted ≡ None →
      failures rules.flow deeds ≡ []
  all_well s t w before es deeds (Done s1 w1 before1) world at fed follows given was none = refl
  all_well s t w before es deeds (Then s1 t1 u1 w1 before1 es1 fs ds more step steps) world at fed follows given was none =
      let f = follows_split act w1 es1 fs follows in
      let g = given_split act rose w1 es1 fs given in
      let here : Step rules entry s1 (run entry before1) before1 es1 ds t1 = subst (λ v. Step rules entry s1 v before1 es1 ds t1) world step in
      let follows_here : Follows act (run entry before1) es1 = subst (λ v. Follows act v es1) world f.0 in
      let given_now : AreGiven act rose (run entry before1) es1 = subst (λ v. AreGiven act rose v es1) world g.0 in
      let fed_here : Fed s1 (run entry before1) = subst (Fed s1) world fed in
      let calm : t1.halted ≡ None = unhalted_before rules entry t1 u1 (run w1 es1) (before1 ++ es1) fs more steps none in
      let next = next_fed before1 es1 s1 t1 ds here at fed_here follows_here given_now was calm in
      let there : run w1 es1 ≡ run entry (before1 ++ es1) = ap (λ v. run v es1) world ∙ sym (run_more entry before1 es1) in
      let fed_next : Fed t1 (run w1 es1) = subst (λ v. Fed t1 (run v es1)) (sym world) next.0 in
      let rest =
      all_well t1 u1 (run w1 es1) (before1 ++ es1) fs more steps there
      (reaching.next_reached act rules entry H reads differ sound before1 es1 s1 t1 ds here at follows_here) fed_next f.1 g.1
      (step_broken act rules entry s1 t1 w1 before1 es1 ds step was) none in
      failures_more rules.flow ds more ∙ (λ i. next.1 i ++ rest i)

  -- ## A run

  module _ (told : Option End) (end : End) (deeds : List Deed) (log : List Event) (r : IsRun rules told (Ok end) deeds entry log) (follows : Follows act entry log)
      (given : AreGiven act rose entry log) where
    abbrev well : HasEndedWell rules (run entry log) log deeds r.last end
    well = r.answer.1

    parts : Follows act entry r.opening × Follows act (run entry r.opening) r.rest
    parts = reaching.parts act rules entry H reads differ sound told (Ok end) deeds log r follows

    start_unhalted : r.start.halted ≡ None
    start_unhalted = reaching.start_unhalted act rules entry H reads differ sound told (Ok end) deeds log r follows well.unhalted

    start_kept : IsKept (first_stand r.plan) r.start
    start_kept = reaching.start_kept act rules entry H reads differ sound told (Ok end) deeds log r follows

    start_reached : IsReached o rules entry top r.opening r.start
    start_reached = reaching.start_reached act rules entry H reads differ sound told (Ok end) deeds log r follows

    pub none_failed : end.first ≡ None
    none_failed =
        well.told.first_one
        ∙ ap first
        (all_well r.start r.last (run entry r.opening) r.opening r.rest deeds r.steps refl start_reached
        (record {
          fed = λ g i. absurd (none_in r.start.runs g start_kept.runs i);
          well = start_well act rules entry H reads differ sound told (Ok end) deeds log r follows;
          clear = start_clear act rules entry told (Ok end) deeds log r sound.formed parts.0 start_unhalted;
        })
        parts.1 (given_split act rose entry r.opening r.rest (subst (AreGiven act rose entry) r.events given)).1
        (answer_broken act rules entry r.opened (first_stand r.plan) r.start entry [] r.goes_by refl) well.unhalted)

pub driven_succeeds : DrivenSucceeds
driven_succeeds o rules H end w v old new p q at at_v reader reads differ sound alone values never h =
    let to : record { read = rules.read; act = o.act } ≡ o = λ i. record { read = reader i; act = o.act } in
    let l = led o rules H (Ok end) w v old new p q at at_v reader reads differ sound h in
    let g = h.given v at_v in
    let here = same_Some g.0 w (sym g.1 ∙ at) in
    let same : l.events ≡ g.2.0 = same_events w l.events g.2.0 (sym l.is ∙ (g.2.3 ∙ ap (λ x. run x g.2.0) here)) in
    let given : AreGiven o.act (Rose old.faults new.faults) w l.events =
    subst (AreGiven o.act (Rose old.faults new.faults) w) (sym same)
    (subst (λ x. AreGiven o.act (Rose old.faults new.faults) x g.2.0) here g.2.2) in
    none_failed o.act rules w H (subst ReadsRecords (sym reader) reads) differ (subst (λ x. SoundWorld x w H) (sym to) sound) alone
    (subst (λ (read : List ℕ → Option Record). AllHaveValues (setting_of rules.flow o.act (λ j. is_none (rules.missing j)) (images.seen read w)) rules.settings.targets)
    (sym reader) values)
    (Rose old.faults new.faults) never h.told end h.deeds l.events l.ran l.follows given
