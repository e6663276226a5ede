-- In a run from a sound folder the listings of the plans in force tell the files of clean values, wherever a job gathers them.
use Rattle.std.proofs.Common.{◌≡◌, inl, inr, ℕ, true, List, [], ◌∷◌, ◌++◌, map, refl, sym, ap, subst, ◌∙◌, Option, Some, None, option_map, Result, Ok, Err, Bool}
use Rattle.smk_world.specs.declared.event.Event.{Event}
use Rattle.smk_world.specs.World.{World, IsFormed, after, reading, run}
use Rattle.smk_world.specs.Runs.{Follows}
use Rattle.smk_world.specs.Trees.{Act, IsIn, Path}
use Rattle.smk_world.proofs.Names.{formed_run}
use Rattle.smk_record.specs.Spelling.{ReadsRecords}
use Rattle.smk_flow.specs.declared.job.Job.{Job}
use Rattle.smk_flow.specs.Flows.{Flow}
use Rattle.smk_store.specs.Images.{Content, Image, source_at}
use Rattle.smk_store.specs.Soundness.{Outside, SameSources, Sound, SoundWorld, told}
use Rattle.smk_store.specs.Trust.{SumsDiffer, Versions}
use Rattle.smk_chain.specs.Derive.{sources_of}
use Rattle.smk_chain.specs.Mean.{Setting, setting_of}
use Rattle.smk_plan.specs.States.{LastPlan, Plan, Progress, is_restored}
use Rattle.smk_laws_plan.specs.Current.{IsComplete, eased_by}
use Rattle.smk_laws_plan.proofs.CurrentProducts.{Planned}
use Rattle.smk_laws_history.proofs.CurrentComplete.{seen_is_complete}
use Rattle.smk_laws_history.proofs.CurrentLaw.{last_is}
use Rattle.smk_laws_history.proofs.CurrentReads.{sources_alike}
use Rattle.smk_laws_history.proofs.Valid.{records_valid}
use Rattle.smk_laws_complete.specs.Listed.{AreMeant, all_known}
use Rattle.smk_laws_complete.proofs.Fewer.{sound_fewer}
use Rattle.smk_laws_complete.proofs.Meant.{listings_stay_meant}
use Rattle.smk_laws_protocol.specs.Protocol.{eased}
use Rattle.smk_laws_protocol.specs.Midway.{Midway}
use Rattle.smk_laws_protocol.proofs.MidwayHolds.{holds_midway}
use Rattle.smk_safe.proofs.Done.{follows_split}
use Rattle.smk_keep.specs.declared.fault.KeepFault.{KeepFault}
use Rattle.smk_keep.specs.declared.fault.KeepFault.TheVariants.{Device, OutOfMemory}
use Rattle.smk_report.specs.declared.fault.Fault.{Fault}
use Rattle.smk_drive.specs.Moments.{IsInForce, Rules, is_spent_now, lists_of, progress_of, seen}
use Rattle.smk_drive_course.specs.declared.ending.End.{End}
use Rattle.smk_drive_course.specs.Stands.{AtRest, Between, GoesBy, GoesOn, IsClear, IsRefused, IsReplanned, LacksMemory, Stand, WasHalted, first_stand, lists, moment_of}
use Rattle.smk_drive_course.specs.Steps.{AreRemoved, Deed, GoesByAnswer, IsAsListed, NoMore, OneMore}
use Rattle.smk_drive_course.specs.Breaks.{Done, Step, Steps, Then}
use Rattle.smk_drive_course.specs.Driven.{IsRun}
use Rattle.smk_laws_moments.specs.Courses.{HasChildren, IsHaltedIfBroken, child_of}
use Rattle.smk_laws_moments.proofs.ChildrenOf.{at_start, run_more}
use Rattle.smk_laws_moments.proofs.Fates.{begun_stand, ended_stand, replanned_kept}
use Rattle.smk_laws_moments.proofs.QuietCalls.{IsQuiet, quiet_children}
use Rattle.smk_laws_moments.proofs.Planned.{derived_are_planned, midway_keeps_sources}
use Rattle.smk_laws_turns.specs.Following.{IsReached}
use Rattle.smk_laws_driven.proofs.Lasting.{WasClear, answer_broken, clear_force, start_clear, step_broken, step_clear, unhalted_step}
use Rattle.smk_laws_driven.proofs.Once.{begun_once, ended_once, kept_once, spent_once}
use Rattle.smk_laws_driven.proofs.Reaching.{is_top, next_children, next_reached, parts, start_kept, start_reached, start_unhalted, top, unhalted_before}
use Rattle.smk_laws_driven.proofs.Restored.{IsOnce, eased_so}
use Rattle.smk_laws_driven.proofs.SoundNow.{sound_now}
use Rattle.smk_laws_driven.proofs.Spending.{one_reached}

-- ## The same sources

bytes_told : (o : Option Content) → option_map (λ (f : Content). f.bytes) o ≡ option_map (λ (t : List ℕ × ℕ). t.0) (option_map told o)
bytes_told None = refl
bytes_told (Some f) = refl

-- complete images with the same sources give the same setting
pub same_setting :
    (flow : Flow) (act : Act) (has_fields : Job → Bool) (a b : Image) → IsComplete a → IsComplete b → SameSources a b →
    setting_of flow act has_fields a ≡ setting_of flow act has_fields b
same_setting flow act has_fields a b in_a in_b same =
    let srcs : sources_of a ≡ sources_of b = sources_alike a b in_a in_b same in
    let bytes : (p : Path) → option_map (λ (f : Content). f.bytes) (source_at a p) ≡ option_map (λ (f : Content). f.bytes) (source_at b p) =
    λ p. bytes_told (source_at a p) ∙ (ap (option_map (λ (t : List ℕ × ℕ). t.0)) (sym (same p)) ∙ sym (bytes_told (source_at b p))) in
    λ i. record { flow = flow; act = act; has_fields = has_fields; sources = srcs i; bytes = λ p. bytes p i }

none_in : {A : Type 0} (xs : List A) (x : A) → xs ≡ [] → IsIn xs x → ⊥
none_in xs x none i = subst (λ ys. IsIn ys x) none i

module _ (act : Act) (rules : Rules) (entry : World) (H : Versions) (reads : ReadsRecords rules.read) (differ : SumsDiffer H)
    (sound : SoundWorld (record { read = rules.read; act = act }) entry H) where
  abbrev o : Outside
  o = record { read = rules.read; act = act }

  abbrev first_top : ℕ
  first_top = top act rules entry H reads differ sound

  -- the workflow from the sources that the run found, where each field of a command has a value
  abbrev pub S : Setting
  S = setting_of rules.flow act all_known (seen rules entry)

  abbrev targets : List Path
  targets = rules.settings.targets

  -- What holds at a stand: of jobs of one name just one has begun; the children are those of the stand; and the listings of the plans before are meant.
  pub record IsListedWell (s : Stand) (w : World) : Type 0 where
    pub once : IsOnce s
    pub children : HasChildren s w
    pub meant : AreMeant S s.from targets

  -- ## The plan in force

  module _ (before : List Event) (s : Stand) (at : IsReached o rules entry first_top before s) (well : IsListedWell s (run entry before))
      (force : IsInForce rules (run entry before) s.begun s.from s.plan) where
    abbrev w : World
    w = run entry before

    abbrev image : Image
    image = seen rules w

    abbrev progress : Progress
    progress = progress_of w s.begun

    formed : IsFormed w
    formed = formed_run entry before sound.formed

    here : Midway o entry H at.state w
    here = holds_midway o entry H first_top before at.state differ sound (is_top act rules entry H reads differ sound) at.come.follows at.come.runs

    setting_now : S ≡ setting_of rules.flow act all_known image
    setting_now =
        same_setting rules.flow act all_known (seen rules entry) image (seen_is_complete rules.read entry sound.formed) (seen_is_complete rules.read w formed)
        (midway_keeps_sources o rules entry H at.state w refl here)

    module _ (plan : Plan) (is : s.plan ≡ Some plan) where
      last : LastPlan rules.flow image rules.settings progress s.from plan
      last = subst (IsInForce rules w s.begun s.from) is force

      planned : Planned rules.flow image rules.settings progress plan
      planned =
          record {
            complete = seen_is_complete rules.read w formed;
            valid = records_valid rules.read w.names (λ q. reading (w.nodes q));
            derived = last_is rules.flow image rules.settings progress s.from plan last;
          }

      sound_so : Sound act H image (eased_by image (is_restored image rules.settings progress plan))
      sound_so =
          sound_fewer image (eased_by image (is_restored image rules.settings progress plan)) (eased at.state)
          (eased_so act rules entry w H s at.state plan here at.is_state (derived_are_planned rules entry s sound.formed at.derived) well.children well.once is
          planned)
          act H
          (sound_now o entry H first_top before at.state differ sound (is_top act rules entry H reads differ sound) at.come.follows at.come.runs)

      plan_meant : AreMeant S plan.lists targets
      plan_meant =
          subst (λ T. AreMeant T plan.lists targets) (sym setting_now)
          (listings_stay_meant rules.flow act image H rules.settings progress s.from plan
          (record {
            complete = planned.complete;
            valid = planned.valid;
            differ = differ;
            last = last;
            sound = sound_so;
            meant = subst (λ T. AreMeant T s.from targets) setting_now well.meant;
          }))

    -- all listings so far are meant
    pub all_meant : AreMeant S (lists s) targets
    all_meant = go s.plan refl
      where
        go : (x : Option Plan) → s.plan ≡ x → AreMeant S (lists_of x s.from) targets
        go None is = well.meant
        go (Some plan) is = plan_meant plan is

  -- ## From one plan to the next

  replanned_meant : (s t : Stand) (w : World) → IsReplanned rules s w t → AreMeant S s.from targets → AreMeant S (lists s) targets → AreMeant S t.from targets
  replanned_meant s t w (AtRest plan rest force) before all = all
  replanned_meant s t w (Between rest) before all = before

  goes_meant : (s t : Stand) (w : World) (events : List Event) → GoesBy rules entry s w events t → AreMeant S s.from targets → AreMeant S t.from targets
  goes_meant s t w events (GoesOn clear) meant = meant
  goes_meant s t w events (IsRefused f unhalted refused) meant = meant
  goes_meant s t w events LacksMemory meant = meant
  goes_meant s t w events (WasHalted was) meant = meant

  answer_meant :
      (answer : Result (Unit {0}) KeepFault) (s t : Stand) (w : World) (events : List Event) → GoesByAnswer rules entry answer s w events t →
      AreMeant S s.from targets → AreMeant S t.from targets
  answer_meant (Ok u) s t w events h meant = goes_meant s t w events h meant
  answer_meant (Err OutOfMemory) s t w events h meant = subst (λ L. AreMeant S L targets) (sym (ap (λ (x : Stand). x.from) h)) meant
  answer_meant (Err Device) s t w events h meant = subst (λ L. AreMeant S L targets) (sym (ap (λ (x : Stand). x.from) h)) meant

  removed_meant :
      (s t : Stand) (w : World) (before : List Event) (paths : List Path) (es : List Event) → AreRemoved rules s w before paths es t → w ≡ run entry before →
      IsReached o rules entry first_top before s → IsListedWell s w → Follows act w es → AreMeant S t.from targets
  removed_meant s t w before paths es (NoMore s1 w1 before1) world at well follows = well.meant
  removed_meant s t w before paths es (OneMore s1 t1 u1 w1 before1 p ps e es1 clear spent listed done plans rest) world at well follows =
      let clear_here : IsClear rules s1 (run entry before1) before1 = subst (λ v. IsClear rules s1 v before1) world clear in
      let spent_here : is_spent_now rules (moment_of s1 (run entry before1) before1) p ≡ true =
      subst (λ v. is_spent_now rules (moment_of s1 v before1) p ≡ true) world spent in
      let listed_here : IsAsListed (seen rules (run entry before1)) p = subst (λ v. IsAsListed (seen rules v) p) world listed in
      let follows_here : Follows act (run entry before1) (e ∷ []) = subst (λ v. Follows act v (e ∷ [])) world (follows.0, tt) in
      let plans_here : IsReplanned rules s1 (after (run entry before1) e) t1 = subst (λ v. IsReplanned rules s1 (after v e) t1) world plans in
      let well_here : IsListedWell s1 (run entry before1) = subst (IsListedWell s1) world well in
      let there : after w1 e ≡ run entry (before1 ++ e ∷ []) = ap (λ v. after v e) world ∙ sym (run_more entry before1 (e ∷ [])) in
      let next =
      one_reached act rules entry H first_top differ sound (is_top act rules entry H reads differ sound) before1 s1 at p clear_here spent_here listed_here e t1
      done follows_here plans_here in
      let kept = replanned_kept rules s1 t1 (after w1 e) plans in
      removed_meant t1 u1 (after w1 e) (before1 ++ e ∷ []) ps es1 rest there next
      (record {
        once = kept_once s1 t1 kept well.once;
        children = quiet_children e.call w1.children (subst IsQuiet (sym done.0) tt) ∙ (well.children ∙ ap (λ gs. map child_of gs) (sym kept.runs));
        meant = replanned_meant s1 t1 (after w1 e) plans well.meant (all_meant before1 s1 at well_here clear_here.planned);
      })
      follows.1

  -- ## One step

  module _ (before es : List Event) (s t : Stand) (deeds : List Deed) (step : Step rules entry s (run entry before) before es deeds t)
      (at : IsReached o rules entry first_top before s) (well : IsListedWell s (run entry before)) (clear : WasClear act rules entry s (run entry before))
      (follows : Follows act (run entry before) es) (was : IsHaltedIfBroken s) (none : t.halted ≡ None) where
    abbrev v : World
    v = run entry before

    so_far : AreMeant S (lists s) targets
    so_far = all_meant before s at well (clear_force act rules entry s v clear)

    pub next_well : IsListedWell t (run v es)
    next_well = elim (unhalted_step act rules entry s t v before es deeds step was none) [
      | inl h ↦ record {
        once = begun_once rules entry s t v before es deeds well.once h;
        children = next_children act rules entry H reads differ sound before es s t deeds step well.children;
        meant =
            goes_meant h.next t (run v es) (before ++ es) h.goes_by
            (replanned_meant (begun_stand rules entry s v before h.job h.going) h.next (run v es) h.replanned well.meant so_far);
      }
      | inr (inl h) ↦ record {
        once = ended_once rules entry s t v before es deeds well.once h;
        children = next_children act rules entry H reads differ sound before es s t deeds step well.children;
        meant =
            answer_meant h.answer h.next t _ _ h.goes_by
            (replanned_meant (ended_stand rules entry s v h.going h.ended h.left) h.next _ h.replanned well.meant so_far);
      }
      | inr (inr h) ↦ record {
        once = spent_once rules entry s t v before es deeds well.once h;
        children = next_children act rules entry H reads differ sound before es s t deeds step well.children;
        meant =
            goes_meant h.last t _ _ h.goes_by
            (removed_meant s h.last v before h.paths h.removing h.removed refl at well
            (follows_split act v h.removing h.settling (subst (Follows act v) h.events follows)).0);
      }
    ]

  -- ## All steps

  all_steps :
      (s t : Stand) (w : World) (before es : List Event) (deeds : List Deed) → Steps rules entry s w before es deeds t → w ≡ run entry before →
      IsReached o rules entry first_top before s → IsListedWell s w → WasClear act rules entry s w → Follows act w es → IsHaltedIfBroken s → t.halted ≡ None →
      AreMeant S t.from targets
  all_steps s t w before es deeds (Done s1 w1 before1) world at well clear follows was none = well.meant
  all_steps s t w before es deeds (Then s1 t1 u1 w1 before1 es1 fs ds more step steps) world at well clear follows was none =
      let f = follows_split act w1 es1 fs follows in
      let here : Step rules entry s1 (run entry before1) before1 es1 ds t1 = subst (λ v. Step rules entry s1 v before1 es1 ds t1) world step in
      let follows_here : Follows act (run entry before1) es1 = subst (λ v. Follows act v es1) world f.0 in
      let well_here : IsListedWell s1 (run entry before1) = subst (IsListedWell s1) world well in
      let clear_here : WasClear act rules entry s1 (run entry before1) = subst (WasClear act rules entry s1) world clear in
      let calm : t1.halted ≡ None = unhalted_before rules entry t1 u1 (run w1 es1) (before1 ++ es1) fs more steps none in
      let formed_here : IsFormed (run entry before1) = formed_run entry before1 sound.formed in
      let next : IsListedWell t1 (run (run entry before1) es1) = next_well before1 es1 s1 t1 ds here at well_here clear_here follows_here was calm in
      let clear_next : WasClear act rules entry t1 (run (run entry before1) es1) =
      step_clear act rules entry s1 t1 (run entry before1) before1 es1 ds here formed_here follows_here was calm in
      all_steps t1 u1 (run w1 es1) (before1 ++ es1) fs more steps (ap (λ v. run v es1) world ∙ sym (run_more entry before1 es1))
      (next_reached act rules entry H reads differ sound before1 es1 s1 t1 ds here at follows_here)
      (subst (λ v. IsListedWell t1 (run v es1)) (sym world) next) (subst (λ v. WasClear act rules entry t1 (run v es1)) (sym world) clear_next) f.1
      (step_broken act rules entry s1 t1 w1 before1 es1 ds step was) none

  -- Where a run starts no listing was known before.
  pub start_well :
      (told : Option End) (result : Result End Fault) (deeds : List Deed) (log : List Event) (r : IsRun rules told result deeds entry log) →
      Follows act entry log → IsListedWell r.start (run entry r.opening)
  start_well told result deeds log r follows =
      let kept = start_kept act rules entry H reads differ sound told result deeds log r follows in
      record {
        once = λ a b i k same. absurd (none_in r.start.begun a kept.begun i);
        children = at_start rules told result deeds entry log r sound.no_child;
        meant = answer_meant r.opened (first_stand r.plan) r.start entry [] r.goes_by (λ f files e. absurd (unlisted files e));
      }
    where
      unlisted : (files : List Path) → ◌≡◌ {A = Option (List Path)} None (Some files) → ⊥
      unlisted files e = cc

  -- At the end of a run in which no fault came the listings of the plans before the last one are meant.
  pub run_meant :
      (told : Option End) (result : Result End Fault) (deeds : List Deed) (log : List Event) (r : IsRun rules told result deeds entry log) →
      Follows act entry log → r.last.halted ≡ None → AreMeant S r.last.from targets
  run_meant told result deeds log r follows none =
      let split = parts act rules entry H reads differ sound told result deeds log r follows in
      let calm = start_unhalted act rules entry H reads differ sound told result deeds log r follows none in
      all_steps r.start r.last (run entry r.opening) r.opening r.rest deeds r.steps refl
      (start_reached act rules entry H reads differ sound told result deeds log r follows) (start_well told result deeds log r follows)
      (start_clear act rules entry told result deeds log r sound.formed split.0 calm) split.1
      (answer_broken act rules entry r.opened (first_stand r.plan) r.start entry [] r.goes_by refl) none
