-- After any events of a log there is a moment: each chain of plans has a last plan, or none.
use Rattle.std.proofs.Common.{◌≡◌, ◌⊎◌, ◌≢◌, ℕ, zero, suc, ◌≤◌, arith, Bool, true, false, List, [], ◌∷◌, ◌++◌, refl, sym, ap, subst, inl, inr, ◌∙◌, Option, Some, None, append_assoc, append-nil}
use Rattle.smk_world.specs.declared.event.Event.{Event}
use Rattle.smk_world.specs.World.{World, IsFormed, after}
use Rattle.smk_world.proofs.Names.{formed_after}
use Rattle.smk_flow.specs.declared.job.Job.{Job}
use Rattle.smk_flow.specs.Flows.{Flow}
use Rattle.smk_store.specs.Images.{Image}
use Rattle.smk_chain.specs.Derive.{Derivation, Derived, Listings, Refusal, Refused, derivation}
use Rattle.smk_pick.specs.declared.settings.Settings.{Settings}
use Rattle.smk_plan.specs.States.{Plan, Progress, IsPlan, LastPlan, Last, Then, new_listings}
use Rattle.smk_laws_plan.specs.Current.{IsComplete}
use Rattle.smk_laws_plan.proofs.CurrentLists.{cons_nil}
use Rattle.smk_laws_plan.proofs.PlanOne.{has_plan, one_plan}
use Rattle.smk_laws_history.proofs.CurrentComplete.{seen_is_complete}
use Rattle.smk_drive.specs.Moments.{Rules, Moment, Begun, IsMoment, AtEntry, AtRest, Between, IsInForce, seen, progress_of, begun_after, is_rest}
use Rattle.smk_drive_course.specs.Moments.{HasMoment}
use Rattle.smk_laws_history.proofs.Listed.{left, left_less}
use Rattle.smk_drive_course.proofs.OneMoment.{formed_at}

derived_refused : (js : List Job) (r : Refusal) → Derived js ≡ Refused r → ⊥
derived_refused js r h = grind arith

-- ## The last plan

module _ (flow : Flow) (image : Image) (settings : Settings) (progress : Progress) (complete : IsComplete image) where
  abbrev LastFrom : Listings → Plan → Type 0
  LastFrom L plan = LastPlan flow image settings progress L plan

  abbrev new : Plan → Listings
  new plan = new_listings image settings progress plan

  -- the chain from these listings has a last plan, or none
  abbrev pub IsSettled : Listings → Type 0
  IsSettled L = ((plan : Plan) × LastFrom L plan) ⊎ ((plan : Plan) → ¬ LastFrom L plan)

  -- where the first derivation is refused there is none
  none_refused :
      (L K : Listings) (r : Refusal) (plan : Plan) → derivation flow image L settings.targets ≡ Refused r → LastFrom K plan → K ≡ L → ⊥
  none_refused L K r plan e (Last p is done) same =
      derived_refused p.jobs r (sym is.derived ∙ (ap (λ M. derivation flow image M settings.targets) same ∙ e))
  none_refused L K r plan e (Then p last is more rest) same =
      derived_refused p.jobs r (sym is.derived ∙ (ap (λ M. derivation flow image M settings.targets) same ∙ e))

  -- nor where there is none after the first plan, which isn't the last one
  none_after :
      (plan last : Plan) (K : Listings) → IsPlan flow image settings progress plan → new plan ≢ [] →
      ((p : Plan) → ¬ LastFrom (plan.lists ++ new plan) p) → LastFrom K last → K ≡ plan.lists → ⊥
  none_after plan last K is more none (Last p is2 done) same =
      more (subst (λ r. new r ≡ []) (one_plan flow image settings progress p plan complete is2 is same) done)
  none_after plan last K is more none (Then p q is2 more2 rest) same =
      none q (subst (λ (r : Plan). LastFrom (r.lists ++ new r) q) (one_plan flow image settings progress p plan complete is2 is same) rest)

  goes_on : (plan : Plan) → IsPlan flow image settings progress plan → new plan ≢ [] → IsSettled (plan.lists ++ new plan) → IsSettled plan.lists
  goes_on plan is more (inl (last, l)) = inl (last, Then plan last is more l)
  goes_on plan is more (inr none) = inr (λ last l. none_after plan last plan.lists is more none l refl)

  with_plan :
      (plan : Plan) → IsPlan flow image settings progress plan → ((M : Listings) → suc (left image M) ≤ left image plan.lists → IsSettled M) →
      IsSettled plan.lists
  with_plan plan is again = go (new plan) refl
    where
      go : (ks : Listings) → new plan ≡ ks → IsSettled plan.lists
      go [] n = inl (plan, Last plan is n)
      go (k ∷ ks) n =
          let more : new plan ≢ [] = λ none. cons_nil k ks (sym n ∙ none) in
          goes_on plan is more (again (plan.lists ++ new plan) (left_less image settings progress complete plan more))

  step : (L : Listings) → ((M : Listings) → suc (left image M) ≤ left image L → IsSettled M) → IsSettled L
  step L again = go (derivation flow image L settings.targets) refl
    where
      go : (d : Derivation) → derivation flow image L settings.targets ≡ d → IsSettled L
      go (Refused r) e = inr (λ plan l. none_refused L L r plan e l refl)
      go (Derived js) e =
          let p = has_plan flow image settings progress L js complete e in
          subst IsSettled p.2 (with_plan p.0 p.1 (λ M low. again M (subst (λ K. suc (left image M) ≤ left image K) p.2 low)))

  settled_within : (k : ℕ) (L : Listings) → left image L ≤ k → IsSettled L
  settled_within zero L few = step L (λ M low. absurd (omega arith))
  settled_within (suc k) L few = step L (λ M low. settled_within k M (omega arith))

  pub settled : (L : Listings) → IsSettled L
  settled L = settled_within (left image L) L (let same : left image L ≤ left image L = omega arith in same)

-- ## Moments

-- there is a plan in force, or none
in_force : (rules : Rules) (w : World) (begun : List Begun) (lists : Listings) → IsFormed w → (plan : Option Plan) × IsInForce rules w begun lists plan
in_force rules w begun lists formed =
    go (settled rules.flow (seen rules w) rules.settings (progress_of w begun) (seen_is_complete rules.read w formed) lists)
  where
    go : IsSettled rules.flow (seen rules w) rules.settings (progress_of w begun) (seen_is_complete rules.read w formed) lists → (plan : Option Plan) × IsInForce rules w begun lists plan
    go (inl (plan, last)) = (Some plan, last)
    go (inr none) = (None, none)

module _ (rules : Rules) (entry : World) (formed : IsFormed entry) where
  abbrev There : List Event → Type 0
  There events = (m : Moment) × IsMoment rules entry events m

  -- one event more
  next : (events : List Event) (e : Event) → There events → There (events ++ e ∷ [])
  next events e (m, is) = go (is_rest (after m.world e) (begun_after rules entry m e)) refl
    where
      go : (b : Bool) → is_rest (after m.world e) (begun_after rules entry m e) ≡ b → There (events ++ e ∷ [])
      go true rest =
          let p = in_force rules (after m.world e) (begun_after rules entry m e) m.lists (formed_after m.world e (formed_at rules entry events m formed is)) in
          (_, AtRest events m e p.0 is rest p.1)
      go false rest = (_, Between events m e is rest)

  all_events : (before events : List Event) → There before → There (before ++ events)
  all_events before [] there = subst There (sym (append-nil before)) there
  all_events before (e ∷ events) there =
      subst There (append_assoc before (e ∷ []) events) (all_events (before ++ e ∷ []) events (next before e there))

pub has_moment : HasMoment
has_moment rules entry events formed =
    let p = in_force rules entry [] [] formed in all_events rules entry formed [] events (_, AtEntry p.0 p.1)
