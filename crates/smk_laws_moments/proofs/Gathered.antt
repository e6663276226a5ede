-- What a job of a plan gathers from is a source where no job makes it, and is listed once it is ready; and no job makes a source.
use Rattle.std.proofs.Common.{◌≡◌, ◌≢◌, ◌⊎◌, ℕ, true, false, ◌&&◌, ◌||◌, cond, List, [], ◌∷◌, ◌++◌, flat_map, filter, find, zip, refl, sym, ap, subst, inl, inr, ◌∙◌, Option, Some, None, is_none, true≢false}
use Rattle.std.specs.Prelude.{bytes_eq}
use Rattle.smk_base.proofs.Places.{place_itself, same_place}
use Rattle.smk_world.specs.World.{in_paths}
use Rattle.smk_world.specs.Trees.{Path}
use Rattle.smk_flow.specs.declared.job.Job.{Job}
use Rattle.smk_flow.specs.Flows.{Flow, Candidate}
use Rattle.smk_choose.specs.Choose.{Source, Make, choose}
use Rattle.smk_store.specs.Images.{Image, is_source}
use Rattle.smk_chain.specs.Derive.{distinct, job, listing, same_candidate, sources_of, walk}
use Rattle.smk_trigger.specs.declared.reason.State.{State}
use Rattle.smk_pick.specs.declared.settings.Settings.{Settings}
use Rattle.smk_plan.specs.States.{Plan, Progress, IsPlan, awaited, awaits, directory_over, files_listed, gathers_from, is_at_hand, is_ready, maker_of, makes, new_listings, staged, state_of}
use Rattle.smk_chain.specs.declared.jobs.Known.{Known}
use Rattle.smk_laws_plan.specs.Current.{IsComplete}
use Rattle.smk_laws_plan.proofs.CurrentLists.{In, distinct_in, filter_nil, find_some, flat_in, in_distinct, in_flat, in_left, in_zip, map_in, map_nil, none_some}
use Rattle.smk_laws_plan.proofs.CurrentReach.{Reached, choice_known, reached_step}
use Rattle.smk_laws_plan.proofs.CurrentRecipes.{folders_wanted}
use Rattle.smk_laws_plan.proofs.CurrentWalked.{walked_chosen, walked_job}
use Rattle.smk_laws_plan.proofs.CurrentMeaning.{source_chosen}
use Rattle.smk_laws_plan.proofs.PlanOrder.{own_walked, source_unmade, walked_reached}
use Rattle.smk_laws_plan.proofs.PlanOne.{chosen_makes, derived, derived_reached}

same_then : (x y z : Path) → bytes_eq x y ≡ true → bytes_eq y z ≡ true → bytes_eq x z ≡ true
same_then x y z h k = subst (λ p. bytes_eq p z ≡ true) (sym (same_place x y h)) k

-- a job that makes it is found, if there is one among those with a state
unfound : (q : Path) (js : List Job) (ss : List State) → ((j : Job) → In j js → makes j q ≡ false) → find (λ (e : Job × State). makes e.0 q) (zip js ss) ≡ None
unfound q [] ss none = refl
unfound q (j ∷ js) [] none = refl
unfound q (j ∷ js) (s ∷ ss) none =
    ap (λ b. cond b (Some (j, s)) (find (λ (e : Job × State). makes e.0 q) (zip js ss))) (none j (inl refl)) ∙ unfound q js ss (λ k i. none k (inr i))

module _ (flow : Flow) (image : Image) (settings : Settings) (progress : Progress) (plan : Plan) (complete : IsComplete image) (is : IsPlan flow image settings progress plan) where
  abbrev walked : List Candidate
  walked = flat_map (walk flow (sources_of image) plan.lists 200) settings.targets

  -- each job of the plan is that of a candidate, which is chosen for a path
  candidate_of : (j : Job) → In j plan.jobs → (c : Candidate) × In c walked × (j ≡ job flow plan.lists c)
  candidate_of j i =
      let d = derived flow image plan.lists settings.targets plan.jobs complete is.derived in
      let c = map_in (job flow plan.lists) (distinct same_candidate walked) j (subst (In j) (sym d.1) i) in
      (c.0, distinct_in same_candidate walked c.0 c.1, c.2)

  pub source_made_by_none : (q : Path) → is_source image q ≡ true → maker_of plan q ≡ None
  source_made_by_none q source = unfound q plan.jobs plan.states one
    where
      one : (j : Job) → In j plan.jobs → makes j q ≡ false
      one j i =
          let c = candidate_of j i in
          let t = flat_in (walk flow (sources_of image) plan.lists 200) settings.targets c.0 c.1 in
          let p = walked_chosen flow (sources_of image) plan.lists 200 t.0 c.0 t.2 in
          subst (λ (x : Job). makes x q ≡ false) (sym c.2) (source_unmade flow image plan.lists complete p.0 q c.0 p.1 source)

  -- a job that is chosen for a path to which the walk comes is among those of the plan
  chosen_here : (n : ℕ) (q : Path) (c : Candidate) → Reached flow (sources_of image) plan.lists walked n q → choose flow (sources_of image) q ≡ Make c → In (job flow plan.lists c) plan.jobs
  chosen_here n q c r e =
      subst (In (job flow plan.lists c)) (derived flow image plan.lists settings.targets plan.jobs complete is.derived).1
      (walked_job flow (sources_of image) plan.lists settings.targets 200 c (r.within c (own_walked flow (sources_of image) plan.lists walked n q c r e)))

  pub gathered_source : (j : Job) (d : Path) → In j plan.jobs → In d (gathers_from j) → maker_of plan d ≡ None → is_source image d ≡ true
  gathered_source j d i gathered unmade =
      let c = candidate_of j i in
      let t = flat_in (walk flow (sources_of image) plan.lists 200) settings.targets c.0 c.1 in
      let w =
      walked_reached flow (sources_of image) plan.lists walked 200 t.0 c.0 (derived_reached flow image plan.lists settings.targets plan.jobs complete is.derived t.0 t.1) t.2 in
      let below =
      reached_step flow (sources_of image) plan.lists walked w.0 w.1 c.0 d w.2 w.3 (folders_wanted flow c.0 plan.lists d (subst (λ (x : Job). In d (gathers_from x)) c.2 gathered)) in
      go w.0 below (choice_known flow (sources_of image) plan.lists w.0 d below.calm)
    where
      made : (n : ℕ) (k : Candidate) → Reached flow (sources_of image) plan.lists walked n d → choose flow (sources_of image) d ≡ Make k → ⊥
      made n k below e =
          let here = chosen_here n d k below e in
          let f = state_of image settings progress plan in
          let found =
          find_some (λ (x : Job × State). makes x.0 d) (staged plan) (job flow plan.lists k, f (job flow plan.lists k))
          (subst (λ ss. In (job flow plan.lists k, f (job flow plan.lists k)) (zip plan.jobs ss)) (sym is.states) (in_zip f plan.jobs (job flow plan.lists k) here))
          (chosen_makes flow image plan.lists settings.targets plan.jobs complete is.derived d k e) in
          none_some (maker_of plan d) found.0 unmade found.1

      go : (n : ℕ) → Reached flow (sources_of image) plan.lists walked n d → (choose flow (sources_of image) d ≡ Source) ⊎ ((k : Candidate) × (choose flow (sources_of image) d ≡ Make k)) → is_source image d ≡ true
      go n below (inl e) = source_chosen flow (sources_of image) d e
      go n below (inr (k, e)) = absurd (made n k below e)

  -- the directories from which a job gathers are awaited
  gathered_awaited : (j : Job) (d : Path) → In j plan.jobs → In d (gathers_from j) → In d (awaited image settings progress plan)
  gathered_awaited j d i gathered =
      let waits = flat_map (awaits plan) plan.jobs in
      let over = flat_map (directory_over plan) settings.targets in
      let here =
      in_left d waits over
      (in_flat (awaits plan) plan.jobs j d i (in_left d (gathers_from j) (flat_map (directory_over plan) (in_paths j.recipe ++ gathers_from j)) gathered)) in
      let r = in_distinct bytes_eq place_itself same_then (waits ++ over) d here in
      subst (λ q. In q (distinct bytes_eq (waits ++ over))) (same_place r.0 d r.2) r.1

  -- where nothing becomes known any more, what a job gathers from and is ready has a listing
  pub ready_is_listed : (j : Job) (d : Path) → new_listings image settings progress plan ≡ [] → In j plan.jobs → In d (gathers_from j) → is_ready image settings progress plan d ≡ true → listing plan.lists d ≢ None
  ready_is_listed j d done i gathered ready none =
      let some : Path → Known = λ f. record { folder = f; files = files_listed image f } in
      let fresh = λ (f : Path). is_ready image settings progress plan f && is_none (listing plan.lists f) in
      let left = filter_nil fresh (awaited image settings progress plan) d (map_nil some (filter fresh (awaited image settings progress plan)) done) (gathered_awaited j d i gathered) in
      true≢false (sym (ap (λ b. b && is_none (listing plan.lists d)) ready ∙ ap is_none none) ∙ left)

  -- so what is at hand is a source or has a listing
  pub at_hand_is_listed :
      (j : Job) (d : Path) → new_listings image settings progress plan ≡ [] → In j plan.jobs → In d (gathers_from j) → is_at_hand image settings progress plan d ≡ true →
      (is_source image d ≡ true) ⊎ (listing plan.lists d ≢ None)
  at_hand_is_listed j d done i gathered at_hand = go (maker_of plan d) refl at_hand
    where
      go : (o : Option (Job × State)) → maker_of plan d ≡ o → (is_none o || is_ready image settings progress plan d) ≡ true → (is_source image d ≡ true) ⊎ (listing plan.lists d ≢ None)
      go None e h = inl (gathered_source j d i gathered e)
      go (Some x) e h = inr (ready_is_listed j d done i gathered h)
