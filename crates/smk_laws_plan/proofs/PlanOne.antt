-- For given listings there is exactly one plan: the table of states has one solution. Going up the jobs in plan order what makes a job
-- Open or Dirty is settled; then, going down, what is wanted back.
use Rattle.std.proofs.Common.{◌≡◌, ◌⊎◌, ℕ, zero, suc, Bool, true, false, ◌&&◌, List, [], ◌∷◌, ◌++◌, map, filter, flat_map, length, refl, sym, ap, subst, inl, inr, ◌∙◌, Some, is_some, append_assoc}
use Rattle.std.specs.Prelude.{nat_lt}
use Rattle.smk_base.specs.Path.{is_under, overlaps}
use Rattle.smk_world.specs.World.{in_paths, out_paths, folders_above}
use Rattle.smk_world.specs.Trees.{Path, among, folder_over, folders_of}
use Rattle.smk_pattern.specs.Bound.{BoundFills}
use Rattle.smk_flow.specs.declared.job.Job.{Job}
use Rattle.smk_flow.specs.Flows.{Flow, Candidate, makes_folder}
use Rattle.smk_choose.specs.Choose.{Sources, Source, Make, choose}
use Rattle.smk_store.specs.Images.{Image}
use Rattle.smk_chain.specs.Derive.{Listings, Derived, derivation, job, jobs, recipe, walk, refusals, refused, refused_if, reach, clashes, spots, is_deep, distinct, same_candidate, sources_of, Deep, TooManyPaths, Refusal}
use Rattle.smk_trigger.specs.declared.reason.State.{State}
use Rattle.smk_trigger.specs.JobStates.{is_to_run}
use Rattle.smk_pick.specs.declared.settings.Settings.{Settings}
use Rattle.smk_plan.specs.States.{Plan, Progress, LastPlan, Last, Then, makes, state_of, is_input, new_listings}
use Rattle.smk_laws_plan.specs.Current.{IsComplete}
use Rattle.smk_laws_plan.specs.Plans.{OnePlan, HasPlan, OneLastPlan}
use Rattle.smk_laws_plan.proofs.CurrentLists.{In, in_left, in_right, in_either, flat_in, map_in, distinct_in, find_some, append_nil_left, append_nil_right, map_nil, filter_nil, or_first, or_second, clash_of, some_inj}
use Rattle.smk_laws_plan.proofs.CurrentPaths.{in_among, among_in, touch_overlaps}
use Rattle.smk_laws_plan.proofs.CurrentReach.{Reached, reached_target, outcome_derived}
use Rattle.smk_laws_plan.proofs.CurrentRecipes.{map_same}
use Rattle.smk_laws_plan.proofs.CurrentWalked.{walked_chosen, chosen_same}
use Rattle.smk_laws_plan.proofs.CurrentApart.{JobsApart, jobs_apart, spots_apart, maker_found}
use Rattle.smk_laws_plan.proofs.CurrentChosen.{Origin, origin, output_in, folder_made}
use Rattle.smk_laws_plan.proofs.CurrentFills.{bound_fills_from}
use Rattle.smk_pattern.proofs.Names.{numbered_all}
use Rattle.smk_laws_plan.proofs.CurrentMeaning.{source_chosen}
use Rattle.smk_laws_plan.proofs.PlanOrder.{Within, Served, InOrder, flat_ordered, walk_ordered, distinct_ordered, source_unmade, jobs_in_order}
use Rattle.smk_laws_plan.proofs.PlanStates.{plan_of, next, all_clean, Alike, any_same, any_zip, next_same, restore_same, wanted_same, alike_next}

-- ## What is served by earlier jobs

module _ (all : List Job) where
  order_front : (seen xs ys : List Job) → InOrder all seen (xs ++ ys) → InOrder all seen xs
  order_front seen [] ys h = tt
  order_front seen (x ∷ xs) ys h = (h.0, order_front (x ∷ seen) xs ys h.1)

  served_in :
      (seen ks : List Job) (j : Job) → InOrder all seen ks → In j ks →
      (s : List Job) × ((x : Job) → In x s → In x seen ⊎ In x ks) × Served all s j
  served_in seen [] j h i = absurd i
  served_in seen (k ∷ ks) j h (inl e) = (seen, λ x i. inl i, subst (Served all seen) (sym e) h.0)
  served_in seen (k ∷ ks) j h (inr i) = let r = served_in (k ∷ seen) ks j h.1 i in (r.0, λ x l. shift x (r.1 x l), r.2)
    where
      shift : (x : Job) → In x (k ∷ seen) ⊎ In x ks → In x seen ⊎ In x (k ∷ ks)
      shift x (inl (inl e)) = inr (inl e)
      shift x (inl (inr l)) = inl l
      shift x (inr l) = inr (inr l)

  pub served_at :
      (seen before : List Job) (k : Job) (after : List Job) → InOrder all seen (before ++ k ∷ after) →
      (s : List Job) × ((x : Job) → In x s → In x seen ⊎ In x before) × Served all s k
  served_at seen [] k after h = (seen, λ x i. inl i, h.0)
  served_at seen (b ∷ before) k after h = let r = served_at (b ∷ seen) before k after h.1 in (r.0, λ x l. shift x (r.1 x l), r.2)
    where
      shift : (x : Job) → In x (b ∷ seen) ⊎ In x before → In x seen ⊎ In x (b ∷ before)
      shift x (inl (inl e)) = inr (inl e)
      shift x (inl (inr l)) = inl l
      shift x (inr l) = inr (inr l)

-- a chosen job makes its path
pub job_makes : (flow : Flow) (sources : Sources) (L : Listings) (q : Path) (c : Candidate) → choose flow sources q ≡ Make c → makes (job flow L c) q ≡ true
job_makes flow sources L q c e = let o = origin flow q c sources e in go o o.at_or_above
  where
    fills : BoundFills
    fills = bound_fills_from numbered_all

    go : (o : Origin flow q c) → (q ≡ o.place) ⊎ (is_under q o.place ≡ true) × In o.place (folders_above q) × (makes_folder o.out ≡ true) → makes (job flow L c) q ≡ true
    go o (inl s) =
        or_first _ _ (in_among (out_paths (recipe flow L c)) q (subst (λ w. In w (out_paths (recipe flow L c))) (sym s) (output_in flow L c fills o.place o.out o.is_out o.binds)))
    go o (inr u) =
        or_second _ _ (let r = find_some (is_under q) (folders_of (recipe flow L c)) o.place (folder_made flow L c fills o.place o.out o.is_out o.binds u.2) u.0 in ap is_some r.1)

-- a job stands in one place
pub twice : (before : List Job) (k : Job) (after : List Job) (p : Path) → JobsApart (before ++ k ∷ after) → In k before → In p (out_paths k.recipe) → ⊥
twice [] k after p h i o = i
twice (b ∷ before) k after p h (inl e) o =
    clash_of (overlaps p p) (touch_overlaps p p (inl refl))
    (h.0 k p p (in_right k before (k ∷ after) (inl refl)) (subst (λ (x : Job). In p (out_paths x.recipe)) e o) o)
twice (b ∷ before) k after p h (inr i) o = twice before k after p h.2 i o

pub pair_first : (a b : Job × State) → Some a ≡ Some b → a.0 ≡ b.0
pair_first a b e = ap (λ (x : Job × State). x.0) (some_inj a b e)

module _ (image : Image) (settings : Settings) (progress : Progress) (L : Listings) (js : List Job) (apart : JobsApart js) (order : InOrder js [] js) where
  abbrev step : (Job → State) → Job → State
  step F = next image settings progress L js F

  abbrev same : (Job → State) → (Job → State) → Job → Type 0
  same F G j = Alike image settings progress L js F G j

  -- the table taken n times
  abbrev again : ℕ → (Job → State) → Job → State
  again zero F = F
  again (suc n) F = step (again n F)

  swap : (n : ℕ) (F : Job → State) → again n (step F) ≡ step (again n F)
  swap zero F = refl
  swap (suc n) F = ap step (swap n F)

  -- ## Up the plan

  -- whatever the states were, after n times these jobs are alike
  abbrev Settles : ℕ → List Job → Type 0
  Settles n seen = (F G : Job → State) (j : Job) → In j seen → same (again n F) (again n G) j

  settles_on : (n : ℕ) (seen : List Job) → Settles n seen → Settles (suc n) seen
  settles_on n seen h F G j i =
      subst (λ P. same P (step (again n G)) j) (swap n F) (subst (λ Q. same (again n (step F)) Q j) (swap n G) (h (step F) (step G) j i))

  settle_one :
      (n : ℕ) (seen : List Job) (k : Job) → In k js → Within seen js → Served js seen k → Settles n seen → Settles (suc n) (k ∷ seen)
  settle_one n seen k here within served h F G j (inl e) =
      subst (same (step (again n F)) (step (again n G))) (sym e)
      (alike_next image settings progress L js apart (again n F) (again n G) seen within (λ j i. h F G j i) k here served)
  settle_one n seen k here within served h F G j (inr i) = settles_on n seen h F G j i

  settle :
      (n : ℕ) (seen ks : List Job) → Within seen js → Within ks js → InOrder js seen ks → Settles n seen →
      (m : ℕ) × ((j : Job) → In j seen ⊎ In j ks → (F G : Job → State) → same (again m F) (again m G) j)
  settle n seen [] a b o h = (n, only)
    where
      only : (j : Job) → In j seen ⊎ In j [] → (F G : Job → State) → same (again n F) (again n G) j
      only j (inl i) F G = h F G j i
      only j (inr i) F G = absurd i
  settle n seen (k ∷ ks) a b o h =
      let r = settle (suc n) (k ∷ seen) ks grown (λ x i. b x (inr i)) o.1 (settle_one n seen k (b k (inl refl)) a o.0 h) in (r.0, λ j i. r.1 j (shift j i))
    where
      grown : Within (k ∷ seen) js
      grown x (inl e) = b x (inl e)
      grown x (inr i) = a x i

      shift : (j : Job) → In j seen ⊎ In j (k ∷ ks) → In j (k ∷ seen) ⊎ In j ks
      shift j (inl i) = inl (inr i)
      shift j (inr (inl e)) = inl (inl e)
      shift j (inr (inr i)) = inr i

  settled : (n : ℕ) × Settles n js
  settled = let r = settle zero [] js (λ x i. absurd i) (λ x i. i) order (λ F G j i. absurd i) in (r.0, λ F G j i. r.1 j (inr i) F G)

  -- ## Down the plan

  -- the jobs that read an output of a job come after it
  later :
      (before : List Job) (k : Job) (after : List Job) (j : Job) (p : Path) → js ≡ before ++ k ∷ after → In j js →
      among (in_paths j.recipe) p ≡ true → In p (out_paths k.recipe) → In j after
  later before k after j p e i reads o = go (in_either j before (k ∷ after) (subst (In j) e i))
    where
      inn : Within before js
      inn x l = subst (In x) (sym e) (in_left x before (k ∷ after) l)

      own : makes k p ≡ true
      own = or_first (among (out_paths k.recipe) p) (is_some (folder_over k.recipe p)) (in_among (out_paths k.recipe) p o)

      here : In k js
      here = subst (In k) (sym e) (in_right k before (k ∷ after) (inl refl))

      ordered : InOrder js [] (before ++ k ∷ after)
      ordered = subst (InOrder js []) e order

      never : (s : List Job) → ((x : Job) → In x s → In x [] ⊎ In x before) → Served js s j → ⊥
      never s within served = pick (served p (inl (among_in (in_paths j.recipe) p reads)))
        where
          front : (x : Job) → In x [] ⊎ In x before → In x before
          front x (inl l) = absurd l
          front x (inr l) = l

          pick : ((x : Job) → In x js → makes x p ≡ false) ⊎ ((x : Job) × In x s × (makes x p ≡ true)) → ⊥
          pick (inl none) = clash_of (makes k p) own (none k here)
          pick (inr (x, l, m)) =
              let x_before = front x (within x l) in
              let F = all_clean image settings progress L js in
              let is_k = pair_first (x, F x) (k, F k) (sym (maker_found F js x p apart (inn x x_before) m) ∙ maker_found F js k p apart here own) in
              twice before k after p (subst JobsApart e apart) (subst (λ y. In y before) is_k x_before) o

      go : In j before ⊎ In j (k ∷ after) → In j after
      go (inl l) = let r = served_in js [] before j (order_front js [] before (k ∷ after) ordered) l in absurd (never r.0 r.1 r.2)
      go (inr (inl s)) = let r = served_at js [] before k after ordered in absurd (never r.0 r.1 (subst (Served js r.0) (sym s) r.2))
      go (inr (inr l)) = l

  -- whatever the states were, after n times these jobs have the same
  abbrev Fixes : ℕ → List Job → Type 0
  Fixes n ks = (F G : Job → State) (j : Job) → In j ks → again n F j ≡ again n G j

  fixes_on : (n : ℕ) (ks : List Job) → Fixes n ks → Fixes (suc n) ks
  fixes_on n ks h F G j i = sym (ap (λ (P : Job → State). P j) (swap n F)) ∙ (h (step F) (step G) j i ∙ ap (λ (P : Job → State). P j) (swap n G))

  fix_one :
      (n : ℕ) (before : List Job) (k : Job) (after : List Job) → js ≡ before ++ k ∷ after → Settles n js → Fixes n after → Fixes (suc n) (k ∷ after)
  fix_one n before k after e settles fixes F G j (inr i) = fixes_on n after fixes F G j i
  fix_one n before k after e settles fixes F G j (inl is_k) = subst (λ x. step (again n F) x ≡ step (again n G) x) (sym is_k) at_k
    where
      here : In k js
      here = subst (In k) (sym e) (in_right k before (k ∷ after) (inl refl))

      served : Served js js k
      served q r =
          let s = served_at js [] before k after (subst (InOrder js []) e order) in pick s.0 s.1 (s.2 q r)
        where
          inn : (x : Job) → In x [] ⊎ In x before → In x js
          inn x (inl l) = absurd l
          inn x (inr l) = subst (In x) (sym e) (in_left x before (k ∷ after) l)

          pick : (s : List Job) → ((x : Job) → In x s → In x [] ⊎ In x before) → ((x : Job) → In x js → makes x q ≡ false) ⊎ ((x : Job) × In x s × (makes x q ≡ true)) → ((x : Job) → In x js → makes x q ≡ false) ⊎ ((x : Job) × In x js × (makes x q ≡ true))
          pick s within (inl none) = inl none
          pick s within (inr (x, l, m)) = inr (x, inn x (within x l), m)

      users : (p : Path) → In p (out_paths k.recipe) → is_input (plan_of image settings progress L js (again n F)) (λ e. is_to_run e.1) p ≡ is_input (plan_of image settings progress L js (again n G)) (λ e. is_to_run e.1) p
      users p o =
          any_zip (again n F) (λ (x : Job × State). among (in_paths x.0.recipe) p && is_to_run x.1) js
          ∙ (any_same _ _ js each ∙ sym (any_zip (again n G) (λ (x : Job × State). among (in_paths x.0.recipe) p && is_to_run x.1) js))
        where
          each : (x : Job) → In x js → (among (in_paths x.recipe) p && is_to_run (again n F x)) ≡ (among (in_paths x.recipe) p && is_to_run (again n G x))
          each x i = split (among (in_paths x.recipe) p) refl
            where
              split : (b : Bool) → among (in_paths x.recipe) p ≡ b → (b && is_to_run (again n F x)) ≡ (b && is_to_run (again n G x))
              split false r = refl
              split true r = ap is_to_run (fixes F G x (later before k after x p e i r o))

      at_k : step (again n F) k ≡ step (again n G) k
      at_k =
          next_same image settings progress L js apart (again n F) (again n G) js (λ x i. i) (λ x i. settles F G x i) k here served
          (restore_same image settings progress L js apart (again n F) (again n G) js (λ x i. i) (λ x i. settles F G x i) k here served
          (λ p o. wanted_same image settings progress L js apart (again n F) (again n G) js (λ x i. i) (λ x i. settles F G x i) k here served p (users p o)))

  fix : (before after : List Job) → js ≡ before ++ after → (n : ℕ) × Settles n js × Fixes n after
  fix before [] e = (settled.0, settled.1, λ F G j i. absurd i)
  fix before (k ∷ after) e =
      let r = fix (before ++ k ∷ []) after (e ∙ sym (append_assoc before (k ∷ []) after)) in
      (suc r.0, settles_on r.0 js r.1, fix_one r.0 before k after e r.1 r.2)

  fixed : (n : ℕ) × Fixes n js
  fixed = let r = fix [] js refl in (r.0, r.2)

  kept_so : (n : ℕ) (F : Job → State) → step F ≡ F → again n F ≡ F
  kept_so zero F e = refl
  kept_so (suc n) F e = ap step (kept_so n F e) ∙ e

  -- two solutions are the same on the jobs
  pub solutions_same : (F G : Job → State) → step F ≡ F → step G ≡ G → (j : Job) → In j js → F j ≡ G j
  solutions_same F G e f j i =
      sym (ap (λ (P : Job → State). P j) (kept_so fixed.0 F e)) ∙ (fixed.1 F G j i ∙ ap (λ (P : Job → State). P j) (kept_so fixed.0 G f))

  -- there is one
  pub solution : (F : Job → State) × ((j : Job) → In j js → F j ≡ step F j)
  solution =
      let clean = all_clean image settings progress L js in
      (again fixed.0 clean, λ j i. fixed.1 clean (step clean) j i ∙ ap (λ (P : Job → State). P j) (swap fixed.0 clean))

-- ## Plans

module _ (flow : Flow) (image : Image) (L : Listings) (targets : List Path) (js : List Job) (complete : IsComplete image) (is : derivation flow image L targets ≡ Derived js) where
  abbrev srcs : Sources
  srcs = sources_of image

  abbrev walked : List Candidate
  walked = flat_map (walk flow srcs L 200) targets

  pub derived : (refusals flow srcs image L targets ≡ []) × (jobs flow srcs L targets ≡ js)
  derived = outcome_derived (refusals flow srcs image L targets) (jobs flow srcs L targets) js is

  abbrev early : List Refusal
  early = refused_if (nat_lt 100000 (length (reach flow srcs L 400 targets))) TooManyPaths

  abbrev deep : List Refusal
  deep = map Deep (filter (is_deep flow srcs image L targets) targets)

  abbrev met : List Refusal
  met = flat_map (refused flow srcs L 201) targets

  abbrev clashing : List Refusal
  clashing = clashes image [] (flat_map spots (jobs flow srcs L targets))

  none_refused : (deep ≡ []) × (met ≡ []) × (clashing ≡ [])
  none_refused =
      let one = append_nil_right early (deep ++ (met ++ clashing)) derived.0 in
      let two = append_nil_right deep (met ++ clashing) one in
      (append_nil_left deep (met ++ clashing) one, append_nil_left met clashing two, append_nil_right met clashing two)

  pub derived_clear : clashes image [] (flat_map spots js) ≡ []
  derived_clear = subst (λ js. clashes image [] (flat_map spots js) ≡ []) derived.1 none_refused.2

  pub derived_apart : JobsApart js
  derived_apart = jobs_apart js (spots_apart image [] (flat_map spots js) derived_clear)

  pub derived_reached : (p : Path) → In p targets → Reached flow srcs L walked 200 p
  derived_reached p h =
      let shallow = map_nil Deep (filter (is_deep flow srcs image L targets) targets) none_refused.0 in
      reached_target flow srcs L targets 200 p (filter_nil (is_deep flow srcs image L targets) targets p shallow h) none_refused.1 h

  pub chosen_makes : (q : Path) (c : Candidate) → choose flow srcs q ≡ Make c → makes (job flow L c) q ≡ true
  chosen_makes q c e = job_makes flow srcs L q c e

  walked_for : (c : Candidate) → In c walked → (q : Path) × (choose flow srcs q ≡ Make c)
  walked_for c h = let t = flat_in (walk flow srcs L 200) targets c h in walked_chosen flow srcs L 200 t.0 c t.2

  pub derived_order : InOrder js [] js
  derived_order =
      subst (λ ks. InOrder js [] ks) derived.1
      (jobs_in_order flow image L js none chosen_makes [] (distinct same_candidate walked)
      (distinct_ordered flow srcs L [] walked alike (flat_ordered flow srcs L (walk flow srcs L 200) [] targets (λ p i s. walk_ordered flow srcs L walked 200 p s (derived_reached p i)))))
    where
      alike : (a b : Candidate) → In a walked → In b walked → same_candidate a b ≡ true → b ≡ a
      alike a b i k e = let p = walked_for a i in let q = walked_for b k in sym (chosen_same flow srcs L p.0 q.0 a b p.1 q.1 e)

      none : (q : Path) → choose flow srcs q ≡ Source → (j : Job) → In j js → makes j q ≡ false
      none q e j i =
          let c = map_in (job flow L) (distinct same_candidate walked) j (subst (In j) (sym derived.1) i) in
          let p = walked_for c.0 (distinct_in same_candidate walked c.0 c.1) in
          subst (λ x. makes x q ≡ false) (sym c.2) (source_unmade flow image L complete p.0 q c.0 p.1 (source_chosen flow srcs q e))

pub one_plan : OnePlan
one_plan flow image settings progress a b complete pa pb lists =
    let apart = derived_apart flow image a.lists settings.targets a.jobs complete pa.derived in
    let order = derived_order flow image a.lists settings.targets a.jobs complete pa.derived in
    let same_jobs = jobs_inj a.jobs b.jobs (sym pa.derived ∙ (ap (λ L. derivation flow image L settings.targets) lists ∙ pb.derived)) in
    let F = state_of image settings progress a in
    let G = state_of image settings progress b in
    let b_states = pb.states ∙ ap (map G) (sym same_jobs) in
    let is_a : a ≡ plan_of image settings progress a.lists a.jobs F = λ i. record { lists = a.lists; jobs = a.jobs; states = pa.states i } in
    let is_b : b ≡ plan_of image settings progress a.lists a.jobs G = λ i. record { lists = sym lists i; jobs = sym same_jobs i; states = b_states i } in
    let each = solutions_same image settings progress a.lists a.jobs apart order F G (sym (ap (state_of image settings progress) is_a)) (sym (ap (state_of image settings progress) is_b)) in
    let states = pa.states ∙ (map_same F G a.jobs each ∙ sym b_states) in
    λ i. record { lists = lists i; jobs = same_jobs i; states = states i }
  where
    jobs_inj : (x y : List Job) → Derived x ≡ Derived y → x ≡ y
    jobs_inj x y e = cc

pub has_plan : HasPlan
has_plan flow image settings progress L js complete is =
    let apart = derived_apart flow image L settings.targets js complete is in
    let order = derived_order flow image L settings.targets js complete is in
    let s = solution image settings progress L js apart order in (
      plan_of image settings progress L js s.0,
      record { derived = is; states = map_same s.0 (state_of image settings progress (plan_of image settings progress L js s.0)) js s.1 },
      refl,
    )

pub one_last_plan : OneLastPlan
one_last_plan flow image settings progress L a b complete la lb = go L L a la refl lb
  where
    go : (K M : Listings) (a : Plan) → LastPlan flow image settings progress K a → K ≡ M → LastPlan flow image settings progress M b → a ≡ b
    go K M a (Last p is done) e (Last q is2 done2) = one_plan flow image settings progress p q complete is is2 e
    go K M a (Last p is done) e (Then q last is2 more rest) =
        absurd (more (subst (λ r. new_listings image settings progress r ≡ []) (one_plan flow image settings progress p q complete is is2 e) done))
    go K M a (Then p last is more rest) e (Last q is2 done2) =
        absurd (more (subst (λ r. new_listings image settings progress r ≡ []) (sym (one_plan flow image settings progress p q complete is is2 e)) done2))
    go K M a (Then p last is more rest) e (Then q last2 is2 more2 rest2) =
        go (p.lists ++ new_listings image settings progress p) (q.lists ++ new_listings image settings progress q) last rest
        (ap (λ (r : Plan). r.lists ++ new_listings image settings progress r) (one_plan flow image settings progress p q complete is is2 e)) rest2
