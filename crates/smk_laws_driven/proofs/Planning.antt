-- The turns of a plan's jobs are fed by clean values.
use Rattle.std.proofs.Common.{◌≡◌, ◌⊎◌, inl, inr, ℕ, zero, suc, ◌≤◌, arith, Bool, true, false, not, cond, ◌&&◌, ◌||◌, List, [], ◌∷◌, ◌++◌, map, filter, flat_map, find, zip, refl, ap, sym, subst, ◌∙◌, Option, Some, None, is_some, is_none, true≢false, IsTrue}
use Rattle.std.specs.Prelude.{bytes_eq}
use Rattle.std.specs.List.{list_any}
use Rattle.smk_safe.proofs.Disjoint.{flipped}
use Rattle.smk_laws_complete.proofs.Calm.{filter_empty}
use Rattle.smk_base.specs.Path.{is_path, own_folder, is_at_or_under, is_under, overlaps}
use Rattle.smk_base.specs.declared.tree.Tree.{Tree}
use Rattle.smk_base.specs.declared.tree.Tree.TheVariants.{File}
use Rattle.smk_base.proofs.Apart.{path_outside}
use Rattle.smk_world.specs.declared.event.Node.TheVariants.{Regular, Directory}
use Rattle.smk_world.specs.declared.event.NodeState.{NodeState}
use Rattle.smk_world.specs.declared.event.NodeState.TheVariants.{Owned, Known}
use Rattle.smk_world.specs.declared.recipe.Kind.{Kind}
use Rattle.smk_world.specs.declared.recipe.Kind.TheVariants.{Plain, Folder as FolderKind}
use Rattle.smk_world.specs.declared.recipe.Out.{Out}
use Rattle.smk_world.specs.declared.recipe.OutItem.{OutItem}
use Rattle.smk_world.specs.declared.recipe.Recipe.{Recipe}
use Rattle.smk_world.specs.World.{World, in_paths, out_paths, owned_paths, reading}
use Rattle.smk_world.specs.Calls.{HoldsBytes, are_apart}
use Rattle.smk_world.specs.Trees.{Path, Each, IsIn, among, folder_over, folders_of, is_folder_kind, is_path_text, kind_in, outs_of}
use Rattle.smk_pattern.proofs.Names.{numbered_all}
use Rattle.smk_pattern.specs.Reading.{fill}
use Rattle.smk_flow.specs.declared.rule.FlaggedText.{FlaggedText}
use Rattle.smk_flow.specs.declared.rule.OutPart.{OutPart}
use Rattle.smk_flow.specs.declared.job.Job.{Job}
use Rattle.smk_flow.specs.declared.job.Gather.{Gather}
use Rattle.smk_flow.specs.Flows.{Flow, Candidate, gathered_folders, logs, outputs, outs}
use Rattle.smk_choose.specs.Choose.{Sources, choose, Source, Make}
use Rattle.smk_store.specs.Images.{Image, Content, content_of, file_at, holds_source, is_file, is_outside, is_source, is_whole, is_covered, seen, sources, tree_now}
use Rattle.smk_store.specs.Trust.{Versions, SumsDiffer}
use Rattle.smk_store.specs.Soundness.{Outside, SoundWorld}
use Rattle.smk_chain.specs.Derive.{Listings, chosen, clashes, job, jobs, listing, recipe, sources_of, spots, walk}
use Rattle.smk_chain.specs.Mean.{Setting, clean_value, setting_of}
use Rattle.smk_trigger.specs.declared.reason.Reason.{Reason}
use Rattle.smk_trigger.specs.declared.reason.State.{State}
use Rattle.smk_trigger.specs.declared.reason.State.TheVariants.{Open, Dirty, Restore, Clean}
use Rattle.smk_trigger.specs.JobStates.{is_clean, is_open, is_to_run}
use Rattle.smk_pick.specs.declared.settings.Settings.{Settings}
use Rattle.smk_plan.specs.States.{Plan, IsPlan, LastPlan, Last, Then, awaited, gathers_from, is_input, is_open_now, is_read_now, is_ready, is_temporary, is_to_restore, is_wanted_back, is_whole_by, job_path, kept_state, maker_of, makes, new_listings, nothing_done, reasons, staged, stands_whole, state_of, test_some, awaits, by_reasons, directory_over, is_at_hand, made_by, none_or_one}
use Rattle.smk_run.specs.Turns.{Turn}
use Rattle.smk_safe.specs.Leaving.{owned}
use Rattle.smk_safe.specs.Clean.{IsCleanIn}
use Rattle.smk_safe.specs.Running.{AreArranged, LeavesAlone}
use Rattle.smk_laws_plan.specs.Current.{IsComplete, HasValidRecords}
use Rattle.smk_laws_plan.proofs.CurrentLists.{In, all_in, any_in, and_both, and_left, and_right, any_from, any_none, both, clash_of, filter_in, find_in, flat_in, in_either, in_filter, in_flat, in_left, in_map, in_right, map_in, none_some, not_true, or_cases, or_first, or_second, some_inj, in_zip, zip_in}
use Rattle.smk_laws_plan.proofs.CurrentPaths.{among_in, in_among, touch_overlaps}
use Rattle.smk_laws_plan.proofs.CurrentReach.{choice_known, reached_own, reached_zero}
use Rattle.smk_laws_plan.proofs.CurrentApart.{Spot, SpotsApart, maker_found, output_spot, spots_append, spots_apart}
use Rattle.smk_laws_plan.proofs.CurrentChosen.{chosen_candidate, paths_are}
use Rattle.smk_laws_history.proofs.CurrentComplete.{seen_is_complete}
use Rattle.smk_laws_plan.proofs.CurrentDepths.{mean_deeper}
use Rattle.smk_laws_plan.proofs.CurrentFills.{bound_fills_from}
use Rattle.smk_laws_plan.proofs.CurrentMeaning.{ready_clean, source_chosen, source_clean, source_file}
use Rattle.smk_laws_plan.proofs.CurrentProducts.{Planned, ReachedHere, Rested, file_tree, in_plan_here, maker_is, some_of}
use Rattle.smk_laws_history.proofs.CurrentReads.{wanted_comes}
use Rattle.smk_laws_plan.proofs.PlanOne.{chosen_makes, derived, derived_apart, derived_clear, derived_order}
use Rattle.smk_laws_plan.proofs.PlanOrder.{InOrder, Served, some_node, source_unmade}
use Rattle.smk_laws_plan.proofs.CurrentWalked.{walked_chosen}
use Rattle.smk_laws_history.proofs.Valid.{records_valid}
use Rattle.smk_laws_complete.specs.Derived.{AllHaveValues, AreRight, GathersAlone, IsGoodJob}
use Rattle.smk_laws_complete.proofs.Came.{AllCame, next_came, none_came, one_of, plan_rested, right}
use Rattle.smk_laws_complete.proofs.Ends.{at_rest}
use Rattle.smk_laws_complete.proofs.Goods.{derived_jobs_are_good}
use Rattle.smk_laws_complete.proofs.Walked.{derived_walked, walked_derived}
use Rattle.smk_laws_driven.specs.Feeding.{AreFed, IsGoodTurn, IsLeftAlone}
use Rattle.smk_laws_driven.specs.Planning.{AreRunOf, IsPlainPlan, PlannedTurnsAreArranged, PlannedTurnsAreFed}

-- ## Lists

each_in : {A : Type 0} (P : A → Type 0) (xs : List A) (x : A) → Each P xs → In x xs → P x
each_in P [] x h i = absurd i
each_in P (y ∷ ys) x h (inl e) = subst P (sym e) h.0
each_in P (y ∷ ys) x h (inr i) = each_in P ys x h.1 i

each_from : {A : Type 0} (P : A → Type 0) (xs : List A) → ((x : A) → In x xs → P x) → Each P xs
each_from P [] f = tt
each_from P (x ∷ xs) f = (f x (inl refl), each_from P xs (λ y i. f y (inr i)))

none_of : {A : Type 0} (test : A → Bool) (xs : List A) → ((x : A) → In x xs → test x ≡ false) → list_any test xs ≡ false
none_of test [] f = refl
none_of test (x ∷ xs) f = let a = f x (inl refl) in let b = none_of test xs (λ y i. f y (inr i)) in λ i. a i || b i

-- ## Jobs

clean_else : (s : State) → is_open s ≡ false → is_to_run s ≡ false → is_clean s ≡ true
clean_else Open h k = absurd (true≢false h)
clean_else (Dirty reasons) h k = absurd (true≢false k)
clean_else Restore h k = absurd (true≢false k)
clean_else Clean h k = refl

not_folder : (k : Kind) → k ≡ Plain → is_folder_kind k ≡ false
not_folder Plain e = refl
not_folder FolderKind e = cc

no_folders : (r : Recipe) → Each (λ (out : Out). out.kind ≡ Plain) (outs_of r) → folders_of r ≡ []
no_folders r plain =
    ap (map (λ (out : Out). out.path))
    (filter_empty (λ (out : Out). is_folder_kind out.kind) (outs_of r) (λ out i. not_folder out.kind (each_in (λ (out : Out). out.kind ≡ Plain) (outs_of r) out plain i)))

-- what two jobs make and log, if they lie apart
two_apart :
    (js : List Job) → SpotsApart (flat_map spots js) → (j k : Job) → In j js → In k js → (s r : Spot) → In s (spots j) → In r (spots k) →
    (j ≡ k) ⊎ (overlaps r.0 s.0 ≡ false)
two_apart [] h j k ij ik s r is ir = absurd ij
two_apart (x ∷ js) h j k ij ik s r is ir =
    let parts = spots_append (spots x) (flat_map spots js) h in
    go ij ik parts.2 (λ a b. two_apart js parts.1 j k a b s r is ir)
  where
    go :
        In j (x ∷ js) → In k (x ∷ js) → ((s t : Spot) → In s (spots x) → In t (flat_map spots js) → overlaps t.0 s.0 ≡ false) →
        (In j js → In k js → (j ≡ k) ⊎ (overlaps r.0 s.0 ≡ false)) → (j ≡ k) ⊎ (overlaps r.0 s.0 ≡ false)
    go (inl a) (inl b) apart ih = inl (a ∙ sym b)
    go (inl a) (inr b) apart ih = inr (apart s r (subst (λ z. In s (spots z)) a is) (in_flat spots js k r b ir))
    go (inr a) (inl b) apart ih = inr (flipped s.0 r.0 (apart r s (subst (λ z. In r (spots z)) b ir) (in_flat spots js j s a is)))
    go (inr a) (inr b) apart ih = ih a b

-- each output and log is a spot
owned_spot : (j : Job) (p : Path) → In p (owned_paths j.recipe j.logs) → (b : Bool) × In (p, b) (spots j)
owned_spot j p h = go (in_either p (out_paths j.recipe) j.logs h)
  where
    go : In p (out_paths j.recipe) ⊎ In p j.logs → (b : Bool) × In (p, b) (spots j)
    go (inl i) = (true, output_spot j p i)
    go (inr i) =
        (false, in_right (p, false) (map (λ p. (p, true)) (out_paths j.recipe)) (map (λ p. (p, false)) j.logs) (in_map (λ p. (p, false)) j.logs p i))

-- the spots of a job are at its outputs and logs
spots_at : (xs ys : List Path) → map (λ (s : Spot). s.0) (map (λ p. (p, true)) xs ++ map (λ p. (p, false)) ys) ≡ xs ++ ys
spots_at [] [] = refl
spots_at [] (y ∷ ys) = ap (λ ps. y ∷ ps) (spots_at [] ys)
spots_at (x ∷ xs) ys = ap (λ ps. x ∷ ps) (spots_at xs ys)

spots_are_apart : (ss : List Spot) → SpotsApart ss → are_apart (map (λ (s : Spot). s.0) ss) ≡ true
spots_are_apart [] h = refl
spots_are_apart (s ∷ ss) h =
    let none =
    none_of (overlaps s.0) (map (λ (s : Spot). s.0) ss) (λ p i.
    let t = map_in (λ (s : Spot). s.0) ss p i in subst (λ q. overlaps s.0 q ≡ false) (sym t.2) (flipped t.0.0 s.0 (h.0 t.0 t.1))) in
    and_both (not (list_any (overlaps s.0) (map (λ (s : Spot). s.0) ss))) _ (ap not none) (spots_are_apart ss h.1)

-- the outputs of a job are its candidate's
output_of : (flow : Flow) (L : Listings) (c : Candidate) (p : Path) → In p (out_paths (recipe flow L c)) → In p (outputs flow c)
output_of flow L c p h =
    let a = map_in (λ (o : Out). o.path) (outs_of (recipe flow L c)) p (subst (In p) (paths_are (recipe flow L c)) h) in
    let b = flat_in (λ (i : OutItem). i.outs) (recipe flow L c).outputs a.0 a.1 in
    let d = map_in _ c.part.outputs b.0 b.1 in
    let f = map_in _ d.0.outs a.0 (subst (λ (i : OutItem). In a.0 i.outs) d.2 b.2) in
    subst (λ q. In q (outputs flow c)) (sym (a.2 ∙ ap (λ (o : Out). o.path) f.2))
    (in_map (λ (o : FlaggedText). fill c.binding o.text) (outs c.part) f.0 (in_flat (λ (o : OutPart). o.outs) c.part.outputs d.0 f.0 d.1 f.1))

-- what a chosen job makes and logs are paths that hold no source
owned_fits :
    (flow : Flow) (sources : Sources) (L : Listings) (x q : Path) (c : Candidate) → choose flow sources x ≡ Make c →
    In q (owned_paths (recipe flow L c) (logs flow c)) → (is_path q && not (sources.holds q)) ≡ true
owned_fits flow sources L x q c e h =
    all_in (λ q. is_path q && not (sources.holds q)) (outputs flow c ++ logs flow c) q (chosen_candidate flow sources x c e).1
    (go (in_either q (out_paths (recipe flow L c)) (logs flow c) h))
  where
    go : In q (out_paths (recipe flow L c)) ⊎ In q (logs flow c) → In q (outputs flow c ++ logs flow c)
    go (inl i) = in_left q (outputs flow c) (logs flow c) (output_of flow L c q i)
    go (inr i) = in_right q (outputs flow c) (logs flow c) i

-- ## Files

held_bytes : (s : NodeState) (b : Bool) (f : Content) → content_of (cond b (reading s) None) ≡ Some f → HoldsBytes f.bytes s
held_bytes s false f h = absurd (none_some None f refl h)
held_bytes Owned true f h = absurd (none_some None f refl h)
held_bytes (Known None besides) true f h = absurd (none_some None f refl h)
held_bytes (Known (Some Directory) besides) true f h = absurd (none_some None f refl h)
held_bytes (Known (Some (Regular bytes time read_only)) besides) true f h = ap (λ (c : Content). c.bytes) (some_inj _ f h)

module _
    (flow : Flow) (o : Outside) (has_fields : Job → Bool) (w : World) (H : Versions) (settings : Settings) (plan : Plan)
    (differ : SumsDiffer H) (sound : SoundWorld o w H) (last : LastPlan flow (seen o.read w) settings nothing_done [] plan) (alone : GathersAlone flow)
    (values : AllHaveValues (setting_of flow o.act has_fields (seen o.read w)) settings.targets) (plain : IsPlainPlan plan) where
  abbrev image : Image
  image = seen o.read w

  abbrev S : Setting
  S = setting_of flow o.act has_fields image

  abbrev L : Listings
  L = plan.lists

  abbrev complete : IsComplete image
  complete = seen_is_complete o.read w sound.formed

  abbrev valid : HasValidRecords image
  valid = records_valid o.read w.names (λ q. reading (w.nodes q))

  abbrev Came : Listings → Type 0
  Came K = AllCame flow o.act has_fields image H settings nothing_done (bound_fills_from numbered_all) complete refl K

  last_came : (K : Listings) (p : Plan) → LastPlan flow image settings nothing_done K p → Came K → IsPlan flow image settings nothing_done p × Came p.lists
  last_came K p (Last q is done) came = (is, came)
  last_came K p (Then q r is more rest) came =
      last_came (q.lists ++ new_listings image settings nothing_done q) r rest
      (next_came flow o.act has_fields image H settings nothing_done (bound_fills_from numbered_all) complete refl valid differ sound.now alone values q is came)

  abbrev known : IsPlan flow image settings nothing_done plan × Came plan.lists
  known =
      last_came [] plan last
      (none_came flow o.act has_fields image H settings nothing_done (bound_fills_from numbered_all) complete refl valid differ sound.now alone values)

  abbrev planned : Planned flow image settings nothing_done plan
  planned = record { complete = complete; valid = valid; derived = known.0 }

  abbrev rest : Rested flow o.act has_fields image H settings nothing_done plan
  rest =
      plan_rested flow o.act has_fields image H settings nothing_done (bound_fills_from numbered_all) complete refl valid differ sound.now alone values plan known.0
      known.1

  abbrev Here : ℕ → Path → Type 0
  Here n p = ReachedHere flow o.act has_fields image H settings nothing_done plan n p

  abbrev st : Job → State
  st j = state_of image settings nothing_done plan j

  jobs_are : jobs flow (sources_of image) L settings.targets ≡ plan.jobs
  jobs_are = (derived flow image L settings.targets plan.jobs complete known.0.derived).1

  clear : clashes image [] (flat_map spots plan.jobs) ≡ []
  clear = derived_clear flow image L settings.targets plan.jobs complete known.0.derived

  are_right : AreRight S L settings.targets
  are_right =
      right flow o.act has_fields image H settings nothing_done (bound_fills_from numbered_all) complete refl L
      (subst (λ js. clashes image [] (flat_map spots js) ≡ []) (sym jobs_are) clear) known.1

  -- ## Its jobs

  candidate : (j : Job) → In j plan.jobs → (c : Candidate) × In c (chosen flow (sources_of image) L settings.targets) × (j ≡ job flow L c)
  candidate j i = map_in (job flow L) (chosen flow (sources_of image) L settings.targets) j (subst (In j) (sym jobs_are) i)

  good : (j : Job) (c : Candidate) → In j plan.jobs → In c (chosen flow (sources_of image) L settings.targets) → j ≡ job flow L c → IsGoodJob S L c
  good j c i k e =
      derived_jobs_are_good S L settings.targets alone values are_right c k (λ f h. absurd (none f h))
    where
      gathers : (job flow L c).gathers ≡ []
      gathers = subst (λ (x : Job). x.gathers ≡ []) e (each_in (λ (x : Job). x.gathers ≡ []) plan.jobs j plain.gathers_none i)

      none : (f : Path) → In f (gathered_folders flow c) → ⊥
      none f h = subst (In f) (ap (map (λ (g : Gather). g.folder)) gathers) h

  folders_none : (j : Job) → In j plan.jobs → folders_of j.recipe ≡ []
  folders_none j i = no_folders j.recipe (each_in (λ (x : Job). Each (λ (out : Out). out.kind ≡ Plain) (outs_of x.recipe)) plan.jobs j plain.plain i)

  over_none : (j : Job) (p : Path) → In j plan.jobs → folder_over j.recipe p ≡ None
  over_none j p i = ap (find (is_under p)) (folders_none j i)

  made_out : (j : Job) (p : Path) → In j plan.jobs → makes j p ≡ true → In p (out_paths j.recipe)
  made_out j p i h = go (or_cases (among (out_paths j.recipe) p) (is_some (folder_over j.recipe p)) h)
    where
      go : (among (out_paths j.recipe) p ≡ true) ⊎ (is_some (folder_over j.recipe p) ≡ true) → In p (out_paths j.recipe)
      go (inl e) = among_in (out_paths j.recipe) p e
      go (inr e) = absurd (true≢false (sym e ∙ ap is_some (over_none j p i)))

  out_makes : (j : Job) (p : Path) → In p (out_paths j.recipe) → makes j p ≡ true
  out_makes j p i = or_first (among (out_paths j.recipe) p) (is_some (folder_over j.recipe p)) (in_among (out_paths j.recipe) p i)

  -- one job makes a path
  one_maker : (j k : Job) (p : Path) → In j plan.jobs → In k plan.jobs → makes j p ≡ true → makes k p ≡ true → j ≡ k
  one_maker j k p ij ik mj mk =
      let apart = derived_apart flow image L settings.targets plan.jobs complete known.0.derived in
      let a = maker_found st plan.jobs j p apart ij mj in
      let b = maker_found st plan.jobs k p apart ik mk in
      ap (λ (e : Job × State). e.0) (some_inj (j, st j) (k, st k) (sym a ∙ b))

  -- ## None is Open

  unmade : (q : Path) → ((x : Job) → In x plan.jobs → makes x q ≡ false) → maker_of plan q ≡ None
  unmade q none = ap (λ ss. find (λ (e : Job × State). makes e.0 q) (zip plan.jobs ss)) known.0.states ∙ missing plan.jobs none
    where
      missing : (js : List Job) → ((x : Job) → In x js → makes x q ≡ false) → find (λ (e : Job × State). makes e.0 q) (zip js (map st js)) ≡ None
      missing [] f = refl
      missing (x ∷ js) f = ap (λ b. cond b (Some (x, st x)) (find (λ (e : Job × State). makes e.0 q) (zip js (map st js)))) (f x (inl refl)) ∙ missing js (λ y i. f y (inr i))

  made_at : (x : Job) (q : Path) → In x plan.jobs → makes x q ≡ true → maker_of plan q ≡ Some (x, st x)
  made_at x q i m =
      ap (λ ss. find (λ (e : Job × State). makes e.0 q) (zip plan.jobs ss)) known.0.states
      ∙ maker_found st plan.jobs x q (derived_apart flow image L settings.targets plan.jobs complete known.0.derived) i m

  gathers_nothing : (j : Job) → In j plan.jobs → gathers_from j ≡ []
  gathers_nothing j i = ap (map (λ (g : Gather). g.folder)) (each_in (λ (x : Job). x.gathers ≡ []) plan.jobs j plain.gathers_none i)

  -- no directory is over a path
  over_nothing : (q : Path) → directory_over plan q ≡ []
  over_nothing q = go (maker_of plan q) refl
    where
      go : (m : Option (Job × State)) → maker_of plan q ≡ m → flat_map (λ (e : Job × State). none_or_one (folder_over e.0.recipe q)) (none_or_one m) ≡ []
      go None e = refl
      go (Some x) e =
          let r = find_in (λ (e : Job × State). makes e.0 q) (zip plan.jobs plan.states) x e in
          let i = (zip_in st plan.jobs x (subst (λ ss. In x (zip plan.jobs ss)) known.0.states r.0)).0 in
          ap (λ o. none_or_one o ++ []) (over_none x.0 q i)

  awaits_nothing : (j : Job) → In j plan.jobs → awaits plan j ≡ []
  awaits_nothing j i =
      let a = gathers_nothing j i in let b = flat_none (in_paths j.recipe ++ gathers_from j) in λ k. a k ++ b k
    where
      flat_none : (qs : List Path) → flat_map (directory_over plan) qs ≡ []
      flat_none [] = refl
      flat_none (q ∷ qs) = let a = over_nothing q in let b = flat_none qs in λ k. a k ++ b k

  shut_by : (b : Bool) (rs : List Reason) (x : Bool) → b ≡ false → is_open (cond b Open (by_reasons rs x)) ≡ false
  shut_by true rs x h = absurd (true≢false h)
  shut_by false [] true h = refl
  shut_by false [] false h = refl
  shut_by false (r ∷ rs) x h = refl

  -- a job isn't Open whose inputs' jobs aren't
  shut_next : (j : Job) (seen : List Job) → In j plan.jobs → ((k : Job) → In k seen → In k plan.jobs × (is_open (st k) ≡ false)) → Served plan.jobs seen j → is_open (st j) ≡ false
  shut_next j seen i shut served =
      shut_by (is_open_now image settings nothing_done plan j) (reasons image settings nothing_done plan j)
      (is_to_restore image settings nothing_done plan j && not (is_read_now image settings nothing_done plan j)) closed
    where
      one : list_any (λ d. not (is_at_hand image settings nothing_done plan d)) (awaits plan j) ≡ false
      one = ap (list_any (λ d. not (is_at_hand image settings nothing_done plan d))) (awaits_nothing j i)

      two : list_any (λ d. is_ready image settings nothing_done plan d && is_none (listing plan.lists d)) (gathers_from j) ≡ false
      two = ap (list_any (λ d. is_ready image settings nothing_done plan d && is_none (listing plan.lists d))) (gathers_nothing j i)

      at : (q : Path) → In q (in_paths j.recipe) → made_by plan is_open q ≡ false
      at q k = pick (served q (inl k))
        where
          pick : ((x : Job) → In x plan.jobs → makes x q ≡ false) ⊎ ((x : Job) × In x seen × (makes x q ≡ true)) → made_by plan is_open q ≡ false
          pick (inl none) = ap (test_some (λ (e : Job × State). is_open e.1)) (unmade q none)
          pick (inr (x, s, m)) = let r = shut x s in ap (test_some (λ (e : Job × State). is_open e.1)) (made_at x q r.0 m) ∙ r.1

      three : list_any (made_by plan is_open) (in_paths j.recipe) ≡ false
      three = none_of (made_by plan is_open) (in_paths j.recipe) at

      closed : is_open_now image settings nothing_done plan j ≡ false
      closed = λ k. one k || (two k || three k)

  all_shut : (js seen : List Job) → ((k : Job) → In k js → In k plan.jobs) → ((k : Job) → In k seen → In k plan.jobs × (is_open (st k) ≡ false)) → InOrder plan.jobs seen js → (k : Job) → In k js → is_open (st k) ≡ false
  all_shut [] seen of_js shut order k i = absurd i
  all_shut (j ∷ js) seen of_js shut order k i =
      let here = shut_next j seen (of_js j (inl refl)) shut order.0 in
      go here i (all_shut js (j ∷ seen) (λ x a. of_js x (inr a)) (next here) order.1 k)
    where
      next : is_open (st j) ≡ false → (x : Job) → In x (j ∷ seen) → In x plan.jobs × (is_open (st x) ≡ false)
      next h x (inl e) = (of_js x (inl e), ap (λ y. is_open (st y)) e ∙ h)
      next h x (inr a) = shut x a

      go : is_open (st j) ≡ false → In k (j ∷ js) → (In k js → is_open (st k) ≡ false) → is_open (st k) ≡ false
      go h (inl e) later = ap (λ y. is_open (st y)) e ∙ h
      go h (inr a) later = later a

  not_open : (j : Job) → In j plan.jobs → is_open (st j) ≡ false
  not_open j i =
      all_shut plan.jobs [] (λ k a. a) (λ k a. absurd a) (derived_order flow image L settings.targets plan.jobs complete known.0.derived) j i

  reads_reached : (j : Job) (p : Path) → In j plan.jobs → In p (in_paths j.recipe) → (n : ℕ) × (suc n ≤ 200) × Here n p
  reads_reached j p i k =
      wanted_comes flow o.act has_fields image H settings nothing_done plan planned j p i (in_left p (in_paths j.recipe) (gathers_from j) k)

  -- ## What holds its clean value

  -- the path is a file that is its clean value, and no job but one that rests makes or logs what overlaps it
  record IsHeld (p : Path) : Type 0 where
    tree : Tree
    now : tree_now image p ≡ Some tree
    clean : clean_value S p ≡ Some tree
    file : is_file image p ≡ true
    path : is_path p ≡ true
    apart : (j : Job) (q : Path) → In j plan.jobs → is_to_run (st j) ≡ true → In q (owned_paths j.recipe j.logs) → overlaps p q ≡ false

  -- no job makes or logs what overlaps a source
  source_apart : (p : Path) → is_source image p ≡ true → (j : Job) (q : Path) → In j plan.jobs → In q (owned_paths j.recipe j.logs) → overlaps p q ≡ false
  source_apart p is j q i k = flipped q p (go (overlaps q p) refl)
    where
      c : (c : Candidate) × In c (chosen flow (sources_of image) L settings.targets) × (j ≡ job flow L c)
      c = candidate j i

      made_for : (x : Path) × (choose flow (sources_of image) x ≡ Make c.0)
      made_for =
          let t = derived_walked flow (sources_of image) L settings.targets c.0 c.1 in
          walked_chosen flow (sources_of image) L 200 t.0 c.0 t.2

      unheld : holds_source image q ≡ false
      unheld =
          not_true (holds_source image q)
          (and_right (is_path q) _ (owned_fits flow (sources_of image) L made_for.0 q c.0 made_for.1 (subst (λ (x : Job). In q (owned_paths x.recipe x.logs)) c.2 k)))

      named : In p (sources image)
      named =
          let f = source_file image p is in
          in_filter (is_source image) image.names p
          (among_in image.names p (complete.names p ∙ some_node (image.node p) f.0 f.1)) is

      go : (b : Bool) → overlaps q p ≡ b → b ≡ false
      go false e = refl
      go true e = absurd (clash_of (holds_source image q) (any_from (overlaps q) (sources image) p named e) unheld)

  source_held : (p : Path) → choose flow (sources_of image) p ≡ Source → IsHeld p
  source_held p e =
      let is = source_chosen flow (sources_of image) p e in
      let v = source_clean flow o.act has_fields image H settings nothing_done plan (bound_fills_from numbered_all) rest 200 p is in
      let parts = and_right (is_path_text p) (is_file image p && not (is_covered image p)) is in
      record {
        tree = v.0;
        now = v.1;
        clean = v.2;
        file = and_left (is_file image p) _ parts;
        path = and_left (is_path p) _ (and_left (is_path_text p) _ is);
        apart = λ j q i run k. source_apart p is j q i k;
      }

  -- an output of a job that rests is whole, where a job that is to run reads it
  whole_rest : (k j : Job) (p : Path) → In k plan.jobs → In j plan.jobs → is_clean (st k) ≡ true → is_to_run (st j) ≡ true → In p (out_paths k.recipe) → In p (in_paths j.recipe) → is_whole image p (kind_in k.recipe p) ≡ true
  whole_rest k j p ik ij rests runs out reads =
      let r =
      at_rest (is_open_now image settings nothing_done plan k) (reasons image settings nothing_done plan k)
      (is_to_restore image settings nothing_done plan k && not (is_read_now image settings nothing_done plan k)) (kept_state image settings nothing_done plan k) rests in
      let none = first (is_to_restore image settings nothing_done plan k) (is_read_now image settings nothing_done plan k) unread r.whole in
      let here = any_none (λ p. not (is_whole image p (kind_in k.recipe p)) && is_wanted_back image settings nothing_done plan k p) (out_paths k.recipe) p none out in
      wanted (is_whole image p (kind_in k.recipe p)) (is_wanted_back image settings nothing_done plan k p) back here
    where
      unread : is_read_now image settings nothing_done plan k ≡ false
      unread =
          none_of (λ x. is_some (kept_state image settings nothing_done plan x) && (not (bytes_eq (job_path k) (job_path x)) && list_any (makes k) (in_paths x.recipe))) plan.jobs
          (λ x i. refl)

      first : (a b : Bool) → b ≡ false → (a && not b) ≡ false → a ≡ false
      first a true e h = absurd (true≢false e)
      first true false e h = absurd (true≢false h)
      first false false e h = refl

      wanted : (x b : Bool) → b ≡ true → (not x && b) ≡ false → x ≡ true
      wanted true b e h = refl
      wanted false true e h = absurd (true≢false h)
      wanted false false e h = absurd (true≢false (sym e))

      input : is_input plan (λ e. is_to_run e.1) p ≡ true
      input =
          any_from (λ (e : Job × State). among (in_paths e.0.recipe) p && is_to_run e.1) (staged plan) (j, st j)
          (subst (λ ss. In (j, st j) (zip plan.jobs ss)) (sym known.0.states) (in_zip st plan.jobs j ij))
          (and_both (among (in_paths j.recipe) p) (is_to_run (st j)) (in_among (in_paths j.recipe) p reads) runs)

      back : is_wanted_back image settings nothing_done plan k p ≡ true
      back =
          or_second (among settings.targets p) _
          (or_second (among (awaited image settings nothing_done plan) p) _
          (or_second (not (is_temporary image settings nothing_done plan k p) && is_input plan (λ e. true) p) (is_input plan (λ e. is_to_run e.1) p) input))

  rest_held :
      (n : ℕ) (p : Path) (d : Candidate) (j : Job) → suc n ≤ 200 → Here n p → choose flow (sources_of image) p ≡ Make d → is_to_run (st (job flow L d)) ≡ false →
      In j plan.jobs → is_to_run (st j) ≡ true → In p (in_paths j.recipe) → IsHeld p
  rest_held zero p d j few comes e rests ij runs reads = absurd (reached_zero flow (sources_of image) L _ p d comes e)
  rest_held (suc n) p d j few comes e rests ij runs reads =
      let k = job flow L d in
      let ik = in_plan_here flow o.act has_fields image H settings nothing_done plan (bound_fills_from numbered_all) planned (suc n) p d comes e in
      let out = made_out k p ik (chosen_makes flow image L settings.targets plan.jobs complete known.0.derived p d e) in
      let clean = clean_else (st k) (not_open k ik) rests in
      let kind : kind_in k.recipe p ≡ Plain = ap (λ (fs : List Path). cond (among fs p) FolderKind Plain) (folders_none k ik) in
      let whole = subst (λ x. is_whole image p x ≡ true) kind (whole_rest k j p ik ij clean runs out reads) in
      let stands : stands_whole image p k ≡ true = ap (is_whole_by image p (kind_in k.recipe p)) (over_none k p ik) ∙ (ap (is_whole image p) kind ∙ whole) in
      let ready : is_ready image settings nothing_done plan p ≡ true =
      ap (test_some (λ (e : Job × State). is_clean e.1 && stands_whole image p e.0)) (maker_is flow o.act has_fields image H settings nothing_done plan (bound_fills_from numbered_all) planned (suc n) p d comes e)
      ∙ and_both (is_clean (st k)) (stands_whole image p k) clean stands in
      let v = ready_clean flow o.act has_fields image H settings nothing_done plan (bound_fills_from numbered_all) rest n p comes ready in
      record {
        tree = v.0;
        now = v.1;
        clean = mean_deeper S (suc n) 200 p v.0 (omega arith) v.2;
        file = whole;
        path = own_path d e out;
        apart = λ x q ix run iq. between x q ix run iq ik out rests;
      }
    where
      own_path : (d : Candidate) → choose flow (sources_of image) p ≡ Make d → In p (out_paths (recipe flow L d)) → is_path p ≡ true
      own_path d e out = and_left (is_path p) _ (owned_fits flow (sources_of image) L p p d e (in_left p (out_paths (recipe flow L d)) (logs flow d) out))

      between : (x : Job) (q : Path) → In x plan.jobs → is_to_run (st x) ≡ true → In q (owned_paths x.recipe x.logs) → In (job flow L d) plan.jobs → In p (out_paths (recipe flow L d)) → is_to_run (st (job flow L d)) ≡ false → overlaps p q ≡ false
      between x q ix run iq ik out rests =
          let s = owned_spot x q iq in
          pick (two_apart plan.jobs (spots_apart image [] (flat_map spots plan.jobs) clear) x (job flow L d) ix ik (q, s.0) (p, true) s.1 (output_spot (job flow L d) p out))
        where
          pick : (x ≡ job flow L d) ⊎ (overlaps p q ≡ false) → overlaps p q ≡ false
          pick (inl same) = absurd (clash_of (is_to_run (st x)) run (ap (λ y. is_to_run (st y)) same ∙ rests))
          pick (inr h) = h

  -- ## Turns

  -- the turn is of a job of the plan that is to run
  abbrev IsOfPlan : Turn → Type 0
  IsOfPlan t = In t.job plan.jobs × (is_to_run (st t.job) ≡ true)

  -- of each of these jobs that is to run there is a turn among these
  abbrev HaveTurns : List Job → List Turn → Type 0
  HaveTurns seen before = (k : Job) → In k seen → is_to_run (st k) ≡ true → (u : Turn) × In u before × (u.job ≡ k)

  have_next : (seen : List Job) (before : List Turn) (t : Turn) → HaveTurns seen before → HaveTurns (t.job ∷ seen) (t ∷ before)
  have_next seen before t have k (inl e) run = (t, inl refl, sym e)
  have_next seen before t have k (inr i) run = let r = have k i run in (r.0, inr r.1, r.2)

  have_skip : (seen : List Job) (before : List Turn) (j : Job) → is_to_run (st j) ≡ false → HaveTurns seen before → HaveTurns (j ∷ seen) before
  have_skip seen before j rests have k (inl e) run = absurd (clash_of (is_to_run (st k)) run (ap (λ y. is_to_run (st y)) e ∙ rests))
  have_skip seen before j rests have k (inr i) run = have k i run

  -- an input holds its clean value, or one of these turns makes it
  input_there :
      (j : Job) (p : Path) (seen : List Job) (before : List Turn) → In j plan.jobs → is_to_run (st j) ≡ true → ((k : Job) → In k seen → In k plan.jobs) →
      HaveTurns seen before → Served plan.jobs seen j → In p (in_paths j.recipe) → IsHeld p ⊎ ((u : Turn) × In u before × In p (out_paths u.job.recipe))
  input_there j p seen before ij run within have served reads =
      let r = reads_reached j p ij reads in go r.0 r.1 r.2 (choice_known flow (sources_of image) L r.0 p r.2.calm)
    where
      made : (d : Candidate) → In (job flow L d) plan.jobs → makes (job flow L d) p ≡ true → is_to_run (st (job flow L d)) ≡ true → (u : Turn) × In u before × In p (out_paths u.job.recipe)
      made d ik m runs = pick (served p (inl reads))
        where
          pick : ((x : Job) → In x plan.jobs → makes x p ≡ false) ⊎ ((x : Job) × In x seen × (makes x p ≡ true)) → (u : Turn) × In u before × In p (out_paths u.job.recipe)
          pick (inl none) = absurd (clash_of (makes (job flow L d) p) m (none (job flow L d) ik))
          pick (inr (x, i, mx)) =
              let same = one_maker x (job flow L d) p (within x i) ik mx m in
              let u = have x i (ap (λ y. is_to_run (st y)) same ∙ runs) in
              (u.0, u.1, subst (λ (y : Job). In p (out_paths y.recipe)) (sym u.2) (made_out x p (within x i) mx))

      go :
          (n : ℕ) → suc n ≤ 200 → Here n p → (choose flow (sources_of image) p ≡ Source) ⊎ ((d : Candidate) × (choose flow (sources_of image) p ≡ Make d)) →
          IsHeld p ⊎ ((u : Turn) × In u before × In p (out_paths u.job.recipe))
      go n few comes (inl e) = inl (source_held p e)
      go n few comes (inr (d, e)) = state (both (is_to_run (st (job flow L d))))
        where
          state : (is_to_run (st (job flow L d)) ≡ true) ⊎ (is_to_run (st (job flow L d)) ≡ false) → IsHeld p ⊎ ((u : Turn) × In u before × In p (out_paths u.job.recipe))
          state (inl runs) =
              inr (made d (in_plan_here flow o.act has_fields image H settings nothing_done plan (bound_fills_from numbered_all) planned n p d comes e)
              (chosen_makes flow image L settings.targets plan.jobs complete known.0.derived p d e) runs)
          state (inr rests) = inl (rest_held n p d j few comes e rests ij run reads)

  -- ## All turns in order

  -- what is said of each of the turns that are left, with those before it
  abbrev EachComes : (List Turn → Turn → Type 0) → List Turn → List Turn → Type 0
  EachComes P before [] = Unit {0}
  EachComes P before (t ∷ ts) = P before t × EachComes P (t ∷ before) ts

  -- its job is of the plan and is to run, and each of its inputs is held or made before
  record IsServedTurn (before : List Turn) (t : Turn) : Type 0 where
    of_plan : IsOfPlan t
    inputs : (p : Path) → In p (in_paths t.job.recipe) → IsHeld p ⊎ ((u : Turn) × In u before × In p (out_paths u.job.recipe))

  in_order :
      (js seen : List Job) (before ts : List Turn) → ((k : Job) → In k js → In k plan.jobs) → ((k : Job) → In k seen → In k plan.jobs) → HaveTurns seen before →
      InOrder plan.jobs seen js → AreRunOf (zip js (map st js)) ts → EachComes IsServedTurn before ts
  in_order [] seen before [] of_js within have order are = tt
  in_order [] seen before (t ∷ ts) of_js within have order are = absurd are
  in_order (j ∷ js) seen before [] of_js within have order are = tt
  in_order (j ∷ js) seen before (t ∷ ts) of_js within have order are =
      go (st j) refl are (λ t ts have more. in_order js (j ∷ seen) (t ∷ before) ts (λ k i. of_js k (inr i)) within_next have order.1 more)
      (λ have more. in_order js (j ∷ seen) before (t ∷ ts) (λ k i. of_js k (inr i)) within_next have order.1 more)
    where
      within_next : (k : Job) → In k (j ∷ seen) → In k plan.jobs
      within_next k (inl e) = of_js k (inl e)
      within_next k (inr i) = within k i

      runs :
          (is_to_run (st j) ≡ true) → (t.job ≡ j) → EachComes IsServedTurn (t ∷ before) ts → EachComes IsServedTurn before (t ∷ ts)
      runs run same later = (
        record {
          of_plan = (subst (λ y. In y plan.jobs) (sym same) (of_js j (inl refl)), ap (λ y. is_to_run (st y)) same ∙ run);
          inputs = λ p i. input_there j p seen before (of_js j (inl refl)) run within have order.0 (subst (λ (y : Job). In p (in_paths y.recipe)) same i);
        },
        later,
      )

      next_have : t.job ≡ j → HaveTurns (j ∷ seen) (t ∷ before)
      next_have same = subst (λ y. HaveTurns (y ∷ seen) (t ∷ before)) same (have_next seen before t have)

      go :
          (s : State) → st j ≡ s → AreRunOf ((j, s) ∷ zip js (map st js)) (t ∷ ts) →
          ((t : Turn) (ts : List Turn) → HaveTurns (j ∷ seen) (t ∷ before) → AreRunOf (zip js (map st js)) ts → EachComes IsServedTurn (t ∷ before) ts) →
          (HaveTurns (j ∷ seen) before → AreRunOf (zip js (map st js)) (t ∷ ts) → EachComes IsServedTurn before (t ∷ ts)) → EachComes IsServedTurn before (t ∷ ts)
      go Open e a next skip = skip (have_skip seen before j (ap is_to_run e) have) a
      go (Dirty reasons) e a next skip = runs (ap is_to_run e) a.0 (next t ts (next_have a.0) a.1)
      go Restore e a next skip = runs (ap is_to_run e) a.0 (next t ts (next_have a.0) a.1)
      go Clean e a next skip = skip (have_skip seen before j (ap is_to_run e) have) a

  -- ## How they are arranged

  -- the turns that are left are of these jobs, which are to run
  run_within : (js : List Job) (ts : List Turn) → AreRunOf (zip js (map st js)) ts → (t : Turn) → In t ts → In t.job js × (is_to_run (st t.job) ≡ true)
  run_within [] [] are t i = absurd i
  run_within [] (u ∷ ts) are t i = absurd are
  run_within (j ∷ js) [] are t i = absurd i
  run_within (j ∷ js) (u ∷ ts) are t i =
      go (st j) refl are i (λ a k. run_within js (u ∷ ts) a t k) (λ a k. run_within js ts a t k)
    where
      later : In t.job js × (is_to_run (st t.job) ≡ true) → In t.job (j ∷ js) × (is_to_run (st t.job) ≡ true)
      later r = (inr r.0, r.1)

      own : u.job ≡ j → is_to_run (st j) ≡ true → In t (u ∷ ts) → (In t ts → In t.job js × (is_to_run (st t.job) ≡ true)) → In t.job (j ∷ js) × (is_to_run (st t.job) ≡ true)
      own same run (inl e) next = let k = ap (λ (x : Turn). x.job) e ∙ same in (inl k, ap (λ y. is_to_run (st y)) k ∙ run)
      own same run (inr k) next = later (next k)

      go :
          (s : State) → st j ≡ s → AreRunOf ((j, s) ∷ zip js (map st js)) (u ∷ ts) → In t (u ∷ ts) →
          (AreRunOf (zip js (map st js)) (u ∷ ts) → In t (u ∷ ts) → In t.job js × (is_to_run (st t.job) ≡ true)) →
          (AreRunOf (zip js (map st js)) ts → In t ts → In t.job js × (is_to_run (st t.job) ≡ true)) → In t.job (j ∷ js) × (is_to_run (st t.job) ≡ true)
      go Open e a k same next = later (same a k)
      go (Dirty reasons) e a k same next = own a.0 (ap is_to_run e) k (next a.1)
      go Restore e a k same next = own a.0 (ap is_to_run e) k (next a.1)
      go Clean e a k same next = later (same a k)

  -- what jobs make and log that came lies apart from what the others do
  abbrev Cross : List Job → List Job → Type 0
  Cross seen js = (x k : Job) (s r : Spot) → In x seen → In k js → In s (spots x) → In r (spots k) → overlaps r.0 s.0 ≡ false

  owned_path : (j : Job) (q : Path) → In j plan.jobs → In q (owned_paths j.recipe j.logs) → is_path q ≡ true
  owned_path j q i k =
      let c = candidate j i in
      let t = derived_walked flow (sources_of image) L settings.targets c.0 c.1 in
      let x = walked_chosen flow (sources_of image) L 200 t.0 c.0 t.2 in
      and_left (is_path q) _ (owned_fits flow (sources_of image) L x.0 q c.0 x.1 (subst (λ (z : Job). In q (owned_paths z.recipe z.logs)) c.2 k))

  -- an input overlaps nothing that a job makes or logs that comes now or later
  input_clear :
      (p : Path) (seen : List Job) (before : List Turn) (k : Job) (js : List Job) → ((u : Turn) → In u before → In u.job seen) → Cross seen js →
      In k js → In k plan.jobs → is_to_run (st k) ≡ true → IsHeld p ⊎ ((u : Turn) × In u before × In p (out_paths u.job.recipe)) →
      list_any (overlaps p) (owned_paths k.recipe k.logs) ≡ false
  input_clear p seen before k js of_seen cross ik inn run (inl h) = none_of (overlaps p) (owned_paths k.recipe k.logs) (λ q m. h.apart k q inn run m)
  input_clear p seen before k js of_seen cross ik inn run (inr (u, b, m)) =
      none_of (overlaps p) (owned_paths k.recipe k.logs) (λ q i.
      let s = owned_spot k q i in flipped q p (cross u.job k (p, true) (q, s.0) (of_seen u b) ik (output_spot u.job p m) s.1))

  input_path : (p : Path) (before : List Turn) → ((u : Turn) → In u before → In u.job plan.jobs) → IsHeld p ⊎ ((u : Turn) × In u before × In p (out_paths u.job.recipe)) → is_path p ≡ true
  input_path p before of_plan (inl h) = h.path
  input_path p before of_plan (inr (u, b, m)) = owned_path u.job p (of_plan u b) (in_left p (out_paths u.job.recipe) u.job.logs m)

  arranged_from :
      (js seen : List Job) (before ts : List Turn) → ((k : Job) → In k js → In k plan.jobs) → ((k : Job) → In k seen → In k plan.jobs) → HaveTurns seen before →
      ((u : Turn) → In u before → In u.job seen) → InOrder plan.jobs seen js → Cross seen js → SpotsApart (flat_map spots js) → AreRunOf (zip js (map st js)) ts → AreArranged ts
  arranged_from [] seen before [] of_js within have of_seen order cross apart are = tt
  arranged_from [] seen before (t ∷ ts) of_js within have of_seen order cross apart are = absurd are
  arranged_from (j ∷ js) seen before [] of_js within have of_seen order cross apart are = tt
  arranged_from (j ∷ js) seen before (t ∷ ts) of_js within have of_seen order cross apart are =
      go (st j) refl are
      (λ t ts have of_next more. arranged_from js (j ∷ seen) (t ∷ before) ts (λ k i. of_js k (inr i)) within_next have of_next order.1 cross_next parts.1 more)
      (λ have more. arranged_from js (j ∷ seen) before (t ∷ ts) (λ k i. of_js k (inr i)) within_next have (λ u b. inr (of_seen u b)) order.1 cross_next parts.1 more)
    where
      parts : SpotsApart (spots j) × SpotsApart (flat_map spots js) × ((s r : Spot) → In s (spots j) → In r (flat_map spots js) → overlaps r.0 s.0 ≡ false)
      parts = spots_append (spots j) (flat_map spots js) apart

      within_next : (k : Job) → In k (j ∷ seen) → In k plan.jobs
      within_next k (inl e) = of_js k (inl e)
      within_next k (inr i) = within k i

      cross_next : Cross (j ∷ seen) js
      cross_next x k s r (inl e) ik is ir = parts.2 s r (subst (λ y. In s (spots y)) e is) (in_flat spots js k r ik ir)
      cross_next x k s r (inr i) ik is ir = cross x k s r i (inr ik) is ir

      inn : In j plan.jobs
      inn = of_js j (inl refl)

      here : is_to_run (st j) ≡ true → t.job ≡ j → AreRunOf (zip js (map st js)) ts → AreArranged ts → AreArranged (t ∷ ts)
      here run same more later =
          let there : (p : Path) → In p (in_paths t.job.recipe) → IsHeld p ⊎ ((u : Turn) × In u before × In p (out_paths u.job.recipe)) =
          λ p i. input_there j p seen before inn run within have order.0 (subst (λ (y : Job). In p (in_paths y.recipe)) same i) in
          let own : (q : Path) → In q (owned t) → In q (owned_paths j.recipe j.logs) = λ q i. subst (λ (y : Job). In q (owned_paths y.recipe y.logs)) same i in (
            record {
              users = each_from (λ p. IsTrue (is_path p)) (owned t) (λ q i. owned_path j q inn (own q i));
              apart =
                  subst (λ (y : Job). are_apart (owned_paths y.recipe y.logs) ≡ true) (sym same)
                  (subst (λ ps. are_apart ps ≡ true) (spots_at (out_paths j.recipe) j.logs) (spots_are_apart (spots j) parts.0));
            },
            each_from (λ p. (is_at_or_under p own_folder ≡ false) × (list_any (overlaps p) (owned t) ≡ false)) (in_paths t.job.recipe) (λ p i. (
              path_outside p (input_path p before (λ u b. within u.job (of_seen u b)) (there p i)),
              subst (λ (y : Job). list_any (overlaps p) (owned_paths y.recipe y.logs) ≡ false) (sym same)
                  (input_clear p seen before j (j ∷ js) of_seen cross (inl refl) inn run (there p i)),
            )),
            each_from (LeavesAlone t) ts (λ u i.
                let r = run_within js ts more u i in
                record {
                  inputs = each_from (λ p. list_any (overlaps p) (owned u) ≡ false) (in_paths t.job.recipe) (λ p k.
                      input_clear p seen before u.job (j ∷ js) of_seen cross (inr r.0) (of_js u.job (inr r.0)) r.1 (there p k));
                  own = each_from (λ p. list_any (overlaps p) (owned u) ≡ false) (owned t) (λ p k.
                      let s = owned_spot j p (own p k) in
                      none_of (overlaps p) (owned u) (λ q m.
                      let v = owned_spot u.job q m in flipped q p (parts.2 (p, s.0) (q, v.0) s.1 (in_flat spots js u.job (q, v.0) r.0 v.1))));
                }),
            later,
          )

      next_have : t.job ≡ j → HaveTurns (j ∷ seen) (t ∷ before)
      next_have same = subst (λ y. HaveTurns (y ∷ seen) (t ∷ before)) same (have_next seen before t have)

      next_of : t.job ≡ j → (u : Turn) → In u (t ∷ before) → In u.job (j ∷ seen)
      next_of same u (inl e) = inl (ap (λ (x : Turn). x.job) e ∙ same)
      next_of same u (inr b) = inr (of_seen u b)

      go :
          (s : State) → st j ≡ s → AreRunOf ((j, s) ∷ zip js (map st js)) (t ∷ ts) →
          ((t : Turn) (ts : List Turn) → HaveTurns (j ∷ seen) (t ∷ before) → ((u : Turn) → In u (t ∷ before) → In u.job (j ∷ seen)) → AreRunOf (zip js (map st js)) ts → AreArranged ts) →
          (HaveTurns (j ∷ seen) before → AreRunOf (zip js (map st js)) (t ∷ ts) → AreArranged (t ∷ ts)) → AreArranged (t ∷ ts)
      go Open e a next skip = skip (have_skip seen before j (ap is_to_run e) have) a
      go (Dirty reasons) e a next skip = here (ap is_to_run e) a.0 a.1 (next t ts (next_have a.0) (next_of a.0) a.1)
      go Restore e a next skip = here (ap is_to_run e) a.0 a.1 (next t ts (next_have a.0) (next_of a.0) a.1)
      go Clean e a next skip = skip (have_skip seen before j (ap is_to_run e) have) a

  module _ (all : List Turn) (are : AreRunOf (staged plan) all) where
    all_arranged : AreArranged all
    all_arranged =
        arranged_from plan.jobs [] [] all (λ k i. i) (λ k i. absurd i) (λ k i run. absurd i) (λ u i. absurd i)
        (derived_order flow image L settings.targets plan.jobs complete known.0.derived) (λ x k s r i ik is ir. absurd i)
        (spots_apart image [] (flat_map spots plan.jobs) clear) (subst (λ ss. AreRunOf (zip plan.jobs ss) all) known.0.states are)

    each_comes : EachComes IsServedTurn [] all
    each_comes =
        in_order plan.jobs [] [] all (λ k i. i) (λ k i. absurd i) (λ k i run. absurd i)
        (derived_order flow image L settings.targets plan.jobs complete known.0.derived) (subst (λ ss. AreRunOf (zip plan.jobs ss) all) known.0.states are)

    -- what the turns read, and which of it some turn makes
    abbrev all_read : List Path
    all_read = flat_map (λ (t : Turn). in_paths t.job.recipe) all

    abbrev is_made : Path → Bool
    is_made p = list_any (λ (t : Turn). among (out_paths t.job.recipe) p) all

    abbrev held : List Path
    held = filter (λ p. not (list_any (λ (t : Turn). among (out_paths t.job.recipe) p) all)) all_read

    abbrev made_of : Turn → List Path
    made_of t = filter (among (out_paths t.job.recipe)) all_read

    -- each turn, with some of those before it
    served_at : (before ts : List Turn) → EachComes IsServedTurn before ts → (t : Turn) → In t ts → (some : List Turn) × IsServedTurn some t × ((u : Turn) → In u some → In u before ⊎ In u ts)
    served_at before [] h t i = absurd i
    served_at before (x ∷ ts) h t (inl e) = (before, subst (IsServedTurn before) (sym e) h.0, λ u k. inl k)
    served_at before (x ∷ ts) h t (inr i) =
        let r = served_at (x ∷ before) ts h.1 t i in (r.0, r.1, λ u k. turn u (r.2 u k))
      where
        turn : (u : Turn) → In u (x ∷ before) ⊎ In u ts → In u before ⊎ In u (x ∷ ts)
        turn u (inl (inl e)) = inr (inl e)
        turn u (inl (inr k)) = inl k
        turn u (inr k) = inr (inr k)

    served : (t : Turn) → In t all → (some : List Turn) × IsServedTurn some t × ((u : Turn) → In u some → In u all)
    served t i =
        let r = served_at [] all each_comes t i in (r.0, r.1, λ u k. pick u (r.2 u k))
      where
        pick : (u : Turn) → In u [] ⊎ In u all → In u all
        pick u (inl k) = absurd k
        pick u (inr k) = k

    is_read : (p : Path) → In p all_read → (t : Turn) × In t all × In p (in_paths t.job.recipe)
    is_read p i = flat_in (λ (t : Turn). in_paths t.job.recipe) all p i

    is_made_by : (t : Turn) (p : Path) → In t all → In p (out_paths t.job.recipe) → is_made p ≡ true
    is_made_by t p i k = any_from (λ (t : Turn). among (out_paths t.job.recipe) p) all t i (in_among (out_paths t.job.recipe) p k)

    -- what is held is a file that is its clean value
    held_file : (p : Path) → In p held → IsHeld p
    held_file p i =
        let f = filter_in (λ p. not (list_any (λ (t : Turn). among (out_paths t.job.recipe) p) all)) all_read p i in
        let t = is_read p f.0 in
        let s = served t.0 t.1 in
        go (not_true (is_made p) f.1) s.0 s.2 (s.1.inputs p t.2)
      where
        go : is_made p ≡ false → (some : List Turn) → ((u : Turn) → In u some → In u all) → IsHeld p ⊎ ((u : Turn) × In u some × In p (out_paths u.job.recipe)) → IsHeld p
        go none some within (inl h) = h
        go none some within (inr (u, k, m)) = absurd (clash_of (is_made p) (is_made_by u p (within u k) m) none)

    held_clean : (p : Path) → In p held → IsCleanIn S 200 w p
    held_clean p i =
        let h = held_file p i in
        let f = some_of (file_at image p) h.file in
        let same : File f.0.bytes ≡ h.tree = some_inj (File f.0.bytes) h.tree (sym (file_tree image p f.0 f.1) ∙ h.now) in
        record { held = f.0.bytes; holds = held_bytes (w.nodes p) (is_outside p) f.0 f.1; clean = h.clean ∙ ap Some (sym same) }

    held_alone : (p : Path) → In p held → IsLeftAlone all p
    held_alone p i =
        let h = held_file p i in
        record {
          outside = path_outside p h.path;
          clear = each_from (λ (t : Turn). list_any (overlaps p) (owned t) ≡ false) all (λ t k.
              let s = served t k in none_of (overlaps p) (owned t) (λ q m. h.apart t.job q s.1.of_plan.0 s.1.of_plan.1 m));
        }

    -- a path that a turn reads and another one makes has the latter's job
    made_chosen : (t : Turn) (c : Candidate) (p : Path) → In t all → In c (chosen flow (sources_of image) L settings.targets) → t.job ≡ job flow L c → In p (made_of t) → In p (out_paths t.job.recipe) × (choose flow (sources_of image) p ≡ Make c)
    made_chosen t c p i k e m =
        let f = filter_in (among (out_paths t.job.recipe)) all_read p m in
        let out = among_in (out_paths t.job.recipe) p f.1 in
        let u = is_read p f.0 in
        let su = (served u.0 u.1).1.of_plan in
        let st_plan = (served t i).1.of_plan in
        let r = reads_reached u.0.job p su.0 u.2 in
        (out, go r.0 r.2 st_plan.0 out (choice_known flow (sources_of image) L r.0 p r.2.calm))
      where
        go :
            (n : ℕ) → Here n p → In t.job plan.jobs → In p (out_paths t.job.recipe) →
            (choose flow (sources_of image) p ≡ Source) ⊎ ((d : Candidate) × (choose flow (sources_of image) p ≡ Make d)) → choose flow (sources_of image) p ≡ Make c
        go n comes here out (inl s) =
            let x = derived_walked flow (sources_of image) L settings.targets c k in
            let y = walked_chosen flow (sources_of image) L 200 x.0 c x.2 in
            absurd (clash_of (makes (job flow L c) p) (subst (λ (z : Job). makes z p ≡ true) e (out_makes t.job p out))
            (source_unmade flow image L complete y.0 p c y.1 (source_chosen flow (sources_of image) p s)))
        go n comes here out (inr (d, a)) =
            let ik = in_plan_here flow o.act has_fields image H settings nothing_done plan (bound_fills_from numbered_all) planned n p d comes a in
            let dout = made_out (job flow L d) p ik (chosen_makes flow image L settings.targets plan.jobs complete known.0.derived p d a) in
            let d_in = derived_of n d comes a in
            let same : c ≡ d =
            one_of flow L (chosen flow (sources_of image) L settings.targets)
            (subst Rattle.smk_laws_plan.proofs.CurrentApart.JobsApart (sym jobs_are) (derived_apart flow image L settings.targets plan.jobs complete known.0.derived)) c d k d_in p p
            (subst (λ (z : Job). In p (out_paths z.recipe)) e out) dout (inl refl) in
            a ∙ ap Make (sym same)
          where
            derived_of : (n : ℕ) (d : Candidate) → Here n p → choose flow (sources_of image) p ≡ Make d → In d (chosen flow (sources_of image) L settings.targets)
            derived_of zero d comes a = absurd (reached_zero flow (sources_of image) L _ p d comes a)
            derived_of (suc m) d comes a =
                walked_derived flow (sources_of image) L settings.targets d
                (reached_own flow (sources_of image) L (flat_map (walk flow (sources_of image) L 200) settings.targets) m p d comes a)

    -- the turns are fed
    fed_from :
        (have : List Path) (before ts : List Turn) → ((t : Turn) → In t ts → In t all) → ((p : Path) → In p all_read → is_made p ≡ false → In p have) →
        ((u : Turn) (p : Path) → In u before → In p all_read → In p (out_paths u.job.recipe) → In p have) → ((u : Turn) → In u before → In u all) →
        EachComes IsServedTurn before ts → AreFed S have ts
    fed_from have before [] of_all has made before_all h = tt
    fed_from have before (t ∷ ts) of_all has made before_all h =
        let i = of_all t (inl refl) in
        let c = candidate t.job h.0.of_plan.0 in
        let plain_outs = each_in (λ (x : Job). Each (λ (out : Out). out.kind ≡ Plain) (outs_of x.recipe)) plan.jobs t.job plain.plain h.0.of_plan.0 in
        let turn : IsGoodTurn S t =
        record { lists = L; by = c.0; of_job = c.2; good = good t.job c.0 h.0.of_plan.0 c.1 c.2; plain = plain_outs } in (
          turn,
          each_from (IsIn have) (in_paths t.job.recipe) (λ p k. input p k i (h.0.inputs p k)),
          (
            made_of t,
            each_from (λ p. IsIn (out_paths t.job.recipe) p × (choose flow (sources_of image) p ≡ Make c.0)) (made_of t) (λ p k. made_chosen t c.0 p i c.1 c.2 k),
            fed_from (have ++ made_of t) (t ∷ before) ts (λ u k. of_all u (inr k)) (λ p k none. in_left p have (made_of t) (has p k none)) next_made next_all h.1,
          ),
        )
      where
        read : (p : Path) → In p (in_paths t.job.recipe) → In t all → In p all_read
        read p k i = in_flat (λ (t : Turn). in_paths t.job.recipe) all t p i k

        input : (p : Path) → In p (in_paths t.job.recipe) → In t all → IsHeld p ⊎ ((u : Turn) × In u before × In p (out_paths u.job.recipe)) → In p have
        input p k i (inr (u, b, m)) = made u p b (read p k i) m
        input p k i (inl h) = by_made (both (is_made p))
          where
            by_made : (is_made p ≡ true) ⊎ (is_made p ≡ false) → In p have
            by_made (inr none) = has p (read p k i) none
            by_made (inl some) =
                let u = any_in (λ (t : Turn). among (out_paths t.job.recipe) p) all some in
                let s = (served u.0 u.1).1.of_plan in
                absurd (clash_of (overlaps p p) (touch_overlaps p p (inl refl))
                (h.apart u.0.job p s.0 s.1 (in_left p (out_paths u.0.job.recipe) u.0.job.logs (among_in (out_paths u.0.job.recipe) p u.2))))

        next_made : (u : Turn) (p : Path) → In u (t ∷ before) → In p all_read → In p (out_paths u.job.recipe) → In p (have ++ made_of t)
        next_made u p (inl e) k m =
            in_right p have (made_of t)
            (in_filter (among (out_paths t.job.recipe)) all_read p k (in_among (out_paths t.job.recipe) p (subst (λ (x : Turn). In p (out_paths x.job.recipe)) e m)))
        next_made u p (inr b) k m = in_left p have (made_of t) (made u p b k m)

        next_all : (u : Turn) → In u (t ∷ before) → In u all
        next_all u (inl e) = of_all u (inl e)
        next_all u (inr b) = before_all u b

    all_fed : AreFed S held all
    all_fed =
        fed_from held [] all (λ t i. i) (λ p i none. in_filter (λ p. not (list_any (λ (t : Turn). among (out_paths t.job.recipe) p) all)) all_read p i (ap not none))
        (λ u p i k m. absurd i) (λ u i. absurd i) each_comes

pub planned_turns_are_fed : PlannedTurnsAreFed
planned_turns_are_fed flow o has_fields w H settings plan ts differ sound last alone values plain are = (
  held flow o has_fields w H settings plan differ sound last alone values plain ts are,
  each_from (IsCleanIn (setting_of flow o.act has_fields (seen o.read w)) 200 w) (held flow o has_fields w H settings plan differ sound last alone values plain ts are)
      (λ p i. held_clean flow o has_fields w H settings plan differ sound last alone values plain ts are p i),
  each_from (IsLeftAlone ts) (held flow o has_fields w H settings plan differ sound last alone values plain ts are)
      (λ p i. held_alone flow o has_fields w H settings plan differ sound last alone values plain ts are p i),
  all_fed flow o has_fields w H settings plan differ sound last alone values plain ts are,
)

pub planned_turns_are_arranged : PlannedTurnsAreArranged
planned_turns_are_arranged flow o has_fields w H settings plan ts differ sound last alone values plain are =
    all_arranged flow o has_fields w H settings plan differ sound last alone values plain ts are
