-- What a plan says of a directory whose listing becomes known: a job that the walk comes to makes it, and it stands as its command
-- makes it of clean values.
use Rattle.std.proofs.Common.{◌≡◌, ◌⊎◌, ℕ, zero, suc, ◌≤◌, arith, Bool, true, false, not, cond, ◌&&◌, [], ◌++◌, find, flat_map, zip, refl, sym, ap, subst, inl, inr, ◌∙◌, Option, Some, None, option_map, is_some, true≢false}
use Rattle.std.specs.Prelude.{bytes_eq}
use Rattle.smk_base.specs.Path.{is_under}
use Rattle.smk_base.specs.declared.tree.Tree.{Tree}
use Rattle.smk_base.specs.declared.tree.Tree.TheVariants.{File, Folder}
use Rattle.smk_world.specs.declared.recipe.Kind.TheVariants.{Plain, Folder as FolderKind}
use Rattle.smk_world.specs.declared.recipe.Recipe.{Recipe}
use Rattle.smk_world.specs.World.{in_paths, out_paths}
use Rattle.smk_world.specs.Trees.{Path, Act, among, files_of, folder_over, folders_of, kind_in}
use Rattle.smk_record.specs.Records.{members_of}
use Rattle.smk_record.specs.declared.record.Record.{Record}
use Rattle.smk_pattern.specs.Bound.{BoundFills}
use Rattle.smk_flow.specs.declared.job.Job.{Job}
use Rattle.smk_flow.specs.Flows.{Flow, Candidate}
use Rattle.smk_choose.specs.Choose.{choose, Source, Make}
use Rattle.smk_store.specs.Images.{Image, bytes_of, is_folder, is_whole, members_under, names_under, record_at, tree_now}
use Rattle.smk_store.specs.Trust.{Versions}
use Rattle.smk_chain.specs.Derive.{distinct, job, recipe, same_candidate, sources_of, walk}
use Rattle.smk_trigger.specs.declared.reason.State.{State}
use Rattle.smk_trigger.specs.declared.reason.State.TheVariants.{Open, Dirty, Restore, Clean}
use Rattle.smk_trigger.specs.JobStates.{is_clean, is_open, is_dirty}
use Rattle.smk_pick.specs.declared.settings.Settings.{Settings}
use Rattle.smk_plan.specs.States.{Plan, Progress, awaited, awaits, directory_over, files_listed, gathers_from, is_ready, is_restored, is_whole_by, maker_of, makes, none_or_one, stands_whole, state_of, test_some}
use Rattle.smk_laws_plan.proofs.CurrentLists.{In, and_left, and_right, clash_of, distinct_in, find_in, flat_in, filter_in, in_either, in_right, map_in, or_first, some_inj, zip_in}
use Rattle.smk_laws_plan.proofs.CurrentPaths.{Above, above_touch, in_among}
use Rattle.smk_laws_plan.proofs.CurrentReach.{choice_known, reached_zero}
use Rattle.smk_laws_plan.proofs.CurrentWalked.{walked_chosen}
use Rattle.smk_laws_plan.proofs.CurrentApart.{Apart, apart_same, maker_found}
use Rattle.smk_laws_plan.proofs.CurrentTrees.{entries, listed_under, members_same, names_of}
use Rattle.smk_laws_history.proofs.CurrentEased.{none_restored}
use Rattle.smk_laws_plan.proofs.CurrentProducts.{Planned, Product, Quiet, Rested, ReachedHere, in_plan_here, maker_is, output_alone, own_outputs, quiet_by, quiet_product, target_reached}
use Rattle.smk_laws_plan.proofs.CurrentMeaning.{source_chosen}
use Rattle.smk_laws_history.proofs.CurrentReads.{wanted_comes}
use Rattle.smk_laws_plan.proofs.PlanOne.{derived, derived_apart}
use Rattle.smk_laws_plan.proofs.PlanOrder.{source_unmade}
use Rattle.smk_laws_plan.specs.Current.{IsComplete}
use Rattle.smk_laws_complete.proofs.Standing.{Stands, stands}

-- ## Folders

-- a whole folder has the files that its record lists
pub folder_listed :
    (image : Image) (f : Path) (t : Tree) → IsComplete image → is_whole image f FolderKind ≡ true → tree_now image f ≡ Some t → files_of t ≡ files_listed image f
folder_listed image f t complete whole now =
    let folder = and_left (is_folder image f) _ whole in
    let same = members_same (members_under image f) (members_of (record_at image f)) (and_right (is_some (record_at image f)) _ (and_right (is_folder image f) _ whole)) in
    let tree : Folder (entries image f image.names) ≡ t =
    some_inj (Folder (entries image f image.names)) t
    (sym (ap (λ b. cond b (Some (Folder (entries image f image.names))) (option_map File (bytes_of (image.node f)))) folder) ∙ now) in
    sym (ap files_of tree) ∙ listed_under image f stand ∙ ap names_of same
  where
    stand : (q : Path) → In q (names_under image f) → is_some (image.node q) ≡ true
    stand q i = sym (complete.names q) ∙ in_among image.names q ((filter_in (λ p. is_under p f) image.names q i).0)

closed : (s : State) → is_clean s ≡ true → (is_open s ≡ false) × (is_dirty s ≡ false)
closed Open h = absurd (true≢false (sym h))
closed (Dirty reasons) h = absurd (true≢false (sym h))
closed Restore h = absurd (true≢false (sym h))
closed Clean h = (refl, refl)

passed : (test : Job × State → Bool) (o : Option (Job × State)) → test_some test o ≡ true → (e : Job × State) × (o ≡ Some e) × (test e ≡ true)
passed test None h = absurd (true≢false (sym h))
passed test (Some e) h = (e, refl, h)

module _
    (flow : Flow) (act : Act) (has_fields : Job → Bool) (image : Image) (H : Versions) (settings : Settings) (progress : Progress)
    (plan : Plan) (fills : BoundFills) (planned : Planned flow image settings progress plan) where
  abbrev Here : ℕ → Path → Type 0
  Here n p = ReachedHere flow act has_fields image H settings progress plan n p

  abbrev state : Job → State
  state j = state_of image settings progress plan j

  -- ## Makers

  -- nothing makes a source
  source_unmade_here : (q : Path) (e : Job × State) → choose flow (sources_of image) q ≡ Source → maker_of plan q ≡ Some e → ⊥
  source_unmade_here q e s m =
      let r = find_in (λ (e : Job × State). makes e.0 q) (zip plan.jobs plan.states) e m in
      let j = (zip_in state plan.jobs e (subst (λ ss. In e (zip plan.jobs ss)) planned.derived.states r.0)).0 in
      let d = derived flow image plan.lists settings.targets plan.jobs planned.complete planned.derived.derived in
      let all = flat_map (walk flow (sources_of image) plan.lists 200) settings.targets in
      let c = map_in (job flow plan.lists) (distinct same_candidate all) e.0 (subst (In e.0) (sym d.1) j) in
      let t = flat_in (walk flow (sources_of image) plan.lists 200) settings.targets c.0 (distinct_in same_candidate all c.0 c.1) in
      let p = walked_chosen flow (sources_of image) plan.lists 200 t.0 c.0 t.2 in
      clash_of (makes e.0 q) r.1
      (subst (λ x. makes x q ≡ false) (sym c.2)
      (source_unmade flow image plan.lists planned.complete p.0 q c.0 p.1 (source_chosen flow (sources_of image) q s)))

  -- the directory over a path, and what makes the path
  over_of : (q f : Path) → In f (directory_over plan q) → (e : Job × State) × (maker_of plan q ≡ Some e) × (folder_over e.0.recipe q ≡ Some f)
  over_of q f h = go (maker_of plan q) refl h
    where
      one : (o : Option Path) → In f (none_or_one o ++ []) → o ≡ Some f
      one None k = absurd k
      one (Some x) (inl e) = ap Some (sym e)
      one (Some x) (inr k) = absurd k

      go :
          (o : Option (Job × State)) → maker_of plan q ≡ o → In f (flat_map (λ (e : Job × State). none_or_one (folder_over e.0.recipe q)) (none_or_one o)) →
          (e : Job × State) × (maker_of plan q ≡ Some e) × (folder_over e.0.recipe q ≡ Some f)
      go None m k = absurd k
      go (Some e) m k = (e, m, one (folder_over e.0.recipe q) k)

  -- A path that the walk comes to, with its job: f itself, or a member of f.
  pub record Maker (f : Path) : Type 0 where
    pub left : ℕ
    pub few : suc left ≤ 200
    pub path : Path
    pub by : Candidate
    pub comes : Here (suc left) path
    pub chosen : choose flow (sources_of image) path ≡ Make by
    pub place : (path ≡ f) ⊎ (folder_over (recipe flow plan.lists by) path ≡ Some f)

  -- what makes a path that the walk comes to, if anything does
  reached_maker :
      (f q : Path) (n : ℕ) → n ≤ 200 → Here n q → (e : Job × State) → maker_of plan q ≡ Some e →
      (q ≡ f) ⊎ (folder_over e.0.recipe q ≡ Some f) → Maker f
  reached_maker f q n few comes e m place = go (choice_known flow (sources_of image) plan.lists n q comes.calm) n few comes
    where
      at : (n : ℕ) (d : Candidate) → Here n q → choose flow (sources_of image) q ≡ Make d → (q ≡ f) ⊎ (folder_over (recipe flow plan.lists d) q ≡ Some f)
      at n d comes c = pick place
        where
          same : e.0 ≡ job flow plan.lists d
          same =
              ap (λ (x : Job × State). x.0)
              (some_inj e (job flow plan.lists d, state (job flow plan.lists d))
              (sym m ∙ maker_is flow act has_fields image H settings progress plan fills planned n q d comes c))

          pick : (q ≡ f) ⊎ (folder_over e.0.recipe q ≡ Some f) → (q ≡ f) ⊎ (folder_over (recipe flow plan.lists d) q ≡ Some f)
          pick (inl s) = inl s
          pick (inr o) = inr (subst (λ (j : Job). folder_over j.recipe q ≡ Some f) same o)

      go : (choose flow (sources_of image) q ≡ Source) ⊎ ((d : Candidate) × (choose flow (sources_of image) q ≡ Make d)) → (n : ℕ) → n ≤ 200 → Here n q → Maker f
      go (inl s) n few comes = absurd (source_unmade_here q e s m)
      go (inr (d, c)) zero few comes = absurd (reached_zero flow (sources_of image) plan.lists _ q d comes c)
      go (inr (d, c)) (suc k) few comes =
          record { left = k; few = few; path = q; by = d; comes = comes; chosen = c; place = at (suc k) d comes c }

  -- a directory that is awaited and ready has one
  pub awaited_maker : (f : Path) → In f (awaited image settings progress plan) → is_ready image settings progress plan f ≡ true → Maker f
  awaited_maker f h ready =
      go (in_either f (flat_map (awaits plan) plan.jobs) (flat_map (directory_over plan) settings.targets)
      (distinct_in bytes_eq (flat_map (awaits plan) plan.jobs ++ flat_map (directory_over plan) settings.targets) f h))
    where
      by_wanted : (j : Job) → In j plan.jobs → (q : Path) → In q (in_paths j.recipe ++ gathers_from j) → (e : Job × State) → maker_of plan q ≡ Some e → (q ≡ f) ⊎ (folder_over e.0.recipe q ≡ Some f) → Maker f
      by_wanted j i q k e m place =
          let w = wanted_comes flow act has_fields image H settings progress plan planned j q i k in
          let b = w.1 in reached_maker f q w.0 (omega arith) w.2 e m place

      of_job : (j : Job) → In j plan.jobs → In f (gathers_from j) ⊎ In f (flat_map (directory_over plan) (in_paths j.recipe ++ gathers_from j)) → Maker f
      of_job j i (inl k) =
          let m = passed (λ (e : Job × State). is_clean e.1 && stands_whole image f e.0) (maker_of plan f) ready in
          by_wanted j i f (in_right f (in_paths j.recipe) (gathers_from j) k) m.0 m.1 (inl refl)
      of_job j i (inr k) =
          let q = flat_in (directory_over plan) (in_paths j.recipe ++ gathers_from j) f k in
          let e = over_of q.0 f q.2 in by_wanted j i q.0 q.1 e.0 e.1 (inr e.2)

      go : In f (flat_map (awaits plan) plan.jobs) ⊎ In f (flat_map (directory_over plan) settings.targets) → Maker f
      go (inl k) =
          let j = flat_in (awaits plan) plan.jobs f k in
          of_job j.0 j.1 (in_either f (gathers_from j.0) (flat_map (directory_over plan) (in_paths j.0.recipe ++ gathers_from j.0)) j.2)
      go (inr k) =
          let q = flat_in (directory_over plan) settings.targets f k in
          let e = over_of q.0 f q.2 in
          reached_maker f q.0 200 (let top : 200 ≤ 200 = omega arith in top) (target_reached flow act has_fields image H settings progress plan fills planned q.0 q.1) e.0 e.1 (inr e.2)

module _
    (flow : Flow) (act : Act) (has_fields : Job → Bool) (image : Image) (H : Versions) (settings : Settings) (progress : Progress)
    (plan : Plan) (fills : BoundFills) (rest : Rested flow act has_fields image H settings progress plan) (idle : progress.running ≡ []) where
  abbrev MakerHere : Path → Type 0
  MakerHere f = Maker flow act has_fields image H settings progress plan fills rest.planned f

  -- what stands at an output that is ready
  pub record IsMadeReady (f : Path) (m : MakerHere f) : Type 0 where
    pub quiet : Quiet flow act has_fields image H settings progress plan m.by
    pub whole : is_whole image f (kind_in (recipe flow plan.lists m.by) f) ≡ true
    pub there : Stands flow act has_fields image H settings progress plan fills rest m.left m.by f

  pub made_ready :
      (f : Path) (m : MakerHere f) → In f (out_paths (recipe flow plan.lists m.by)) → is_ready image settings progress plan f ≡ true → IsMadeReady f m
  made_ready f m inn ready =
      let from = quiet_product flow act has_fields image H settings progress plan fills rest.planned (suc m.left) m.path m.by m.comes m.chosen quiet in
      let same = at_f from.0 from.2.is_output (above from.2.place) in
      record { quiet = quiet; whole = whole; there = standing from.0 from.1 same from.2 }
    where
      here : In (job flow plan.lists m.by) plan.jobs
      here = in_plan_here flow act has_fields image H settings progress plan fills rest.planned (suc m.left) m.path m.by m.comes m.chosen

      found : maker_of plan f ≡ Some ((job flow plan.lists m.by), (state_of image settings progress plan (job flow plan.lists m.by)))
      found =
          ap (λ ss. find (λ (e : Job × State). makes e.0 f) (zip plan.jobs ss)) rest.planned.derived.states
          ∙ maker_found (state_of image settings progress plan) plan.jobs (job flow plan.lists m.by) f
          (derived_apart flow image plan.lists settings.targets plan.jobs rest.planned.complete rest.planned.derived.derived) here
          (or_first (among (out_paths (recipe flow plan.lists m.by)) f) (is_some (folder_over (recipe flow plan.lists m.by) f)) (in_among (out_paths (recipe flow plan.lists m.by)) f inn))

      both : (is_clean (state_of image settings progress plan (job flow plan.lists m.by)) && stands_whole image f (job flow plan.lists m.by)) ≡ true
      both = sym (ap (test_some (λ (e : Job × State). is_clean e.1 && stands_whole image f e.0)) found) ∙ ready

      quiet : Quiet flow act has_fields image H settings progress plan m.by
      quiet =
          let s = closed (state_of image settings progress plan (job flow plan.lists m.by)) (and_left (is_clean (state_of image settings progress plan (job flow plan.lists m.by))) (stands_whole image f (job flow plan.lists m.by)) both) in
          quiet_by flow act has_fields image H settings progress plan fills rest.planned m.by s.0 s.1

      apart : Apart (out_paths (recipe flow plan.lists m.by))
      apart = own_outputs flow act has_fields image H settings progress plan fills rest.planned (suc m.left) m.path m.by m.comes m.chosen

      whole : is_whole image f (kind_in (recipe flow plan.lists m.by) f) ≡ true
      whole =
          sym (ap (is_whole_by image f (kind_in (recipe flow plan.lists m.by) f))
          (output_alone flow act has_fields image H settings progress plan fills rest.planned m.by f apart inn))
          ∙ and_right (is_clean (state_of image settings progress plan (job flow plan.lists m.by))) (stands_whole image f (job flow plan.lists m.by)) both

      above : {h : Path} → (m.path ≡ h) ⊎ (is_under m.path h ≡ true) × In h (folders_of (recipe flow plan.lists m.by)) → Above m.path h
      above (inl s) = inl s
      above (inr u) = inr u.0

      over : (m.path ≡ f) ⊎ (folder_over (recipe flow plan.lists m.by) m.path ≡ Some f) → Above m.path f
      over (inl s) = inl s
      over (inr o) = inr ((find_in (is_under m.path) (folders_of (recipe flow plan.lists m.by)) f o).1)

      at_f : (h : Path) → In h (out_paths (recipe flow plan.lists m.by)) → Above m.path h → h ≡ f
      at_f h i a = apart_same (out_paths (recipe flow plan.lists m.by)) h f apart i inn (above_touch m.path h f a (over m.place))

      standing :
          (h : Path) (r : Record) → h ≡ f → Product flow act has_fields image H settings progress plan m.by m.path h r →
          Stands flow act has_fields image H settings progress plan fills rest m.left m.by f
      standing h r same made =
          let product = subst (λ w. Product flow act has_fields image H settings progress plan m.by m.path w r) same made in
          stands flow act has_fields image H settings progress plan fills rest m.left m.path m.by f r m.comes product quiet (unmarked product.unmarked)
          (subst (λ (rec : Recipe). is_whole image f (kind_in rec f) ≡ true) (sym made.same) whole)
        where
          counted : (x b : Bool) → b ≡ false → (x && not b) ≡ false → x ≡ false
          counted x true e z = absurd (true≢false e)
          counted true false e z = absurd (true≢false z)
          counted false false e z = refl

          unmarked : (image.marked f && not (is_restored image settings progress plan f)) ≡ false → image.marked f ≡ false
          unmarked k = counted (image.marked f) (is_restored image settings progress plan f) (none_restored image settings progress plan idle f) k

  -- a directory that is ready has the files that its record lists
  pub ready_files :
      (f : Path) (m : MakerHere f) → In f (folders_of (recipe flow plan.lists m.by)) → (made : IsMadeReady f m) →
      files_of made.there.tree ≡ files_listed image f
  ready_files f m inn made =
      folder_listed image f made.there.tree rest.planned.complete
      (ap (λ b. is_whole image f (cond b FolderKind Plain)) (sym (in_among (folders_of (recipe flow plan.lists m.by)) f inn)) ∙ made.whole) made.there.now
