-- Where all jobs of a plan are Clean its targets are current.
use Rattle.std.proofs.Common.{◌≡◌, ◌⊎◌, ℕ, ◌≤◌, arith, Bool, true, false, not, cond, ◌&&◌, ◌||◌, List, [], ◌∷◌, ◌++◌, map, flat_map, refl, sym, ap, subst, inl, inr, ◌∙◌, Option, Some, None, is_some, true≢false, IsTrue}
use Rattle.std.specs.Prelude.{bytes_eq}
use Rattle.std.specs.List.{list_any}
use Rattle.smk_base.specs.Path.{is_under}
use Rattle.smk_base.specs.declared.tree.Tree.{Tree}
use Rattle.smk_base.proofs.Places.{same_place, place_itself}
use Rattle.smk_world.specs.declared.recipe.Kind.TheVariants.{Plain, Folder as FolderKind}
use Rattle.smk_world.specs.World.{in_paths, out_paths}
use Rattle.smk_world.specs.Trees.{Path, Act, Each, among, folder_over, folders_of, kind_in}
use Rattle.smk_record.specs.declared.record.Record.{Record}
use Rattle.smk_pattern.specs.Bound.{BoundFills}
use Rattle.smk_pattern.proofs.Names.{numbered_all}
use Rattle.smk_flow.specs.declared.job.Job.{Job}
use Rattle.smk_flow.specs.Flows.{Flow, Candidate}
use Rattle.smk_choose.specs.Choose.{choose, Source, Make}
use Rattle.smk_store.specs.Images.{Image, is_source, is_whole}
use Rattle.smk_store.specs.Trust.{Versions}
use Rattle.smk_chain.specs.Derive.{job, recipe, sources_of}
use Rattle.smk_chain.specs.Mean.{mean, setting_of}
use Rattle.smk_trigger.specs.declared.reason.Reason.{Reason}
use Rattle.smk_trigger.specs.declared.reason.State.{State}
use Rattle.smk_trigger.specs.declared.reason.State.TheVariants.{Open, Dirty, Restore, Clean}
use Rattle.smk_trigger.specs.JobStates.{is_clean, is_open, is_dirty, is_restore}
use Rattle.smk_pick.specs.declared.settings.Settings.{Settings}
use Rattle.smk_plan.specs.States.{Plan, Progress, awaited, awaits, by_reasons, directory_over, is_current, is_open_now, is_ready, is_read_now, is_restored, is_to_restore, is_wanted_back, is_whole_by, job_path, kept_state, maker_of, makes, none_or_one, reasons, stands_whole, state_of, test_some, while_running}
use Rattle.smk_laws_plan.proofs.CurrentLists.{In, any_none, in_distinct, in_flat, in_right, or_first, or_second}
use Rattle.smk_laws_plan.proofs.CurrentPaths.{in_among}
use Rattle.smk_laws_plan.proofs.CurrentReach.{choice_known}
use Rattle.smk_laws_plan.proofs.CurrentStates.{unless_never}
use Rattle.smk_laws_plan.proofs.CurrentApart.{same_trans}
use Rattle.smk_laws_plan.proofs.CurrentFills.{bound_fills_from}
use Rattle.smk_laws_plan.proofs.CurrentProducts.{Product, Quiet, Rested, ReachedHere, in_plan_here, maker_is, member_over, output_alone, own_outputs, quiet_by, quiet_product, target_reached}
use Rattle.smk_laws_plan.proofs.CurrentMeaning.{source_chosen}
use Rattle.smk_laws_history.proofs.CurrentLaw.{rested}
use Rattle.smk_laws_complete.specs.Derived.{AllHaveValues}
use Rattle.smk_laws_complete.specs.Planned.{CleanPlanIsCurrent}
use Rattle.smk_laws_complete.proofs.Parts.{part_file}
use Rattle.smk_laws_complete.proofs.Standing.{stands, stands_in}

none_of : {A : Type 0} (test : A → Bool) (xs : List A) → ((x : A) → In x xs → test x ≡ false) → list_any test xs ≡ false
none_of test [] f = refl
none_of test (x ∷ xs) f = let a = f x (inl refl) in let b = none_of test xs (λ y i. f y (inr i)) in λ i. a i || b i

-- what a Clean state says of the table, and of what runs
pub record IsAtRest (b : Bool) (rs : List Reason) (x : Bool) (o : Option State) : Type 0 where
  pub idle : o ≡ None
  pub whole : x ≡ false

pub at_rest : (b : Bool) (rs : List Reason) (x : Bool) (o : Option State) → is_clean (while_running o (cond b Open (by_reasons rs x))) ≡ true → IsAtRest b rs x o
at_rest b rs x (Some (Dirty reasons)) h = absurd (true≢false (sym h))
at_rest b rs x (Some Open) h = absurd (unless_never (cond b Open (by_reasons rs x)) h)
at_rest b rs x (Some Restore) h = absurd (unless_never (cond b Open (by_reasons rs x)) h)
at_rest b rs x (Some Clean) h = absurd (unless_never (cond b Open (by_reasons rs x)) h)
at_rest true rs x None h = absurd (true≢false (sym h))
at_rest false (r ∷ rs) x None h = absurd (true≢false (sym h))
at_rest false [] true None h = absurd (true≢false (sym h))
at_rest false [] false None h = record { idle = refl; whole = refl }

clean_closed : (s : State) → is_clean s ≡ true → (is_open s ≡ false) × (is_dirty s ≡ false)
clean_closed Open h = absurd (true≢false (sym h))
clean_closed (Dirty reasons) h = absurd (true≢false (sym h))
clean_closed Restore h = absurd (true≢false (sym h))
clean_closed Clean h = (refl, refl)

each_in : (states : Job → State) (js : List Job) → Each (λ (s : State). IsTrue (is_clean s)) (map states js) → (j : Job) → In j js → is_clean (states j) ≡ true
each_in states [] h j i = absurd i
each_in states (k ∷ js) h j (inl e) = subst (λ x. is_clean (states x) ≡ true) (sym e) h.0
each_in states (k ∷ js) h j (inr i) = each_in states js h.1 j i

module _
    (flow : Flow) (act : Act) (has_fields : Job → Bool) (image : Image) (H : Versions) (settings : Settings) (progress : Progress)
    (plan : Plan) (fills : BoundFills) (rest : Rested flow act has_fields image H settings progress plan)
    (clean : (j : Job) → In j plan.jobs → is_clean (state_of image settings progress plan j) ≡ true) where
  abbrev jb : Candidate → Job
  jb c = job flow plan.lists c

  abbrev Here : ℕ → Path → Type 0
  Here n p = ReachedHere flow act has_fields image H settings progress plan n p

  resting :
      (j : Job) → In j plan.jobs →
      IsAtRest (is_open_now image settings progress plan j) (reasons image settings progress plan j)
      (is_to_restore image settings progress plan j && not (is_read_now image settings progress plan j)) (kept_state image settings progress plan j)
  resting j i =
      at_rest (is_open_now image settings progress plan j) (reasons image settings progress plan j)
      (is_to_restore image settings progress plan j && not (is_read_now image settings progress plan j)) (kept_state image settings progress plan j) (clean j i)

  -- no child runs
  not_read : (j : Job) → is_read_now image settings progress plan j ≡ false
  not_read j =
      none_of (λ k. is_some (kept_state image settings progress plan k) && (not (bytes_eq (job_path j) (job_path k)) && list_any (makes j) (in_paths k.recipe))) plan.jobs
      (λ k i. ap (λ o. is_some o && (not (bytes_eq (job_path j) (job_path k)) && list_any (makes j) (in_paths k.recipe))) (resting k i).idle)

  none_restored : (h : Path) → is_restored image settings progress plan h ≡ false
  none_restored h =
      none_of (λ j. test_some is_restore (kept_state image settings progress plan j) && among (out_paths j.recipe) h) plan.jobs
      (λ k i. ap (λ o. test_some is_restore o && among (out_paths k.recipe) h) (resting k i).idle)

  -- what is wanted back is whole
  whole_back :
      (j : Job) (h : Path) → In j plan.jobs → In h (out_paths j.recipe) → is_wanted_back image settings progress plan j h ≡ true →
      is_whole image h (kind_in j.recipe h) ≡ true
  whole_back j h i k back =
      both (is_whole image h (kind_in j.recipe h)) (is_wanted_back image settings progress plan j h) back
      (any_none (λ p. not (is_whole image p (kind_in j.recipe p)) && is_wanted_back image settings progress plan j p) (out_paths j.recipe) h
      (first (is_to_restore image settings progress plan j) (is_read_now image settings progress plan j) (not_read j) (resting j i).whole) k)
    where
      first : (a b : Bool) → b ≡ false → (a && not b) ≡ false → a ≡ false
      first a true e h = absurd (true≢false e)
      first true false e h = absurd (true≢false h)
      first false false e h = refl

      both : (w b : Bool) → b ≡ true → (not w && b) ≡ false → w ≡ true
      both true b e h = refl
      both false true e h = absurd (true≢false h)
      both false false e h = absurd (true≢false (sym e))

  quiet : (n : ℕ) (p : Path) (c : Candidate) → Here n p → choose flow (sources_of image) p ≡ Make c → Quiet flow act has_fields image H settings progress plan c
  quiet n p c comes e =
      let i = in_plan_here flow act has_fields image H settings progress plan fills rest.planned n p c comes e in
      let s = clean_closed (state_of image settings progress plan (jb c)) (clean (jb c) i) in
      quiet_by flow act has_fields image H settings progress plan fills rest.planned c s.0 s.1

  -- the directory of a target is awaited
  target_awaited :
      (p h : Path) (c : Candidate) → In p settings.targets → maker_of plan p ≡ Some (jb c, state_of image settings progress plan (jb c)) →
      folder_over (recipe flow plan.lists c) p ≡ Some h → among (awaited image settings progress plan) h ≡ true
  target_awaited p h c i maker over =
      let one : directory_over plan p ≡ h ∷ [] =
      ap (λ o. flat_map (λ (e : Job × State). none_or_one (folder_over e.0.recipe p)) (none_or_one o)) maker ∙ ap (λ o. none_or_one o ++ []) over in
      let inn = in_right h (flat_map (awaits plan) plan.jobs) (flat_map (directory_over plan) settings.targets)
      (in_flat (directory_over plan) settings.targets p h i (subst (In h) (sym one) (inl refl))) in
      let d = in_distinct bytes_eq place_itself same_trans (flat_map (awaits plan) plan.jobs ++ flat_map (directory_over plan) settings.targets) h inn in
      in_among (awaited image settings progress plan) h (subst (λ w. In w (awaited image settings progress plan)) (same_place d.0 h d.2) d.1)

  ready :
      (p : Path) (c : Candidate) (y : Tree) → In p settings.targets → choose flow (sources_of image) p ≡ Make c →
      mean (setting_of flow act has_fields image) 200 p ≡ Some y → is_ready image settings progress plan p ≡ true
  ready p c y i e v =
      let comes = target_reached flow act has_fields image H settings progress plan fills rest.planned p i in
      let inn = in_plan_here flow act has_fields image H settings progress plan fills rest.planned 200 p c comes e in
      let maker = maker_is flow act has_fields image H settings progress plan fills rest.planned 200 p c comes e in
      let calm = quiet 200 p c comes e in
      let from = quiet_product flow act has_fields image H settings progress plan fills rest.planned 200 p c comes e calm in
      ap (test_some (λ (e : Job × State). is_clean e.1 && stands_whole image p e.0)) maker
      ∙ (λ k. clean (jb c) inn k && whole comes inn maker calm from.0 from.1 from.2 from.2.place k)
    where
      target : among settings.targets p ≡ true
      target = in_among settings.targets p i

      whole :
          Here 200 p → In (jb c) plan.jobs → maker_of plan p ≡ Some (jb c, state_of image settings progress plan (jb c)) →
          Quiet flow act has_fields image H settings progress plan c →
          (h : Path) (r : Record) → Product flow act has_fields image H settings progress plan c p h r →
          (p ≡ h) ⊎ (is_under p h ≡ true) × In h (folders_of (recipe flow plan.lists c)) → stands_whole image p (jb c) ≡ true
      whole comes inn maker calm h r made (inl s) =
          let out = subst (λ w. In w (out_paths (recipe flow plan.lists c))) (sym s) made.is_output in
          let apart = own_outputs flow act has_fields image H settings progress plan fills rest.planned 200 p c comes e in
          let alone = output_alone flow act has_fields image H settings progress plan fills rest.planned c p apart out in
          ap (is_whole_by image p (kind_in (recipe flow plan.lists c) p)) alone
          ∙ whole_back (jb c) p inn out (or_first (among settings.targets p) _ target)
      whole comes inn maker calm h r made (inr u) =
          let apart = own_outputs flow act has_fields image H settings progress plan fills rest.planned 200 p c comes e in
          let over = member_over flow act has_fields image H settings progress plan fills rest.planned c h p apart u.0 u.1 in
          let back = whole_back (jb c) h inn made.is_output
          (or_second (among settings.targets h) _ (or_first (among (awaited image settings progress plan) h) _ (target_awaited p h c i maker over))) in
          let stood = subst (λ rec. is_whole image h (kind_in rec h) ≡ true) (sym made.same) back in
          let there = stands flow act has_fields image H settings progress plan fills rest 199 p c h r comes made calm (unmarked made.unmarked) stood in
          let part = stands_in flow act has_fields image H settings progress plan fills rest 199 199 p p c h y (let few : 199 ≤ 199 = omega arith in few) comes e calm made.is_output e (inr u.0) there v in
          let file = part_file image h p there.tree y there.now u.0 part in
          let folder = ap (λ b. is_whole image h (cond b FolderKind Plain)) (sym (in_among (folders_of (recipe flow plan.lists c)) h u.1)) ∙ back in
          ap (is_whole_by image p (kind_in (recipe flow plan.lists c) p)) over ∙ (λ k. folder k && file k)
        where
          unmarked : (image.marked h && not (is_restored image settings progress plan h)) ≡ false → image.marked h ≡ false
          unmarked k = counted (image.marked h) (is_restored image settings progress plan h) (none_restored h) k
            where
              counted : (m b : Bool) → b ≡ false → (m && not b) ≡ false → m ≡ false
              counted m true x z = absurd (true≢false x)
              counted true false x z = absurd (true≢false z)
              counted false false x z = refl

  current : (p : Path) → In p settings.targets → AllHaveValues (setting_of flow act has_fields image) settings.targets → is_current image settings progress plan p ≡ true
  current p i values =
      let comes = target_reached flow act has_fields image H settings progress plan fills rest.planned p i in
      go (choice_known flow (sources_of image) plan.lists 200 p comes.calm)
    where
      go : (choose flow (sources_of image) p ≡ Source) ⊎ ((c : Candidate) × (choose flow (sources_of image) p ≡ Make c)) → is_current image settings progress plan p ≡ true
      go (inl s) = or_first (is_source image p) (is_ready image settings progress plan p) (source_chosen flow (sources_of image) p s)
      go (inr (c, e)) = let v = values p i in or_second (is_source image p) (is_ready image settings progress plan p) (ready p c v.0 i e v.1)

pub clean_plan_is_current : CleanPlanIsCurrent
clean_plan_is_current flow act has_fields image H settings progress L plan sound values clean p i =
    let rest = rested flow act has_fields image H settings progress L plan sound in
    current flow act has_fields image H settings progress plan (bound_fills_from numbered_all) rest
    (each_in (state_of image settings progress plan) plan.jobs
    (subst (Each (λ (s : State). IsTrue (is_clean s))) rest.planned.derived.states clean)) p i values
