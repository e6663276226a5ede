-- The table of states where all jobs are Clean, of jobs that gather nothing and make plain files.
use Rattle.std.proofs.Common.{◌≡◌, Bool, true, false, ◌&&◌, ◌||◌, not, cond, List, [], ◌∷◌, ◌++◌, map, filter, flat_map, zip, find, refl, ap, sym, subst, ◌∙◌, bytes_eq, Option, Some, None, true≢false}
use Rattle.std.specs.Prelude.{is_none, if◌then◌else◌}
use Rattle.std.specs.List.{list_any}
use Rattle.std.proofs.Math.Bool.{and-false}
use Rattle.smk_base.specs.Path.{is_under}
use Rattle.smk_world.specs.World.{in_paths, out_paths}
use Rattle.smk_world.specs.Trees.{Path, Each, IsIn, among, folder_over}
use Rattle.smk_flow.specs.declared.job.Job.{Job}
use Rattle.smk_flow.specs.declared.job.Gather.{Gather}
use Rattle.smk_store.specs.Images.{Image}
use Rattle.smk_store.specs.Trust.{is_marked_but, stamp_now_but}
use Rattle.smk_chain.specs.Derive.{distinct, listing}
use Rattle.smk_laws_protocol.proofs.Basics.{each_in}
use Rattle.smk_trigger.specs.declared.reason.Reason.{Reason}
use Rattle.smk_trigger.specs.declared.reason.Reason.TheVariants.{Upstream, Forced}
use Rattle.smk_trigger.specs.declared.reason.State.{State}
use Rattle.smk_trigger.specs.declared.reason.State.TheVariants.{Open, Clean}
use Rattle.smk_trigger.specs.JobStates.{is_open, is_dirty, is_to_run}
use Rattle.smk_trigger.specs.Reasons.{own_reasons, when}
use Rattle.smk_pick.specs.declared.settings.Force.{Force}
use Rattle.smk_pick.specs.declared.settings.Force.TheVariants.{No}
use Rattle.smk_pick.specs.declared.settings.Settings.{Settings}
use Rattle.smk_plan.specs.States.{Plan, Progress, awaits, awaited, by_force, by_reasons, directory_over, gathers_from, is_at_hand, is_input, is_open_now, is_read_now, is_ready, is_restored, is_to_restore, is_wanted_back, job_path, made_by, maker_of, makes, none_or_one, reasons, staged, state_of, test_some}
use Rattle.smk_laws_plan.proofs.CurrentLists.{find_in, zip_in}
use Rattle.smk_laws_plan.proofs.PlanStates.{any_zip}
use Rattle.smk_safe.specs.Planned.{IsPlain}
use Rattle.smk_safe.proofs.Planned.{flat_none, no_folders}
use Rattle.smk_safe.specs.Exit.{all_clean, begun_so}

-- ## Plans of plain jobs

-- none is awaited, by any states
module _ (plan : Plan) (f : Job → State) (states : plan.states ≡ map f plan.jobs) (plain : Each IsPlain plan.jobs) where
  no_directory : (q : Path) → directory_over plan q ≡ []
  no_directory q = go (maker_of plan q) refl
    where
      go : (m : Option (Job × State)) → maker_of plan q ≡ m → flat_map (λ (e : Job × State). none_or_one (folder_over e.0.recipe q)) (none_or_one m) ≡ []
      go None e = refl
      go (Some e) is =
          let found = find_in (λ (x : Job × State). makes x.0 q) (staged plan) e is in
          let there = zip_in f plan.jobs e (subst (λ ss. IsIn (zip plan.jobs ss) e) states found.0) in
          ap (λ fs. none_or_one (find (is_under q) fs) ++ []) (no_folders e.0 (each_in IsPlain plan.jobs e.0 plain there.0))

  pub gathers_none : (j : Job) → IsIn plan.jobs j → gathers_from j ≡ []
  gathers_none j i = ap (map (λ (g : Gather). g.folder)) (each_in IsPlain plan.jobs j plain i).gathers_none

  pub awaits_none : (j : Job) → IsIn plan.jobs j → awaits plan j ≡ []
  awaits_none j i =
      ap (λ l. l ++ flat_map (directory_over plan) (in_paths j.recipe ++ gathers_from j)) (gathers_none j i)
      ∙ flat_none (directory_over plan) (in_paths j.recipe ++ gathers_from j) (λ q k. no_directory q)

  pub awaited_none : (image : Image) (settings : Settings) (progress : Progress) → awaited image settings progress plan ≡ []
  awaited_none image settings progress =
      (λ n. distinct bytes_eq (flat_none (awaits plan) plan.jobs awaits_none n ++ flat_none (directory_over plan) settings.targets (λ q k. no_directory q) n))

  -- an output that is wanted back is a target, or an input of a job, by what is temporary; or an input of a job that is to run
  abbrev pub wanted_by : Settings → Job → Path → Bool → Bool → Bool
  wanted_by settings j p read read_by_run =
      among settings.targets p || (among [] p || ((not (among j.temps p && not (list_any (among []) (out_paths j.recipe))) && read) || read_by_run))

  pub wanted_is : (image : Image) (settings : Settings) (progress : Progress) (j : Job) (p : Path)
      → is_wanted_back image settings progress plan j p ≡ wanted_by settings j p (is_input plan (λ e. true) p) (is_input plan (λ e. is_to_run e.1) p)
  wanted_is image settings progress j p =
      let none = awaited_none image settings progress in
      λ n.
      among settings.targets p
      || (among (none n) p || ((not (among j.temps p && not (list_any (among (none n)) (out_paths j.recipe))) && is_input plan (λ e. true) p) || is_input plan (λ e. is_to_run e.1) p))

  pub read_is : (p : Path) → is_input plan (λ e. true) p ≡ list_any (λ (j : Job). among (in_paths j.recipe) p && true) plan.jobs
  read_is p =
      ap (λ ss. list_any (λ (e : Job × State). among (in_paths e.0.recipe) p && true) (zip plan.jobs ss)) states
      ∙ any_zip f (λ (e : Job × State). among (in_paths e.0.recipe) p && true) plan.jobs

  pub read_by_run_is : (p : Path) → is_input plan (λ e. is_to_run e.1) p ≡ list_any (λ (j : Job). among (in_paths j.recipe) p && is_to_run (f j)) plan.jobs
  read_by_run_is p =
      ap (λ ss. list_any (λ (e : Job × State). among (in_paths e.0.recipe) p && is_to_run e.1) (zip plan.jobs ss)) states
      ∙ any_zip f (λ (e : Job × State). among (in_paths e.0.recipe) p && is_to_run e.1) plan.jobs

-- ## All Clean

never_any : {A : Type 0} (xs : List A) (f : A → Bool) → ((x : A) → f x ≡ false) → list_any f xs ≡ false
never_any [] f h = refl
never_any (x ∷ xs) f h = (λ i. h x i || list_any f xs) ∙ never_any xs f h

never_kept : {A : Type 0} (xs : List A) (f : A → Bool) → ((x : A) → f x ≡ false) → filter f xs ≡ []
never_kept [] f h = refl
never_kept (x ∷ xs) f h = ap (λ b. cond b (x ∷ filter f xs) (filter f xs)) (h x) ∙ never_kept xs f h

none_forced : (b c : Bool) (force : Force) → force ≡ No → (b && by_force force c) ≡ false
none_forced b c force is = ap (λ x. b && by_force x c) is ∙ and-false b

-- what is wanted back without a job to run is wanted back with some
wanted_more : (a b c r : Bool) → (a || (b || (c || false))) ≡ true → (a || (b || (c || r))) ≡ true
wanted_more true b c r h = refl
wanted_more false true c r h = refl
wanted_more false false true r h = refl
wanted_more false false false r h = absurd (true≢false (sym h))

module _ (image : Image) (settings : Settings) (plan : Plan) (begun : List Path) (plain : Each IsPlain plan.jobs) (free : settings.force ≡ No) where
  abbrev pub later : Plan
  later = all_clean plan

  abbrev pub progress : Progress
  progress = begun_so begun

  abbrev pub left : Path → Bool
  left p = is_restored image settings progress later p

  pub maker_clean : (test : State → Bool) → test Clean ≡ false → (q : Path) → made_by later test q ≡ false
  maker_clean test none q = go (maker_of later q) refl
    where
      go : (m : Option (Job × State)) → maker_of later q ≡ m → test_some (λ (e : Job × State). test e.1) m ≡ false
      go None e = refl
      go (Some e) is =
          let found = find_in (λ (x : Job × State). makes x.0 q) (staged later) e is in
          ap test (zip_in (λ (j : Job). Clean) plan.jobs e found.0).1 ∙ none

  open_none : (j : Job) → IsIn plan.jobs j → is_open_now image settings progress later j ≡ false
  open_none j i =
      (λ n.
      list_any (λ d. not (is_at_hand image settings progress later d)) (awaits_none later (λ k. Clean) refl plain j i n)
      || (list_any (λ d. is_ready image settings progress later d && is_none (listing later.lists d)) (gathers_none later (λ k. Clean) refl plain j i n)
      || never_any (in_paths j.recipe) (made_by later is_open) (λ q. maker_clean is_open refl q) n))

  abbrev pub own_of : Job → List Reason
  own_of j =
      own_reasons j.recipe (map image.kept (out_paths j.recipe)) (map (is_marked_but image left) (out_paths j.recipe))
      (map (λ q. (q, stamp_now_but image left q)) (in_paths j.recipe))

  reasons_none : (j : Job) → own_of j ≡ [] → reasons image settings progress later j ≡ []
  reasons_none j own =
      λ n.
      own n
      ++ (map Upstream (never_kept (distinct bytes_eq (in_paths j.recipe)) (made_by later is_dirty) (λ q. maker_clean is_dirty refl q) n)
      ++ when (none_forced (not (among begun (job_path j))) (list_any (makes j) settings.targets) settings.force free n) Forced)

  -- a job is Clean, where nothing of its own is a reason and nothing of it is to be restored
  pub state_clean : (j : Job) → IsIn plan.jobs j → own_of j ≡ [] → is_to_restore image settings progress later j ≡ false → state_of image settings progress later j ≡ Clean
  state_clean j i own restored =
      λ n. if open_none j i n then Open else by_reasons (reasons_none j own n) (restored n && not (is_read_now image settings progress later j))

  -- what is wanted back then was so by any states
  pub wanted_before : (old_image : Image) (old_progress : Progress) (f : Job → State) (states : plan.states ≡ map f plan.jobs) (j : Job) (p : Path)
      → is_wanted_back image settings progress later j p ≡ true → is_wanted_back old_image settings old_progress plan j p ≡ true
  wanted_before old_image old_progress f states j p h =
      let read = list_any (λ (k : Job). among (in_paths k.recipe) p && true) plan.jobs in
      let run_then : is_input later (λ e. is_to_run e.1) p ≡ false =
      read_by_run_is later (λ k. Clean) refl plain p ∙ never_any plan.jobs (λ (k : Job). among (in_paths k.recipe) p && false) (λ k. and-false (among (in_paths k.recipe) p)) in
      let then_is : is_wanted_back image settings progress later j p ≡ wanted_by later (λ k. Clean) refl plain settings j p read false =
      wanted_is later (λ k. Clean) refl plain image settings progress j p
      ∙ (λ n. wanted_by later (λ k. Clean) refl plain settings j p (read_is later (λ k. Clean) refl plain p n) (run_then n)) in
      let old_is : is_wanted_back old_image settings old_progress plan j p ≡ wanted_by plan f states plain settings j p read (is_input plan (λ e. is_to_run e.1) p) =
      wanted_is plan f states plain old_image settings old_progress j p
      ∙ (λ n. wanted_by plan f states plain settings j p (read_is plan f states plain p n) (is_input plan (λ e. is_to_run e.1) p)) in
      old_is
      ∙ wanted_more (among settings.targets p) (among [] p) (not (among j.temps p && not (list_any (among []) (out_paths j.recipe))) && read) (is_input plan (λ e. is_to_run e.1) p) (sym then_is ∙ h)
