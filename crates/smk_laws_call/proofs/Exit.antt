-- At the exit of a run in which all turns were closed, each target is clean whose job rests or is done.
use Rattle.std.proofs.Common.{◌≡◌, ◌⊎◌, inl, inr, Bool, true, false, List, [], map, filter, zip, find, refl, ap, sym, subst, ◌∙◌, Option, Some, None, option_map, is_some, arith, ◌&&◌, true≢false}
use Rattle.std.specs.Prelude.{is_none, if◌then◌else◌}
use Rattle.smk_base.specs.Path.{is_path, is_under}
use Rattle.smk_base.proofs.Apart.{path_outside}
use Rattle.smk_base.proofs.Under.{at_itself}
use Rattle.smk_base.specs.declared.tree.Tree.TheVariants.{File, Folder}
use Rattle.smk_world.specs.declared.event.Event.{Event}
use Rattle.smk_world.specs.declared.event.Node.{Node}
use Rattle.smk_world.specs.declared.event.Node.TheVariants.{Regular, Directory}
use Rattle.smk_world.specs.declared.recipe.Kind.TheVariants.{Plain}
use Rattle.smk_world.specs.World.{World, run, out_paths}
use Rattle.smk_world.specs.Trees.{Path, Each, IsIn, folder_over}
use Rattle.smk_pattern.proofs.Names.{numbered_all}
use Rattle.smk_flow.specs.declared.job.Job.{Job}
use Rattle.smk_flow.specs.Flows.{Flow}
use Rattle.smk_format.specs.Commands.{missing}
use Rattle.smk_store.specs.Images.{Image, bytes_of, content_of, entry_under, is_directory, is_file, is_source, is_whole, names_under, tree_now}
use Rattle.smk_store.specs.Soundness.{Outside, SoundWorld, SameSources}
use Rattle.smk_store.specs.Trust.{Versions}
use Rattle.smk_chain.specs.declared.jobs.Known.{Known}
use Rattle.smk_chain.specs.Derive.{job, listing, sources_of}
use Rattle.smk_chain.specs.Mean.{Setting, setting_of}
use Rattle.smk_trigger.specs.declared.reason.State.{State}
use Rattle.smk_trigger.specs.declared.reason.State.TheVariants.{Open, Dirty, Restore, Clean}
use Rattle.smk_trigger.specs.JobStates.{is_clean, is_open, is_to_run}
use Rattle.smk_pick.specs.declared.settings.Force.TheVariants.{No}
use Rattle.smk_pick.specs.declared.settings.Settings.{Settings}
use Rattle.smk_plan.specs.States.{Plan, IsPlan, LastPlan, Last, files_listed, gathers_from, new_listings, is_current, is_ready, is_whole_by, maker_of, nothing_done, stands_whole, state_of, test_some}
use Rattle.smk_laws_protocol.specs.Protocol.{now}
use Rattle.smk_laws_protocol.proofs.Basics.{each_in}
use Rattle.smk_laws_plan.specs.Current.{IsClean}
use Rattle.smk_laws_plan.proofs.CurrentFills.{bound_fills_from}
use Rattle.smk_laws_plan.proofs.CurrentLists.{in_left, or_first, or_second}
use Rattle.smk_laws_plan.proofs.CurrentMeaning.{contains_from, in_from, source_chosen}
use Rattle.smk_laws_plan.proofs.CurrentProducts.{in_plan_here, target_reached}
use Rattle.smk_laws_plan.proofs.CurrentReach.{choice_known}
use Rattle.smk_laws_plan.proofs.PlanOne.{chosen_makes, has_plan}
use Rattle.smk_laws_history.proofs.CurrentLaw.{current_means_clean_in_worlds}
use Rattle.smk_laws_history.proofs.CurrentReads.{same_values}
use Rattle.smk_run.specs.Turns.{Turn, is_closed, is_done}
use Rattle.smk_safe.specs.Planned.{AreTurnsOf, IsPlain}
use Rattle.smk_safe.proofs.Images.{source_of_both}
use Rattle.smk_safe.proofs.Planned as by_plan
use Rattle.smk_safe.specs.Exit.{IsDueRun, IsKept}
use Rattle.smk_safe.proofs.Dues.{turns_of}
use Rattle.smk_safe.proofs.KeptAtExit.{kept_jobs_stay_clean}
use Rattle.smk_safe.proofs.Needed.{done_jobs_are_kept}
use Rattle.smk_safe.proofs.Left as at_exit
use Rattle.smk_safe.proofs.Base as base
use Rattle.smk_safe.proofs.Table as table

-- ## Files

not_directory : (n : Option Node) → is_some (content_of n) ≡ true → is_directory n ≡ false
not_directory None h = refl
not_directory (Some Directory) h = absurd (true≢false (sym h))
not_directory (Some (Regular bytes time read_only)) h = refl

-- what stands at a file is its bytes
file_tree : (image : Image) (p : Path) → is_file image p ≡ true → tree_now image p ≡ option_map File (bytes_of (image.node p))
file_tree image p file =
    ap (λ b. if b then Some (Folder (map (entry_under image p) (names_under image p))) else option_map File (bytes_of (image.node p)))
    (not_directory (image.node p) file)

-- ## States

rests_clean : (s : State) → is_open s ≡ false → is_to_run s ≡ false → is_clean s ≡ true
rests_clean Open shut rests = absurd (true≢false shut)
rests_clean (Dirty rs) shut rests = absurd (true≢false rests)
rests_clean Restore shut rests = absurd (true≢false rests)
rests_clean Clean shut rests = refl

abbrev listed_by : Image → Path → Known
listed_by image d = record { folder = d; files = files_listed image d }

module _
    (o : Outside) (entry : World) (H : Versions) (flow : Flow) (settings : Settings) (plan : Plan) (ts : List Turn) (es : List Event)
    (ran : IsDueRun o entry H flow settings plan ts es) (free : settings.force ≡ No) (temps : Each (λ (j : Job). j.temps ≡ []) plan.jobs)
    (closed : Each (λ (t : Turn). is_closed t.course ≡ true) ts) (fields : (j : Job) → IsIn plan.jobs j → is_none (missing j) ≡ true)
    (last : LastPlan flow (now o entry) settings nothing_done [] plan) where
  abbrev before : Image
  before = now o entry

  abbrev exit : World
  exit = run entry es

  abbrev after_run : Image
  after_run = now o exit

  abbrev st : Job → State
  st j = state_of before settings nothing_done plan j

  abbrev has_fields : Job → Bool
  has_fields j = is_none (missing j)

  abbrev S : Setting
  S = setting_of flow o.act has_fields before

  abbrev left_now : Path → Bool
  left_now p = false

  left_none : (p : Path) → left_now p ≡ false
  left_none p = refl

  sound_exit : SoundWorld o exit H
  sound_exit = at_exit.sound_exit o entry H flow settings plan ts es ran closed

  sources_stay : SameSources before after_run
  sources_stay = at_exit.sources_stay o entry H flow settings plan ts es ran closed

  -- ## The plan of the exit

  planned_later : (later : Plan) × IsPlan flow after_run settings nothing_done later × (later.lists ≡ plan.lists)
  planned_later =
      has_plan flow after_run settings nothing_done plan.lists plan.jobs (at_exit.complete_after o entry H flow settings plan ts es ran closed)
      (at_exit.derived_after o entry H flow settings plan ts es ran closed)

  abbrev later : Plan
  later = planned_later.0

  is_later : IsPlan flow after_run settings nothing_done later
  is_later = planned_later.1

  jobs_same : later.jobs ≡ plan.jobs
  jobs_same = (kept_jobs_stay_clean o entry H flow settings plan ts es ran free temps closed later is_later planned_later.2).jobs

  plain_later : Each IsPlain later.jobs
  plain_later = subst (Each IsPlain) (sym jobs_same) ran.plain

  abbrev st_later : Job → State
  st_later j = state_of after_run settings nothing_done later j

  none_new : new_listings after_run settings nothing_done later ≡ []
  none_new =
      ap (λ ds. map (listed_by after_run) (filter (λ d. is_ready after_run settings nothing_done later d && is_none (listing later.lists d)) ds))
      (table.awaited_none later st_later is_later.states plain_later after_run settings nothing_done)

  -- what is current by it is clean
  clean_later : (p : Path) → IsIn settings.targets p → is_current after_run settings nothing_done later p ≡ true → IsClean S after_run p
  clean_later p target current =
      let c =
      current_means_clean_in_worlds flow o has_fields exit H settings nothing_done later.lists later sound_exit ran.differ
      (λ j f files there shut gathered told_so.
      absurd (subst (λ fs. IsIn fs f) (table.gathers_none later st_later is_later.states plain_later j (in_from later.jobs j there)) (in_from (gathers_from j) f gathered)))
      (Last later is_later none_new) refl (λ j there shut. fields j (subst (λ js. IsIn js j) jobs_same (in_from later.jobs j there))) p
      (contains_from settings.targets p target) current in (
        c.0,
        c.1,
        same_values flow o.act has_fields before after_run (at_exit.complete_before o entry H flow settings plan ts es ran)
            (at_exit.complete_after o entry H flow settings plan ts es ran closed) sources_stay p ∙ c.2,
      )

  -- ## A job that rests

  turns_as : AreTurnsOf before ran.top (zip plan.jobs (map st plan.jobs)) ts
  turns_as =
      subst (λ ss. AreTurnsOf before ran.top (zip plan.jobs ss) ts) ran.planned.states
      (turns_of before ran.cores ran.top ran.duties plan.jobs plan.states ran.duties [] ran.top ts refl (omega arith) ran.meant ran.in_order)

  of_plan : Each (λ (t : Turn). IsIn plan.jobs t.job × (is_to_run (st t.job) ≡ true)) ts
  of_plan =
      by_plan.all_planned o entry flow settings plan (at_exit.made o entry H flow settings plan ts es ran) ran.top ts ran.sound.formed ran.is_top ran.planned ran.plain ran.fit
      (base.tells o entry H flow settings plan ts es ran closed left_now left_none) plan.jobs ts ran.top (λ j i. i) turns_as

  module _ (k : Job) (p : Path) (ik : IsIn plan.jobs k) (rests : is_to_run (st k) ≡ false) (ip : IsIn (out_paths k.recipe) p) (target : IsIn settings.targets p) where
    whole_after : is_whole after_run p Plain ≡ true
    whole_after =
        base.target_whole o entry H flow settings plan ts es ran closed left_now left_none k p ik (λ to_run. absurd (true≢false (sym to_run ∙ rests))) target ip

    path : is_path p ≡ true
    path =
        by_plan.user_path o entry flow settings plan (at_exit.made o entry H flow settings plan ts es ran) ran.top ts ran.sound.formed ran.is_top ran.planned ran.plain ran.fit
        (base.tells o entry H flow settings plan ts es ran closed left_now left_none) k p ik (in_left p (out_paths k.recipe) k.logs ip)

    same_node : after_run.node p ≡ before.node p
    same_node =
        at_exit.node_stays o entry H flow settings plan ts es ran p (path_outside p path) (at_itself p)
        (by_plan.clear_of o entry flow settings plan (at_exit.made o entry H flow settings plan ts es ran) ran.top ts ran.sound.formed ran.is_top ran.planned ran.plain ran.fit
        (base.tells o entry H flow settings plan ts es ran closed left_now left_none) of_plan k p ik rests ip)

    file_before : is_file before p ≡ true
    file_before = ap (λ n. is_some (content_of n)) (sym same_node) ∙ whole_after

    made_by_it : maker_of plan p ≡ Some (k, st k)
    made_by_it =
        by_plan.maker_is o entry flow settings plan (at_exit.made o entry H flow settings plan ts es ran) ran.top ts ran.sound.formed ran.is_top ran.planned ran.plain ran.fit
        (base.tells o entry H flow settings plan ts es ran closed left_now left_none) k p ik
        (base.own_makes o entry H flow settings plan ts es ran closed left_now left_none k p ip)

    shut : is_open (st k) ≡ false
    shut =
        by_plan.shut_at o entry flow settings plan (at_exit.made o entry H flow settings plan ts es ran) ran.top ts ran.sound.formed ran.is_top ran.planned ran.plain ran.fit
        (base.tells o entry H flow settings plan ts es ran closed left_now left_none) k ik

    current_before : is_current before settings nothing_done plan p ≡ true
    current_before =
        let none : folder_over k.recipe p ≡ None = ap (find (is_under p)) (by_plan.no_folders k (each_in IsPlain plan.jobs k ran.plain ik)) in
        or_second (is_source before p) _
        (ap (test_some (λ (e : Job × State). is_clean e.1 && stands_whole before p e.0)) made_by_it
        ∙ (λ n. rests_clean (st k) shut rests n && is_whole_by before p (base.kind_is o entry H flow settings plan ts es ran closed left_now left_none k p ik n) (none n))
        ∙ file_before)

    rest_clean : IsClean S after_run p
    rest_clean =
        let c =
        current_means_clean_in_worlds flow o has_fields entry H settings nothing_done [] plan ran.sound ran.differ
        (λ j f files there shut_j gathered told_so.
        absurd (subst (λ fs. IsIn fs f) (table.gathers_none plan st ran.planned.states ran.plain j (in_from plan.jobs j there)) (in_from (gathers_from j) f gathered)))
        last refl (λ j there shut_j. fields j (in_from plan.jobs j there)) p (contains_from settings.targets p target) current_before in (
          c.0,
          file_tree after_run p whole_after ∙ ap (λ n. option_map File (bytes_of n)) same_node ∙ sym (file_tree before p file_before) ∙ c.1,
          c.2,
        )

  -- ## Targets

  -- a job that makes it rests, or had its turn and is done
  abbrev pub RestsOrIsDone : Path → Type 0
  RestsOrIsDone p =
      (k : Job) → IsIn plan.jobs k → IsIn (out_paths k.recipe) p → (is_to_run (st k) ≡ false) ⊎ ((t : Turn) × IsIn ts t × (t.job ≡ k) × (is_done t.course ≡ true))

  target_clean : (p : Path) → IsIn settings.targets p → RestsOrIsDone p → IsClean S after_run p
  target_clean p target rests =
      let sound_plan =
      by_plan.planned o entry flow settings plan (at_exit.made o entry H flow settings plan ts es ran) ran.top ts ran.sound.formed ran.is_top ran.planned ran.plain ran.fit
      (base.tells o entry H flow settings plan ts es ran closed left_now left_none) in
      let reached = target_reached flow o.act (λ k. true) before (λ x t. None) settings nothing_done plan (bound_fills_from numbered_all) sound_plan p target in
      elim (choice_known flow (sources_of before) plan.lists 200 p reached.calm) [
        | inl e ↦
            clean_later p target
            (or_first (is_source after_run p) _ (source_of_both before after_run p sources_stay (source_chosen flow (sources_of before) p e)).is_second)
        | inr h ↦
            let k = job flow plan.lists h.0 in
            let ik = in_plan_here flow o.act (λ x. true) before (λ x t. None) settings nothing_done plan (bound_fills_from numbered_all) sound_plan 200 p h.0 reached h.1 in
            let m = chosen_makes flow before plan.lists settings.targets plan.jobs (at_exit.complete_before o entry H flow settings plan ts es ran) ran.planned.derived p h.0 h.1 in
            let ip = by_plan.plain_makes k p (each_in IsPlain plan.jobs k ran.plain ik) m in
            made_target k ik ip (rests k ik ip)
      ]
    where
      made_target :
          (k : Job) → IsIn plan.jobs k → IsIn (out_paths k.recipe) p →
          (is_to_run (st k) ≡ false) ⊎ ((t : Turn) × IsIn ts t × (t.job ≡ k) × (is_done t.course ≡ true)) → IsClean S after_run p
      made_target k ik ip (inl resting) = rest_clean k p ik resting ip target
      made_target k ik ip (inr (t, it, same, done)) =
          let kept : IsKept plan ts k = subst (IsKept plan ts) same (done_jobs_are_kept o entry H flow settings plan ts es ran t it done) in
          let stay = kept_jobs_stay_clean o entry H flow settings plan ts es ran free temps closed later is_later planned_later.2 in
          clean_later p target (stay.current k p kept ip target)

pub targets_clean :
    (o : Outside) (entry : World) (H : Versions) (flow : Flow) (settings : Settings) (plan : Plan) (ts : List Turn) (es : List Event)
    (ran : IsDueRun o entry H flow settings plan ts es) (free : settings.force ≡ No) (temps : Each (λ (j : Job). j.temps ≡ []) plan.jobs)
    (closed : Each (λ (t : Turn). is_closed t.course ≡ true) ts) (fields : (j : Job) → IsIn plan.jobs j → is_none (missing j) ≡ true)
    (last : LastPlan flow (now o entry) settings nothing_done [] plan) (p : Path) → IsIn settings.targets p →
    RestsOrIsDone o entry H flow settings plan ts es ran free temps closed fields last p →
    IsClean (setting_of flow o.act (λ j. is_none (missing j)) (now o entry)) (now o (run entry es)) p
targets_clean o entry H flow settings plan ts es ran free temps closed fields last p target rests =
    target_clean o entry H flow settings plan ts es ran free temps closed fields last p target rests
