-- A run that came to its end tells well which targets are current.
use Rattle.std.proofs.Common.{◌≡◌, ℕ, Bool, true, false, ◌&&◌, List, [], ◌∷◌, map, zip, length, refl, sym, ap, subst, ◌∙◌, Option, Some, None, Ok, is_none, inl, inr, append-nil, true≢false}
use Rattle.std.specs.List.{list_all}
use Rattle.std.proofs.lemmas.Option.{none-some}
use Rattle.smk_world.specs.declared.event.Event.{Event}
use Rattle.smk_world.specs.World.{World, reading, run}
use Rattle.smk_world.specs.Runs.{Follows}
use Rattle.smk_world.specs.Trees.{Each, IsIn, Path, first}
use Rattle.smk_flow.specs.declared.job.Job.{Job}
use Rattle.smk_record.specs.declared.record.Record.{Record}
use Rattle.smk_record.specs.Spelling.{ReadsRecords}
use Rattle.smk_store.specs.Images as images
use Rattle.smk_store.specs.Soundness.{Outside, SameSources, Sound, SoundWorld}
use Rattle.smk_store.specs.Trust.{SumsDiffer, Versions}
use Rattle.smk_chain.specs.Derive.{listing}
use Rattle.smk_chain.specs.Mean.{Setting, setting_of}
use Rattle.smk_plan.specs.States.{IsPlan, LastPlan, Plan, Progress, awaited, files_listed, gathers_from, is_at_hand, is_current, is_open_now, is_restored, test_some}
use Rattle.smk_laws_plan.specs.Current.{HasValidRecords, IsClean, IsComplete, eased_by}
use Rattle.smk_laws_plan.proofs.CurrentLists.{zip_in}
use Rattle.smk_laws_plan.proofs.CurrentMeaning.{contains_from, in_from}
use Rattle.smk_laws_history.proofs.CurrentAtExit.{none_run}
use Rattle.smk_laws_history.proofs.CurrentComplete.{seen_is_complete}
use Rattle.smk_laws_history.proofs.CurrentEased.{none_restored, sound_none}
use Rattle.smk_laws_history.proofs.CurrentLaw.{current_means_clean_in_worlds, last_is}
use Rattle.smk_laws_history.proofs.CurrentReads.{same_values}
use Rattle.smk_laws_history.proofs.Valid.{records_valid}
use Rattle.smk_laws_complete.specs.Listed.{AreMeant, IsMeantChain, all_known}
use Rattle.smk_laws_complete.proofs.Meant.{awaited_are_recorded, begun_right, gathered_are_recorded}
use Rattle.smk_laws_protocol.proofs.Basics.{each_of}
use Rattle.smk_safe.proofs.Images.{sources_now}
use Rattle.smk_drive.specs.Moments.{IsInForce, Rules, progress_of, seen}
use Rattle.smk_drive.specs.Reports.{is_current_by}
use Rattle.smk_drive_course.specs.declared.ending.End.{End}
use Rattle.smk_drive_course.specs.Stands.{moment_of}
use Rattle.smk_drive_course.specs.Steps.{Deed}
use Rattle.smk_drive_course.specs.Driven.{HasEndedWell, IsRun}
use Rattle.smk_drive_course.specs.Reports.{failures}
use Rattle.smk_laws_turns.proofs.Laws.{run_is_safe}
use Rattle.smk_laws_driven.specs.Ended.{HasToldWell, setting_in}
use Rattle.smk_laws_driven.proofs.Fields.{fields_known, unrefused}
use Rattle.smk_laws_driven.proofs.Lasting.{WasClear, clear_force, run_clear}
use Rattle.smk_laws_driven.proofs.Listed.{run_meant, same_setting}

-- a list without a first one is empty
none_first : {A : Type 0} (xs : List A) → first xs ≡ None → length xs ≡ 0
none_first [] h = refl
none_first (x ∷ xs) h = absurd (none-some x (sym h))

front_true : (a b : Bool) → (a && b) ≡ true → (a ≡ true) × (b ≡ true)
front_true true b h = (refl, h)
front_true false b h = absurd (true≢false (sym h))

each_true : {A : Type 0} (f : A → Bool) (xs : List A) → list_all (λ (b : Bool). b) (map f xs) ≡ true → (x : A) → IsIn xs x → f x ≡ true
each_true f [] h x i = absurd i
each_true f (y ∷ xs) h x (inl e) = ap f e ∙ (front_true (f y) (list_all (λ (b : Bool). b) (map f xs)) h).0
each_true f (y ∷ xs) h x (inr i) = each_true f xs (front_true (f y) (list_all (λ (b : Bool). b) (map f xs)) h).1 x i

module _ (o : Outside) (rules : Rules) (H : Versions) (w : World) (told : Option End) (end : End) (deeds : List Deed) (log : List Event)
    (reader : rules.read ≡ o.read) (reads : ReadsRecords o.read) (differ : SumsDiffer H) (sound : SoundWorld o w H) (follows : Follows o.act w log)
    (ran : IsRun rules told (Ok end) deeds w log) (at_end : SoundWorld o (run w log) H) where
  abbrev v : World
  v = run w log

  abbrev pub well : HasEndedWell rules v log deeds ran.last end
  well = ran.answer.1

  abbrev pub progress : Progress
  progress = progress_of v ran.last.begun

  pub rests : progress.running ≡ []
  rests = none_run v ran.last.begun at_end.no_child

  pub sources : SameSources (images.seen o.read w) (images.seen o.read v)
  sources =
      sources_now o w v H at_end
      ((run_is_safe o rules w H told (Ok end) deeds log reader reads differ sound follows ran).throughout log [] (sym (append-nil log)))

  pub clear : WasClear o.act rules w ran.last v
  clear = run_clear o.act rules w told (Ok end) deeds log ran sound.formed follows well.unhalted

  pub force : IsInForce rules v ran.last.begun ran.last.from ran.last.plan
  force = clear_force o.act rules w ran.last v clear

  complete : IsComplete (images.seen o.read v)
  complete = seen_is_complete o.read v at_end.formed

  -- the listings of the plans before the last one are meant
  from_meant : AreMeant (setting_of rules.flow o.act all_known (images.seen o.read v)) ran.last.from rules.settings.targets
  from_meant =
      let to : record { read = rules.read; act = o.act } ≡ o = λ i. record { read = reader i; act = o.act } in
      let meant =
      run_meant o.act rules w H (subst ReadsRecords (sym reader) reads) differ (subst (λ x. SoundWorld x w H) (sym to) sound) told (Ok end) deeds log ran
      follows well.unhalted in
      subst (λ (S : Setting). AreMeant S ran.last.from rules.settings.targets)
      (ap (λ (read : List ℕ → Option Record). setting_of rules.flow o.act all_known (images.seen read w)) reader
      ∙ same_setting rules.flow o.act all_known (images.seen o.read w) (images.seen o.read v) (seen_is_complete o.read w sound.formed) complete sources)
      meant

  module _ (plan : Plan) (is : ran.last.plan ≡ Some plan) where
    pub last : LastPlan rules.flow (images.seen o.read v) rules.settings progress ran.last.from plan
    last =
        subst (λ (read : List ℕ → Option Record). LastPlan rules.flow (images.seen read v) rules.settings progress ran.last.from plan) reader
        (subst (IsInForce rules v ran.last.begun ran.last.from) is force)

    pub planned : IsPlan rules.flow (images.seen o.read v) rules.settings progress plan
    planned = last_is rules.flow (images.seen o.read v) rules.settings progress ran.last.from plan last

    -- no child runs, so that no mark is left out
    sound_plan : Sound o.act H (images.seen o.read v) (eased_by (images.seen o.read v) (is_restored (images.seen o.read v) rules.settings progress plan))
    sound_plan =
        sound_none (images.seen o.read v) (is_restored (images.seen o.read v) rules.settings progress plan)
        (none_restored (images.seen o.read v) rules.settings progress plan rests) o.act H at_end.now

    valid : HasValidRecords (images.seen o.read v)
    valid = records_valid o.read v.names (λ q. reading (v.nodes q))

    meant_chain : IsMeantChain rules.flow o.act (images.seen o.read v) H rules.settings progress ran.last.from plan
    meant_chain = record { complete = complete; valid = valid; differ = differ; last = last; sound = sound_plan; meant = from_meant }

    -- what the plan awaits is listed, where it is at hand, as the directory's record has it
    pub awaited_recorded :
        (d : Path) (files : List Path) → IsIn (awaited (images.seen o.read v) rules.settings progress plan) d →
        is_at_hand (images.seen o.read v) rules.settings progress plan d ≡ true → listing plan.lists d ≡ Some files →
        files ≡ files_listed (images.seen o.read v) d
    awaited_recorded = awaited_are_recorded rules.flow o.act (images.seen o.read v) H rules.settings progress ran.last.from plan meant_chain

    -- so is what a job gathers that isn't Open
    pub gathers_recorded :
        (j : Job) (f : Path) (files : List Path) → IsIn plan.jobs j → is_open_now (images.seen o.read v) rules.settings progress plan j ≡ false →
        IsIn (gathers_from j) f → listing plan.lists f ≡ Some files → files ≡ files_listed (images.seen o.read v) f
    gathers_recorded = gathered_are_recorded rules.flow o.act (images.seen o.read v) H rules.settings progress ran.last.from plan meant_chain

    fields : (j : Job) → IsIn plan.jobs j → is_open_now (images.seen o.read v) rules.settings progress plan j ≡ false → is_none (rules.missing j) ≡ true
    fields =
        let there = progress_of clear.there ran.last.begun in
        fields_known rules plan (seen rules clear.there) (images.seen o.read v) there progress
        (unrefused rules (seen rules clear.there) there ran.last.from plan
        (subst (IsInForce rules clear.there ran.last.begun ran.last.from) is clear.clear.planned) clear.clear.unrefused) planned rests

    pub current_is_clean :
        (p : Path) → IsIn rules.settings.targets p → is_current (images.seen o.read v) rules.settings progress plan p ≡ true →
        IsClean (setting_in o rules w) (images.seen o.read v) p
    current_is_clean p i current =
        let c =
        current_means_clean_in_worlds rules.flow o (λ j. is_none (rules.missing j)) v H rules.settings progress ran.last.from plan at_end differ
        (begun_right rules.flow o.act (images.seen o.read v) H rules.settings progress complete valid differ ran.last.from plan last sound_plan from_meant
        (λ j. is_none (rules.missing j)))
        last rests (λ j there shut. fields j (in_from plan.jobs j there) shut) p (contains_from rules.settings.targets p i) current in (
          c.0,
          c.1,
          same_values rules.flow o.act (λ j. is_none (rules.missing j)) (images.seen o.read w) (images.seen o.read v)
              (seen_is_complete o.read w sound.formed) complete sources p
              ∙ c.2,
        )

  -- by the plan in force, if any
  abbrev says : Path → Bool
  says p = is_current_by rules (moment_of ran.last v log) p

  said_is_clean : (p : Path) → IsIn rules.settings.targets p → says p ≡ true → IsClean (setting_in o rules w) (images.seen o.read v) p
  said_is_clean p i h = go ran.last.plan refl h
    where
      go :
          (plan : Option Plan) → ran.last.plan ≡ plan →
          test_some (λ (plan : Plan). is_current (seen rules v) rules.settings (progress_of v ran.last.begun) plan p) plan ≡ true →
          IsClean (setting_in o rules w) (images.seen o.read v) p
      go None is none = absurd (true≢false (sym none))
      go (Some plan) is current =
          current_is_clean plan is p i
          (subst (λ (read : List ℕ → Option Record). is_current (images.seen read v) rules.settings (progress_of v ran.last.begun) plan p ≡ true) reader current)

  pub told_well : HasToldWell o rules w v end
  told_well =
      record {
        targets = subst (λ bs. Each (λ (x : Path × Bool). x.1 ≡ true → IsClean (setting_in o rules w) (images.seen o.read v) x.0) (zip rules.settings.targets bs))
            (sym well.told.current)
            (each_of (λ (x : Path × Bool). x.1 ≡ true → IsClean (setting_in o rules w) (images.seen o.read v) x.0)
            (zip rules.settings.targets (map says rules.settings.targets))
            (λ x i h. let r = zip_in says rules.settings.targets x i in said_is_clean x.0 r.0 (sym r.1 ∙ h)));
        sources = sources;
      }

  pub none_failed : end.first ≡ None → end.failed ≡ 0
  none_failed h = well.told.failed ∙ none_first (failures rules.flow deeds) (sym well.told.first_one ∙ h)

  pub all_current : end.first ≡ None → (p : Path) → IsIn rules.settings.targets p → says p ≡ true
  all_current h = each_true says rules.settings.targets (ap (list_all (λ (b : Bool). b)) (sym well.told.current) ∙ (well.clean (none_failed h)).1)

  pub all_clean : end.first ≡ None → Each (IsClean (setting_in o rules w) (images.seen o.read v)) rules.settings.targets
  all_clean h =
      each_of (IsClean (setting_in o rules w) (images.seen o.read v)) rules.settings.targets (λ p i. said_is_clean p i (all_current h p i))
