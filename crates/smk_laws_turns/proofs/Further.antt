-- What a plan is to grow by, at a stand of a run: the jobs that have begun are among the new ones, children own nothing that is looked at, and the grown plan agrees with
-- the folder.
use Rattle.std.proofs.Common.{◌≡◌, ◌≢◌, ◌⊎◌, inl, inr, ℕ, Bool, true, false, ◌&&◌, List, ◌++◌, filter, flat_map, sym, ap, subst, ◌∙◌, Option, Some, None, is_none}
use Rattle.std.specs.List.{slice_get}
use Rattle.std.specs.Option.{option_and_then}
use Rattle.smk_base.specs.Path.{overlaps}
use Rattle.smk_base.proofs.Under.{never_both, overlaps_above_both}
use Rattle.smk_world.specs.World.{World, out_paths}
use Rattle.smk_world.specs.Trees.{IsIn, Path}
use Rattle.smk_flow.specs.declared.job.Job.{Job}
use Rattle.smk_flow.specs.Flows.{Flow}
use Rattle.smk_choose.specs.Choose.{Sources}
use Rattle.smk_record.specs.declared.record.Record.{Record}
use Rattle.smk_store.specs.Images.{Image, is_source}
use Rattle.smk_store.specs.Stores.{Known}
use Rattle.smk_chain.specs.declared.jobs.Jobs.{Jobs}
use Rattle.smk_chain.specs.Derive.{Derived, Listings, derivation, listing, sources_of, spots}
use Rattle.smk_pick.specs.declared.settings.Settings.{Settings}
use Rattle.smk_plan.specs.declared.seen.Sight.{Sight}
use Rattle.smk_plan.specs.States.{Progress, awaited, files_listed, gathers_from, is_ready, job_path}
use Rattle.smk_plan_live.specs.declared.base.Base.{Base}
use Rattle.smk_plan_live.specs.declared.phase.Phase.TheVariants.{Running}
use Rattle.smk_plan_live.specs.Carried.{or_waiting, origin, phase_from}
use Rattle.smk_plan_live.specs.Changes.{IsGrown}
use Rattle.smk_plan_live.specs.Lives.{IsAgreed, IsSound}
use Rattle.smk_plan_live.specs.Lives as lives
use Rattle.smk_plan_live.proofs.Restoring.{one_job as one_number}
use Rattle.smk_drive.specs.Moments.{Begun, Rules, progress_of, seen}
use Rattle.smk_drive_pick.specs.Picking.{AreAlike}
use Rattle.smk_drive_course.specs.Stands.{Stand}
use Rattle.smk_laws_plan.specs.Signs.{HasOwnSigns}
use Rattle.smk_laws_plan.specs.Current.{IsComplete}
use Rattle.smk_laws_plan.proofs.CurrentLists.{get_in, in_left}
use Rattle.smk_laws_plan.proofs.CurrentPaths.{among_in, in_among}
use Rattle.smk_laws_history.proofs.CurrentReads.{sources_alike}
use Rattle.smk_laws_protocol.proofs.Basics.{each_on}
use Rattle.smk_laws_turns.specs.InForce.{kept_plan}
use Rattle.smk_laws_turns.proofs.Deriving.{derivation_goes_on}
use Rattle.smk_laws_moments.specs.Staying.{IsListed}
use Rattle.smk_laws_turns.specs.Growing.{IsMoreOf}
use Rattle.smk_laws_turns.proofs.Commands.{rules_by}
use Rattle.smk_laws_turns.specs.Grown.{AreFree}
use Rattle.smk_laws_turns.specs.Hubs.{Parts}
use Rattle.smk_laws_turns.specs.Onward.{IsOnward}
use Rattle.smk_laws_turns.proofs.Beside.{IsOwnedBy, owner_of}
use Rattle.smk_laws_turns.proofs.Judged.{alike, complete, complete_first, derived_now, known_so}
use Rattle.smk_laws_turns.proofs.TakenLaws.{Laws}
use Rattle.smk_laws_turns.proofs.Makers.{first_is, is_named, off_source, one_owner}
use Rattle.smk_laws_turns.proofs.More.{files_of_record, job_stays, listed_on, spots_stay}
use Rattle.smk_laws_turns.proofs.NewNumbers.{origin_is}

-- what is of some jobs is of more
pub more_signs :
    (a b : Image) (js ks : List Job) → ((s : Path × Bool) → IsIn (flat_map spots js) s → IsIn (flat_map spots ks) s) → HasOwnSigns a b js → HasOwnSigns a b ks
more_signs a b js ks stay own =
    record {
      notes = λ q h. elim (own.notes q h) [ inl was ↦ inl was | inr i ↦ inr (stay (q, false) i) ];
      signs = λ q h. elim (own.signs q h) [ inl was ↦ inl was | inr i ↦ inr (stay (q, true) i) ];
    }

module _
    (nolock : Bool) (read : List ℕ → Option Record) (flow : Flow) (settings : Settings) (entry w : World) (u : Stand) (h : Parts)
    (at : IsOnward (rules_by nolock read flow settings) entry w u h) where
  abbrev R : Rules
  R = rules_by nolock read flow settings

  abbrev now : Image
  now = seen R w

  abbrev found : Image
  found = seen R entry

  abbrev done : Progress
  done = progress_of w u.begun

  abbrev old : Base
  old = h.live.base

  abbrev before : List Job
  before = h.live.base.jobs.jobs

  abbrev lists : Listings
  lists = h.live.base.jobs.lists

  abbrev news : Listings
  news = h.live.plan.known

  whole : IsComplete now
  whole = complete nolock read flow settings entry w u h at

  derives : derivation flow now lists settings.targets ≡ Derived before
  derives = derived_now nolock read flow settings entry w u h at

  -- ## The sources are those that the run found

  same_sources : sources_of found ≡ sources_of now
  same_sources = sources_alike found now (complete_first nolock read flow settings entry w u h at) whole at.ours.sources

  pub was_found : (p : Path) → is_source now p ≡ true → is_source found p ≡ true
  was_found p source = ap (λ (S : Sources). S.is p) same_sources ∙ source

  is_still : (p : Path) → is_source found p ≡ true → is_source now p ≡ true
  is_still p source = sym (ap (λ (S : Sources). S.is p) same_sources) ∙ source

  listed_now : (M : Listings) (j : Job) → IsListed found M j → IsListed now M j
  listed_now M j =
      each_on (λ d. (is_source found d ≡ true) ⊎ (listing M d ≢ None)) (λ d. (is_source now d ≡ true) ⊎ (listing M d ≢ None)) one (gathers_from j)
    where
      one : (d : Path) → (is_source found d ≡ true) ⊎ (listing M d ≢ None) → (is_source now d ≡ true) ⊎ (listing M d ≢ None)
      one d (inl source) = inl (is_still d source)
      one d (inr there) = inr there

  listed_then : (M : Listings) (j : Job) → IsListed now M j → IsListed found M j
  listed_then M j =
      each_on (λ d. (is_source now d ≡ true) ⊎ (listing M d ≢ None)) (λ d. (is_source found d ≡ true) ⊎ (listing M d ≢ None)) one (gathers_from j)
    where
      one : (d : Path) → (is_source now d ≡ true) ⊎ (listing M d ≢ None) → (is_source found d ≡ true) ⊎ (listing M d ≢ None)
      one d (inl source) = inl (was_found d source)
      one d (inr there) = inr there

  -- what has become known are the files of records
  new_files : (d : Path) (fs : List Path) → listing news d ≡ Some fs → fs ≡ files_listed now d
  new_files d fs is =
      files_of_record now
      (filter (λ f. is_ready now settings done (kept_plan h.live) f && is_none (listing lists f)) (awaited now settings done (kept_plan h.live))) d fs
      (sym (ap (λ (ls : Listings). listing ls d) (known_so nolock read flow settings entry w u h at)) ∙ is)

  -- ## A job that runs

  named_in : (j : Job) → IsIn before j → IsIn (out_paths j.recipe) (job_path j)
  named_in j i = is_named flow now lists settings.targets before whole derives j i

  -- it is carried over as one that runs
  pub runs_on : (n : ℕ) (j : Job) → slice_get before n ≡ Some j → slice_get old.phases n ≡ Some Running → phase_from old j ≡ Running
  runs_on n j here runs =
      let i = get_in before n j here in
      let named = in_among (out_paths j.recipe) (job_path j) (named_in j i) in
      let was : origin old j ≡ Some n =
      origin_is old n j (job_path j) at.live.sound here (first_is flow now lists settings.targets before whole derives j i)
      (λ m x there has. one_number old at.live.sound at.agrees.served.apart m n x j (job_path j) there here has named) in
      ap (λ o. or_waiting (option_and_then (slice_get old.phases) o)) was ∙ ap or_waiting runs

  -- ## New jobs

  module _ (jobs : Jobs) (store : List Known) (fresh : List Sight) (more : IsMoreOf read flow settings w h.live jobs store fresh) where
    abbrev ks : List Job
    ks = jobs.jobs

    pub more_derived : derivation flow now (lists ++ news) settings.targets ≡ Derived ks
    more_derived = subst (λ ls. derivation flow now ls settings.targets ≡ Derived ks) more.lists more.ready.derived

    pub all_spots : (s : Path × Bool) → IsIn (flat_map spots before) s → IsIn (flat_map spots ks) s
    all_spots s i = spots_stay flow now lists news settings.targets new_files whole before ks derives more_derived s i

    -- the folder that the run found called for them
    pub derived_then : derivation flow found (lists ++ news) settings.targets ≡ Derived ks
    derived_then =
        derivation_goes_on flow now found (lists ++ news) settings.targets ks whole (complete_first nolock read flow settings entry w u h at)
        (λ p. sym (at.ours.sources p)) (more_signs now found before ks all_spots at.ours.gone) more_derived

    pub stays : (b : Begun) → IsIn u.begun b → IsIn ks b.job
    stays b i =
        job_stays flow now lists news settings.targets new_files whole before ks derives more_derived b.job (at.planned b i) (listed_now lists b.job (at.listed b i))

    pub stays_listed : (b : Begun) → IsIn u.begun b → IsListed found (lists ++ news) b.job
    stays_listed b i =
        listed_then (lists ++ news) b.job (listed_on flow now lists news settings.targets new_files b.job (listed_now lists b.job (at.listed b i)))

    -- the job of whoever owns a path
    owner_stays : (q : Path) (by : IsOwnedBy h u.begun w.children q) → IsIn ks by.of.job
    owner_stays q by = subst (IsIn ks) by.of.is_job (stays by.of.as_begun by.of.has_begun)

    free : AreFree w old jobs
    free =
        record {
          idle = λ k ik rests q out p under owned.
              let by = owner_of R entry w u h at p owned in
              let same : k ≡ by.of.job =
              one_owner flow now (lists ++ news) settings.targets ks whole more_derived k by.of.job q by.path ik (owner_stays p by)
              (in_left q (out_paths k.recipe) k.logs (among_in (out_paths k.recipe) q out)) by.of_job (overlaps_above_both p q by.path under by.inside) in
              rests (ap (phase_from old) same ∙ runs_on by.of.place.job by.of.job by.of.is by.of.runs);
          sources = λ q told p under owned.
              let by = owner_of R entry w u h at p owned in
              never_both (overlaps q by.path) (overlaps_above_both p q by.path under by.inside)
              (off_source flow now (lists ++ news) settings.targets ks whole more_derived by.of.job q by.path (owner_stays p by) (more.sourced q told) by.of_job);
        }

    -- ## The grown plan

    module _ (l : Laws) (base : Base) (sound : IsSound base) (grown : IsGrown jobs store fresh old base) where
      pub agrees_so : IsAgreed now settings base
      agrees_so = l.growth_agrees read flow settings w h.live jobs store fresh base at.home.formed at.live.sound sound at.agrees derives more grown free

      pub progressed_so : AreAlike done (lives.progress_of base)
      progressed_so =
          let a =
          l.growth_is_alike read flow settings w h.live jobs store fresh base done at.home.formed at.live.sound sound at.agrees derives more grown
          (alike nolock read flow settings entry w u h at) in record { begun = a.begun; running = a.running }
