-- A round in which the plan grows: the stand of the run is so again.
use Rattle.std.proofs.Common.{◌≡◌, ◌≢◌, ℕ, zero, suc, Bool, true, List, [], ◌∷◌, ◌++◌, map, refl, sym, ap, subst, ◌∙◌, Option, None, Some, bytes_eq, nat_eq}
use Rattle.std.specs.List.{slice_get}
use Rattle.std.proofs.lemmas.Option.{none-some, same_Some}
use Rattle.smk_base.proofs.Places.{and_second}
use Rattle.smk_world.specs.World.{World}
use Rattle.smk_world.specs.Trees.{IsIn}
use Rattle.smk_flow.specs.declared.job.Job.{Job}
use Rattle.smk_flow.specs.Flows.{Flow}
use Rattle.smk_record.specs.declared.record.Record.{Record}
use Rattle.smk_record.specs.Spelling.{ReadsRecords}
use Rattle.smk_store.specs.Images.{Image, is_source}
use Rattle.smk_chain.specs.declared.jobs.Jobs.{Jobs}
use Rattle.smk_chain.specs.Derive.{Derived, Listings, derivation}
use Rattle.smk_pick.specs.declared.settings.Settings.{Settings}
use Rattle.smk_plan.specs.States.{Progress, job_path}
use Rattle.smk_plan_facts.specs.Facts.{told_sources}
use Rattle.smk_world.specs.Trees.{Path, among}
use Rattle.smk_plan_live.specs.declared.phase.Phase.TheVariants.{Running}
use Rattle.smk_plan_live.specs.Carried.{phase_from}
use Rattle.smk_drive.specs.Moments.{Rules, progress_of, seen}
use Rattle.smk_drive.specs.Refusals.{ComesTo}
use Rattle.smk_drive_step.specs.declared.children.Child.{Child}
use Rattle.smk_drive_step.specs.Crews.{goings}
use Rattle.smk_drive_course.specs.Stands.{Stand}
use Rattle.smk_drive_course.specs.Stands as stands
use Rattle.smk_drive_first.specs.Opening.{AreRules}
use Rattle.smk_laws_turns.specs.InForce.{kept_plan}
use Rattle.smk_laws_moments.specs.Staying.{IsListed}
use Rattle.smk_laws_turns.specs.Growing.{IsMoreOf}
use Rattle.smk_laws_turns.specs.Resting.{refused_command}
use Rattle.smk_laws_turns.proofs.Commands.{rules_by}
use Rattle.smk_laws_turns.specs.Hubs.{AreApart, IsChildOf, IsOurs, Parts}
use Rattle.smk_laws_turns.specs.GrowingRounds.{IsGrownBy}
use Rattle.smk_laws_turns.specs.Moving.{moved, moved_child, new_number}
use Rattle.smk_laws_turns.specs.Onward.{IsOnward}
use Rattle.smk_laws_turns.proofs.Beside.{beside}
use Rattle.smk_laws_turns.proofs.Chains.{comes_then}
use Rattle.smk_laws_turns.proofs.Further.{agrees_so, all_spots, derived_then, more_derived, more_signs, progressed_so, runs_on, stays, stays_listed, was_found}
use Rattle.smk_laws_turns.proofs.Judged.{complete, known_so, planned, unrefused}
use Rattle.smk_laws_turns.proofs.TakenLaws.{Laws}
use Rattle.smk_laws_turns.proofs.Makers.{one_name}
use Rattle.smk_laws_turns.proofs.NewNumbers.{number_found}
use Rattle.smk_laws_turns.proofs.Seats.{moved_in, same_goings}

slice_map : {A B : Type 0} (f : A → B) (xs : List A) (n : ℕ) (x : A) → slice_get xs n ≡ Some x → slice_get (map f xs) n ≡ Some (f x)
slice_map f [] n x h = absurd (none-some x h)
slice_map f (y ∷ xs) zero x h = ap Some (ap f (same_Some y x h))
slice_map f (y ∷ xs) (suc n) x h = slice_map f xs n x h

module _
    (nolock : Bool) (read : List ℕ → Option Record) (reads : ReadsRecords read) (flow : Flow) (settings : Settings) (entry w : World) (u : Stand) (h : Parts)
    (at : IsOnward (rules_by nolock read flow settings) entry w u h) where
  abbrev R : Rules
  R = rules_by nolock read flow settings

  abbrev now : Image
  now = seen R w

  abbrev found : Image
  found = seen R entry

  abbrev done : Progress
  done = progress_of w u.begun

  abbrev before : List Job
  before = h.live.base.jobs.jobs

  abbrev lists : Listings
  lists = h.live.base.jobs.lists

  abbrev news : Listings
  news = h.live.plan.known

  -- such rules are these
  pub are_rules : AreRules flow settings R
  are_rules = record { flow_is = refl; settings_are = refl; reads = reads; fields = refl; texts = refl }

  -- ## The chain

  -- the chain comes to the listings that have become known besides
  pub comes_further :
      refused_command flow settings h.live ≡ None → news ≢ [] → ComesTo R now done (stands.lists u) (lists ++ news)
  comes_further none some =
      let same = known_so nolock read flow settings entry w u h at in
      subst (λ ls. ComesTo R now done (stands.lists u) (lists ++ ls)) (sym same)
      (comes_then R now done (stands.lists u) lists (kept_plan h.live) at.comes refl (planned nolock read flow settings entry w u h at)
      (unrefused nolock read flow settings entry w u h at none) (λ e. some (same ∙ e)))

  -- ## The round

  module _
      (l : Laws) (none : refused_command flow settings h.live ≡ None) (some : news ≢ []) (k : Parts) (g : IsGrownBy flow settings w h k) where
    abbrev ks : List Job
    ks = g.jobs.jobs

    more : IsMoreOf read flow settings w h.live g.jobs g.store g.fresh
    more = g.told R are_rules (beside R entry w u h at)

    jobs_now : k.live.base.jobs ≡ g.jobs
    jobs_now = g.grown.base.now

    lists_now : k.live.base.jobs.lists ≡ lists ++ news
    lists_now = ap (λ (x : Jobs). x.lists) jobs_now ∙ more.lists

    places_now : k.places ≡ moved before ks h.places
    places_now = ap (λ (x : Parts). x.places) g.is

    goings_now : goings k.places ≡ goings h.places
    goings_now = ap goings places_now ∙ same_goings before ks h.places

    -- the child's job is among them
    job_there : (d : Child) (i : IsIn h.places (Some d)) → IsIn ks (at.theirs d i).job
    job_there d i =
        let of = at.theirs d i in
        subst (IsIn ks) of.is_job (stays nolock read flow settings entry w u h at g.jobs g.store g.fresh more of.as_begun of.has_begun)

    -- under its new number
    number_now : (d : Child) (i : IsIn h.places (Some d)) → slice_get ks (moved_child before ks d).job ≡ Some (at.theirs d i).job
    number_now d i =
        let of = at.theirs d i in
        ap (λ o. slice_get ks (new_number ks o)) of.is
        ∙ number_found ks of.job (job_there d i) (λ x ix like.
        sym (one_name flow now (lists ++ news) settings.targets ks (complete nolock read flow settings entry w u h at)
        (more_derived nolock read flow settings entry w u h at g.jobs g.store g.fresh more) of.job x (job_there d i) ix
        (and_second (nat_eq of.job.rule x.rule) (bytes_eq (job_path of.job) (job_path x)) like)))

    child_of_new : (d : Child) → IsIn h.places (Some d) → IsChildOf ks u.begun (moved_child before ks d)
    child_of_new d i =
        let of = at.theirs d i in
        record {
          job = of.job;
          is = number_now d i;
          recipe = of.recipe;
          logs = of.logs;
          ask = of.ask;
          as_begun = of.as_begun;
          has_begun = of.has_begun;
          is_job = of.is_job;
        }

    place_before : (c : Child) → IsIn k.places (Some c) → (d : Child) × IsIn h.places (Some d) × (c ≡ moved_child before ks d)
    place_before c i = moved_in before ks h.places c (subst (λ ps. IsIn ps (Some c)) places_now i)

    running_now : (c : Child) → IsIn k.places (Some c) → slice_get k.live.base.phases c.job ≡ Some Running
    running_now c i =
        let d = place_before c i in
        let old = at.theirs d.0 d.1 in
        ap (λ ps. slice_get ps c.job) g.grown.base.phases
        ∙ ap (λ (x : Child). slice_get (map (phase_from h.live.base) ks) x.job) d.2
        ∙ slice_map (phase_from h.live.base) ks (moved_child before ks d.0).job old.job (number_now d.0 d.1)
        ∙ ap Some (runs_on nolock read flow settings entry w u h at d.0.job old.job old.is (at.running d.0 d.1))

    pub goes_on : IsOnward R entry w u k
    goes_on =
        record {
          live = g.alive;
          settings = g.grown.settings ∙ at.settings;
          derived = subst (λ (x : Jobs). derivation flow found x.lists settings.targets ≡ Derived x.jobs) (sym jobs_now)
              (subst (λ ls. derivation flow found ls settings.targets ≡ Derived ks) (sym more.lists)
              (derived_then nolock read flow settings entry w u h at g.jobs g.store g.fresh more));
          home = at.home;
          owners = at.owners;
          ours = subst (λ (x : Jobs). IsOurs R entry x.jobs w) (sym jobs_now) (record {
            sources = at.ours.sources;
            signs = more_signs found now before ks (all_spots nolock read flow settings entry w u h at g.jobs g.store g.fresh more) at.ours.signs;
            gone = more_signs now found before ks (all_spots nolock read flow settings entry w u h at g.jobs g.store g.fresh more) at.ours.gone;
            signed = at.ours.signed;
          });
          sourced = subst (λ (x : Jobs). (p : Path) → among (told_sources x.makers) p ≡ true → is_source found p ≡ true) (sym jobs_now)
              (λ p told. was_found nolock read flow settings entry w u h at p (more.sourced p told));
          planned = λ b i. subst (λ (x : Jobs). IsIn x.jobs b.job) (sym jobs_now)
              (stays nolock read flow settings entry w u h at g.jobs g.store g.fresh more b i);
          listed = λ b i. subst (λ ls. IsListed found ls b.job) (sym lists_now)
              (stays_listed nolock read flow settings entry w u h at g.jobs g.store g.fresh more b i);
          crew = record {
            run = λ x i. at.crew.run x (subst (λ gs. IsIn gs x) goings_now i);
            placed = λ x i. subst (λ gs. IsIn gs x) (sym goings_now) (at.crew.placed x i);
            apart = subst AreApart (sym goings_now) at.crew.apart;
          };
          children = at.children;
          theirs = λ c i.
              let d = place_before c i in
              subst (λ (x : Child). IsChildOf k.live.base.jobs.jobs u.begun x) (sym d.2)
              (subst (λ (x : Jobs). IsChildOf x.jobs u.begun (moved_child before ks d.0)) (sym jobs_now) (child_of_new d.0 d.1));
          running = running_now;
          unhalted = at.unhalted;
          at_rest = at.at_rest;
          agrees = agrees_so nolock read flow settings entry w u h at g.jobs g.store g.fresh more l k.live.base g.alive.sound g.grown.base;
          progressed = progressed_so nolock read flow settings entry w u h at g.jobs g.store g.fresh more l k.live.base g.alive.sound g.grown.base;
          comes = subst (ComesTo R now done (stands.lists u)) (sym lists_now) (comes_further none some);
        }
