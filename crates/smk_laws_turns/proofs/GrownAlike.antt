-- The jobs that have begun and those that run are the same by their names, once new jobs have come.
use Rattle.std.proofs.Common.{◌≡◌, ◌⊎◌, inl, inr, ℕ, zero, suc, Bool, true, false, List, [], ◌∷◌, ◌++◌, Option, Some, None, refl, sym, ap, subst, ◌∙◌, bytes_eq}
use Rattle.std.specs.Prelude.{if◌then◌else◌}
use Rattle.std.specs.List.{slice_get}
use Rattle.std.specs.Option.{option_and_then}
use Rattle.std.proofs.lemmas.Option.{same_Some, none-some}
use Rattle.smk_base.proofs.Places.{place_itself, same_place}
use Rattle.smk_base.proofs.Under.{false_unless, never_both, or_cases, or_first}
use Rattle.smk_world.specs.World.{out_paths}
use Rattle.smk_world.specs.Trees.{IsIn, Path, among, first}
use Rattle.smk_pattern.specs.Reading.{or_empty}
use Rattle.smk_flow.specs.declared.job.Job.{Job}
use Rattle.smk_store.specs.Images.{seen}
use Rattle.smk_trigger.specs.declared.reason.State.{State}
use Rattle.smk_plan.specs.declared.seen.Sight.{Sight}
use Rattle.smk_plan.specs.States.{job_path}
use Rattle.smk_plan_states.specs.Served.{AreApart, outputs_of}
use Rattle.smk_plan_states.proofs.Tests.{among_append}
use Rattle.smk_plan_live.specs.declared.base.Base.{Base}
use Rattle.smk_plan_live.specs.declared.phase.Phase.{Phase}
use Rattle.smk_plan_live.specs.Carried.{began_from, or_waiting, origin, phase_from}
use Rattle.smk_plan_live.specs.Changes.{IsGrown}
use Rattle.smk_plan_live.specs.Lives.{IsSound, progress_of}
use Rattle.smk_plan_live.specs.Now.{joined}
use Rattle.smk_plan_live.specs.Phases.{begun_in, children_in, has_begun, running_in}
use Rattle.smk_plan_live.proofs.Changed.{begun_here}
use Rattle.smk_plan_live.proofs.Putting.{mapped_at}
use Rattle.smk_plan_live.proofs.Restoring.{kept_at, named_later, one_name}
use Rattle.smk_laws_plan.proofs.CurrentLists.{get_in}
use Rattle.smk_laws_history.proofs.CurrentComplete.{seen_is_complete}
use Rattle.smk_laws_turns.specs.Progressing.{IsAlike, state_in}
use Rattle.smk_laws_turns.proofs.Carrying.{same_tests}
use Rattle.smk_laws_turns.specs.Grown.{GrowthIsAlike}
use Rattle.smk_laws_turns.proofs.GrownAgreeing.{is_now, own_grown, own_more}
use Rattle.smk_laws_turns.proofs.Rows.{get_of_in, one_new, origin_is, origin_was}
use Rattle.smk_laws_turns.proofs.Staying.{IsStill, has_output, still}

-- ## Names

named_among : (ps : List Path) → (ps ≡ [] → ⊥) → among ps (or_empty (first ps)) ≡ true
named_among [] some = absurd (some refl)
named_among (p ∷ ps) some = or_first (bytes_eq p p) (among ps p) (place_itself p)

abbrev HasName : Path → List Job → Type 0
HasName n jobs = (i : ℕ) × (j : Job) × (slice_get jobs i ≡ Some j) × (bytes_eq (job_path j) n ≡ true)

abbrev LacksName : Path → List Job → Type 0
LacksName n jobs = (i : ℕ) (j : Job) → slice_get jobs i ≡ Some j → bytes_eq (job_path j) n ≡ false

find_name : (n : Path) (jobs : List Job) → HasName n jobs ⊎ LacksName n jobs
find_name n [] = inr (λ i j at. absurd (none-some j at))
find_name n (k ∷ jobs) = go (bytes_eq (job_path k) n) refl (find_name n jobs)
  where
    lacks : bytes_eq (job_path k) n ≡ false → LacksName n jobs → LacksName n (k ∷ jobs)
    lacks e none zero j at = ap (λ (x : Job). bytes_eq (job_path x) n) (sym (same_Some k j at)) ∙ e
    lacks e none (suc i) j at = none i j at

    later : bytes_eq (job_path k) n ≡ false → HasName n jobs ⊎ LacksName n jobs → HasName n (k ∷ jobs) ⊎ LacksName n (k ∷ jobs)
    later e (inl has) = inl (suc (has.0), has.1, has.2, has.3)
    later e (inr none) = inr (lacks e none)

    go : (b : Bool) → bytes_eq (job_path k) n ≡ b → HasName n jobs ⊎ LacksName n jobs → HasName n (k ∷ jobs) ⊎ LacksName n (k ∷ jobs)
    go true e more = inl (zero, k, refl, e)
    go false e more = later e more

none_named : (jobs : List Job) (began : List (Option State)) (n : Path) → LacksName n jobs → state_in (running_in jobs began) n ≡ None
none_named [] began n h = refl
none_named (k ∷ jobs) [] n h = refl
none_named (k ∷ jobs) (b ∷ began) n h =
    named_later k b (children_in jobs began) n (h zero k refl) ∙ none_named jobs began n (λ i j at. h (suc i) j at)

-- ## What has begun

pub record IsBegunBy (jobs : List Job) (phases : List Phase) (n : Path) : Type 0 where
  pub number : ℕ
  pub job : Job
  pub phase : Phase
  pub at : slice_get jobs number ≡ Some job
  pub has : slice_get phases number ≡ Some phase
  pub begun : has_begun phase ≡ true
  pub name : n ≡ job_path job

begun_found : (jobs : List Job) (phases : List Phase) (n : Path) → among (begun_in jobs phases) n ≡ true → IsBegunBy jobs phases n
begun_found [] phases n h = absurd (never_both false h refl)
begun_found (j ∷ jobs) [] n h = absurd (never_both false h refl)
begun_found (j ∷ jobs) (p ∷ phases) n h =
    go (has_begun p) refl
    (or_cases (among (if has_begun p then job_path j ∷ [] else []) n) (among (begun_in jobs phases) n)
    (sym (among_append (if has_begun p then job_path j ∷ [] else []) (begun_in jobs phases) n) ∙ h))
    (begun_found jobs phases n)
  where
    later : IsBegunBy jobs phases n → IsBegunBy (j ∷ jobs) (p ∷ phases) n
    later t = record { number = suc t.number; job = t.job; phase = t.phase; at = t.at; has = t.has; begun = t.begun; name = t.name }

    one : has_begun p ≡ true → (bytes_eq n (job_path j) ≡ true) ⊎ (false ≡ true) → IsBegunBy (j ∷ jobs) (p ∷ phases) n
    one e (inl same) = record { number = zero; job = j; phase = p; at = refl; has = refl; begun = e; name = same_place n (job_path j) same }
    one e (inr none) = absurd (never_both false none refl)

    go : (b : Bool) → has_begun p ≡ b → (among (if b then job_path j ∷ [] else []) n ≡ true) ⊎ (among (begun_in jobs phases) n ≡ true) →
        (among (begun_in jobs phases) n ≡ true → IsBegunBy jobs phases n) → IsBegunBy (j ∷ jobs) (p ∷ phases) n
    go true e (inl here) more = one e (or_cases (bytes_eq n (job_path j)) false here)
    go false e (inl here) more = absurd (never_both false here refl)
    go b e (inr there) more = later (more there)

begun_some : (o : Option Phase) → has_begun (or_waiting o) ≡ true → (x : Phase) × (o ≡ Some x) × (has_begun x ≡ true)
begun_some None h = absurd (never_both false h refl)
begun_some (Some x) h = (x, refl, h)

begun_origin : (f : ℕ → Option Phase) (o : Option ℕ) → has_begun (or_waiting (option_and_then f o)) ≡ true →
    (i : ℕ) × (x : Phase) × (o ≡ Some i) × (f i ≡ Some x) × (has_begun x ≡ true)
begun_origin f None h = absurd (never_both false h refl)
begun_origin f (Some i) h = let r = begun_some (f i) h in (i, r.0, refl, r.1, r.2)

module _
    (old new : Base) (fresh : List Sight) (sound : IsSound old) (sound' : IsSound new) (apart : AreApart (outputs_of old.jobs.jobs))
    (apart' : AreApart (outputs_of new.jobs.jobs)) (grown : IsGrown new.jobs new.store fresh old new)
    (stays : (j : Job) → IsIn old.jobs.jobs j → IsStill new.jobs.jobs j)
    (named : (j : Job) → IsIn old.jobs.jobs j → out_paths j.recipe ≡ [] → ⊥)
    (named' : (j : Job) → IsIn new.jobs.jobs j → out_paths j.recipe ≡ [] → ⊥) where
  abbrev olds : List Job
  olds = old.jobs.jobs

  abbrev news : List Job
  news = new.jobs.jobs

  same_name : (j k : Job) → out_paths j.recipe ≡ out_paths k.recipe → job_path j ≡ job_path k
  same_name j k same = ap (λ ps. or_empty (first ps)) same

  begun_on : (n : Path) → among (begun_in olds old.phases) n ≡ true → among (begun_in news new.phases) n ≡ true
  begun_on n h =
      let t = begun_found olds old.phases n h in
      let x = stays t.job (get_in olds t.number t.job t.at) in
      let g = get_of_in news x.job x.is in
      let is =
      origin_is old new fresh sound sound' apart apart' grown stays named t.number t.job x.job t.at x.outputs
      in
      let phase : phase_from old x.job ≡ t.phase = ap (λ o. or_waiting (option_and_then (slice_get old.phases) o)) is ∙ ap or_waiting t.has in
      subst (λ q. among (begun_in news new.phases) q ≡ true) (same_name x.job t.job x.outputs ∙ sym t.name)
      (begun_here news new.phases (g.0) x.job t.phase g.1
      (ap (λ ps. slice_get ps (g.0)) grown.phases ∙ mapped_at (phase_from old) news (g.0) x.job g.1 ∙ ap Some phase) t.begun)

  begun_back : (n : Path) → among (begun_in news new.phases) n ≡ true → among (begun_in olds old.phases) n ≡ true
  begun_back n h =
      let t = begun_found news new.phases n h in
      let phase : t.phase ≡ phase_from old t.job =
      same_Some t.phase (phase_from old t.job)
      (sym t.has ∙ ap (λ ps. slice_get ps t.number) grown.phases ∙ mapped_at (phase_from old) news t.number t.job t.at)
      in
      let o = begun_origin (slice_get old.phases) (origin old t.job) (sym (ap has_begun phase) ∙ t.begun) in
      let was = origin_was old new fresh sound sound' apart apart' grown stays named t.number t.job t.at (o.0) o.2 in
      subst (λ q. among (begun_in olds old.phases) q ≡ true) (same_name was.job t.job was.outputs ∙ sym t.name)
      (begun_here olds old.phases (o.0) was.job (o.1) was.at o.3 o.4)

  own_name : (j : Job) → (out_paths j.recipe ≡ [] → ⊥) → among (out_paths j.recipe) (job_path j) ≡ true
  own_name j some = named_among (out_paths j.recipe) some

  -- an old job runs as it did
  runs_old : (i : ℕ) (j : Job) → slice_get olds i ≡ Some j → state_in (running_in olds old.began) (job_path j) ≡ joined (slice_get old.began i)
  runs_old i j at = kept_at olds old.began i j at (one_name old sound apart i j (job_path j) at (own_name j (named j (get_in olds i j at))))

  runs_new : (m : ℕ) (k : Job) → slice_get news m ≡ Some k → state_in (running_in news new.began) (job_path k) ≡ began_from old k
  runs_new m k at =
      kept_at news new.began m k at (one_name new sound' apart' m k (job_path k) at (own_name k (named' k (get_in news m k at))))
      ∙ ap (λ bs. joined (slice_get bs m)) grown.began ∙ ap joined (mapped_at (began_from old) news m k at)

  same_state : (m : ℕ) (k : Job) → slice_get news m ≡ Some k → state_in (running_in olds old.began) (job_path k) ≡ began_from old k
  same_state m k at = go (origin old k) refl
    where
      go : (o : Option ℕ) → origin old k ≡ o → state_in (running_in olds old.began) (job_path k) ≡ began_from old k
      go None none =
          none_named olds old.began (job_path k)
          (λ i j there.
          false_unless (bytes_eq (job_path j) (job_path k))
          (λ e.
          let x = stays j (get_in olds i j there) in
          let same : job_path j ≡ job_path k = same_place (job_path j) (job_path k) e in
          let shared : among (out_paths x.job.recipe) (job_path k) ≡ true =
          ap (λ ps. among ps (job_path k)) x.outputs
          ∙ subst (λ q. among (out_paths j.recipe) q ≡ true) same (own_name j (named j (get_in olds i j there)))
          in
          let one : k ≡ x.job =
          one_new old new fresh sound sound' apart apart' grown stays named m k x.job (job_path k) at x.is (own_name k (named' k (get_in news m k at)))
          shared
          in
          none-some i
          (sym none ∙ origin_is old new fresh sound sound' apart apart' grown stays named i j k there
          (ap (λ (y : Job). out_paths y.recipe) one ∙ x.outputs))))
          ∙ sym (ap (λ o. joined (option_and_then (slice_get old.began) o)) none)
      go (Some i) some =
          let was = origin_was old new fresh sound sound' apart apart' grown stays named m k at i some in
          ap (state_in (running_in olds old.began)) (same_name k was.job (sym was.outputs)) ∙ runs_old i was.job was.at
          ∙ sym (ap (λ o. joined (option_and_then (slice_get old.began) o)) some)

  runs_same : (n : Path) → state_in (running_in olds old.began) n ≡ state_in (running_in news new.began) n
  runs_same n = go (find_name n news)
    where
      go : HasName n news ⊎ LacksName n news → state_in (running_in olds old.began) n ≡ state_in (running_in news new.began) n
      go (inl has) =
          let name : n ≡ job_path (has.1) = sym (same_place (job_path (has.1)) n has.3) in
          ap (state_in (running_in olds old.began)) name ∙ same_state (has.0) (has.1) has.2 ∙ sym (runs_new (has.0) (has.1) has.2)
          ∙ ap (state_in (running_in news new.began)) (sym name)
      go (inr none) =
          none_named olds old.began n
          (λ i j at.
          false_unless (bytes_eq (job_path j) n)
          (λ e.
          let x = stays j (get_in olds i j at) in
          let g = get_of_in news x.job x.is in
          never_both (bytes_eq (job_path x.job) n) (ap (λ q. bytes_eq q n) (same_name x.job j x.outputs) ∙ e) (none (g.0) x.job g.1)))
          ∙ sym (none_named news new.began n none)

  pub alike_now : IsAlike (progress_of old) (progress_of new)
  alike_now =
      record {
        begun = λ n. same_tests (among (begun_in olds old.phases) n) (among (begun_in news new.phases) n) (begun_on n) (begun_back n);
        running = runs_same;
      }

pub growth_is_alike : GrowthIsAlike
growth_is_alike read flow settings w live jobs store fresh base p formed sound sound' agreed was more grown alike =
    let complete = seen_is_complete read w formed in
    let own = own_more read flow settings w live jobs store fresh base grown more in
    let is = is_now read flow settings w live fresh base own in
    let now =
    alike_now live.base base fresh sound sound' agreed.served.apart own.ready.served.apart (own_grown jobs store fresh live.base base grown)
    (still flow (seen read w) live.base.jobs.lists live.plan.known settings.targets live.base.jobs.jobs base.jobs.jobs complete
    was is)
    (has_output flow (seen read w) live.base.jobs.lists settings.targets live.base.jobs.jobs complete was)
    (has_output flow (seen read w) (live.base.jobs.lists ++ live.plan.known) settings.targets base.jobs.jobs complete is)
    in
    record { begun = λ n. alike.begun n ∙ now.begun n; running = λ n. alike.running n ∙ now.running n }
