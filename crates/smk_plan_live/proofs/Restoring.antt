-- Where outputs stand, and which of them are being restored.
use Rattle.std.proofs.Common.{◌≡◌, ◌⊎◌, inl, inr, ℕ, zero, suc, ◌+◌, Bool, true, false, cond, ◌&&◌, ◌||◌, ◌==◌, List, [], ◌∷◌, ◌++◌, map, Option, Some, None, option_map, refl, sym, ap, subst, ◌∙◌, bytes_eq, arith}
use Rattle.std.specs.Prelude.{if◌then◌else◌}
use Rattle.std.specs.List.{find, list_any, slice_get}
use Rattle.std.proofs.lemmas.Bool.{eqb-true, eqb-false, or_right}
use Rattle.std.proofs.lemmas.Option.{same_Some, none-some}
use Rattle.std.proofs.Math.Nat.{zero-add}
use Rattle.smk_base.proofs.Places.{same_place, and_first, and_second}
use Rattle.smk_base.proofs.Under.{never_both, false_unless}
use Rattle.smk_world.specs.declared.recipe.Out.{Out}
use Rattle.smk_world.specs.declared.recipe.OutItem.{OutItem}
use Rattle.smk_world.specs.declared.recipe.Recipe.{Recipe}
use Rattle.smk_world.specs.World.{out_paths}
use Rattle.smk_world.specs.Trees.{Path, among, first, outs_of}
use Rattle.smk_pattern.specs.Reading.{or_empty}
use Rattle.smk_flow.specs.declared.job.Job.{Job}
use Rattle.smk_store.specs.Images.{Image}
use Rattle.smk_trigger.specs.declared.reason.State.{State}
use Rattle.smk_trigger.specs.JobStates.{is_restore}
use Rattle.smk_pick.specs.declared.settings.Settings.{Settings}
use Rattle.smk_plan.specs.States.{job_path, kept_state, is_restored, test_some}
use Rattle.smk_plan.specs.Sights.{job_at}
use Rattle.smk_plan_states.specs.Served.{AreApart, outputs_of}
use Rattle.smk_plan_states.specs.Judged.{with_states}
use Rattle.smk_plan_live.specs.declared.base.Base.{Base}
use Rattle.smk_plan_live.specs.declared.sites.Site.{Site}
use Rattle.smk_plan_live.specs.declared.children.Child.{Child}
use Rattle.smk_plan_live.specs.Phases.{named, child_in, children_in, running_in}
use Rattle.smk_plan_live.specs.Sites.{site_outs, site_in}
use Rattle.smk_plan_live.specs.Now.{joined, restored_now, restores_at}
use Rattle.smk_plan_live.specs.Same.{paths_in}
use Rattle.smk_plan_live.specs.Lives.{IsSound, progress_of}
use Rattle.smk_plan_live.proofs.Same.{map_parts, outputs_apart}
use Rattle.smk_plan_live.proofs.Tables.{same_bytes, flipped}

-- ## Lists and numbers

pub at_same : (js : List Job) (n : ℕ) → slice_get js n ≡ job_at js n
at_same [] n = refl
at_same (j ∷ js) zero = refl
at_same (j ∷ js) (suc n) = at_same js n

pub same_number : (m n : ℕ) → ((m ≡ n → ⊥) → ⊥) → m ≡ n
same_number m n h = go (m == n) refl
  where
    go : (b : Bool) → (m == n) ≡ b → m ≡ n
    go true e = eqb-true m n e
    go false e = absurd (h (eqb-false m n e))

pub any_at : {A : Type 0} (test : A → Bool) (xs : List A) → list_any test xs ≡ true → (m : ℕ) × (x : A) × (slice_get xs m ≡ Some x) × (test x ≡ true)
any_at {A = A} test [] h = absurd (never_both false h refl)
any_at {A = A} test (x ∷ xs) h = go (test x) refl h (any_at test xs)
  where
    go :
        (b : Bool) → test x ≡ b → (b || list_any test xs) ≡ true →
        (list_any test xs ≡ true → (m : ℕ) × (y : A) × (slice_get xs m ≡ Some y) × (test y ≡ true)) →
        (m : ℕ) × (y : A) × (slice_get (x ∷ xs) m ≡ Some y) × (test y ≡ true)
    go true e h more = (zero, x, refl, e)
    go false e h more = let r = more h in (suc r.0, r.1, r.2, r.3)

pub outs_are : (r : Recipe) → out_paths r ≡ paths_in (outs_of r)
outs_are r = map_parts (λ (o : Out). o.path) (λ (item : OutItem). item.outs) r.outputs

-- ## Where outputs stand

outs_site : (n k : ℕ) (outs : List Out) (later : Option Site) (q : Path) (s : Site) → site_outs n k outs later q ≡ Some s → ((s.job ≡ n) × (among (paths_in outs) q ≡ true)) ⊎ (later ≡ Some s)
outs_site n k [] later q s e = inr e
outs_site n k (o ∷ outs) later q s e = go (bytes_eq o.path q) refl e (outs_site n (suc k) outs later q s)
  where
    later_too : ((s.job ≡ n) × (among (paths_in outs) q ≡ true)) ⊎ (later ≡ Some s) → ((s.job ≡ n) × ((bytes_eq q o.path || among (paths_in outs) q) ≡ true)) ⊎ (later ≡ Some s)
    later_too (inl h) = inl (h.0, or_right (bytes_eq q o.path) (among (paths_in outs) q) h.1)
    later_too (inr h) = inr h

    go :
        (b : Bool) → bytes_eq o.path q ≡ b → (if b then Some (record { job = n; place = k }) else site_outs n (suc k) outs later q) ≡ Some s →
        (site_outs n (suc k) outs later q ≡ Some s → ((s.job ≡ n) × (among (paths_in outs) q ≡ true)) ⊎ (later ≡ Some s)) →
        ((s.job ≡ n) × ((bytes_eq q o.path || among (paths_in outs) q) ≡ true)) ⊎ (later ≡ Some s)
    go true same e more =
        inl (ap (λ (x : Site). x.job) (sym (same_Some (record { job = n; place = k }) s e)), ap (λ b. b || among (paths_in outs) q) (flipped q o.path ∙ same))
    go false same e more = later_too (more e)

-- the site of a path is of a job that has it as an output
pub site_has : (k : ℕ) (jobs : List Job) (q : Path) (s : Site) → site_in k jobs q ≡ Some s → (m : ℕ) × (j : Job) × (s.job ≡ k + m) × (slice_get jobs m ≡ Some j) × (among (out_paths j.recipe) q ≡ true)
site_has k [] q s e = absurd (none-some s e)
site_has k (j ∷ jobs) q s e = go (outs_site k 0 (outs_of j.recipe) (site_in (suc k) jobs q) q s e) (site_has (suc k) jobs q s)
  where
    go :
        ((s.job ≡ k) × (among (paths_in (outs_of j.recipe)) q ≡ true)) ⊎ (site_in (suc k) jobs q ≡ Some s) →
        (site_in (suc k) jobs q ≡ Some s → (m : ℕ) × (x : Job) × (s.job ≡ suc k + m) × (slice_get jobs m ≡ Some x) × (among (out_paths x.recipe) q ≡ true)) →
        (m : ℕ) × (x : Job) × (s.job ≡ k + m) × (slice_get (j ∷ jobs) m ≡ Some x) × (among (out_paths x.recipe) q ≡ true)
    go (inl h) more =
        let none : k ≡ k + 0 = omega arith in
        (zero, j, h.0 ∙ none, refl, ap (λ ps. among ps q) (outs_are j.recipe) ∙ h.1)
    go (inr h) more =
        let r = more h in
        let step : suc k + r.0 ≡ k + suc (r.0) = omega arith in
        (suc (r.0), r.1, r.2 ∙ step, r.3, r.4)

outs_later : (n k : ℕ) (outs : List Out) (q : Path) (s : Site) → (t : Site) × (site_outs n k outs (Some s) q ≡ Some t)
outs_later n k [] q s = (s, refl)
outs_later n k (o ∷ outs) q s = go (bytes_eq o.path q) (outs_later n (suc k) outs q s)
  where
    go : (b : Bool) → (t : Site) × (site_outs n (suc k) outs (Some s) q ≡ Some t) → (t : Site) × ((if b then Some (record { job = n; place = k }) else site_outs n (suc k) outs (Some s) q) ≡ Some t)
    go true more = (record { job = n; place = k }, refl)
    go false more = more

outs_found : (n k : ℕ) (outs : List Out) (later : Option Site) (q : Path) → among (paths_in outs) q ≡ true → (t : Site) × (site_outs n k outs later q ≡ Some t)
outs_found n k [] later q h = absurd (never_both false h refl)
outs_found n k (o ∷ outs) later q h = go (bytes_eq o.path q) refl (outs_found n (suc k) outs later q)
  where
    go :
        (b : Bool) → bytes_eq o.path q ≡ b → (among (paths_in outs) q ≡ true → (t : Site) × (site_outs n (suc k) outs later q ≡ Some t)) →
        (t : Site) × ((if b then Some (record { job = n; place = k }) else site_outs n (suc k) outs later q) ≡ Some t)
    go true e more = (record { job = n; place = k }, refl)
    go false e more = more (sym (ap (λ b. b || among (paths_in outs) q) (flipped q o.path ∙ e)) ∙ h)

pub site_found : (k : ℕ) (jobs : List Job) (m : ℕ) (j : Job) (q : Path) → slice_get jobs m ≡ Some j → among (out_paths j.recipe) q ≡ true → (t : Site) × (site_in k jobs q ≡ Some t)
site_found k [] m j q at h = absurd (none-some j at)
site_found k (x ∷ jobs) zero j q at h =
    outs_found k 0 (outs_of x.recipe) (site_in (suc k) jobs q) q
    (sym (ap (λ ps. among ps q) (outs_are x.recipe)) ∙ ap (λ (y : Job). among (out_paths y.recipe) q) (same_Some x j at) ∙ h)
site_found k (x ∷ jobs) (suc m) j q at h =
    let r = site_found (suc k) jobs m j q at h in
    subst (λ o. (t : Site) × (site_outs k 0 (outs_of x.recipe) o q ≡ Some t)) (sym r.1) (outs_later k 0 (outs_of x.recipe) q r.0)

-- ## Children by their names

abbrev pair_state : List (Path × State) → Path → Option State
pair_state pairs n = option_map (λ (e : Path × State). e.1) (find (λ (e : Path × State). bytes_eq e.0 n) pairs)

abbrev past : Bool → Path → State → Path → List (Path × State) → Option State
past b name s n rest = option_map (λ (e : Path × State). e.1) (cond b (Some (name, s)) (find (λ (e : Path × State). bytes_eq e.0 n) rest))

pub named_later : (k : Job) (b : Option State) (rest : List Child) (n : Path) → bytes_eq (job_path k) n ≡ false → pair_state (map named (child_in k b ++ rest)) n ≡ pair_state (map named rest) n
named_later k None rest n e = refl
named_later k (Some s) rest n e = ap (λ b. past b (job_path k) s n (map named rest)) e

named_none : (jobs : List Job) (began : List (Option State)) (n : Path) → ((i : ℕ) (k : Job) → slice_get jobs i ≡ Some k → bytes_eq (job_path k) n ≡ false) → pair_state (running_in jobs began) n ≡ None
named_none [] began n h = refl
named_none (k ∷ jobs) [] n h = refl
named_none (k ∷ jobs) (b ∷ began) n h =
    named_later k b (children_in jobs began) n (h zero k refl) ∙ named_none jobs began n (λ i x at. h (suc i) x at)

named_here : (k j : Job) (b : Option State) (rest : List Child) → k ≡ j → pair_state (map named rest) (job_path j) ≡ None → pair_state (map named (child_in k b ++ rest)) (job_path j) ≡ b
named_here k j None rest e none = none
named_here k j (Some s) rest e none =
    ap (λ b. past b (job_path k) s (job_path j) (map named rest)) (ap (λ (x : Job). bytes_eq (job_path k) (job_path x)) (sym e) ∙ same_bytes (job_path k))

zero_suc : (m : ℕ) → suc m ≡ zero → ⊥
zero_suc m e = absurd (omega (arith, e))

-- the job of the number m, whose name no other one has, runs with its state at its beginning
pub kept_at :
    (jobs : List Job) (began : List (Option State)) (m : ℕ) (j : Job) → slice_get jobs m ≡ Some j →
    ((i : ℕ) (k : Job) → slice_get jobs i ≡ Some k → bytes_eq (job_path k) (job_path j) ≡ true → i ≡ m) →
    pair_state (running_in jobs began) (job_path j) ≡ joined (slice_get began m)
kept_at [] began m j at unique = absurd (none-some j at)
kept_at (k ∷ jobs) [] m j at unique = refl
kept_at (k ∷ jobs) (b ∷ began) zero j at unique =
    named_here k j b (children_in jobs began) (same_Some k j at)
    (named_none jobs began (job_path j) (λ i x here. false_unless (bytes_eq (job_path x) (job_path j)) (λ e. zero_suc i (unique (suc i) x here e))))
kept_at (k ∷ jobs) (b ∷ began) (suc m) j at unique =
    named_later k b (children_in jobs began) (job_path j) (false_unless (bytes_eq (job_path k) (job_path j)) (λ e. zero_suc m (sym (unique zero k refl e))))
    ∙ kept_at jobs began m j at (λ i x here e. let h = unique (suc i) x here e in omega (arith, h))

-- ## What is being restored

first_among : (ps : List Path) (q : Path) → among ps q ≡ true → among ps (or_empty (first ps)) ≡ true
first_among [] q h = h
first_among (p ∷ ps) q h = ap (λ b. b || among ps p) (same_bytes p)

first_or : (ps : List Path) → (or_empty (first ps) ≡ []) ⊎ (among ps (or_empty (first ps)) ≡ true)
first_or [] = inl refl
first_or (p ∷ ps) = inr (ap (λ b. b || among ps p) (same_bytes p))

module _ (b : Base) (sound : IsSound b) (apart : AreApart (outputs_of b.jobs.jobs)) where
  pub one_job :
      (m n : ℕ) (j k : Job) (q : Path) → slice_get b.jobs.jobs m ≡ Some j → slice_get b.jobs.jobs n ≡ Some k → among (out_paths j.recipe) q ≡ true →
      among (out_paths k.recipe) q ≡ true → m ≡ n
  one_job m n j k q at bt h g =
      same_number m n (λ other. outputs_apart b.jobs.jobs m n j k apart other (sym (at_same b.jobs.jobs m) ∙ at) (sym (at_same b.jobs.jobs n) ∙ bt) q h g)

  -- no output is the empty path
  never_empty : (m : ℕ) (j : Job) → slice_get b.jobs.jobs m ≡ Some j → among (out_paths j.recipe) [] ≡ true → ⊥
  never_empty m j at h =
      let r = site_found 0 b.jobs.jobs m j [] at h in
      none-some (r.0) (sym sound.unnamed ∙ sound.sited [] ∙ r.1)

  -- no other job has the name of one with an output
  pub one_name :
      (m : ℕ) (j : Job) (q : Path) → slice_get b.jobs.jobs m ≡ Some j → among (out_paths j.recipe) q ≡ true →
      (i : ℕ) (k : Job) → slice_get b.jobs.jobs i ≡ Some k → bytes_eq (job_path k) (job_path j) ≡ true → i ≡ m
  one_name m j q at h i k here e = go (first_or (out_paths k.recipe))
    where
      same : job_path k ≡ job_path j
      same = same_place (job_path k) (job_path j) e

      own : among (out_paths j.recipe) (job_path j) ≡ true
      own = first_among (out_paths j.recipe) q h

      go : (job_path k ≡ []) ⊎ (among (out_paths k.recipe) (job_path k) ≡ true) → i ≡ m
      go (inl none) = absurd (never_empty m j at (subst (λ p. among (out_paths j.recipe) p ≡ true) (sym same ∙ none) own))
      go (inr named) = one_job i m k j (job_path j) here at (subst (λ p. among (out_paths k.recipe) p ≡ true) same named) own

  pub restored_so : (image : Image) (settings : Settings) (q : Path) → is_restored image settings (progress_of b) (with_states b.jobs []) q ≡ true → restored_now b q ≡ true
  restored_so image settings q h =
      let r = any_at (λ j. test_some is_restore (kept_state image settings (progress_of b) (with_states b.jobs []) j) && among (out_paths j.recipe) q) b.jobs.jobs h in
      of r.0 r.1 r.2 (and_first _ _ r.3) (and_second _ _ r.3)
    where
      of :
          (m : ℕ) (j : Job) → slice_get b.jobs.jobs m ≡ Some j → test_some is_restore (kept_state image settings (progress_of b) (with_states b.jobs []) j) ≡ true →
          among (out_paths j.recipe) q ≡ true → restored_now b q ≡ true
      of m j at runs has =
          let t = site_found 0 b.jobs.jobs m j q at has in
          let s = site_has 0 b.jobs.jobs q t.0 t.1 in
          let same : (t.0).job ≡ m = s.2 ∙ zero-add (s.0) ∙ one_job (s.0) m (s.1) j q s.3 at s.4 has in
          ap (restores_at b.began) (sound.sited q ∙ t.1) ∙ ap (λ n. test_some is_restore (joined (slice_get b.began n))) same
          ∙ ap (test_some is_restore) (sym (kept_at b.jobs.jobs b.began m j at (one_name m j q at has))) ∙ runs
