-- What is known and was seen of each path once new jobs have come: what was known before of outputs of old jobs, and else what the store and fresh looks tell.
use Rattle.std.proofs.Common.{◌≡◌, ◌⊎◌, inl, inr, ℕ, zero, suc, ◌+◌, Bool, true, false, ◌==◌, List, [], ◌∷◌, ◌++◌, map, Option, Some, None, option_map, refl, sym, ap, ap₂, subst, ◌∙◌, bytes_eq, arith}
use Rattle.std.specs.Prelude.{if◌then◌else◌}
use Rattle.std.specs.List.{slice_get}
use Rattle.std.specs.Option.{option_and_then, option_or}
use Rattle.std.specs.BTreeMap.{get_by_text}
use Rattle.std.proofs.lemmas.Option.{same_Some, none-some}
use Rattle.std.proofs.Math.Nat.{zero-add}
use Rattle.smk_base.specs.Path.{overlaps}
use Rattle.smk_base.proofs.Places.{place_itself, same_place}
use Rattle.smk_base.proofs.Under.{never_both, or_first, or_second}
use Rattle.smk_world.specs.declared.recipe.Out.{Out}
use Rattle.smk_world.specs.World.{out_paths}
use Rattle.smk_world.specs.Trees.{Each, IsIn, Path, among, first, outs_of}
use Rattle.smk_flow.specs.declared.job.Job.{Job}
use Rattle.smk_store.specs.Stores.{entry_of}
use Rattle.smk_trigger.specs.JobStates.{is_restore}
use Rattle.smk_plan.specs.declared.seen.Sight.{Sight}
use Rattle.smk_plan.specs.Sights.{sight_at}
use Rattle.smk_plan.specs.States.{test_some}
use Rattle.smk_plan_states.specs.Served.{AreApart, outputs_of}
use Rattle.smk_plan_live.specs.declared.base.Base.{Base}
use Rattle.smk_plan_live.specs.declared.phase.Phase.TheVariants.{Waiting}
use Rattle.smk_plan_live.specs.declared.sites.Site.{Site}
use Rattle.smk_plan_live.specs.Carried.{began_from, copied_entry, entries_from, if_first, or_waiting, origin, phase_from, sights_from}
use Rattle.smk_plan_live.specs.Changes.{IsGrown}
use Rattle.smk_plan_live.specs.Lives.{IsSound}
use Rattle.smk_plan_live.specs.Now.{entry_now, joined, own_sight, restored_now, restores_at, row_at, row_by, seen_before, sight_now}
use Rattle.smk_plan_live.specs.Same.{paths_in}
use Rattle.smk_plan_live.specs.Sites.{site_in, site_outs}
use Rattle.smk_plan_live.proofs.Putting.{mapped_at}
use Rattle.smk_plan_live.proofs.Restoring.{one_job, outs_are, site_found}
use Rattle.smk_laws_plan.proofs.CurrentLists.{get_in}
use Rattle.smk_laws_turns.proofs.Carrying.{by_test}
use Rattle.smk_laws_turns.proofs.Staying.{IsStill}

-- ## Lists

-- an element stands in a place
pub get_of_in : {A : Type 0} (xs : List A) (x : A) → IsIn xs x → (n : ℕ) × (slice_get xs n ≡ Some x)
get_of_in [] x i = absurd i
get_of_in (y ∷ xs) x (inl e) = (zero, ap Some (sym e))
get_of_in (y ∷ xs) x (inr i) = let r = get_of_in xs x i in (suc (r.0), r.1)

placed_among : (ps : List Path) (k : ℕ) (q : Path) → slice_get ps k ≡ Some q → among ps q ≡ true
placed_among [] k q e = absurd (none-some q e)
placed_among (p ∷ ps) zero q e = or_first (bytes_eq q p) (among ps q) (ap (bytes_eq q) (same_Some p q e) ∙ place_itself q)
placed_among (p ∷ ps) (suc k) q e = or_second (bytes_eq q p) (among ps q) (placed_among ps k q e)

first_among : (ps : List Path) (p : Path) → first ps ≡ Some p → among ps p ≡ true
first_among [] p e = absurd (none-some p e)
first_among (x ∷ ps) p e = or_first (bytes_eq p x) (among ps p) (ap (bytes_eq p) (same_Some x p e) ∙ place_itself p)

each_front : (P : Path → Type 0) (xs ys : List Path) → Each P (xs ++ ys) → Each P xs
each_front P [] ys h = tt
each_front P (x ∷ xs) ys h = (h.0, each_front P xs ys h.1)

apart_front : (xs ys : List Path) → AreApart (xs ++ ys) → AreApart xs
apart_front [] ys h = tt
apart_front (x ∷ xs) ys h = (each_front (λ q. overlaps q x ≡ false) xs ys h.0, apart_front xs ys h.1)

apart_back : (xs ys : List Path) → AreApart (xs ++ ys) → AreApart ys
apart_back [] ys h = h
apart_back (x ∷ xs) ys h = apart_back xs ys h.1

-- the outputs of one of the jobs are apart
own_apart : (js : List Job) (n : ℕ) (j : Job) → AreApart (outputs_of js) → slice_get js n ≡ Some j → AreApart (out_paths j.recipe)
own_apart [] n j h at = absurd (none-some j at)
own_apart (k ∷ js) zero j h at =
    subst (λ (x : Job). AreApart (out_paths x.recipe)) (same_Some k j at) (apart_front (out_paths k.recipe) (outputs_of js) h)
own_apart (k ∷ js) (suc n) j h at = own_apart js n j (apart_back (out_paths k.recipe) (outputs_of js) h) at

each_never : (p : Path) (ps : List Path) (k : ℕ) → Each (λ q. overlaps q p ≡ false) ps → slice_get ps k ≡ Some p → ⊥
each_never p [] k h at = none-some p at
each_never p (x ∷ ps) zero h at =
    never_both (overlaps p p) (or_first (bytes_eq p p) _ (place_itself p)) (subst (λ y. overlaps y p ≡ false) (same_Some x p at) h.0)
each_never p (x ∷ ps) (suc k) h at = each_never p ps k h.1 at

-- the first of paths that are apart stands in the first place alone
first_place : (p : Path) (ps : List Path) (k : ℕ) → AreApart (p ∷ ps) → slice_get (p ∷ ps) k ≡ Some p → (k == 0) ≡ true
first_place p ps zero h at = refl
first_place p ps (suc k) h at = absurd (each_never p ps k h.0 at)

-- ## Where outputs stand

outs_place :
    (n k : ℕ) (outs : List Out) (later : Option Site) (q : Path) (s : Site) → site_outs n k outs later q ≡ Some s →
    ((m : ℕ) × (s.job ≡ n) × (s.place ≡ k + m) × (slice_get (paths_in outs) m ≡ Some q)) ⊎ (later ≡ Some s)
outs_place n k [] later q s e = inr e
outs_place n k (o ∷ outs) later q s e = go (bytes_eq o.path q) refl e (outs_place n (suc k) outs later q s)
  where
    next : ((m : ℕ) × (s.job ≡ n) × (s.place ≡ suc k + m) × (slice_get (paths_in outs) m ≡ Some q)) ⊎ (later ≡ Some s) →
        ((m : ℕ) × (s.job ≡ n) × (s.place ≡ k + m) × (slice_get (paths_in (o ∷ outs)) m ≡ Some q)) ⊎ (later ≡ Some s)
    next (inl h) = let step : suc k + h.0 ≡ k + suc (h.0) = omega arith in inl (suc (h.0), h.1, h.2 ∙ step, h.3)
    next (inr h) = inr h

    go :
        (b : Bool) → bytes_eq o.path q ≡ b → (if b then Some (record { job = n; place = k }) else site_outs n (suc k) outs later q) ≡ Some s →
        (site_outs n (suc k) outs later q ≡ Some s → ((m : ℕ) × (s.job ≡ n) × (s.place ≡ suc k + m) × (slice_get (paths_in outs) m ≡ Some q))
        ⊎ (later ≡ Some s)) →
        ((m : ℕ) × (s.job ≡ n) × (s.place ≡ k + m) × (slice_get (paths_in (o ∷ outs)) m ≡ Some q)) ⊎ (later ≡ Some s)
    go true same is more =
        let here : record { job = n; place = k } ≡ s = same_Some (record { job = n; place = k }) s is in
        let none : k ≡ k + 0 = omega arith in
        inl (zero, ap (λ (x : Site). x.job) (sym here), ap (λ (x : Site). x.place) (sym here) ∙ none, ap Some (same_place o.path q same))
    go false same is more = next (more is)

site_place_from :
    (k : ℕ) (jobs : List Job) (q : Path) (s : Site) → site_in k jobs q ≡ Some s →
    (m : ℕ) × (j : Job) × (s.job ≡ k + m) × (slice_get jobs m ≡ Some j) × (slice_get (out_paths j.recipe) s.place ≡ Some q)
site_place_from k [] q s e = absurd (none-some s e)
site_place_from k (j ∷ jobs) q s e = go (outs_place k 0 (outs_of j.recipe) (site_in (suc k) jobs q) q s e) (site_place_from (suc k) jobs q s)
  where
    go :
        ((m : ℕ) × (s.job ≡ k) × (s.place ≡ 0 + m) × (slice_get (paths_in (outs_of j.recipe)) m ≡ Some q)) ⊎ (site_in (suc k) jobs q ≡ Some s) →
        (site_in (suc k) jobs q ≡ Some s → (m : ℕ) × (x : Job) × (s.job ≡ suc k + m) × (slice_get jobs m ≡ Some x)
        × (slice_get (out_paths x.recipe) s.place ≡ Some q)) →
        (m : ℕ) × (x : Job) × (s.job ≡ k + m) × (slice_get (j ∷ jobs) m ≡ Some x) × (slice_get (out_paths x.recipe) s.place ≡ Some q)
    go (inl h) more =
        let none : k ≡ k + 0 = omega arith in
        (zero, j, h.1 ∙ none, refl, ap₂ (λ ps n. slice_get ps n) (outs_are j.recipe) (h.2 ∙ zero-add (h.0)) ∙ h.3)
    go (inr h) more =
        let r = more h in
        let step : suc k + r.0 ≡ k + suc (r.0) = omega arith in
        (suc (r.0), r.1, r.2 ∙ step, r.3, r.4)

-- The site is of this job, one of whose outputs is the path.
pub record IsSiteOf (jobs : List Job) (q : Path) (s : Site) : Type 0 where
  pub job : Job
  pub at : slice_get jobs s.job ≡ Some job
  pub stands : slice_get (out_paths job.recipe) s.place ≡ Some q
  pub own : among (out_paths job.recipe) q ≡ true

pub site_of : (b : Base) → IsSound b → (q : Path) (s : Site) → get_by_text b.sites q ≡ Some s → IsSiteOf b.jobs.jobs q s
site_of b sound q s has =
    let r = site_place_from 0 b.jobs.jobs q s (sym (sound.sited q) ∙ has) in
    let number : s.job ≡ r.0 = r.2 ∙ zero-add (r.0) in
    record {
      job = r.1;
      at = ap (slice_get b.jobs.jobs) number ∙ r.3;
      stands = r.4;
      own = placed_among (out_paths (r.1).recipe) s.place q r.4;
    }

-- an output of a job stands at its number
module _ (b : Base) (sound : IsSound b) (apart : AreApart (outputs_of b.jobs.jobs)) where
  pub record IsSited (n : ℕ) (j : Job) (q : Path) : Type 0 where
    pub site : Site
    pub has : get_by_text b.sites q ≡ Some site
    pub number : site.job ≡ n
    pub stands : slice_get (out_paths j.recipe) site.place ≡ Some q

  pub sited : (n : ℕ) (j : Job) (q : Path) → slice_get b.jobs.jobs n ≡ Some j → among (out_paths j.recipe) q ≡ true → IsSited n j q
  sited n j q at own =
      let t = site_found 0 b.jobs.jobs n j q at own in
      let has : get_by_text b.sites q ≡ Some (t.0) = sound.sited q ∙ t.1 in
      let s = site_of b sound q t.0 has in
      let number : (t.0).job ≡ n = one_job b sound apart (t.0).job n s.job j q s.at at s.own own in
      let same : s.job ≡ j = same_Some s.job j (sym s.at ∙ ap (slice_get b.jobs.jobs) number ∙ at) in
      record { site = t.0; has = has; number = number; stands = ap (λ (x : Job). slice_get (out_paths x.recipe) (t.0).place) (sym same) ∙ s.stands }

-- ## What is told

module _ (old new : Base) (fresh : List Sight) where
  -- what is told of a path once new jobs have come
  pub data IsTold (q : Path) : Type 0 where
    -- it is no output of an old job
    Fresh :
        entry_now new q ≡ entry_of new.store q →
        restored_now new q ≡ false →
        sight_now new q ≡ own_sight q (option_or (sight_at fresh q) (seen_before old q)) →
        ((k : Job) → IsIn new.jobs.jobs k → among (out_paths k.recipe) q ≡ true → phase_from old k ≡ Waiting) → IsTold q
    -- it is one
    Still :
        (j k : Job) →
        IsIn old.jobs.jobs j →
        IsIn new.jobs.jobs k →
        among (out_paths j.recipe) q ≡ true →
        among (out_paths k.recipe) q ≡ true →
        entry_now new q ≡ option_map copied_entry (entry_now old q) →
        restored_now new q ≡ restored_now old q → sight_now new q ≡ sight_now old q → IsTold q

-- ## Old jobs and new ones

own_twice : (q : Path) (o : Option Sight) → own_sight q (own_sight q o) ≡ own_sight q o
own_twice q None = refl
own_twice q (Some s) = go (bytes_eq s.path q) refl
  where
    go : (b : Bool) → bytes_eq s.path q ≡ b → own_sight q (if b then Some s else None) ≡ (if b then Some s else None)
    go true e = ap (λ (b : Bool). if b then Some s else None) e
    go false e = refl

abbrev origin_by : Base → Option Path → Option ℕ
origin_by b o = option_and_then if_first (option_and_then (get_by_text b.sites) o)

module _
    (old new : Base) (fresh : List Sight) (sound : IsSound old) (sound' : IsSound new) (apart : AreApart (outputs_of old.jobs.jobs))
    (apart' : AreApart (outputs_of new.jobs.jobs)) (grown : IsGrown new.jobs new.store fresh old new)
    (still : (j : Job) → IsIn old.jobs.jobs j → IsStill new.jobs.jobs j)
    (named : (j : Job) → IsIn old.jobs.jobs j → out_paths j.recipe ≡ [] → ⊥) where
  abbrev olds : List Job
  olds = old.jobs.jobs

  abbrev news : List Job
  news = new.jobs.jobs

  -- jobs with an output in common are one
  pub one_new : (m : ℕ) (j k : Job) (q : Path) → slice_get news m ≡ Some j → IsIn news k → among (out_paths j.recipe) q ≡ true →
      among (out_paths k.recipe) q ≡ true → j ≡ k
  one_new m j k q at i own own' =
      let g = get_of_in news k i in
      let number : m ≡ g.0 = one_job new sound' apart' m (g.0) j k q at g.1 own own' in
      same_Some j k (sym at ∙ ap (slice_get news) number ∙ g.1)

  -- The job had this number before, and the same outputs.
  pub record IsOld (n : ℕ) (k : Job) : Type 0 where
    pub job : Job
    pub at : slice_get olds n ≡ Some job
    pub outputs : out_paths job.recipe ≡ out_paths k.recipe

  pub origin_was : (m : ℕ) (k : Job) → slice_get news m ≡ Some k → (n : ℕ) → origin old k ≡ Some n → IsOld n k
  origin_was m k at n h = go (first (out_paths k.recipe)) refl h
    where
      of : (p : Path) → among (out_paths k.recipe) p ≡ true → (s : Site) → get_by_text old.sites p ≡ Some s → s.job ≡ n → IsOld n k
      of p own s has number =
          let t = site_of old sound p s has in
          let x = still t.job (get_in olds s.job t.job t.at) in
          let same : k ≡ x.job = one_new m k x.job p at x.is own (ap (λ ps. among ps p) x.outputs ∙ t.own) in
          record {
            job = t.job;
            at = ap (slice_get olds) (sym number) ∙ t.at;
            outputs = sym x.outputs ∙ ap (λ (y : Job). out_paths y.recipe) (sym same);
          }

      at_site : (p : Path) → among (out_paths k.recipe) p ≡ true → (o : Option Site) → get_by_text old.sites p ≡ o → option_and_then if_first o ≡ Some n →
          IsOld n k
      at_site p own None has e = absurd (none-some n e)
      at_site p own (Some s) has e =
          by_test (s.place == 0)
          (λ t. of p own s has (same_Some s.job n (sym (ap (λ (b : Bool). if b then Some s.job else None) t) ∙ e)))
          (λ f. absurd (none-some n (sym (ap (λ (b : Bool). if b then Some s.job else None) f) ∙ e)))

      go : (o : Option Path) → first (out_paths k.recipe) ≡ o → origin_by old o ≡ Some n → IsOld n k
      go None is e = absurd (none-some n e)
      go (Some p) is e = at_site p (first_among (out_paths k.recipe) p is) (get_by_text old.sites p) refl e

  -- an old job is the origin of each that has its outputs
  pub origin_is : (n : ℕ) (j k : Job) → slice_get olds n ≡ Some j → out_paths k.recipe ≡ out_paths j.recipe → origin old k ≡ Some n
  origin_is n j k at same = ap (λ ps. origin_by old (first ps)) same ∙ go (out_paths j.recipe) refl
    where
      go : (ps : List Path) → out_paths j.recipe ≡ ps → origin_by old (first ps) ≡ Some n
      go [] is = absurd (named j (get_in olds n j at) is)
      go (p ∷ ps) is =
          let own : among (out_paths j.recipe) p ≡ true = ap (λ xs. among xs p) is ∙ or_first (bytes_eq p p) (among ps p) (place_itself p) in
          let t = sited old sound apart n j p at own in
          let whole : AreApart (p ∷ ps) = subst AreApart is (own_apart olds n j apart at) in
          let place : (t.site.place == 0) ≡ true = first_place p ps t.site.place whole (ap (λ xs. slice_get xs t.site.place) (sym is) ∙ t.stands) in
          ap (option_and_then if_first) t.has ∙ ap (λ (b : Bool). if b then Some t.site.job else None) place ∙ ap Some t.number

  -- ## Rows

  row_of : {A : Type 0} (rows : List (Option (List (Option A)))) (f : Job → Option (List (Option A))) (q : Path) (s : Site) (k : Job) (before : Option A) →
      rows ≡ map f news → get_by_text new.sites q ≡ Some s → slice_get news s.job ≡ Some k →
      row_at rows (get_by_text new.sites q) before ≡ row_by (f k) s.place before
  row_of rows f q s k before are has at =
      ap₂ (λ rs o. row_at rs o before) are has ∙ ap (λ r. row_by (joined r) s.place before) (mapped_at f news s.job k at)

  restored_of : (q : Path) (s : Site) (k : Job) → get_by_text new.sites q ≡ Some s → slice_get news s.job ≡ Some k →
      restored_now new q ≡ test_some is_restore (began_from old k)
  restored_of q s k has at =
      ap₂ restores_at grown.began has ∙ ap (λ r. test_some is_restore (joined r)) (mapped_at (began_from old) news s.job k at)

  pub told : (q : Path) → IsTold old new fresh q
  told q = go (get_by_text new.sites q) refl
    where
      by_origin : (s : Site) → get_by_text new.sites q ≡ Some s → (t : IsSiteOf news q s) → (o : Option ℕ) → origin old t.job ≡ o → IsTold old new fresh q
      by_origin s has t None none =
          Fresh
          (row_of new.entries (entries_from old) q s t.job (entry_of new.store q) grown.entries has t.at
          ∙ ap (λ o. row_by (option_map (λ (n : ℕ). map (λ x. option_map copied_entry (entry_now old x)) (out_paths t.job.recipe)) o) s.place (entry_of new.store q))
          none)
          (restored_of q s t.job has t.at ∙ ap (λ o. test_some is_restore (joined (option_and_then (slice_get old.began) o))) none)
          (ap (own_sight q)
          (row_of new.sights (sights_from old) q s t.job (seen_before new q) grown.sights has t.at
          ∙ ap (λ o. row_by (option_map (λ (n : ℕ). map (sight_now old) (out_paths t.job.recipe)) o) s.place (seen_before new q)) none ∙ grown.seen q))
          (λ k i own.
          let same : t.job ≡ k = one_new s.job t.job k q t.at i t.own own in
          ap (phase_from old) (sym same) ∙ ap (λ o. or_waiting (option_and_then (slice_get old.phases) o)) none)
      by_origin s has t (Some n) some =
          let was = origin_was s.job t.job t.at n some in
          let own : among (out_paths was.job.recipe) q ≡ true = ap (λ ps. among ps q) was.outputs ∙ t.own in
          let x = sited old sound apart n was.job q was.at own in
          Still was.job t.job (get_in olds n was.job was.at) (get_in news s.job t.job t.at) own t.own
          (row_of new.entries (entries_from old) q s t.job (entry_of new.store q) grown.entries has t.at
          ∙ ap (λ o. row_by (option_map (λ (n : ℕ). map (λ x. option_map copied_entry (entry_now old x)) (out_paths t.job.recipe)) o) s.place (entry_of new.store q))
          some
          ∙ ap joined (mapped_at (λ x. option_map copied_entry (entry_now old x)) (out_paths t.job.recipe) s.place q t.stands))
          (restored_of q s t.job has t.at ∙ ap (λ o. test_some is_restore (joined (option_and_then (slice_get old.began) o))) some
          ∙ sym (ap (restores_at old.began) x.has ∙ ap (λ m. test_some is_restore (joined (slice_get old.began m))) x.number))
          (ap (own_sight q)
          (row_of new.sights (sights_from old) q s t.job (seen_before new q) grown.sights has t.at
          ∙ ap (λ o. row_by (option_map (λ (n : ℕ). map (sight_now old) (out_paths t.job.recipe)) o) s.place (seen_before new q)) some
          ∙ ap joined (mapped_at (sight_now old) (out_paths t.job.recipe) s.place q t.stands))
          ∙ own_twice q (row_at old.sights (get_by_text old.sites q) (seen_before old q)))

      go : (o : Option Site) → get_by_text new.sites q ≡ o → IsTold old new fresh q
      go None has =
          Fresh (ap (λ o. row_at new.entries o (entry_of new.store q)) has) (ap (restores_at new.began) has)
          (ap (λ o. own_sight q (row_at new.sights o (seen_before new q))) has ∙ ap (own_sight q) (grown.seen q))
          (λ k i own.
          let g = get_of_in news k i in
          let t = sited new sound' apart' (g.0) k q g.1 own in
          absurd (none-some t.site (sym has ∙ t.has)))
      go (Some s) has = let t = site_of new sound' q s has in by_origin s has t (origin old t.job) refl
