-- Which jobs read what others make.
use Rattle.std.proofs.Common.{◌≡◌, ◌⊎◌, inl, inr, ℕ, zero, suc, ◌+◌, ◌-◌, ◌<◌, ◌≤◌, Bool, true, false, ◌||◌, ◌==◌, List, [], ◌∷◌, ◌++◌, map, length, drop, Option, Some, None, refl, sym, ap, ap₂, subst, ◌∙◌, bytes_eq, arith}
use Rattle.std.specs.Prelude.{if◌then◌else◌, option_map}
use Rattle.std.specs.BTreeMap.{get_by_text}
use Rattle.std.specs.List.{list_any, slice_get}
use Rattle.std.proofs.Math.Nat.{zero-add}
use Rattle.std.proofs.lemmas.Bool.{eqb-true, eqb-false, eq-eqb}
use Rattle.std.proofs.lemmas.List.{drop_more, length-append}
use Rattle.std.proofs.Math.ListN.{get_or}
use Rattle.std.proofs.lemmas.Option.{same_Some, none-some}
use Rattle.smk_base.specs.Path.{is_at_or_under}
use Rattle.smk_base.proofs.Places.{same_place}
use Rattle.smk_base.proofs.Under.{never_both, or_cases, or_first, or_second}
use Rattle.smk_world.specs.declared.recipe.Item.{Item}
use Rattle.smk_world.specs.declared.recipe.Out.{Out}
use Rattle.smk_world.specs.World.{folders_above, in_paths, out_paths}
use Rattle.smk_world.specs.Trees.{Path, among, outs_of}
use Rattle.smk_flow.specs.declared.job.Job.{Job}
use Rattle.smk_plan.specs.States.{test_some}
use Rattle.smk_plan_facts.proofs.Outs.{folders_are}
use Rattle.smk_plan_states.specs.Served.{AreApart, outputs_of}
use Rattle.smk_plan_live.specs.declared.base.Base.{Base}
use Rattle.smk_plan_live.specs.declared.sites.Site.{Site}
use Rattle.smk_plan_live.specs.Lives.{IsSound}
use Rattle.smk_plan_live.specs.Readers.{ends_with, with_last, reading, is_here, stands_at, stands_over, reads_from, readers_from}
use Rattle.smk_plan_live.specs.Same.{is_over, paths_in, readers_of, users_from}
use Rattle.smk_plan_live.proofs.Tables.{flipped, same_bytes}
use Rattle.smk_plan_live.proofs.Restoring.{any_at, one_job, outs_are, site_found, site_has}
use Rattle.smk_plan_live.proofs.Same.{any_parts, over_at}

-- ## Rows of numbers

last_at : (ns : List ℕ) (k : ℕ) → slice_get (ns ++ k ∷ []) (length (ns ++ k ∷ []) - 1) ≡ Some k
last_at ns k =
    let place : length (ns ++ k ∷ []) - 1 ≡ length ns = omega (arith, length-append ns (k ∷ [])) in
    ap (slice_get (ns ++ k ∷ [])) place ∙ behind ns
  where
    behind : (xs : List ℕ) → slice_get (xs ++ k ∷ []) (length xs) ≡ Some k
    behind [] = refl
    behind (x ∷ xs) = behind xs

ends_so : (ns : List ℕ) (k m : ℕ) → ends_with (ns ++ k ∷ []) m ≡ (k == m)
ends_so ns k m = ap (test_some (λ n. n == m)) (last_at ns k)

last_twice : (ns : List ℕ) (k : ℕ) → with_last (with_last ns k) k ≡ with_last ns k
last_twice ns k = go (ends_with ns k) refl
  where
    go : (b : Bool) → ends_with ns k ≡ b → with_last (if b then ns else ns ++ k ∷ []) k ≡ (if b then ns else ns ++ k ∷ [])
    go true e = ap (λ (b : Bool). if b then ns else ns ++ k ∷ []) e
    go false e = ap (λ (b : Bool). if b then ns ++ k ∷ [] else (ns ++ k ∷ []) ++ k ∷ []) (ends_so ns k k ∙ eq-eqb k k refl)

pub reading_more : (b r : Bool) (k : ℕ) (row : Option (List ℕ)) → reading r k (reading b k row) ≡ reading (b || r) k row
reading_more true true k None = refl
reading_more true true k (Some ns) = ap Some (last_twice ns k)
reading_more true false k row = refl
reading_more false r k row = refl

-- the same of one more of some things, where those behind it are still to be read
pub reading_step :
    {A : Type 0} (test : A → Bool) (xs : List A) (i : ℕ) (x : A) (k : ℕ) (was is whole : Option (List ℕ)) → i < length xs → x ≡ get_or xs i x → is ≡ reading (test x) k was →
    reading (list_any test (drop i xs)) k was ≡ whole → reading (list_any test (drop (i + 1) xs)) k is ≡ whole
reading_step {A = A} test xs i x k was is whole below at told left =
    let split : drop i xs ≡ x ∷ drop (i + 1) xs = drop_more xs i x below ∙ ap (λ (y : A). y ∷ drop (i + 1) xs) (sym at) in
    ap (reading (list_any test (drop (i + 1) xs)) k) told ∙ reading_more (test x) (list_any test (drop (i + 1) xs)) k was
    ∙ ap (λ (ys : List A). reading (list_any test ys) k was) (sym split) ∙ left

-- one row has changed
pub reading_set :
    (rows new : List (List ℕ)) (n k : ℕ) (was is : List ℕ) → slice_get rows n ≡ Some was → is ≡ with_last was k →
    ((m : ℕ) → (m ≡ n → ⊥) → slice_get new m ≡ slice_get rows m) → slice_get new n ≡ Some is →
    (m : ℕ) → slice_get new m ≡ reading (n == m) k (slice_get rows m)
reading_set rows new n k was is had has others here m = go (n == m) refl
  where
    go : (b : Bool) → (n == m) ≡ b → slice_get new m ≡ reading b k (slice_get rows m)
    go true e =
        let same : n ≡ m = eqb-true n m e in
        ap (slice_get new) (sym same) ∙ here ∙ ap Some has ∙ ap (option_map (λ ns. with_last ns k)) (sym had ∙ ap (slice_get rows) same)
    go false e = others m (λ is. eqb-false n m e (sym is))

-- ## Jobs

-- each of the numbers that a row ends with is below n
abbrev pub AreBelow : ℕ → List (List ℕ) → Type 0
AreBelow n rows = (m : ℕ) (row : List ℕ) → slice_get rows m ≡ Some row → (k : ℕ) → n ≤ k → ends_with row k ≡ false

-- of the jobs from the number n on the numbers are still to be added
abbrev pub still : (Path → Option Site) → ℕ → ℕ → List Job → List ℕ → List ℕ
still sites m n jobs row = row ++ readers_from sites m n jobs

abbrev pub AreLeft : (Path → Option Site) → ℕ → List Job → List (List ℕ) → List Job → Type 0
AreLeft sites n rest rows jobs =
    (m : ℕ) → option_map (still sites m n rest) (slice_get rows m) ≡ option_map (λ (j : Job). readers_from sites m 0 jobs) (slice_get jobs m)

joined : (xs ys zs : List ℕ) → (xs ++ ys) ++ zs ≡ xs ++ (ys ++ zs)
joined [] ys zs = refl
joined (x ∷ xs) ys zs = ap (λ rest. x ∷ rest) (joined xs ys zs)

none_behind : (xs : List ℕ) → xs ++ [] ≡ xs
none_behind [] = refl
none_behind (x ∷ xs) = ap (λ ys. x ∷ ys) (none_behind xs)

pub left_first : (sites : Path → Option Site) (jobs : List Job) → AreLeft sites 0 jobs (map (λ (j : Job). []) jobs) jobs
left_first sites jobs m = go jobs m
  where
    go : (js : List Job) (i : ℕ) → option_map (still sites m 0 jobs) (slice_get (map (λ (j : Job). []) js) i) ≡ option_map (λ (j : Job). readers_from sites m 0 jobs) (slice_get js i)
    go [] i = refl
    go (j ∷ js) zero = refl
    go (j ∷ js) (suc i) = go js i

pub below_first : (jobs : List Job) (n : ℕ) → AreBelow n (map (λ (j : Job). []) jobs)
below_first [] n m row e k le = absurd (none-some row e)
below_first (j ∷ jobs) n zero row e k le = ap (λ ns. ends_with ns k) (sym (same_Some [] row e))
below_first (j ∷ jobs) n (suc m) row e k le = below_first jobs n m row e k le

-- once a job's reading was added, those of the later ones are left
pub left_next :
    (sites : Path → Option Site) (n : ℕ) (x : Job) (rest jobs : List Job) (rows new : List (List ℕ)) →
    ((m : ℕ) → slice_get new m ≡ reading (reads_from sites m x) n (slice_get rows m)) → AreBelow n rows → AreLeft sites n (x ∷ rest) rows jobs →
    AreLeft sites (suc n) rest new jobs
left_next sites n x rest jobs rows new added below left m =
    ap (option_map (still sites m (suc n) rest)) (added m) ∙ go (slice_get rows m) refl ∙ left m
  where
    in_row :
        (row : List ℕ) → ends_with row n ≡ false → (b : Bool) →
        still sites m (suc n) rest (if b then with_last row n else row) ≡ row ++ ((if b then n ∷ [] else []) ++ readers_from sites m (suc n) rest)
    in_row row out true =
        ap (λ (b : Bool). (if b then row else row ++ n ∷ []) ++ readers_from sites m (suc n) rest) out ∙ joined row (n ∷ []) (readers_from sites m (suc n) rest)
    in_row row out false = refl

    by_reading : (row : List ℕ) (b : Bool) → reading b n (Some row) ≡ Some (if b then with_last row n else row)
    by_reading row true = refl
    by_reading row false = refl

    none_by : (b : Bool) → option_map (still sites m (suc n) rest) (reading b n None) ≡ None
    none_by true = refl
    none_by false = refl

    go :
        (o : Option (List ℕ)) → slice_get rows m ≡ o →
        option_map (still sites m (suc n) rest) (reading (reads_from sites m x) n o) ≡ option_map (still sites m n (x ∷ rest)) o
    go None e = none_by (reads_from sites m x)
    go (Some row) e =
        let same : n ≤ n = omega arith in
        ap (option_map (still sites m (suc n) rest)) (by_reading row (reads_from sites m x)) ∙ ap Some (in_row row (below m row e n same) (reads_from sites m x))

pub below_next :
    (sites : Path → Option Site) (n : ℕ) (x : Job) (rows new : List (List ℕ)) →
    ((m : ℕ) → slice_get new m ≡ reading (reads_from sites m x) n (slice_get rows m)) → AreBelow n rows → AreBelow (suc n) new
below_next sites n x rows new added below m row is k le = go (reads_from sites m x) (slice_get rows m) refl (sym (added m) ∙ is)
  where
    more : n ≤ k
    more = omega (arith, le)

    other : (n == k) ≡ false
    other = differ (n == k) refl
      where
        differ : (b : Bool) → (n == k) ≡ b → b ≡ false
        differ true e = absurd (omega (arith, le, eqb-true n k e))
        differ false e = refl

    in_row : (was : List ℕ) → ends_with was n ≡ false → ends_with (with_last was n) k ≡ false
    in_row was out = ap (λ (b : Bool). ends_with (if b then was else was ++ n ∷ []) k) out ∙ ends_so was n k ∙ other

    go : (b : Bool) (o : Option (List ℕ)) → slice_get rows m ≡ o → reading b n o ≡ Some row → ends_with row k ≡ false
    go true None e h = absurd (none-some row h)
    go true (Some was) e h =
        let same : n ≤ n = omega arith in
        ap (λ ns. ends_with ns k) (sym (same_Some (with_last was n) row h)) ∙ in_row was (below m was e n same)
    go false None e h = absurd (none-some row h)
    go false (Some was) e h = ap (λ ns. ends_with ns k) (sym (same_Some was row h)) ∙ below m was e k more

-- the same where the job is that of the number in the list
pub left_step :
    (sites : Path → Option Site) (jobs : List Job) (i : ℕ) (x : Job) (rows new : List (List ℕ)) → i < length jobs → x ≡ get_or jobs i x →
    ((m : ℕ) → slice_get new m ≡ reading (reads_from sites m x) i (slice_get rows m)) →
    AreLeft sites i (drop i jobs) rows jobs × AreBelow i rows → AreLeft sites (i + 1) (drop (i + 1) jobs) new jobs × AreBelow (i + 1) new
left_step sites jobs i x rows new below is added h =
    let split : drop i jobs ≡ x ∷ drop (i + 1) jobs = drop_more jobs i x below ∙ ap (λ (y : Job). y ∷ drop (i + 1) jobs) (sym is) in
    let step : suc i ≡ i + 1 = omega arith in (
      subst (λ n. AreLeft sites n (drop (i + 1) jobs) new jobs) step
          (left_next sites i x (drop (i + 1) jobs) jobs rows new added h.1 (subst (λ rest. AreLeft sites i rest rows jobs) split h.0)),
      subst (λ n. AreBelow n new) step (below_next sites i x rows new added h.1),
    )

-- ## By outputs

same_truth : (a b : Bool) → (a ≡ true → b ≡ true) → (b ≡ true → a ≡ true) → a ≡ b
same_truth true b f g = sym (f refl)
same_truth false true f g = g refl
same_truth false false f g = refl

any_among : (test : Path → Bool) (ps : List Path) (q : Path) → among ps q ≡ true → test q ≡ true → list_any test ps ≡ true
any_among test [] q h e = absurd (never_both false h refl)
any_among test (p ∷ ps) q h e = go (or_cases (bytes_eq q p) (among ps q) h) (any_among test ps q)
  where
    go : (bytes_eq q p ≡ true) ⊎ (among ps q ≡ true) → (among ps q ≡ true → test q ≡ true → list_any test ps ≡ true) → (test p || list_any test ps) ≡ true
    go (inl same) more = or_first (test p) (list_any test ps) (ap test (sym (same_place q p same)) ∙ e)
    go (inr later) more = or_second (test p) (list_any test ps) (more later e)

placed : (ps : List Path) (k : ℕ) (q : Path) → slice_get ps k ≡ Some q → among ps q ≡ true
placed [] k q e = absurd (none-some q e)
placed (p ∷ ps) zero q e = or_first (bytes_eq q p) (among ps q) (ap (bytes_eq q) (same_Some p q e) ∙ same_bytes q)
placed (p ∷ ps) (suc k) q e = or_second (bytes_eq q p) (among ps q) (placed ps k q e)

-- a path and the folders above it are what it lies at or under
above_at : (q p : Path) → among (q ∷ folders_above q) p ≡ is_at_or_under q p
above_at q p = ap₂ (λ a b. a || b) (flipped p q) (folders_are q p)

here_so : (m : ℕ) (o : Option Site) → is_here m o ≡ true → (s : Site) × (o ≡ Some s) × (s.job ≡ m)
here_so m None h = absurd (never_both false h refl)
here_so m (Some s) h = (s, refl, eqb-true s.job m h)

over_one : (outs : List Out) (q : Path) → is_over outs q ≡ true → (p : Path) × (among (paths_in outs) p ≡ true) × (is_at_or_under q p ≡ true)
over_one [] q h = absurd (never_both false h refl)
over_one (o ∷ outs) q h = go (or_cases (is_at_or_under q o.path) (is_over outs q) h) (over_one outs q)
  where
    go :
        (is_at_or_under q o.path ≡ true) ⊎ (is_over outs q ≡ true) →
        (is_over outs q ≡ true → (p : Path) × (among (paths_in outs) p ≡ true) × (is_at_or_under q p ≡ true)) →
        (p : Path) × (among (paths_in (o ∷ outs)) p ≡ true) × (is_at_or_under q p ≡ true)
    go (inl e) more = (o.path, or_first (bytes_eq o.path o.path) (among (paths_in outs) o.path) (same_bytes o.path), e)
    go (inr e) more = let r = more e in (r.0, or_second (bytes_eq r.0 o.path) (among (paths_in outs) r.0) r.1, r.2)

module _ (b : Base) (sound : IsSound b) (apart : AreApart (outputs_of b.jobs.jobs)) where
  abbrev sites : Path → Option Site
  sites = get_by_text b.sites

  module _ (m : ℕ) (j : Job) (at : slice_get b.jobs.jobs m ≡ Some j) where
    -- what stands at the job's site is an output of it
    own_by : (p : Path) → stands_at sites m p ≡ true → among (paths_in (outs_of j.recipe)) p ≡ true
    own_by p h =
        let s = here_so m (sites p) h in
        let r = site_has 0 b.jobs.jobs p s.0 (sym (sound.sited p) ∙ s.1) in
        let number : r.0 ≡ m = sym (zero-add (r.0)) ∙ sym r.2 ∙ s.2 in
        let is : r.1 ≡ j = same_Some (r.1) j (sym r.3 ∙ ap (slice_get b.jobs.jobs) number ∙ at) in
        ap (λ ps. among ps p) (sym (outs_are j.recipe)) ∙ ap (λ (x : Job). among (out_paths x.recipe) p) (sym is) ∙ r.4

    by_own : (p : Path) → among (paths_in (outs_of j.recipe)) p ≡ true → stands_at sites m p ≡ true
    by_own p h =
        let own : among (out_paths j.recipe) p ≡ true = ap (λ ps. among ps p) (outs_are j.recipe) ∙ h in
        let t = site_found 0 b.jobs.jobs m j p at own in
        let r = site_has 0 b.jobs.jobs p t.0 t.1 in
        let same : (t.0).job ≡ m = r.2 ∙ zero-add (r.0) ∙ one_job b sound apart (r.0) m (r.1) j p r.3 at r.4 own in
        ap (is_here m) (sound.sited p ∙ t.1) ∙ eq-eqb (t.0).job m same

    over_same : (q : Path) → stands_over sites m q ≡ is_over (outs_of j.recipe) q
    over_same q = same_truth (stands_over sites m q) (is_over (outs_of j.recipe) q) forth back
      where
        forth : stands_over sites m q ≡ true → is_over (outs_of j.recipe) q ≡ true
        forth h =
            let r = any_at (stands_at sites m) (q ∷ folders_above q) h in
            over_at (outs_of j.recipe) q (r.1) (sym (above_at q (r.1)) ∙ placed (q ∷ folders_above q) (r.0) (r.1) r.2) (own_by (r.1) r.3)

        back : is_over (outs_of j.recipe) q ≡ true → stands_over sites m q ≡ true
        back h =
            let r = over_one (outs_of j.recipe) q h in
            any_among (stands_at sites m) (q ∷ folders_above q) (r.0) (above_at q (r.0) ∙ r.2) (by_own (r.0) r.1)

    readers_same : (n : ℕ) (jobs : List Job) → readers_from sites m n jobs ≡ users_from (outs_of j.recipe) n jobs
    readers_same n [] = refl
    readers_same n (k ∷ jobs) =
        ap₂ (λ (r : Bool) ns. (if r then n ∷ [] else []) ++ ns)
        (any_parts (stands_over sites m) (λ (item : Item). item.paths) k.recipe.inputs ∙ (λ i. list_any (λ q. over_same q i) (in_paths k.recipe)))
        (readers_same (suc n) jobs)

  -- once no job is left these are the readers
  pub readers_done :
      (rows : List (List ℕ)) (rest : List Job) (n : ℕ) → rest ≡ [] → AreLeft sites n rest rows b.jobs.jobs → rows ≡ readers_of b.jobs.jobs
  readers_done rows rest n done left = same_gets rows (readers_of b.jobs.jobs) each
    where
      same_gets : {A : Type 0} (xs ys : List A) → ((i : ℕ) → slice_get xs i ≡ slice_get ys i) → xs ≡ ys
      same_gets [] [] h = refl
      same_gets [] (y ∷ ys) h = absurd (none-some y (h zero))
      same_gets (x ∷ xs) [] h = absurd (none-some x (sym (h zero)))
      same_gets (x ∷ xs) (y ∷ ys) h = ap₂ (λ z zs. z ∷ zs) (same_Some x y (h zero)) (same_gets xs ys (λ i. h (suc i)))

      kept : (m : ℕ) (o : Option (List ℕ)) → option_map (still sites m n rest) o ≡ o
      kept m None = refl
      kept m (Some row) = ap Some (ap (λ js. row ++ readers_from sites m n js) done ∙ none_behind row)

      got_map : {B : Type 0} (f : Job → B) (js : List Job) (i : ℕ) → slice_get (map f js) i ≡ option_map f (slice_get js i)
      got_map f [] i = refl
      got_map f (j ∷ js) zero = refl
      got_map f (j ∷ js) (suc i) = got_map f js i

      by_job :
          (m : ℕ) (o : Option Job) → slice_get b.jobs.jobs m ≡ o → option_map (λ (j : Job). readers_from sites m 0 b.jobs.jobs) o
          ≡ option_map (λ (j : Job). users_from (outs_of j.recipe) 0 b.jobs.jobs) o
      by_job m None e = refl
      by_job m (Some j) e = ap Some (readers_same m j e 0 b.jobs.jobs)

      each : (m : ℕ) → slice_get rows m ≡ slice_get (readers_of b.jobs.jobs) m
      each m =
          sym (kept m (slice_get rows m)) ∙ left m ∙ by_job m (slice_get b.jobs.jobs m) refl
          ∙ sym (got_map (λ (j : Job). users_from (outs_of j.recipe) 0 b.jobs.jobs) b.jobs.jobs m)
