-- What stays where a job begins or is closed, or an output is removed.
use Rattle.std.proofs.Common.{◌≡◌, ℕ, zero, suc, Bool, true, false, ◌||◌, List, [], ◌∷◌, ◌++◌, length, Option, Some, None, is_some, refl, sym, ap, ap₂, subst, ◌∙◌, bytes_eq}
use Rattle.std.specs.Prelude.{if◌then◌else◌, slice_set, slice_index_or}
use Rattle.std.specs.List.{slice_get}
use Rattle.std.specs.BTreeMap.{get_by_text}
use Rattle.std.proofs.Math.Nat.{zero-add}
use Rattle.smk_base.proofs.Under.{never_both}
use Rattle.smk_world.specs.World.{out_paths}
use Rattle.smk_world.specs.Trees.{Path, among, first, outs_of}
use Rattle.smk_pattern.specs.Reading.{or_empty}
use Rattle.smk_flow.specs.declared.job.Job.{Job}
use Rattle.smk_store.specs.declared.store.Entry.{Entry}
use Rattle.smk_store.specs.Stores.{entry_of}
use Rattle.smk_trigger.specs.declared.reason.State.{State}
use Rattle.smk_trigger.specs.JobStates.{is_restore}
use Rattle.smk_plan.specs.declared.seen.Sight.{Sight}
use Rattle.smk_plan.specs.States.{job_path, test_some}
use Rattle.smk_plan_states.proofs.Tests.{among_append}
use Rattle.smk_plan_live.specs.declared.base.Base.{Base}
use Rattle.smk_plan_live.specs.declared.sites.Site.{Site}
use Rattle.smk_plan_live.specs.declared.phase.Phase.{Phase}
use Rattle.smk_plan_live.specs.declared.phase.Phase.TheVariants.{Running, Closed}
use Rattle.smk_plan_live.specs.Phases.{has_begun, begun_in}
use Rattle.smk_plan_live.specs.Now.{joined, row_by, row_at, own_sight, seen_before, restores_at, settled, known_now, seen_now}
use Rattle.smk_plan_live.specs.Same.{AreSameBut}
use Rattle.smk_plan_live.specs.Lives.{IsSound}
use Rattle.smk_plan_live.specs.Carried.{turned, filled, sighted}
use Rattle.smk_plan_live.proofs.Tables.{same_bytes, known_is, seen_is}
use Rattle.smk_plan_live.proofs.Restoring.{outs_are, site_has}

-- ## Lists whose elements are replaced

pub set_length : {A : Type 0} (xs : List A) (n : ℕ) (x : A) → length (slice_set xs n x) ≡ length xs
set_length [] n x = refl
set_length (y ∷ xs) zero x = refl
set_length (y ∷ xs) (suc n) x = ap suc (set_length xs n x)

pub set_back : {A : Type 0} (xs : List A) (n : ℕ) (x y : A) → y ≡ slice_index_or xs n y → slice_set (slice_set xs n x) n y ≡ xs
set_back [] n x y e = refl
set_back (z ∷ xs) zero x y e = ap (λ w. w ∷ xs) e
set_back (z ∷ xs) (suc n) x y e = ap (λ ys. z ∷ ys) (set_back xs n x y e)

-- an element that was exchanged for another one, and back
pub exchanged : {A : Type 0} (xs : List A) (n : ℕ) (x : A) → slice_set (slice_set xs n x) n (slice_index_or xs n x) ≡ xs
exchanged [] n x = refl
exchanged (z ∷ xs) zero x = refl
exchanged (z ∷ xs) (suc n) x = ap (λ ys. z ∷ ys) (exchanged xs n x)

pub exchanged_back : {A : Type 0} (xs : List A) (n : ℕ) (x : A) → slice_index_or (slice_set xs n x) n (slice_index_or xs n x) ≡ x
exchanged_back [] n x = refl
exchanged_back (z ∷ xs) zero x = refl
exchanged_back (z ∷ xs) (suc n) x = exchanged_back xs n x

pub get_other : {A : Type 0} (xs : List A) (n m : ℕ) (x : A) → (m ≡ n → ⊥) → slice_get (slice_set xs n x) m ≡ slice_get xs m
get_other [] n m x other = refl
get_other (y ∷ xs) zero zero x other = absurd (other refl)
get_other (y ∷ xs) zero (suc m) x other = refl
get_other (y ∷ xs) (suc n) zero x other = refl
get_other (y ∷ xs) (suc n) (suc m) x other = get_other xs n m x (λ e. other (ap suc e))

-- ## What is known and was seen elsewhere

module _ (b : Base) (sound : IsSound b) (n : ℕ) (j : Job) (at : slice_get b.jobs.jobs n ≡ Some j) where
  -- a path that is no output of the job stands elsewhere
  elsewhere : (q : Path) → among (out_paths j.recipe) q ≡ false → (s : Site) → get_by_text b.sites q ≡ Some s → s.job ≡ n → ⊥
  elsewhere q out s has same =
      let r = site_has 0 b.jobs.jobs q s (sym (sound.sited q) ∙ has) in
      let number : r.0 ≡ n = sym (zero-add (r.0)) ∙ sym r.2 ∙ same in
      let is : Some r.1 ≡ Some j = sym r.3 ∙ ap (slice_get b.jobs.jobs) number ∙ at in
      never_both (among (out_paths j.recipe) q) (in_it r.1 is q r.4) out
    where
      in_it : (k : Job) → Some k ≡ Some j → (p : Path) → among (out_paths k.recipe) p ≡ true → among (out_paths j.recipe) p ≡ true
      in_it k e p h = let same_job : k ≡ j = cc in subst (λ (x : Job). among (out_paths x.recipe) p ≡ true) same_job h

  by_site :
      {A : Type 0} (q : Path) → among (out_paths j.recipe) q ≡ false → (f g : Option Site → A) → f None ≡ g None →
      ((s : Site) → (s.job ≡ n → ⊥) → f (Some s) ≡ g (Some s)) → f (get_by_text b.sites q) ≡ g (get_by_text b.sites q)
  by_site q out f g none some = go (get_by_text b.sites q) refl
    where
      go : (o : Option Site) → get_by_text b.sites q ≡ o → f o ≡ g o
      go None e = none
      go (Some s) e = some s (elsewhere q out s e)

  rows_same :
      {A : Type 0} (q : Path) → among (out_paths j.recipe) q ≡ false →
      (rows : List (Option (List (Option A)))) (row : Option (List (Option A))) (before : Option A) →
      row_at (slice_set rows n row) (get_by_text b.sites q) before ≡ row_at rows (get_by_text b.sites q) before
  rows_same q out rows row before =
      by_site q out (λ o. row_at (slice_set rows n row) o before) (λ o. row_at rows o before) refl
      (λ s other. ap (λ r. row_by (joined r) s.place before) (get_other rows n s.job row other))

  restores_same :
      (q : Path) → among (out_paths j.recipe) q ≡ false → (state : Option State) → restores_at (slice_set b.began n state) (get_by_text b.sites q)
      ≡ restores_at b.began (get_by_text b.sites q)
  restores_same q out state =
      by_site q out (restores_at (slice_set b.began n state)) (restores_at b.began) refl
      (λ s other. ap (λ r. test_some is_restore (joined r)) (get_other b.began n s.job state other))

  -- the job has turned, and maybe new rows came
  abbrev pub next_base : Phase → Option State → Option (List (Option Entry)) → Option (List (Option Sight)) → Base
  next_base phase state row sights = filled n row sights (turned n phase state b)

  pub filled_but :
      (phase : Phase) (state : Option State) (row : Option (List (Option Entry))) (sights : Option (List (Option Sight))) →
      AreSameBut (outs_of j.recipe) (known_now b) (known_now (next_base phase state row sights)) (seen_now b) (seen_now (next_base phase state row sights))
  filled_but phase state row sights =
      record {
        known = λ q out.
            let away = ap (λ ps. among ps q) (outs_are j.recipe) ∙ out in
            known_is (next_base phase state row sights) q
            ∙ ap₂ settled (restores_same q away state) (rows_same q away b.entries row (entry_of b.store q))
            ∙ sym (known_is b q);
        seen = λ q out.
            let away = ap (λ ps. among ps q) (outs_are j.recipe) ∙ out in
            seen_is (next_base phase state row sights) q ∙ ap (own_sight q) (rows_same q away b.sights sights (seen_before b q)) ∙ sym (seen_is b q);
      }

  -- this was seen of the outputs of the job
  pub sighted_but :
      (sights : Option (List (Option Sight))) →
      AreSameBut (outs_of j.recipe) (known_now b) (known_now (sighted n sights b)) (seen_now b) (seen_now (sighted n sights b))
  sighted_but sights =
      record {
        known = λ q out. refl;
        seen = λ q out.
            let away = ap (λ ps. among ps q) (outs_are j.recipe) ∙ out in
            seen_is (sighted n sights b) q ∙ ap (own_sight q) (rows_same q away b.sights sights (seen_before b q)) ∙ sym (seen_is b q);
      }

-- ## What is sound stays so

pub turned_sound : (b : Base) → IsSound b → (n : ℕ) (phase : Phase) (state : Option State) → IsSound (turned n phase state b)
turned_sound b sound n phase state =
    record {
      phases = set_length b.phases n phase ∙ sound.phases;
      began = set_length b.began n state ∙ sound.began;
      entries = sound.entries;
      sights = sound.sights;
      sited = sound.sited;
      unnamed = sound.unnamed;
      came = sound.came;
      sources = sound.sources;
    }

pub filled_sound :
    (b : Base) → IsSound b → (n : ℕ) (row : Option (List (Option Entry))) (sights : Option (List (Option Sight))) → IsSound (filled n row sights b)
filled_sound b sound n row sights =
    record {
      phases = sound.phases;
      began = sound.began;
      entries = set_length b.entries n row ∙ sound.entries;
      sights = set_length b.sights n sights ∙ sound.sights;
      sited = sound.sited;
      unnamed = sound.unnamed;
      came = sound.came;
      sources = sound.sources;
    }

pub sighted_sound : (b : Base) → IsSound b → (n : ℕ) (sights : Option (List (Option Sight))) → IsSound (sighted n sights b)
sighted_sound b sound n sights =
    record {
      phases = sound.phases;
      began = sound.began;
      entries = sound.entries;
      sights = set_length b.sights n sights ∙ sound.sights;
      sited = sound.sited;
      unnamed = sound.unnamed;
      came = sound.came;
      sources = sound.sources;
    }

-- ## What has begun

abbrev name_if : Bool → Job → List Path
name_if b j = if b then job_path j ∷ [] else []

-- a job that began before is closed
pub closed_begun :
    (jobs : List Job) (phases : List Phase) (n : ℕ) → slice_get phases n ≡ Some Running → begun_in jobs (slice_set phases n Closed) ≡ begun_in jobs phases
closed_begun [] phases n at = refl
closed_begun (j ∷ jobs) [] n at = refl
closed_begun (j ∷ jobs) (p ∷ phases) zero at =
    let is : p ≡ Running = cc in ap (λ x. name_if (has_begun x) j ++ begun_in jobs phases) (sym is)
closed_begun (j ∷ jobs) (p ∷ phases) (suc n) at = ap (λ ps. name_if (has_begun p) j ++ ps) (closed_begun jobs phases n at)

-- a job begins: others have begun as before, but for its name
pub begun_other :
    (jobs : List Job) (phases : List Phase) (n : ℕ) (j : Job) (q : Path) → slice_get jobs n ≡ Some j → bytes_eq q (job_path j) ≡ false → (phase : Phase) →
    among (begun_in jobs (slice_set phases n phase)) q ≡ among (begun_in jobs phases) q
begun_other [] phases n j q at other phase = refl
begun_other (k ∷ jobs) [] n j q at other phase = refl
begun_other (k ∷ jobs) (p ∷ phases) zero j q at other phase =
    let is : k ≡ j = cc in
    let away : bytes_eq q (job_path k) ≡ false = ap (λ (x : Job). bytes_eq q (job_path x)) is ∙ other in
    among_append (name_if (has_begun phase) k) (begun_in jobs phases) q
    ∙ ap (λ b. b || among (begun_in jobs phases) q) (gone (has_begun phase) away ∙ sym (gone (has_begun p) away))
    ∙ sym (among_append (name_if (has_begun p) k) (begun_in jobs phases) q)
  where
    gone : (b : Bool) → bytes_eq q (job_path k) ≡ false → among (name_if b k) q ≡ false
    gone true away = ap (λ x. x || false) away
    gone false away = refl
begun_other (k ∷ jobs) (p ∷ phases) (suc n) j q at other phase =
    among_append (name_if (has_begun p) k) (begun_in jobs (slice_set phases n phase)) q
    ∙ ap (λ b. among (name_if (has_begun p) k) q || b) (begun_other jobs phases n j q at other phase)
    ∙ sym (among_append (name_if (has_begun p) k) (begun_in jobs phases) q)

-- the job that has begun is among them
pub begun_here :
    (jobs : List Job) (phases : List Phase) (n : ℕ) (j : Job) (phase : Phase) → slice_get jobs n ≡ Some j → slice_get phases n ≡ Some phase → has_begun phase
    ≡ true →
    among (begun_in jobs phases) (job_path j) ≡ true
begun_here [] phases n j phase at here begun = absurd cc
begun_here (k ∷ jobs) [] n j phase at here begun = absurd cc
begun_here (k ∷ jobs) (p ∷ phases) zero j phase at here begun =
    let is : k ≡ j = cc in
    let same : p ≡ phase = cc in
    ap (λ b. among (name_if b k ++ begun_in jobs phases) (job_path j)) (ap has_begun same ∙ begun)
    ∙ ap (λ (x : Job). bytes_eq (job_path j) (job_path x) || among (begun_in jobs phases) (job_path j)) is
    ∙ ap (λ b. b || among (begun_in jobs phases) (job_path j)) (same_bytes (job_path j))
begun_here (k ∷ jobs) (p ∷ phases) (suc n) j phase at here begun =
    among_append (name_if (has_begun p) k) (begun_in jobs phases) (job_path j)
    ∙ or_last (among (name_if (has_begun p) k) (job_path j)) (among (begun_in jobs phases) (job_path j)) (begun_here jobs phases n j phase at here begun)
  where
    or_last : (a b : Bool) → b ≡ true → (a || b) ≡ true
    or_last true b h = refl
    or_last false b h = h

pub set_here : {A : Type 0} (xs : List A) (n : ℕ) (x y : A) → slice_get xs n ≡ Some y → slice_get (slice_set xs n x) n ≡ Some x
set_here [] n x y e = absurd cc
set_here (z ∷ xs) zero x y e = refl
set_here (z ∷ xs) (suc n) x y e = set_here xs n x y e

-- ## Names

pub named_in : (ps : List Path) → is_some (first ps) ≡ true → among ps (or_empty (first ps)) ≡ true
named_in [] h = absurd (never_both false h refl)
named_in (p ∷ ps) h = ap (λ b. b || among ps p) (same_bytes p)
