-- Where no job that is Clean lacks an output, nothing is wanted back by jobs that are to run, and none is held back.
use Rattle.std.proofs.Common.{◌≡◌, ◌∙◌, ℕ, zero, suc, ◌==◌, Bool, true, false, not, cond, ◌&&◌, ◌||◌, List, [], ◌∷◌, ◌++◌, map, filter, zip, Option, Some, None, refl, sym, ap, ap₂, inl, inr, is_none}
use Rattle.std.specs.List.{list_any, slice_get}
use Rattle.std.proofs.lemmas.Bool.{eqb-true}
use Rattle.smk_world.specs.declared.recipe.Out.{Out}
use Rattle.smk_world.specs.Trees.{Path, outs_of}
use Rattle.smk_flow.specs.declared.job.Job.{Job}
use Rattle.smk_store.specs.Images.{Image, is_whole}
use Rattle.smk_chain.specs.declared.jobs.Jobs.{Jobs}
use Rattle.smk_trigger.specs.declared.reason.State.{State}
use Rattle.smk_trigger.specs.declared.reason.State.TheVariants.{Open, Dirty, Restore, Clean}
use Rattle.smk_trigger.specs.JobStates.{is_clean}
use Rattle.smk_plan.specs.States.{is_held_back, kept_state, state_of}
use Rattle.smk_plan.specs.Sights.{whole_outputs}
use Rattle.smk_plan_states.specs.declared.lines.Line.{Line}
use Rattle.smk_plan_states.specs.declared.lines.Origin.{Origin}
use Rattle.smk_plan_states.specs.declared.lines.Output.{Output}
use Rattle.smk_plan_states.specs.declared.ranks.Rank.{Rank}
use Rattle.smk_plan_states.specs.declared.rows.Rows.{Rows}
use Rattle.smk_plan_states.specs.Judged.{Judging, any_held_back, with_states}
use Rattle.smk_plan_states.specs.Parts.{gone_outputs, parts_of}
use Rattle.smk_plan_states.specs.First.{first_states, unless_needed}
use Rattle.smk_plan_states.specs.Held.{is_kept_in, needed_told}
use Rattle.smk_plan_states.specs.InUse.{is_in_use_told}
use Rattle.smk_plan_states.specs.Lines.{output_of}
use Rattle.smk_plan_states.specs.Moment.{IsMoment}
use Rattle.smk_plan_states.specs.Ranks.{rank_of, is_clean_rank}
use Rattle.smk_plan_states.specs.Ranking.{lacks, is_lacking, is_lent_lacking, lacking_at, lacking_if}
use Rattle.smk_plan_states.proofs.ByState.{lent_state}
use Rattle.smk_laws_plan.proofs.CurrentLists.{In, any_from, clash_of, some_inj}
use Rattle.smk_laws_plan.proofs.CurrentRecipes.{map_same}
use Rattle.smk_laws_plan.proofs.PlanStates.{any_same}
use Rattle.smk_plan_states.proofs.Tests.{any_never}
use Rattle.smk_plan_states.proofs.Awaiting.{map_twice}
use Rattle.smk_plan_states.proofs.ReadOthers.{any_zipped}
use Rattle.smk_plan_states.proofs.LastPass.{last_here}
use Rattle.smk_plan_states.proofs.HeldBack.{held_one}
use Rattle.smk_plan_states.proofs.ByRank.{gone_any, kept_by_flags, told_paths, told_parts, told_used, is_solved, early, read_now, used_told}
use Rattle.smk_plan_states.proofs.Needing.{runs, read_by}

-- ## Lists

split_of : {A : Type 0} (xs : List A) (x : A) → In x xs → (before : List A) × (after : List A) × (xs ≡ before ++ x ∷ after)
split_of [] x i = absurd i
split_of (y ∷ ys) x (inl e) = ([], ys, ap (λ z. z ∷ ys) (sym e))
split_of (y ∷ ys) x (inr i) = let r = split_of ys x i in (y ∷ r.0, r.1, ap (λ zs. y ∷ zs) r.2)

none_in : {A : Type 0} (test : A → Bool) (xs : List A) (x : A) → list_any test xs ≡ false → In x xs → test x ≡ false
none_in test xs x h i = go (test x) refl
  where
    go : (b : Bool) → test x ≡ b → b ≡ false
    go false e = refl
    go true e = absurd (clash_of (list_any test xs) (any_from test xs x i e) h)

-- one that isn't so in a list of which none is
none_at : {A : Type 0} (test : A → Bool) (xs : List A) (n : ℕ) (x : A) → list_any test xs ≡ false → slice_get xs n ≡ Some x → test x ≡ false
none_at test [] n x h e = cc
none_at test (y ∷ xs) zero x h e = ap test (sym (some_inj y x e)) ∙ first (test y) (list_any test xs) h
  where
    first : (a b : Bool) → (a || b) ≡ false → a ≡ false
    first true b h = cc
    first false b h = refl
none_at test (y ∷ xs) (suc n) x h e = none_at test xs n x (rest (test y) (list_any test xs) h) e
  where
    rest : (a b : Bool) → (a || b) ≡ false → b ≡ false
    rest true b h = cc
    rest false b h = h

none_all : {A : Type 0} (test : A → Bool) (xs : List A) → ((n : ℕ) (x : A) → slice_get xs n ≡ Some x → test x ≡ false) → list_any test xs ≡ false
none_all test [] h = refl
none_all test (y ∷ xs) h = ap (λ b. b || list_any test xs) (h zero y refl) ∙ none_all test xs (λ n x e. h (suc n) x e)

both_of : {A B : Type 0} → Option A → Option B → Option (A × B)
both_of None y = None
both_of (Some x) None = None
both_of (Some x) (Some y) = Some (x, y)

zip_get : {A B : Type 0} (xs : List A) (ys : List B) (n : ℕ) → slice_get (zip xs ys) n ≡ both_of (slice_get xs n) (slice_get ys n)
unfolding both_of
zip_get [] ys n = refl
zip_get {A = A} {B = B} (x ∷ xs) [] n = go (slice_get (x ∷ xs) n)
  where
    go : (o : Option A) → None ≡ both_of {B = B} o None
    go None = refl
    go (Some y) = refl
zip_get (x ∷ xs) (y ∷ ys) zero = refl
zip_get (x ∷ xs) (y ∷ ys) (suc n) = zip_get xs ys n

lacking_get : (ranks : List Rank) (rows : List (List Bool)) (n : ℕ) (e : Rank × List Bool) → slice_get (zip ranks rows) n ≡ Some e → is_lacking e ≡ lacking_at ranks rows n
unfolding both_of
lacking_get ranks rows n e at = go (slice_get ranks n) (slice_get rows n) (sym (zip_get ranks rows n) ∙ at)
  where
    go : (o : Option Rank) (p : Option (List Bool)) → both_of o p ≡ Some e → is_lacking e ≡ lacking_if o p
    go None p at = cc
    go (Some r) None at = cc
    go (Some r) (Some fs) at = ap is_lacking (sym (some_inj (r, fs) e at))

lacking_none : (ranks : List Rank) (rows : List (List Bool)) (n : ℕ) → list_any is_lacking (zip ranks rows) ≡ false → lacking_at ranks rows n ≡ false
unfolding both_of
lacking_none ranks rows n none = go (slice_get ranks n) (slice_get rows n) (zip_get ranks rows n)
  where
    go : (o : Option Rank) (p : Option (List Bool)) → slice_get (zip ranks rows) n ≡ both_of o p → lacking_if o p ≡ false
    go None p at = refl
    go (Some r) None at = refl
    go (Some r) (Some fs) at = none_at is_lacking (zip ranks rows) n (r, fs) none at

-- where no other job's rank and outputs have changed, and the job itself doesn't, none lacks an output that is Clean
pub lacking_after :
    (before now : List Rank) (was are : List (List Bool)) (job : ℕ) → ((m : ℕ) → (m == job) ≡ false → slice_get now m ≡ slice_get before m) →
    ((m : ℕ) → (m == job) ≡ false → slice_get are m ≡ slice_get was m) → list_any is_lacking (zip before was) ≡ false → lacking_at now are job ≡ false →
    list_any is_lacking (zip now are) ≡ false
lacking_after before now was are job ranks rows none own =
    none_all is_lacking (zip now are) (λ n e at. lacking_get now are n e at ∙ go n (n == job) refl)
  where
    go : (n : ℕ) (b : Bool) → (n == job) ≡ b → lacking_at now are n ≡ false
    go n true is = ap (lacking_at now are) (eqb-true n job is) ∙ own
    go n false other = ap₂ lacking_if (ranks n other) (rows n other) ∙ lacking_none before was n none

-- then none lacks one of which a child reads
pub lent_unless : (ranks : List Rank) (used : List Bool) (rows : List (List Bool)) → list_any is_lacking (zip ranks rows) ≡ false → list_any is_lent_lacking (zip ranks (zip used rows)) ≡ false
lent_unless [] used rows none = refl
lent_unless (r ∷ ranks) [] rows none = refl
lent_unless (r ∷ ranks) (u ∷ used) [] none = refl
lent_unless (r ∷ ranks) (u ∷ used) (fs ∷ rows) none = go (is_clean_rank r) u (lacks fs) none (lent_unless ranks used rows)
  where
    go :
        (clean u lack : Bool) → ((clean && lack) || list_any is_lacking (zip ranks rows)) ≡ false →
        (list_any is_lacking (zip ranks rows) ≡ false → list_any is_lent_lacking (zip ranks (zip used rows)) ≡ false) →
        ((clean && (u && lack)) || list_any is_lent_lacking (zip ranks (zip used rows))) ≡ false
    go false u lack h more = more h
    go true false lack h more = more (rest lack (list_any is_lacking (zip ranks rows)) h)
      where
        rest : (a b : Bool) → (a || b) ≡ false → b ≡ false
        rest true b h = cc
        rest false b h = h
    go true true true h more = cc
    go true true false h more = more h

-- where all outputs are whole none of those that are gone passes
gone_none : (image : Image) (W : Path → Bool) (j : Job) → lacks (whole_outputs image j) ≡ false → list_any W (gone_outputs image j) ≡ false
gone_none image W j = go (outs_of j.recipe)
  where
    go :
        (os : List Out) → list_any not (map (λ (o : Out). is_whole image o.path o.kind) os) ≡ false →
        list_any W (map (λ (o : Out). o.path) (filter (λ (o : Out). not (is_whole image o.path o.kind)) os)) ≡ false
    go [] h = refl
    go (o ∷ os) h = by (is_whole image o.path o.kind) h (go os)
      where
        by :
            (w : Bool) → (not w || list_any not (map (λ (o : Out). is_whole image o.path o.kind) os)) ≡ false →
            (list_any not (map (λ (o : Out). is_whole image o.path o.kind) os) ≡ false →
            list_any W (map (λ (o : Out). o.path) (filter (λ (o : Out). not (is_whole image o.path o.kind)) os)) ≡ false) →
            list_any W (map (λ (o : Out). o.path) (cond (not w) (o ∷ filter (λ (o : Out). not (is_whole image o.path o.kind)) os) (filter (λ (o : Out). not (is_whole image o.path o.kind)) os))) ≡ false
        by true h ih = ih h
        by false h ih = absurd (clash_of true refl h)

-- what isn't Clean stays, and so does what is, where it isn't needed
unneeded : (s : State) (l b : Bool) → (is_clean_rank (rank_of s) && l) ≡ false → (l ≡ false → b ≡ false) → unless_needed b s ≡ s
unneeded Open l b h f = refl
unneeded (Dirty reasons) l b h f = refl
unneeded Restore l b h f = refl
unneeded Clean l b h f = ap (λ n. unless_needed n Clean) (f h)

module _
    (at : Judging) (J : Jobs) (ss : List State) (lines : List Line) (origins : List Origin) (rows : Rows) (used : List Bool)
    (h : IsMoment at J ss lines origins rows used) where
  abbrev late : Job → State
  late = state_of at.image at.settings at.progress (with_states J ss)

  abbrev first_of : Job → State
  first_of j = early at J ss lines origins rows used h j

  abbrev reads : Job → Bool
  reads = read_now at J ss lines origins rows used h

  -- the first ranks are the last ones
  pub none_lacking :
      (first : List Rank) → list_any is_lacking (zip first rows.outputs.now) ≡ false → first ≡ map rank_of (first_states at J ss) → first ≡ map rank_of ss
  none_lacking first quiet is =
      is ∙ ap (map rank_of) (map_same first_of late J.jobs one ∙ sym h.solved)
    where
      calm : list_any (λ j. is_lacking (rank_of (first_of j), whole_outputs at.image j)) J.jobs ≡ false
      calm =
          sym (any_zipped is_lacking (λ j. rank_of (first_of j)) (whole_outputs at.image) J.jobs)
          ∙ (λ i. list_any is_lacking (zip (sym (is ∙ map_twice rank_of first_of J.jobs) i) (sym h.told.outputs i)))
          ∙ quiet

      one : (k : Job) → In k J.jobs → first_of k ≡ late k
      one k i =
          let p = split_of J.jobs k i in
          let read = is_in_use_told (told_used at J ss lines origins rows used h) (parts_of at.image k) in
          let needs = read_by J h.served.reads (runs at J ss lines origins rows used h) p.1 in
          sym
          (unneeded (first_of k) (lacks (whole_outputs at.image k)) (list_any needs (gone_outputs at.image k) && not read)
          (none_in (λ j. is_lacking (rank_of (first_of j), whole_outputs at.image j)) J.jobs k calm i)
          (λ l. ap (λ b. b && not read) (gone_none at.image needs k l)))
          ∙ last_here at J ss (told_paths at J ss lines origins rows used h) (told_parts at J ss lines origins rows used h) (told_used at J ss lines origins rows used h)
          (is_solved at J ss lines origins rows used h) p.0 k p.1 p.2 needs (λ q. refl)

  -- no job is held back
  pub none_held : list_any lent_state (zip ss (zip used rows.outputs.now)) ≡ false → any_held_back at J ss ≡ false
  none_held quiet =
      any_same (is_held_back at.image at.settings at.progress (with_states J ss)) (λ j. false) J.jobs one ∙ any_never J.jobs
    where
      calm : list_any (λ j. lent_state (late j, (reads j, whole_outputs at.image j))) J.jobs ≡ false
      calm =
          sym (three J.jobs)
          ∙ (λ i. list_any lent_state (zip (sym h.solved i) (zip (sym h.read i) (sym h.told.outputs i))))
          ∙ quiet
        where
          three :
              (js : List Job) →
              list_any lent_state (zip (map late js) (zip (map reads js) (map (whole_outputs at.image) js))) ≡ list_any (λ j. lent_state (late j, (reads j, whole_outputs at.image j))) js
          three [] = refl
          three (j ∷ js) = ap (λ b. lent_state (late j, (reads j, whole_outputs at.image j)) || b) (three js)

      never : (n c r l w : Bool) → (c && (r && l)) ≡ false → (l ≡ false → w ≡ false) → ((n && c) && (r && w)) ≡ false
      never false c r l w h f = refl
      never true false r l w h f = refl
      never true true false l w h f = refl
      never true true true l w h f = f h

      one : (k : Job) → In k J.jobs → is_held_back at.image at.settings at.progress (with_states J ss) k ≡ false
      one k i =
          let parts = told_parts at J ss lines origins rows used h in
          let solved = is_solved at J ss lines origins rows used h in
          let kept = kept_state at.image at.settings at.progress (with_states J []) in
          let wanted = list_any (needed_told parts ss) (gone_outputs at.image k) || is_kept_in (told_paths at J ss lines origins rows used h) (parts_of at.image k) in
          let whole : lacks (whole_outputs at.image k) ≡ false → wanted ≡ false =
          λ l. (λ m. gone_none at.image (needed_told parts ss) k l m
          || (sym (kept_by_flags at.image J at.settings.targets k)
          ∙ gone_any at.image (λ (o : Output). o.wanted) (output_of J at.settings.targets k) k
          ∙ gone_none at.image (λ p. (output_of J at.settings.targets k p).wanted) k l) m) in
          sym
          (held_one at.image at.settings at.progress J at.settings.targets (told_paths at J ss lines origins rows used h) parts ss
          (map kept J.jobs) refl h.served h.solved solved.paths refl refl k i)
          ∙ (λ m. (is_none (kept k) && is_clean (late k)) && (used_told at J ss lines origins rows used h k i m && wanted))
          ∙ never (is_none (kept k)) (is_clean (late k)) (reads k) (lacks (whole_outputs at.image k)) wanted
          (none_in (λ j. lent_state (late j, (reads j, whole_outputs at.image j))) J.jobs k calm i) whole
