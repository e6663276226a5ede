-- A job that has begun beside the others: whose children run, and by which names.
use Rattle.std.proofs.Common.{◌≡◌, ◌⊎◌, Bool, true, false, ◌&&◌, ◌||◌, not, List, [], ◌∷◌, ◌++◌, map, filter, find, refl, sym, ap, ◌∙◌, inl, inr, Some, None, option_map, true≢false}
use Rattle.std.specs.Prelude.{bytes_eq, if◌then◌else◌}
use Rattle.std.specs.List.{list_any}
use lib.Pointwise.{pointwise}
use Rattle.smk_base.proofs.Places.{place_itself, same_place}
use Rattle.smk_world.specs.declared.recipe.Recipe.{Recipe}
use Rattle.smk_world.specs.World.{World, out_paths}
use Rattle.smk_world.specs.Trees.{IsIn, Path, among, first}
use Rattle.smk_pattern.specs.Reading.{or_empty}
use Rattle.smk_flow.specs.declared.job.Job.{Job}
use Rattle.smk_store.specs.Images.{Image}
use Rattle.smk_trigger.specs.declared.reason.State.{State}
use Rattle.smk_pick.specs.declared.settings.Settings.{Settings}
use Rattle.smk_plan.specs.States.{Plan, job_path}
use Rattle.smk_laws_plan.proofs.CurrentLists.{in_either}
use Rattle.smk_laws_plan.proofs.CurrentSame.{pointwise_same}
use Rattle.smk_job.specs.Jobs.{Underway}
use Rattle.smk_drive.specs.Moments.{Begun, is_child_of, progress_of, runs}
use Rattle.smk_drive.specs.Lawful.{is_good_end}
use Rattle.smk_laws_turns.specs.Progressing.{IsStarted, state_in}
use Rattle.smk_laws_moments.proofs.Others.{has_begun}
use Rattle.smk_laws_moments.proofs.Restoring.{unkept}
use Rattle.smk_laws_turns.specs.Hubs.{AreOnce, AreOpen, child_of}

-- ## Lists

any_end : {A : Type 0} (f : A → Bool) (xs : List A) (x : A) → list_any f (xs ++ x ∷ []) ≡ (list_any f xs || f x)
any_end f [] x = or_none (f x)
  where
    or_none : (b : Bool) → (b || false) ≡ b
    or_none true = refl
    or_none false = refl
any_end f (y ∷ xs) x = ap (λ b. f y || b) (any_end f xs x) ∙ sides (f y) (list_any f xs) (f x)
  where
    sides : (a b c : Bool) → (a || (b || c)) ≡ ((a || b) || c)
    sides true b c = refl
    sides false b c = refl

pub filter_end : {A : Type 0} (f g : A → Bool) (xs : List A) (x : A) → ((y : A) → IsIn xs y → g y ≡ f y) → g x ≡ true → filter g (xs ++ x ∷ []) ≡ filter f xs ++ x ∷ []
filter_end f g [] x same passes = ap (λ b. if b then x ∷ [] else []) passes
filter_end f g (y ∷ xs) x same passes =
    ap (λ b. if b then y ∷ filter g (xs ++ x ∷ []) else filter g (xs ++ x ∷ [])) (same y (inl refl))
    ∙ go (f y) (filter_end f g xs x (λ z i. same z (inr i)) passes)
  where
    go :
        (b : Bool) → filter g (xs ++ x ∷ []) ≡ filter f xs ++ x ∷ [] →
        (if b then y ∷ filter g (xs ++ x ∷ []) else filter g (xs ++ x ∷ [])) ≡ (if b then y ∷ filter f xs else filter f xs) ++ x ∷ []
    go true h = ap (λ zs. y ∷ zs) h
    go false h = h

pub map_end : {A B : Type 0} (f : A → B) (xs : List A) (x : A) → map f (xs ++ x ∷ []) ≡ map f xs ++ f x ∷ []
map_end f [] x = refl
map_end f (y ∷ xs) x = ap (λ zs. f y ∷ zs) (map_end f xs x)

-- ## Names

among_end : (ps : List Path) (p n : Path) → among (ps ++ p ∷ []) n ≡ (bytes_eq n p || among ps n)
among_end [] p n = refl
among_end (q ∷ ps) p n = ap (λ b. bytes_eq n q || b) (among_end ps p n) ∙ turned (bytes_eq n q) (bytes_eq n p) (among ps n)
  where
    turned : (a b c : Bool) → (a || (b || c)) ≡ (b || (a || c))
    turned true true c = refl
    turned true false c = refl
    turned false true c = refl
    turned false false c = refl

-- the last one is found where no other has its name
state_end :
    (xs : List (Path × State)) (x : Path × State) (n : Path) → (bytes_eq x.0 n ≡ true → state_in xs n ≡ None) →
    state_in (xs ++ x ∷ []) n ≡ (if bytes_eq x.0 n then Some x.1 else state_in xs n)
state_end [] x n none = go (bytes_eq x.0 n)
  where
    go : (b : Bool) → option_map (λ (e : Path × State). e.1) (if b then Some x else None) ≡ (if b then Some x.1 else None)
    go true = refl
    go false = refl
state_end (y ∷ xs) x n none = go (bytes_eq y.0 n) none (state_end xs x n)
  where
    some_none : Some y.1 ≡ None → ⊥
    some_none h = cc

    first_one : (c : Bool) → (c ≡ true → Some y.1 ≡ None) → Some y.1 ≡ (if c then Some x.1 else Some y.1)
    first_one true h = absurd (some_none (h refl))
    first_one false h = refl

    go :
        (b : Bool) → (bytes_eq x.0 n ≡ true → option_map (λ (e : Path × State). e.1) (if b then Some y else find (λ (e : Path × State). bytes_eq e.0 n) xs) ≡ None) →
        ((bytes_eq x.0 n ≡ true → state_in xs n ≡ None) → state_in (xs ++ x ∷ []) n ≡ (if bytes_eq x.0 n then Some x.1 else state_in xs n)) →
        option_map (λ (e : Path × State). e.1) (if b then Some y else find (λ (e : Path × State). bytes_eq e.0 n) (xs ++ x ∷ []))
        ≡ (if bytes_eq x.0 n then Some x.1 else option_map (λ (e : Path × State). e.1) (if b then Some y else find (λ (e : Path × State). bytes_eq e.0 n) xs))
    go true h again = first_one (bytes_eq x.0 n) h
    go false h again = again h

paths_same : (ps : List Path) → pointwise bytes_eq ps ps ≡ true
paths_same [] = refl
paths_same (p ∷ ps) = ap (λ b. b && pointwise bytes_eq ps ps) (place_itself p) ∙ paths_same ps

-- ## One more child

module _
    (w w1 : World) (begun : List Begun) (j : Job) (state : State) (going : Underway) (new : Begun) (children : w1.children ≡ w.children ++ child_of going ∷ [])
    (recipe : going.recipe ≡ j.recipe) (unbegun : among (progress_of w begun).begun (job_path j) ≡ false) (is_new : new.job ≡ j) (has_state : new.state ≡ state)
    (unended : new.ended ≡ None) (image : Image) (settings : Settings) (plan : Plan) where
  -- no other has its name
  pub other_name : (b : Begun) → IsIn begun b → job_path b.job ≡ job_path j → ⊥
  other_name b i same =
      true≢false (sym (has_begun image settings plan w begun b i) ∙ (ap (among (progress_of w begun).begun) same ∙ unbegun))

  runs_by : (k : Job) → runs w1 k ≡ (runs w k || is_child_of k (child_of going))
  runs_by k = ap (list_any (is_child_of k)) children ∙ any_end (is_child_of k) w.children (child_of going)

  not_its : (b : Begun) → IsIn begun b → is_child_of b.job (child_of going) ≡ false
  not_its b i = go (is_child_of b.job (child_of going)) refl
    where
      go : (c : Bool) → is_child_of b.job (child_of going) ≡ c → c ≡ false
      go false e = refl
      go true e =
          let outs : out_paths going.recipe ≡ out_paths b.job.recipe = pointwise_same bytes_eq same_place (out_paths going.recipe) (out_paths b.job.recipe) e in
          absurd (other_name b i (ap (λ ps. or_empty (first ps)) (sym outs) ∙ ap (λ (r : Recipe). or_empty (first (out_paths r))) recipe))

  -- of the others the same run
  pub still_runs : (b : Begun) → IsIn begun b → runs w1 b.job ≡ runs w b.job
  still_runs b i = runs_by b.job ∙ (ap (λ c. runs w b.job || c) (not_its b i) ∙ or_none (runs w b.job))
    where
      or_none : (c : Bool) → (c || false) ≡ c
      or_none true = refl
      or_none false = refl

  -- and it runs
  pub new_runs : runs w1 new.job ≡ true
  new_runs =
      runs_by new.job
      ∙ (ap (λ c. runs w new.job || c)
      (ap (λ (r : Recipe). pointwise bytes_eq (out_paths r) (out_paths new.job.recipe)) (recipe ∙ ap (λ (x : Job). x.recipe) (sym is_new)) ∙ paths_same (out_paths new.job.recipe))
      ∙ or_all (runs w new.job))
    where
      or_all : (c : Bool) → (c || true) ≡ true
      or_all true = refl
      or_all false = refl

  pub running_now : filter (λ (b : Begun). runs w1 b.job) (begun ++ new ∷ []) ≡ filter (λ (b : Begun). runs w b.job) begun ++ new ∷ []
  running_now = filter_end (λ (b : Begun). runs w b.job) (λ (b : Begun). runs w1 b.job) begun new still_runs new_runs

  -- ## What has begun and runs

  abbrev named : Begun → Path × State
  named b = (job_path b.job, b.state)

  pub is_started : IsStarted j state (progress_of w begun) (progress_of w1 (begun ++ new ∷ []))
  is_started =
      record {
        begun = λ n.
            ap (λ ps. among ps n) (map_end (λ (b : Begun). job_path b.job) begun new)
            ∙ (among_end (map (λ (b : Begun). job_path b.job) begun) (job_path new.job) n
            ∙ ap (λ (x : Job). bytes_eq n (job_path x) || among (map (λ (b : Begun). job_path b.job) begun) n) is_new);
        running = λ n.
            ap (λ bs. state_in (map named bs) n) running_now
            ∙ (ap (λ xs. state_in xs n) (map_end named (filter (λ (b : Begun). runs w b.job) begun) new)
            ∙ (state_end (progress_of w begun).running (named new) n (unheld n)
            ∙ (λ i. if bytes_eq (job_path (is_new i)) n then Some (has_state i) else state_in (progress_of w begun).running n)));
      }
    where
      unheld : (n : Path) → bytes_eq (job_path new.job) n ≡ true → state_in (progress_of w begun).running n ≡ None
      unheld n e =
          ap (state_in (progress_of w begun).running) (sym (same_place (job_path new.job) n e) ∙ ap job_path is_new)
          ∙ unkept image settings plan w begun j unbegun

  -- ## Names, ends, failures

  pub once_more : AreOnce begun → AreOnce (begun ++ new ∷ [])
  once_more = go begun (λ b i same. other_name b i (same ∙ ap job_path is_new))
    where
      later :
          (b : Begun) (bs : List Begun) → ((k : Begun) → IsIn bs k → job_path k.job ≡ job_path b.job → ⊥) → (job_path b.job ≡ job_path new.job → ⊥) →
          (k : Begun) → IsIn bs k ⊎ IsIn (new ∷ []) k → job_path k.job ≡ job_path b.job → ⊥
      later b bs never apart k (inl i) same = never k i same
      later b bs never apart k (inr (inl e)) same = apart (sym same ∙ ap (λ (x : Begun). job_path x.job) e)
      later b bs never apart k (inr (inr i)) same = absurd i

      go : (bs : List Begun) → ((b : Begun) → IsIn bs b → job_path b.job ≡ job_path new.job → ⊥) → AreOnce bs → AreOnce (bs ++ new ∷ [])
      go [] apart h = (λ k i. absurd i, tt)
      go (b ∷ bs) apart h =
          (λ k i. later b bs h.0 (apart b (inl refl)) k (in_either k bs (new ∷ []) i), go bs (λ x i. apart x (inr i)) h.1)

  pub open_more : AreOpen w begun → AreOpen w1 (begun ++ new ∷ [])
  open_more h b i = go (in_either b begun (new ∷ []) i)
    where
      go : IsIn begun b ⊎ IsIn (new ∷ []) b → runs w1 b.job ≡ true → b.ended ≡ None
      go (inl k) = λ r. h b k (sym (still_runs b k) ∙ r)
      go (inr (inl e)) = λ r. ap (λ (x : Begun). x.ended) e ∙ unended
      go (inr (inr k)) = absurd k

  pub failed_same : list_any (λ (b : Begun). not (is_good_end b.ended)) (begun ++ new ∷ []) ≡ list_any (λ (b : Begun). not (is_good_end b.ended)) begun
  failed_same =
      any_end (λ (b : Begun). not (is_good_end b.ended)) begun new
      ∙ (ap (λ o. list_any (λ (b : Begun). not (is_good_end b.ended)) begun || not (is_good_end o)) unended
      ∙ or_none (list_any (λ (b : Begun). not (is_good_end b.ended)) begun))
    where
      or_none : (c : Bool) → (c || false) ≡ c
      or_none true = refl
      or_none false = refl
