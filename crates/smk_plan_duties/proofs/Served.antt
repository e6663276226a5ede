-- What is chosen can be done, and only jobs that are Dirty or a Restore are run.
use Rattle.std.proofs.Common.{◌≡◌, ℕ, zero, suc, Bool, true, false, ◌&&◌, not, List, [], ◌∷◌, ◌++◌, length, Option, Some, None, refl, sym, ap, subst, ◌∙◌, arith, append_assoc, append-nil}
use Rattle.std.specs.Prelude.{if◌then◌else◌, nat_le, slice_get}
use Rattle.std.specs.List.{AllZip, list_all}
use Rattle.std.specs.Option.{option_and_then}
use Rattle.std.proofs.lemmas.Bool.{leb-true, lt-ltb, ltb-true}
use Rattle.smk_base.proofs.Places.{and_first, and_second}
use Rattle.smk_base.proofs.Under.{never_both}
use Rattle.smk_world.specs.World.{in_paths}
use Rattle.smk_world.specs.Trees.{Each}
use Rattle.smk_flow.specs.declared.job.Job.{Job}
use Rattle.smk_store.specs.Stores.{Known}
use Rattle.smk_chain.specs.declared.jobs.Jobs.{Jobs}
use Rattle.smk_chain.specs.declared.jobs.Maker.{Maker}
use Rattle.smk_trigger.specs.declared.reason.State.{State}
use Rattle.smk_trigger.specs.declared.reason.State.TheVariants.{Open, Dirty, Restore, Clean}
use Rattle.smk_trigger.specs.JobStates.{is_to_run}
use Rattle.smk_plan.specs.declared.duty.Duty.{Duty}
use Rattle.smk_plan.specs.declared.duty.Duty.TheVariants.{Rest, Restore as Again, Run}
use Rattle.smk_plan.specs.Duties.{duty_for, maker_in, rests, AreFor, AreServable, IsKeptBelow, IsOld, IsServable}
use Rattle.smk_plan_duties.specs.Choosing.{duties_in, duty_by, is_input_below, is_job_below, is_kept_below, is_old, is_able, made_of, resting, restoring}

-- ## Lists

get_more : {A : Type 0} (xs ys : List A) (k : ℕ) (x : A) → slice_get xs k ≡ Some x → slice_get (xs ++ ys) k ≡ Some x
get_more [] ys k x e = absurd (nothing k e)
  where
    nothing : (n : ℕ) → slice_get [] n ≡ Some x → ⊥
    nothing zero h = cc
    nothing (suc n) h = cc
get_more (y ∷ xs) ys zero x e = e
get_more (y ∷ xs) ys (suc k) x e = get_more xs ys k x e

zip_more : {A B : Type 0} (R : A → B → Type 0) (xs zs : List A) (ys ws : List B) → AllZip R xs ys → AllZip R zs ws → AllZip R (xs ++ zs) (ys ++ ws)
zip_more R [] zs [] ws h k = k
zip_more R [] zs (y ∷ ys) ws h k = absurd h
zip_more R (x ∷ xs) zs [] ws h k = absurd h
zip_more R (x ∷ xs) zs (y ∷ ys) ws h k = (h.0, zip_more R xs zs ys ws h.1 k)

zip_each : {A B : Type 0} (R S : A → B → Type 0) → ((x : A) (y : B) → R x y → S x y) → (xs : List A) (ys : List B) → AllZip R xs ys → AllZip S xs ys
zip_each R S more [] [] h = h
zip_each R S more [] (y ∷ ys) h = h
zip_each R S more (x ∷ xs) [] h = h
zip_each R S more (x ∷ xs) (y ∷ ys) h = (more x y h.0, zip_each R S more xs ys h.1)

all_more : {A : Type 0} (f g : A → Bool) → ((x : A) → f x ≡ true → g x ≡ true) → (xs : List A) → list_all f xs ≡ true → list_all g xs ≡ true
all_more f g more [] h = refl
all_more f g more (x ∷ xs) h =
    both (g x) (list_all g xs) (more x (and_first (f x) (list_all f xs) h)) (all_more f g more xs (and_second (f x) (list_all f xs) h))
  where
    both : (a b : Bool) → a ≡ true → b ≡ true → (a && b) ≡ true
    both true b h k = k
    both false b h k = absurd (never_both false h refl)

each_all : {A : Type 0} (f : A → Bool) (P : A → Type 0) → ((x : A) → f x ≡ true → P x) → (xs : List A) → list_all f xs ≡ true → Each P xs
each_all f P means [] h = tt
each_all f P means (x ∷ xs) h = (means x (and_first (f x) (list_all f xs) h), each_all f P means xs (and_second (f x) (list_all f xs) h))

-- ## What can be done

module _ (next : Option ℕ) (makers : List Maker) where
  -- by the duties of the first jobs, this can be done
  abbrev IsDoable : List Duty → Job → Duty → Type 0
  IsDoable duties j (Rest made) = is_old next made ≡ true
  IsDoable duties j (Again made) = is_able next makers duties j made ≡ true
  IsDoable duties j Run = Unit {0}

  kept_more : (duties more : List Duty) (made : ℕ) (k : ℕ) (o : Option Duty) → slice_get duties k ≡ o → is_kept_below made o ≡ true → is_kept_below made (slice_get (duties ++ more) k) ≡ true
  kept_more duties more made k None e h = absurd (never_both false h refl)
  kept_more duties more made k (Some d) e h = ap (is_kept_below made) (get_more duties more k d e) ∙ h

  below_more : (duties more : List Duty) (made : ℕ) (o : Option ℕ) → is_job_below duties made o ≡ true → is_job_below (duties ++ more) made o ≡ true
  below_more duties more made None h = refl
  below_more duties more made (Some k) h = kept_more duties more made k (slice_get duties k) refl h

  -- what can be done stays so as further duties follow
  doable_more : (duties more : List Duty) (j : Job) (d : Duty) → IsDoable duties j d → IsDoable (duties ++ more) j d
  doable_more duties more j (Rest made) h = h
  doable_more duties more j Run h = tt
  doable_more duties more j (Again made) h =
      let rest = and_second (nat_le 1 made) (is_old next made && list_all (is_input_below makers duties made) (in_paths j.recipe)) h in
      both (nat_le 1 made) (is_old next made && list_all (is_input_below makers (duties ++ more) made) (in_paths j.recipe))
      (and_first (nat_le 1 made) (is_old next made && list_all (is_input_below makers duties made) (in_paths j.recipe)) h)
      (both (is_old next made) (list_all (is_input_below makers (duties ++ more) made) (in_paths j.recipe))
      (and_first (is_old next made) (list_all (is_input_below makers duties made) (in_paths j.recipe)) rest)
      (all_more (is_input_below makers duties made) (is_input_below makers (duties ++ more) made) (λ p k. below_more duties more made (maker_in makers p) k) (in_paths j.recipe)
      (and_second (is_old next made) (list_all (is_input_below makers duties made) (in_paths j.recipe)) rest)))
    where
      both : (a b : Bool) → a ≡ true → b ≡ true → (a && b) ≡ true
      both true b h k = k
      both false b h k = absurd (never_both false h refl)

  old_zero : IsOld next 0 → is_old next 0 ≡ true
  old_zero h = go next h
    where
      go : (o : Option ℕ) → IsOld o 0 → is_old o 0 ≡ true
      go None k = refl
      go (Some n) k = lt-ltb 0 n k

  rest_doable : (duties : List Duty) (j : Job) (made : Option ℕ) → IsOld next 0 → IsDoable duties j (resting next made)
  rest_doable duties j None h = old_zero h
  rest_doable duties j (Some made) h = go (is_old next made) refl
    where
      go : (b : Bool) → is_old next made ≡ b → IsDoable duties j (if b then Rest made else Rest 0)
      go true e = e
      go false e = old_zero h

  restore_doable : (duties : List Duty) (j : Job) (made : Option ℕ) → IsDoable duties j (restoring (is_able next makers) duties j made)
  restore_doable duties j None = tt
  restore_doable duties j (Some made) = go (is_able next makers duties j made) refl
    where
      go : (b : Bool) → is_able next makers duties j made ≡ b → IsDoable duties j (if b then Again made else Run)
      go true e = e
      go false e = tt

  duty_doable : (store : List Known) (duties : List Duty) (j : Job) (s : State) → IsOld next 0 → IsDoable duties j (duty_by next (is_able next makers) store duties j s)
  duty_doable store duties j Open h = rest_doable duties j (made_of store j) h
  duty_doable store duties j (Dirty reasons) h = tt
  duty_doable store duties j Restore h = restore_doable duties j (made_of store j)
  duty_doable store duties j Clean h = rest_doable duties j (made_of store j) h

  -- what is chosen later is added
  all_doable : (store : List Known) (before : List Job) (duties : List Duty) (js : List Job) (ss : List State) → IsOld next 0 → length ss ≡ length js → AllZip (IsDoable duties) before duties →
      AllZip (IsDoable (duties_in next (is_able next makers) store duties js ss)) (before ++ js) (duties_in next (is_able next makers) store duties js ss)
  all_doable store before duties [] ss h len so_far = subst (λ (js : List Job). AllZip (IsDoable duties) js duties) (sym (append-nil before)) so_far
  all_doable store before duties (j ∷ js) [] h len so_far = absurd (omega arith)
  all_doable store before duties (j ∷ js) (s ∷ ss) h len so_far =
      let d = duty_by next (is_able next makers) store duties j s in
      subst (λ (l : List Job). AllZip (IsDoable (duties_in next (is_able next makers) store (duties ++ d ∷ []) js ss)) l (duties_in next (is_able next makers) store (duties ++ d ∷ []) js ss)) (append_assoc before (j ∷ []) js)
      (all_doable store (before ++ j ∷ []) (duties ++ d ∷ []) js ss h (omega arith)
      (zip_more (IsDoable (duties ++ d ∷ [])) before (j ∷ []) duties (d ∷ [])
      (zip_each (IsDoable duties) (IsDoable (duties ++ d ∷ [])) (doable_more duties (d ∷ [])) before duties so_far)
      (doable_more duties (d ∷ []) j d (duty_doable store duties j s h), tt)))

  -- ## As it is asked of duties

  old_is : (made : ℕ) → is_old next made ≡ true → IsOld next made
  old_is made h = go next h
    where
      go : (o : Option ℕ) → is_old o made ≡ true → IsOld o made
      go None k = tt
      go (Some n) k = ltb-true made n k

  below_is : (made : ℕ) (o : Option Duty) → is_kept_below made o ≡ true → IsKeptBelow made o
  below_is made None h = tt
  below_is made (Some (Rest kept)) h = ltb-true kept made h
  below_is made (Some (Again kept)) h = ltb-true kept made h
  below_is made (Some Run) h = never_both false h refl

  input_is : (duties : List Duty) (made : ℕ) (o : Option ℕ) → is_job_below duties made o ≡ true → IsKeptBelow made (option_and_then (slice_get duties) o)
  input_is duties made None h = tt
  input_is duties made (Some k) h = below_is made (slice_get duties k) h

  doable_is : (duties : List Duty) (j : Job) (d : Duty) → IsDoable duties j d → IsServable next (duty_for makers duties) j d
  doable_is duties j (Rest made) h = old_is made h
  doable_is duties j Run h = tt
  doable_is duties j (Again made) h =
      let rest = and_second (nat_le 1 made) (is_old next made && list_all (is_input_below makers duties made) (in_paths j.recipe)) h in (
        leb-true 1 made (and_first (nat_le 1 made) (is_old next made && list_all (is_input_below makers duties made) (in_paths j.recipe)) h),
        old_is made (and_first (is_old next made) (list_all (is_input_below makers duties made) (in_paths j.recipe)) rest),
        each_all (is_input_below makers duties made) (λ p. IsKeptBelow made (duty_for makers duties p)) (λ p k. input_is duties made (maker_in makers p) k) (in_paths j.recipe)
            (and_second (is_old next made) (list_all (is_input_below makers duties made) (in_paths j.recipe)) rest),
      )

-- all that is chosen can be done
pub chosen_servable : (next : Option ℕ) (made : Jobs) (store : List Known) (ss : List State) → IsOld next 0 → length ss ≡ length made.jobs → AreServable next made (duties_in next (is_able next made.makers) store [] made.jobs ss)
chosen_servable next made store ss h len =
    let duties = duties_in next (is_able next made.makers) store [] made.jobs ss in
    record {
      each =
          zip_each (IsDoable next made.makers duties) (IsServable next (duty_for made.makers duties)) (doable_is next made.makers duties) made.jobs duties
          (all_doable next made.makers store [] [] made.jobs ss h len tt);
    }

-- ## By states

abbrev IsFor : State → Duty → Type 0
IsFor s d = rests d ≡ not (is_to_run s)

pub rest_rests : (next : Option ℕ) (made : Option ℕ) → rests (resting next made) ≡ true
rest_rests next None = refl
rest_rests next (Some made) = go (is_old next made)
  where
    go : (b : Bool) → rests (if b then Rest made else Rest 0) ≡ true
    go true = refl
    go false = refl

restore_runs : (next : Option ℕ) (makers : List Maker) (duties : List Duty) (j : Job) (made : Option ℕ) → rests (restoring (is_able next makers) duties j made) ≡ false
restore_runs next makers duties j None = refl
restore_runs next makers duties j (Some made) = go (is_able next makers duties j made)
  where
    go : (b : Bool) → rests (if b then Again made else Run) ≡ false
    go true = refl
    go false = refl

duty_for_state : (next : Option ℕ) (makers : List Maker) (store : List Known) (duties : List Duty) (j : Job) (s : State) → IsFor s (duty_by next (is_able next makers) store duties j s)
duty_for_state next makers store duties j Open = rest_rests next (made_of store j)
duty_for_state next makers store duties j (Dirty reasons) = refl
duty_for_state next makers store duties j Restore = restore_runs next makers duties j (made_of store j)
duty_for_state next makers store duties j Clean = rest_rests next (made_of store j)

all_for : (next : Option ℕ) (makers : List Maker) (store : List Known) (before : List State) (duties : List Duty) (js : List Job) (ss : List State) → length ss ≡ length js → AllZip IsFor before duties →
    AllZip IsFor (before ++ ss) (duties_in next (is_able next makers) store duties js ss)
all_for next makers store before duties [] [] len h = subst (λ (l : List State). AllZip IsFor l duties) (sym (append-nil before)) h
all_for next makers store before duties [] (s ∷ ss) len h = absurd (omega arith)
all_for next makers store before duties (j ∷ js) [] len h = absurd (omega arith)
all_for next makers store before duties (j ∷ js) (s ∷ ss) len h =
    let d = duty_by next (is_able next makers) store duties j s in
    subst (λ (l : List State). AllZip IsFor l (duties_in next (is_able next makers) store (duties ++ d ∷ []) js ss)) (append_assoc before (s ∷ []) ss)
    (all_for next makers store (before ++ s ∷ []) (duties ++ d ∷ []) js ss (omega arith)
    (zip_more IsFor before (s ∷ []) duties (d ∷ []) h (duty_for_state next makers store duties j s, tt)))

-- the jobs that rest are those that are neither Dirty nor a Restore
pub chosen_for : (next : Option ℕ) (makers : List Maker) (store : List Known) (js : List Job) (ss : List State) → length ss ≡ length js → AreFor ss (duties_in next (is_able next makers) store [] js ss)
chosen_for next makers store js ss len = all_for next makers store [] [] js ss len tt
