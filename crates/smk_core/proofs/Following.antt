-- One job, followed through what happens.
use Rattle.std.proofs.Common.{◌≡◌, ℕ, zero, suc, ◌<◌, ◌≢◌, ◌⊎◌, Bool, true, false, List, [], ◌∷◌, Option, Some, length, set, refl, sym, ap, ◌∙◌, subst, inl, inr, length-set}
use Rattle.std.specs.List.{slice_get}
use Rattle.std.proofs.lemmas.Bool.{cases_eq}
use Rattle.std.proofs.lemmas.Option.{none-some, same_Some, slice_get_within}
use Rattle.smk_pick.specs.declared.room.Ask.{Ask}
use Rattle.smk_core.specs.declared.phase.Phase.{Phase}
use Rattle.smk_core.specs.declared.phase.Phase.TheVariants.{Waiting, Running}
use Rattle.smk_core.specs.declared.starter.Step.TheVariants.{Start, Wait, Finished}
use Rattle.smk_core.specs.Standing.{Standing, passes, stands, is_waiting, is_done, ending}
use Rattle.smk_core.specs.Replans.{CanReplan, IsReplanned}
use Rattle.smk_core.specs.Course.{Happening, Answered, Ended, Stopped, Replanned, Happens, Course, number_after, number_after_all, moved_or}
use Rattle.smk_core.specs.Laws.{IsRun, EndedWell}
use Rattle.smk_core.proofs.Gets.{get_some}
use Rattle.smk_core.proofs.Settling.{stands_within, stands_new, stands_other, is_running_at}
use Rattle.smk_core.proofs.Courses.{was_waiting, stays_run}

-- the job's phase, of which it is known that the test fails
pub record HasBegun (phases : List Phase) (n : ℕ) : Type 0 where
  pub inside : n < length phases
  pub begun : stands is_waiting phases n ≡ false

not_waiting : (good : Bool) → is_waiting (ending good) ≡ false
not_waiting true = refl
not_waiting false = refl

pub set_begun : (phases : List Phase) (j n : ℕ) (old new : Phase) → slice_get phases j ≡ Some old → is_waiting new ≡ false → HasBegun phases n → HasBegun (set phases j new) n
set_begun phases j n old new was gone h = record {
  inside = subst (λ (m : ℕ). n < m) (sym (length-set phases j new)) h.inside;
  begun = go (cases_eq n j);
}
  where
    go : (n ≡ j) ⊎ (n ≢ j) → stands is_waiting (set phases j new) n ≡ false
    go (inl e) = ap (stands is_waiting (set phases j new)) e ∙ stands_new phases j old new was is_waiting ∙ gone
    go (inr ne) = stands_other phases j old new was is_waiting n ne ∙ h.begun

-- it has begun by now
pub now_begun : (phases : List Phase) (j : ℕ) (old new : Phase) → slice_get phases j ≡ Some old → is_waiting new ≡ false → HasBegun (set phases j new) j
now_begun phases j old new was gone = record {
  inside = subst (λ (m : ℕ). j < m) (sym (length-set phases j new)) (slice_get_within phases j old was);
  begun = stands_new phases j old new was is_waiting ∙ gone;
}

-- ## Jobs that are given anew

-- the new number of a job that was there
pub new_number : (s : Standing) (asks : List Ask) (befores : List (List ℕ)) (moved : List ℕ) (n : ℕ) → IsRun s → CanReplan s asks befores moved → n < length s.phases → (m : ℕ) × (slice_get moved n ≡ Some m)
new_number s asks befores moved n r can lt = get_some moved n (subst (λ (x : ℕ). n < x) (sym (can.moves.as_many)) (subst (λ (x : ℕ). n < x) r.as_many lt))

pub moved_begun : (s t : Standing) (asks : List Ask) (befores : List (List ℕ)) (moved : List ℕ) (n : ℕ) → IsRun s → CanReplan s asks befores moved → IsReplanned asks befores moved s t
    → HasBegun s.phases n → HasBegun t.phases (moved_or n (slice_get moved n))
moved_begun s t asks befores moved n r can is h =
    let m : (m : ℕ) × (slice_get moved n ≡ Some m) = new_number s asks befores moved n r can h.inside in
    let p : (p : Phase) × (slice_get s.phases n ≡ Some p) = get_some s.phases n h.inside in
    let there : slice_get t.phases m.0 ≡ slice_get s.phases n = is.phases_are.carried n m.0 m.1 in
    subst (λ (o : Option ℕ). HasBegun t.phases (moved_or n o)) (sym m.1) (record {
      inside = slice_get_within t.phases m.0 p.0 (there ∙ p.1);
      begun = ap (passes is_waiting) there ∙ h.begun;
    })

-- ## A job that has begun doesn't wait again

begun_kept : (h : Happening) (s t : Standing) (n : ℕ) → IsRun s → Happens s h t → HasBegun s.phases n → HasBegun t.phases (number_after h n)
begun_kept (Answered (Start j)) s t n r (may, e) b = subst (λ (x : Standing). HasBegun x.phases n) (sym e) (set_begun s.phases j n Waiting Running (was_waiting s j may) refl b)
begun_kept (Answered Wait) s t n r (none, some, e) b = subst (λ (x : Standing). HasBegun x.phases n) (sym e) b
begun_kept (Answered Finished) s t n r (none, some, e) b = subst (λ (x : Standing). HasBegun x.phases n) (sym e) b
begun_kept (Ended j good) s t n r (runs, e) b =
    subst (λ (x : Standing). HasBegun x.phases n) (sym e) (set_begun s.phases j n Running (ending good) (is_running_at s.phases j runs) (not_waiting good) b)
begun_kept Stopped s t n r e b = subst (λ (x : Standing). HasBegun x.phases n) (sym e) b
begun_kept (Replanned asks befores moved) s t n r (can, is) b = moved_begun s t asks befores moved n r can is b

pub begun_course : (hs : List Happening) (s t : Standing) (n : ℕ) → IsRun s → Course s hs t → HasBegun s.phases n → HasBegun t.phases (number_after_all hs n)
begun_course [] s t n r e b = subst (λ (x : Standing). HasBegun x.phases n) (sym e) b
begun_course (h ∷ hs) s t n r (m, step, rest) b = begun_course hs m t (number_after h n) (stays_run h s m r step) rest (begun_kept h s m n r step b)

-- ## A job that is done has ended well

-- the job was done before under this number, or it is this that has happened
abbrev WasDone : Happening → Standing → ℕ → Type 0
WasDone h s k = ((j : ℕ) × (stands is_done s.phases j ≡ true) × (number_after h j ≡ k)) ⊎ (h ≡ Ended k true)

done_before : (phases : List Phase) (j k : ℕ) (old new : Phase) → slice_get phases j ≡ Some old → stands is_done (set phases j new) k ≡ true → (stands is_done phases k ≡ true) ⊎ ((k ≡ j) × (is_done new ≡ true))
done_before phases j k old new was t = go (cases_eq k j)
  where
    go : (k ≡ j) ⊎ (k ≢ j) → (stands is_done phases k ≡ true) ⊎ ((k ≡ j) × (is_done new ≡ true))
    go (inl e) = inr (e, sym (stands_new phases j old new was is_done) ∙ ap (stands is_done (set phases j new)) (sym e) ∙ t)
    go (inr ne) = inl (sym (stands_other phases j old new was is_done k ne) ∙ t)

search_none : (m : ℕ) (moved : List ℕ) (n : ℕ) → m ≢ n → ((i : ℕ) → slice_get moved i ≢ Some n) → (i : ℕ) → slice_get (m ∷ moved) i ≢ Some n
search_none m moved n ne none zero e = ne (same_Some m n e)
search_none m moved n ne none (suc i) e = none i e

search_by : (m : ℕ) (moved : List ℕ) (n : ℕ) → (m ≡ n) ⊎ (m ≢ n) → ((i : ℕ) × (slice_get moved i ≡ Some n)) ⊎ ((i : ℕ) → slice_get moved i ≢ Some n) → ((i : ℕ) × (slice_get (m ∷ moved) i ≡ Some n)) ⊎ ((i : ℕ) → slice_get (m ∷ moved) i ≢ Some n)
search_by m moved n (inl e) r = inl (0, ap Some e)
search_by m moved n (inr ne) (inl (i, e)) = inl (suc i, e)
search_by m moved n (inr ne) (inr none) = inr (search_none m moved n ne none)

-- whether a number is among these
pub search_number : (moved : List ℕ) (n : ℕ) → ((i : ℕ) × (slice_get moved i ≡ Some n)) ⊎ ((i : ℕ) → slice_get moved i ≢ Some n)
search_number [] n = inr (λ i e. none-some n e)
search_number (m ∷ moved) n = search_by m moved n (cases_eq m n) (search_number moved n)

moved_done : (s t : Standing) (asks : List Ask) (befores : List (List ℕ)) (moved : List ℕ) (k : ℕ) → IsReplanned asks befores moved s t → stands is_done t.phases k ≡ true
    → ((i : ℕ) × (slice_get moved i ≡ Some k)) ⊎ ((i : ℕ) → slice_get moved i ≢ Some k) → WasDone (Replanned asks befores moved) s k
moved_done s t asks befores moved k is d (inl (i, e)) = inl (i, ap (passes is_done) (sym (is.phases_are.carried i k e)) ∙ d, ap (moved_or i) e)
moved_done s t asks befores moved k is d (inr none) =
    let lt : k < length t.phases = stands_within is_done t.phases k d in
    let waits : slice_get t.phases k ≡ Some Waiting = is.phases_are.fresh k (subst (λ (n : ℕ). k < n) is.phases_are.as_many lt) none in
    let clash : passes is_done (Some Waiting) ≡ true = ap (passes is_done) (sym waits) ∙ d in
    cc

was_done : (h : Happening) (s t : Standing) (k : ℕ) → Happens s h t → stands is_done t.phases k ≡ true → WasDone h s k
was_done (Answered (Start j)) s t k (may, e) d =
    go (done_before s.phases j k Waiting Running (was_waiting s j may) (ap (λ (x : Standing). stands is_done x.phases k) (sym e) ∙ d))
  where
    go : (stands is_done s.phases k ≡ true) ⊎ ((k ≡ j) × (is_done Running ≡ true)) → WasDone (Answered (Start j)) s k
    go (inl b) = inl (k, b, refl)
    go (inr (same, clash)) = cc
was_done (Answered Wait) s t k (none, some, e) d = inl (k, ap (λ (x : Standing). stands is_done x.phases k) (sym e) ∙ d, refl)
was_done (Answered Finished) s t k (none, some, e) d = inl (k, ap (λ (x : Standing). stands is_done x.phases k) (sym e) ∙ d, refl)
was_done (Ended j good) s t k (runs, e) d =
    go good (done_before s.phases j k Running (ending good) (is_running_at s.phases j runs) (ap (λ (x : Standing). stands is_done x.phases k) (sym e) ∙ d))
  where
    go : (b : Bool) → (stands is_done s.phases k ≡ true) ⊎ ((k ≡ j) × (is_done (ending b) ≡ true)) → WasDone (Ended j b) s k
    go b (inl before) = inl (k, before, refl)
    go true (inr (same, well)) = inr (ap (λ (n : ℕ). Ended n true) (sym same))
    go false (inr (same, clash)) = cc
was_done Stopped s t k e d = inl (k, ap (λ (x : Standing). stands is_done x.phases k) (sym e) ∙ d, refl)
was_done (Replanned asks befores moved) s t k (can, is) d = moved_done s t asks befores moved k is d (search_number moved k)

abbrev DoneOrEnded : Standing → List Happening → ℕ → Type 0
DoneOrEnded s hs k = ((j : ℕ) × (stands is_done s.phases j ≡ true) × (number_after_all hs j ≡ k)) ⊎ EndedWell hs k

ended_earlier : (h : Happening) (hs : List Happening) (k : ℕ) → EndedWell hs k → EndedWell (h ∷ hs) k
ended_earlier h hs k (before, j, after, e, n) = (h ∷ before, j, after, ap {B = List Happening} (λ l. h ∷ l) e, n)

done_then : (h : Happening) (hs : List Happening) (s : Standing) (k j : ℕ) → number_after_all hs j ≡ k → WasDone h s j → DoneOrEnded s (h ∷ hs) k
done_then h hs s k j n (inl (i, d, e)) = inl (i, d, ap (number_after_all hs) e ∙ n)
done_then h hs s k j n (inr e) = inr ([], j, hs, ap {B = List Happening} (λ x. x ∷ hs) e, n)

done_or_ended_by : (h : Happening) (hs : List Happening) (s m : Standing) (k : ℕ) → Happens s h m → DoneOrEnded m hs k → DoneOrEnded s (h ∷ hs) k
done_or_ended_by h hs s m k step (inr w) = inr (ended_earlier h hs k w)
done_or_ended_by h hs s m k step (inl (j, d, n)) = done_then h hs s k j n (was_done h s m j step d)

pub done_or_ended : (hs : List Happening) (s t : Standing) (k : ℕ) → Course s hs t → stands is_done t.phases k ≡ true → DoneOrEnded s hs k
done_or_ended [] s t k e d = inl (k, ap (λ (x : Standing). stands is_done x.phases k) (sym e) ∙ d, refl)
done_or_ended (h ∷ hs) s t k (m, step, rest) d = done_or_ended_by h hs s m k step (done_or_ended hs m t k rest d)
