-- Which jobs are ready, as phases change.
use Rattle.std.proofs.Common.{◌≡◌, ℕ, zero, suc, ◌<◌, ◌≤◌, ◌≢◌, ◌⊎◌, Bool, true, false, ◌&&◌, List, [], ◌∷◌, Option, Some, None, length, set, take, refl, sym, ap, ◌∙◌, subst, inl, inr, arith, length-set}
use Rattle.std.specs.Prelude.{slice_index}
use Rattle.std.specs.List.{slice_get, list_all}
use Rattle.std.proofs.lemmas.Bool.{cases_eq, cases_lt, cases_Bool, and_parts, and_from, and_left}
use Rattle.std.proofs.lemmas.List.{get_or-set_same, get_or-set_other}
use Rattle.std.proofs.lemmas.Option.{slice_get_within, slice_get_past}
use Rattle.smk_core.specs.declared.phase.Phase.{Phase}
use Rattle.smk_core.specs.declared.phase.Phase.TheVariants.{Waiting, Running, Done, Failed}
use Rattle.smk_core.specs.Indices.{has, is_true, is_true_at}
use Rattle.smk_core.specs.Standing.{passes, stands, is_waiting, is_running, is_done, is_ready, befores_of, list_of}
use Rattle.smk_core.specs.Lines.{ArePassed, AreBehind, AreReady, AreReadyBut}
use Rattle.smk_core.proofs.Gets.{get_set_same, get_set_other, true_set_same, true_set_other, has_head, has_tail, has_cases}

-- ## Tests

all_same : (p q : ℕ → Bool) → ((i : ℕ) → p i ≡ q i) → (xs : List ℕ) → list_all p xs ≡ list_all q xs
all_same p q h [] = refl
all_same p q h (x ∷ xs) = λ i. h x i && all_same p q h xs i

pub all_on : (p q : ℕ → Bool) (xs : List ℕ) → ((i : ℕ) → has xs i ≡ true → p i ≡ q i) → list_all p xs ≡ list_all q xs
all_on p q [] h = refl
all_on p q (x ∷ xs) h = λ i. h x (has_head x xs) i && all_on p q xs (λ k e. h k (has_tail x xs k e)) i

pub all_more : (p q : ℕ → Bool) (xs : List ℕ) → ((i : ℕ) → p i ≡ true → q i ≡ true) → list_all p xs ≡ true → list_all q xs ≡ true
all_more p q [] h t = refl
all_more p q (x ∷ xs) h t =
    let parts : (p x ≡ true) × (list_all p xs ≡ true) = and_parts (p x) (list_all p xs) t in
    and_from (q x) (list_all q xs) (h x parts.0) (all_more p q xs h parts.1)

all_at_by : (p : ℕ → Bool) (x : ℕ) (xs : List ℕ) (i : ℕ) → (has xs i ≡ true → list_all p xs ≡ true → p i ≡ true) → (x ≡ i) ⊎ (has xs i ≡ true) → (p x ≡ true) × (list_all p xs ≡ true) → p i ≡ true
all_at_by p x xs i more (inl e) t = ap p (sym e) ∙ t.0
all_at_by p x xs i more (inr h) t = more h t.1

pub all_at : (p : ℕ → Bool) (xs : List ℕ) (i : ℕ) → has xs i ≡ true → list_all p xs ≡ true → p i ≡ true
all_at p [] i h t = cc
all_at p (x ∷ xs) i h t = all_at_by p x xs i (all_at p xs i) (has_cases x xs i h) (and_parts (p x) (list_all p xs) t)

-- ## Phases

pub stands_past : (test : Phase → Bool) (phases : List Phase) (j : ℕ) → length phases ≤ j → stands test phases j ≡ false
stands_past test phases j le = ap (passes test) (slice_get_past phases j le)

pub stands_within : (test : Phase → Bool) (phases : List Phase) (j : ℕ) → stands test phases j ≡ true → j < length phases
stands_within test [] j e = cc
stands_within test (p ∷ phases) zero e = omega arith
stands_within test (p ∷ phases) (suc j) e = let h : j < length phases = stands_within test phases j e in omega arith

-- a job that stands so has a phase that passes the test
stands_phase_by : (test : Phase → Bool) (phases : List Phase) (j : ℕ) (o : Option Phase) → slice_get phases j ≡ o → passes test o ≡ true → (p : Phase) × (slice_get phases j ≡ Some p) × (test p ≡ true)
stands_phase_by test phases j None e t = cc
stands_phase_by test phases j (Some p) e t = (p, e, t)

pub stands_phase : (test : Phase → Bool) (phases : List Phase) (j : ℕ) → stands test phases j ≡ true → (p : Phase) × (slice_get phases j ≡ Some p) × (test p ≡ true)
stands_phase test phases j e = stands_phase_by test phases j (slice_get phases j) refl e

pub waiting_is : (p : Phase) → is_waiting p ≡ true → p ≡ Waiting
waiting_is Waiting e = refl
waiting_is Running e = cc
waiting_is Done e = cc
waiting_is Failed e = cc

pub running_is : (p : Phase) → is_running p ≡ true → p ≡ Running
running_is Waiting e = cc
running_is Running e = refl
running_is Done e = cc
running_is Failed e = cc

pub is_waiting_at : (phases : List Phase) (j : ℕ) → stands is_waiting phases j ≡ true → slice_get phases j ≡ Some Waiting
is_waiting_at phases j e =
    let h : (p : Phase) × (slice_get phases j ≡ Some p) × (is_waiting p ≡ true) = stands_phase is_waiting phases j e in
    h.1 ∙ ap Some (waiting_is h.0 h.2)

pub is_running_at : (phases : List Phase) (j : ℕ) → stands is_running phases j ≡ true → slice_get phases j ≡ Some Running
is_running_at phases j e =
    let h : (p : Phase) × (slice_get phases j ≡ Some p) × (is_running p ≡ true) = stands_phase is_running phases j e in
    h.1 ∙ ap Some (running_is h.0 h.2)

-- one job's phase gives way to another
module _ (phases : List Phase) (j : ℕ) (old new : Phase) (was : slice_get phases j ≡ Some old) where
  pub stands_new : (test : Phase → Bool) → stands test (set phases j new) j ≡ test new
  stands_new test = ap (passes test) (get_set_same phases j new (slice_get_within phases j old was))

  pub stands_other : (test : Phase → Bool) (i : ℕ) → i ≢ j → stands test (set phases j new) i ≡ stands test phases i
  stands_other test i ne = ap (passes test) (get_set_other phases j i new ne)

  stands_by : (test : Phase → Bool) → test new ≡ test old → (i : ℕ) → (i ≡ j) ⊎ (i ≢ j) → stands test (set phases j new) i ≡ stands test phases i
  stands_by test same i (inl e) = ap (stands test (set phases j new)) e ∙ stands_new test ∙ same ∙ sym (ap (passes test) was) ∙ ap (stands test phases) (sym e)
  stands_by test same i (inr ne) = stands_other test i ne

  -- a test that tells the two not apart
  pub stands_same : (test : Phase → Bool) → test new ≡ test old → (i : ℕ) → stands test (set phases j new) i ≡ stands test phases i
  stands_same test same i = stands_by test same i (cases_eq i j)

  more_by : (test : Phase → Bool) → test new ≡ true → (i : ℕ) → stands test phases i ≡ true → (i ≡ j) ⊎ (i ≢ j) → stands test (set phases j new) i ≡ true
  more_by test now i t (inl e) = ap (stands test (set phases j new)) e ∙ stands_new test ∙ now
  more_by test now i t (inr ne) = stands_other test i ne ∙ t

  pub stands_more : (test : Phase → Bool) → test new ≡ true → (i : ℕ) → stands test phases i ≡ true → stands test (set phases j new) i ≡ true
  stands_more test now i t = more_by test now i t (cases_eq i j)

-- ## Ready jobs

abbrev ready_of : Bool → Bool → Bool
ready_of a b = a && b

module _ (phases : List Phase) (befores : List (List ℕ)) (j : ℕ) (old new : Phase) (was : slice_get phases j ≡ Some old) where
  pub passed_same : is_done new ≡ is_done old → (passed : List ℕ) → ArePassed phases befores passed → ArePassed (set phases j new) befores passed
  passed_same same passed h k =
      all_same (stands is_done (set phases j new)) (stands is_done phases) (stands_same phases j old new was is_done same) (take (slice_index passed k) (befores_of befores k)) ∙ h k

  pub passed_more : is_done new ≡ true → (passed : List ℕ) → ArePassed phases befores passed → ArePassed (set phases j new) befores passed
  passed_more now passed h k =
      all_more (stands is_done phases) (stands is_done (set phases j new)) (take (slice_index passed k) (befores_of befores k)) (stands_more phases j old new was is_done now) (h k)

  pub ready_other : is_done new ≡ is_done old → (k : ℕ) → stands is_waiting (set phases j new) k ≡ stands is_waiting phases k → is_ready (set phases j new) befores k ≡ is_ready phases befores k
  ready_other same k e =
      λ i. ready_of (e i) (all_same (stands is_done (set phases j new)) (stands is_done phases) (stands_same phases j old new was is_done same) (befores_of befores k) i)

  -- out of line as it begins
  pub ready_begun : is_done new ≡ is_done old → is_waiting new ≡ false → (present : List Bool) → j < length present → AreReady phases befores present
      → AreReady (set phases j new) befores (set present j false)
  ready_begun same gone present lt h k = go (cases_eq k j)
    where
      go : (k ≡ j) ⊎ (k ≢ j) → is_true_at (set present j false) k ≡ is_ready (set phases j new) befores k
      go (inl e) =
          ap (is_true_at (set present j false)) e ∙ true_set_same present j false lt
          ∙ sym (and_left (stands is_waiting (set phases j new) k) (list_all (stands is_done (set phases j new)) (befores_of befores k)) (ap (stands is_waiting (set phases j new)) e ∙ stands_new phases j old new was is_waiting ∙ gone))
      go (inr ne) = true_set_other present j k false ne ∙ h k ∙ sym (ready_other same k (stands_other phases j old new was is_waiting k ne))

  -- neither in line nor done before and after
  pub ready_kept : is_done new ≡ is_done old → is_waiting new ≡ is_waiting old → (present : List Bool) → AreReady phases befores present → AreReady (set phases j new) befores present
  ready_kept same waits present h k = h k ∙ sym (ready_other same k (stands_same phases j old new was is_waiting waits k))

  done_aside : (i k : ℕ) → has (befores_of befores k) j ≡ false → has (befores_of befores k) i ≡ true → stands is_done (set phases j new) i ≡ stands is_done phases i
  done_aside i k no_j has_i = stands_other phases j old new was is_done i (λ e. let d : has (befores_of befores k) i ≡ has (befores_of befores k) j = ap (has (befores_of befores k)) e in cc)

  -- done now: only those that it comes before may be ready now
  pub ready_but : is_waiting new ≡ is_waiting old → (behind : List (List ℕ)) → AreBehind befores behind → (present : List Bool) → AreReady phases befores present
      → AreReadyBut (list_of (slice_get behind j)) (set phases j new) befores present
  ready_but waits behind b present h k = go (cases_Bool (has (befores_of befores k) j))
    where
      go : (has (befores_of befores k) j ≡ true) ⊎ (has (befores_of befores k) j ≡ false) → (is_true_at present k ≡ is_ready (set phases j new) befores k) ⊎ (has (list_of (slice_get behind j)) k ≡ true)
      go (inl t) = inr (b j k t)
      go (inr f) =
          inl (h k ∙ sym (λ i. ready_of (stands_same phases j old new was is_waiting waits k i)
          (all_on (stands is_done (set phases j new)) (stands is_done phases) (befores_of befores k) (λ n t. done_aside n k f t) i)))

-- ## One job is settled

pub rest_more : (job : ℕ) (rest : List ℕ) (phases : List Phase) (befores : List (List ℕ)) (old new : List Bool)
    → AreReadyBut (job ∷ rest) phases befores old → new ≡ set old job (is_ready phases befores job) → job < length old → AreReadyBut rest phases befores new
rest_more job rest phases befores old new h e lt k = go (cases_eq k job) (h k)
  where
    aside : k ≢ job → is_true_at new k ≡ is_true_at old k
    aside ne = ap (λ (l : List Bool). is_true_at l k) e ∙ true_set_other old job k (is_ready phases befores job) ne

    left : k ≢ job → (job ≡ k) ⊎ (has rest k ≡ true) → (is_true_at new k ≡ is_ready phases befores k) ⊎ (has rest k ≡ true)
    left ne (inl d) = absurd (ne (sym d))
    left ne (inr t) = inr t

    go : (k ≡ job) ⊎ (k ≢ job) → (is_true_at old k ≡ is_ready phases befores k) ⊎ (has (job ∷ rest) k ≡ true) → (is_true_at new k ≡ is_ready phases befores k) ⊎ (has rest k ≡ true)
    go (inl d) s = inl (ap (is_true_at new) d ∙ ap (λ (l : List Bool). is_true_at l job) e ∙ true_set_same old job (is_ready phases befores job) lt ∙ ap (is_ready phases befores) (sym d))
    go (inr ne) (inl t) = inl (aside ne ∙ t)
    go (inr ne) (inr t) = left ne (has_cases job rest k t)

past_true : (tests : List Bool) (j : ℕ) → length tests ≤ j → is_true_at tests j ≡ false
past_true tests j le = ap is_true (slice_get_past tests j le)

past_ready : (phases : List Phase) (befores : List (List ℕ)) (j : ℕ) → length phases ≤ j → is_ready phases befores j ≡ false
past_ready phases befores j le = and_left (stands is_waiting phases j) (list_all (stands is_done phases) (befores_of befores j)) (stands_past is_waiting phases j le)

-- there is no such job
pub rest_past : (job : ℕ) (rest : List ℕ) (phases : List Phase) (befores : List (List ℕ)) (present : List Bool)
    → AreReadyBut (job ∷ rest) phases befores present → length present ≤ job → length phases ≤ job → AreReadyBut rest phases befores present
rest_past job rest phases befores present h le few k = go (h k)
  where
    left : (job ≡ k) ⊎ (has rest k ≡ true) → (is_true_at present k ≡ is_ready phases befores k) ⊎ (has rest k ≡ true)
    left (inl d) = inl (past_true present k (subst (λ (n : ℕ). length present ≤ n) d le) ∙ sym (past_ready phases befores k (subst (λ (n : ℕ). length phases ≤ n) d few)))
    left (inr t) = inr t

    go : (is_true_at present k ≡ is_ready phases befores k) ⊎ (has (job ∷ rest) k ≡ true) → (is_true_at present k ≡ is_ready phases befores k) ⊎ (has rest k ≡ true)
    go (inl t) = inl t
    go (inr t) = left (has_cases job rest k t)

pub rest_done : (phases : List Phase) (befores : List (List ℕ)) (present : List Bool) → AreReadyBut [] phases befores present → AreReady phases befores present
rest_done phases befores present h k = go (h k)
  where
    go : (is_true_at present k ≡ is_ready phases befores k) ⊎ (has [] k ≡ true) → is_true_at present k ≡ is_ready phases befores k
    go (inl t) = t
    go (inr t) = cc

-- nothing is in line yet, and each job is to be settled
pub rest_all : (jobs : List ℕ) (count : ℕ) (phases : List Phase) (befores : List (List ℕ)) (present : List Bool)
    → ((j : ℕ) → j < count → has jobs j ≡ true) → length phases ≡ count → length present ≡ count → AreReadyBut jobs phases befores present
rest_all jobs count phases befores present h few none k = go (cases_lt k count)
  where
    go : (k < count) ⊎ (count ≤ k) → (is_true_at present k ≡ is_ready phases befores k) ⊎ (has jobs k ≡ true)
    go (inl lt) = inr (h k lt)
    go (inr le) = inl (past_true present k (subst (λ (n : ℕ). n ≤ k) (sym none) le) ∙ sym (past_ready phases befores k (subst (λ (n : ℕ). n ≤ k) (sym few) le)))

-- ## How far the jobs before one are known to be done

past_index : (xs : List ℕ) (i : ℕ) → length xs ≤ i → slice_index xs i ≡ 0
past_index [] i le = refl
past_index (x ∷ xs) zero le = absurd (omega arith)
past_index (x ∷ xs) (suc i) le = past_index xs i (omega arith)

pub passed_set : (phases : List Phase) (befores : List (List ℕ)) (passed : List ℕ) (j upto : ℕ) → ArePassed phases befores passed
    → list_all (stands is_done phases) (take upto (befores_of befores j)) ≡ true → ArePassed phases befores (set passed j upto)
passed_set phases befores passed j upto h t k = go (cases_eq k j) (cases_lt j (length passed))
  where
    here : k ≡ j → list_all (stands is_done phases) (take upto (befores_of befores k)) ≡ true
    here e = ap (λ (n : ℕ). list_all (stands is_done phases) (take upto (befores_of befores n))) e ∙ t

    go : (k ≡ j) ⊎ (k ≢ j) → (j < length passed) ⊎ (length passed ≤ j) → list_all (stands is_done phases) (take (slice_index (set passed j upto) k) (befores_of befores k)) ≡ true
    go (inl e) (inl lt) = subst (λ (n : ℕ). list_all (stands is_done phases) (take n (befores_of befores k)) ≡ true) (sym (ap (λ (n : ℕ). slice_index (set passed j upto) n) e ∙ get_or-set_same passed j upto 0 lt)) (here e)
    go (inl e) (inr le) = subst (λ (n : ℕ). list_all (stands is_done phases) (take n (befores_of befores k)) ≡ true) (sym (past_index (set passed j upto) k (subst (λ (n : ℕ). length (set passed j upto) ≤ n) (sym e) (subst (λ (n : ℕ). n ≤ j) (sym (length-set passed j upto)) le)))) refl
    go (inr ne) s = subst (λ (n : ℕ). list_all (stands is_done phases) (take n (befores_of befores k)) ≡ true) (sym (get_or-set_other passed j k upto 0 ne)) (h k)
