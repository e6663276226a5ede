-- Sums over jobs, as their phases change and as they are given anew.
use Rattle.std.proofs.Common.{◌≡◌, ℕ, zero, suc, ◌+◌, ◌<◌, ◌≢◌, ◌⊎◌, Bool, cond, List, [], ◌∷◌, Some, length, set, refl, sym, ap, ◌∙◌, subst, inl, inr, arith, length-set}
use Rattle.std.specs.List.{slice_get, sum_by, count_by}
use Rattle.std.proofs.lemmas.Bool.{cases_eq}
use Rattle.std.proofs.lemmas.List.Sums.{sum_by-cons}
use Rattle.std.proofs.lemmas.Option.{none-some, same_Some, slice_get_within}
use Rattle.smk_pick.specs.declared.room.Ask.{Ask}
use Rattle.smk_core.specs.declared.phase.Phase.{Phase}
use Rattle.smk_core.specs.declared.phase.Phase.TheVariants.{Waiting, Running, Done, Failed}
use Rattle.smk_core.specs.Standing.{is_running, asks_running}
use Rattle.smk_core.specs.Replans.{Moves, IsCarried}
use Rattle.smk_core.proofs.Gets.{get_set_same, get_set_other}

-- the sum over the jobs of what each counts by its ask and its phase
abbrev pub total : (Ask → Phase → ℕ) → List Ask → List Phase → ℕ
total g [] phases = 0
total g (a ∷ asks) [] = 0
total g (a ∷ asks) (p ∷ phases) = g a p + total g asks phases

-- ## Sums that are such totals

abbrev pub if_running : (Ask → ℕ) → Ask → Phase → ℕ
if_running f a p = cond (is_running p) (f a) 0

pub sum_running : (f : Ask → ℕ) (asks : List Ask) (phases : List Phase) → sum_by f (asks_running asks phases) ≡ total (if_running f) asks phases
sum_running f [] phases = refl
sum_running f (a ∷ asks) [] = refl
sum_running f (a ∷ asks) (Waiting ∷ phases) = sum_running f asks phases ∙ nothing (total (if_running f) asks phases)
  where
    nothing : (n : ℕ) → n ≡ 0 + n
    nothing n = omega arith
sum_running f (a ∷ asks) (Running ∷ phases) = sum_by-cons f a (asks_running asks phases) ∙ ap (λ (n : ℕ). f a + n) (sum_running f asks phases)
sum_running f (a ∷ asks) (Done ∷ phases) = sum_running f asks phases ∙ nothing (total (if_running f) asks phases)
  where
    nothing : (n : ℕ) → n ≡ 0 + n
    nothing n = omega arith
sum_running f (a ∷ asks) (Failed ∷ phases) = sum_running f asks phases ∙ nothing (total (if_running f) asks phases)
  where
    nothing : (n : ℕ) → n ≡ 0 + n
    nothing n = omega arith

abbrev pub if_phase : (Phase → Bool) → Ask → Phase → ℕ
if_phase test a p = cond (test p) 1 0

pub count_phases : (test : Phase → Bool) (asks : List Ask) (phases : List Phase) → length phases ≡ length asks → count_by test phases ≡ total (if_phase test) asks phases
count_phases test [] [] e = refl
count_phases test [] (p ∷ phases) e = absurd (omega arith)
count_phases test (a ∷ asks) [] e = refl
count_phases test (a ∷ asks) (p ∷ phases) e = sum_by-cons (λ x. cond (test x) 1 0) p phases ∙ ap (λ (n : ℕ). if_phase test a p + n) (count_phases test asks phases (omega arith))

-- ## One phase changes

pub total_set : (g : Ask → Phase → ℕ) (asks : List Ask) (phases : List Phase) (j : ℕ) (a : Ask) (old new : Phase)
    → slice_get asks j ≡ Some a → slice_get phases j ≡ Some old → total g asks (set phases j new) + g a old ≡ total g asks phases + g a new
total_set g [] phases j a old new e d = absurd (none-some a e)
total_set g (b ∷ asks) [] j a old new e d = absurd (none-some old d)
total_set g (b ∷ asks) (p ∷ phases) zero a old new e d =
    let one : b ≡ a = same_Some b a e in
    let two : p ≡ old = same_Some p old d in
    swap_last (g b new) (total g asks phases) (g a old) (g b p) (g a new) (λ i. g (one (i)) new) (λ i. g (one i) (two i))
  where
    swap_last : (x t y u v : ℕ) → x ≡ v → u ≡ y → x + t + y ≡ u + t + v
    swap_last x t y u v h k = omega arith
total_set g (b ∷ asks) (p ∷ phases) (suc j) a old new e d =
    let h : total g asks (set phases j new) + g a old ≡ total g asks phases + g a new = total_set g asks phases j a old new e d in
    under (g b p) (total g asks (set phases j new)) (g a old) (total g asks phases) (g a new) h
  where
    under : (x t y u v : ℕ) → t + y ≡ u + v → x + t + y ≡ x + u + v
    under x t y u v h = omega arith

-- ## Jobs given anew

total_waiting : (g : Ask → Phase → ℕ) → ((a : Ask) → g a Waiting ≡ 0) → (asks : List Ask) (phases : List Phase) → ((n : ℕ) → n < length phases → slice_get phases n ≡ Some Waiting) → total g asks phases ≡ 0
total_waiting g none [] phases h = refl
total_waiting g none (a ∷ asks) [] h = refl
total_waiting g none (a ∷ asks) (p ∷ phases) h =
    let waits : p ≡ Waiting = same_Some p Waiting (h 0 (omega arith)) in
    let here : g a p ≡ 0 = ap (g a) waits ∙ none a in
    let rest : total g asks phases ≡ 0 = total_waiting g none asks phases (λ n lt. h (suc n) (omega arith)) in
    omega arith

module _ (m : ℕ) (moved : List ℕ) (a : Ask) (old new : List Ask) (p : Phase) (phases made : List Phase) (moves : Moves (m ∷ moved) (a ∷ old) new) (c : IsCarried (m ∷ moved) (length new) (p ∷ phases) made) where
  rest_moves : Moves moved old new
  rest_moves = record {
    as_many = (let e : suc (length moved) ≡ suc (length old) = moves.as_many in omega arith);
    apart = λ i j n e d. (let s : suc i ≡ suc j = moves.apart (suc i) (suc j) n e d in omega arith);
    same = λ i n b e d. moves.same (suc i) n b e d;
  }

  not_first : (i n : ℕ) → slice_get moved i ≡ Some n → n ≢ m
  not_first i n e d = (let s : suc i ≡ 0 = moves.apart (suc i) 0 n e (ap Some (sym d)) in omega arith)

  there : slice_get made m ≡ Some p
  there = c.carried 0 m refl

  fresh_by : (n : ℕ) → n < length new → ((i : ℕ) → slice_get moved i ≢ Some n) → (n ≡ m) ⊎ (n ≢ m) → slice_get (set made m Waiting) n ≡ Some Waiting
  fresh_by n lt other (inl e) = ap (slice_get (set made m Waiting)) e ∙ get_set_same made m Waiting (slice_get_within made m p there)
  fresh_by n lt other (inr ne) = get_set_other made m n Waiting ne ∙ c.fresh n lt none
    where
      none : (i : ℕ) → slice_get (m ∷ moved) i ≢ Some n
      none zero e = ne (sym (same_Some m n e))
      none (suc i) e = other i e

  rest_carried : IsCarried moved (length new) phases (set made m Waiting)
  rest_carried = record {
    as_many = length-set made m Waiting ∙ c.as_many;
    carried = λ i n e. get_set_other made m n Waiting (not_first i n e) ∙ c.carried (suc i) n e;
    fresh = λ n lt other. fresh_by n lt other (cases_eq n m);
  }

-- the total stays, where those that wait count nothing
pub total_carried : (g : Ask → Phase → ℕ) → ((a : Ask) → g a Waiting ≡ 0) → (moved : List ℕ) (old new : List Ask) (phases made : List Phase)
    → length phases ≡ length old → Moves moved old new → IsCarried moved (length new) phases made → total g new made ≡ total g old phases
total_carried g none [] [] new phases made many moves c =
    total_waiting g none new made (λ n lt. c.fresh n (subst (λ (x : ℕ). n < x) c.as_many lt) (λ i e. none-some n e))
total_carried g none [] (a ∷ old) new phases made many moves c = absurd (let e : 0 ≡ suc (length old) = moves.as_many in omega arith)
total_carried g none (m ∷ moved) [] new phases made many moves c = absurd (let e : suc (length moved) ≡ 0 = moves.as_many in omega arith)
total_carried g none (m ∷ moved) (a ∷ old) new [] made many moves c = absurd (omega arith)
total_carried g none (m ∷ moved) (a ∷ old) new (p ∷ phases) made many moves c =
    let rest : total g new (set made m Waiting) ≡ total g old phases =
    total_carried g none moved old new phases (set made m Waiting) (omega arith) (rest_moves m moved a old new p phases made moves c) (rest_carried m moved a old new p phases made moves c) in
    let one : total g new (set made m Waiting) + g a p ≡ total g new made + g a Waiting = total_set g new made m a p Waiting (moves.same 0 m a refl refl) (c.carried 0 m refl) in
    let zero_here : g a Waiting ≡ 0 = none a in
    omega arith
