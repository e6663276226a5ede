-- What is told by the ranks of some states is told by the states.
use Rattle.std.proofs.Common.{◌≡◌, ◌∙◌, ◌≤◌, ltb-false, ℕ, zero, suc, arith, Bool, false, length, drop, sym, List, [], ◌∷◌, map, ◌&&◌, ◌||◌, not, refl, ap, Option, Some, None, option_map}
use Rattle.std.specs.Prelude.{if◌then◌else◌, is_none, nat_lt, zip}
use Rattle.std.specs.List.{list_any, slice_get}
use Rattle.std.proofs.lemmas.Option.{slice_get-map}
use Rattle.smk_trigger.specs.declared.reason.State.{State}
use Rattle.smk_trigger.specs.declared.reason.State.TheVariants.{Open, Dirty, Restore, Clean}
use Rattle.smk_trigger.specs.JobStates.{is_clean, is_to_run}
use Rattle.smk_plan.specs.States.{test_some}
use Rattle.smk_plan_states.specs.declared.lines.Awaited.{Awaited}
use Rattle.smk_plan_states.specs.declared.lines.Line.{Line}
use Rattle.smk_plan_states.specs.declared.ranks.Rank.{Rank}
use Rattle.smk_plan_states.specs.declared.spots.Spot.{Spot}
use Rattle.smk_plan_states.specs.Passes.{state_at}
use Rattle.smk_plan_states.specs.Ranks.{is_clean_rank, is_to_run_rank, rank_at, rank_of}
use Rattle.smk_plan_states.specs.Spots.{is_ready_spot, is_over_ready}
use Rattle.smk_plan_states.specs.Ranking.{has_link, is_held_by, is_kept_by, is_lent_lacking, is_needed_by_flags, is_needed_in, is_new_awaited, lacks}

-- ## By states

abbrev pub ready_state : List State → Spot → Bool
ready_state states s = test_some is_clean (state_at states s.job) && s.whole

abbrev pub over_state : List State → Spot → Bool
over_state states s = test_some (λ w. test_some is_clean (state_at states s.job) && w) s.over

abbrev pub new_state : List State → (Option ℕ → Option Spot) → Awaited → Bool
new_state states spots a = (if a.over then test_some (over_state states) (spots a.link) else test_some (ready_state states) (spots a.link)) && not a.listed

abbrev pub run_state : ℕ → Line × State → Bool
run_state n e = is_to_run e.1 && list_any (has_link n) e.0.inputs

abbrev pub needed_state : List Line → List State → ℕ → Bool
needed_state lines states n = list_any (run_state n) (zip lines states)

abbrev pub held_state : List Bool → Line × (State × (Option State × (Bool × List Bool))) → Bool
held_state needed e =
    (is_none e.1.1.0 && is_clean e.1.0) && (e.1.1.1.0 && (is_needed_by_flags needed e.0.outputs e.1.1.1.1 || is_kept_by e.0.outputs e.1.1.1.1))

abbrev pub lent_state : State × (Bool × List Bool) → Bool
lent_state e = is_clean e.0 && (e.1.0 && lacks e.1.1)

-- ## The same by their ranks

pub clean_of : (s : State) → is_clean_rank (rank_of s) ≡ is_clean s
clean_of Open = refl
clean_of (Dirty reasons) = refl
clean_of Restore = refl
clean_of Clean = refl

pub run_of : (s : State) → is_to_run_rank (rank_of s) ≡ is_to_run s
run_of Open = refl
run_of (Dirty reasons) = refl
run_of Restore = refl
run_of Clean = refl

clean_at : (ss : List State) (n : Option ℕ) → test_some is_clean_rank (rank_at (map rank_of ss) n) ≡ test_some is_clean (state_at ss n)
clean_at ss None = refl
clean_at ss (Some n) = ap (test_some is_clean_rank) (slice_get-map rank_of ss n) ∙ go (slice_get ss n)
  where
    go : (o : Option State) → test_some is_clean_rank (option_map rank_of o) ≡ test_some is_clean o
    go None = refl
    go (Some s) = clean_of s

pub ready_ranks : (ss : List State) (o : Option Spot) → test_some (is_ready_spot (map rank_of ss)) o ≡ test_some (ready_state ss) o
ready_ranks ss None = refl
ready_ranks ss (Some s) = ap (λ b. b && s.whole) (clean_at ss s.job)

pub over_ranks : (ss : List State) (o : Option Spot) → test_some (is_over_ready (map rank_of ss)) o ≡ test_some (over_state ss) o
over_ranks ss None = refl
over_ranks ss (Some s) = ap (λ b. test_some (λ w. b && w) s.over) (clean_at ss s.job)

pub new_ranks : (ss : List State) (spots : Option ℕ → Option Spot) (a : Awaited) → is_new_awaited (map rank_of ss) spots a ≡ new_state ss spots a
new_ranks ss spots a = λ i. (if a.over then over_ranks ss (spots a.link) i else ready_ranks ss (spots a.link) i) && not a.listed

pub needed_ranks : (lines : List Line) (ss : List State) (n : ℕ) → is_needed_in lines (map rank_of ss) n ≡ needed_state lines ss n
needed_ranks [] [] n = refl
needed_ranks [] (s ∷ ss) n = refl
needed_ranks (l ∷ lines) [] n = refl
needed_ranks (l ∷ lines) (s ∷ ss) n =
    let one = run_of s in
    let more = needed_ranks lines ss n in
    λ i. (one i && list_any (has_link n) l.inputs) || more i

pub held_ranks :
    (needed : List Bool) (lines : List Line) (ss : List State) (rest : List (Option State × (Bool × List Bool))) →
    list_any (is_held_by needed) (zip lines (zip (map rank_of ss) rest)) ≡ list_any (held_state needed) (zip lines (zip ss rest))
held_ranks needed [] ss rest = refl
held_ranks needed (l ∷ lines) [] rest = refl
held_ranks needed (l ∷ lines) (s ∷ ss) [] = refl
held_ranks needed (l ∷ lines) (s ∷ ss) (r ∷ rest) =
    let one = clean_of s in
    let more = held_ranks needed lines ss rest in
    λ i. ((is_none r.0 && one i) && (r.1.0 && (is_needed_by_flags needed l.outputs r.1.1 || is_kept_by l.outputs r.1.1))) || more i

pub lent_ranks : (ss : List State) (rest : List (Bool × List Bool)) → list_any is_lent_lacking (zip (map rank_of ss) rest) ≡ list_any lent_state (zip ss rest)
lent_ranks [] rest = refl
lent_ranks (s ∷ ss) [] = refl
lent_ranks (s ∷ ss) (r ∷ rest) =
    let one = clean_of s in
    let more = lent_ranks ss rest in
    λ i. (one i && (r.0 && lacks r.1)) || more i

-- ## Where a list ends

none_from : {A : Type 0} (xs : List A) (i : ℕ) → length xs ≤ i → drop i xs ≡ []
none_from [] zero h = refl
none_from [] (suc i) h = refl
none_from (x ∷ xs) zero h = absurd (omega (arith, h))
none_from (x ∷ xs) (suc i) h = none_from xs i (omega (arith, h))

zip_none : {A B : Type 0} (xs : List A) (ys : List B) → ys ≡ [] → zip xs ys ≡ []
zip_none [] ys e = refl
zip_none (x ∷ xs) [] e = refl
zip_none (x ∷ xs) (y ∷ ys) e = absurd (omega (arith, ap length e))

-- behind the end of the flags nothing is lacking
pub no_flags : (ranks : List Rank) (used : List Bool) (rest : List (List Bool)) (i : ℕ) → length used ≤ i →
    list_any is_lent_lacking (zip (drop i ranks) (zip (drop i used) rest)) ≡ false
no_flags ranks used rest i end =
    ap (λ us. list_any is_lent_lacking (zip (drop i ranks) (zip us rest))) (none_from used i end) ∙ ap (list_any is_lent_lacking) (zip_none (drop i ranks) (zip [] rest) refl)

-- nor behind the end of the rows
pub no_rows : (ranks : List Rank) (used : List Bool) (rows : List (List Bool)) (i : ℕ) → length rows ≤ i →
    list_any is_lent_lacking (zip (drop i ranks) (zip (drop i used) (drop i rows))) ≡ false
no_rows ranks used rows i end =
    ap (list_any is_lent_lacking)
    (zip_none (drop i ranks) (zip (drop i used) (drop i rows)) (zip_none (drop i used) (drop i rows) (none_from rows i end)))

pub no_less : (m n : ℕ) → false ≡ nat_lt m n → n ≤ m
no_less m n h = ltb-false m n (sym h)
