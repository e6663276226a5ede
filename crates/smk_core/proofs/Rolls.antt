-- What the jobs keep, as they begin and end.
use Rattle.std.proofs.Common.{◌≡◌, ℕ, zero, suc, ◌<◌, Bool, true, false, ◌&&◌, List, Option, Some, None, length, set, take, replicate, refl, sym, ap, ◌∙◌, subst, length-set}
use Rattle.std.specs.Prelude.{slice_index}
use Rattle.std.specs.List.{slice_get, list_all}
use Rattle.std.proofs.lemmas.List.{length-replicate}
use Rattle.smk_pick.specs.declared.room.Ask.{Ask}
use Rattle.smk_pick.specs.declared.room.Room.{Room}
use Rattle.smk_core.specs.declared.phase.Phase.{Phase}
use Rattle.smk_core.specs.declared.phase.Phase.TheVariants.{Waiting, Running, Done, Failed}
use Rattle.smk_core.specs.Indices.{has}
use Rattle.smk_core.specs.Standing.{stands, is_waiting, is_running, is_done, befores_of, list_of}
use Rattle.smk_core.specs.Lines.{Line, Roll, IsRoll, ArePassed, AreBehind, AreReady, AreReadyBut, AreOfAll, fits_room, is_fitting, IsBest, is_next, IsBestReady, roll}
use Rattle.smk_core.proofs.Settling.{stands_within, is_waiting_at, is_running_at, passed_same, passed_more, ready_begun, ready_kept, ready_but, rest_all}

-- ## New jobs

zero_index : (n j : ℕ) → slice_index (replicate n 0) j ≡ 0
zero_index zero j = refl
zero_index (suc n) zero = refl
zero_index (suc n) (suc j) = zero_index n j

pub none_known : (phases : List Phase) (befores : List (List ℕ)) (n : ℕ) → ArePassed phases befores (replicate n 0)
none_known phases befores n j = ap (λ (m : ℕ). list_all (stands is_done phases) (take m (befores_of befores j))) (zero_index n j)

-- what is made for jobs, before they are settled
pub record IsFresh (count : ℕ) (asks : List Ask) (given befores : List (List ℕ)) (line : Line) (passed : List ℕ) (phases : List Phase) : Type 0 where
  pub count_is : count ≡ length asks
  pub as_many : length given ≡ length asks
  pub phases_many : length phases ≡ length asks
  pub same : befores ≡ given
  pub line_asks : line.asks ≡ asks
  pub line_present : line.present ≡ replicate (length asks) false
  pub passed_is : passed ≡ replicate count 0

module _ (count : ℕ) (asks : List Ask) (given befores : List (List ℕ)) (line : Line) (passed : List ℕ) (phases : List Phase) (h : IsFresh count asks given befores line passed phases) where
  many : length befores ≡ length asks
  many = ap length h.same ∙ h.as_many

  pub fresh_many : AreOfAll (length befores) line passed phases
  fresh_many = record {
    phases_many = h.phases_many ∙ sym many;
    present_many = ap length h.line_present ∙ length-replicate (length asks) false ∙ sym many;
    asks_many = ap length h.line_asks ∙ sym many;
    passed_many = ap length h.passed_is ∙ length-replicate count 0 ∙ h.count_is ∙ sym many;
  }

  pub fresh_known : ArePassed phases befores passed
  fresh_known = subst (ArePassed phases befores) (sym h.passed_is) (none_known phases befores count)

  pub fresh_rest : (jobs : List ℕ) → ((j : ℕ) → j < length asks → has jobs j ≡ true) → AreReadyBut jobs phases befores line.present
  fresh_rest jobs all = rest_all jobs (length asks) phases befores line.present all h.phases_many (ap length h.line_present ∙ length-replicate (length asks) false)

  pub fresh_roll : (now : Line) (upto : List ℕ) (behind : List (List ℕ)) → AreReady phases befores now.present → now.asks ≡ line.asks → ArePassed phases befores upto → AreOfAll (length befores) now upto phases
      → AreBehind given behind → length behind ≡ length given → IsRoll now befores behind upto phases
  fresh_roll now upto behind ready same known all behinds each = record {
    phases_many = all.phases_many ∙ sym all.asks_many;
    present_many = all.present_many ∙ sym all.asks_many;
    befores_many = sym all.asks_many;
    passed_many = all.passed_many ∙ sym all.asks_many;
    behind_many = each ∙ ap length (sym h.same) ∙ sym all.asks_many;
    passed_are = known;
    behind_are = subst (λ (bs : List (List ℕ)). AreBehind bs behind) (sym h.same) behinds;
    ready_are = ready;
  }

-- ## One job begins or ends

module _ (line : Line) (befores behind : List (List ℕ)) (passed : List ℕ) (phases : List Phase) (h : IsRoll line befores behind passed phases) (j : ℕ) where
  pub waiting_inside : stands is_waiting phases j ≡ true → j < length line.asks
  waiting_inside w = subst (λ (n : ℕ). j < n) h.phases_many (stands_within is_waiting phases j w)

  pub running_inside : stands is_running phases j ≡ true → j < length line.asks
  running_inside w = subst (λ (n : ℕ). j < n) h.phases_many (stands_within is_running phases j w)

  pub begun_roll : (new : Line) → stands is_waiting phases j ≡ true → new.asks ≡ line.asks → new.present ≡ set line.present j false → IsRoll new befores behind passed (set phases j Running)
  begun_roll new w asks present =
      let many : length new.asks ≡ length line.asks = ap length asks in
      let inside : j < length line.present = subst (λ (n : ℕ). j < n) (sym h.present_many) (waiting_inside w) in
      record {
        phases_many = length-set phases j Running ∙ h.phases_many ∙ sym many;
        present_many = ap length present ∙ length-set line.present j false ∙ h.present_many ∙ sym many;
        befores_many = h.befores_many ∙ sym many;
        passed_many = h.passed_many ∙ sym many;
        behind_many = h.behind_many ∙ sym many;
        passed_are = passed_same phases befores j Waiting Running (is_waiting_at phases j w) refl passed h.passed_are;
        behind_are = h.behind_are;
        ready_are = subst (AreReady (set phases j Running) befores) (sym present) (ready_begun phases befores j Waiting Running (is_waiting_at phases j w) refl refl line.present inside h.ready_are);
      }

  pub failed_roll : stands is_running phases j ≡ true → IsRoll line befores behind passed (set phases j Failed)
  failed_roll w = record {
    phases_many = length-set phases j Failed ∙ h.phases_many;
    present_many = h.present_many;
    befores_many = h.befores_many;
    passed_many = h.passed_many;
    behind_many = h.behind_many;
    passed_are = passed_same phases befores j Running Failed (is_running_at phases j w) refl passed h.passed_are;
    behind_are = h.behind_are;
    ready_are = ready_kept phases befores j Running Failed (is_running_at phases j w) refl refl line.present h.ready_are;
  }

  pub done_many : AreOfAll (length befores) line passed (set phases j Done)
  done_many = record {
    phases_many = length-set phases j Done ∙ h.phases_many ∙ sym h.befores_many;
    present_many = h.present_many ∙ sym h.befores_many;
    asks_many = sym h.befores_many;
    passed_many = h.passed_many ∙ sym h.befores_many;
  }

  pub done_known : stands is_running phases j ≡ true → ArePassed (set phases j Done) befores passed
  done_known w = passed_more phases befores j Running Done (is_running_at phases j w) refl passed h.passed_are

  pub done_rest : stands is_running phases j ≡ true → (list : List ℕ) → slice_get behind j ≡ Some list → AreReadyBut list (set phases j Done) befores line.present
  done_rest w list at =
      subst (λ (l : List ℕ). AreReadyBut l (set phases j Done) befores line.present) (ap list_of at)
      (ready_but phases befores j Running Done (is_running_at phases j w) refl behind h.behind_are line.present h.ready_are)

  pub done_roll : (now : Line) (upto : List ℕ) → AreReady (set phases j Done) befores now.present → now.asks ≡ line.asks → ArePassed (set phases j Done) befores upto → AreOfAll (length befores) now upto (set phases j Done)
      → IsRoll now befores behind upto (set phases j Done)
  done_roll now upto ready same known all = record {
    phases_many = all.phases_many ∙ sym all.asks_many;
    present_many = all.present_many ∙ sym all.asks_many;
    befores_many = sym all.asks_many;
    passed_many = all.passed_many ∙ sym all.asks_many;
    behind_many = h.behind_many ∙ ap length (sym same);
    passed_are = known;
    behind_are = h.behind_are;
    ready_are = ready;
  }

-- ## The best

module _ (line : Line) (befores behind : List (List ℕ)) (passed : List ℕ) (phases : List Phase) (h : IsRoll line befores behind passed phases) (room : Room) where
  abbrev all_jobs : Roll
  all_jobs = roll line.asks befores phases

  same_next : (j : ℕ) → is_fitting line room j ≡ is_next all_jobs room j
  same_next j = ap (λ (b : Bool). b && fits_room room (slice_get line.asks j)) (h.ready_are j)

  pub best_ready : (r : Option ℕ) → IsBest line room r → IsBestReady all_jobs room r
  best_ready None b = λ j. sym (same_next j) ∙ b j
  best_ready (Some j) b = (sym (same_next j) ∙ b.0, λ k t. b.1 k (same_next k ∙ t))
