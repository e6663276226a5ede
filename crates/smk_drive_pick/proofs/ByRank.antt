-- What is told by the ranks of some states is told by the states.
use Rattle.std.proofs.Common.{◌≡◌, ◌∙◌, ℕ, suc, Bool, false, ◌&&◌, ◌||◌, not, List, [], ◌∷◌, ◌++◌, map, zip, refl, ap, Option, Some, None, option_map}
use Rattle.std.specs.Prelude.{if◌then◌else◌, slice_index_or}
use Rattle.std.specs.List.{flat_map, list_all, slice_get}
use Rattle.std.specs.Option.{option_and_then}
use Rattle.std.proofs.lemmas.Option.{slice_get-map}
use Rattle.smk_world.specs.Trees.{Path}
use Rattle.smk_flow.specs.declared.job.Job.{Job}
use Rattle.smk_trigger.specs.declared.reason.State.{State}
use Rattle.smk_trigger.specs.declared.reason.State.TheVariants.{Open, Dirty, Restore, Clean}
use Rattle.smk_trigger.specs.JobStates.{is_clean, is_open, is_restore}
use Rattle.smk_plan.specs.States.{test_some}
use Rattle.smk_plan_states.specs.declared.lines.Line.{Line}
use Rattle.smk_plan_states.specs.declared.lines.Origin.{Origin}
use Rattle.smk_plan_states.specs.declared.ranks.Rank.{Rank}
use Rattle.smk_plan_states.specs.Ranks.{is_clean_rank, rank_of}
use Rattle.smk_plan_states.proofs.ByState.{clean_of}
use Rattle.smk_plan_live.specs.Live.{LivePlan}
use Rattle.smk_drive_pick.specs.declared.next.Best.{Best}
use Rattle.smk_drive_pick.specs.Told.{best_from, better, if_passes, is_lacking, is_missing}
use Rattle.smk_drive_pick.specs.Spending.{is_done_with, need_all, need_each, ripe_in, ripe_paths}

-- ## What is at hand

abbrev pub state_lacking : List State → Option ℕ → Bool → Bool
state_lacking states job whole = test_some (λ (s : State). not (is_clean s && whole)) (option_and_then (slice_get states) job)

abbrev pub state_away : List State → List Origin → List Bool → ℕ → Bool
state_away states origins wholes n = test_some (λ (o : Origin). state_lacking states o.job (slice_index_or wholes n false)) (slice_get origins n)

abbrev pub state_missing : List State → List Origin → List Bool → Option ℕ → Bool
state_missing states origins wholes link = test_some (state_away states origins wholes) link

lacking_by : (ss : List State) (job : Option ℕ) (whole : Bool) → is_lacking (map rank_of ss) job whole ≡ state_lacking ss job whole
lacking_by ss None whole = refl
lacking_by ss (Some n) whole = ap (test_some (λ (r : Rank). not (is_clean_rank r && whole))) (slice_get-map rank_of ss n) ∙ go (slice_get ss n)
  where
    go :
        (o : Option State) →
        test_some (λ (r : Rank). not (is_clean_rank r && whole)) (option_map rank_of o) ≡ test_some (λ (s : State). not (is_clean s && whole)) o
    go None = refl
    go (Some s) = ap (λ b. not (b && whole)) (clean_of s)

pub missing_by :
    (ss : List State) (origins : List Origin) (wholes : List Bool) (link : Option ℕ) →
    is_missing (map rank_of ss) origins wholes link ≡ state_missing ss origins wholes link
missing_by ss origins wholes None = refl
missing_by ss origins wholes (Some n) = go (slice_get origins n)
  where
    go :
        (o : Option Origin) →
        test_some (λ (x : Origin). is_lacking (map rank_of ss) x.job (slice_index_or wholes n false)) o
        ≡ test_some (λ (x : Origin). state_lacking ss x.job (slice_index_or wholes n false)) o
    go None = refl
    go (Some x) = lacking_by ss x.job (slice_index_or wholes n false)

-- ## The best

pub best_by :
    (test : ℕ → Job × Rank → Bool) (n : ℕ) (best : Option Best) (jobs : List Job) (ss : List State) →
    best_from test n best (zip jobs (map rank_of ss)) ≡ best_from (λ m (e : Job × State). test m (e.0, rank_of e.1)) n best (zip jobs ss)
best_by test n best [] ss = refl
best_by test n best (j ∷ jobs) [] = refl
best_by test n best (j ∷ jobs) (s ∷ ss) = best_by test (suc n) (better best (if_passes (test n) n (j, rank_of s))) jobs ss

-- ## What is spent

abbrev pub state_done : State → Bool
state_done s = not (is_open s) && not (is_restore s)

pub done_by : (ss : List State) → list_all is_done_with (map rank_of ss) ≡ list_all state_done ss
done_by [] = refl
done_by (s ∷ ss) =
    let one = each s in
    let more = done_by ss in
    λ i. one i && more i
  where
    each : (s : State) → is_done_with (rank_of s) ≡ state_done s
    each Open = refl
    each (Dirty reasons) = refl
    each Restore = refl
    each Clean = refl

abbrev pub state_need_of : List Bool → Line × State → List Bool
state_need_of flags e = if is_clean e.1 then flags else need_each flags e.0.inputs

abbrev pub state_need_all : List Bool → List (Line × State) → List Bool
state_need_all flags [] = flags
state_need_all flags (e ∷ es) = state_need_all (state_need_of flags e) es

pub need_by : (flags : List Bool) (lines : List Line) (ss : List State) → need_all flags (zip lines (map rank_of ss)) ≡ state_need_all flags (zip lines ss)
need_by flags [] ss = refl
need_by flags (l ∷ lines) [] = refl
need_by flags (l ∷ lines) (s ∷ ss) =
    ap (λ b. need_all (if b then flags else need_each flags l.inputs) (zip lines (map rank_of ss))) (clean_of s)
    ∙ need_by (if is_clean s then flags else need_each flags l.inputs) lines ss

module _ (live : LivePlan) (needed : List Bool) where
  abbrev pub state_ripe_by : Job × (Line × State) → List Path
  state_ripe_by e = if is_clean e.1.1 && not e.1.0.feeds then ripe_paths live needed (zip e.0.temps e.1.0.temps) else []

  abbrev pub state_ripe_in : List (Job × (Line × State)) → List Path
  state_ripe_in es = flat_map state_ripe_by es

  pub ripe_ranks :
      (jobs : List Job) (lines : List Line) (ss : List State) →
      ripe_in live needed (zip jobs (zip lines (map rank_of ss))) ≡ state_ripe_in (zip jobs (zip lines ss))
  ripe_ranks [] lines ss = refl
  ripe_ranks (j ∷ jobs) [] ss = refl
  ripe_ranks (j ∷ jobs) (l ∷ lines) [] = refl
  ripe_ranks (j ∷ jobs) (l ∷ lines) (s ∷ ss) =
      let one = clean_of s in
      let more = ripe_ranks jobs lines ss in
      λ i. (if one i && not l.feeds then ripe_paths live needed (zip j.temps l.temps) else []) ++ more i
