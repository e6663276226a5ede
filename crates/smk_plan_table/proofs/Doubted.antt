-- Where nothing is suspected of jobs, nothing is refused of them.
use Rattle.std.proofs.Common.{◌≡◌, Bool, true, false, cond, not, ◌&&◌, ◌||◌, List, [], ◌∷◌, ◌++◌, map, length, Option, None, arith, refl, sym, ap, ◌∙◌}
use Rattle.std.specs.Prelude.{if◌then◌else◌, is_none}
use Rattle.std.specs.List.{filter, list_any, AllZip}
use Rattle.std.proofs.lemmas.Bool.{or_parts}
use Rattle.std.proofs.lemmas.List.Elements.{filter-append}
use Rattle.std.proofs.lemmas.List.Folds.{list_any-append}
use Rattle.smk_world.specs.declared.recipe.Out.{Out}
use Rattle.smk_world.specs.declared.recipe.OutItem.{OutItem}
use Rattle.smk_world.specs.World.{out_paths}
use Rattle.smk_world.specs.Trees.{Path, first}
use Rattle.smk_flow.specs.declared.job.Job.{Job}
use Rattle.smk_store.specs.Stores.{Known}
use Rattle.smk_trigger.specs.declared.reason.State.{State}
use Rattle.smk_plan_states.specs.declared.ranks.Rank.{Rank}
use Rattle.smk_plan_states.specs.Ranks.{is_to_run_rank}
use Rattle.smk_pick.specs.declared.settings.Settings.{Settings}
use Rattle.smk_plan.specs.declared.fault.PlanFault.{PlanFault}
use Rattle.smk_plan.specs.declared.fault.PlanFault.TheVariants.{Protected}
use Rattle.smk_plan.specs.declared.seen.Sight.{Sight}
use Rattle.smk_plan_table.specs.declared.suspects.Suspect.{Suspect}
use Rattle.smk_plan_table.specs.Parts.{all_above, before_in, guarded_in, idle_in, is_guarded_in, is_marked_in, marked_in, may_be_marked, may_be_refused, may_be_stopped, outputs_of, paths_in, refusals_in, unless_none, IsSuspectOf}

-- ## Lists

-- a test on the outputs of each item is one on all outputs
pub any_paths : (test : Path → Bool) (items : List OutItem) → list_any (λ (i : OutItem). list_any test (map (λ (o : Out). o.path) i.outs)) items ≡ list_any test (paths_in items)
any_paths test [] = refl
any_paths test (i ∷ items) =
    ap (λ b. list_any test (map (λ (o : Out). o.path) i.outs) || b) (any_paths test items)
    ∙ sym (list_any-append test (map (λ (o : Out). o.path) i.outs) (paths_in items))

none_kept : {A : Type 0} (test : A → Bool) (xs : List A) → list_any test xs ≡ false → filter test xs ≡ []
none_kept test [] h = refl
none_kept test (x ∷ xs) h = go (test x) h (none_kept test xs)
  where
    go : (b : Bool) → (b || list_any test xs) ≡ false → (list_any test xs ≡ false → filter test xs ≡ []) → cond b (x ∷ filter test xs) (filter test xs) ≡ []
    go true e more = absurd cc
    go false e more = more e

-- nothing passes of the outputs of a job and of others
none_more : (test : Path → Bool) (j : Job) (jobs : List Job) → list_any test (out_paths j.recipe) ≡ false → filter test (outputs_of jobs) ≡ [] →
    filter test (outputs_of (j ∷ jobs)) ≡ []
none_more test j jobs h e =
    filter-append test (out_paths j.recipe) (outputs_of jobs)
    ∙ ap (λ ps. ps ++ filter test (outputs_of jobs)) (none_kept test (out_paths j.recipe) h)
    ∙ e

-- ## Suspects

module _ (store : List Known) (seen : List Sight) (settings : Settings) where
  -- the suspects are those of the jobs
  abbrev AreOf : List Job → List Suspect → Type 0
  AreOf jobs suspects = AllZip (IsSuspectOf store seen settings.bounds) jobs suspects

  one_idle : (j : Job) (s : Suspect) → IsSuspectOf store seen settings.bounds j s → (jobs : List Job) (b : Bool) → (b && s.marked) ≡ false →
      filter (is_marked_in store) (outputs_of jobs) ≡ [] → filter (is_marked_in store) (outputs_of ((if b then j ∷ [] else []) ++ jobs)) ≡ []
  one_idle j s of jobs true e rest = none_more (is_marked_in store) j jobs (of.unmarked e) rest
  one_idle j s of jobs false e rest = rest

  unmarked : (jobs : List Job) (suspects : List Suspect) → AreOf jobs suspects → (kept : List (Option State)) → may_be_marked kept suspects ≡ false →
      filter (is_marked_in store) (outputs_of (idle_in jobs kept)) ≡ []
  unmarked [] [] of kept h = refl
  unmarked [] (s ∷ suspects) of kept h = absurd of
  unmarked (j ∷ jobs) [] of kept h = absurd of
  unmarked (j ∷ jobs) (s ∷ suspects) of [] h = refl
  unmarked (j ∷ jobs) (s ∷ suspects) of (k ∷ kept) h =
      let parts = or_parts (is_none k && s.marked) (may_be_marked kept suspects) h in
      one_idle j s of.0 (idle_in jobs kept) (is_none k) parts.0 (unmarked jobs suspects of.1 kept parts.1)

  -- nothing stops these jobs
  abbrev AreFree : List Job → Type 0
  AreFree jobs = (filter (is_guarded_in seen) (outputs_of jobs) ≡ []) × (all_above settings.bounds jobs ≡ [])

  one_free : (j : Job) (s : Suspect) → IsSuspectOf store seen settings.bounds j s → (jobs : List Job) (runs begun : Bool) →
      (runs && (s.guarded || s.above)) ≡ false → AreFree jobs → AreFree ((if (runs && not begun) then j ∷ [] else []) ++ jobs)
  one_free j s of jobs false begun e rest = rest
  one_free j s of jobs true true e rest = rest
  one_free j s of jobs true false e rest =
      let parts = or_parts s.guarded s.above e in (
        none_more (is_guarded_in seen) j jobs (of.unguarded parts.0) rest.0,
        ap (λ (fs : List PlanFault). fs ++ all_above settings.bounds jobs) (of.within parts.1) ∙ rest.1,
      )

  free : (jobs : List Job) (suspects : List Suspect) → AreOf jobs suspects → (states : List Rank) (flags : List Bool) → may_be_stopped states suspects ≡ false →
      AreFree (before_in jobs states flags)
  free [] [] of states flags h = (refl, refl)
  free [] (s ∷ suspects) of states flags h = absurd of
  free (j ∷ jobs) [] of states flags h = absurd of
  free (j ∷ jobs) (s ∷ suspects) of [] flags h = (refl, refl)
  free (j ∷ jobs) (s ∷ suspects) of (t ∷ states) [] h = (refl, refl)
  free (j ∷ jobs) (s ∷ suspects) of (t ∷ states) (b ∷ flags) h =
      let parts = or_parts (is_to_run_rank t && (s.guarded || s.above)) (may_be_stopped states suspects) h in
      one_free j s of.0 (before_in jobs states flags) (is_to_run_rank t) b parts.0 (free jobs suspects of.1 states flags parts.1)

  none_marked : (rerun : Bool) (idle : List Job) → ((not rerun) ≡ true → filter (is_marked_in store) (outputs_of idle) ≡ []) → marked_in store rerun idle ≡ []
  none_marked true idle h = refl
  none_marked false idle h = ap unless_none (h refl)

  when_counted : (rerun : Bool) (marked : Bool) → (not rerun && marked) ≡ false → (not rerun) ≡ true → marked ≡ false
  when_counted true marked e k = absurd cc
  when_counted false marked e k = e

  -- Where nothing may be refused, nothing is.
  pub none_refused : (jobs : List Job) (suspects : List Suspect) → AllZip (IsSuspectOf store seen settings.bounds) jobs suspects →
      (kept : List (Option State)) (states : List Rank) (flags : List Bool) →
      may_be_refused settings.rerun_incomplete kept states suspects ≡ false →
      None ≡ first (refusals_in store seen settings (idle_in jobs kept) (before_in jobs states flags))
  none_refused jobs suspects of kept states flags h =
      let parts = or_parts (not settings.rerun_incomplete && may_be_marked kept suspects) (may_be_stopped states suspects) h in
      let ahead = free jobs suspects of states flags parts.1 in
      let front = before_in jobs states flags in
      let marks : marked_in store settings.rerun_incomplete (idle_in jobs kept) ≡ [] =
      none_marked settings.rerun_incomplete (idle_in jobs kept)
      (λ k. unmarked jobs suspects of kept (when_counted settings.rerun_incomplete (may_be_marked kept suspects) parts.0 k)) in
      let guards : guarded_in seen front ≡ [] = ap (map Protected) ahead.0 in
      let all : refusals_in store seen settings (idle_in jobs kept) front ≡ [] = λ i. marks i ++ (guards i ++ ahead.1 i) in
      sym (ap first all)

-- where there is no suspicion nothing is suspected
pub stopped_end : (ranks : List Rank) (rest : List Suspect) → length rest ≡ 0 → may_be_stopped ranks rest ≡ false
stopped_end [] rest e = refl
stopped_end (r ∷ ranks) [] e = refl
stopped_end (r ∷ ranks) (s ∷ rest) e = absurd (omega (arith, e))
