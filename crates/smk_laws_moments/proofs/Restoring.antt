-- A job that has not begun is told as running by nothing; so, where it is to be restored, it has no reasons, and no mark of its outputs is left out.
use Rattle.std.proofs.Common.{◌≡◌, inl, inr, Bool, true, false, ◌&&◌, cond, List, [], ◌∷◌, map, filter, find, refl, ap, sym, ◌∙◌, Some, None, true≢false}
use Rattle.std.specs.Prelude.{bytes_eq, if◌then◌else◌, is_some, not, option_map}
use Rattle.std.proofs.lemmas.Bool.{cases_Bool}
use Rattle.smk_base.proofs.Places.{same_flipped}
use Rattle.smk_world.specs.World.{World, in_paths, out_paths}
use Rattle.smk_world.specs.Trees.{Path, Act, IsIn, among, folder_over}
use Rattle.smk_flow.specs.declared.job.Job.{Job}
use Rattle.smk_flow.specs.Flows.{Flow}
use Rattle.smk_store.specs.Images.{Image}
use Rattle.smk_store.specs.Trust.{is_marked_but, stamp_now_but}
use Rattle.smk_trigger.specs.declared.reason.Reason.{Reason}
use Rattle.smk_trigger.specs.declared.reason.State.{State}
use Rattle.smk_trigger.specs.declared.reason.State.TheVariants.{Open}
use Rattle.smk_trigger.specs.JobStates.{is_restore}
use Rattle.smk_trigger.specs.Reasons.{own_reasons}
use Rattle.smk_pick.specs.declared.settings.Settings.{Settings}
use Rattle.smk_plan.specs.States.{Plan, Progress, by_reasons, by_table, is_open_now, is_read_now, is_restored, is_to_restore, job_path, kept_state, makes, reasons, state_of, test_some, while_running}
use Rattle.smk_laws_protocol.proofs.Basics.{in_filter, none_by}
use Rattle.smk_laws_plan.proofs.CurrentLists.{append_nil_left, map_in, or_first}
use Rattle.smk_laws_plan.proofs.CurrentPaths.{in_among}
use Rattle.smk_laws_plan.proofs.CurrentProducts.{Planned}
use Rattle.smk_laws_plan.proofs.PlanOne.{pair_first}
use Rattle.smk_drive.specs.Moments.{Begun, progress_of, runs}
use Rattle.smk_laws_moments.proofs.Inputs.{maker_is, state_in}
use Rattle.smk_laws_moments.proofs.Others.{has_begun, named_apart}

find_none : {A : Type 0} (f : A → Bool) (xs : List A) → ((x : A) → IsIn xs x → f x ≡ false) → find f xs ≡ None
find_none f [] h = refl
find_none f (x ∷ xs) h = ap (λ b. cond b (Some x) (find f xs)) (h x (inl refl)) ∙ find_none f xs (λ y i. h y (inr i))

pub unkept :
    (image : Image) (settings : Settings) (plan : Plan) (w : World) (begun : List Begun) (j : Job) → among (progress_of w begun).begun (job_path j) ≡ false →
    kept_state image settings (progress_of w begun) plan j ≡ None
unkept image settings plan w begun j never =
    ap (option_map (λ (e : Path × State). e.1)) (find_none (λ (e : Path × State). bytes_eq e.0 (job_path j)) (progress_of w begun).running (λ e i.
    let b = map_in (λ (x : Begun). (job_path x.job, x.state)) (filter (λ (x : Begun). runs w x.job) begun) e i in
    let once = has_begun image settings plan w begun b.0 (in_filter (λ (x : Begun). runs w x.job) begun b.0 b.1).0 in
    ap (λ (x : Path × State). bytes_eq x.0 (job_path j)) b.2
    ∙ same_flipped (job_path b.0.job) (job_path j)
    ∙ named_apart (progress_of w begun).begun (job_path j) (job_path b.0.job) never once))

table_restores : (b : Bool) (rs : List Reason) (x : Bool) → is_restore (if b then Open else by_reasons rs x) ≡ true → rs ≡ []
table_restores true rs x h = absurd (true≢false (sym h))
table_restores false [] x h = refl
table_restores false (r ∷ rs) x h = absurd (true≢false (sym h))

module _
    (flow : Flow) (act : Act) (image : Image) (settings : Settings) (progress : Progress) (plan : Plan)
    (rest : Planned flow image settings progress plan) where
  -- its reasons of its own
  abbrev pub own_of : Job → List Reason
  own_of j =
      own_reasons j.recipe (map image.kept (out_paths j.recipe)) (map (is_marked_but image (is_restored image settings progress plan)) (out_paths j.recipe))
      (map (λ q. (q, stamp_now_but image (is_restored image settings progress plan) q)) (in_paths j.recipe))

  pub restored_calm : (j : Job) → kept_state image settings progress plan j ≡ None → is_restore (state_of image settings progress plan j) ≡ true → own_of j ≡ []
  restored_calm j none h =
      append_nil_left (own_of j) _
      (table_restores (is_open_now image settings progress plan j) (reasons image settings progress plan j)
      (is_to_restore image settings progress plan j && not (is_read_now image settings progress plan j))
      (sym (ap (λ o. is_restore (while_running o (by_table image settings progress plan j))) none) ∙ h))

  -- the marks of its outputs count
  pub left_none :
      (j : Job) (p : Path) → IsIn plan.jobs j → kept_state image settings progress plan j ≡ None → IsIn (out_paths j.recipe) p →
      is_restored image settings progress plan p ≡ false
  left_none j p ij none ip =
      none_by (λ k. test_some is_restore (kept_state image settings progress plan k) && among (out_paths k.recipe) p) plan.jobs (λ k ik.
      elim (cases_Bool (among (out_paths k.recipe) p)) [
        | inl there ↦ ap (λ o. test_some is_restore o && among (out_paths k.recipe) p) (ap (kept_state image settings progress plan) (same k ik there) ∙ none)
        | inr never ↦ second (test_some is_restore (kept_state image settings progress plan k)) (among (out_paths k.recipe) p) never
      ])
    where
      second : (a b : Bool) → b ≡ false → (a && b) ≡ false
      second true b h = h
      second false b h = refl

      own_makes : (k : Job) → among (out_paths k.recipe) p ≡ true → makes k p ≡ true
      own_makes k h = or_first (among (out_paths k.recipe) p) (is_some (folder_over k.recipe p)) h

      same : (k : Job) → IsIn plan.jobs k → among (out_paths k.recipe) p ≡ true → k ≡ j
      same k ik there =
          pair_first (k, state_in flow act image settings progress plan rest k) (j, state_in flow act image settings progress plan rest j)
          (sym (maker_is flow act image settings progress plan rest k p ik (own_makes k there))
          ∙ maker_is flow act image settings progress plan rest j p ij (own_makes j (in_among (out_paths j.recipe) p ip)))
