-- Whether jobs have reasons of their own, as that is learned and forgotten.
use Rattle.std.specs.Prelude.{◌≡◌, ℕ, Bool, false, List, [], ◌∷◌, slice_index_or, slice_set, Option, Some, None}
use Rattle.std.specs.List.{slice_get}
use Rattle.smk_flow.specs.declared.job.Job.{Job}
use Rattle.smk_trigger.specs.Reasons.{reasons_of}
use Rattle.smk_pick.specs.declared.settings.Settings.{Settings}
use Rattle.smk_plan_states.specs.declared.rows.Own.{Own}
use Rattle.smk_plan_states.specs.declared.rows.Own.TheVariants.{Unknown}
use Rattle.smk_plan_states.specs.Rows.{FitOwn, own_of}
use Rattle.smk_plan_live.specs.declared.base.Base.{Base}
use Rattle.smk_plan_live.specs.Kept.{facts_by, forced_now, own_now}
use Rattle.smk_plan_live.specs.Lives.{IsSound}

-- whether the job has reasons of its own by what is known and seen now, where it is forced or not
abbrev pub own_flag : Base → Bool → Job → Own
own_flag b forced j = own_of (reasons_of (facts_by b forced j))

-- the flags once that is learned of the job of the number, if there is one
abbrev pub noted : Base → Bool → List Own → ℕ → Option Job → List Own
noted b forced flags n None = flags
noted b forced flags n (Some j) = slice_set flags n (own_flag b forced j)

abbrev pub learned : Base → List Bool → List Own → ℕ → List Own
learned b forced flags n = noted b (slice_index_or forced n false) flags n (slice_get b.jobs.jobs n)

-- the flags once nothing is known any more of these jobs
abbrev pub forgotten : List Own → List ℕ → List Own
forgotten flags [] = flags
forgotten flags (n ∷ numbers) = forgotten (slice_set flags n Unknown) numbers

-- flags that fitted the reasons of the jobs, where these are forced, fit them still
abbrev pub FitStill : Base → List Bool → List Own → List Own → Type 0
FitStill b forced old new =
    (settings : Settings) → IsSound b → forced ≡ forced_now settings b → FitOwn old (own_now settings b) → FitOwn new (own_now settings b)
