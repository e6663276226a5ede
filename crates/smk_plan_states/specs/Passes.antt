-- What the passes over a plan find of a job, by the states of the jobs before it.
use Rattle.std.specs.Prelude.{ℕ, Bool, ◌&&◌, ◌||◌, not, List, Option, is_some}
use Rattle.std.specs.List.{list_any, slice_get}
use Rattle.std.specs.Option.{option_and_then}
use Rattle.smk_world.specs.Trees.{Path, among}
use Rattle.smk_trigger.specs.declared.reason.State.{State}
use Rattle.smk_trigger.specs.JobStates.{is_open, is_dirty, is_clean}
use Rattle.smk_plan.specs.States.{test_some}
use Rattle.smk_plan_states.specs.Shapes.{Directory, Parts, Site}

-- the state of the job with this number
abbrev pub state_at : List State → Option ℕ → Option State
state_at states number = option_and_then (slice_get states) number

-- it is a member of a directory that isn't whole, or whose job isn't Clean
abbrev pub over_opens : List State → Site → Bool
over_opens states s = test_some (λ (d : Directory). not (test_some is_clean (state_at states s.job) && d.whole)) s.over

-- what reads it is Open
abbrev pub reading_opens : List State → Site → Bool
reading_opens states s = test_some is_open (state_at states s.job) || over_opens states s

-- what gathers from it is Open; its files are known or not
abbrev pub gathering_opens : List State → Bool → Site → Bool
gathering_opens states listed s =
    over_opens states s
    || (is_some (state_at states s.job) && (not (test_some is_clean (state_at states s.job) && s.whole) || not listed))

abbrev pub opens : List State → (Path → Option Site) → (Path → Bool) → Parts → Bool
opens states sites listed m =
    list_any (λ q. test_some (reading_opens states) (sites q)) m.inputs
    || list_any (λ q. test_some (gathering_opens states (listed q)) (sites q)) m.gathers

-- its job is Dirty
abbrev pub is_dirty_told : List State → (Path → Option Site) → Path → Bool
is_dirty_told states sites q = test_some (λ (s : Site). test_some is_dirty (state_at states s.job)) (sites q)

-- Some output that isn't whole is wanted back, whatever jobs run: one of those that always are, or one that a job reads where it isn't temporary.
abbrev pub is_kept_told : (Path → Bool) → (Path → Bool) → (Path → Bool) → Parts → Bool
is_kept_told targets awaited read m =
    list_any
    (λ p. targets p || (awaited p || (not (among m.temps p && not (list_any awaited m.outputs)) && read p)))
    m.gone
