-- What a run is to do with jobs, by their states and the serials of their records.
use Rattle.std.specs.Prelude.{ℕ, Bool, true, false, ◌&&◌, List, [], ◌∷◌, ◌++◌, nat_le, nat_lt, if◌then◌else◌, Option, Some, None, option_map, slice_get}
use Rattle.std.specs.List.{list_all}
use Rattle.std.specs.Option.{option_and_then}
use Rattle.smk_world.specs.World.{in_paths, out_paths}
use Rattle.smk_world.specs.Trees.{Path, first}
use Rattle.smk_record.specs.declared.record.Record.{Record}
use Rattle.smk_flow.specs.declared.job.Job.{Job}
use Rattle.smk_store.specs.declared.store.Entry.{Entry}
use Rattle.smk_store.specs.Images.{readable}
use Rattle.smk_store.specs.Stores.{Known, entry_of}
use Rattle.smk_chain.specs.declared.jobs.Maker.{Maker}
use Rattle.smk_trigger.specs.declared.reason.State.{State}
use Rattle.smk_trigger.specs.declared.reason.State.TheVariants.{Open, Dirty, Restore, Clean}
use Rattle.smk_plan.specs.declared.duty.Duty.{Duty}
use Rattle.smk_plan.specs.declared.duty.Duty.TheVariants.{Rest, Restore as Again, Run}
use Rattle.smk_plan.specs.Duties.{maker_in}

-- ## Serials

-- the serial of the record at a path
abbrev pub made_in : Option Entry → Option ℕ
made_in e = option_map (λ (r : Record). r.made) (option_and_then (λ (x : Entry). readable x.kept) e)

-- the serial of the record of a job's first output
abbrev pub made_of : List Known → Job → Option ℕ
made_of store j = option_and_then (λ p. made_in (entry_of store p)) (first (out_paths j.recipe))

-- it is below the first serial that is drawn, where there is one
abbrev pub is_old : Option ℕ → ℕ → Bool
is_old None made = true
is_old (Some next) made = nat_lt made next

-- the serial is known, isn't drawn, and is below this one
abbrev pub is_kept_below : ℕ → Option Duty → Bool
is_kept_below made None = false
is_kept_below made (Some (Rest kept)) = nat_lt kept made
is_kept_below made (Some (Again kept)) = nat_lt kept made
is_kept_below made (Some Run) = false

-- so is that of the job of this number, where these are the duties of the first jobs; a source has none
abbrev pub is_job_below : List Duty → ℕ → Option ℕ → Bool
is_job_below duties made None = true
is_job_below duties made (Some number) = is_kept_below made (slice_get duties number)

abbrev pub is_input_below : List Maker → List Duty → ℕ → Path → Bool
is_input_below makers duties made p = is_job_below duties made (maker_in makers p)

-- whether a job can be run again with a serial, after jobs with some duties
abbrev pub Able : Type 0
Able = List Duty → Job → ℕ → Bool

-- the serial is an old one, and above those of what the job reads
abbrev pub is_able : Option ℕ → List Maker → Able
is_able next makers duties j made = nat_le 1 made && (is_old next made && list_all (is_input_below makers duties made) (in_paths j.recipe))

-- ## Duties

-- a job that rests with this serial, where that is an old one
abbrev pub resting : Option ℕ → Option ℕ → Duty
resting next None = Rest 0
resting next (Some made) = if is_old next made then Rest made else Rest 0

-- a job that is run again, with this serial where it can be
abbrev pub restoring : Able → List Duty → Job → Option ℕ → Duty
restoring able duties j None = Run
restoring able duties j (Some made) = if able duties j made then Again made else Run

-- what is to be done with a job in this state, before which those with these duties come
abbrev pub duty_by : Option ℕ → Able → List Known → List Duty → Job → State → Duty
duty_by next able store duties j Open = resting next (made_of store j)
duty_by next able store duties j (Dirty reasons) = Run
duty_by next able store duties j Restore = restoring able duties j (made_of store j)
duty_by next able store duties j Clean = resting next (made_of store j)

-- these duties, and then those of these jobs in these states
abbrev pub duties_in : Option ℕ → Able → List Known → List Duty → List Job → List State → List Duty
duties_in next able store duties [] states = duties
duties_in next able store duties (j ∷ js) [] = duties
duties_in next able store duties (j ∷ js) (s ∷ states) =
    duties_in next able store (duties ++ duty_by next able store duties j s ∷ []) js states
