-- What a run is to do with each job, the serials of the jobs, and which jobs are due.
use Rattle.std.specs.Prelude.{◌+◌, ℕ, suc, Bool, true, false, List, [], ◌∷◌, filter, length, take, nat_lt, if◌then◌else◌, Option, Some, None, slice_get}
use Rattle.std.specs.Option.{option_and_then}
use Rattle.smk_flow.specs.declared.job.Job.{Job}
use Rattle.smk_chain.specs.declared.jobs.Maker.{Maker}
use Rattle.smk_plan.specs.declared.duty.Duty.{Duty}
use Rattle.smk_plan.specs.declared.duty.Duty.TheVariants.{Rest, Restore, Run}
use Rattle.smk_plan.specs.Duties.{maker_in}
use Rattle.smk_run.specs.Stamps.{Serials}

-- ## Serials

-- it draws a serial
abbrev pub draws : Duty → Bool
draws (Rest made) = false
draws (Restore made) = false
draws Run = true

-- how many jobs draw a serial before the one of this number
abbrev pub drawn_before : List Duty → ℕ → ℕ
drawn_before duties number = length (filter draws (take number duties))

-- the serial that is drawn after so many others, where it has 64 bits
abbrev pub serial_at : Option ℕ → ℕ → Option ℕ
serial_at None count = None
serial_at (Some first) count = if nat_lt (first + count) 18446744073709551616 then Some (first + count) else None

-- the serial that it keeps, or else the next one
abbrev pub serial_by : Option ℕ → Duty → Option ℕ
serial_by next (Rest made) = Some made
serial_by next (Restore made) = Some made
serial_by next Run = next

-- The serial of the job of this number: the one that it keeps, or the one that it draws. The first job that draws draws this first one, and each later
-- one a serial that is greater by one.
abbrev pub serial_of : Option ℕ → List Duty → ℕ → Option ℕ
serial_of first duties number = option_and_then (serial_by (serial_at first (drawn_before duties number))) (slice_get duties number)

-- the serials of the products that the jobs make
abbrev pub serials : List Maker → Option ℕ → List Duty → Serials
serials makers first duties p = option_and_then (serial_of first duties) (maker_in makers p)

-- ## Jobs that are due

-- a job that has its turn in a run, and its serial, where there is one
pub record Due : Type 0 where
  pub job : Job
  pub serial : Option ℕ

-- it comes before these, unless its job rests
abbrev pub unless_rest : Duty → Due → List Due → List Due
unless_rest (Rest made) due later = later
unless_rest (Restore made) due later = due ∷ later
unless_rest Run due later = due ∷ later

-- those of these jobs that don't rest, where they are numbered from this on
abbrev pub due_from : (ℕ → Option ℕ) → ℕ → List Duty → List Job → List Due
due_from serial number [] jobs = []
due_from serial number (duty ∷ duties) [] = []
due_from serial number (duty ∷ duties) (job ∷ jobs) =
    unless_rest duty (record { job = job; serial = serial number }) (due_from serial (suc number) duties jobs)

-- The jobs that don't rest, in order.
abbrev pub due : Option ℕ → List Duty → List Job → List Due
due first duties jobs = due_from (serial_of first duties) 0 duties jobs

-- ## Steps

-- so many jobs draw a serial, with one that has this duty
abbrev pub drawn_with : ℕ → Duty → ℕ
drawn_with drawn (Rest made) = drawn
drawn_with drawn (Restore made) = drawn
drawn_with drawn Run = drawn + 1

-- the serials of these jobs, before which so many others draw one
abbrev pub serials_from : Option ℕ → ℕ → List Duty → List (Option ℕ)
serials_from first drawn [] = []
serials_from first drawn (duty ∷ duties) = serial_by (serial_at first drawn) duty ∷ serials_from first (drawn_with drawn duty) duties

-- the serial of the job of this number, where these are those of all jobs
abbrev pub serial_in : List (Option ℕ) → ℕ → Option ℕ
serial_in serials number = option_and_then (λ (serial : Option ℕ). serial) (slice_get serials number)

-- the serial of a job that has this duty, unless it rests
abbrev pub due_serial : Option ℕ → Duty → Option (Option ℕ)
due_serial serial (Rest made) = None
due_serial serial (Restore made) = Some serial
due_serial serial Run = Some serial
