-- The copy once more: nothing is started; and runs that start a Clean job, or call a job Clean whose command has changed.
use Rattle.std.proofs.Common.{◌≡◌, ℕ, false, List, [], ◌∷◌, codes, take, None, Some, refl, inl, arith}
use Rattle.std.specs.Fmt.{digits}
use Rattle.smk_base.specs.Place.{record_place}
use Rattle.smk_world.specs.declared.event.Node.TheVariants.{Regular}
use Rattle.smk_world.specs.declared.event.Event.{Event}
use Rattle.smk_world.specs.World.{World, Nodes, IsFormed, world_of}
use Rattle.smk_drive.specs.Moments.{Rules}
use Rattle.smk_flow.proofs.Examples.{copy, copy_with, cp}
use Rattle.smk_plan.proofs.Plans.{out_txt, copy_records}
use Rattle.smk_drive.proofs.Turns.{reader}
use Rattle.smk_drive_course.specs.Lawful.{Lawful}
use Rattle.smk_drive_course.specs.RunReports.{IsRunText}
use Rattle.smk_drive_rows.proofs.Truth.{not_empty}
use Rattle.smk_drive_rows.proofs.Logs.{IsSettled, first_moment, first_is, last, last_is}
use Rattle.smk_drive_rows.proofs.Checker.{IsChecked}
use Rattle.smk_drive_rows.proofs.Keeping.{Keeps}
use Rattle.smk_drive_rows.proofs.Telling.{lines_of, is_report}
use Rattle.smk_drive_rows.proofs.Events.{formed_of, rules_by, marking, doing, of_job, IsGood, good}
use Rattle.smk_drive_rows.proofs.CopyRow.{in_txt, out, the_jobs}

abbrev pub nodes : Nodes
nodes =
    (record_place out, Regular out 1001 false)
    ∷ (in_txt, Regular (codes "hello\n") 1000 false)
    ∷ (out, Regular (codes "hello\n") 1001 false)
    ∷ []

abbrev pub entry : World
entry = world_of nodes

formed : IsFormed entry
formed = formed_of nodes refl

abbrev pub rules : Rules
rules = rules_by copy out_txt (reader copy_records)

settled : IsSettled rules entry []
settled = record { start = refl; rests = tt }

is_checked : IsChecked rules entry [] 0
is_checked = record { settled = settled; events = refl; end = refl; starts = tt; writes = tt; waited = inl refl }

kept : Keeps rules entry []
kept = record { late = refl; settled = tt; protected = refl }

pub is_good : IsGood rules entry [] 0
is_good = good rules entry [] 0 formed is_checked refl kept

pub its_report : IsRunText rules entry [] (lines_of (codes "current out.txt" ∷ codes "summary: 0 started, 0 done, 0 failed" ∷ []))
unfolding digits
its_report = is_report rules entry formed [] settled _ refl

-- ## Wrong runs

none_first : {A : Type 0} (k : A) → None ≡ Some k → ⊥
none_first k h = cc

abbrev front : List Event
front = take 1 (marking out)

front_settled : IsSettled rules entry front
front_settled = record { start = refl; rests = (refl, tt) }

-- the job is Clean, and made again all the same
abbrev again : List Event
again = of_job the_jobs 0 (doing 1 out (codes "hello\n"))

pub makes_again : (status : ℕ) → Lawful rules entry again status → ⊥
makes_again status l = none_first _ (((l.each front _ _ (last rules entry front) refl (last_is rules entry formed front front_settled)).begins.0 refl).first)

-- its command has changed, and nothing is made
abbrev changed : Rules
changed = rules_by (copy_with cp) out_txt (reader copy_records)

pub passes_over_command : Lawful changed entry [] 0 → ⊥
passes_over_command l = not_empty _ _ (l.nothing_left_at_the_end (omega arith) (first_moment changed entry) (first_is changed entry formed refl) refl)
