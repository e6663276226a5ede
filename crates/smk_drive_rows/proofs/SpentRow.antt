-- A spent output that stands at the entry: taken away by a run that starts nothing, and never before the first start of one that does.
use Rattle.std.proofs.Common.{◌≡◌, ◌⊎◌, ℕ, Bool, true, false, List, [], ◌∷◌, ◌++◌, codes, Ok, refl, sym, ap, subst, inl, inr, true≢false, arith}
use Rattle.std.specs.Fmt.{digits}
use Rattle.smk_base.specs.Path.{is_under}
use Rattle.smk_base.specs.Place.{record_place}
use Rattle.smk_base.proofs.Under.{at_or_under_cases, rest_under}
use Rattle.smk_world.specs.declared.event.Node.TheVariants.{Regular}
use Rattle.smk_world.specs.declared.event.Besides.TheVariants.{Anything, OneOf}
use Rattle.smk_world.specs.declared.event.NodeState.{NodeState}
use Rattle.smk_world.specs.declared.event.NodeState.TheVariants.{Owned, Known}
use Rattle.smk_world.specs.declared.event.Event.{Event}
use Rattle.smk_world.specs.declared.event.Call.TheVariants.{Removed, Settled}
use Rattle.smk_world.specs.World.{World, Nodes, IsFormed, world_of, run, firmly, reading}
use Rattle.smk_world.specs.Trees.{Path}
use Rattle.smk_flow.specs.Flows.{Flow}
use Rattle.smk_drive.specs.Moments.{Rules}
use Rattle.smk_flow.proofs.Examples.{temporary_with, copying, flow_of, cat}
use Rattle.smk_chain.proofs.Folders.{jobs_in, fresh}
use Rattle.smk_plan.proofs.Plans.{with_targets, u_and_v, temporary_records}
use Rattle.smk_drive.proofs.Turns.{reader, event}
use Rattle.smk_drive_course.specs.Keeping.{KeepsOutputs, IsSettled as IsSettledAt, has_start}
use Rattle.smk_drive_course.specs.RunReports.{IsRunText}
use Rattle.smk_drive_rows.proofs.Logs.{IsSettled, first_moment, first_is}
use Rattle.smk_drive_rows.proofs.Checker.{IsChecked}
use Rattle.smk_drive_rows.proofs.Keeping.{Keeps}
use Rattle.smk_drive_rows.proofs.Telling.{lines_of, is_report}
use Rattle.smk_drive_rows.proofs.Events.{formed_of, rules_by, doing, of_job, IsGood, good}
use Rattle.smk_drive_rows.proofs.CopyRow.{out}

abbrev pub t : Path
t = codes "t"

abbrev pub removal : Event
removal = event (Removed t (Ok tt)) []

-- all is made, and the temporary file still stands
abbrev pub nodes : Nodes
nodes =
    (record_place t, Regular t 2 false)
    ∷ (record_place (codes "u"), Regular (codes "u") 3 false)
    ∷ (record_place (codes "v"), Regular (codes "v") 4 false)
    ∷ (codes "in.txt", Regular (codes "hello\n") 1 false)
    ∷ (codes "s", Regular (codes "q") 1 false)
    ∷ (t, Regular (codes "q") 2 false)
    ∷ (codes "u", Regular (codes "q") 3 false)
    ∷ (codes "v", Regular (codes "q") 4 false)
    ∷ []

abbrev pub entry : World
entry = world_of nodes

formed : IsFormed entry
formed = formed_of nodes refl

abbrev pub taking : List Event
taking = removal ∷ event (Settled (t ∷ []) (Ok tt)) [] ∷ []

-- ## A run that starts nothing

abbrev pub rules : Rules
rules = rules_by (temporary_with cat) u_and_v (reader temporary_records)

settled : IsSettled rules entry taking
settled = record { start = refl; rests = (refl, (refl, tt)) }

is_checked : IsChecked rules entry taking 0
is_checked = record { settled = settled; events = refl; end = refl; starts = tt; writes = tt; waited = inl refl }

gone_for_good : IsSettledAt (run entry taking) t
gone_for_good q h = go (at_or_under_cases q t h)
  where
    go : (q ≡ t) ⊎ (is_under q t ≡ true) → (run entry taking).nodes q ≡ firmly (reading ((run entry taking).nodes q))
    go (inl e) = subst (λ x. (run entry taking).nodes x ≡ firmly (reading ((run entry taking).nodes x))) (sym e) refl
    go (inr u) = let r = rest_under q t u in subst (λ x. (run entry taking).nodes x ≡ firmly (reading ((run entry taking).nodes x))) (sym r.1) refl

kept : Keeps rules entry taking
kept = record { late = refl; settled = ((λ spent. gone_for_good), tt); protected = refl }

pub is_good : IsGood rules entry taking 0
unfolding digits
is_good = good rules entry taking 0 formed is_checked refl kept

pub its_report : IsRunText rules entry taking (lines_of (codes "current u" ∷ codes "current v" ∷ codes "summary: 0 started, 0 done, 0 failed" ∷ []))
unfolding digits
its_report = is_report rules entry formed taking settled _ refl

-- ## A wrong run: another job is to be started, and the spent output goes first

abbrev flow : Flow
flow = flow_of ((temporary_with cat).rules ++ copying cat ∷ [])

abbrev targets : List Path
targets = codes "u" ∷ codes "v" ∷ out ∷ []

abbrev more_rules : Rules
more_rules = rules_by flow (with_targets targets) (reader temporary_records)

abbrev too_early : List Event
too_early = taking ++ of_job (jobs_in flow (fresh ((codes "in.txt", Regular (codes "hello\n") 1 false) ∷ [])) [] (out ∷ [])) 0 (doing 1 out (codes "hello\n"))

pub takes_before_start : (status : ℕ) → KeepsOutputs more_rules entry too_early status → ⊥
takes_before_start status k = go (k.late [] removal _ (first_moment more_rules entry) refl (first_is more_rules entry formed refl) refl)
  where
    go : (false ≡ true) ⊎ (has_start too_early ≡ false) → ⊥
    go (inl h) = true≢false (sym h)
    go (inr h) = true≢false h

-- the removal isn't settled, and the run ends with status 0
abbrev is_firm : NodeState → Bool
is_firm Owned = false
is_firm (Known now Anything) = false
is_firm (Known now (OneOf [])) = true
is_firm (Known now (OneOf (n ∷ ns))) = false

pub takes_unsettled : KeepsOutputs rules entry (removal ∷ []) 0 → ⊥
takes_unsettled k =
    let settled = k.settled (omega arith) [] removal [] (first_moment rules entry) refl (first_is rules entry formed refl) refl t refl in
    true≢false (sym (ap is_firm settled))
