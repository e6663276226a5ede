-- A run of two steps, whose intermediate file is then taken away, computed.
use Rattle.std.specs.Prelude.{◌≡◌, ℕ, false, List, [], ◌∷◌, ◌++◌, codes, refl}
use Rattle.std.specs.List.{flat_map}
use Rattle.std.specs.Fmt.{digits}
use Rattle.smk_base.specs.Place.{record_place}
use Rattle.smk_world.specs.declared.event.Node.TheVariants.{Regular}
use Rattle.smk_world.specs.World.{World, Nodes, world_of}
use Rattle.smk_flow.specs.Flows.{Flow}
use Rattle.smk_record.specs.declared.record.Stamp.TheVariants.{Time, Made}
use Rattle.smk_record.specs.declared.record.Record.{Record}
use Rattle.smk_pick.specs.declared.settings.Settings.{Settings}
use Rattle.smk_drive.specs.Moments.{Rules}
use Rattle.smk_drive.specs.Reports.{listing_text}
use Rattle.smk_flow.proofs.Examples.{cat, rule, input, output, flow_of}
use Rattle.smk_chain.proofs.Folders.{file, fresh, image_with, recorded, jobs_in}
use Rattle.smk_plan.proofs.Plans.{with_targets, plan_with}
use Rattle.smk_drive.proofs.Turns.{rules_with, whole_run}

abbrev lines : List (List ℕ) → List ℕ
lines texts = flat_map (λ t. t ++ 10 ∷ []) texts

abbrev twice : Flow
twice =
    flow_of
    (rule false (codes "ab") (input (codes "a") ∷ []) (output [] (codes "b")) cat
    ∷ rule false (codes "bc") (input (codes "b") ∷ []) (output [] (codes "c")) cat
    ∷ [])

abbrev only_c : Settings
only_c = with_targets (codes "c" ∷ [])

abbrev twice_entry : Nodes
twice_entry = (codes "a", Regular (codes "q") 1 false) ∷ []

abbrev twice_records : List Record
twice_records = recorded (jobs_in twice (fresh twice_entry) [] only_c.targets) ((1, Time 1 ∷ [], []) ∷ (2, Made 1 ∷ [], []) ∷ [])

abbrev twice_rules : Rules
twice_rules = rules_with twice only_c twice_records

pub twice_run : whole_run twice_rules (world_of twice_entry) 4 ≡ lines
    (codes "start ab b"
    ∷ codes "done ab b"
    ∷ codes "start bc c"
    ∷ codes "done bc c"
    ∷ codes "current c"
    ∷ codes "summary: 2 started, 2 done, 0 failed"
    ∷ [])
unfolding digits
twice_run = refl

pub intermediate_gone : listing_text twice (plan_with twice (image_with (file (codes "a") 1 (codes "q") ∷ file (codes "c") 9 (codes "q") ∷ []) twice_records []) only_c []) ≡ lines
    (codes "restore ab b" ∷ codes "plan: 0 to run, 1 to restore, 0 open, 1 clean" ∷ [])
unfolding digits
intermediate_gone = refl

-- both have run, and these files stand
abbrev twice_nodes : Nodes → Nodes
twice_nodes files = (record_place (codes "b"), Regular (codes "b") 9 false) ∷ (record_place (codes "c"), Regular (codes "c") 9 false) ∷ files

abbrev without_b : World
without_b = world_of (twice_nodes (file (codes "a") 1 (codes "q") ∷ file (codes "c") 9 (codes "q") ∷ []))

abbrev with_b : World
with_b = world_of (twice_nodes (file (codes "a") 1 (codes "q") ∷ file (codes "b") 9 (codes "q") ∷ file (codes "c") 9 (codes "q") ∷ []))

-- it is made again, and its user isn't
pub restoring_run : whole_run twice_rules without_b 2 ≡ lines
    (codes "start ab b" ∷ codes "done ab b" ∷ codes "current c" ∷ codes "summary: 1 started, 1 done, 0 failed" ∷ [])
unfolding digits
restoring_run = refl

pub nothing_to_do : whole_run twice_rules with_b 1 ≡ lines (codes "current c" ∷ codes "summary: 0 started, 0 done, 0 failed" ∷ [])
unfolding digits
nothing_to_do = refl
