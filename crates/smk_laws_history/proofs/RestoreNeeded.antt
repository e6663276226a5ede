-- What a running Restore must not hide: were the mark of its output counted, its users would be without a reason.
use Rattle.std.specs.Prelude.{◌≡◌, false, not, List, [], ◌∷◌, map, filter, codes, bytes_eq, refl}
use Rattle.smk_world.specs.World.{in_paths}
use Rattle.smk_world.specs.Trees.{Path}
use Rattle.smk_record.specs.declared.record.Stamp.TheVariants.{Time, Made}
use Rattle.smk_record.specs.declared.record.Record.{Record}
use Rattle.smk_record.specs.Records.{agrees}
use Rattle.smk_flow.specs.Flows.{Flow}
use Rattle.smk_store.specs.Images.{Image, core_at}
use Rattle.smk_store.specs.Trust.{made_stamp, stamp_now}
use Rattle.smk_trigger.specs.declared.reason.Reason.TheVariants.{New, Marked, Updated, Upstream}
use Rattle.smk_trigger.specs.declared.reason.State.TheVariants.{Dirty, Restore}
use Rattle.smk_trigger.specs.Reasons.{own_reasons}
use Rattle.smk_pick.specs.declared.settings.Settings.{Settings}
use Rattle.smk_plan.specs.States.{Plan, Progress, nothing_done, is_ready}
use Rattle.smk_flow.proofs.Examples.{flow_of, rule, input, output, cat}
use Rattle.smk_chain.proofs.Folders.{file, fresh, image_with, recorded, jobs_in}
use Rattle.smk_plan.proofs.Plans.{with_targets, settle, from_jobs}

-- r from a, u from r, v from u
abbrev chain : Flow
chain =
    flow_of
    (rule false (codes "r") (input (codes "a") ∷ []) (output [] (codes "r")) cat
    ∷ rule false (codes "u") (input (codes "r") ∷ []) (output [] (codes "u")) cat
    ∷ rule false (codes "v") (input (codes "u") ∷ []) (output [] (codes "v")) cat
    ∷ [])

abbrev v_alone : Settings
v_alone = with_targets (codes "v" ∷ [])

abbrev before : Image
before = fresh (file (codes "a") 1 (codes "x\n") ∷ [])

-- r was made anew since u was made
abbrev records : List Record
records = recorded (jobs_in chain before [] (codes "v" ∷ [])) ((4, Time 1 ∷ [], []) ∷ (2, Made 1 ∷ [], []) ∷ (3, Made 2 ∷ [], []) ∷ [])

-- r and v are gone
abbrev left : List Path → Image
left marks = image_with (file (codes "a") 1 (codes "x\n") ∷ file (codes "u") 2 (codes "old\n") ∷ []) records marks

abbrev planned : Image → Progress → Plan
planned image progress = settle image v_alone progress 4 (from_jobs [] (jobs_in chain image [] (codes "v" ∷ [])))

-- while nothing runs, u is out of date
pub out_of_date :
    (planned (left []) nothing_done).states
    ≡ Restore ∷ Dirty (Updated (codes "r") ∷ []) ∷ Dirty (Upstream (codes "u") ∷ []) ∷ []
out_of_date = refl

-- r is being made again
abbrev restoring : Progress
restoring = record { begun = codes "r" ∷ []; running = (codes "r", Restore) ∷ [] }

-- were its mark counted, u would have no reason of its own
pub hidden :
    map
    (λ (r : Record). own_reasons r.recipe
    (map (left (codes "r" ∷ [])).kept (r.path ∷ []))
    (map (left (codes "r" ∷ [])).marked (r.path ∷ []))
    (map (λ q. (q, stamp_now (left (codes "r" ∷ [])) q)) (in_paths r.recipe)))
    records
    ≡ (Marked ∷ []) ∷ [] ∷ [] ∷ []
hidden = refl

-- the mark of r isn't counted, so u stays out of date: its record doesn't agree with the one of r
pub still_out_of_date :
    ((planned (left (codes "r" ∷ [])) restoring).states
    ≡ Restore ∷ Dirty (Updated (codes "r") ∷ []) ∷ Dirty (Upstream (codes "u") ∷ []) ∷ [])
    × (is_ready (left (codes "r" ∷ [])) v_alone restoring (planned (left (codes "r" ∷ [])) restoring) (codes "u") ≡ false)
    × (agrees (Made 1) (made_stamp (core_at (left (codes "r" ∷ [])) (codes "r"))) ≡ false)
still_out_of_date = (refl, refl, refl)

-- u is being made again, and r has failed meanwhile: nothing below counts as Clean
abbrev failed_above : Image
failed_above =
    image_with (file (codes "a") 1 (codes "x\n") ∷ [])
    (filter (λ (r : Record). not (bytes_eq r.path (codes "r")))
    (recorded (jobs_in chain before [] (codes "v" ∷ [])) ((4, Time 1 ∷ [], []) ∷ (2, Made 4 ∷ [], []) ∷ (3, Made 2 ∷ [], []) ∷ [])))
    (codes "u" ∷ [])

pub passed_on :
    (planned failed_above (record { begun = codes "r" ∷ codes "u" ∷ []; running = (codes "u", Restore) ∷ [] })).states
    ≡ Dirty (New ∷ []) ∷ Dirty (Upstream (codes "r") ∷ []) ∷ Dirty (Upstream (codes "u") ∷ []) ∷ []
passed_on = refl
