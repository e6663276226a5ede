-- A plan that begins with earlier listings and one that begins with none may differ where a listed directory isn't ready any more.
use Rattle.std.specs.Prelude.{◌≡◌, true, false, not, List, [], ◌∷◌, filter, bytes_eq, codes, refl}
use Rattle.smk_world.specs.Trees.{Path}
use Rattle.smk_record.specs.declared.record.Stamp.TheVariants.{Time, Made}
use Rattle.smk_record.specs.declared.record.Record.{Record}
use Rattle.smk_flow.specs.declared.rule.RulePart.{RulePart}
use Rattle.smk_flow.specs.declared.rule.Flag.TheVariants.{Folder}
use Rattle.smk_flow.specs.Flows.{Flow}
use Rattle.smk_store.specs.Images.{Image}
use Rattle.smk_chain.specs.Derive.{Listings}
use Rattle.smk_trigger.specs.declared.reason.Reason.TheVariants.{New, Upstream}
use Rattle.smk_trigger.specs.declared.reason.State.TheVariants.{Open, Dirty, Restore, Clean}
use Rattle.smk_pick.specs.declared.settings.Settings.{Settings}
use Rattle.smk_plan.specs.States.{Progress, is_current}
use Rattle.smk_flow.proofs.Examples.{flow_of, rule, input, output, gathering, cat, tee, split}
use Rattle.smk_chain.proofs.Folders.{file, folder, fresh, image_with, recorded, jobs_in}
use Rattle.smk_plan.proofs.Plans.{with_targets, settle, from_jobs}

-- a checkpoint's directory d, made of t; a rule with two outputs, of which one is gathered by d; and g, which gathers it
abbrev both : RulePart
both =
    record (rule false (codes "both") (input (codes "x{i}") ∷ []) (output [] (codes "raw{i}")) tee) {
      outputs = record { name = []; outs = record { text = codes "raw{i}"; flags = [] } ∷ record { text = codes "q{i}"; flags = [] } ∷ [] } ∷ [];
    }

abbrev gathered : Flow
gathered =
    flow_of
    (rule false (codes "t") (input (codes "s") ∷ []) (output [] (codes "t")) cat
    ∷ rule true (codes "c") (input (codes "t") ∷ []) (output (Folder ∷ []) (codes "d")) split
    ∷ both
    ∷ rule false (codes "g") (gathering (codes "c") (codes "{i}.txt") (codes "raw{i}") ∷ []) (output [] (codes "g")) cat
    ∷ [])

abbrev two : List Path
two = codes "g" ∷ codes "q1" ∷ []

abbrev sources : Image
sources = fresh (file (codes "s") 1 (codes "x\n") ∷ file (codes "x1") 1 (codes "y\n") ∷ [])

abbrev one_known : Listings
one_known = record { folder = codes "d"; files = codes "1.txt" ∷ [] } ∷ []

abbrev made : List Record
made =
    recorded (jobs_in gathered sources one_known two)
    ((1, Time 1 ∷ [], []) ∷ (2, Made 1 ∷ [], record { folder = false; name = codes "1.txt" } ∷ []) ∷ (3, Time 1 ∷ [], []) ∷ (4, Made 3 ∷ [], []) ∷ [])

-- t and raw1 were taken away; the job of t, begun as a Restore, has failed, and the run has ended
abbrev at_exit : Image
at_exit =
    image_with
    (folder (codes "d")
    ∷ file (codes "d/1.txt") 2 (codes "x\n")
    ∷ file (codes "g") 4 (codes "y\n")
    ∷ file (codes "q1") 3 (codes "y\n")
    ∷ file (codes "s") 1 (codes "x\n")
    ∷ file (codes "x1") 1 (codes "y\n")
    ∷ [])
    (filter (λ (r : Record). not (bytes_eq r.path (codes "t"))) made) []

abbrev done : Progress
done = record { begun = codes "t" ∷ []; running = [] }

abbrev settings : Settings
settings = with_targets two

-- with the earlier listing raw1 is an input, which is wanted back: q1 isn't current
pub in_force :
    ((settle at_exit settings done 4 (from_jobs one_known (jobs_in gathered at_exit one_known two))).states
    ≡ Dirty (New ∷ []) ∷ Dirty (Upstream (codes "t") ∷ []) ∷ Restore ∷ Open ∷ [])
    × (is_current at_exit settings done (settle at_exit settings done 4 (from_jobs one_known (jobs_in gathered at_exit one_known two))) (codes "q1") ≡ false)
in_force = (refl, refl)

-- with none nobody reads raw1: it is
pub from_none :
    ((settle at_exit settings done 4 (from_jobs [] (jobs_in gathered at_exit [] two))).states
    ≡ Dirty (New ∷ []) ∷ Dirty (Upstream (codes "t") ∷ []) ∷ Open ∷ Clean ∷ [])
    × (is_current at_exit settings done (settle at_exit settings done 4 (from_jobs [] (jobs_in gathered at_exit [] two))) (codes "q1") ≡ true)
from_none = (refl, refl)
