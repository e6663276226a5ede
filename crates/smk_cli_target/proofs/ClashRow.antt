-- A clash that hides behind another refusal: the target has a clean value, and a derivation of the chain meets a missing member before it is seen
-- that two of its jobs make one path.
use Rattle.std.proofs.Common.{◌≡◌, Bool, true, false, List, [], ◌∷◌, codes, is_some, refl}
use Rattle.std.specs.List.{flat_map}
use Rattle.smk_world.specs.Trees.{Path}
use Rattle.smk_flow.specs.Flows.{Flow}
use Rattle.smk_flow.specs.declared.rule.Flag.TheVariants.{Folder}
use Rattle.smk_record.specs.declared.record.Stamp.TheVariants.{Time}
use Rattle.smk_store.specs.Images.{Image}
use Rattle.smk_chain.specs.Derive.{Listings, MissingMember, Refusal, Refused, clashes, derivation, jobs, sources_of, spots}
use Rattle.smk_chain.specs.Mean.{mean, setting_of}
use Rattle.smk_report.specs.declared.fault.Fault.TheVariants as fault
use Rattle.smk_flow.proofs.Examples.{cat, commands, flow_of, gathering, input, output, rule, split}
use Rattle.smk_chain.proofs.Folders.{file, folder, fresh, image_with, jobs_in, recorded}
use Rattle.smk_cli_target.specs.Refusing.{IsNamed}

-- A and the checkpoint B make the directory `f`, and A is preferred; W wants a member of it, which belongs to a checkpoint
abbrev hiding : Flow
hiding =
    record (flow_of
    (rule false (codes "A") (input (codes "s1") ∷ []) (output (Folder ∷ []) (codes "f")) split
    ∷ rule true (codes "B") (input (codes "s2") ∷ []) (output (Folder ∷ []) (codes "f")) split
    ∷ rule false (codes "W") (input (codes "f/2.txt") ∷ []) (output [] (codes "w/{i}")) cat
    ∷ rule false (codes "G") (gathering (codes "B") (codes "{i}.txt") (codes "w/{i}") ∷ []) (output [] (codes "g.txt")) cat
    ∷ [])) {
      orders = record { names = codes "A" ∷ codes "B" ∷ []; file = codes "Snakefile"; line = 1 } ∷ [];
    }

abbrev targets : List Path
targets = codes "g.txt" ∷ []

abbrev sources_alone : Image
sources_alone = fresh (file (codes "s1") 1 (codes "x\n") ∷ file (codes "s2") 1 (codes "x\ny\n") ∷ [])

-- what a clean run makes of it
pub has_value : is_some (mean (setting_of hiding commands (λ j. true) sources_alone) 10 (codes "g.txt")) ≡ true
has_value = refl

-- A has run
abbrev one_line : Image
one_line =
    image_with (file (codes "s1") 1 (codes "x\n") ∷ file (codes "s2") 1 (codes "x\ny\n") ∷ folder (codes "f") ∷ file (codes "f/1.txt") 2 (codes "x\n") ∷ [])
    (recorded (jobs_in hiding sources_alone [] (codes "f" ∷ [])) ((1, Time 1 ∷ [], record { folder = false; name = codes "1.txt" } ∷ []) ∷ [])) []

abbrev known : Listings
known = record { folder = codes "f"; files = codes "1.txt" ∷ [] } ∷ []

pub misses_member : derivation hiding one_line known targets ≡ Refused (MissingMember (codes "f/2.txt"))
misses_member = refl

abbrev is_empty : List Refusal → Bool
is_empty [] = true
is_empty (r ∷ rs) = false

pub own_jobs_clash : is_empty (clashes one_line [] (flat_map spots (jobs hiding (sources_of one_line) known targets))) ≡ false
own_jobs_clash = refl

-- and that fault isn't named
pub unnamed : IsNamed (fault.MissingMember (codes "f/2.txt")) → ⊥
unnamed h = h
