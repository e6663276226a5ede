-- Computed: times that were seen before, and what `--generate` tells.
use Rattle.std.proofs.Common.{◌≡◌, ℕ, false, List, [], ◌∷◌, ◌++◌, codes, refl}
use Rattle.std.specs.Fmt.{digits}
use Rattle.smk_flow.specs.Flows.{Flow}
use Rattle.smk_record.specs.declared.record.Stamp.TheVariants.{Time}
use Rattle.smk_store.specs.Images.{Image}
use Rattle.smk_cli_target.specs.Generating.{generated_lines}
use Rattle.smk_cli_target.specs.Refusing.{seen_in_turn, forgettable}
use Rattle.smk_flow.proofs.Examples.{cp, rule, input, output, flow_of}
use Rattle.smk_chain.proofs.Folders.{file, fresh, image_with, recorded, jobs_in}

-- ## Times

abbrev other : Flow
other = flow_of (rule false (codes "other") (input (codes "out.txt") ∷ []) (output [] (codes "other.txt")) cp ∷ [])

-- `other.txt` was made of the source `out.txt` with the time 77, which has that time again
abbrev back : Image
back =
    image_with (file (codes "other.txt") 77 (codes "q") ∷ file (codes "out.txt") 77 (codes "q") ∷ [])
    (recorded (jobs_in other (fresh (file (codes "out.txt") 77 (codes "q") ∷ [])) [] (codes "other.txt" ∷ [])) ((1, Time 77 ∷ [], []) ∷ [])) []

pub refused : seen_in_turn back (codes "out.txt" ∷ []) ≡ codes "out.txt" ∷ []
refused = refl

pub none_forgotten : forgettable back (codes "out.txt" ∷ codes "other.txt" ∷ []) ≡ []
none_forgotten = refl

-- once the record that holds the time is forgotten, nothing is in the way
pub in_turn : seen_in_turn back (codes "other.txt" ∷ codes "out.txt" ∷ []) ≡ []
in_turn = refl

pub both_forgotten : forgettable back (codes "other.txt" ∷ codes "out.txt" ∷ []) ≡ codes "other.txt" ∷ codes "out.txt" ∷ []
both_forgotten = refl

-- ## Generated files

abbrev told : List ℕ → List ℕ
told text = text ++ 10 ∷ []

pub seven_three :
    generated_lines 7 3
    ≡ told (codes "generated 3 samples")
    ++ (told (codes "first run: 4 started")
    ++ (told (codes "second run: 0 started") ++ (told (codes "after an edit: 2 started") ++ told (codes "total: 15 bytes"))))
unfolding digits
seven_three = refl
