-- What the law of current targets needs: small folders in which one premise is missing, and a target isn't clean.
use Rattle.std.specs.Prelude.{◌≡◌, true, false, [], ◌∷◌, map, codes, Some, refl}
use Rattle.smk_base.specs.declared.tree.Tree.TheVariants.{File}
use Rattle.smk_record.specs.declared.record.Stamp.TheVariants.{Time, Made}
use Rattle.smk_flow.specs.Flows.{Flow}
use Rattle.smk_store.specs.Images.{Image, tree_now}
use Rattle.smk_chain.specs.Derive.{Listings}
use Rattle.smk_chain.specs.Mean.{Setting, setting_of, clean_value}
use Rattle.smk_plan.specs.States.{nothing_done, is_current}
use Rattle.smk_flow.proofs.Examples.{copy, clusters, commands}
use Rattle.smk_chain.proofs.Folders.{file, folder, image_with, recorded, jobs_in}
use Rattle.smk_plan.proofs.Plans.{plan_with, out_txt, copy_records, aggregated, one_sample, a_member, cluster_records}

abbrev at_rest : Flow → Image → Setting
at_rest flow image = setting_of flow commands (λ j. true) image

-- ## Soundness

-- other bytes stand under the record
abbrev changed : Image
changed = image_with (file (codes "in.txt") 1000 (codes "hello\n") ∷ file (codes "out.txt") 1001 (codes "bye\n") ∷ []) copy_records []

pub unsound :
    (is_current changed out_txt nothing_done (plan_with copy changed out_txt []) (codes "out.txt") ≡ true)
    × (tree_now changed (codes "out.txt") ≡ Some (File (codes "bye\n")))
    × (clean_value (at_rest copy changed) (codes "out.txt") ≡ Some (File (codes "hello\n")))
unsound = (refl, refl, refl)

-- ## Stamps that agree

-- the source is edited: the recorded stamp doesn't agree, and the target isn't current
abbrev edited : Image
edited = image_with (file (codes "in.txt") 2000 (codes "new\n") ∷ file (codes "out.txt") 1001 (codes "hello\n") ∷ []) copy_records []

pub outdated :
    (is_current edited out_txt nothing_done (plan_with copy edited out_txt []) (codes "out.txt") ≡ false)
    × (tree_now edited (codes "out.txt") ≡ Some (File (codes "hello\n")))
    × (clean_value (at_rest copy edited) (codes "out.txt") ≡ Some (File (codes "new\n")))
outdated = (refl, refl, refl)

-- ## Open jobs

-- the checkpoint's source is edited: the target's job is Open, and what stands there is old
abbrev resampled : Image
resampled =
    image_with
    (file (codes "aggregated/a.txt") 9 (codes "x\ny\nz\n")
    ∷ folder (codes "clustering/a")
    ∷ file (codes "clustering/a/1.txt") 2 (codes "x\n")
    ∷ file (codes "clustering/a/2.txt") 2 (codes "y\n")
    ∷ file (codes "clustering/a/3.txt") 2 (codes "z\n")
    ∷ file (codes "post/a/1.txt") 3 (codes "x\n")
    ∷ file (codes "post/a/2.txt") 4 (codes "y\n")
    ∷ file (codes "post/a/3.txt") 5 (codes "z\n")
    ∷ file (codes "samples/a.txt") 10 (codes "p\n")
    ∷ [])
    cluster_records []

pub not_known :
    (is_current resampled aggregated nothing_done (plan_with clusters resampled aggregated []) (codes "aggregated/a.txt") ≡ false)
    × (tree_now resampled (codes "aggregated/a.txt") ≡ Some (File (codes "x\ny\nz\n")))
    × (clean_value (at_rest clusters resampled) (codes "aggregated/a.txt") ≡ Some (File (codes "p\n")))
not_known = (refl, refl, refl)

-- ## Listings that are those of the records

-- a listing that lacks two members, and records by it
abbrev one_known : Listings
one_known = record { folder = codes "clustering/a"; files = codes "1.txt" ∷ [] } ∷ []

abbrev one_gathered : Image
one_gathered =
    image_with
    (file (codes "aggregated/a.txt") 9 (codes "x\n")
    ∷ folder (codes "clustering/a")
    ∷ file (codes "clustering/a/1.txt") 2 (codes "x\n")
    ∷ file (codes "clustering/a/2.txt") 2 (codes "y\n")
    ∷ file (codes "clustering/a/3.txt") 2 (codes "z\n")
    ∷ file (codes "post/a/1.txt") 3 (codes "x\n")
    ∷ file (codes "samples/a.txt") 1 (codes "x\ny\nz\n")
    ∷ [])
    (recorded (jobs_in clusters one_sample one_known (codes "aggregated/a.txt" ∷ []))
    ((1, Time 1 ∷ [], map a_member (codes "1.txt" ∷ codes "2.txt" ∷ codes "3.txt" ∷ [])) ∷ (2, Made 1 ∷ [], []) ∷ (3, Made 2 ∷ [], []) ∷ [])) []

pub wrongly_listed :
    (is_current one_gathered aggregated nothing_done (plan_with clusters one_gathered aggregated one_known) (codes "aggregated/a.txt") ≡ true)
    × (tree_now one_gathered (codes "aggregated/a.txt") ≡ Some (File (codes "x\n")))
    × (clean_value (at_rest clusters one_gathered) (codes "aggregated/a.txt") ≡ Some (File (codes "x\ny\nz\n")))
wrongly_listed = (refl, refl, refl)
