-- Why a call in a history keeps directories listed: soundness alone doesn't bear the removal of a member too many.
use Rattle.std.proofs.Common.{◌≡◌, Bool, true, false, List, [], ◌∷◌, Option, Some, None, refl, sym, ap, ◌∙◌, inr, true≢false, ◌&&◌, bytes_eq}
use Rattle.std.specs.Prelude.{codes, ◌==◌, if◌then◌else◌}
use Rattle.smk_base.specs.declared.tree.Tree.{Tree}
use Rattle.smk_base.specs.declared.tree.Tree.TheVariants.{File, Folder}
use Rattle.smk_world.specs.World.{Nodes}
use Rattle.smk_world.specs.Trees.{file_in}
use Rattle.smk_record.specs.declared.record.Record.{Record}
use Rattle.smk_store.specs.Trust.{Versions, none_eased}
use Rattle.smk_store.specs.Soundness.{Sound}
use Rattle.smk_flow.proofs.Examples.{commands}
use Rattle.smk_chain.proofs.Folders.{file, folder, image_with}
use Rattle.smk_plan.proofs.Plans.{cluster_records}
use Rattle.smk_laws_history.proofs.Finite.{sound_by}
use Rattle.smk_laws_history.proofs.Refused.{no_products, one_time}

abbrev only_first : List Record → List Record
only_first [] = []
only_first (r ∷ rs) = r ∷ []

-- the record of the directory, which lists three files
abbrev of_directory : List Record
of_directory = only_first cluster_records

abbrev lines_at : Versions
lines_at p t = if bytes_eq p (codes "samples/a.txt") && (t == 1) then Some (codes "x\ny\nz\n") else None

-- a listed file has other bytes
abbrev without_more : Nodes
without_more =
    folder (codes "clustering/a")
    ∷ file (codes "clustering/a/1.txt") 2 (codes "w\n")
    ∷ file (codes "clustering/a/2.txt") 2 (codes "y\n")
    ∷ file (codes "clustering/a/3.txt") 2 (codes "z\n")
    ∷ file (codes "samples/a.txt") 1 (codes "x\ny\nz\n")
    ∷ []

-- and there is a file more than the record lists
abbrev with_more : Nodes
with_more = file (codes "clustering/a/4.txt") 2 (codes "w\n") ∷ without_more

-- so the directory isn't whole, and soundness says nothing of it
pub more_is_sound : Sound commands lines_at (image_with with_more of_directory []) none_eased
more_is_sound =
    sound_by commands lines_at with_more of_directory
    ((λ is. absurd (never is)), (tt, ((λ is. absurd (never is)), ((λ is. absurd (never is)), ((λ is. absurd (never is)), ((λ is. refl), tt))))))
    (record { stamps = (refl, tt); value = inr refl; alone = ((λ over. refl), tt) }, tt)
  where
    never : false ≡ true → ⊥
    never h = cc

abbrev is_w : Option Tree → Bool
is_w None = false
is_w (Some (Folder entries)) = false
is_w (Some (File bytes)) = bytes_eq bytes (codes "w\n")

-- the bytes of the first member
abbrev has_w : Option Tree → Bool
has_w None = false
has_w (Some tree) = is_w (file_in tree (codes "1.txt"))

-- once that file is taken away, the directory is whole by its names
pub taken_away_refused : Sound commands lines_at (image_with without_more of_directory []) none_eased → ⊥
taken_away_refused sound =
    let image = image_with without_more of_directory [] in
    let h = sound.holds (codes "clustering/a") _ refl refl (no_products image _ (one_time (codes "samples/a.txt") 1)) refl in
    true≢false (ap has_w (h.1 ∙ sym h.2))
