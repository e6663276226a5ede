-- What a copied file leaves is sound: a source, an output and its record.
use Rattle.std.proofs.Common.{◌≡◌, true, false, [], ◌∷◌, Some, None, refl, inl, ◌&&◌, bytes_eq}
use Rattle.std.specs.Prelude.{codes, ◌==◌, if◌then◌else◌}
use Rattle.smk_world.specs.World.{Nodes}
use Rattle.smk_store.specs.Trust.{Versions, none_eased}
use Rattle.smk_store.specs.Soundness.{Sound}
use Rattle.smk_flow.proofs.Examples.{commands}
use Rattle.smk_chain.proofs.Folders.{file}
use Rattle.smk_plan.proofs.Plans.{after_copy, copy_records}
use Rattle.smk_laws_history.proofs.Finite.{sound_by}

-- the source with the bytes that it has
abbrev pub one_version : Versions
one_version p t = if bytes_eq p (codes "in.txt") && t == 1000 then Some (codes "hello\n") else None

abbrev copied_nodes : Nodes
copied_nodes = file (codes "in.txt") 1000 (codes "hello\n") ∷ file (codes "out.txt") 1001 (codes "hello\n") ∷ []

pub copied_sound : Sound commands one_version (after_copy 1000) none_eased
copied_sound =
    sound_by commands one_version copied_nodes copy_records
    ((λ is. refl), ((λ is. absurd (never is)), tt))
    (record { stamps = (refl, tt); value = inl (_, refl, refl); alone = ((λ over. refl), tt) }, tt)
  where
    never : false ≡ true → ⊥
    never h = cc
