-- What stands in the engine's own folder is known, where no child owns a place in it.
use Rattle.std.proofs.Common.{◌≡◌, true, List, [], ◌∷◌, ◌++◌, map, refl}
use Rattle.smk_base.specs.Path.{is_at_or_under, own_folder}
use Rattle.smk_base.specs.Place.{mark_place, note_place}
use Rattle.smk_world.specs.declared.event.NodeState.{NodeState}
use Rattle.smk_world.specs.declared.event.NodeState.TheVariants.{Owned, Known}
use Rattle.smk_world.specs.World.{World}
use Rattle.smk_world.specs.Trees.{Path, Each}
use Rattle.smk_job.proofs.Launching.{each_append}
use Rattle.smk_job.proofs.Single.{IsKnown}
use Rattle.smk_laws_job.specs.Laws.{HasOwnFolder}

known_else : (s : NodeState) → (s ≡ Owned → ⊥) → IsKnown s
known_else Owned never = absurd (never refl)
known_else (Known now besides) never = tt

pub known_own : (w : World) (q : Path) → HasOwnFolder w → is_at_or_under q own_folder ≡ true → IsKnown (w.nodes q)
known_own w q none at = known_else (w.nodes q) (none q at)

known_marks : (w : World) → HasOwnFolder w → (ps : List Path) → Each (λ p. IsKnown (w.nodes p)) (map mark_place ps)
known_marks w none [] = tt
known_marks w none (p ∷ ps) = (known_own w (mark_place p) none refl, known_marks w none ps)

known_notes : (w : World) → HasOwnFolder w → (ps : List Path) → Each (λ p. IsKnown (w.nodes p)) (map note_place ps)
known_notes w none [] = tt
known_notes w none (p ∷ ps) = (known_own w (note_place p) none refl, known_notes w none ps)

pub known_marking : (w : World) (outs logs : List Path) → HasOwnFolder w → Each (λ p. IsKnown (w.nodes p)) (map mark_place outs ++ map note_place logs)
known_marking w outs logs none = each_append (λ p. IsKnown (w.nodes p)) (map mark_place outs) (map note_place logs) (known_marks w none outs)
    (known_notes w none logs)
