-- Which inputs have stamps with which the recorded ones don't agree, by what is recorded of each path.
use Rattle.std.specs.Prelude.{Bool, false, ◌&&◌, not, List, [], ◌∷◌, ◌++◌, bytes_eq, if◌then◌else◌, Option, Some, None}
use Rattle.std.specs.List.{list_any}
use Rattle.smk_world.specs.Trees.{Path}
use Rattle.smk_record.specs.declared.record.Stamp.{Stamp}
use Rattle.smk_record.specs.Records.{agree}
use Rattle.smk_trigger.specs.declared.reason.Reason.{Reason}
use Rattle.smk_trigger.specs.declared.reason.Reason.TheVariants.{Updated}
use Rattle.smk_trigger.specs.declared.updates.Recorded.{Recorded}
use Rattle.smk_trigger.specs.declared.updates.Recorded.TheVariants.{One, Several}

-- one more stamp is recorded
abbrev pub joined : Option Recorded → Stamp → Recorded
joined None s = One s
joined (Some (One t)) s = Several (t ∷ s ∷ [])
joined (Some (Several ss)) s = Several (ss ++ s ∷ [])

-- some recorded stamp doesn't agree with this one
abbrev pub differs : Option Recorded → Stamp → Bool
differs None now = false
differs (Some (One s)) now = not (agree s now)
differs (Some (Several ss)) now = list_any (λ s. not (agree s now)) ss

-- the same of the stamp now, where there is one
abbrev pub disagrees : Option Recorded → Option Stamp → Bool
disagrees o None = false
disagrees o (Some now) = differs o now

-- a recorded stamp is of the path, and doesn't agree with this one
abbrev pub is_other : Path → Stamp → Path × Stamp → Bool
is_other q now e = bytes_eq e.0 q && not (agree e.1 now)

abbrev pub update_of : Option Recorded → Path → Option Stamp → List Reason
update_of recorded q now = if disagrees recorded now then Updated q ∷ [] else []

-- the inputs that are updated, by what is recorded of each path; only the first of a path counts
abbrev pub updates_in : (Path → Option Recorded) → List (Path × Option Stamp) → List Reason
updates_in f [] = []
updates_in f (e ∷ es) =
    update_of (f e.0) e.0 e.1 ++ updates_in (λ p. if bytes_eq e.0 p then None else f p) es
