-- What steps of the search have come to.
use Rattle.std.specs.Prelude.{◌≡◌, ℕ, ◌<◌, List, ◌∷◌, length, false, Option}
use Rattle.smk_pattern.specs.declared.table.Vain.{Vain}
use Rattle.smk_pattern.specs.declared.search.Outcome.{Outcome}
use Rattle.smk_pattern.specs.declared.search.Outcome.TheVariants.{Ended, On, Again}
use Rattle.smk_pattern.specs.declared.search.Stop.{Stop}
use Rattle.smk_pattern.specs.declared.search.Stop.TheVariants.{Ended as Stopped, Again as Anew}
use Rattle.smk_pattern.specs.Shapes.{Text, Part}
use Rattle.smk_pattern.specs.Pieces.{parts_of}
use Rattle.smk_pattern.specs.Searching.{Ends, Leads, IsPlace, FitsNowhere}
use Rattle.smk_pattern.specs.Tables.{KeepsAll, Serves}

-- A step over a part ends the search, or leads to a place behind it.
abbrev pub Stepped : Outcome → Part → List Part → List (Option Text) → List ℕ → List Text → Text → List Text → Type 0
Stepped (Ended found) p ps limits behind known rest now = Ends found (p ∷ ps) limits known rest now
Stepped (On after) p ps limits behind known rest now =
    Leads (p ∷ ps) ps limits known now rest after.now × IsPlace ps limits behind now after.now
Stepped (Again after) p ps limits behind known rest now =
    Leads (p ∷ ps) ps limits known now rest after.now × IsPlace ps limits behind now after.now

-- nothing fits behind the step
abbrev pub IsStopped : Outcome → List Part → List (Option Text) → List Text → Type 0
IsStopped (Ended found) ps limits now = found ≡ false
IsStopped (On after) ps limits now = FitsNowhere ps limits now after.now
IsStopped (Again after) ps limits now = FitsNowhere ps limits now after.now

-- the table serves behind the step, and what is kept sound there is so before it
abbrev pub Carries : Outcome → Part → List Part → List (Option Text) → List Text → Text → List Text → Vain → Type 0
Carries (Ended found) p ps limits known rest now vain = Unit {0}
Carries (On after) p ps limits known rest now vain =
    Serves now ps limits after.now vain
    × ((a b : Vain) → KeepsAll now ps limits after.now a b → KeepsAll known (p ∷ ps) limits rest a b)
Carries (Again after) p ps limits known rest now vain = Unit {0}

-- Several steps end the search, or lead to a place.
abbrev pub Walked : Stop → List Part → List (Option Text) → List ℕ → List Text → Text → List Text → Type 0
Walked (Stopped found) ps limits behind known rest now = Ends found ps limits known rest now
Walked (Anew later after) ps limits behind known rest now =
    Leads ps (parts_of later.now) limits known now rest after.now × IsPlace (parts_of later.now) limits behind now after.now
    × (length later.now < length ps)

-- nothing fits behind them
abbrev pub IsBlocked : Stop → List (Option Text) → List Text → Type 0
IsBlocked (Stopped found) limits now = found ≡ false
IsBlocked (Anew later after) limits now = FitsNowhere (parts_of later.now) limits now after.now
