-- Paths whose jobs were run hold their clean values.
use Rattle.std.specs.Prelude.{◌≡◌, ◌⊎◌, ℕ, zero, suc, true, false, List, [], Some}
use Rattle.std.specs.List.{flat_map}
use Rattle.smk_base.specs.Path.{own_folder, is_at_or_under}
use Rattle.smk_base.specs.declared.tree.Tree.TheVariants.{File}
use Rattle.smk_world.specs.declared.event.Event.{Event}
use Rattle.smk_world.specs.declared.recipe.Kind.TheVariants.{Plain}
use Rattle.smk_world.specs.declared.recipe.Out.{Out}
use Rattle.smk_world.specs.World.{World, run, is_within, in_paths, out_paths}
use Rattle.smk_world.specs.Calls.{HasOwners, HoldsBytes}
use Rattle.smk_world.specs.Runs.{Follows}
use Rattle.smk_world.specs.Trees.{Path, Each, IsIn, outs_of}
use Rattle.smk_flow.specs.Flows.{Candidate, gathered_folders}
use Rattle.smk_choose.specs.Choose.{choose, Make}
use Rattle.smk_chain.specs.Derive.{job, recipe}
use Rattle.smk_chain.specs.Mean.{Setting, is_runnable, mean}
use Rattle.smk_run.specs.Stamps.{Serials}
use Rattle.smk_run.specs.Turns.{Turn, AreTurns, is_done}
use Rattle.smk_safe.specs.Leaving.{owned}
use Rattle.smk_safe.specs.Running.{AreArranged}

-- The path is an output of the job that is chosen for it, which can be run, gathers nothing, makes plain files, and had its turn; and so on with
-- its inputs.
pub record IsMadeBy (S : Setting) (ts : List Turn) (Rest : Path → Type 0) (p : Path) : Type 0 where
  pub by : Candidate
  pub chosen : choose S.flow S.sources p ≡ Make by
  pub gathers_none : gathered_folders S.flow by ≡ []
  pub runnable : is_runnable S by [] ≡ true
  pub output : IsIn (out_paths (recipe S.flow [] by)) p
  pub plain : Each (λ (out : Out). out.kind ≡ Plain) (outs_of (recipe S.flow [] by))
  pub turn : Turn
  pub among : IsIn ts turn
  pub of_job : turn.job ≡ job S.flow [] by
  pub inputs : Each Rest (in_paths (recipe S.flow [] by))

-- A chain of at most n jobs that had their turns leads from sources to the path.
abbrev pub IsChained : Setting → List Turn → ℕ → Path → Type 0
IsChained S ts zero p = S.sources.is p ≡ true
IsChained S ts (suc n) p = (S.sources.is p ≡ true) ⊎ IsMadeBy S ts (IsChained S ts n) p

-- Each source is a file with its bytes, outside of the engine's folder and of what these jobs make and log.
pub record IsSourceIn (S : Setting) (ts : List Turn) (w : World) (p : Path) : Type 0 where
  pub held : List ℕ
  pub bytes : S.bytes p ≡ Some held
  pub holds : HoldsBytes held (w.nodes p)
  pub outside : is_at_or_under p own_folder ≡ false
  pub apart : is_within p (flat_map owned ts) ≡ false

-- the path is a file, and that is its clean value by a chain of at most n jobs
pub record IsCleanIn (S : Setting) (n : ℕ) (v : World) (p : Path) : Type 0 where
  pub held : List ℕ
  pub holds : HoldsBytes held (v.nodes p)
  pub clean : mean S n p ≡ Some (File held)

abbrev pub DoneRunIsClean : Type 0
DoneRunIsClean =
    (S : Setting) (made : Serials) (ts : List Turn) (w : World) (es : List Event) →
    w.children ≡ [] →
    HasOwners w →
    AreArranged ts →
    ((p : Path) → S.sources.is p ≡ true → IsSourceIn S ts w p) →
    Follows S.act w es →
    AreTurns made ts w es →
    Each (λ (t : Turn). is_done t.course ≡ true) ts → (n : ℕ) (p : Path) → IsChained S ts n p → IsCleanIn S n (run w es) p
