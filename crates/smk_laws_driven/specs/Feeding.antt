-- Turns one after another, of good jobs that are fed by what stands before and by each other.
use Rattle.std.specs.Prelude.{◌≡◌, true, false, List, [], ◌∷◌, ◌++◌, None, Err}
use Rattle.std.specs.List.{list_any}
use Rattle.smk_base.specs.Path.{own_folder, is_at_or_under, overlaps}
use Rattle.smk_world.specs.declared.event.Event.{Event}
use Rattle.smk_world.specs.declared.recipe.Kind.TheVariants.{Plain}
use Rattle.smk_world.specs.declared.recipe.Out.{Out}
use Rattle.smk_world.specs.World.{World, run, in_paths, out_paths}
use Rattle.smk_world.specs.Calls.{HasOwners}
use Rattle.smk_world.specs.Runs.{Follows}
use Rattle.smk_world.specs.Trees.{Path, Act, Each, IsIn, outs_of}
use Rattle.smk_flow.specs.Flows.{Candidate}
use Rattle.smk_choose.specs.Choose.{choose, Make}
use Rattle.smk_chain.specs.Derive.{Listings, job}
use Rattle.smk_chain.specs.Mean.{Setting}
use Rattle.smk_job.specs.Sights.{reads_file}
use Rattle.smk_run.specs.Stamps.{Serials}
use Rattle.smk_run.specs.Statuses.{AreGiven}
use Rattle.smk_run.specs.declared.stop.Stop.TheVariants.{Gone}
use Rattle.smk_run.specs.Turns.{Turn, Unbegun, AreTurns, IsTurn, is_closed, is_done}
use Rattle.smk_safe.specs.Leaving.{owned, MayCome}
use Rattle.smk_safe.specs.Running.{AreArranged}
use Rattle.smk_safe.specs.Clean.{IsCleanIn}
use Rattle.smk_laws_complete.specs.Derived.{IsGoodJob}

-- the path is outside of the engine's folder, and overlaps nothing that these turns' jobs make or log
pub record IsLeftAlone (ts : List Turn) (p : Path) : Type 0 where
  pub outside : is_at_or_under p own_folder ≡ false
  pub clear : Each (λ (t : Turn). list_any (overlaps p) (owned t) ≡ false) ts

-- the turn is of a good job that makes plain files
pub record IsGoodTurn (S : Setting) (t : Turn) : Type 0 where
  pub lists : Listings
  pub by : Candidate
  pub of_job : t.job ≡ job S.flow lists by
  pub good : IsGoodJob S lists by
  pub plain : Each (λ (out : Out). out.kind ≡ Plain) (outs_of t.job.recipe)

-- Each turn is of a good job, and each of its inputs is one of these paths, or an output of an earlier turn whose job is chosen for it.
abbrev pub AreFed : Setting → List Path → List Turn → Type 0
AreFed S held [] = Unit {0}
AreFed S held (t ∷ ts) =
    (good : IsGoodTurn S t) × Each (IsIn held) (in_paths t.job.recipe)
    × ((made : List Path)
    × Each (λ p. IsIn (out_paths t.job.recipe) p × (choose S.flow S.sources p ≡ Make good.by)) made
    × AreFed S (held ++ made) ts)

-- Turns that are all closed, and are fed by paths which hold their clean values and which they leave alone, are all done, where each wait tells its
-- command's status.
abbrev pub FedTurnsSucceed : Type 0
FedTurnsSucceed =
    (S : Setting) (made : Serials) (held : List Path) (ts : List Turn) (w : World) (es : List Event) →
    w.children ≡ [] →
    HasOwners w →
    Each (IsCleanIn S 200 w) held →
    Each (IsLeftAlone ts) held →
    AreArranged ts →
    AreFed S held ts →
    Follows S.act w es →
    AreGiven S.act ⊥ w es →
    AreTurns made ts w es → Each (λ (t : Turn). is_closed t.course ≡ true) ts → Each (λ (t : Turn). is_done t.course ≡ true) ts

-- And while the turns before it were closed, all that the next turn reads holds its clean value as it comes.
abbrev pub NextTurnIsFed : Type 0
NextTurnIsFed =
    (S : Setting) (made : Serials) (held : List Path) (before : List Turn) (t : Turn) (w : World) (es : List Event) →
    w.children ≡ [] →
    HasOwners w →
    Each (IsCleanIn S 200 w) held →
    Each (IsLeftAlone (before ++ t ∷ [])) held →
    AreArranged (before ++ t ∷ []) →
    AreFed S held (before ++ t ∷ []) →
    Follows S.act w es →
    AreGiven S.act ⊥ w es →
    AreTurns made before w es →
    Each (λ (u : Turn). is_closed u.course ≡ true) before →
    Each (λ (u : Turn). is_done u.course ≡ true) before × MayCome t (run w es) × Each (IsCleanIn S 200 (run w es)) (in_paths t.job.recipe)

-- No source that stands as a file is found gone by the looks at a turn's inputs.
abbrev pub InputsAreFound : Type 0
InputsAreFound =
    (act : Act) (made : Serials) (t : Turn) (w : World) (es : List Event) (p : Path) →
    w.children ≡ [] →
    Each (λ q. made q ≡ None → reads_file (w.nodes q) ≡ true) (in_paths t.job.recipe) →
    Follows act w es → IsTurn made t w es → t.course ≡ Unbegun → t.looked ≡ Err (Gone p) → ⊥
