-- How images differ, by what stands in places of two worlds.
use Rattle.std.specs.Prelude.{◌≡◌, ℕ, true, false, List, Option, is_some}
use Rattle.smk_base.specs.Path.{is_at_or_under}
use Rattle.smk_base.specs.Place.{mark_place, note_place, record_place}
use Rattle.smk_world.specs.declared.event.Event.{Event}
use Rattle.smk_world.specs.declared.recipe.Out.{Out}
use Rattle.smk_world.specs.Devices.{AreLooks}
use Rattle.smk_world.specs.Runs.{Follows}
use Rattle.smk_world.specs.Trees.{Act, Each, IsIn, Path, among, outs_of}
use Rattle.smk_world.specs.World.{IsFormed, World, in_paths, reading, run}
use Rattle.smk_flow.specs.declared.job.Job.{Job}
use Rattle.smk_record.specs.declared.record.Record.{Record}
use Rattle.smk_store.specs.Images.{is_covered, seen}
use Rattle.smk_chain.specs.declared.jobs.Jobs.{Jobs}
use Rattle.smk_pick.specs.declared.settings.Settings.{Settings}
use Rattle.smk_plan_facts.specs.Facts.{told_sources}
use Rattle.smk_plan_live.specs.declared.base.Base.{Base}
use Rattle.smk_plan_live.specs.Lives.{IsAgreed}
use Rattle.smk_laws_turns.specs.Changing.{DiffersAt, IsAside, LooksSame, NeedsNoMore, OnlyMakes}

-- the same stands at the path and under it
abbrev pub IsSameUnder : World → World → Path → Type 0
IsSameUnder w v p = (q : Path) → is_at_or_under q p ≡ true → reading (v.nodes q) ≡ reading (w.nodes q)

-- Then the same is seen there.
abbrev pub SameIsSeen : Type 0
SameIsSeen =
    (read : List ℕ → Option Record) (w v : World) (p : Path) →
    IsFormed w → IsFormed v → IsSameUnder w v p → LooksSame (seen read w) (seen read v) p

-- Of all paths but these outputs the records and marks stand as they did, and no note has gone; and other outputs and the sources stand as they did.
pub record LeavesElse (w v : World) (jobs : Jobs) (paths : List Path) : Type 0 where
  pub records : (p : Path) → among paths p ≡ false → reading (v.nodes (record_place p)) ≡ reading (w.nodes (record_place p))
  pub marks : (p : Path) → among paths p ≡ false → reading (v.nodes (mark_place p)) ≡ reading (w.nodes (mark_place p))
  pub notes : (p : Path) → is_some (reading (w.nodes (note_place p))) ≡ true → is_some (reading (v.nodes (note_place p))) ≡ true
  pub outputs : (j : Job) → IsIn jobs.jobs j → (o : Out) → IsIn (outs_of j.recipe) o → among paths o.path ≡ false → IsSameUnder w v o.path
  pub sources : (p : Path) → among (told_sources jobs.makers) p ≡ true → IsSameUnder w v p

-- So the images differ at these paths and else by notes alone, where it is known of sources, of files at inputs and targets, and of what records need.
abbrev pub DiffersByPlaces : Type 0
DiffersByPlaces =
    (read : List ℕ → Option Record) (w v : World) (jobs : Jobs) (targets paths : List Path) →
    IsFormed w →
    IsFormed v →
    LeavesElse w v jobs paths →
    ((p : Path) → among (told_sources jobs.makers) p ≡ true → IsAside paths p) →
    ((p : Path) → among (told_sources jobs.makers) p ≡ true → is_covered (seen read v) p ≡ true → is_covered (seen read w) p ≡ true) →
    Each (λ (j : Job). Each (OnlyMakes (seen read w) (seen read v) paths) (in_paths j.recipe)) jobs.jobs →
    Each (OnlyMakes (seen read w) (seen read v) paths) targets →
    Each (λ (j : Job). Each (NeedsNoMore (seen read w) (seen read v) j) (in_paths j.recipe)) jobs.jobs →
    DiffersAt (seen read w) (seen read v) jobs targets paths

-- Looks leave what agrees.
abbrev pub LooksAgree : Type 0
LooksAgree =
    (act : Act) (read : List ℕ → Option Record) (settings : Settings) (b : Base) (w : World) (looks : List Event) →
    AreLooks false looks → Follows act w looks → IsAgreed (seen read w) settings b → IsAgreed (seen read (run w looks)) settings b
