-- What turns leave that are all done, one after another.
use Rattle.std.specs.Prelude.{◌≡◌, true, false, List, [], ◌∷◌, None, IsTrue}
use Rattle.std.specs.List.{list_any}
use Rattle.smk_base.specs.Path.{is_path, overlaps}
use Rattle.smk_base.specs.Place.{mark_place}
use Rattle.smk_base.specs.declared.tree.Tree.{Tree}
use Rattle.smk_world.specs.declared.event.Event.{Event}
use Rattle.smk_world.specs.World.{World, run, firmly, is_within, in_paths, out_paths}
use Rattle.smk_world.specs.Calls.{HasOwners, ContentsAre, OutputsAre, are_apart}
use Rattle.smk_world.specs.Runs.{Follows}
use Rattle.smk_world.specs.Trees.{Path, Act, Each, outs_of}
use Rattle.smk_run.specs.Stamps.{Serials}
use Rattle.smk_run.specs.Turns.{Turn, AreTurns, is_done}
use Rattle.smk_safe.specs.Leaving.{owned, AreInputsApart, IsFirm, IsRecorded}

-- its outputs and logs are users' paths that don't overlap one another
pub record IsOrderly (t : Turn) : Type 0 where
  pub users : Each (λ p. IsTrue (is_path p)) (owned t)
  pub apart : are_apart (owned t) ≡ true

-- The later job makes and logs nothing that overlaps what the job reads, makes or logs.
pub record LeavesAlone (t later : Turn) : Type 0 where
  pub inputs : Each (λ p. list_any (overlaps p) (owned later) ≡ false) (in_paths t.job.recipe)
  pub own : Each (λ p. list_any (overlaps p) (owned later) ≡ false) (owned t)

-- Each job is orderly; and neither it nor a later one makes or logs what overlaps its inputs, nor a later one what overlaps its outputs and logs.
abbrev pub AreArranged : List Turn → Type 0
AreArranged [] = Unit {0}
AreArranged (t ∷ ts) = IsOrderly t × AreInputsApart t × Each (LeavesAlone t) ts × AreArranged ts

-- The outputs of the job are what its command makes of its inputs' contents, both as they are in this world. All that is at and under them is
-- firm, their records stand, and none is marked.
pub record IsMade (act : Act) (v : World) (t : Turn) : Type 0 where
  pub given : (trees : List Tree) → ContentsAre v t.job.recipe trees → ((act t.job.recipe trees).status ≡ 0) × OutputsAre v t.job.recipe (act t.job.recipe trees).outputs
  pub settled : (q : Path) → is_within q (out_paths t.job.recipe) ≡ true → IsFirm (v.nodes q)
  pub recorded : Each (IsRecorded t v) (outs_of t.job.recipe)
  pub unmarked : Each (λ p. v.nodes (mark_place p) ≡ firmly None) (out_paths t.job.recipe)

-- After turns that are all done, each of the jobs is made; no child runs, and nothing is owned.
pub record HasMade (act : Act) (ts : List Turn) (v : World) : Type 0 where
  pub none_runs : v.children ≡ []
  pub owners : HasOwners v
  pub made : Each (IsMade act v) ts

abbrev pub DoneTurnsLeave : Type 0
DoneTurnsLeave =
    (act : Act) (made : Serials) (ts : List Turn) (w : World) (es : List Event) →
    w.children ≡ [] →
    HasOwners w →
    AreArranged ts →
    Follows act w es → AreTurns made ts w es → Each (λ (t : Turn). is_done t.course ≡ true) ts → HasMade act ts (run w es)
