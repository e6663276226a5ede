-- What the turn of a job leaves.
use Rattle.std.specs.Prelude.{◌≡◌, ℕ, Bool, true, false, List, [], Option, Some, None, IsTrue}
use Rattle.std.specs.List.{flat_map, list_any}
use Rattle.smk_base.specs.Path.{is_path, own_folder, is_at_or_under, overlaps}
use Rattle.smk_base.specs.Place.{record_place, mark_place}
use Rattle.smk_base.specs.declared.tree.Tree.{Tree}
use Rattle.smk_world.specs.declared.event.Event.{Event}
use Rattle.smk_world.specs.declared.event.Node.{Node}
use Rattle.smk_world.specs.declared.event.Node.TheVariants.{Regular}
use Rattle.smk_world.specs.declared.event.NodeState.{NodeState}
use Rattle.smk_world.specs.declared.recipe.Out.{Out}
use Rattle.smk_world.specs.World.{World, run, reading, firmly, is_within, is_above, in_paths, out_paths, owned_paths}
use Rattle.smk_world.specs.Calls.{HasOwners, ContentsAre, OutputsAre, are_apart}
use Rattle.smk_world.specs.Runs.{Follows}
use Rattle.smk_world.specs.Trees.{Path, Act, Each, outs_of}
use Rattle.smk_record.specs.declared.record.Member.{Member}
use Rattle.smk_record.specs.Records.{record_of}
use Rattle.smk_record.specs.Spelling.{spelling}
use Rattle.smk_job.specs.Sights.{IsOfKind}
use Rattle.smk_run.specs.Stamps.{Serials}
use Rattle.smk_run.specs.Turns.{Turn, found, IsTurn, AreTurns, is_done}

-- the outputs and logs of the job whose turn it is
abbrev pub owned : Turn → List Path
owned t = owned_paths t.job.recipe t.job.logs

-- A turn may come: no child runs, nothing is owned, and the job's outputs and logs are users' paths that don't overlap one another.
pub record MayCome (t : Turn) (w : World) : Type 0 where
  pub none_runs : w.children ≡ []
  pub owners : HasOwners w
  pub users : Each (λ p. IsTrue (is_path p)) (owned t)
  pub apart : are_apart (owned t) ≡ true

-- the job's inputs are users' paths, and overlap none of its outputs and logs
abbrev pub AreInputsApart : Turn → Type 0
AreInputsApart t = Each (λ p. (is_at_or_under p own_folder ≡ false) × (list_any (overlaps p) (owned t) ≡ false)) (in_paths t.job.recipe)

-- ## What a turn leaves alone

-- Outside of the engine's own folder nothing changes but at and under these places, and folders that are made or made firm above them.
pub record KeepsElse (places : List Path) (w v : World) : Type 0 where
  pub elsewhere : (q : Path) → is_at_or_under q own_folder ≡ false → is_within q places ≡ false → is_above q places ≡ false → v.nodes q ≡ w.nodes q
  pub above : (q : Path) (n : Node) → is_at_or_under q own_folder ≡ false → is_within q places ≡ false → reading (w.nodes q) ≡ Some n → reading (v.nodes q) ≡ Some n

-- A turn, however far it came, changes nothing else than what is at and under the outputs and logs of its job.
abbrev pub TurnKeepsElse : Type 0
TurnKeepsElse = (made : Serials) (t : Turn) (w : World) (es : List Event) → w.children ≡ [] → IsTurn made t w es → KeepsElse (owned t) w (run w es)

-- So do turns one after another.
abbrev pub TurnsKeepElse : Type 0
TurnsKeepElse = (made : Serials) (ts : List Turn) (w : World) (es : List Event) → w.children ≡ [] → AreTurns made ts w es → KeepsElse (flat_map owned ts) w (run w es)

-- ## What a turn leaves that is done

-- a crash leaves just what reads there
abbrev pub IsFirm : NodeState → Type 0
IsFirm s = (n : Option Node) × (s ≡ firmly n)

-- The output is of its kind, and its record stands firmly, with its members where it is a directory.
pub record IsRecorded (t : Turn) (v : World) (out : Out) : Type 0 where
  pub members : List Member
  pub kind : IsOfKind v.nodes out.path out.kind members
  pub time : ℕ
  pub read_only : Bool
  pub stands : v.nodes (record_place out.path) ≡ firmly (Some (Regular (spelling (record_of out.path t.made t.job.recipe (found t.looked) members)) time read_only))

-- A turn that is done, of a job whose turn came in the world w, left the world v.
pub record HasLeft (act : Act) (t : Turn) (w v : World) : Type 0 where
  -- no child runs, and nothing is owned
  pub none_runs : v.children ≡ []
  pub owners : HasOwners v
  -- the outputs are what the command makes of its inputs' contents
  pub given : AreInputsApart t → (trees : List Tree) → ContentsAre w t.job.recipe trees
      → ((act t.job.recipe trees).status ≡ 0) × OutputsAre v t.job.recipe (act t.job.recipe trees).outputs
  -- all that is at and under them is firm
  pub settled : (q : Path) → is_within q (out_paths t.job.recipe) ≡ true → IsFirm (v.nodes q)
  -- each is recorded
  pub recorded : Each (IsRecorded t v) (outs_of t.job.recipe)
  -- and none is marked
  pub unmarked : Each (λ p. v.nodes (mark_place p) ≡ firmly None) (out_paths t.job.recipe)

abbrev pub DoneTurnLeaves : Type 0
DoneTurnLeaves =
    (act : Act) (made : Serials) (t : Turn) (w : World) (es : List Event) →
    MayCome t w → Follows act w es → IsTurn made t w es → is_done t.course ≡ true → HasLeft act t w (run w es)
