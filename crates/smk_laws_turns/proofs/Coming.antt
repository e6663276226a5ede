-- What holds of the world to which the events of a run have come.
use Rattle.std.proofs.Common.{ℕ, List, [], ◌∷◌, ◌++◌, sym, ◌∙◌, IsTrue, true≢false}
use Rattle.smk_base.specs.Path.{is_path}
use Rattle.smk_base.proofs.Places.{and_first}
use Rattle.smk_world.specs.declared.event.Event.{Event}
use Rattle.smk_world.specs.Folders.{IsTree}
use Rattle.smk_world.specs.World.{World, after, run}
use Rattle.smk_world.specs.Runs.{Follows}
use Rattle.smk_world.specs.Trees.{is_path_text, is_text}
use Rattle.smk_world.proofs.Runs.{follows_append}
use Rattle.smk_store.specs.Soundness.{Outside, SoundWorld}
use Rattle.smk_store.specs.Trust.{Versions, SumsDiffer}
use Rattle.smk_laws_protocol.specs.Protocol.{RunState, Runs, Step, Done, Next, eased, own}
use Rattle.smk_laws_protocol.specs.Midway.{Fits, IsTop, Midway, at_entry}
use Rattle.smk_laws_protocol.proofs.Basics.{each_in, each_on}
use Rattle.smk_laws_protocol.proofs.MidwayHolds.{holds_midway}
use Rattle.smk_safe.proofs.Kept.{within_outside}
use Rattle.smk_laws_job.specs.Laws.{HasOwnFolder}
use Rattle.smk_safe.proofs.Joining.{runs_then}
use Rattle.smk_laws_turns.specs.Following.{HasCome}

-- no child owns a place in the engine's folder, since what is owned is an output or a log, or under one
pub own_folder_free : (o : Outside) (entry : World) (H : Versions) (state : RunState) (w : World) → Midway o entry H state w → HasOwnFolder w
own_folder_free o entry H state w m q at is =
    let j = m.running q is in
    let paths = (each_in (Fits o entry (eased state) state.top w) state.jobs j.0 m.fits j.1).paths in
    true≢false (sym at ∙ within_outside q (own j.0) (each_on (λ p. IsTrue (is_path_text p)) (λ p. IsTrue (is_path p)) (λ p. and_first (is_path p) (is_text p))
    (own j.0) paths) j.3)

-- what reads after any event stands in folders
pub tree_after : (o : Outside) (w : World) (e : Event) (es : List Event) → Follows o.act w (e ∷ es) → IsTree (run w (e ∷ es))
tree_after o w e [] follows = follows.0.tree
tree_after o w e (f ∷ es) follows = tree_after o (after w e) f es follows.1

module _ (o : Outside) (entry : World) (H : Versions) (top : ℕ) (differ : SumsDiffer H) (sound : SoundWorld o entry H) (is_top : IsTop o entry top) where
  pub midway : (events : List Event) (state : RunState) → HasCome o entry top events state → Midway o entry H state (run entry events)
  midway events state h = holds_midway o entry H top events state differ sound is_top h.follows h.runs

pub come_on : (o : Outside) (entry : World) (top : ℕ) (events es : List Event) (state end : RunState) → HasCome o entry top events state
    → Follows o.act (run entry events) es → Runs o state (run entry events) es end → HasCome o entry top (events ++ es) end
come_on o entry top events es state end h follows runs =
    record {
      follows = follows_append o.act entry events es h.follows follows;
      runs = runs_then o end es (at_entry o top) state entry events h.runs runs;
    }

-- one step, and a run from there
pub step_then : (o : Outside) (s mid end : RunState) (w : World) (e : Event) (es : List Event) → Step o s w e mid → Runs o mid (after w e) es end →
    Runs o s w (e ∷ es) end
step_then o s mid end w e es step runs = Next s mid end w e es step runs

pub one_step : (o : Outside) (s end : RunState) (w : World) (e : Event) → Step o s w e end → Runs o s w (e ∷ []) end
one_step o s end w e step = Next s end end w e [] step (Done end (after w e))
