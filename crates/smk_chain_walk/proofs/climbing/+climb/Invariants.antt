use Rattle.std.proofs.Common.{◌*◌, ◌+◌, ◌≤◌, drop}
use Rattle.smk_choose.specs.Told.{told_by}
use Rattle.smk_chain_walk.specs.Heights.{AreHeights}
use Rattle.smk_chain_walk.proofs.Climbed.{Reaches}
use Rattle.smk_chain_walk.proofs.climbing.+climb.Given as goal

abbrev pub decreases-climb : goal.decreases-climb
decreases-climb a = 4 * a.left

abbrev pub decreases-climb_job : goal.decreases-climb_job
decreases-climb_job a = 4 * a.left + 3

abbrev pub decreases-climb_files : goal.decreases-climb_files
decreases-climb_files a = 4 * a.left + 2

abbrev pub decreases-climb_all : goal.decreases-climb_all
decreases-climb_all a = 4 * a.left + 1

abbrev pub invariant-climb_all-loop-path : goal.invariant-climb_all-loop-path
invariant-climb_all-loop-path l = record {
  known : AreHeights l.query.flow.now (told_by l.query.sources.now) l.query.lists.now l.heights;
  within : l.height ≤ l.left;
  reaches : Reaches l.query.flow.now (told_by l.query.sources.now) l.query.lists.now l.paths (drop l.path-index l.paths) l.height;
}
