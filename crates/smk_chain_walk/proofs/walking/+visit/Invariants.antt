use Rattle.std.proofs.Common.{map, take}
use Rattle.smk_choose.specs.Told.{told_by}
use Rattle.smk_chain_walk.specs.Stepping.{text_in}
use Rattle.smk_chain_walk.proofs.Visiting.{SoFar}
use Rattle.smk_chain_walk.proofs.walking.+visit.Given as goal

abbrev pub decreases-visit : goal.decreases-visit
decreases-visit l = l.depth

abbrev pub invariant-loop-want : goal.invariant-loop-want
invariant-loop-want l = SoFar l.query.flow.now (told_by l.query.sources.now) l.query.lists.now l.fn.reached l.reached l.path l.rule (map text_in (take l.want-index l.want-items))
