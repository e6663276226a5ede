use Rattle.smk_job.specs.Views.{core}
use Rattle.smk_job.proofs.Viewing.{listed_badly, listed_short, listed_none, listed_well}
use Rattle.smk_job.proofs.folders.look_into.Goals as goal

pub returns-in_err-members_of : goal.returns-in_err-members_of
returns-in_err-members_of g c =
    let r = c.args.ready.now in
    listed_badly g.W.Files.act _ _ (core r.recipe r.stamps r.made) c.args.path.now _ c.from_residual.result c.from_residual.ensures.1 c.in_err-members_of.ensures.listings.acted

pub returns-in_err-sight_of-in-Members : goal.returns-in_err-sight_of-in-Members
returns-in_err-sight_of-in-Members g c =
    let r = c.args.ready.now in
    listed_short g.W.Files.act _ _ (core r.recipe r.stamps r.made) c.args.path.now c.from_residual-in_err-sight_of-in-Members.result c.from_residual-in_err-sight_of-in-Members.ensures.1 c.in_ok-members_of.ensures.listings.acted

pub returns-in-BadMember : goal.returns-in-BadMember
returns-in-BadMember g c =
    let r = c.args.ready.now in
    listed_none g.W.Files.act _ _ (core r.recipe r.stamps r.made) c.args.path.now c.in_ok-members_of.field-0 c.in-BadMember.is c.in_ok-members_of.ensures.listings.acted c.in_ok-members_of.ensures.told

pub returns-in_ok-sight_of-in-Members : goal.returns-in_ok-sight_of-in-Members
returns-in_ok-sight_of-in-Members g c =
    let r = c.args.ready.now in
    listed_well g.W.Files.act _ _ (core r.recipe r.stamps r.made) c.args.path.now c.in_ok-members_of.field-0 c.in-Members.members c.in_ok-sight_of-in-Members.field-0 c.in-Members.is
    c.in_ok-sight_of-in-Members.ensures c.requires.folder c.requires.valid c.in_ok-members_of.ensures.listings.acted c.in_ok-members_of.ensures.told
