use Rattle.std.proofs.Common.{◌∙◌}
use Rattle.std.specs.BTreeSet.{contains_text}
use Rattle.smk_drive_pick.proofs.Listed.{listed_is}
use Rattle.smk_drive_pick.proofs.standing.are_listed.Goals as goal

pub returns : goal.returns
returns c =
    c.are_in-all.ensures
    ∙ listed_is (λ q. contains_text c.in_ok-folders.folders q) (λ q. contains_text c.in_ok-files.files q) c.args.listed.now c.args.members.now
    c.in_ok-folders.ensures c.in_ok-files.ensures
