use Rattle.std.proofs.Common.{◌≡◌, ◌∙◌, List, ap, subst, IfOk}
use Rattle.std.specs.List.{flat_map}
use Rattle.smk_world.specs.Trees.{Path}
use Rattle.smk_world.specs.World.{folders_above}
use Rattle.smk_choose.specs.declared.choice.Making.{Making}
use Rattle.smk_choose.specs.Readings.{by_folders}
use Rattle.smk_choose.specs.Index.{directories_at}
use Rattle.smk_choose.proofs.Tried.{all_members}
use Rattle.smk_choose.proofs.candidates.members.Goals as goal

pub returns : goal.returns
returns c =
    let readings = c.args.readings.now in
    let same =
    ap (λ (fs : List Path). flat_map (λ n. by_folders n (directories_at readings n) fs) c.args.numbers.now) (c.deref.ensures.value ∙ c.in_ok-folders.ensures)
    ∙ all_members readings (folders_above c.args.path.now) c.args.numbers.now c.requires in
    subst (λ (ms : List Making). IfOk c.members_by.result (λ found. found.items ≡ ms)) same c.members_by.ensures
