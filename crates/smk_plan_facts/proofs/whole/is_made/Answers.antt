use Rattle.std.proofs.Common.{ap, sym, ◌∙◌, bytes_eq}
use Rattle.std.specs.List.{find}
use Rattle.smk_base.specs.Path.{is_under}
use Rattle.smk_plan_facts.specs.declared.directories.Directory.{Directory}
use Rattle.smk_plan_facts.specs.Telling.{is_made_by, IsSorted}
use Rattle.smk_plan_facts.proofs.Tests.{each_found, find_passes}
use Rattle.smk_plan_facts.proofs.whole.is_made.Goals as goal

pub is_member-requires : goal.is_member-requires
is_member-requires g c =
    find_passes (λ (d : Directory). is_under c.args.path.now d.path) c.args.directories.now c.in-Some.directory.now (sym c.in-Some.ensures)

pub returns-in-Some : goal.returns-in-Some
returns-in-Some g c = λ sorted.
    let q = c.args.path.now in
    let ds = c.args.directories.now in
    c.is_member.ensures
    (λ told. each_found (IsSorted (g.T.Told.seen c.args.told.now)) (λ (d : Directory). is_under q d.path) ds c.in-Some.directory.now (sorted told) (sym c.in-Some.ensures))
    ∙ ap (is_made_by (g.T.Told.seen c.args.told.now) q (find (λ (d : Directory). bytes_eq d.path q) ds)) c.in-Some.ensures
