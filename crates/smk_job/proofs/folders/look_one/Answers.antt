use Rattle.std.proofs.Common.{◌≡◌, subst, sym, ◌∙◌}
use Rattle.smk_job.specs.Views.{core, sight_of}
use Rattle.smk_job.proofs.Viewing.{view_blind, view_wrong, view_plain, view_short, view_folder}
use Rattle.smk_job.proofs.folders.look_one.Goals as goal

pub returns-in_err-stat : goal.returns-in_err-stat
returns-in_err-stat g c =
    let r = c.args.ready.now in
    view_blind g.W.Files.act _ _ (core r.recipe r.stamps r.made) c.args.out.now c.args.place.now _ c.from_residual.result c.requires.at c.from_residual.ensures.1 c.in_err-stat.ensures

pub returns-in_err-sight_of-in-Plain : goal.returns-in_err-sight_of-in-Plain
returns-in_err-sight_of-in-Plain g c =
    let r = c.args.ready.now in
    view_short g.W.Files.act _ _ (core r.recipe r.stamps r.made) c.args.out.now c.args.place.now c.in_ok-stat.stat c.from_residual-in_err-sight_of-in-Plain.result c.requires.at
    c.from_residual-in_err-sight_of-in-Plain.ensures.1 c.in_ok-stat.ensures

pub returns-in-Some : goal.returns-in-Some
returns-in-Some g c =
    let r = c.args.ready.now in
    view_wrong g.W.Files.act _ _ (core r.recipe r.stamps r.made) c.args.out.now c.args.place.now c.in_ok-stat.stat c.in-Some.wrong c.requires.at (sym c.wrong_of.ensures ∙ c.in-Some.is) c.in_ok-stat.ensures

pub returns-in_ok-sight_of-in-Plain : goal.returns-in_ok-sight_of-in-Plain
returns-in_ok-sight_of-in-Plain g c =
    let r = c.args.ready.now in
    view_plain g.W.Files.act _ _ (core r.recipe r.stamps r.made) c.args.out.now c.args.place.now c.in_ok-stat.stat c.in_ok-sight_of-in-Plain.field-0 c.requires.at (sym c.wrong_of.ensures ∙ c.in-None.is) c.in-Plain.is
    (subst (λ ms. c.in_ok-sight_of-in-Plain.field-0 ≡ sight_of (core r.recipe r.stamps r.made) c.args.out.now.path ms) c.new.ensures c.in_ok-sight_of-in-Plain.ensures) c.requires.valid c.in_ok-stat.ensures

pub returns-in-Folder : goal.returns-in-Folder
returns-in-Folder g c =
    let r = c.args.ready.now in
    view_folder g.W.Files.act _ _ _ (core r.recipe r.stamps r.made) c.args.out.now c.args.place.now c.in_ok-stat.stat c.look_into.result c.requires.at (sym c.wrong_of.ensures ∙ c.in-None.is) c.in-Folder.is c.in_ok-stat.ensures c.look_into.ensures
