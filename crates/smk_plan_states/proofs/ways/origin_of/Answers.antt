use Rattle.std.proofs.Common.{◌∙◌, ap, sym, option_map}
use Rattle.std.specs.Borrow.{Bor}
use Rattle.smk_plan_states.specs.declared.folders.Folder.{Folder}
use Rattle.smk_plan_states.specs.Ways.{folder_in}
use Rattle.smk_plan_states.proofs.LookUps.{place_by_number, option_twice}
use Rattle.smk_plan_states.proofs.ways.origin_of.Goals as goal

pub returns : goal.returns
returns c = λ J ways.
    let m = c.args.maker.now in
    let over =
    c.place_of.ensures
    ∙ sym (option_twice (λ (f : Folder). f.place) (λ (f : Bor Folder). f.now) c.folder_in-over.result)
    ∙ ap (option_map (λ (f : Folder). f.place))
    (c.folder_in-over.ensures ∙ (λ i. folder_in ((c.as_slice.ensures ∙ ways.folders) i) m.job m.path))
    ∙ place_by_number J.jobs m.job m.path in
    λ i. record { job = m.job; over = over i }
