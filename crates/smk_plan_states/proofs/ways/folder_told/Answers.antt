use Rattle.std.proofs.Common.{◌∙◌, ap, sym, option_map}
use Rattle.std.specs.Borrow.{Bor}
use Rattle.std.specs.Option.{option_and_then}
use Rattle.smk_chain.specs.declared.jobs.Maker.{Maker}
use Rattle.smk_plan_states.specs.declared.folders.Folder.{Folder}
use Rattle.smk_plan_states.specs.Lines.{maker_to}
use Rattle.smk_plan_states.specs.Ways.{folder_in}
use Rattle.smk_plan_states.proofs.LookUps.{folder_by_maker, option_twice}
use Rattle.smk_plan_states.proofs.ways.folder_told.Goals as goal

pub returns : goal.returns
returns c = λ J ways.
    sym (option_twice (λ (f : Folder). f.path) (λ (f : Bor Folder). f.now) c.over_maker.result)
    ∙ ap (option_map (λ (f : Folder). f.path))
    (c.over_maker.ensures
    ∙ (λ i. option_and_then (λ (m : Maker). folder_in (ways.folders i) m.job m.path) (c.maker_to.ensures J ways i)))
    ∙ folder_by_maker J.jobs (maker_to J c.args.path.now)
