use Rattle.std.proofs.Common.{rules, ◌≡◌, ◌∙◌, Some, None, option_map, ap, sym}
use Rattle.std.specs.BTreeMap.{get_by_text}
use Rattle.std.specs.BTreeSet.{contains_text}
use Rattle.smk_chain_walk.proofs.Missing.{lacks_is}
use Rattle.smk_chain_walk.proofs.folders.Folders.lacks.Goals as goal

pub returns-in-Some : goal.returns-in-Some
returns-in-Some c = λ flow L a.
    let folder = c.args.folder.now in
    let p = c.args.path.now in
    let got : get_by_text c.args.self.now.members folder ≡ Some c.in-Some.files.now = search rules in
    let has : contains_text c.in-Some.files.now p ≡ c.contains.result = search rules in
    lacks_is L folder p (Some c.contains.result) (ap Some (sym has) ∙ ap (option_map (λ set. contains_text set p)) (sym got) ∙ a.members folder p)

pub returns-in-None : goal.returns-in-None
returns-in-None c = λ flow L a.
    let folder = c.args.folder.now in
    let p = c.args.path.now in
    let got : get_by_text c.args.self.now.members folder ≡ None = search rules in
    lacks_is L folder p None (ap (option_map (λ set. contains_text set p)) (sym got) ∙ a.members folder p)
