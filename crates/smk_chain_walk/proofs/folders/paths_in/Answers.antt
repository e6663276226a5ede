use Rattle.std.proofs.Common.{◌≡◌, ◌+◌, ◌-◌, ◌∙◌, ◌∷◌, List, drop, arith, ap, subst, sym, map}
use Rattle.std.specs.BTreeSet.{contains_text}
use Rattle.std.proofs.lemmas.List.{drop_more}
use Rattle.smk_world.specs.Calls.{in_folder}
use Rattle.smk_world.specs.Trees.{Path, among}
use Rattle.smk_chain_walk.proofs.Missing.{path_step}
use Rattle.smk_chain_walk.proofs.folders.paths_in.Goals as goal

pub files-preserved : goal.files-preserved
files-preserved c =
    let folder = c.args.folder.now in
    let files = c.args.files.now in
    let n = c.files.number - 1 in
    let some : n + 1 ≡ c.files.number = omega arith in
    let file = c.index-files-number.result in
    let split : file ∷ drop c.files.number files ≡ drop n files =
    ap (λ m. file ∷ drop m files) (sym some)
    ∙ ap (λ (f : Path). f ∷ drop (n + 1) files) c.index-files-number.is ∙ sym (drop_more files n file (omega arith)) in (
      omega arith,
      λ q. subst (λ (fs : List Path). contains_text c.add.new.found q ≡ among (map (in_folder folder) fs) q) split
          (path_step folder file (drop c.files.number files) (λ x. contains_text c.files.set x) (λ x. contains_text c.add.new.found x) (λ x. c.in_ok-add.ensures x) (c.files.invariant.1) q),
    )
