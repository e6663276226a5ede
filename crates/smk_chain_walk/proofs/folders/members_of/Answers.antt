use Rattle.std.proofs.Common.{◌≡◌, ◌+◌, ◌-◌, ◌∙◌, ◌∷◌, List, drop, arith, ap, subst, sym, map, option_map}
use Rattle.std.specs.Prelude.{bytes_eq}
use Rattle.std.specs.BTreeMap.{get_by_text}
use Rattle.std.specs.BTreeSet.{contains_text}
use Rattle.std.specs.List.{find}
use Rattle.std.proofs.lemmas.List.{drop_more}
use Rattle.smk_world.specs.Calls.{in_folder}
use Rattle.smk_world.specs.Trees.{Path, among}
use Rattle.smk_chain.specs.declared.jobs.Known.{Known}
use Rattle.smk_chain_walk.specs.Folders.{is_file}
use Rattle.smk_chain_walk.proofs.Missing.{file_step}
use Rattle.smk_chain_walk.proofs.folders.members_of.Goals as goal

pub lists-preserved : goal.lists-preserved
lists-preserved c =
    let lists = c.args.lists.now in
    let n = c.lists.number - 1 in
    let some : n + 1 ≡ c.lists.number = omega arith in
    let known = c.index-lists-number.result in
    let split : known ∷ drop c.lists.number lists ≡ drop n lists =
    ap (λ m. known ∷ drop m lists) (sym some) ∙ ap (λ (k : Known). k ∷ drop (n + 1) lists) c.index-lists-number.is ∙ sym (drop_more lists n known (omega arith)) in (
      omega arith,
      λ folder p. subst (λ (ks : List Known). option_map (λ set. contains_text set p) (get_by_text c.put.new.members folder) ≡ is_file folder p (find (λ (k : Known). bytes_eq k.folder folder) ks)) split
          (file_step known (drop c.lists.number lists) _ (λ s q. contains_text s q) c.in_ok-set.set (λ q. get_by_text c.lists.members q) (λ q. get_by_text c.put.new.members q)
          (λ q. c.in_ok-set.ensures q ∙ ap (λ (fs : List Path). among (map (in_folder known.folder) fs) q) c.as_slice.ensures) (λ q. c.in_ok-put.ensures q) c.lists.invariant.1 folder p),
    )
