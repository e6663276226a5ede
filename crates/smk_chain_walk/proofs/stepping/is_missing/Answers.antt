use Rattle.std.proofs.Common.{◌≡◌, ◌∙◌, false, List, [], Option, Some, None, refl, sym, ap}
use Rattle.smk_world.specs.declared.recipe.OutItem.{OutItem}
use Rattle.smk_world.specs.Trees.{Path, folder_over}
use Rattle.smk_flow.specs.declared.job.Job.{Job}
use Rattle.smk_chain.specs.Derive.{Listings, is_missing, recipe}
use Rattle.smk_chain_walk.specs.Stepping.{over_in, outs_in}
use Rattle.smk_chain_walk.proofs.stepping.is_missing.Goals as goal

none_missing : (L : Listings) (p : Path) (o : Option Path) → L ≡ [] → false ≡ is_missing L p o
none_missing L p None e = refl
none_missing L p (Some f) e = ap (λ (K : Listings). is_missing K p (Some f)) (sym e)

pub returns-then-is_empty : goal.returns-then-is_empty
returns-then-is_empty c = λ sources p d e is. none_missing c.args.lists.now c.args.path.now (folder_over (recipe c.args.flow.now c.args.lists.now d) c.args.path.now) (c.is_empty.ensures.0 c.if-is_empty.true)

pub returns-in-Some : goal.returns-in-Some
returns-in-Some c = λ sources p d e is.
    let q = c.args.path.now in
    let over : Some c.in-Some.folder.now ≡ folder_over (recipe c.args.flow.now c.args.lists.now d) q =
    c.in-Some.ensures ∙ ap (λ (is : List OutItem). over_in (outs_in is) q) (c.as_slice.ensures ∙ ap (λ (j : Job). j.recipe.outputs) (c.in_ok-job.ensures sources p d e is)) in
    c.lacks.ensures c.args.flow.now c.args.lists.now c.requires.folders ∙ ap (is_missing c.args.lists.now q) over

pub returns : goal.returns
returns c = λ sources p d e is.
    let q = c.args.path.now in
    let over : None ≡ folder_over (recipe c.args.flow.now c.args.lists.now d) q =
    c.in-None.ensures ∙ ap (λ (is : List OutItem). over_in (outs_in is) q) (c.as_slice.ensures ∙ ap (λ (j : Job). j.recipe.outputs) (c.in_ok-job.ensures sources p d e is)) in
    ap (is_missing c.args.lists.now q) over
