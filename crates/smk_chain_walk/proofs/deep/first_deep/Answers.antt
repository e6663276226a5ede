use Rattle.std.proofs.Common.{◌∙◌, ◌==◌, Bool, List, Some, ap, sym, subst}
use Rattle.std.specs.List.{find}
use Rattle.smk_world.specs.Trees.{Path}
use Rattle.smk_choose.specs.Told.{told_by, Covers, CoversAll}
use Rattle.smk_chain.specs.Derive.{height}
use Rattle.smk_chain_walk.proofs.Tops.{all_at, no_more, found_here, found_later}
use Rattle.smk_chain_walk.proofs.deep.first_deep.Goals as goal

pub is_deep-requires-clause-covered : goal.is_deep-requires-clause-covered
is_deep-requires-clause-covered c =
    let flow = c.args.flow.now in
    let sources = told_by c.args.sources.now in
    let covers = subst (λ (ps : List Path). CoversAll flow sources c.args.table.now 201 ps) (sym c.as_slice-target-items.ensures) c.requires.covered in
    all_at (Covers flow sources c.args.table.now 201) c.as_slice-target-items.result.now c.loop-target.target-index c.target-item.result covers c.loop-target-test.true c.target-item.is

pub returns-then-branch : goal.returns-then-branch
returns-then-branch c =
    let f : Path → Bool = λ p. height c.args.flow.now (told_by c.args.sources.now) c.args.lists.now 201 p == 201 in
    let items = c.as_slice-target-items in
    ap Some c.in_ok-copy.ensures
    ∙ sym (found_here f items.result.now c.loop-target.target-index c.target-item.result c.loop-target-test.true c.target-item.is (sym c.in_ok-is_deep.ensures.is ∙ c.if-branch.true))
    ∙ sym c.loop-target.invariant.rest
    ∙ ap (find f) items.ensures

pub loop-target-preserved : goal.loop-target-preserved
loop-target-preserved c =
    let f : Path → Bool = λ p. height c.args.flow.now (told_by c.args.sources.now) c.args.lists.now 201 p == 201 in
    record {
      known = c.in_ok-is_deep.ensures.known;
      rest = c.loop-target.invariant.rest
          ∙ found_later f c.as_slice-target-items.result.now c.loop-target.target-index c.target-item.result c.loop-target-test.true c.target-item.is
          (sym c.in_ok-is_deep.ensures.is ∙ c.if-branch.false);
    }

pub returns : goal.returns
returns c =
    let f : Path → Bool = λ p. height c.args.flow.now (told_by c.args.sources.now) c.args.lists.now 201 p == 201 in
    let items = c.as_slice-target-items in
    sym (c.loop-target.invariant.rest ∙ ap (find f) (no_more items.result.now c.loop-target.target-index c.loop-target-test.false)) ∙ ap (find f) items.ensures
