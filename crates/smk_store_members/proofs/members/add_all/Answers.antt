use Rattle.std.proofs.Common.{◌++◌, ap, subst, ◌∙◌, take}
use Rattle.smk_store.proofs.Finding.{taken_next, all_taken}
use Rattle.smk_store_members.specs.Steps.{AreAllFound}
use Rattle.smk_store_members.proofs.Going.{added_next, refused_next, added_as, name_at}
use Rattle.smk_store_members.proofs.members.add_all.Goals as goal

pub returns-then-not-branch-clause-added : goal.returns-then-not-branch-clause-added
returns-then-not-branch-clause-added c = λ nodes g open_at walk at each.
    let names = c.args.names.now in
    let n = c.name-item.result in
    let text = c.as_str-in-loop-name.ensures.value ∙ c.in_ok-text.ensures ∙ ap (λ t. c.args.front.now ++ t) c.as_str.ensures in
    refused_next nodes c.args.path.now g open_at c.args.front.now c.args.walk.now.found c.loop-name.walk.found c.add.new.walk.found (take c.loop-name.name-index names) n at
    (name_at nodes g names c.loop-name.name-index n c.loop-name-test.true c.name-item.is each) (c.loop-name.invariant.added nodes g open_at walk at each)
    (added_as c.args.path.now c.as_str-in-loop-name.result.now (c.args.front.now ++ n.name) n.folder c.loop-name.walk.found c.add.new.walk.found _ _ text c.if-not-branch.true c.in_ok-add.ensures.added)

pub loop-name-preserved : goal.loop-name-preserved
loop-name-preserved c = record {
  kept = c.in_ok-add.ensures.kept;
  added = λ nodes g open_at walk at each.
      let names = c.args.names.now in
      let n = c.name-item.result in
      let text = c.as_str-in-loop-name.ensures.value ∙ c.in_ok-text.ensures ∙ ap (λ t. c.args.front.now ++ t) c.as_str.ensures in
      let h = added_next nodes c.args.path.now g open_at c.args.front.now c.args.walk.now.found c.loop-name.walk.found c.add.new.walk.found (take c.loop-name.name-index names) n at
      (name_at nodes g names c.loop-name.name-index n c.loop-name-test.true c.name-item.is each) (c.loop-name.invariant.added nodes g open_at walk at each)
      (added_as c.args.path.now c.as_str-in-loop-name.result.now (c.args.front.now ++ n.name) n.folder c.loop-name.walk.found c.add.new.walk.found _ _ text c.if-not-branch.false c.in_ok-add.ensures.added) in
      (h.0, subst (AreAllFound c.add.new.walk.found c.args.front.now) (taken_next names c.loop-name.name-index n c.loop-name-test.true c.name-item.is) h.1);
}

pub returns-clause-added : goal.returns-clause-added
returns-clause-added c = λ nodes g open_at walk at each.
    let h = c.loop-name.invariant.added nodes g open_at walk at each in
    (h.0, subst (AreAllFound c.loop-name.walk.found c.args.front.now) (all_taken c.args.names.now c.loop-name.name-index c.loop-name-test.false) h.1)
