use Rattle.std.proofs.Common.{rules, ◌≡◌, Some, ap, ◌∙◌}
use Rattle.smk_world.specs.declared.event.Ended.{Ended}
use Rattle.smk_world.specs.World.{child_numbered}
use Rattle.smk_world_mem.proofs.Crewed.{child_apart}
use Rattle.smk_world_mem.proofs.Ends.{lets_waited, nodes_waited}
use Rattle.smk_world_mem.proofs.crew.wait.Goals as goal

child_is : (c : goal.After-drop-children) → child_numbered c.args.number c.args.children.now ≡ Some c.in-Some.child.now
child_is c = search rules

pub returns-in_ok-add_standing-in-Some-clause-adds : goal.returns-in_ok-add_standing-in-Some-clause-adds
returns-in_ok-add_standing-in-Some-clause-adds c =
    let ended : Ended = record { number = c.args.number; status = c.status_of.result } in record {
      left = c.in_ok-left-in-Some.left;
      steps_are = c.in_ok-add_standing-in-Some.ensures.ok;
      lets = λ w agrees fits.
          lets_waited w c.in-Some.child.now ended (ap (child_numbered c.args.number) fits.0 ∙ child_is c) c.args.killed c.args.nodes.now c.args.time c.in_ok-left-in-Some.left agrees
          c.in_ok-left-in-Some.ensures.left (child_apart c.args.number c.args.children.now c.in-Some.child.now fits.1 (child_is c)) (search rules);
      nodes_are = λ w agrees fits.
          nodes_waited w c.in-Some.child.now ended (ap (child_numbered c.args.number) fits.0 ∙ child_is c) c.args.nodes.now c.end.new.nodes c.in_ok-left-in-Some.left agrees
          c.in_ok-left-in-Some.ensures.nodes;
    }
