use Rattle.smk_world_mem.proofs.Crashes.{agrees_led, orderly_led, rooted_led, caused_led}
use Rattle.smk_world_mem.proofs.work.MemWork.gone_on.Goals as goal

pub invariant_of-result : goal.invariant_of-result
invariant_of-result c =
    let nodes = c.args.image.nodes in
    let steps = c.args.image.steps in record {
      agrees = agrees_led c.args.told nodes steps c.requires;
      orderly = orderly_led c.args.told nodes steps c.requires _ c.new-4.ensures;
      rooted = rooted_led c.args.told nodes steps c.requires;
      caused = caused_led c.args.told nodes steps c.requires _ _ _;
    }
