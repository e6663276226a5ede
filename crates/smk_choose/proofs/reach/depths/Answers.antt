use Rattle.std.proofs.Common.{◌∙◌, List, ap}
use Rattle.smk_choose.specs.declared.nodes.Node.{Node}
use Rattle.smk_choose.specs.Heights.{reached}
use Rattle.smk_choose.proofs.Deep.{depths_are_avail}
use Rattle.smk_choose.proofs.reach.depths.Goals as goal

pub returns : goal.returns
returns c = λ flow sources m k n le lt s.
    c.in_ok-made.ensures m n lt ∙ ap (λ (ns : List Node). reached ns m n) c.deref.ensures.value ∙ depths_are_avail flow sources c.args.reach.now c.requires m k n le s
