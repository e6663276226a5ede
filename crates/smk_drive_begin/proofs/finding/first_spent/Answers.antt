use Rattle.std.proofs.Common.{◌∙◌, ap, List}
use Rattle.smk_world.specs.Trees.{Path, first}
use Rattle.smk_drive_begin.proofs.finding.first_spent.Goals as goal

pub returns : goal.returns
returns c =
    record {
      wholes = c.in_ok-paths.ensures.wholes;
      whole = c.in_ok-paths.ensures.whole;
      paths = c.in_ok-paths.paths;
      spent = c.in_ok-paths.ensures.spent;
      first_one = c.in_ok-found.ensures ∙ ap (λ (ps : List Path). first ps) c.as_slice.ensures;
    }
