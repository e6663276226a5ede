use Rattle.std.proofs.Common.{[], ap, ◌∙◌}
use Rattle.std.specs.BTreeMap.{is_at}
use Rattle.std.specs.Map.{lookup}
use Rattle.std.specs.Cmp.Lexicographic.{slice_cmp}
use Rattle.std.specs.Ordering.{nat_cmp}
use Rattle.smk_pattern.specs.Searching.{now_of}
use Rattle.smk_pattern.specs.Splitting.{all_written}
use Rattle.smk_pattern.proofs.Names.{names_from_none}
use Rattle.smk_pattern.proofs.by_name.names_in.Goals as goal

pub loop-piece-init : goal.loop-piece-init
loop-piece-init c = (
  [],
  record {
    list = ap now_of c.new.ensures.items;
    at = λ q. ap (lookup (is_at (λ k. slice_cmp nat_cmp q k.now))) c.new-2.ensures.empty;
  },
  names_from_none (all_written c.args.written.now),
)
