use Rattle.std.proofs.Common.{List, ◌++◌, [], refl, ap, arith}
use Rattle.std.proofs.lemmas.Str.{IsCharBoundary-start}
use Rattle.smk_pattern.specs.declared.splitting.Written.{Written}
use Rattle.smk_pattern.specs.Reading.{pieces_from}
use Rattle.smk_pattern.specs.Splitting.{all_written}
use Rattle.smk_pattern.proofs.splitting.split.Goals as goal

pub loop-at-init : goal.loop-at-init
loop-at-init c = record {
  read = record {
    pieces = ap (λ (ws : List Written). all_written ws ++ pieces_from c.args.text.now 0 []) c.new.ensures.items;
    balanced = refl;
    begun = omega arith;
    boundary = IsCharBoundary-start _ c.utf8.text;
    open_braces = omega arith;
    utf8 = c.utf8.text;
  };
  text = refl;
}
