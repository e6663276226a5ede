use Rattle.std.proofs.Common.{◌+◌, ◌++◌, ap, ◌∙◌}
use Rattle.smk_gen.specs.Files.{sample_text}
use Rattle.smk_gen.proofs.Numbers.{list_more}
use Rattle.smk_gen.proofs.texts.sample_list.Goals as goal

pub loop-before-preserved : goal.loop-before-preserved
loop-before-preserved c =
    c.in_ok-push_sample.ensures
    ∙ ap (λ text. text ++ sample_text (c.loop-before.before + 1)) c.loop-before.invariant
    ∙ list_more c.loop-before.before
