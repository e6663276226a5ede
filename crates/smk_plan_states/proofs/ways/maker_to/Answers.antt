use Rattle.std.proofs.Common.{◌∙◌, sym}
use Rattle.std.specs.List.{slice_get}
use Rattle.std.specs.Option.{option_and_then}
use Rattle.smk_plan_states.specs.Lines.{tells_of}
use Rattle.smk_plan_states.proofs.Numbers.{found_at}
use Rattle.smk_plan_states.proofs.ways.maker_to.Goals as goal

pub returns : goal.returns
returns c = λ J ways.
    c.maker_at.ensures
    ∙ (λ i. option_and_then (slice_get (ways.each_maker i)) (c.link_to.ensures J ways i))
    ∙ sym (found_at (tells_of c.args.path.now) J.makers)
