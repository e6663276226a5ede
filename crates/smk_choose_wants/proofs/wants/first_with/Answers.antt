use Rattle.std.proofs.Common.{◌∙◌, ◌++◌, List, map, ap, ap₂}
use Rattle.std.specs.List.{flat_map}
use Rattle.smk_pattern.specs.Reading.{fill}
use Rattle.smk_flow.specs.declared.rule.InPart.{InPart}
use Rattle.smk_choose_wants.specs.declared.wanted.Want.{Want}
use Rattle.smk_choose_wants.specs.Wants.{candidate_of, folder_in, want_of}
use Rattle.smk_choose_wants.proofs.Composed.{first_are}
use Rattle.smk_choose_wants.proofs.wants.first_with.Goals as goal

pub returns : goal.returns
returns c =
    let flow = c.args.flow.now in
    let m = c.args.making.now in
    let d = candidate_of m c.args.part.now in
    first_are flow d c.add_folders.new.found
    (c.in_ok-add_folders.ensures
    ∙ ap (λ (ws : List Want). ws ++ map want_of (flat_map (λ (i : InPart). folder_in flow d i.gather) d.part.inputs))
    (c.in_ok-add_inputs.ensures
    ∙ ap₂ (λ (ws : List Want) (is : List InPart). ws ++ map want_of (flat_map (λ (i : InPart). map (fill m.binding) i.texts) is)) c.new-found.ensures c.as_slice.ensures))
