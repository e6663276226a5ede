use Rattle.std.proofs.Common.{◌≡◌, List, ◌++◌, ap, sym, ◌∙◌, append_assoc, Option}
use Rattle.std.specs.List.{flat_map}
use Rattle.smk_pattern.specs.Shapes.{Text}
use Rattle.smk_pattern.specs.Searching.{now_of}
use Rattle.smk_flow.specs.declared.rule.GatherPart.{GatherPart}
use Rattle.smk_flow.specs.Checks.{names_of, unknown_in, wanted_unknown}
use Rattle.smk_flow_build.proofs.unknown.add_unknown_input.Goals as goal

pub returns-in_ok-add_unknown_wanted-in-Some : goal.returns-in_ok-add_unknown_wanted-in-Some
returns-in_ok-add_unknown_wanted-in-Some c =
    let old = now_of c.args.found.now.items in
    let known = now_of c.args.known.now in
    let g = c.in-Some.gather in
    let w = unknown_in (names_of g.listed ++ known) (names_of g.wanted) in
    let texts = flat_map (λ t. unknown_in known (names_of t)) c.args.item.now.texts in
    let first : now_of c.add_unknown_texts.new.found.items ≡ old ++ texts =
    c.in_ok-add_unknown_texts.ensures ∙ ap (λ (ts : List Text). old ++ flat_map (λ t. unknown_in known (names_of t)) ts) c.as_slice.ensures in
    c.in_ok-add_unknown_wanted-in-Some.ensures
    ∙ ap (λ (m : List Text). m ++ w) first
    ∙ append_assoc old texts w
    ∙ ap (λ (o : Option GatherPart). old ++ (texts ++ wanted_unknown known o)) (sym c.in-Some.is)
