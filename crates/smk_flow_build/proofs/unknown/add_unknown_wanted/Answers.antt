use Rattle.std.proofs.Common.{◌≡◌, List, ◌++◌, ap, ◌∙◌}
use Rattle.smk_pattern.specs.Shapes.{Text}
use Rattle.smk_pattern.specs.Searching.{now_of}
use Rattle.smk_flow.specs.Checks.{names_of, unknown_in}
use Rattle.smk_flow_build.proofs.unknown.add_unknown_wanted.Goals as goal

pub returns : goal.returns
returns c =
    let old = now_of c.args.found.now.items in
    let known = now_of c.args.known.now in
    let g = c.args.gather.now in
    let listed = c.in_ok-both.ensures ∙ ap names_of c.as_str.ensures in
    let both : now_of c.deref.result.now ≡ names_of g.listed ++ known =
    ap now_of c.deref.ensures.value ∙ c.in_ok-add_names.ensures ∙ ap (λ (ns : List Text). ns ++ known) listed in
    c.in_ok-add_unknown_in.ensures
    ∙ ap (λ (ks : List Text). old ++ unknown_in ks (names_of c.as_str-2.result.now)) both
    ∙ ap (λ (t : Text). old ++ unknown_in (names_of g.listed ++ known) (names_of t)) c.as_str-2.ensures
