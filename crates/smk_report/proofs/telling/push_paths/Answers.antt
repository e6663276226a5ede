use Rattle.std.proofs.Common.{◌∙◌, List, ◌++◌, ap, codes, string_bytes}
use Rattle.smk_report.specs.Lines.{Text, joined}
use Rattle.smk_report.proofs.Joining.{pushed, map_same}
use Rattle.smk_report.proofs.telling.push_paths.Goals as goal

pub returns-in_ok-push_later-in-Some : goal.returns-in_ok-push_later-in-Some
returns-in_ok-push_later-in-Some c =
    pushed (λ path. path) (codes " ") _ _ _ c.in-Some.first.now c.in-Some.rest.now c.args.paths.now
    c.in_ok-push_later-in-Some.ensures
    (c.in_ok-push_str-in-Some.ensures.bytes ∙ ap (λ (t : Text). string_bytes c.args.text.now ++ t) c.as_str.ensures.text)
    c.in-Some.ensures.cases.0
    ∙ ap (λ (ts : List Text). string_bytes c.args.text.now ++ joined (codes " ") ts) (map_same c.args.paths.now)
