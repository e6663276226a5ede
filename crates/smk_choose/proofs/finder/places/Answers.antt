use Rattle.std.proofs.Common.{◌≡◌, ◌∙◌, List, subst, IfOk}
use Rattle.smk_pattern.specs.Shapes.{Text}
use Rattle.smk_choose.proofs.Placed.{places_found, places_none}
use Rattle.smk_choose.proofs.finder.places.Goals as goal

pub returns-in-Some : goal.returns-in-Some
returns-in-Some c =
    let rules = c.as_slice.ensures ∙ c.rules.ensures.rules in
    let same = places_found c.args.flow.now c.args.job.now c.as_slice.result.now c.in-Some.rule.now rules c.in-Some.ensures.lookup.0 c.in-Some.ensures.lookup.1 in
    subst (λ (ts : List Text). IfOk c.filled_places.result (λ found. found ≡ ts)) same c.filled_places.ensures

pub returns-in-None : goal.returns-in-None
returns-in-None c =
    let rules = c.as_slice.ensures ∙ c.rules.ensures.rules in
    places_none c.args.flow.now c.args.job.now c.as_slice.result.now c.new.result rules c.in-None.ensures.lookup.0 c.new.ensures
