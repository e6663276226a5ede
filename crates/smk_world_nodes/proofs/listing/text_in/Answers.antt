use Rattle.std.proofs.Common.{rules, ◌≡◌, ◌==◌, false}
use Rattle.std.specs.List.{list_any}
use Rattle.smk_world_nodes.proofs.Lists.{text_yes, text_no}
use Rattle.smk_world_nodes.proofs.listing.text_in.Goals as goal

pub returns-in_ok-of-in-Ok : goal.returns-in_ok-of-in-Ok
returns-in_ok-of-in-Ok c =
    let none : list_any (λ b. b == 10) c.args.name.now ≡ false = search rules in
    let same : c.in_ok-of-in-Ok.field-0 ≡ c.args.name.now = search rules in
    text_yes c.args.name.now c.in_ok-of-in-Ok.field-0 c.in-Ok.ensures.cases.1 none same

pub returns-in-Err : goal.returns-in-Err
returns-in-Err c = text_no c.args.name.now c.in-Err.ensures.cases.0
