use Rattle.std.proofs.Common.{◌≡◌, Some, option_map, option_and_then, ap, sym, ◌∙◌}
use Rattle.serde_json.specs.View.{view}
use Rattle.serde_json.proofs.Views.{view-lookup}
use Rattle.smk_config.specs.Settings.{under}
use Rattle.smk_config.proofs.config.found.Goals as goal

pub returns-in-Some : goal.returns-in-Some
returns-in-Some c =
    let looked = sym (view-lookup c.as_str.result.now c.args.members.now.entries) ∙ ap (option_map view) (sym (rw c.in-Some.is at c.get.ensures.value)) in
    c.within.ensures ∙ ap (option_and_then (under c.args.rest.now)) (sym (rw c.as_str.ensures at looked))

pub returns-in-None : goal.returns-in-None
returns-in-None c =
    let looked = sym (view-lookup c.as_str.result.now c.args.members.now.entries) ∙ ap (option_map view) (sym (rw c.in-None.is at c.get.ensures.value)) in
    ap (option_and_then (under c.args.rest.now)) (sym (rw c.as_str.ensures at looked))
