use Rattle.std.proofs.Common.{◌∙◌, rules, ap, map}
use Rattle.std.proofs.lemmas.Fn.{filter_same}
use Rattle.smk_world_real.proofs.Numbers.{map-filter_number}
use Rattle.smk_world_real.proofs.children.forget.Goals as goal

pub returns : goal.returns
returns g c = ap (map (λ r. r.number)) (filter_same _ _ _ (λ x b f' k. search rules) _ _ c.retain.ensures.filtered) ∙ map-filter_number _ c.args.number c.args.children.now.items
