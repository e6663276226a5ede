use Rattle.std.proofs.Common.{◌≡◌, [], refl, ap, sym, ◌∙◌, arith}
use Rattle.serde_json.specs.Data.{object}
use Rattle.smk_config.specs.Settings.{members, under}
use Rattle.smk_config.proofs.Keys.{nothing}
use Rattle.smk_config.proofs.config.Config.get.Goals as goal

pub returns-in-empty-clause-bad : goal.returns-in-empty-clause-bad
returns-in-empty-clause-bad c =
    let value = object (members c.args.self.now) in
    let none : c.args.keys.now ≡ [] = sym c.as_slice.ensures ∙ nothing c.as_slice.result.now (omega arith) in
    λ e. (value, ap (λ keys. under keys value) none, refl)
