use Rattle.std.proofs.Common.{◌≡◌, ◌++◌, drop, option_map}
use Rattle.serde_json.specs.View.{items_view}
use Rattle.smk_config.specs.Settings.{words}
use Rattle.smk_config.proofs.value.words_of.Given as goal

abbrev pub invariant-loop-value : goal.invariant-loop-value
invariant-loop-value l = words (items_view l.values) ≡ option_map (λ ws. l.texts ++ ws) (words (items_view (drop l.value-index l.values)))
