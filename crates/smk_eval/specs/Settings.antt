-- What stands under keys of the configuration.
use Rattle.std.specs.Prelude.{ℕ, List, [], ◌∷◌, ◌++◌, Option, Some, None, Ok, Err}
use Rattle.serde_json.specs.Data.{Data, object, Members}
use Rattle.smk_config.specs.declared.value.Value.{Value as Setting}
use Rattle.smk_config.specs.declared.value.Value.TheVariants as of_config
use Rattle.smk_config.specs.Settings.{under, given}
use Rattle.smk_eval_values.specs.declared.value.Value.TheVariants.{Word, Many}
use Rattle.smk_eval_values.specs.declared.fault.ValueFault.TheVariants.{NoKey, BadConfig}
use Rattle.smk_eval_values.specs.Expressions.{Valued}

-- keys that follow a key, each behind a point
abbrev pub more_keys : List (List ℕ) → List ℕ
more_keys [] = []
more_keys (key ∷ keys) = 46 ∷ (key ++ more_keys keys)

-- keys, with points between them
abbrev pub joined : List (List ℕ) → List ℕ
joined [] = []
joined (key ∷ keys) = key ++ more_keys keys

abbrev pub as_value : List (List ℕ) → Option Setting → Valued
as_value keys None = Err (BadConfig (joined keys))
as_value keys (Some (of_config.Word t)) = Ok (Word t)
as_value keys (Some (of_config.Many ts)) = Ok (Many ts)

abbrev pub found_value : List (List ℕ) → Option Data → Valued
found_value keys None = Err (NoKey (joined keys))
found_value keys (Some value) = as_value keys (given value)

-- the value under these keys
abbrev pub config_value : Members → List (List ℕ) → Valued
config_value members keys = found_value keys (under keys (object members))
