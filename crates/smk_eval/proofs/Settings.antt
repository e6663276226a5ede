-- What stands under keys of the configuration, by what a look-up tells.
use Rattle.std.proofs.Common.{◌≡◌, ℕ, List, Option, Some, None, Ok, Err, ap, sym, ◌∙◌}
use Rattle.std.specs.Option.{option_and_then}
use Rattle.serde_json.specs.Data.{Data, Members, object}
use Rattle.smk_config.specs.declared.value.Value.{Value as Setting}
use Rattle.smk_config.specs.declared.value.Value.TheVariants as of_config
use Rattle.smk_config.specs.Settings.{under, given}
use Rattle.smk_eval_values.specs.declared.value.Value.TheVariants.{Word, Many}
use Rattle.smk_eval_values.specs.declared.fault.ValueFault.TheVariants.{NoKey, BadConfig}
use Rattle.smk_eval.specs.Settings.{joined, as_value, found_value, config_value}

found_is : (keys : List (List ℕ)) (o : Option Data) (v : Setting) → option_and_then given o ≡ Some v → found_value keys o ≡ as_value keys (Some v)
found_is keys None v h = cc
found_is keys (Some d) v h = ap (as_value keys) h

pub word : (config : Members) (keys : List (List ℕ)) (t : List ℕ) → option_and_then given (under keys (object config)) ≡ Some (of_config.Word t) → config_value config keys ≡ Ok (Word t)
word config keys t h = found_is keys (under keys (object config)) (of_config.Word t) h

pub many : (config : Members) (keys ts : List (List ℕ)) → option_and_then given (under keys (object config)) ≡ Some (of_config.Many ts) → config_value config keys ≡ Ok (Many ts)
many config keys ts h = found_is keys (under keys (object config)) (of_config.Many ts) h

pub no_key : (config : Members) (keys : List (List ℕ)) (t : List ℕ) → t ≡ joined keys → under keys (object config) ≡ None → config_value config keys ≡ Err (NoKey t)
no_key config keys t is h = ap (found_value keys) h ∙ ap (λ k. Err (NoKey k)) (sym is)

pub bad_config : (config : Members) (keys : List (List ℕ)) (t : List ℕ) → t ≡ joined keys → (value : Data) × (under keys (object config) ≡ Some value) × (given value ≡ None) → config_value config keys ≡ Err (BadConfig t)
bad_config config keys t is h = ap (found_value keys) h.1 ∙ ap (as_value keys) h.2 ∙ ap (λ k. Err (BadConfig k)) (sym is)
