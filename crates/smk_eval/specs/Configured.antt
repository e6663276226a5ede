-- Configurations that the code holds.
use Rattle.std.specs.Prelude.{◌≡◌, true, Result, Ok, Err}
use Rattle.serde_json.specs.Data.{Members}
use Rattle.smk_config.specs.declared.config.Config.{Config}
use Rattle.smk_config.specs.Settings.{members}
use Rattle.smk_flaws.specs.declared.fault.LoadFault.{LoadFault}
use Rattle.smk_eval.specs.Faults.{is_told}

-- The answer is what is meant, unless the device failed or memory was short.
abbrev pub Configures : Result Config LoadFault → Result Members LoadFault → Type 0
Configures (Ok config) meant = meant ≡ Ok (members config)
Configures (Err f) meant = is_told f ≡ true → meant ≡ Err f
