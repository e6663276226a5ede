use Rattle.std.proofs.Common.{◌≡◌, false, drop}
use Rattle.serde_json.specs.Data.{no_members}
use Rattle.smk_world.specs.Devices.{WhereTold, HasLooked}
use Rattle.smk_config.specs.Settings.{members}
use Rattle.smk_eval.specs.Loading.{configs}
use Rattle.smk_eval.proofs.configs.configs.Given as goal

abbrev pub invariant-loop-text : goal.invariant-loop-text
invariant-loop-text g l =
    let files = g.W.Files in record {
      looked : HasLooked files.act (files.device l.fn.work) (files.device l.work) false;
      told : WhereTold (files.device l.fn.work) (λ w. configs w.nodes (members l.config) (drop l.text-index l.texts) ≡ configs w.nodes no_members l.texts);
    }
