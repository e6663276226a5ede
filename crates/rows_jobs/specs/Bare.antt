-- Records before anything is known of what is under their outputs.
use Rattle.std.specs.Prelude.{◌≡◌, true, [], ◌∷◌}
use Rattle.smk_world.specs.World.{out_paths}
use Rattle.smk_record.specs.declared.record.Record.{Record}
use Rattle.smk_record.specs.Records.{is_valid}

-- A valid record in format 2 of the one output of its recipe, without members.
pub record IsBare (kept : Record) : Type 0 where
  pub valid : is_valid kept ≡ true
  pub format : kept.format ≡ 2
  pub none : kept.members ≡ []
  pub outs : out_paths kept.recipe ≡ kept.path ∷ []
