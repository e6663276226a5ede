use Rattle.std.proofs.Common.{subst, ◌∙◌}
use Rattle.std.specs.Str.{IsUtf8}
use Rattle.smk_record.proofs.Lists.{path_text}
use Rattle.smk_plan_look.proofs.Held.{added_one}
use Rattle.smk_plan_look.proofs.paths.add.Goals as goal

pub returns : goal.returns
returns c =
    added_one c.args.paths.now c.insert.new.self _ c.args.path.now (c.in_ok-key.ensures.ok ∙ c.as_str.ensures.text)
    (path_text c.args.path.now c.as_str.ensures.is_path (subst IsUtf8 c.as_str.ensures.text c.as_str.utf8)) c.in_ok-insert.ensures.updates
