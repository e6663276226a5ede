use Rattle.std.proofs.Common.{subst}
use Rattle.std.specs.Str.{IsUtf8}
use Rattle.smk_record.proofs.Lists.{path_text}
use Rattle.smk_plan_table.proofs.current.see_text.Goals as goal

pub returns : goal.returns
returns c = path_text c.args.path.now c.as_str-text.ensures.is_path (subst IsUtf8 c.as_str-text.ensures.text c.as_str-text.utf8)
