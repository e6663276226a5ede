use Rattle.std.proofs.Common.{subst}
use Rattle.std.specs.Str.{IsUtf8}
use Rattle.smk_record.proofs.Lists.{path_text}
use Rattle.smk_drive_more.proofs.sources.text_of.Goals as goal

pub returns-clause-text : goal.returns-clause-text
returns-clause-text c = path_text c.args.path.now c.as_str.ensures.is_path (subst IsUtf8 c.as_str.ensures.text c.as_str.utf8)
